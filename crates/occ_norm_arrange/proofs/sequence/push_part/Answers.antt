use Rattle.std.proofs.Common.{ap, subst, sym, ◌∙◌}
use Rattle.std.proofs.lemmas.Result.{on_ok_weaker}
use Rattle.occ_meaning.specs.Parallel.{one}
use Rattle.occ_syntax.proofs.Views.{tree-Seq}
use Rattle.occ_syntax.specs.Tree.{seq}
use Rattle.occ_syntax.specs.View.{in_procs, tree, trees}
use Rattle.occ_norm_arrange.specs.Arranged.{GoesOn}
use Rattle.occ_norm_arrange.proofs.StraightFlat.{goes_one, goes_seq}
use Rattle.occ_norm_arrange.proofs.Listed.{trees_pushed}
use Rattle.occ_norm_arrange.proofs.sequence.push_part.Goals as goal

pub returns-in-Seq : goal.returns-in-Seq
returns-in-Seq c =
    let e = ap tree c.in-Seq.is ∙ tree-Seq c.in-Seq.parts ∙ ap (λ ps. seq (trees ps)) (sym c.items.ensures) in
    on_ok_weaker c.push_all.result
    (λ a. subst (λ p. GoesOn (trees (in_procs c.args.list.now)) (one p) (trees (in_procs c.push_all.new.list))) (sym e) (goes_seq _ _ _ a))
    c.push_all.ensures

pub returns-in_ok-push-in_default : goal.returns-in_ok-push-in_default
returns-in_ok-push-in_default c =
    goes_one _ _ _ (trees_pushed (in_procs c.push.new.self) (in_procs c.args.list.now) c.in_ok-copy-in_default.field-0 (tree c.args.part.now) c.in_ok-push-in_default.ensures.ok c.in_ok-copy-in_default.ensures)
