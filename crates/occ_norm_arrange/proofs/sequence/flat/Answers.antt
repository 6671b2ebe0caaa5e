use Rattle.std.proofs.Common.{ap, subst, sym, ◌∙◌}
use Rattle.std.proofs.lemmas.Result.{IfOk-weaker}
use Rattle.occ_syntax.proofs.Views.{tree-Seq}
use Rattle.occ_syntax.specs.Tree.{no_tree}
use Rattle.occ_syntax.specs.View.{in_procs, trees}
use Rattle.occ_norm_arrange.specs.Arranged.{GoesOn}
use Rattle.occ_norm_arrange.proofs.StraightFlat.{all_gone, goes_more, goes_none, single_of_seq}
use Rattle.occ_norm_arrange.proofs.Itself.{arranged_copy}
use Rattle.occ_norm_arrange.proofs.Listed.{trees_more, trees_one}
use Rattle.occ_norm_arrange.proofs.sequence.flat.Goals as goal

pub loop-part-init : goal.loop-part-init
loop-part-init c = subst (λ xs. GoesOn no_tree no_tree (trees xs)) (sym c.new-list.ensures) (goes_none no_tree)

pub loop-part-preserved : goal.loop-part-preserved
loop-part-preserved c =
    subst (λ ps. GoesOn no_tree ps (trees (in_procs c.push_part.new.list))) (sym (trees_more c.args.parts.now c.loop-part.part-index c.part-item.result c.loop-part-test.true c.part-item.is))
    (goes_more _ _ _ _ _ c.loop-part.invariant c.in_ok-push_part.ensures)

pub returns-then-items-eq1 : goal.returns-then-items-eq1
returns-then-items-eq1 c =
    IfOk-weaker c.copy.result _ _
    (λ r e. single_of_seq _ _ _ (all_gone _ _ _ c.loop-part-test.false c.loop-part.invariant) (ap trees (sym c.items-items.ensures) ∙ trees_one _ _ r c.if-items-eq1.true c.index-items-0.is e))
    c.copy.ensures

pub returns : goal.returns
returns c = arranged_copy _ _ _ (all_gone _ _ _ c.loop-part-test.false c.loop-part.invariant) (tree-Seq c.loop-part.list)
