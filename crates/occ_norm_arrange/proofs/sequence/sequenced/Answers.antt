use Rattle.std.proofs.Common.{IfOk, IfSome, ap, subst, sym, ◌∙◌}
use Rattle.occ_syntax.proofs.Views.{tree-Par, tree-Seq}
use Rattle.occ_syntax.specs.Tree.{par, seq}
use Rattle.occ_syntax.specs.View.{tree, trees}
use Rattle.occ_norm_arrange.specs.Arranged.{IsArranged}
use Rattle.occ_norm_arrange.proofs.sequence.sequenced.Goals as goal

pub returns-in-Seq : goal.returns-in-Seq
returns-in-Seq c =
    let e = ap tree c.in-Seq.is ∙ tree-Seq c.in-Seq.parts ∙ ap (λ ps. seq (trees ps)) (sym c.items.ensures) in
    subst (λ p. IfOk c.seq_flat.result (λ found. IfSome found (λ r. IsArranged p (tree r)))) (sym e) c.seq_flat.ensures

pub returns-in-Par : goal.returns-in-Par
returns-in-Par c =
    let e = ap tree c.in-Par.is ∙ tree-Par c.in-Par.parts ∙ ap (λ ps. par (trees ps)) (sym c.items-in-Par.ensures) in
    subst (λ p. IfOk c.par_flat.result (λ found. IfSome found (λ r. IsArranged p (tree r)))) (sym e) c.par_flat.ensures
