use Rattle.std.proofs.Common.{Some, sym, ap, ◌∙◌}
use Rattle.occ_syntax.specs.Tree.{alt, par, select, seq}
use Rattle.occ_syntax.specs.View.{branches, cases, tree, trees}
use Rattle.occ_syntax.proofs.Views.{tree-Alt, tree-If, tree-Par, tree-Seq}
use Rattle.occ_draw.specs.Words.{count_of}
use Rattle.occ_draw.proofs.Counted.{branches_counted, choices_counted, parts_counted}
use Rattle.occ_draw.proofs.words.count.Goals as goal

pub returns-in-Seq : goal.returns-in-Seq
returns-in-Seq c =
    let e = ap tree c.in-Seq.is ∙ tree-Seq c.in-Seq.parts ∙ ap (λ ps. seq (trees ps)) (sym c.items.ensures) in
    ap Some (parts_counted c.items.result.now) ∙ sym (ap count_of e)

pub returns-in-Par : goal.returns-in-Par
returns-in-Par c =
    let e = ap tree c.in-Par.is ∙ tree-Par c.in-Par.parts ∙ ap (λ ps. par (trees ps)) (sym c.items-in-Par.ensures) in
    ap Some (parts_counted c.items-in-Par.result.now) ∙ sym (ap count_of e)

pub returns-in-If : goal.returns-in-If
returns-in-If c =
    let e = ap tree c.in-If.is ∙ tree-If c.in-If.choices ∙ ap (λ ps. select (cases ps)) (sym c.items-in-If.ensures) in
    ap Some (choices_counted c.items-in-If.result.now) ∙ sym (ap count_of e)

pub returns-in-Alt : goal.returns-in-Alt
returns-in-Alt c =
    let e = ap tree c.in-Alt.is ∙ tree-Alt c.in-Alt.alternatives ∙ ap (λ ps. alt (branches ps)) (sym c.items-in-Alt.ensures) in
    ap Some (branches_counted c.items-in-Alt.result.now) ∙ sym (ap count_of e)
