use Rattle.std.proofs.Common.{ap, subst, sym, ◌∙◌}
use Rattle.occ_usage.specs.occ_meaning.Context.{child as child_of}
use Rattle.occ_script_lines.specs.Places.{IsFound}
use Rattle.occ_syntax.specs.Tree.{alt, par, select, seq}
use Rattle.occ_syntax.specs.View.{branches, cases, tree, trees}
use Rattle.occ_syntax.proofs.Views.{tree-Alt, tree-If, tree-Par, tree-Seq}
use Rattle.occ_script_lines.proofs.part.child.Goals as goal

pub returns-in-Seq : goal.returns-in-Seq
returns-in-Seq c =
    let e = ap tree c.in-Seq.is ∙ tree-Seq c.in-Seq.parts ∙ ap (λ ps. seq (trees ps)) (sym c.items.ensures) in
    subst (λ p. IsFound (child_of p c.args.place) c.of_parts.result) (sym e) c.of_parts.ensures

pub returns-in-Par : goal.returns-in-Par
returns-in-Par c =
    let e = ap tree c.in-Par.is ∙ tree-Par c.in-Par.parts ∙ ap (λ ps. par (trees ps)) (sym c.items-in-Par.ensures) in
    subst (λ p. IsFound (child_of p c.args.place) c.of_parts-in-Par.result) (sym e) c.of_parts-in-Par.ensures

pub returns-in-If : goal.returns-in-If
returns-in-If c =
    let e = ap tree c.in-If.is ∙ tree-If c.in-If.choices ∙ ap (λ ps. select (cases ps)) (sym c.items-in-If.ensures) in
    subst (λ p. IsFound (child_of p c.args.place) c.of_choices.result) (sym e) c.of_choices.ensures

pub returns-in-Alt : goal.returns-in-Alt
returns-in-Alt c =
    let e = ap tree c.in-Alt.is ∙ tree-Alt c.in-Alt.alternatives ∙ ap (λ ps. alt (branches ps)) (sym c.items-in-Alt.ensures) in
    subst (λ p. IsFound (child_of p c.args.place) c.of_branches.result) (sym e) c.of_branches.ensures
