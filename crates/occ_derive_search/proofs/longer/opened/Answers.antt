use Rattle.std.proofs.Common.{ap, ◌∙◌}
use Rattle.occ_syntax.proofs.Views.{tree-Alt, tree-If, tree-Par, tree-Seq}
use Rattle.occ_syntax.specs.Tree.{alt, par, select, seq}
use Rattle.occ_syntax.specs.View.{branches, cases, tree, trees}
use Rattle.occ_derive_search.proofs.longer.opened.Goals as goal

pub returns-in-Seq : goal.returns-in-Seq
returns-in-Seq c = ap tree c.in-Seq.is ∙ tree-Seq c.in-Seq.parts ∙ ap (λ xs. seq (trees xs)) (cc (c.replace-in-Seq.ensures.value, c.in-Seq.parts-is))

pub returns-in-Par : goal.returns-in-Par
returns-in-Par c = ap tree c.in-Par.is ∙ tree-Par c.in-Par.parts ∙ ap (λ xs. par (trees xs)) (cc (c.replace-in-Par.ensures.value, c.in-Par.parts-is))

pub returns-in-If : goal.returns-in-If
returns-in-If c = ap tree c.in-If.is ∙ tree-If c.in-If.choices ∙ ap (λ xs. select (cases xs)) (cc (c.replace-in-If.ensures.value, c.in-If.choices-is))

pub returns-in-Alt : goal.returns-in-Alt
returns-in-Alt c = ap tree c.in-Alt.is ∙ tree-Alt c.in-Alt.alternatives ∙ ap (λ xs. alt (branches xs)) (cc (c.replace-in-Alt.ensures.value, c.in-Alt.alternatives-is))
