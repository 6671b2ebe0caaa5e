use Rattle.std.proofs.Common.{sym, ap, ◌∙◌}
use Rattle.occ_syntax.specs.Tree.{seq, par, select, alt}
use Rattle.occ_syntax.specs.View.{tree, trees, cases, branches}
use Rattle.occ_syntax.proofs.Views.{tree-Seq, tree-Par, tree-If, tree-Alt}
use Rattle.occ_law_shape.proofs.form.opened.Goals as goal

pub returns-in-Seq : goal.returns-in-Seq
returns-in-Seq c = ap (λ xs. seq (trees xs)) c.items-in-Seq.ensures ∙ sym (ap tree c.in-Seq.is ∙ tree-Seq c.in-Seq.parts)

pub returns-in-Par : goal.returns-in-Par
returns-in-Par c = ap (λ xs. par (trees xs)) c.items-in-Par.ensures ∙ sym (ap tree c.in-Par.is ∙ tree-Par c.in-Par.parts)

pub returns-in-If : goal.returns-in-If
returns-in-If c = ap (λ xs. select (cases xs)) c.items-in-If.ensures ∙ sym (ap tree c.in-If.is ∙ tree-If c.in-If.choices)

pub returns-in-Alt : goal.returns-in-Alt
returns-in-Alt c = ap (λ xs. alt (branches xs)) c.items-in-Alt.ensures ∙ sym (ap tree c.in-Alt.is ∙ tree-Alt c.in-Alt.alternatives)
