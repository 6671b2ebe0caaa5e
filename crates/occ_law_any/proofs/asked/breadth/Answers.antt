use Rattle.std.proofs.Common.{ap, sym, ◌∙◌}
use Rattle.occ_law_alt.specs.occ_law_shape.Form.{form_tree}
use Rattle.occ_law_any.proofs.Counting.{branches_long, cases_long, trees_long}
use Rattle.occ_law_any.specs.Places.{breadth_of}
use Rattle.occ_law_any.proofs.asked.breadth.Goals as goal

pub returns-in-Seq : goal.returns-in-Seq
returns-in-Seq c = sym (trees_long c.in-Seq.parts.now) ∙ ap breadth_of (ap form_tree (sym c.in-Seq.is) ∙ c.opened.ensures)

pub returns-in-Par : goal.returns-in-Par
returns-in-Par c = sym (trees_long c.in-Par.parts.now) ∙ ap breadth_of (ap form_tree (sym c.in-Par.is) ∙ c.opened.ensures)

pub returns-in-If : goal.returns-in-If
returns-in-If c = sym (cases_long c.in-If.choices.now) ∙ ap breadth_of (ap form_tree (sym c.in-If.is) ∙ c.opened.ensures)

pub returns-in-Alt : goal.returns-in-Alt
returns-in-Alt c = sym (branches_long c.in-Alt.alternatives.now) ∙ ap breadth_of (ap form_tree (sym c.in-Alt.is) ∙ c.opened.ensures)
