use Rattle.std.proofs.Common.{sym, ap, ◌∙◌}
use Rattle.occ_syntax.specs.View.{tree}
use Rattle.occ_syntax.proofs.Views.{tree-Alt, tree-If, tree-Par, tree-Seq}
use Rattle.occ_draw.specs.Words.{word_text}
use Rattle.occ_draw.proofs.words.word.Goals as goal

pub returns-in-Seq : goal.returns-in-Seq
returns-in-Seq c = sym (ap word_text (ap tree c.in-Seq.is ∙ tree-Seq _))

pub returns-in-Par : goal.returns-in-Par
returns-in-Par c = sym (ap word_text (ap tree c.in-Par.is ∙ tree-Par _))

pub returns-in-If : goal.returns-in-If
returns-in-If c = sym (ap word_text (ap tree c.in-If.is ∙ tree-If _))

pub returns-in-Alt : goal.returns-in-Alt
returns-in-Alt c = sym (ap word_text (ap tree c.in-Alt.is ∙ tree-Alt _))
