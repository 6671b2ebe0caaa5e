use Rattle.std.proofs.Common.{eqb, ap, ◌∙◌}
use Rattle.occ_nform_table.specs.Lines.{is_number}
use Rattle.occ_nform_read.proofs.Numerals.{number_is}
use Rattle.occ_nform_read.proofs.words.is_number.Goals as goal

pub returns-in-Some : goal.returns-in-Some
returns-in-Some c = ap (λ m. eqb m c.args.n) c.from.ensures ∙ ap (is_number c.args.n) c.in-Some.ensures ∙ number_is c.args.word.now c.args.n c.requires

pub returns-in-None : goal.returns-in-None
returns-in-None c = ap (is_number c.args.n) c.in-None.ensures ∙ number_is c.args.word.now c.args.n c.requires
