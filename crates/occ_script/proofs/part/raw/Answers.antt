use Rattle.occ_script_lines.proofs.from_lex.Interned.{extends_same}
use Rattle.occ_script.proofs.part.raw.Goals as goal

pub returns-in-Ok-clause-elements : goal.returns-in-Ok-clause-elements
returns-in-Ok-clause-elements c = c.in-Ok.ensures.elements c.form.new.names (extends_same c.form.new.names)
