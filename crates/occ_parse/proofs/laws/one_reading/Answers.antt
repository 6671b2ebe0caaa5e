use Rattle.occ_parse.proofs.Once.{refused_once, not_both, read_once}
use Rattle.occ_parse.proofs.laws.one_reading.Goals as goal

pub returns-clause-fault : goal.returns-clause-fault
returns-clause-fault c = λ b text old f g x y. refused_once c.one_form.ensures b text old x y

pub returns-clause-program : goal.returns-clause-program
returns-clause-program c = read_once c.one_form.ensures

pub returns-clause-apart : goal.returns-clause-apart
returns-clause-apart c = λ b text old new n ps p ks f x y. not_both c.one_form.ensures b text old x.draft x.laid_out x.in_order y
