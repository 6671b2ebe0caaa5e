use Rattle.occ_read_renamed.proofs.Refused.{not_refused}
use Rattle.occ_read_renamed.proofs.readings.readings_are_not_refused.Goals as goal

pub returns : goal.returns
returns c = λ b text old between new n ps p ks fault d e s x y. not_refused c.one_form.ensures b text old between d e s new n ps p ks x fault y
