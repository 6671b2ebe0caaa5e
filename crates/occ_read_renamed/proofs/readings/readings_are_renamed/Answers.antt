use Rattle.occ_read_renamed.proofs.Programs.{readings}
use Rattle.occ_read_renamed.proofs.readings.readings_are_renamed.Goals as goal

pub returns : goal.returns
returns c = λ b text old between new other n m ps qs p q ks ls d e s x y. readings c.one_form.ensures b text old between d e s new other n m ps qs p q ks ls x y
