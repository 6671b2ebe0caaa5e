use Rattle.occ_nform.proofs.Apart.{told_apart}
use Rattle.occ_nform.proofs.law.normal_texts_tell_programs_apart.Goals as goal

pub returns : goal.returns
returns c = λ names params p q one two distinct scope hp hq small less first second. told_apart names params p q scope hp hq one two small less first second
