use Rattle.std.proofs.Common.{refl}
use Rattle.occ_parse_layout.specs.declared.placed.Frame.TheVariants.{Plain, Program}
use Rattle.occ_parse_layout.proofs.Framed.{whole_of}
use Rattle.occ_parse_layout.proofs.laws.good_programs_have_one_header.Goals as goal

pub returns-clause-program : goal.returns-clause-program
returns-clause-program c = λ rows forest e h. whole_of Program rows forest refl e h

pub returns-clause-plain : goal.returns-clause-plain
returns-clause-plain c = λ rows forest e h. whole_of Plain rows forest refl e h
