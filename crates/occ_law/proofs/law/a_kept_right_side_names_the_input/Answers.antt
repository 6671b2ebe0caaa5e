use Rattle.occ_law.proofs.Instances.{kept_names}
use Rattle.std.proofs.Common.{refl}
use Rattle.occ_law.proofs.law.a_kept_right_side_names_the_input.Goals as goal

pub returns : goal.returns
returns c = λ n x y place r differ law. kept_names n x y place _ r differ law refl
