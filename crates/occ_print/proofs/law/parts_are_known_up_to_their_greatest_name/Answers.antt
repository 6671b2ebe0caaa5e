use Rattle.occ_print.proofs.Bounded.{part_below, part_known}
use Rattle.occ_print.proofs.law.parts_are_known_up_to_their_greatest_name.Goals as goal

pub returns : goal.returns
returns c = λ n p some. (λ h. (part_below n p 0 h).1, λ k. part_known n p 0 some k)
