use Rattle.occ_complete.proofs.Heading.{part_has_head}
use Rattle.occ_complete.proofs.first_events.parts_have_heads.Goals as goal

pub returns : goal.returns
returns c = part_has_head
