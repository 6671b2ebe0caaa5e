use Rattle.occ_parse_part.proofs.Once.{part_once, fault_once, not_both}
use Rattle.occ_parse_part.proofs.laws.one_reading_of_a_part.Goals as goal

pub returns-clause-part : goal.returns-clause-part
returns-clause-part c = part_once c.one_form.ensures

pub returns-clause-fault : goal.returns-clause-fault
returns-clause-fault c = fault_once c.one_form.ensures

pub returns-clause-either : goal.returns-clause-either
returns-clause-either c = not_both c.one_form.ensures
