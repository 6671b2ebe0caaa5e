use Rattle.occ_behaviour_read.proofs.Tabling.{tables_as_written}
use Rattle.occ_behaviour_read.proofs.tables.normal_texts_are_read_as_written.Goals as goal

pub returns : goal.returns
returns c = tables_as_written
