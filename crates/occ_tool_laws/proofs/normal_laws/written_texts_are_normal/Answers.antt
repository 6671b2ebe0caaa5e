use Rattle.occ_tool_laws.proofs.Normal.{written_is_normal}
use Rattle.occ_tool_laws.proofs.normal_laws.written_texts_are_normal.Goals as goal

pub returns : goal.returns
returns c = written_is_normal (λ text old new n ps p ks d r. (c.parameters_have_names.ensures text old new n ps p ks d r).0) c.normal_texts_need_no_names.ensures
    c.texts_of_programs_are_those_of_their_tables.ensures c.normal_texts_are_read_as_written.ensures c.faults_are_those_of_what_is_written.ensures
