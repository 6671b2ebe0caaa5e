use Rattle.occ_tool_laws.proofs.EachTable.{reads_too}
use Rattle.occ_tool_laws.proofs.reading_laws.texts_read_with_each_table.Goals as goal

pub returns : goal.returns
returns c = λ b text old between new n ps p ks d e s x.
    reads_too b text old between d e s new n ps p ks x (λ g r. c.readings_are_not_refused.ensures b text old between new n ps p ks g d e s x r)
