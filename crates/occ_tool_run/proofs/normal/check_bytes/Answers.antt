use Rattle.std.proofs.Common.{length, ap}
use Rattle.occ_tool_run.proofs.Members.{table_read, table_refused}
use Rattle.occ_tool_run.proofs.normal.check_bytes.Goals as goal

pub returns-in-Ok-clause-checked : goal.returns-in-Ok-clause-checked
returns-in-Ok-clause-checked c = table_read c.normal_texts_are_read_as_written.ensures c.args.bytes.now _ _ _ c.new-names.ensures c.requires c.in-Ok.ensures.found (ap length c.items.ensures)

pub returns-clause-checked : goal.returns-clause-checked
returns-clause-checked c =
    table_refused c.faults_are_those_of_what_is_written.ensures c.refuse_table.result c.args.bytes.now _ c.in-Err.fault c.new-names.ensures c.requires c.refuse_table.ensures.told c.refuse_table.ensures.sound c.in-Err.ensures.refused
