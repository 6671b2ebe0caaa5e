use Rattle.occ_draw.proofs.Drawing.{interface_read, refused_table, rows_read}
use Rattle.occ_draw.proofs.normal.picture.Goals as goal

pub dot_text-requires-clause-interface : goal.dot_text-requires-clause-interface
dot_text-requires-clause-interface c = interface_read c.a_normal_text_is_its_tables.ensures _ c.args.text.now _ c.requires c.in-Ok.ensures.found

pub dot_text-requires-clause-rows : goal.dot_text-requires-clause-rows
dot_text-requires-clause-rows c = rows_read c.a_normal_text_is_its_tables.ensures _ c.args.text.now _ c.requires c.in-Ok.ensures.found

pub returns : goal.returns
returns c =
    refused_table c.refuse_table.result _ c.args.text.now c.in-Err.fault c.new-names.ensures c.in-Err.ensures.refused c.refuse_table.ensures.text c.refuse_table.ensures.told
