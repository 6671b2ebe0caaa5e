use Rattle.indexmap.specs.IndexMap.{get}
use Rattle.occ_run.specs.Tables.{same_name}
use Rattle.occ_run.proofs.Tables.{noted}
use Rattle.occ_run.proofs.table.Table.note.Goals as goal

pub returns : goal.returns
returns c =
    noted (get same_name c.args.self.now.rows) (get same_name c.take_row-row.new.self.rows) (get same_name c.insert.new.self) c.take_row-row.result c.push.new.self c.args.run c.args.chan
    c.take_row-row.ensures.row c.in_ok-push.ensures.items c.take_row-row.ensures.others c.in_ok-insert.ensures.updates.0
