use Rattle.std.proofs.Common.{take}
use Rattle.indexmap.specs.IndexMap.{get}
use Rattle.occ_run.specs.Tables.{HaveMore, same_name}
use Rattle.occ_run.proofs.table.Table.add_all.Given as goal

-- the runs so far are in the rows
abbrev pub invariant-loop-run : goal.invariant-loop-run
invariant-loop-run l = HaveMore (get same_name l.fn.self.rows) (get same_name l.self.rows) (take l.run-index l.runs)
