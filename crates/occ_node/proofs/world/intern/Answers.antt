use Rattle.std.proofs.Common.{Some, ap, sym, ◌∙◌}
use Rattle.occ_node.specs.contracts.row.RowEq.TheImpl.Laws.{laws-law as row_equiv}
use Rattle.occ_node.proofs.Table.{interned, row_exact}
use Rattle.occ_node.proofs.world.intern.Goals as goal

pub returns-clause-rows : goal.returns-clause-rows
returns-clause-rows c = interned row_equiv c.args.rows.now.keys c.insert_full.new.self.keys c.args.row c.in_ok-place.ensures.keys

pub returns-clause-place : goal.returns-clause-place
returns-clause-place c = let w = c.in_ok-place.ensures.stored in w.1 ∙ ap Some (sym (row_exact c.args.row w.0 w.2))
