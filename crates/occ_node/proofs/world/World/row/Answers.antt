use Rattle.std.proofs.Common.{◌≡◌, Some, None, slice_get, sym, ap, ◌∙◌}
use Rattle.std.specs.Option.{option_copied}
use Rattle.occ_node.proofs.Table.{row_there}
use Rattle.occ_node.proofs.Worlds.{node_row, read_row, is_row}
use Rattle.occ_node.proofs.world.World.row.Goals as goal

pub unreachable-requires : goal.unreachable-requires
unreachable-requires c =
    let there = row_there c.args.self.now.rows.keys c.args.id (node_row c.args.self.now c.args.id c.requires) in
    let none : None ≡ slice_get c.args.self.now.rows.keys c.args.id.0 = sym (ap option_copied c.in-None.is) ∙ c.get_index.ensures.key in cc

pub returns-clause-row : goal.returns-clause-row
returns-clause-row c = read_row c.args.self.now c.args.id c.in-Some.row.now (let some : Some c.in-Some.row.now ≡ slice_get c.args.self.now.rows.keys c.args.id.0 = sym (ap option_copied c.in-Some.is) ∙ c.get_index.ensures.key in sym some)

pub returns-clause-right : goal.returns-clause-right
returns-clause-right c = is_row c.args.self.now c.args.id c.requires
