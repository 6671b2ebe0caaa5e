use Rattle.occ_node.proofs.Table.{holds_refl, rows-keeps}
use Rattle.occ_node.proofs.Worlds.{grows_from}
use Rattle.occ_node.proofs.world.World.forget.Goals as goal

pub invariant_of-self : goal.invariant_of-self
invariant_of-self c = record { right = rows-keeps c.args.self.now.store c.forget.new.self c.forget.ensures c.args.self.now.rows.keys c.args.self.now.right }

pub returns : goal.returns
returns c = grows_from c.args.self.now _ c.forget.ensures (holds_refl c.args.self.now.rows.keys)
