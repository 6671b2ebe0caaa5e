use Rattle.std.proofs.Common.{ap, sym, ◌∙◌}
use Rattle.occ_mdd.specs.occ_dd.Store.{has}
use Rattle.occ_node.proofs.Behaviours.{ends_nil}
use Rattle.occ_node.proofs.world.World.has_end.Goals as goal

pub returns : goal.returns
returns c = c.has.ensures ∙ ap (λ r. has c.args.self.now.store r.ends c.args.bits) c.row.ensures.row ∙ sym (ends_nil c.args.self.now c.args.id c.args.bits)
