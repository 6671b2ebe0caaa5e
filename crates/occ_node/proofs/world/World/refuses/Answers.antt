use Rattle.std.proofs.Common.{ap, sym, ◌∙◌}
use Rattle.occ_accept.specs.Accept.{in_set, refuses}
use Rattle.occ_node.proofs.Behaviours.{fails_nil}
use Rattle.occ_node.proofs.world.World.refuses.Goals as goal

pub returns : goal.returns
returns c = c.can_refuse.ensures ∙ ap (λ sets. refuses sets (in_set c.args.refused.now)) (c.items.ensures.items ∙ ap (λ r. r.accepts) c.row.ensures.row) ∙ sym (fails_nil c.args.self.now c.args.id (in_set c.args.refused.now))
