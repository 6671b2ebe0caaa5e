use Rattle.occ_norm_frame.proofs.Worlds.{has_nodes-extends}
use Rattle.std.proofs.Common.{◌*◌, ◌%◌, ◌^◌}
use Rattle.std.specs.Prelude.{if◌then◌else◌}
use Rattle.std.proofs.lemmas.Nat.{one_shl}
use Rattle.std.proofs.lemmas.Result.{IfOk-weaker}
use Rattle.occ_bits.specs.occ_dd.Store.{has}
use Rattle.occ_weave.specs.occ_mdd.Maps.{IsMap, value}
use Rattle.occ_norm_frame.specs.Changes.{IsChanged}
use Rattle.occ_norm_frame.proofs.Changing.{changed_on}
use Rattle.occ_norm_frame.proofs.changes.turned_on.Goals as goal

pub returns-clause-nodes : goal.returns-clause-nodes
returns-clause-nodes c = c.choose.ensures.nodes c.in_ok-turned.ensures.nodes (has_nodes-extends c.args.world.now c.shifted.new.self c.shifted.ensures.extends c.args.map c.requires.map)

pub returns-clause-changed : goal.returns-clause-changed
returns-clause-changed c = IfOk-weaker c.choose.result
    (λ r. IsMap c.choose.new.self.maps r (λ x. if has c.shifted.new.self.store c.args.set x then value c.shifted.new.self.maps c.in_ok-turned.turned x else value c.shifted.new.self.maps c.args.map x))
    (λ r. IsChanged c.choose.new.self (λ x. if has c.args.world.now.store c.args.set x then 2 ^ c.args.bit else 0) c.args.map r)
    (λ r made. changed_on c.args.world.now c.shifted.new.self c.choose.new.self c.args.set c.args.bit (1 * 2 ^ c.args.bit % 2 ^ 64) c.args.map c.in_ok-turned.turned r (one_shl c.args.bit 64 c.requires.bit)
    c.shifted.ensures.extends c.choose.ensures.extends c.requires.set c.requires.map c.in_ok-turned.ensures.nodes c.in_ok-turned.ensures.shifted made)
    c.choose.ensures.map
