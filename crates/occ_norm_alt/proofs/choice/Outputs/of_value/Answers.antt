use Rattle.std.proofs.Common.{refl}
use Rattle.std.proofs.lemmas.Result.{IfOk-weaker}
use Rattle.occ_norm_frame.specs.occ_dd.Store.{has}
use Rattle.occ_norm_frame.proofs.Worlds.{has_nodes-extends}
use Rattle.occ_norm_alt.proofs.Steps.{last_outputs, outputs_chosen}
use Rattle.occ_norm_alt.proofs.choice.Outputs.of_value.Goals as goal

pub prefixed-requires-2 : goal.prefixed-requires-2
prefixed-requires-2 c = c.in_ok-there.ensures.nodes (has_nodes-extends c.args.world.now c.stop.new.self c.stop.ensures.extends c.args.self.now.next c.requires.next) c.in_ok-stopped.ensures.nodes

pub returns-clause-outputs : goal.returns-clause-outputs
returns-clause-outputs c =
    outputs_chosen c.args.world.now c.stop.new.self c.choose.new.self c.prefixed-2.new.self c.stop.ensures.extends c.choose.ensures.extends c.prefixed-2.ensures.extends
    c.args.self.now.chan c.args.value c.args.set c.args.self.now.next c.in_ok-stopped.stopped c.in_ok-there.there c.in_ok-map.map c.requires.set c.requires.next c.in_ok-there.ensures.map c.in_ok-map.ensures.prefixed

pub returns-then-not-self-clause-outputs : goal.returns-then-not-self-clause-outputs
returns-then-not-self-clause-outputs c = IfOk-weaker c.prefixed.result _ _
    (λ r is. last_outputs c.prefixed.new.self c.args.self.now.chan (has c.args.world.now.store c.args.set) c.args.value (λ x. c.args.value) c.args.self.now.next r (λ x. refl) is)
    c.prefixed.ensures.prefixed
