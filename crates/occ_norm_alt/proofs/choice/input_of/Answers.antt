use Rattle.std.proofs.Common.{◌*◌, ◌%◌, ◌^◌, ap}
use Rattle.std.specs.Int.Bits.{bit_and}
use Rattle.std.proofs.lemmas.Result.{IfOk-weaker}
use Rattle.occ_norm_frame.proofs.Worlds.{has_nodes-extends}
use Rattle.occ_norm_frame.specs.Lifted.{IsPrefixed, OnOne}
use Rattle.occ_norm_frame.specs.Maps.{Lifts}
use Rattle.occ_norm_alt.specs.Inputs.{AreInputs, input_event}
use Rattle.occ_norm_alt.proofs.Receiving.{one_inputs}
use Rattle.occ_norm_alt.proofs.choice.input_of.Goals as goal

pub returns-clause-inputs : goal.returns-clause-inputs
returns-clause-inputs c = IfOk-weaker c.prefixed.result
    (λ r. Lifts c.prefixed.new.self c.in_ok-there.there c.in_ok-there.there r (λ a b. OnOne (IsPrefixed c.prefixed.new.self (input_event c.args.inputs.chan c.args.value)) a))
    (λ r. AreInputs c.prefixed.new.self c.args.inputs.chan c.args.inputs.first 0 c.args.inputs.keep c.args.value c.args.next r)
    (λ r is. one_inputs c.shifted.new.self c.prefixed.new.self c.prefixed.ensures.extends c.args.inputs.chan c.args.inputs.first c.args.inputs.keep c.args.value _ c.args.next c.in_ok-there.there r
    (ap (λ m. bit_and (m * 2 ^ c.args.inputs.first % 2 ^ 64) c.args.inputs.keep) c.from.ensures) (has_nodes-extends c.args.world.now c.shifted.new.self c.shifted.ensures.extends c.args.next c.requires) c.in_ok-there.ensures.nodes c.in_ok-there.ensures.shifted is)
    c.prefixed.ensures.prefixed
