use Rattle.std.proofs.Common.{◌≡◌, ◌+◌, ◌^◌, ap, ◌∙◌, subst, arith}
use Rattle.std.proofs.lemmas.Result.{IfOk-weaker}
use Rattle.occ_norm_frame.proofs.Worlds.{has_nodes-extends}
use Rattle.occ_norm_frame.specs.Lifted.{IsMerged, OnTwo}
use Rattle.occ_norm_frame.specs.Maps.{Lifts}
use Rattle.occ_norm_alt.specs.Inputs.{AreInputs}
use Rattle.occ_norm_alt.proofs.Steps.{inputs_from}
use Rattle.occ_norm_alt.proofs.choice.+input_from.Goals as goal

pub input_from-requires : goal.input_from-requires
input_from-requires t c =
    let smaller = c.low-lower.ensures.left in
    let known = has_nodes-extends c.cofactor.new.self c.cofactor-2.new.self c.cofactor-2.ensures.extends c.in_ok-zero.zero (c.in_ok-zero.ensures.nodes c.requires.next) in
    (omega (arith, c.decreases, smaller), (omega (arith, c.requires.left, smaller), known))

pub input_from-requires-2 : goal.input_from-requires-2
input_from-requires-2 t c =
    let smaller = c.high-upper.ensures.left in
    let one_known = c.in_ok-one.ensures.nodes (has_nodes-extends c.args.world.now c.cofactor.new.self c.cofactor.ensures.extends c.args.next c.requires.next) in
    (omega (arith, c.decreases, smaller), (omega (arith, c.requires.left, smaller), has_nodes-extends c.cofactor-2.new.self c.input_from.new.world c.input_from.ensures.extends c.in_ok-one.one one_known))

pub merged-requires-clause-a : goal.merged-requires-clause-a
merged-requires-clause-a t c = has_nodes-extends c.input_from.new.world c.input_from-2.new.world c.input_from-2.ensures.extends c.in_ok-low.low c.in_ok-low.ensures.nodes

pub returns-clause-inputs : goal.returns-clause-inputs
returns-clause-inputs t c =
    let i = c.args.inputs in
    let block = c.args.block in
    let lower = c.low-lower.result in
    let upper = c.high-upper.result in
    let same : upper.left ≡ lower.left = omega (arith, c.low-lower.ensures.left, c.high-upper.ensures.left) in
    IfOk-weaker c.merged.result
    (λ r. Lifts c.merged.new.self c.in_ok-low.low c.in_ok-high.high r (OnTwo (IsMerged c.merged.new.self)))
    (λ r. AreInputs c.merged.new.self i.chan i.first block.left i.keep block.base c.args.next r)
    (λ r is. inputs_from c.args.world.now c.cofactor.new.self c.cofactor-2.new.self c.input_from.new.world c.input_from-2.new.world c.merged.new.self
    c.cofactor.ensures.extends c.cofactor-2.ensures.extends c.input_from.ensures.extends c.input_from-2.ensures.extends c.merged.ensures.extends
    i.chan i.first block.left lower.left i.keep block.base upper.base c.args.next c.in_ok-zero.zero c.in_ok-one.one c.in_ok-low.low c.in_ok-high.high r
    (omega (arith, c.low-lower.ensures.left)) (c.high-upper.ensures.base ∙ ap (λ n. block.base + 2 ^ n) same) (omega (arith, c.requires.left, i.within)) c.requires.next
    c.in_ok-zero.ensures.map c.in_ok-one.ensures.map (c.in_ok-zero.ensures.nodes c.requires.next)
    (c.in_ok-one.ensures.nodes (has_nodes-extends c.args.world.now c.cofactor.new.self c.cofactor.ensures.extends c.args.next c.requires.next))
    (subst (λ b. AreInputs c.input_from.new.world i.chan i.first lower.left i.keep b c.in_ok-zero.zero c.in_ok-low.low) c.low-lower.ensures.base c.in_ok-low.ensures.inputs)
    (subst (λ n. AreInputs c.input_from-2.new.world i.chan i.first n i.keep upper.base c.in_ok-one.one c.in_ok-high.high) same c.in_ok-high.ensures.inputs)
    c.in_ok-low.ensures.nodes c.in_ok-high.ensures.nodes is)
    c.merged.ensures.merged
