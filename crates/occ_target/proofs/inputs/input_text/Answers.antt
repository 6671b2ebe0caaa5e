use Rattle.std.proofs.Common.{ap, sym, ◌∙◌, length}
use Rattle.occ_target.specs.Inputs.{is_taken}
use Rattle.occ_target.proofs.Named.{dotted_end, dotted_on, dotted_stop}
use Rattle.occ_target.proofs.inputs.input_text.Goals as goal

pub returns-then-not-is_taken : goal.returns-then-not-is_taken
returns-then-not-is_taken c =
    let free = ap (is_taken c.args.names.now c.args.params.now) (sym c.as_slice.ensures.value) ∙ sym c.is_taken.ensures ∙ c.if-not-is_taken.true in
    sym (dotted_stop c.args.names.now c.args.params.now _ c.loop.text.items free) ∙ c.loop.invariant

pub loop-preserved : goal.loop-preserved
loop-preserved c =
    let taken = ap (is_taken c.args.names.now c.args.params.now) (sym c.as_slice.ensures.value) ∙ sym c.is_taken.ensures ∙ c.if-not-is_taken.false in
    dotted_on c.args.names.now c.args.params.now (length c.args.params.now) c.loop.index c.loop.text.items c.push-in-loop.new.self.items _ c.loop-test.true taken c.in_ok-push-3.ensures.items c.loop.invariant

pub returns : goal.returns
returns c = sym (dotted_end c.args.names.now c.args.params.now (length c.args.params.now) c.loop.index c.loop.text.items c.loop-test.false) ∙ c.loop.invariant
