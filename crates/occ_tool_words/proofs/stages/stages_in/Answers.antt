use Rattle.std.proofs.Common.{◌∙◌, sym, arith}
use Rattle.occ_tool_words.proofs.Numerals.{from_first, here, later, none_left}
use Rattle.occ_tool_words.proofs.stages.stages_in.Goals as goal

pub loop-stages-init : goal.loop-stages-init
loop-stages-init c = from_first c.args.word.now

pub returns-then-is_numeral : goal.returns-then-is_numeral
returns-then-is_numeral c = sym (c.loop-stages.invariant ∙ here c.args.word.now c.loop-stages.stages (omega (arith, c.loop-stages-test.true)) (sym c.is_numeral.ensures ∙ c.if-is_numeral.true))

pub loop-stages-preserved : goal.loop-stages-preserved
loop-stages-preserved c = c.loop-stages.invariant ∙ later c.args.word.now c.loop-stages.stages (omega (arith, c.loop-stages-test.true)) (sym c.is_numeral.ensures ∙ c.if-is_numeral.false)

pub returns : goal.returns
returns c = sym (c.loop-stages.invariant ∙ none_left c.args.word.now c.loop-stages.stages (omega (arith, c.loop-stages.auto, c.loop-stages-test.false)))
