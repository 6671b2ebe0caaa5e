use Rattle.std.proofs.Common.{sym, ◌∙◌, arith}
use Rattle.occ_script_lines.proofs.Numerals.{no_digit, too_large, value_is, value_nil}
use Rattle.occ_script_lines.proofs.text.numeral.Goals as goal

pub returns-then-is_empty : goal.returns-then-is_empty
returns-then-is_empty c = value_nil c.args.digits.now (sym c.is_empty.ensures ∙ c.if-is_empty.true)

pub returns-then-not-is_digit : goal.returns-then-not-is_digit
returns-then-not-is_digit c = no_digit c.args.digits.now c.loop-byte.byte-index (omega arith) (sym c.is_digit.ensures ∙ c.if-not-is_digit.true)

pub returns-then-value-gt4294967295 : goal.returns-then-value-gt4294967295
returns-then-value-gt4294967295 c = too_large c.args.digits.now c.loop-byte.byte-index c.loop-byte.value (omega arith) c.loop-byte.invariant.value (omega (arith, c.from.ensures))

pub returns : goal.returns
returns c = value_is c.args.digits.now c.loop-byte.byte-index c.loop-byte.value (sym c.is_empty.ensures ∙ c.if-is_empty.false) (omega arith) c.loop-byte.invariant.value c.loop-byte.invariant.small c.loop-byte.invariant.digits
