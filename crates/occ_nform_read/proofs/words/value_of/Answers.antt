use Rattle.std.proofs.Common.{arith}
use Rattle.occ_nform_read.proofs.Numerals.{digit_low, too_large, value_is}
use Rattle.occ_nform_read.proofs.words.value_of.Goals as goal

pub overflow_sub-byte : goal.overflow_sub-byte
overflow_sub-byte c = digit_low c.args.word.now c.loop-byte.byte-index c.requires (omega arith)

pub returns-then-value-gt4294967295 : goal.returns-then-value-gt4294967295
returns-then-value-gt4294967295 c = too_large c.args.word.now c.loop-byte.byte-index c.loop-byte.value (omega arith) c.loop-byte.invariant.value (omega (arith, c.from.ensures))

pub returns : goal.returns
returns c = value_is c.args.word.now c.loop-byte.byte-index c.loop-byte.value (omega arith) c.loop-byte.invariant.value c.loop-byte.invariant.small
