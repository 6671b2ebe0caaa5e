-- What a digit tells.
use Rattle.std.specs.Prelude.{ℕ, Option, slice_get}
use Rattle.occ_derive_search.specs.declared.instruction.Instruction.{Instruction}
use Rattle.occ_derive_search.specs.declared.instruction.TheConstants.{INSTRUCTIONS}

-- the instruction at that place, if there is one
unfoldable pub told : ℕ → Option Instruction
told digit = slice_get INSTRUCTIONS digit
