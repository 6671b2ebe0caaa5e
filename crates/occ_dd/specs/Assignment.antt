use Rattle.std.specs.Prelude.{ℕ, ◌^◌, ◌==◌, if◌then◌else◌, bit_xor}
use Rattle.std.specs.Int.{bit_at}

-- An assignment of bits is a number, whose k-th binary digit is bit k.

-- the assignment with one bit turned
abbrev pub turned : ℕ → ℕ → ℕ
turned x bit = bit_xor x (2 ^ bit)

-- the assignment with one bit made 0 or 1
abbrev pub with_bit : ℕ → ℕ → ℕ → ℕ
with_bit x bit v = if bit_at x bit == v then x else turned x bit
