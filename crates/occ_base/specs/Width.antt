use Rattle.std.specs.Prelude.{ℕ, ◌≤◌}
use Rattle.occ_base.specs.declared.width.Width.{Width}
use Rattle.occ_base.specs.declared.width.Width.TheVariants.{Bool, Word}

-- how many bits a value has
abbrev pub bits_of : Width → ℕ
bits_of Bool = 1
bits_of (Word bits) = bits

-- a width that a program can name: words have 1 to 8 bits
abbrev pub IsWidth : Width → Type 0
IsWidth Bool = Unit {0}
IsWidth (Word bits) = (1 ≤ bits) × (bits ≤ 8)
