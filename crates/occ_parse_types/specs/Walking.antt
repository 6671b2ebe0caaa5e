-- The lines that a judgement finds.
use Rattle.std.specs.Prelude.{ℕ, Option, Some, None}

-- the number of the line that a judgement finds
abbrev pub line_of : {F : Type 0} → Option (ℕ × F) → Option ℕ
line_of None = None
line_of (Some found) = Some found.0
