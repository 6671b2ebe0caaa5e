-- Texts within a line.
use Rattle.std.specs.Prelude.{ℕ, Bool, true, not, ◌==◌, ◌&&◌, List, [], ◌∷◌}
use Rattle.std.specs.List.{list_all}

-- no line ends in it, and it is nothing or begins with a space
abbrev pub is_plain : List ℕ → Bool
is_plain [] = true
is_plain (b ∷ bytes) = b == 32 && list_all (λ byte. not (byte == 10)) bytes
