-- Blank lines in front of a text.
use Rattle.std.specs.Prelude.{ℕ, ◌≡◌, ◌==◌, ◌||◌, Bool, true, List, [], ◌∷◌}
use Rattle.std.specs.List.{list_all}

-- a space or a line feed
abbrev pub is_blank : ℕ → Bool
is_blank byte = byte == 32 || byte == 10

-- the last byte is a line feed, where there is one
abbrev pub ends_line : List ℕ → Bool
ends_line [] = true
ends_line (byte ∷ []) = byte == 10
ends_line (byte ∷ next ∷ bytes) = ends_line (next ∷ bytes)

-- whole lines of spaces
pub record AreBlankLines (front : List ℕ) : Type 0 where
  pub blank : list_all is_blank front ≡ true
  pub whole : ends_line front ≡ true
