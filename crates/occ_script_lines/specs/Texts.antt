-- The paths that texts write.
use Rattle.std.specs.Prelude.{ℕ, ◌==◌, Bool, ◌&&◌, nat_le, if◌then◌else◌, List, [], ◌∷◌, length, slice_index, Option, Some, None}
use Rattle.std.specs.List.{slice_split}
use Rattle.occ_lex.specs.Spelling.{is_numeral, value_of}

-- the number that decimal digits write, where it is below 2 ^ 32
unfoldable pub numeral_of : List ℕ → Option ℕ
numeral_of digits = if is_numeral digits && nat_le (value_of digits) 4294967295 then Some (value_of digits) else None

-- a zero in front of further digits
abbrev pub has_zero_in_front : List ℕ → Bool
has_zero_in_front digits = nat_le 2 (length digits) && slice_index digits 0 == 48

-- the number of a part: a numeral without zeros in front
abbrev pub place_of : List ℕ → Option ℕ
place_of digits = if has_zero_in_front digits then None else numeral_of digits

abbrev pub and_place : Option ℕ → Option (List ℕ) → Option (List ℕ)
and_place (Some n) (Some ns) = Some (n ∷ ns)
and_place (Some n) None = None
and_place None ns = None

-- the numbers that pieces of a text write, where each piece writes one
abbrev pub places_of : List (List ℕ) → Option (List ℕ)
places_of [] = Some []
places_of (piece ∷ pieces) = and_place (place_of piece) (places_of pieces)

abbrev pub is_byte : ℕ → ℕ → Bool
is_byte wanted byte = byte == wanted

-- a slash
abbrev pub is_slash : ℕ → Bool
is_slash = is_byte 47

-- what stands behind the first slash: nothing, or numbers with slashes between them
abbrev pub path_behind : List ℕ → Option (List ℕ)
path_behind [] = Some []
path_behind (byte ∷ text) = places_of (slice_split is_slash (byte ∷ text))

-- The path that a text writes, where it writes one: `/`, or a slash and a number for each step.
abbrev pub path_of : List ℕ → Option (List ℕ)
path_of [] = None
path_of (byte ∷ text) = if is_slash byte then path_behind text else None
