-- Strings of the DOT language, between double quotes, and what they show as labels.
use Rattle.std.specs.Prelude.{ℕ, ◌==◌, Bool, true, false, ◌||◌, if◌then◌else◌, List, [], ◌∷◌, ◌++◌, Option, None, Some}
use Rattle.std.specs.List.{flat_map}

-- A character of a label as it stands in a string: a double quote (34) and a backslash (92) behind a backslash, a line feed
-- (10) as a backslash and n (110), and each other one as it is.
abbrev pub escaped : ℕ → List ℕ
escaped c = if c == 34 || c == 92 then 92 ∷ c ∷ [] else if c == 10 then 92 ∷ 110 ∷ [] else c ∷ []

-- a label as a string
abbrev pub quoted : List ℕ → List ℕ
quoted label = 34 ∷ flat_map escaped label ++ 34 ∷ []

-- the character that stands behind a backslash
abbrev pub meant : ℕ → ℕ
meant c = if c == 110 then 10 else c

abbrev pub with_front : ℕ → Option (List ℕ × List ℕ) → Option (List ℕ × List ℕ)
with_front c None = None
with_front c (Some parts) = Some (c ∷ parts.0, parts.1)

-- What a string shows, read behind its opening quote, and the text behind its closing quote, where there is one. The mark
-- says whether a backslash stands in front.
unfoldable pub shown : Bool → List ℕ → Option (List ℕ × List ℕ)
shown marked [] = None
shown true (c ∷ text) = with_front (meant c) (shown false text)
shown false (c ∷ text) = if c == 34 then Some ([], text) else if c == 92 then shown true text else with_front c (shown false text)
