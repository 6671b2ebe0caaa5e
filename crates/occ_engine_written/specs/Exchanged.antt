-- Tables in which names have other numbers.
use Rattle.std.specs.Prelude.{ℕ, List}
use Rattle.std.specs.List.{swap}
use Rattle.occ_renamed.specs.occ_parse_rules.Places.{Place}

-- the text of each of two names in the place of the other's
abbrev pub names_exchanged : ℕ → ℕ → List (List ℕ) → List (List ℕ)
names_exchanged a b names = swap names a b

-- the places of the names of a table, where names have their numbers under an exchange
abbrev pub places_renamed : (ℕ → ℕ) → (ℕ → Place) → ℕ → Place
places_renamed f P x = record { name = f (P (f x)).name; element = (P (f x)).element }
