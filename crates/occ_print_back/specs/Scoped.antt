-- How the numbers of names are places, and how an environment is a scope.
use Rattle.std.specs.Prelude.{ℕ, ◌≡◌, ◌<◌, Option, None, Some}
use Rattle.occ_print.specs.occ_syntax.declared.scope.Kind.{Kind}
use Rattle.occ_print.specs.occ_syntax.Scopes.{Environment}
use Rattle.occ_parse.specs.occ_parse_rules.declared.sort.Sort.{Sort}
use Rattle.occ_parse.specs.occ_parse_rules.Places.{Place, Sorts, sort_at, sort_of}
use Rattle.occ_parse.specs.occ_parse_rules.Unrolled.{Numbers}

-- The first so many numbers are places, and the place of each has that number again.
abbrev pub IsNumbered : ℕ → (ℕ → Place) → Numbers → Type 0
IsNumbered count P N = (x : ℕ) → x < count → N (P x).name (P x).element ≡ x

abbrev pub sort_in : Option Kind → Option Sort
sort_in None = None
sort_in (Some k) = Some (sort_of k)

-- each place stands for what its number stands for
abbrev pub IsScope : ℕ → (ℕ → Place) → Environment → Sorts → Type 0
IsScope count P E Γ = (x : ℕ) → x < count → sort_at Γ (P x).name (P x).element ≡ sort_in (E x)
