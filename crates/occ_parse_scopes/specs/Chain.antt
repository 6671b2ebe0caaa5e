-- Entries of which each knows the next older one of its name.
use Rattle.std.specs.Prelude.{ℕ, suc, ◌≡◌, ◌==◌, ◌&&◌, nat_lt, ◌<◌, Bool, false, Some, is_some, if◌then◌else◌, List, [], ◌∷◌, map, length, get_or}
use Rattle.std.specs.List.{list_any}
use Rattle.occ_parse_forms.specs.declared.form.Declared.{Declared}
use Rattle.occ_parse_forms.specs.declared.form.Declared.TheVariants as declared
use Rattle.occ_parse_rules.specs.declared.sort.Entry.{Entry}
use Rattle.occ_parse_rules.specs.Places.{Sorts, sort_at}
use Rattle.occ_parse_scopes.specs.declared.scopes.Linked.{Linked}

-- the name that a declaration declares, or of whose array it declares elements
abbrev pub name_of : Declared → ℕ
name_of (declared.Plain x) = x.0
name_of (declared.Element x k) = x.0
name_of (declared.Array x n) = x.0

-- whether a declaration declares one of the first elements, so many, of the array of a name
abbrev pub declares_below : ℕ → ℕ → Declared → Bool
declares_below x n (declared.Plain y) = false
declares_below x n (declared.Element y k) = x == y.0 && nat_lt k n
declares_below x n (declared.Array y m) = x == y.0 && (nat_lt 0 m && nat_lt 0 n)

abbrev pub has_elements_below : Sorts → ℕ → ℕ → Bool
has_elements_below Γ x n = list_any (λ entry. declares_below x n entry.declared) Γ

-- whether a declaration declares that element of the array of its name
abbrev pub declares_element : Declared → ℕ → Bool
declares_element (declared.Plain y) k = false
declares_element (declared.Element y j) k = k == j
declares_element (declared.Array y n) k = nat_lt k n

-- a table of which of the first 256 elements of an array are in scope
abbrev pub IsTableOf : Sorts → ℕ → List Bool → Type 0
IsTableOf Γ x table = (k : ℕ) → k < 256 → get_or table k false ≡ is_some (sort_at Γ x (Some k))

abbrev pub entries : List Linked → List Entry
entries ls = map (λ l. l.entry) ls

-- The place of the newest entry of a name among entries, the newest first; the oldest entry of all has the place 1, and
-- 0 says that there is none.
abbrev pub newest_of : List Linked → ℕ → ℕ
newest_of [] x = 0
newest_of (l ∷ ls) x = if x == name_of l.entry.declared then suc (length ls) else newest_of ls x

abbrev pub AreChained : List Linked → Type 0
AreChained [] = Unit {0}
AreChained (l ∷ ls) = (l.older ≡ newest_of ls (name_of l.entry.declared)) × AreChained ls

-- the table of each name's newest place; past its end there is none
abbrev pub IsTable : List ℕ → List Linked → Type 0
IsTable newest ls = (x : ℕ) → get_or newest x 0 ≡ newest_of ls x
