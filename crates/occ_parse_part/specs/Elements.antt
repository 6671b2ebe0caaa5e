-- The names of the elements of arrays, as a table of names gives them.
use Rattle.std.specs.Prelude.{ℕ, zero, suc, ◌+◌, ◌==◌, if◌then◌else◌, List, [], ◌∷◌, get_or, Option, Some, None, unwrap_or}
use Rattle.std.specs.Map.{lookup}
use Rattle.occ_syntax.specs.occ_base.declared.names.Name.{Name}
use Rattle.occ_parse_forms.specs.declared.form.Declared.{Declared}
use Rattle.occ_parse_forms.specs.declared.form.Declared.TheVariants as declared
use Rattle.occ_parse_rules.specs.Places.{elements_from}
use Rattle.occ_parse_rules.specs.Unrolled.{Numbers}
use Rattle.occ_parse.specs.occ_parse_unroll.Elements.{with_places}
use Rattle.occ_parse.specs.occ_parse_unroll.Numbers.{number_in, numbering}

-- The number of the element of an array at a place, and what a name is: an element, or else a name by itself.
pub record Elements : Type 0 where
  pub number : ℕ → ℕ → ℕ
  pub named : ℕ → Declared

abbrev pub no_elements : Elements
no_elements = record { number = λ x k. 0; named = λ n. declared.Plain (record { 0 = n }) }

-- the number of each name, and of each element
abbrev pub numbers : Elements → Numbers
numbers e = numbering e.number

-- ---- one array more

abbrev pub row_number : List Name → ℕ → ℕ
row_number row k = (get_or row k (record { 0 = 0 })).0

-- the names of a row are the elements of an array from a place on
abbrev pub named_row : Name → ℕ → List Name → (ℕ → Declared) → ℕ → Declared
named_row x k [] others = others
named_row x k (name ∷ row) others = named_row x (k + 1) row (λ n. if name.0 == n then declared.Element x k else others n)

abbrev pub with_row : Elements → Name → List Name → Elements
with_row e x row = record {
  number = λ y k. if x.0 == y then row_number row k else e.number y k;
  named = named_row x 0 row e.named;
}

-- ---- the elements that a table has

-- so many elements of an array from a place on
abbrev pub row_in : List (List ℕ) → ℕ → ℕ → ℕ → List Name
row_in t x k zero = []
row_in t x k (suc n) = record { 0 = number_in t x (Some k) } ∷ row_in t x (k + 1) n

-- an array has the elements 0 to 255
unfoldable pub element_count : ℕ
element_count = 256

-- the elements of arrays, in front of others
abbrev pub with_arrays_in : List (List ℕ) → Elements → List Name → Elements
with_arrays_in t e [] = e
with_arrays_in t e (x ∷ xs) = with_arrays_in t (with_row e x (row_in t x.0 0 element_count)) xs

abbrev pub elements_in : List (List ℕ) → List Name → Elements
elements_in t xs = with_arrays_in t no_elements xs

-- the table in which the elements of arrays stand, one after the other
abbrev pub with_arrays : List (List ℕ) → List Name → List (List ℕ)
with_arrays t [] = t
with_arrays t (x ∷ xs) = with_arrays (with_places t (elements_from x.0 0 element_count)) xs

-- ---- rows and names that are kept in maps

abbrev pub number_found : {V : Type 0} → (V → List Name) → Option V → ℕ → ℕ
number_found items None k = 0
number_found items (Some row) k = row_number (items row) k

abbrev pub names_found : List (Name × Declared) → ℕ → Declared
names_found entries n = unwrap_or (lookup (λ (key : Name). n == key.0) entries) (declared.Plain (record { 0 = n }))

abbrev pub kept_in : {V : Type 0} → List (Name × V) → (V → List Name) → List (Name × Declared) → Elements
kept_in rows items entries = record {
  number = λ x k. number_found items (lookup (λ (key : Name). x == key.0) rows) k;
  named = names_found entries;
}
