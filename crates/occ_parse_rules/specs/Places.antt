-- What names stand for on a line: names and elements of arrays are places, and declarations in scope give them sorts.
use Rattle.std.specs.Prelude.{ℕ, zero, suc, ◌+◌, ◌-◌, ◌==◌, Bool, false, ◌&&◌, nat_lt, nat_le, if◌then◌else◌, List, [], ◌∷◌, map, Option, Some, None}
use Rattle.std.specs.List.{list_any}
use Rattle.occ_meaning.specs.occ_syntax.declared.scope.Kind.{Kind}
use Rattle.occ_meaning.specs.occ_syntax.declared.scope.Kind.TheVariants as kind
use Rattle.occ_parse_forms.specs.declared.form.Declared.{Declared}
use Rattle.occ_parse_forms.specs.declared.form.Declared.TheVariants as declared
use Rattle.occ_parse_forms.specs.declared.form.Item.{Item}
use Rattle.occ_parse_forms.specs.declared.form.Param.{Param}
use Rattle.occ_parse_forms.specs.declared.form.Times.{Times}
use Rattle.occ_parse_forms.specs.declared.phrase.Index.{Index}
use Rattle.occ_parse_forms.specs.declared.phrase.Index.TheVariants as index
use Rattle.occ_parse_rules.specs.declared.sort.Entry.{Entry}
use Rattle.occ_parse_rules.specs.declared.sort.Sort.{Sort}
use Rattle.occ_parse_rules.specs.declared.sort.Sort.TheVariants as sort

-- a name by itself, or the element of an array
pub record Place : Type 0 where
  pub name : ℕ
  pub element : Option ℕ

-- The declarations in scope, the newest first.
abbrev pub Sorts : Type 0
Sorts = List Entry

-- The value of each replicator's index, by its name's number. What it says of other numbers doesn't matter.
abbrev pub Indices : Type 0
Indices = ℕ → ℕ

-- whether a declaration declares a place
abbrev pub declares : Declared → ℕ → Option ℕ → Bool
declares (declared.Plain x) y None = y == x.0
declares (declared.Plain x) y (Some k) = false
declares (declared.Element x j) y None = false
declares (declared.Element x j) y (Some k) = y == x.0 && k == j
declares (declared.Array x n) y None = false
declares (declared.Array x n) y (Some k) = y == x.0 && nat_lt k n

-- whether it declares some element of an array
abbrev pub declares_some : Declared → ℕ → Bool
declares_some (declared.Plain x) y = false
declares_some (declared.Element x j) y = y == x.0
declares_some (declared.Array x n) y = y == x.0 && nat_lt 0 n

-- what a place stands for
abbrev pub sort_at : Sorts → ℕ → Option ℕ → Option Sort
sort_at [] x k = None
sort_at (entry ∷ Γ) x k = if declares entry.declared x k then Some entry.sort else sort_at Γ x k

-- whether some element of the array is in scope
abbrev pub has_elements : Sorts → ℕ → Bool
has_elements Γ x = list_any (λ entry. declares_some entry.declared x) Γ

-- the places that a declaration declares, in order
abbrev pub elements_from : ℕ → ℕ → ℕ → List Place
elements_from x k zero = []
elements_from x k (suc n) = record { name = x; element = Some k } ∷ elements_from x (k + 1) n

abbrev pub places : Declared → List Place
places (declared.Plain x) = record { name = x.0; element = None } ∷ []
places (declared.Element x k) = record { name = x.0; element = Some k } ∷ []
places (declared.Array x n) = elements_from x.0 0 n

-- what a kind is as a sort
abbrev pub sort_of : Kind → Sort
sort_of (kind.Var width) = sort.Variable width
sort_of (kind.Chan width mark) = sort.Channel width mark

abbrev pub entry_of : Kind → Declared → Entry
entry_of k d = record { declared = d; sort = sort_of k }

-- the scope behind declarations, in order
abbrev pub declared_in : Sorts → List Entry → Sorts
declared_in Γ [] = Γ
declared_in Γ (entry ∷ entries) = declared_in (entry ∷ Γ) entries

abbrev pub entries_of : Kind → List Declared → List Entry
entries_of k ds = map (entry_of k) ds

abbrev pub param_entries : List Param → List Entry
param_entries ps = map (λ p. entry_of p.kind p.declared) ps

-- a replicator's index in scope
abbrev pub counter_of : Times → Entry
counter_of times = record { declared = declared.Plain times.index; sort = sort.Counter times.base times.count }

-- so many numbers from one on
abbrev pub numbers_from : ℕ → ℕ → List ℕ
numbers_from b zero = []
numbers_from b (suc n) = b ∷ numbers_from (b + 1) n

-- the values that an index takes where its line is judged: those of its copies, or its base where there is none
abbrev pub values_of : ℕ → ℕ → List ℕ
values_of b zero = b ∷ []
values_of b (suc n) = numbers_from b (suc n)

abbrev pub with_index : Indices → ℕ → ℕ → Indices
with_index ρ i v = λ j. if j == i then v else ρ j

-- whether a test holds for some list of values that the indices in scope take together
abbrev pub taken_by : Declared → Sort → (Indices → Bool) → Indices → Bool
taken_by (declared.Plain i) (sort.Counter b n) test ρ = list_any (λ v. test (with_index ρ i.0 v)) (values_of b n)
taken_by d s test ρ = test ρ

abbrev pub for_some_from : Sorts → (Indices → Bool) → Indices → Bool
for_some_from [] test ρ = test ρ
for_some_from (entry ∷ Γ) test ρ = for_some_from Γ (taken_by entry.declared entry.sort test) ρ

abbrev pub for_some : Sorts → (Indices → Bool) → Bool
for_some Γ test = for_some_from Γ test (λ i. 0)

-- the value of an index as a whole number, where it isn't below zero
abbrev pub index_at : Indices → Index → Option ℕ
index_at ρ (index.Number k) = Some k
index_at ρ (index.Name i) = Some (ρ i.0)
index_at ρ (index.Plus i k) = Some (ρ i.0 + k)
index_at ρ (index.Minus i k) = if nat_le k (ρ i.0) then Some (ρ i.0 - k) else None

-- the place that an item names
abbrev pub element_at : ℕ → Option ℕ → Option Place
element_at x (Some k) = Some (record { name = x; element = Some k })
element_at x None = None

abbrev pub place_with : Indices → ℕ → Option Index → Option Place
place_with ρ x None = Some (record { name = x; element = None })
place_with ρ x (Some i) = element_at x (index_at ρ i)

abbrev pub place_at : Indices → Item → Option Place
place_at ρ item = place_with ρ item.name.0 item.index

-- what an item stands for
abbrev pub sort_of_place : Sorts → Option Place → Option Sort
sort_of_place Γ (Some place) = sort_at Γ place.name place.element
sort_of_place Γ None = None
