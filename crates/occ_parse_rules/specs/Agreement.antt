-- The environment of a program beside the scope of its lines: each place that is known stands for the same thing in both.
use Rattle.std.specs.Prelude.{ℕ, ◌≡◌, Bool, true, false, List, [], ◌∷◌, Option, Some, None, ◌==◌}
use Rattle.std.specs.List.{AllByRecursion, flat_map, list_any}
use Rattle.occ_meaning.specs.occ_syntax.declared.scope.Kind.{Kind}
use Rattle.occ_meaning.specs.occ_syntax.declared.scope.Kind.TheVariants as kind
use Rattle.occ_meaning.specs.occ_syntax.Scopes.{Environment}
use Rattle.occ_meaning.specs.occ_syntax.Types.{is_width}
use Rattle.occ_parse_forms.specs.declared.form.Declared.TheVariants as declared
use Rattle.occ_parse_forms.specs.declared.form.Times.{Times}
use Rattle.occ_parse_forms.specs.Shape.{Shape, header, group, declare}
use Rattle.occ_parse_rules.specs.declared.sort.Entry.{Entry}
use Rattle.occ_parse_rules.specs.declared.sort.Sort.{Sort}
use Rattle.occ_parse_rules.specs.declared.sort.Sort.TheVariants as sort
use Rattle.occ_parse_rules.specs.Forest.{Forest, no_line, and_line}
use Rattle.occ_parse_rules.specs.Places.{Place, Sorts, Indices, places, sort_at, values_of, with_index}
use Rattle.occ_parse_rules.specs.Unrolled.{Numbers}

-- the places that a table of names has numbers for
abbrev pub Known : Type 0
Known = ℕ → Option ℕ → Bool

abbrev pub Has : Known → ℕ → Option ℕ → Type 0
Has D x k = D x k ≡ true

-- no two known places have one number
pub record IsOneToOne (D : Known) (N : Numbers) : Type 0 where
  pub name : (x : ℕ) (k : Option ℕ) (y : ℕ) (j : Option ℕ) → Has D x k → Has D y j → N x k ≡ N y j → x ≡ y
  pub element : (x : ℕ) (k : Option ℕ) (y : ℕ) (j : Option ℕ) → Has D x k → Has D y j → N x k ≡ N y j → k ≡ j

-- the kind of what a sort stands for; a replicator's index is no name of the program
abbrev pub kind_of : Option Sort → Option Kind
kind_of (Some (sort.Variable width)) = Some (kind.Var width)
kind_of (Some (sort.Channel width mark)) = Some (kind.Chan width mark)
kind_of (Some (sort.Counter b n)) = None
kind_of None = None

-- the widths of what is in scope are widths
abbrev pub sort_has_width : Sort → Bool
sort_has_width (sort.Variable width) = is_width width
sort_has_width (sort.Channel width mark) = is_width width
sort_has_width (sort.Counter b n) = true

pub record Agrees (D : Known) (N : Numbers) (Γ : Sorts) (E : Environment) : Type 0 where
  pub agree : (x : ℕ) (k : Option ℕ) → Has D x k → E (N x k) ≡ kind_of (sort_at Γ x k)
  pub inside : (x : ℕ) (k : Option ℕ) (s : Sort) → sort_at Γ x k ≡ Some s → Has D x k
  pub widths : (x : ℕ) (k : Option ℕ) (s : Sort) → sort_at Γ x k ≡ Some s → sort_has_width s ≡ true

-- the places that a line declares
abbrev pub declared_places : Shape → List Place
declared_places (header name params) = flat_map (λ p. places p.declared) params
declared_places (group g (Some times)) = record { name = times.index.0; element = None } ∷ []
declared_places (declare k ds) = flat_map places ds
declared_places other = []

abbrev pub AreIn : Known → List Place → Type 0
AreIn D ps = AllByRecursion (λ p. Has D p.name p.element) ps

abbrev pub AreKnown : Known → Forest → Type 0
AreKnown D no_line = Unit {0}
AreKnown D (and_line number s below rest) = AreIn D (declared_places s) × (AreKnown D below × AreKnown D rest)

abbrev pub is_counter_sort : Sort → Bool
is_counter_sort (sort.Counter b n) = true
is_counter_sort (sort.Variable width) = false
is_counter_sort (sort.Channel width mark) = false

-- The values of the indices in scope at some copy of a line, or at the base of an index that takes no value.
pub data IsTaken : Sorts → Indices → Type 0 where
  at_first : IsTaken [] (λ i. 0)
  behind_name : {entry : Entry} {Γ : Sorts} {ρ : Indices} → is_counter_sort entry.sort ≡ false → IsTaken Γ ρ → IsTaken (entry ∷ Γ) ρ
  behind_index : {Γ : Sorts} {ρ : Indices} (times : Times) (v : ℕ) → list_any (λ u. v == u) (values_of times.base times.count) ≡ true → IsTaken Γ ρ
      → IsTaken (record { declared = declared.Plain times.index; sort = sort.Counter times.base times.count } ∷ Γ) (with_index ρ times.index.0 v)
