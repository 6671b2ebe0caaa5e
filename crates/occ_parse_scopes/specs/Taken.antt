-- The values that the indices in scope take together.
use Rattle.std.specs.Prelude.{ℕ, ◌==◌, ◌≡◌, Bool, true, if◌then◌else◌, List, [], ◌∷◌}
use Rattle.std.specs.List.{list_any}
use Rattle.occ_parse_forms.specs.declared.form.Declared.{Declared}
use Rattle.occ_parse_forms.specs.declared.form.Declared.TheVariants as declared
use Rattle.occ_parse_rules.specs.declared.sort.Sort.{Sort}
use Rattle.occ_parse_rules.specs.declared.sort.Sort.TheVariants as sort
use Rattle.occ_parse_rules.specs.Places.{Sorts, Indices, values_of}

abbrev pub counted : Declared → Sort → ℕ → List ℕ → List ℕ
counted (declared.Plain i) (sort.Counter b n) j others = if j == i.0 then values_of b n else others
counted d s j others = others

-- the values that an index takes: those of the newest replicator of that name, or 0 alone where there is none
abbrev pub index_values : Sorts → ℕ → List ℕ
index_values [] j = 0 ∷ []
index_values (entry ∷ Γ) j = counted entry.declared entry.sort j (index_values Γ j)

-- whether a number is among others
abbrev pub is_among : ℕ → List ℕ → Bool
is_among v vs = list_any (λ u. v == u) vs

-- each index has one of the values that it takes
abbrev pub Takes : Sorts → Indices → Type 0
Takes Γ ρ = (j : ℕ) → is_among (ρ j) (index_values Γ j) ≡ true
