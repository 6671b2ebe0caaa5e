-- The values of a replicator's index on which what an item stands for depends.
use Rattle.std.specs.Prelude.{ℕ, ◌==◌, Bool, false, List, [], ◌∷◌, Option, Some, None}
use Rattle.occ_parse_forms.specs.declared.form.Item.{Item}
use Rattle.occ_parse_forms.specs.declared.phrase.Index.{Index}
use Rattle.occ_parse_rules.specs.declared.sort.Sort.{Sort}
use Rattle.occ_parse_rules.specs.declared.sort.Sort.TheVariants as sort
use Rattle.occ_parse_rules.specs.Names.{index_name}
use Rattle.occ_parse_rules.specs.Places.{Sorts, sort_at, values_of}
use Rattle.occ_parse_rules.specs.Types.{sort_here}

-- the name in the index of an item, where it has an index and that has a name
abbrev pub name_in : Option Index → Option ℕ
name_in None = None
name_in (Some i) = index_name i

-- whether two items have the same name in their indices
abbrev pub same_name : Option ℕ → Option ℕ → Bool
same_name None y = false
same_name (Some x) None = false
same_name (Some x) (Some y) = x == y

-- the values of a replicator's index; for anything else 0 alone, which isn't looked at
abbrev pub turns_of : Option Sort → List ℕ
turns_of (Some (sort.Counter b n)) = values_of b n
turns_of (Some (sort.Variable width)) = 0 ∷ []
turns_of (Some (sort.Channel width mark)) = 0 ∷ []
turns_of None = 0 ∷ []

abbrev pub turns_by_name : Sorts → Option ℕ → List ℕ
turns_by_name Γ None = 0 ∷ []
turns_by_name Γ (Some x) = turns_of (sort_at Γ x None)

abbrev pub turns : Sorts → Item → List ℕ
turns Γ i = turns_by_name Γ (name_in i.index)

-- what an item stands for where the name in its index has that value
abbrev pub sort_turn : Sorts → Item → ℕ → Option Sort
sort_turn Γ i v = sort_here Γ (λ x. v) i
