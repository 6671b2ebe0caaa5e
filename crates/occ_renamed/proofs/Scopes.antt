-- Scopes under other names: what names stand for in them.
use Rattle.std.proofs.Common.{◌≡◌, ℕ, ◌+◌, ◌-◌, ◌==◌, ◌&&◌, ◌||◌, nat_lt, nat_le, if◌then◌else◌, List, [], ◌∷◌, Option, Some, None, is_none, refl, ap, ap₂, ◌∙◌}
use Rattle.occ_replay_rules.specs.occ_syntax.declared.scope.Kind.{Kind}
use Rattle.occ_replay_rules.specs.occ_parse_forms.declared.form.Declared.{Declared}
use Rattle.occ_replay_rules.specs.occ_parse_forms.declared.form.Declared.TheVariants as declared
use Rattle.occ_replay_rules.specs.occ_parse_forms.declared.form.Item.{Item}
use Rattle.occ_replay_rules.specs.occ_parse_forms.declared.form.Param.{Param}
use Rattle.occ_replay_rules.specs.occ_parse_forms.declared.phrase.Index.{Index}
use Rattle.occ_replay_rules.specs.occ_parse_forms.declared.phrase.Index.TheVariants as index
use Rattle.occ_replay_rules.specs.occ_parse_forms.Shape.{Said, item, numeral, typed, truth, negation, complement, operation}
use Rattle.occ_renamed.specs.Renamed.{all_declared_renamed, declared_renamed, index_renamed, indexed_renamed, item_renamed, params_renamed, place_renamed, said_renamed, sorts_renamed}
use Rattle.occ_renamed.specs.Standing.{IsOneForOne}
use Rattle.occ_replay_rules.specs.occ_parse_rules.Names.{index_counts, is_counter}
use Rattle.occ_replay_rules.specs.occ_parse_rules.Places.{Indices, Place, Sorts, declared_in, declares, element_at, entries_of, index_at, param_entries, place_at, place_with, sort_at, sort_of_place, with_index}
use Rattle.occ_replay_rules.specs.occ_parse_rules.Types.{channel_here, channel_sort, class, or_width, own, own_of_class, sort_here, sort_if, variable_here, variable_sort, width_of_sort}

-- the same values of the indices, by their other names
abbrev pub HaveSame : (ℕ → ℕ) → Indices → Indices → Type 0
HaveSame f ρ σ = (x : ℕ) → σ (f x) ≡ ρ x

abbrev pub found_renamed : (ℕ → ℕ) → Option Place → Option Place
found_renamed f None = None
found_renamed f (Some p) = Some (place_renamed f p)

module _ (f : ℕ → ℕ) (one : IsOneForOne f) where
  declares_renamed : (d : Declared) (x : ℕ) (k : Option ℕ) → declares (declared_renamed f d) (f x) k ≡ declares d x k
  declares_renamed (declared.Plain y) x None = one x y.0
  declares_renamed (declared.Plain y) x (Some k) = refl
  declares_renamed (declared.Element y j) x None = refl
  declares_renamed (declared.Element y j) x (Some k) = ap (λ b. b && k == j) (one x y.0)
  declares_renamed (declared.Array y n) x None = refl
  declares_renamed (declared.Array y n) x (Some k) = ap (λ b. b && nat_lt k n) (one x y.0)

  pub sort_renamed : (Γ : Sorts) (x : ℕ) (k : Option ℕ) → sort_at (sorts_renamed f Γ) (f x) k ≡ sort_at Γ x k
  sort_renamed [] x k = refl
  sort_renamed (entry ∷ Γ) x k =
      ap₂ (λ b o. if b then Some entry.sort else o) (declares_renamed entry.declared x k) (sort_renamed Γ x k)

  pub index_same : (ρ σ : Indices) → HaveSame f ρ σ → (x v : ℕ) → HaveSame f (with_index ρ x v) (with_index σ (f x) v)
  index_same ρ σ h x v y = ap₂ (λ b n. if b then v else n) (one y x) (h y)

  pub named_counts : (Γ : Sorts) (i : Option Index) → index_counts (sorts_renamed f Γ) (indexed_renamed f i) ≡ index_counts Γ i
  named_counts Γ None = refl
  named_counts Γ (Some (index.Number k)) = refl
  named_counts Γ (Some (index.Name i)) = ap is_counter (sort_renamed Γ i.0 None)
  named_counts Γ (Some (index.Plus i k)) = ap is_counter (sort_renamed Γ i.0 None)
  named_counts Γ (Some (index.Minus i k)) = ap is_counter (sort_renamed Γ i.0 None)

  pub is_none_renamed : (i : Option Index) → is_none (indexed_renamed f i) ≡ is_none i
  is_none_renamed None = refl
  is_none_renamed (Some i) = refl

  pub found_sort : (Γ : Sorts) (o : Option Place) → sort_of_place (sorts_renamed f Γ) (found_renamed f o) ≡ sort_of_place Γ o
  found_sort Γ None = refl
  found_sort Γ (Some p) = sort_renamed Γ p.name p.element

  element_renamed : (x : ℕ) (o : Option ℕ) → element_at (f x) o ≡ found_renamed f (element_at x o)
  element_renamed x None = refl
  element_renamed x (Some k) = refl

  module _ (ρ σ : Indices) (h : HaveSame f ρ σ) where
    value_same : (i : Index) → index_at σ (index_renamed f i) ≡ index_at ρ i
    value_same (index.Number k) = refl
    value_same (index.Name i) = ap Some (h i.0)
    value_same (index.Plus i k) = ap (λ n. Some (n + k)) (h i.0)
    value_same (index.Minus i k) = ap (λ n. if nat_le k n then Some (n - k) else None) (h i.0)

    place_at_renamed : (x : ℕ) (i : Option Index) → place_with σ (f x) (indexed_renamed f i) ≡ found_renamed f (place_with ρ x i)
    place_at_renamed x None = refl
    place_at_renamed x (Some i) = ap (element_at (f x)) (value_same i) ∙ element_renamed x (index_at ρ i)

    pub item_place : (i : Item) → place_at σ (item_renamed f i) ≡ found_renamed f (place_at ρ i)
    item_place i = place_at_renamed i.name.0 i.index

    pub sort_here_same : (Γ : Sorts) (i : Item) → sort_here (sorts_renamed f Γ) σ (item_renamed f i) ≡ sort_here Γ ρ i
    sort_here_same Γ i =
        ap₂ sort_if (ap₂ (λ b c. b || c) (is_none_renamed i.index) (named_counts Γ i.index))
        (ap (sort_of_place (sorts_renamed f Γ)) (item_place i) ∙ found_sort Γ (place_at ρ i))

    pub variable_same : (Γ : Sorts) (i : Item) → variable_here (sorts_renamed f Γ) σ (item_renamed f i) ≡ variable_here Γ ρ i
    variable_same Γ i = ap variable_sort (sort_here_same Γ i)

    pub channel_same : (Γ : Sorts) (i : Item) → channel_here (sorts_renamed f Γ) σ (item_renamed f i) ≡ channel_here Γ ρ i
    channel_same Γ i = ap channel_sort (sort_here_same Γ i)

    pub own_same : (Γ : Sorts) (e : Said) → own (sorts_renamed f Γ) σ (said_renamed f e) ≡ own Γ ρ e
    own_same Γ (item i) = ap width_of_sort (sort_here_same Γ i)
    own_same Γ (numeral value) = refl
    own_same Γ (typed value width) = refl
    own_same Γ (truth b) = refl
    own_same Γ (negation e) = refl
    own_same Γ (complement e) = own_same Γ e
    own_same Γ (operation op left right) = ap₂ (λ l r. own_of_class (class op) (or_width l r)) (own_same Γ left) (own_same Γ right)

-- ---- declarations in scope

pub declared_scope : (f : ℕ → ℕ) (Γ : Sorts) (k : Kind) (ds : List Declared)
    → declared_in (sorts_renamed f Γ) (entries_of k (all_declared_renamed f ds)) ≡ sorts_renamed f (declared_in Γ (entries_of k ds))
declared_scope f Γ k [] = refl
declared_scope f Γ k (d ∷ ds) = declared_scope f (record { declared = d; sort = _ } ∷ Γ) k ds

pub params_scope : (f : ℕ → ℕ) (Γ : Sorts) (ps : List Param)
    → declared_in (sorts_renamed f Γ) (param_entries (params_renamed f ps)) ≡ sorts_renamed f (declared_in Γ (param_entries ps))
params_scope f Γ [] = refl
params_scope f Γ (p ∷ ps) = params_scope f (record { declared = p.declared; sort = _ } ∷ Γ) ps
