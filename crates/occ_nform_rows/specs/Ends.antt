-- The final states of a node: the members of a set in the order of their states.
use Rattle.std.specs.Prelude.{ℕ, zero, suc, ◌+◌, ◌/◌, ◌%◌, ◌^◌, ◌<◌, ◌≤◌, ◌≡◌, ◌==◌, Bool, List, [], ◌∷◌, ◌++◌, if◌then◌else◌}
use Rattle.std.specs.List.{list_any}
use Rattle.occ_syntax.specs.occ_base.declared.names.Name.{Name}
use Rattle.occ_syntax.specs.declared.scope.Kind.{Kind}
use Rattle.occ_syntax.specs.declared.scope.Kind.TheVariants.{Var, Chan}
use Rattle.occ_syntax.specs.Counts.{bits_of_scope}
use Rattle.occ_compare.specs.Places.{number_in}
use Rattle.occ_compare.specs.occ_dd.Store.{IsKnown, depth, has}
use Rattle.occ_compare.specs.occ_dd.declared.set.SetId.{SetId}
use Rattle.occ_compare.specs.occ_dd.declared.store.Store.{Store}

-- the state that has a place among the states, each value by its lowest eight bits
abbrev pub byte_state_at : List (Name × Kind) → ℕ → List (Name × ℕ)
byte_state_at [] k = []
byte_state_at ((name, Chan width dir) ∷ params) k = byte_state_at params k
byte_state_at ((name, Var width) ∷ params) k =
    (name, k / 2 ^ bits_of_scope params % 256) ∷ byte_state_at params (k % 2 ^ bits_of_scope params)

-- The places of the assignments that begin with `first` and end in so many bits that pass a test, in the order of the
-- assignments.
unfoldable pub places_of : List (Name × Kind) → (ℕ → Bool) → ℕ → ℕ → List ℕ
places_of params test zero first = if test 0 then number_in params first ∷ [] else []
places_of params test (suc level) first =
    places_of params test level first ++ places_of params (λ x. test (2 ^ level + x)) level (first + 2 ^ level)

-- the two parts of a set at a bit, as sets of the lower bits
pub record AreHalves (s : Store) (set : SetId) (bit : ℕ) (low high : SetId) : Type 0 where
  pub low_known : IsKnown s low
  pub high_known : IsKnown s high
  pub low_depth : depth s low ≤ bit
  pub high_depth : depth s high ≤ bit
  pub low_members : (x : ℕ) → x < 2 ^ bit → has s low x ≡ has s set x
  pub high_members : (x : ℕ) → x < 2 ^ bit → has s high x ≡ has s set (2 ^ bit + x)

-- whether a number is one of some numbers
abbrev pub has_number : List ℕ → ℕ → Bool
has_number numbers k = list_any (λ n. n == k) numbers
