-- When two tables have the same behaviours.
use Rattle.std.specs.Prelude.{ℕ, ◌^◌, ◌<◌, ◌≡◌, false, get_or, List}
use Rattle.occ_lex.specs.occ_base.declared.event.Event.{Event}
use Rattle.occ_syntax.specs.Counts.{bits_of_scope}
use Rattle.occ_syntax.specs.Scopes.{EventSet}
use Rattle.occ_nform_table.specs.Normal.{Parts}
use Rattle.occ_nform_table.specs.Behaviours.{IsOfInterface, row_ends, row_fails}

-- from each initial state both tables have the same failures and the same ends, over the events of the interface
pub record HaveSameBehaviours (a b : Parts) : Type 0 where
  pub same_fails : (k : ℕ) (trace : List Event) (X : EventSet) → k < 2 ^ bits_of_scope a.params → IsOfInterface a.params trace X
      → row_fails a.rows (get_or a.states k 0) trace X ≡ row_fails b.rows (get_or b.states k 0) trace X
  pub same_ends : (k place : ℕ) (trace : List Event) → k < 2 ^ bits_of_scope a.params → place < 2 ^ bits_of_scope a.params → IsOfInterface a.params trace (λ e. false)
      → row_ends a.params a.rows (get_or a.states k 0) trace place ≡ row_ends b.params b.rows (get_or b.states k 0) trace place
