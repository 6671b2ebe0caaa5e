-- Sets of states, and the states that a part reaches from those of a set.
use Rattle.std.specs.Prelude.{ℕ, ◌+◌, ◌<◌, ◌≡◌, ◌&&◌, not, true, List, get_or, length}
use Rattle.std.specs.Int.{bit_at}
use Rattle.occ_syntax.specs.occ_base.declared.event.Event.{Event}
use Rattle.occ_syntax.specs.occ_base.declared.names.Name.{Name}
use Rattle.occ_syntax.specs.occ_base.declared.width.Width.{Width}
use Rattle.occ_norm_frame.specs.occ_bits.Layout.{environment_in, state_of}
use Rattle.occ_norm_frame.specs.occ_dd.Store.{IsKnown, has}
use Rattle.occ_norm_frame.specs.occ_dd.declared.set.SetId.{SetId}
use Rattle.occ_norm_frame.specs.occ_dd.declared.store.Store.{Store}
use Rattle.occ_syntax.specs.declared.expr.Expr.{Expr}
use Rattle.occ_syntax.specs.declared.proc.Proc.{Proc, Skip}
use Rattle.occ_syntax.specs.declared.scope.Kind.{Kind}
use Rattle.occ_syntax.specs.Eval.{is_true}
use Rattle.occ_syntax.specs.Meaning.{ends as part_ends}
use Rattle.occ_syntax.specs.Scopes.{Environment}
use Rattle.occ_syntax.specs.Tree.{Tree}
use Rattle.occ_syntax.specs.Types.{types_kept}
use Rattle.occ_syntax.specs.View.{exp, tree}
use Rattle.occ_norm_frame.specs.After.{AgreeBelow}
use Rattle.occ_norm_frame.specs.Placed.{IsAround}

-- the set is one of the store, and its bits from n on don't matter
pub record AreStates (s : Store) (n : ℕ) (a : SetId) : Type 0 where
  pub known : IsKnown s a
  pub same : (x y : ℕ) → AgreeBelow n x y → has s a x ≡ has s a y

-- from each state of the first set the part ends in states of the second one alone, wherever it keeps types among these variables
abbrev pub EndsIn : Store → List (Name × Kind) → List (Name × Width × ℕ) → Tree → SetId → SetId → Type 0
EndsIn s vars layout p from to = (Γ : Environment) → IsAround Γ vars → types_kept p Γ ≡ true → (x y : ℕ) (t : List Event)
    → has s from x ≡ true → part_ends Γ p (state_of layout x) t (state_of layout y) → has s to y ≡ true

-- r has all assignments that differ from a member of the set in some of the bits below n at most
abbrev pub HasFreed : Store → ℕ → ℕ → SetId → SetId → Type 0
HasFreed s n bits from r = (x y : ℕ) → has s from x ≡ true
    → ((k : ℕ) → k < n → bit_at bits k ≡ 0 → bit_at x k ≡ bit_at y k) → has s r y ≡ true

-- r has each member of the second set that goes with some member of the first
abbrev pub HasThose : Store → (ℕ → ℕ → Type 0) → SetId → SetId → SetId → Type 0
HasThose s Goes from to r = (x y : ℕ) → has s from x ≡ true → has s to y ≡ true → Goes x y → has s r y ≡ true

-- the set in that place
abbrev pub set_at : List SetId → ℕ → SetId
set_at sets i = get_or sets i (record { 0 = 0 })

-- The sets stand in front of each part and behind the last one. The first is that set, and each part ends from those in front
-- of it in those behind it alone.
pub record AreBetween (s : Store) (vars : List (Name × Kind)) (layout : List (Name × Width × ℕ)) (n : ℕ) (from : SetId)
    (parts : List Proc) (sets : List SetId) : Type 0 where
  pub count : length sets ≡ length parts + 1
  pub first : set_at sets 0 ≡ from
  pub states : (i : ℕ) → i < length sets → AreStates s n (set_at sets i)
  pub ends : (i : ℕ) → i < length parts → EndsIn s vars layout (tree (get_or parts i Skip)) (set_at sets i) (set_at sets (i + 1))

-- The sets stand in front of each choice of an IF and behind the last one. The first is that set, and each next one has those
-- states of it in which the condition between them isn't TRUE.
pub record AreLeft (s : Store) (layout : List (Name × Width × ℕ)) (n : ℕ) (from : SetId) (choices : List (Expr × Proc)) (sets : List SetId) : Type 0 where
  pub count : length sets ≡ length choices + 1
  pub first : set_at sets 0 ≡ from
  pub states : (i : ℕ) → i < length sets → AreStates s n (set_at sets i)
  pub left : (i : ℕ) (c : Expr × Proc) → i < length choices → c ≡ get_or choices i c → (x : ℕ)
      → has s (set_at sets (i + 1)) x ≡ (has s (set_at sets i) x && not (is_true (environment_in layout) (exp c.0) (state_of layout x)))
