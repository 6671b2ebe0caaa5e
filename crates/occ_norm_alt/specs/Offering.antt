-- Nodes that wait for events, and maps of a guard and what follows it.
use Rattle.std.specs.Prelude.{ℕ, ◌<◌, ◌≡◌, ◌^◌, ◌↔◌, Bool, true, false, List, [], ◌∷◌, Some, bit_xor}
use Rattle.occ_syntax.specs.occ_base.declared.event.Event.{Event}
use Rattle.occ_syntax.specs.occ_base.declared.names.Name.{Name}
use Rattle.occ_syntax.specs.occ_base.declared.width.Width.{Width}
use Rattle.occ_syntax.specs.Meaning.{After}
use Rattle.occ_syntax.specs.Scopes.{Environment, Values}
use Rattle.occ_syntax.specs.Tree.{Waiting}
use Rattle.occ_norm_frame.specs.occ_bits.Layout.{state_of}
use Rattle.occ_norm_frame.specs.occ_mdd.Maps.{value}
use Rattle.occ_norm_frame.specs.occ_mdd.declared.map.MapId.{MapId}
use Rattle.occ_norm_frame.specs.occ_node.Offers.{is_offered}
use Rattle.occ_norm_frame.specs.occ_node.World.{IsNode, row_of, fails, ends}
use Rattle.occ_norm_frame.specs.occ_node.declared.node.NodeId.{NodeId}
use Rattle.occ_norm_frame.specs.occ_node.declared.world.World.{World}
use Rattle.occ_norm_frame.specs.occ_weave.Weave.{is_open}
use Rattle.occ_norm_frame.specs.After.{change_of}

-- The node is stable at once and refuses what has none of the events that it takes; it hasn't ended, and after an event it
-- goes on so.
pub record IsOffering (w : World) (a : NodeId) (takes : Event → Type 0) (failing : Event → List Event → (Event → Bool) → Type 0)
    (ending : Event → List Event → ℕ → Type 0) : Type 0 where
  pub known : IsNode w a
  pub offers : (e : Event) → (is_offered (row_of w a).offers e ≡ true) ↔ takes e
  pub refuses : (X : Event → Bool) → (fails w a [] X ≡ true) ↔ ((e : Event) → takes e → X e ≡ false)
  pub not_ended : (z : ℕ) → z < 2 ^ 64 → ends w a [] z ≡ false
  pub fail_on : (e : Event) (t : List Event) (X : Event → Bool) → (fails w a (e ∷ t) X ≡ true) ↔ failing e t X
  pub end_on : (e : Event) (t : List Event) (z : ℕ) → z < 2 ^ 64 → (ends w a (e ∷ t) z ≡ true) ↔ ending e t z

-- from the state of an assignment the guard can take part in the event, which reaches the outside
pub record Takes (layout : List (Name × Width × ℕ)) (closed : List Name) (Γ : Environment) (wait : Waiting) (x : ℕ) (e : Event) : Type 0 where
  pub seen : is_open closed e ≡ true
  pub s : Values
  pub after : After Γ (state_of layout x) wait e s

-- the event, which reaches the outside, leads the guard to the state of an assignment, and this behaves so
pub record Leads (layout : List (Name × Width × ℕ)) (closed : List Name) (Γ : Environment) (wait : Waiting) (x : ℕ) (e : Event)
    (behaves : ℕ → Type 0) : Type 0 where
  pub seen : is_open closed e ≡ true
  pub y : ℕ
  pub below : y < 2 ^ 64
  pub after : After Γ (state_of layout x) wait e (state_of layout y)
  pub behaved : behaves y

-- the map has a node at the assignment, which behaves so
pub record At (w : World) (map : MapId) (y : ℕ) (behaves : NodeId → Bool) : Type 0 where
  pub m : NodeId
  pub leads : value w.maps map y ≡ Some m
  pub behaved : behaves m ≡ true

-- at the assignment the node of r waits for the events of the guard, and then goes on as that of `next`
abbrev pub IsGuardedAt : World → List (Name × Width × ℕ) → ℕ → List Name → Environment → Waiting → MapId → ℕ → NodeId → Type 0
IsGuardedAt w layout keep closed Γ wait next x a = IsOffering w a (Takes layout closed Γ wait x)
    (λ e t X. Leads layout closed Γ wait x e (λ y. At w next y (λ m. fails w m t X)))
    (λ e t z. Leads layout closed Γ wait x e (λ y. At w next y (λ m. ends w m t (bit_xor z (change_of keep x y)))))

-- the map r is that of the guard and then what the map `next` has
pub record IsGuarded (w : World) (layout : List (Name × Width × ℕ)) (keep : ℕ) (closed : List Name) (Γ : Environment) (wait : Waiting)
    (next r : MapId) : Type 0 where
  pub guarded : (x : ℕ) (a : NodeId) → x < 2 ^ 64 → value w.maps r x ≡ Some a → IsGuardedAt w layout keep closed Γ wait next x a
