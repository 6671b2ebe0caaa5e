-- What a map from states to nodes has of a process and of what follows it.
use Rattle.std.specs.Prelude.{ℕ, ◌<◌, ◌≡◌, ◌^◌, ◌↔◌, ◌⊎◌, ◌++◌, Bool, true, List, Some, bit_and, bit_xor}
use Rattle.std.specs.Int.{bit_at}
use Rattle.occ_syntax.specs.occ_base.declared.event.Event.{Event}
use Rattle.occ_syntax.specs.occ_base.declared.names.Name.{Name}
use Rattle.occ_syntax.specs.occ_base.declared.width.Width.{Width}
use Rattle.occ_syntax.specs.Meaning.{fails as part_fails, ends as part_ends}
use Rattle.occ_syntax.specs.Scopes.{Environment}
use Rattle.occ_syntax.specs.Tree.{Tree}
use Rattle.occ_bits.specs.Layout.{state_of}
use Rattle.occ_weave.specs.occ_mdd.Maps.{value}
use Rattle.occ_weave.specs.occ_mdd.declared.map.MapId.{MapId}
use Rattle.occ_weave.specs.occ_node.World.{fails, ends}
use Rattle.occ_weave.specs.occ_node.declared.node.NodeId.{NodeId}
use Rattle.occ_weave.specs.occ_node.declared.world.World.{World}
use Rattle.occ_follow.specs.Sequence.{HasNodes}
use Rattle.occ_weave.specs.Weave.{is_silent_on, off_channels}

-- the assignments have the same bits below n
abbrev pub AgreeBelow : ℕ → ℕ → ℕ → Type 0
AgreeBelow n x y = (k : ℕ) → k < n → bit_at x k ≡ bit_at y k

-- The map has a node of the world at every assignment, and its bits from n on don't matter.
pub record IsOver (w : World) (n : ℕ) (map : MapId) : Type 0 where
  pub has : HasNodes w map
  pub same : (x y : ℕ) → x < 2 ^ 64 → y < 2 ^ 64 → AgreeBelow n x y → value w.maps map x ≡ value w.maps map y

-- the bits of `keep` that differ in two assignments
abbrev pub change_of : ℕ → ℕ → ℕ → ℕ
change_of keep x y = bit_and (bit_xor x y) keep

-- From the state of an assignment the part can be stable after the trace and refuse the set, where nothing on the closed
-- channels reaches the outside.
abbrev pub QuietlyFails : List (Name × Width × ℕ) → List Name → Environment → Tree → ℕ → List Event → (Event → Bool) → Type 0
QuietlyFails layout closed Γ p x t X = (is_silent_on closed t ≡ true) × part_fails Γ p (state_of layout x) t (off_channels closed X)

-- After a first part of the trace, with nothing on the closed channels, the part has ended in the state of an assignment,
-- and the map's node of that behaves so with the rest of the trace.
pub record Resumes (w : World) (layout : List (Name × Width × ℕ)) (closed : List Name) (Γ : Environment) (p : Tree) (rest : MapId) (x : ℕ)
    (behaves : ℕ → NodeId → List Event → Bool) (t : List Event) : Type 0 where
  pub t1 : List Event
  pub t2 : List Event
  pub y : ℕ
  pub m : NodeId
  pub whole : t ≡ t1 ++ t2
  pub below : y < 2 ^ 64
  pub silent : is_silent_on closed t1 ≡ true
  pub ended : part_ends Γ p (state_of layout x) t1 (state_of layout y)
  pub leads : value w.maps rest y ≡ Some m
  pub behaved : behaves y m t2 ≡ true

-- The map r is that of the part and then what the map `rest` has. At each assignment its node fails as the part does from
-- that state, and wherever the part ends, it goes on as the node of `rest` there. The ends of a node say which bits of
-- `keep` change: those that the part changes are turned in the ends of what follows.
pub record IsAfter (w : World) (layout : List (Name × Width × ℕ)) (keep : ℕ) (closed : List Name) (Γ : Environment) (p : Tree) (rest r : MapId) : Type 0 where
  pub after_fails : (x : ℕ) (a : NodeId) → x < 2 ^ 64 → value w.maps r x ≡ Some a → (t : List Event) (X : Event → Bool)
      → (fails w a t X ≡ true) ↔ (QuietlyFails layout closed Γ p x t X ⊎ Resumes w layout closed Γ p rest x (λ y m u. fails w m u X) t)
  pub after_ends : (x : ℕ) (a : NodeId) → x < 2 ^ 64 → value w.maps r x ≡ Some a → (t : List Event) (z : ℕ) → z < 2 ^ 64
      → (ends w a t z ≡ true) ↔ Resumes w layout closed Γ p rest x (λ y m u. ends w m u (bit_xor z (change_of keep x y))) t

-- the part leaves all bits below n as they are but those in `written`
abbrev pub WritesWithin : List (Name × Width × ℕ) → ℕ → ℕ → Environment → Tree → Type 0
WritesWithin layout n written Γ p = (x y : ℕ) (t : List Event) → part_ends Γ p (state_of layout x) t (state_of layout y)
    → (k : ℕ) → k < n → bit_at written k ≡ 0 → bit_at x k ≡ bit_at y k
