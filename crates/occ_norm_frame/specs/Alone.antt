-- What a map has of a part that nothing follows.
use Rattle.std.specs.Prelude.{ℕ, ◌+◌, ◌%◌, ◌<◌, ◌≡◌, ◌==◌, ◌^◌, ◌↔◌, Bool, true, false, List, [], ◌∷◌, Some, bit_and, bit_xor, if◌then◌else◌}
use Rattle.std.specs.Int.{bit_at}
use Rattle.occ_syntax.specs.occ_base.declared.event.Event.{Event}
use Rattle.occ_syntax.specs.occ_base.declared.names.Name.{Name}
use Rattle.occ_syntax.specs.occ_base.declared.width.Width.{Width}
use Rattle.occ_bits.specs.Layout.{state_of}
use Rattle.occ_weave.specs.occ_mdd.Maps.{value}
use Rattle.occ_weave.specs.occ_mdd.declared.map.MapId.{MapId}
use Rattle.occ_weave.specs.occ_node.World.{ends, fails}
use Rattle.occ_weave.specs.occ_node.declared.node.NodeId.{NodeId}
use Rattle.occ_weave.specs.occ_node.declared.world.World.{World}
use Rattle.occ_syntax.specs.Meaning.{ends as part_ends}
use Rattle.occ_syntax.specs.Scopes.{Environment}
use Rattle.occ_syntax.specs.Tree.{Tree}
use Rattle.occ_weave.specs.Weave.{is_silent_on}
use Rattle.occ_norm_frame.specs.After.{QuietlyFails}

-- some bits without others
abbrev pub except : ℕ → ℕ → ℕ
except bits others = bit_xor bits (bit_and bits others)

-- those of some bits in z are the ones that differ in x and y
abbrev pub AreChanged : ℕ → ℕ → ℕ → ℕ → Type 0
AreChanged all x y z = (k : ℕ) → k < 64 → bit_at all k ≡ 1 → bit_at z k ≡ (bit_at x k + bit_at y k) % 2

-- After the trace, with nothing on the closed channels, the part has ended. Of the bits of `all`, z has the changes of those
-- of `keep` and the values of the others.
pub record Stops (layout : List (Name × Width × ℕ)) (all keep : ℕ) (closed : List Name) (Γ : Environment) (p : Tree) (x : ℕ) (t : List Event) (z : ℕ) : Type 0 where
  pub y : ℕ
  pub below : y < 2 ^ 64
  pub silent : is_silent_on closed t ≡ true
  pub ended : part_ends Γ p (state_of layout x) t (state_of layout y)
  pub changed : AreChanged all (bit_and x keep) y z

-- the map's nodes are the part alone, where nothing on the closed channels reaches the outside
pub record IsPart (w : World) (layout : List (Name × Width × ℕ)) (all keep : ℕ) (closed : List Name) (Γ : Environment) (p : Tree) (r : MapId) : Type 0 where
  pub alone_fails : (x : ℕ) (a : NodeId) → x < 2 ^ 64 → value w.maps r x ≡ Some a → (t : List Event) (X : Event → Bool) → (fails w a t X ≡ true) ↔ QuietlyFails layout closed Γ p x t X
  pub alone_ends : (x : ℕ) (a : NodeId) → x < 2 ^ 64 → value w.maps r x ≡ Some a → (t : List Event) (z : ℕ) → z < 2 ^ 64
      → (ends w a t z ≡ true) ↔ Stops layout all keep closed Γ p x t z

-- At each assignment the map's node has ended. Of the bits of `all`, those of `keep` are 0 then, as nothing has changed, and
-- the others have their values.
pub record IsEnding (w : World) (all keep : ℕ) (r : MapId) : Type 0 where
  pub never_fails : (x : ℕ) (a : NodeId) → x < 2 ^ 64 → value w.maps r x ≡ Some a → (t : List Event) (X : Event → Bool) → fails w a t X ≡ false
  pub ends_now : (x : ℕ) (a : NodeId) → x < 2 ^ 64 → value w.maps r x ≡ Some a → (z : ℕ) → z < 2 ^ 64
      → (ends w a [] z ≡ true) ↔ ((k : ℕ) → k < 64 → bit_at all k ≡ 1 → bit_at z k ≡ (if bit_at keep k == 1 then 0 else bit_at x k))
  pub ends_once : (x : ℕ) (a : NodeId) → x < 2 ^ 64 → value w.maps r x ≡ Some a → (e : Event) (t : List Event) (z : ℕ) → z < 2 ^ 64 → ends w a (e ∷ t) z ≡ false
