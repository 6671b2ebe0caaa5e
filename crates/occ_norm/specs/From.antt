-- Maps of a part and of what follows it that are right in the states of a set.
use Rattle.std.specs.Prelude.{ℕ, ◌<◌, ◌≡◌, ◌^◌, ◌↔◌, ◌⊎◌, Bool, true, List, Some, bit_xor}
use Rattle.occ_syntax.specs.occ_base.declared.event.Event.{Event}
use Rattle.occ_syntax.specs.occ_base.declared.names.Name.{Name}
use Rattle.occ_syntax.specs.occ_base.declared.width.Width.{Width}
use Rattle.occ_compare.specs.occ_dd.Store.{has}
use Rattle.occ_compare.specs.occ_dd.declared.set.SetId.{SetId}
use Rattle.occ_syntax.specs.declared.scope.Kind.{Kind}
use Rattle.occ_syntax.specs.Scopes.{Environment}
use Rattle.occ_syntax.specs.Tree.{Tree}
use Rattle.occ_syntax.specs.Types.{types_kept}
use Rattle.occ_compare.specs.occ_mdd.Maps.{value}
use Rattle.occ_compare.specs.occ_mdd.declared.map.MapId.{MapId}
use Rattle.occ_compare.specs.occ_node.World.{fails, ends}
use Rattle.occ_compare.specs.occ_node.declared.node.NodeId.{NodeId}
use Rattle.occ_compare.specs.occ_node.declared.world.World.{World}
use Rattle.occ_norm_alt.specs.occ_norm_frame.After.{IsOver, QuietlyFails, Resumes, change_of}
use Rattle.occ_norm_alt.specs.occ_norm_frame.Placed.{IsAround}
use Rattle.occ_norm_alt.specs.occ_norm_frame.declared.frame.Frame.{Frame}
use Rattle.occ_norm_par.specs.States.{AreStates}
use Rattle.occ_norm.specs.declared.after.Span.{Span}

-- At the assignments that pass the test the map r is that of the part and then what the map `rest` has. Elsewhere nothing is said
-- of it.
pub record IsAfterFrom (w : World) (layout : List (Name × Width × ℕ)) (keep : ℕ) (closed : List Name) (Γ : Environment)
    (from : ℕ → Bool) (p : Tree) (rest r : MapId) : Type 0 where
  pub after_fails : (x : ℕ) (a : NodeId) → x < 2 ^ 64 → from x ≡ true → value w.maps r x ≡ Some a → (t : List Event) (X : Event → Bool)
      → (fails w a t X ≡ true) ↔ (QuietlyFails layout closed Γ p x t X ⊎ Resumes w layout closed Γ p rest x (λ y m u. fails w m u X) t)
  pub after_ends : (x : ℕ) (a : NodeId) → x < 2 ^ 64 → from x ≡ true → value w.maps r x ≡ Some a → (t : List Event) (z : ℕ) → z < 2 ^ 64
      → (ends w a t z ≡ true) ↔ Resumes w layout closed Γ p rest x (λ y m u. ends w m u (bit_xor z (change_of keep x y))) t

-- wherever the part keeps types among these variables
abbrev pub IsAfterFromIn : World → List (Name × Kind) → List (Name × Width × ℕ) → ℕ → List Name → (ℕ → Bool) → Tree → MapId → MapId → Type 0
IsAfterFromIn w vars layout keep closed from p rest r =
    (Γ : Environment) → IsAround Γ vars → types_kept p Γ ≡ true → IsAfterFrom w layout keep closed Γ from p rest r

-- the same in the states of a set, in a frame
abbrev pub IsFront : World → Frame → SetId → Tree → MapId → MapId → Type 0
IsFront w frame from p rest r = IsAfterFromIn w frame.vars frame.layout frame.keep frame.closed.items (has w.store from) p rest r

-- the states in which a part begins are a set over the frame's bits, and the map of what follows is one over them
pub record IsSpan (w : World) (frame : Frame) (span : Span) : Type 0 where
  pub states : AreStates w.store frame.bits span.from
  pub rest_over : IsOver w frame.bits span.rest
