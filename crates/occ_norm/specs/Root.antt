-- What the behaviours of a program are as a map of nodes.
use Rattle.std.specs.Prelude.{ℕ, ◌<◌, ◌≡◌, ◌^◌, ◌↔◌, Bool, true, List, Some}
use Rattle.occ_syntax.specs.occ_base.declared.event.Event.{Event}
use Rattle.occ_syntax.specs.occ_base.declared.names.Name.{Name}
use Rattle.occ_syntax.specs.declared.scope.Kind.{Kind}
use Rattle.occ_syntax.specs.Counts.{bits_of_scope}
use Rattle.occ_syntax.specs.Meaning.{fails as part_fails, ends as part_ends}
use Rattle.occ_syntax.specs.Scopes.{environment}
use Rattle.occ_syntax.specs.Tree.{Tree}
use Rattle.occ_compare.specs.occ_bits.Layout.{laid_out, state_of}
use Rattle.occ_compare.specs.occ_mdd.Maps.{value}
use Rattle.occ_compare.specs.occ_mdd.declared.map.MapId.{MapId}
use Rattle.occ_compare.specs.occ_node.World.{fails, ends}
use Rattle.occ_compare.specs.occ_node.declared.node.NodeId.{NodeId}
use Rattle.occ_compare.specs.occ_node.declared.world.World.{World}
use Rattle.occ_norm_alt.specs.occ_norm_frame.After.{IsOver}

-- The map has a node at every assignment of the bits of the parameters' variables. Its node at an assignment has exactly the
-- failures and the ends of the body from the state for which the assignment stands: it ends in the assignments that stand
-- for the final states. Other bits don't matter.
pub record IsRoot (w : World) (params : List (Name × Kind)) (p : Tree) (states : MapId) : Type 0 where
  pub over : IsOver w (bits_of_scope params) states
  pub root_fails : (x : ℕ) (a : NodeId) → x < 2 ^ 64 → value w.maps states x ≡ Some a → (t : List Event) (X : Event → Bool)
      → (fails w a t X ≡ true) ↔ part_fails (environment params) p (state_of (laid_out 0 params) x) t X
  pub root_ends : (x : ℕ) (a : NodeId) → x < 2 ^ 64 → value w.maps states x ≡ Some a → (t : List Event) (z : ℕ) → z < 2 ^ 64
      → (ends w a t z ≡ true) ↔ part_ends (environment params) p (state_of (laid_out 0 params) x) t (state_of (laid_out 0 params) z)
