-- Normal texts of programs.
use Rattle.std.specs.Prelude.{ℕ, ◌<◌, ◌≡◌, ◌^◌, ◌↔◌, true, List, Some, Ok}
use Rattle.occ_syntax.specs.occ_base.declared.names.Name.{Name}
use Rattle.occ_syntax.specs.declared.scope.Kind.{Kind}
use Rattle.occ_syntax.specs.Meaning.{fails as part_fails, ends as part_ends}
use Rattle.occ_syntax.specs.Scopes.{EventSet, Trace, environment}
use Rattle.occ_syntax.specs.Tree.{Tree}
use Rattle.occ_nform_rows.specs.occ_bits.Layout.{laid_out, state_of}
use Rattle.occ_nform_rows.specs.occ_mdd.Maps.{value}
use Rattle.occ_nform_rows.specs.occ_mdd.declared.map.MapId.{MapId}
use Rattle.occ_nform_rows.specs.occ_node.World.{fails, ends}
use Rattle.occ_nform_rows.specs.occ_node.declared.node.NodeId.{NodeId}
use Rattle.occ_nform_rows.specs.occ_node.declared.world.World.{World}
use Rattle.occ_nform_rows.specs.occ_nform_table.Behaviours.{Stands}
use Rattle.occ_nform_rows.specs.occ_nform_table.Normal.{Parts, text_read}

-- The root has the behaviours of a program's body: at each assignment the node of the map has exactly its failures and ends
-- from the state for which the assignment stands.
pub record IsRootOf (w : World) (params : List (Name × Kind)) (p : Tree) (states : MapId) : Type 0 where
  pub root_fails : (x : ℕ) (a : NodeId) → x < 2 ^ 64 → value w.maps states x ≡ Some a → (t : Trace) (X : EventSet)
      → (fails w a t X ≡ true) ↔ part_fails (environment params) p (state_of (laid_out 0 params) x) t X
  pub root_ends : (x : ℕ) (a : NodeId) → x < 2 ^ 64 → value w.maps states x ≡ Some a → (t : Trace) (z : ℕ) → z < 2 ^ 64
      → (ends w a t z ≡ true) ↔ part_ends (environment params) p (state_of (laid_out 0 params) x) t (state_of (laid_out 0 params) z)

-- The text is the normal one of a program with these parameters: it reads as a table that stands for the program.
pub record IsNormalText (names : List (List ℕ)) (params : List (Name × Kind)) (p : Tree) (text : List ℕ) : Type 0 where
  pub table : Parts
  pub reads : text_read names text ≡ Ok table
  pub names_are : table.names ≡ names
  pub params_are : table.params ≡ params
  pub stands : Stands params table.rows table.states p
