use Rattle.std.specs.Prelude.{ℕ, ◌<◌, ◌≤◌, ◌≡◌, ◌^◌, Bool, false, List, length, slice_index_or, if◌then◌else◌}
use Rattle.occ_dd.specs.Diagram.{Keeps, depth_of, end_of}
use Rattle.occ_dd.specs.Table.{nodes_of}
use Rattle.occ_dd.specs.Store.{row_of}
use Rattle.occ_dd.specs.declared.set.SetId.{SetId}
use Rattle.occ_dd.specs.declared.store.Store.{Store}

-- the nodes stay, and so do the two constant sets
pub record Grows (old new : Store) : Type 0 where
  pub nodes : Keeps (nodes_of old.table) (nodes_of new.table)
  pub empty : new.empty ≡ old.empty
  pub full : new.full ≡ old.full

-- the least member of a node, which has only bits below the node's depth
pub record IsLeastOf (s : Store) (id m : ℕ) : Type 0 where
  pub small : m < 2 ^ depth_of (nodes_of s.table) id
  pub member : end_of (nodes_of s.table) id m ≡ s.full
  pub least : (x : ℕ) → end_of (nodes_of s.table) id x ≡ s.full → m ≤ x

-- r is the function of a truth table
pub record IsRows (old new : Store) (rows : List Bool) (inputs : List SetId) (r : ℕ) : Type 0 where
  pub known : r < length (nodes_of new.table)
  pub ends : (x : ℕ) → end_of (nodes_of new.table) r x ≡ (if slice_index_or rows (row_of old inputs x) false then new.full else new.empty)
