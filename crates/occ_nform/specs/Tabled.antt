-- The normal table of a program.
use Rattle.std.specs.Prelude.{ℕ, ◌≡◌, List}
use Rattle.occ_syntax.specs.occ_base.declared.names.Name.{Name}
use Rattle.occ_syntax.specs.declared.scope.Kind.{Kind}
use Rattle.occ_syntax.specs.Tree.{Tree}
use Rattle.occ_nform_rows.specs.occ_nform_table.Behaviours.{Stands}
use Rattle.occ_nform_rows.specs.occ_nform_table.declared.table.Table.{Table}
use Rattle.occ_nform_rows.specs.occ_nform_table.Tables.{IsNormal}

-- The table is normal and stands for a program with these parameters.
pub record IsTableOf (names : List (List ℕ)) (params : List (Name × Kind)) (p : Tree) (t : Table) : Type 0 where
  pub params_are : t.params ≡ params
  pub normal : IsNormal (record { names = names; params = t.params; rows = t.rows; states = t.states })
  pub stands : Stands params t.rows t.states p
