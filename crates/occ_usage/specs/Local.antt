-- A part that uses no more than another one, and a part that is put in the place of another one.
use Rattle.std.specs.Prelude.{ℕ, ◌≡◌, true, List, Some}
use Rattle.occ_syntax.specs.occ_base.declared.event.Dir.{Dir}
use Rattle.occ_syntax.specs.occ_base.declared.names.Name.{Name}
use Rattle.occ_names.specs.occ_meaning.Context.{environment_at, part_at, put}
use Rattle.occ_syntax.specs.declared.scope.Kind.{Kind}
use Rattle.occ_syntax.specs.declared.scope.Program.{Program}
use Rattle.occ_syntax.specs.Names.{free, uses_end, written}
use Rattle.occ_syntax.specs.Scopes.{environment}
use Rattle.occ_syntax.specs.Tree.{Tree}
use Rattle.occ_syntax.specs.Types.{scope_kept as is_scope_kept}
use Rattle.occ_syntax.specs.Usage.{Keeps}
use Rattle.occ_syntax.specs.View.{tree}

-- A part names, writes and uses no more than another one: each free name of it is free there, each variable that it writes is
-- written there, and each channel end that it uses is used there.
pub record UsesNoMore (p l : Tree) : Type 0 where
  pub frees : (x : ℕ) → free p x ≡ true → free l x ≡ true
  pub writes : (x : ℕ) → written p x ≡ true → written l x ≡ true
  pub ends : (c : ℕ) (d : Dir) → uses_end p c d ≡ true → uses_end l c d ≡ true

-- The body of a program is a process that kept the rules with a new part in the place of an old one, in the scope S there.
pub record IsExchanged (S : List (Name × Kind)) (old new : Tree) (whole : Program) : Type 0 where
  pub before : Tree
  pub path : List ℕ
  pub scope : is_scope_kept whole.params ≡ true
  pub kept : Keeps (environment whole.params) before
  pub there : part_at path before ≡ Some old
  pub put_in : tree whole.body ≡ put path before new
  pub scope_there : environment S ≡ environment_at path (environment whole.params) before
  pub scope_kept : is_scope_kept S ≡ true
