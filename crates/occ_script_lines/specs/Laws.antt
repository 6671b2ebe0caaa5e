-- What is known of the scope at a path.
use Rattle.std.specs.Prelude.{ℕ, ◌≡◌, true, List}
use Rattle.occ_lex.specs.occ_base.declared.names.Name.{Name}
use Rattle.occ_usage.specs.occ_meaning.Context.{environment_at}
use Rattle.occ_syntax.specs.declared.scope.Kind.{Kind}
use Rattle.occ_syntax.specs.Scopes.{environment}
use Rattle.occ_syntax.specs.Tree.{Tree}
use Rattle.occ_syntax.specs.Types.{scope_kept}
use Rattle.occ_script_lines.specs.Places.{scope_list}

-- the list of names there is a scope, and gives the environment there
pub record IsScopeAt (path : List ℕ) (S : List (Name × Kind)) (p : Tree) : Type 0 where
  pub gives : environment (scope_list path S p) ≡ environment_at path (environment S) p
  pub kept : scope_kept (scope_list path S p) ≡ true
