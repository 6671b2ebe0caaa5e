-- Parts of programs at paths, and what is in scope there.
use Rattle.std.specs.Prelude.{ℕ, ◌≡◌, List, [], ◌∷◌, ◌++◌, Option, Some, None, option_map, unwrap_or}
use Rattle.std.specs.List.{slice_split}
use Rattle.std.specs.Borrow.{Bor}
use Rattle.occ_lex.specs.occ_base.declared.names.Name.{Name}
use Rattle.occ_usage.specs.occ_meaning.Context.{child, put}
use Rattle.occ_syntax.specs.declared.proc.Proc.{Proc}
use Rattle.occ_syntax.specs.declared.scope.Kind.{Kind}
use Rattle.occ_syntax.specs.declared.scope.Program.{Program}
use Rattle.occ_syntax.specs.declared.scope.Kind.TheVariants.{Chan, Var}
use Rattle.occ_syntax.specs.Tree.{Tree, skip, stop, assign, receive, send, seq, par, select, alt, declare, connect}
use Rattle.occ_syntax.specs.View.{tree}
use Rattle.occ_script_lines.specs.Texts.{is_byte}

-- a part that is looked for, and what was found
abbrev pub IsFound : Option Tree → Option (Bor Proc) → Type 0
IsFound wanted None = wanted ≡ None
IsFound wanted (Some part) = wanted ≡ Some (tree part.now)

-- the pieces of a text between bytes of that value, where there is a text
abbrev pub pieces_behind : ℕ → Option (Bor (List ℕ)) → List (List ℕ)
pieces_behind byte None = []
pieces_behind byte (Some text) = slice_split (is_byte byte) text.now

-- what a declaration declares, where the process is one
abbrev pub declared_by : Tree → List (Name × Kind)
declared_by (declare x w p) = (record { 0 = x }, Var w) ∷ []
declared_by (connect c w p) = (record { 0 = c }, Chan w None) ∷ []
declared_by skip = []
declared_by stop = []
declared_by (assign xs es) = []
declared_by (receive c x) = []
declared_by (send c e) = []
declared_by (seq ps) = []
declared_by (par ps) = []
declared_by (select cs) = []
declared_by (alt bs) = []

-- The names in scope at a path of a process in a scope, with their kinds, from outside in.
abbrev pub scope_list : List ℕ → List (Name × Kind) → Tree → List (Name × Kind)
scope_list [] S p = S
scope_list (i ∷ path) S p = unwrap_or (option_map (scope_list path (S ++ declared_by p)) (child p i)) S

-- A program is another one with a part put in at a path.
pub record IsPutIn (old : Program) (path : List ℕ) (part : Tree) (new : Program) : Type 0 where
  pub name : new.name ≡ old.name
  pub params : new.params ≡ old.params
  pub body : tree new.body ≡ put path (tree old.body) part
