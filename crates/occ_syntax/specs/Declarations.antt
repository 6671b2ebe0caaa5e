-- Declarations, taken off one by one.
use Rattle.std.specs.Prelude.{ℕ, ◌≡◌, Bool, true, false, Option, None, Some, List, [], ◌∷◌}
use Rattle.std.specs.Borrow.{Bor}
use Rattle.occ_base.specs.declared.names.Name.{Name}
use Rattle.occ_syntax.specs.declared.scope.Kind.{Kind}
use Rattle.occ_syntax.specs.declared.scope.Kind.TheVariants.{Var, Chan}
use Rattle.occ_syntax.specs.declared.proc.Proc.{Proc}
use Rattle.occ_syntax.specs.Tree.{Tree, skip, stop, assign, receive, send, declare, connect}
use Rattle.occ_syntax.specs.View.{tree}

-- the declaration of a name of that kind for one process
abbrev pub declaring : ℕ → Kind → Tree → Tree
declaring x (Var w) p = declare x w p
declaring c (Chan w dir) p = connect c w p

abbrev pub is_declaration : Tree → Bool
is_declaration (declare x w p) = true
is_declaration (connect c w p) = true
is_declaration p = false

-- the name, its kind and the process that a declaration governs; nothing where the process is no declaration
abbrev pub IsDeclared : Tree → Option (Name × Kind × Bor Proc) → Type 0
IsDeclared p None = is_declaration p ≡ false
IsDeclared p (Some found) = p ≡ declaring found.0.0 found.1 (tree found.2.now)

-- a process without a process in it
abbrev pub is_simple : Tree → Bool
is_simple skip = true
is_simple stop = true
is_simple (assign xs es) = true
is_simple (receive c x) = true
is_simple (send c e) = true
is_simple p = false

-- a process within declarations, the first outermost
abbrev pub declaring_all : List (Name × Kind) → Tree → Tree
declaring_all [] p = p
declaring_all (d ∷ ds) p = declaring d.0.0 d.1 (declaring_all ds p)
