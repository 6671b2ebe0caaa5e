-- Declarations in a row in front of a process.
use Rattle.std.specs.Prelude.{Bool, true, ◌&&◌, List, [], ◌∷◌, None}
use Rattle.occ_meaning.specs.occ_base.declared.names.Name.{Name}
use Rattle.occ_meaning.specs.occ_syntax.declared.scope.Kind.{Kind}
use Rattle.occ_meaning.specs.occ_syntax.declared.scope.Kind.TheVariants as kind
use Rattle.occ_meaning.specs.occ_syntax.Scopes.{Environment, with_name}
use Rattle.occ_meaning.specs.occ_syntax.Types.{can_declare, width_of_kind}

-- a declared channel has no mark
abbrev pub declared_kind : Kind → Kind
declared_kind (kind.Var width) = kind.Var width
declared_kind (kind.Chan width mark) = kind.Chan width None

-- the environment behind declarations, in order
abbrev pub after : List (Name × Kind) → Environment → Environment
after [] E = E
after (d ∷ ds) E = after ds (with_name E d.0.0 (declared_kind d.1))

-- whether each name can be declared behind those before it
abbrev pub can_declare_all : List (Name × Kind) → Environment → Bool
can_declare_all [] E = true
can_declare_all (d ∷ ds) E = can_declare E d.0.0 (width_of_kind d.1) && can_declare_all ds (with_name E d.0.0 (declared_kind d.1))
