-- Parts of a program in the scope in which they stand.
use Rattle.std.specs.Prelude.{ℕ, ◌≡◌, ◌≤◌, ◌+◌, ◌++◌, true, List, [], ◌∷◌, None, IsSome}
use Rattle.occ_syntax.specs.occ_base.declared.names.Name.{Name}
use Rattle.occ_syntax.specs.occ_base.declared.width.Width.{Width}
use Rattle.occ_syntax.specs.occ_base.Width.{bits_of}
use Rattle.occ_bits.specs.Layout.{environment_in, laid_out}
use Rattle.occ_syntax.specs.declared.scope.Kind.{Kind}
use Rattle.occ_syntax.specs.declared.scope.Kind.TheVariants.{Var, Chan}
use Rattle.occ_syntax.specs.Counts.{bits_of_scope, most_bits, most_bits_of_all, most_bits_of_cases, most_bits_of_branches}
use Rattle.occ_syntax.specs.Scopes.{Environment, environment, variable_width}
use Rattle.occ_syntax.specs.Tree.{Tree, Trees, Cases, Branches, Waiting, ready, input, output}
use Rattle.occ_syntax.specs.Types.{all_types_kept, branches_kept, cases_kept, is_width, scope_kept, type_of, types_kept}

-- the bits that are laid out for the variables in scope
pub record IsFrame (vars : List (Name × Kind)) (layout : List (Name × Width × ℕ)) (bits : ℕ) : Type 0 where
  pub scope : scope_kept vars ≡ true
  pub few : bits_of_scope vars ≤ 24
  pub bits_are : bits ≡ bits_of_scope vars
  pub layout_is : layout ≡ laid_out 0 vars

-- the variables of an environment are those in scope
pub record IsAround (outer : Environment) (vars : List (Name × Kind)) : Type 0 where
  pub same : (y : ℕ) → variable_width outer y ≡ variable_width (environment vars) y
  pub none : (y : ℕ) → outer y ≡ None → environment vars y ≡ None

-- a part keeps types in an environment of the variables in scope, and declares few bits
pub record Fits (vars : List (Name × Kind)) (p : Tree) : Type 0 where
  pub outer : Environment
  pub around : IsAround outer vars
  pub types : types_kept p outer ≡ true
  pub most : most_bits p (bits_of_scope vars) ≤ 24

pub record FitAll (vars : List (Name × Kind)) (ps : Trees) : Type 0 where
  pub outer : Environment
  pub around : IsAround outer vars
  pub types : all_types_kept ps outer ≡ true
  pub most : most_bits_of_all ps (bits_of_scope vars) ≤ 24

pub record FitCases (vars : List (Name × Kind)) (cs : Cases) : Type 0 where
  pub outer : Environment
  pub around : IsAround outer vars
  pub types : cases_kept cs outer ≡ true
  pub most : most_bits_of_cases cs (bits_of_scope vars) ≤ 24

pub record FitBranches (vars : List (Name × Kind)) (bs : Branches) : Type 0 where
  pub outer : Environment
  pub around : IsAround outer vars
  pub types : branches_kept bs outer ≡ true
  pub most : most_bits_of_branches bs (bits_of_scope vars) ≤ 24

-- a guard names variables of the layout
abbrev pub CanWait : List (Name × Width × ℕ) → Waiting → Type 0
CanWait layout ready = Unit {0}
CanWait layout (input c x) = IsSome (variable_width (environment_in layout) x)
CanWait layout (output c e) = IsSome (type_of (environment_in layout) e)

-- a declaration can be brought into scope
abbrev pub CanEnter : List (Name × Kind) → Name → Kind → Type 0
CanEnter vars x (Var w) = (environment vars x.0 ≡ None) × (is_width w ≡ true) × (bits_of_scope vars + bits_of w ≤ 24)
CanEnter vars c (Chan w d) = Unit {0}

-- the variables in scope once it is
abbrev pub entered : List (Name × Kind) → Name → Kind → List (Name × Kind)
entered vars x (Var w) = vars ++ (x, Var w) ∷ []
entered vars c (Chan w d) = vars

-- the closed channels once a declaration is in scope
abbrev pub closed_by : List Name → Name → Kind → List Name
closed_by closed x (Var w) = closed
closed_by closed c (Chan w d) = closed ++ c ∷ []
