-- The shape of the bodies of normal programs.
use Rattle.std.specs.Prelude.{ℕ, ◌<◌, ◌^◌, ◌≡◌, None, List, length}
use Rattle.std.specs.List.{AllByRecursion}
use Rattle.occ_target.specs.occ_base.declared.names.Name.{Name}
use Rattle.occ_target.specs.occ_syntax.declared.scope.Kind.{Kind}
use Rattle.occ_target.specs.occ_syntax.declared.scope.Kind.TheVariants.{Var, Chan}
use Rattle.occ_target.specs.occ_syntax.Counts.{bits_of_scope}
use Rattle.occ_target.specs.occ_syntax.Declarations.{declaring_all}
use Rattle.occ_target.specs.occ_syntax.Scopes.{environment}
use Rattle.occ_target.specs.occ_syntax.Tree.{Exp, Tree, select}
use Rattle.occ_target.specs.occ_nform_table.Texts.{state_at_place}
use Rattle.occ_target.specs.Rows.{part_at}
use Rattle.occ_target.specs.States.{condition}
use Rattle.occ_target_laws.specs.Shapes.{Header, IsShaped, numbered}

abbrev pub IsVariable : Kind → Type 0
IsVariable (Var width) = Unit {0}
IsVariable (Chan width dir) = ⊥

-- the variables into which it inputs are declared, and none of them is a parameter
abbrev pub AreDeclared : Header → Type 0
AreDeclared h = AllByRecursion (λ (t : Name × Kind). IsVariable t.1 × (environment h.params t.0.0 ≡ None)) h.inputs

-- the condition that holds in the k-th initial state
abbrev pub in_state : Header → ℕ → Exp
in_state h k = condition h.params (state_at_place h.params k)

-- The body declares the variables for inputs, and has for each initial state in order a choice of a process of normal shape.
pub record IsShapedBody (h : Header) (body : Tree) : Type 0 where
  pub parts : List Tree
  pub count : length parts ≡ 2 ^ bits_of_scope h.params
  pub shaped : (k : ℕ) → k < length parts → IsShaped h (part_at parts k)
  pub declared : AreDeclared h
  pub form : body ≡ declaring_all h.inputs (select (numbered (in_state h) 0 parts))
