-- What a body comes to: it declares the variables for inputs, and has a choice for each initial state.
use Rattle.std.specs.Prelude.{ℕ, ◌≡◌, ◌^◌, false, true, List, length}
use Rattle.std.specs.List.{AllByRecursion}
use Rattle.occ_engine.specs.occ_base.declared.names.Name.{Name}
use Rattle.occ_complete_states.specs.occ_derive_moves.Apart.{has_declared}
use Rattle.occ_complete_states.specs.occ_derive_moves.Unified.{is_target}
use Rattle.occ_complete_states.specs.Configured.{IsConfigured}
use Rattle.occ_complete_states.specs.Leads.{Leads}
use Rattle.occ_engine.specs.occ_syntax.declared.scope.Kind.{Kind}
use Rattle.occ_engine.specs.occ_syntax.Counts.{bits_of_scope}
use Rattle.occ_engine.specs.occ_syntax.Declarations.{declaring_all}
use Rattle.occ_engine.specs.occ_syntax.Names.{free}
use Rattle.occ_engine.specs.occ_syntax.Tree.{Tree, select}
use Rattle.occ_complete_states.specs.occ_target_laws.Bodies.{IsShapedBody, in_state}
use Rattle.occ_complete_states.specs.occ_target_laws.Shapes.{Header, numbered}

-- no variable for inputs is declared in the part, or stands free in it
pub record IsAway (h : Header) (p : Tree) : Type 0 where
  pub declared : AllByRecursion (λ (t : Name × Kind). has_declared p t.0.0 ≡ false) h.inputs
  pub spared : (t : ℕ) → is_target h t ≡ true → free p t ≡ false

-- each choice is a configuration
pub record HasBegun (h : Header) (limit : ℕ) (p : Tree) : Type 0 where
  pub parts : List Tree
  pub count : length parts ≡ 2 ^ bits_of_scope h.params
  pub each : AllByRecursion (IsConfigured h limit) parts
  pub leads : Leads h.params p (declaring_all h.inputs (select (numbered (in_state h) 0 parts)))

-- each choice is a process of normal shape
pub record HasShapedBody (h : Header) (p : Tree) : Type 0 where
  pub body : Tree
  pub shaped : IsShapedBody h body
  pub leads : Leads h.params p body
