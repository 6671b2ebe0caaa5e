-- Configurations: what is left to do in a state, between two events of a normal program.
use Rattle.std.specs.Prelude.{ℕ, ◌≡◌, ◌<◌, true, false, List, ◌++◌, Some}
use Rattle.std.specs.List.{AllByRecursion}
use Rattle.occ_derive_laws.specs.occ_base.declared.names.Name.{Name}
use Rattle.occ_derive_laws.specs.occ_base.declared.width.Width.{Width}
use Rattle.occ_derive_laws.specs.occ_behaviour.States.{is_state}
use Rattle.occ_derive_laws.specs.occ_derive_moves.Settled.{IsEventGuard}
use Rattle.occ_derive_laws.specs.occ_derive_moves.Unified.{ending_cleared, is_target}
use Rattle.occ_derive_laws.specs.occ_derive_moves.Weight.{weight}
use Rattle.occ_complete_states.specs.Few.{IsFew}
use Rattle.occ_complete_states.specs.States.{in_given, in_state, scope_of}
use Rattle.occ_derive_laws.specs.occ_syntax.declared.scope.Kind.{Kind}
use Rattle.occ_derive_laws.specs.occ_syntax.Names.{free}
use Rattle.occ_derive_laws.specs.occ_syntax.Scopes.{IsState, Values, environment, variable_width}
use Rattle.occ_derive_laws.specs.occ_syntax.Tree.{Waiting, ready, input, output, Tree}
use Rattle.occ_derive_laws.specs.occ_syntax.Types.{is_pair, scope_kept}
use Rattle.occ_derive_laws.specs.occ_syntax.Usage.{Keeps}
use Rattle.occ_derive_laws.specs.occ_target.States.{variables}
use Rattle.occ_derive_laws.specs.occ_target_laws.Bodies.{IsVariable}
use Rattle.occ_derive_laws.specs.occ_target_laws.Shapes.{Header, accepting}

-- The variables ys may stand in front of what is left, p, which names none of the variables for inputs. Some variable is in scope.
pub record IsLeft (h : Header) (ys : List (Name × Kind)) (p : Tree) : Type 0 where
  pub scope : scope_kept (scope_of h ++ ys) ≡ true
  pub vars : AllByRecursion (λ (y : Name × Kind). IsVariable y.1) ys
  pub filled : is_pair (variables (scope_of h ++ ys)) ≡ true
  pub keeps : Keeps (environment (scope_of h ++ ys)) p
  pub few : IsFew (scope_of h ++ ys) p
  pub spared : (t : ℕ) → is_target h t ≡ true → free p t ≡ false

-- A state of the scope, in which the variables for inputs are FALSE or 0.
pub record IsClear (h : Header) (ys : List (Name × Kind)) (s : Values) : Type 0 where
  pub state : IsState (environment (scope_of h ++ ys)) s
  pub clear : (t : ℕ) → is_target h t ≡ true → s t ≡ 0

-- A configuration, with less left to do than this.
pub record IsConfigured (h : Header) (limit : ℕ) (c : Tree) : Type 0 where
  pub ys : List (Name × Kind)
  pub state : Values
  pub left : Tree
  pub form : c ≡ in_state (scope_of h) ys state left
  pub is_left : IsLeft h ys left
  pub is_clear : IsClear h ys state
  pub light : weight left < limit

-- A configuration behind an input into t, with less left to do than this: one variable has what was input.
pub record IsGiven (h : Header) (t : ℕ) (limit : ℕ) (c : Tree) : Type 0 where
  pub ys : List (Name × Kind)
  pub state : Values
  pub var : ℕ
  pub width : Width
  pub left : Tree
  pub form : c ≡ in_given (scope_of h) ys state var t left
  pub is_left : IsLeft h ys left
  pub is_clear : IsClear h ys state
  pub other : is_target h var ≡ false
  pub var_width : variable_width (environment (scope_of h ++ ys)) var ≡ Some width
  pub given_width : variable_width (environment (scope_of h)) t ≡ Some width
  pub light : weight left < limit

-- what goes on behind a guard
abbrev pub Follows : Header → ℕ → Waiting → Tree → Type 0
Follows h limit ready p = IsConfigured h limit p
Follows h limit (output c e) p = IsConfigured h limit p
Follows h limit (input c t) p = IsGiven h t limit p

-- an event, and behind it a configuration
pub record IsEventBranch (h : Header) (limit : ℕ) (b : Waiting × Tree) : Type 0 where
  pub guard : IsEventGuard h b.0
  pub next : Follows h limit b.0 b.1

-- the process ends in a state, in which the variables for inputs are FALSE or 0
pub record IsEnding (h : Header) (p : Tree) : Type 0 where
  pub state : List (Name × ℕ)
  pub form : p ≡ ending_cleared h state
  pub is : is_state h.params state ≡ true

-- ---- opened: one step was taken

-- an event, or a configuration to which it goes on at once
pub data IsOpenBranch (h : Header) (limit : ℕ) : Waiting × Tree → Type 0 where
  an_event : (b : Waiting × Tree) → IsEventBranch h limit b → IsOpenBranch h limit b
  at_once : (p : Tree) → IsConfigured h limit p → IsOpenBranch h limit (ready, p)

-- ---- settled: all is done that can be done without an event

-- an event, an acceptance of events, or an end
pub data IsSettledBranch (h : Header) (limit : ℕ) : Waiting × Tree → Type 0 where
  event : (b : Waiting × Tree) → IsEventBranch h limit b → IsSettledBranch h limit b
  acceptance : (set : List (Waiting × Tree)) → AllByRecursion (IsEventBranch h limit) set → IsSettledBranch h limit (accepting set)
  end : (p : Tree) → IsEnding h p → IsSettledBranch h limit (ready, p)
