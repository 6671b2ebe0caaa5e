-- What superpositions of configurations come to, and the steps from one event to the next.
use Rattle.std.specs.Prelude.{ℕ, suc, ◌≡◌, true, List, [], Some}
use Rattle.std.specs.List.{AllByRecursion}
use Rattle.occ_engine.specs.occ_base.declared.width.Width.{Width}
use Rattle.occ_complete.specs.Clearing.{with_clearing}
use Rattle.occ_complete_states.specs.occ_derive_moves.Unified.{is_target}
use Rattle.occ_complete_states.specs.Configured.{IsGiven, IsSettledBranch}
use Rattle.occ_complete_states.specs.Leads.{Leads}
use Rattle.occ_complete_states.specs.Nodes.{any_of}
use Rattle.occ_complete_states.specs.States.{scope_of}
use Rattle.occ_complete_states.specs.Ways.{AreConfigured, IsChosen, IsSettled, IsUnified}
use Rattle.occ_engine.specs.occ_syntax.Scopes.{environment, variable_width}
use Rattle.occ_engine.specs.occ_syntax.Tree.{Waiting, Tree, alt}
use Rattle.occ_engine.specs.occ_syntax.Usage.{Keeps}
use Rattle.occ_complete_states.specs.occ_target.Rows.{guarded}
use Rattle.occ_complete_states.specs.occ_target_laws.Shapes.{Header, IsShaped}

-- The part leads to a process of normal shape, behind which the variables for inputs are cleared.
pub record HasShape (h : Header) (p : Tree) : Type 0 where
  pub process : Tree
  pub shaped : IsShaped h process
  pub leads : Leads (scope_of h) p (with_clearing h process)

-- ---- the steps from one event to the next

-- all that can be done without an event is done, and less is left
abbrev pub Settles : Header → Type 0
Settles h = (limit : ℕ) (ps : List Tree) → AreConfigured h (suc limit) ps → IsSettled h limit (any_of ps)

-- each event stands once
abbrev pub Unifies : Header → Type 0
Unifies h = (limit : ℕ) (bs : List (Waiting × Tree)) → AllByRecursion (IsSettledBranch h limit) bs
    → Keeps (environment (scope_of h)) (alt (guarded bs)) → IsUnified h limit (alt (guarded bs))

-- there is a choice for each value that was input
abbrev pub Tells : Header → Type 0
Tells h = (limit : ℕ) (t : ℕ) (w : Width) (ps : List Tree) → is_target h t ≡ true → variable_width (environment (scope_of h)) t ≡ Some w
    → (ps ≡ [] → ⊥) → AllByRecursion (IsGiven h t limit) ps → Keeps (environment (scope_of h)) (any_of ps) → IsChosen h t w limit (any_of ps)
