-- What a configuration comes to.
use Rattle.std.specs.Prelude.{ℕ, List}
use Rattle.std.specs.List.{AllByRecursion}
use Rattle.occ_complete_states.specs.Configured.{IsEnding, IsSettledBranch}
use Rattle.occ_complete_states.specs.Leads.{Leads}
use Rattle.occ_complete_states.specs.States.{scope_of}
use Rattle.occ_engine.specs.occ_syntax.Tree.{Waiting, Tree, alt}
use Rattle.occ_complete_states.specs.occ_target.Rows.{guarded}
use Rattle.occ_complete_states.specs.occ_target_laws.Shapes.{Header}

-- it ends, or goes on as an ALT of such branches
pub data Outcome (h : Header) (Branch : Waiting × Tree → Type 0) : Tree → Type 0 where
  ends : (p : Tree) → IsEnding h p → Outcome h Branch p
  goes_on : (bs : List (Waiting × Tree)) → AllByRecursion Branch bs → Outcome h Branch (alt (guarded bs))

-- the part leads to one that does
pub record ComesTo (h : Header) (Branch : Waiting × Tree → Type 0) (p : Tree) : Type 0 where
  pub part : Tree
  pub leads : Leads (scope_of h) p part
  pub outcome : Outcome h Branch part
