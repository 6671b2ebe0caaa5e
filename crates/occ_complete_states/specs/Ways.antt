-- What some configurations come to, step by step, from one event to the next.
use Rattle.std.specs.Prelude.{ℕ, ◌≡◌, ◌^◌, List, [], length, map}
use Rattle.std.specs.List.{AllByRecursion}
use Rattle.occ_derive_laws.specs.occ_base.declared.width.Width.{Width}
use Rattle.occ_derive_laws.specs.occ_base.Width.{bits_of}
use Rattle.occ_complete_states.specs.Configured.{Follows, IsConfigured, IsSettledBranch}
use Rattle.occ_complete_states.specs.Leads.{Leads}
use Rattle.occ_complete_states.specs.Nodes.{IsUnifiedNode, any_of, process_cleared}
use Rattle.occ_complete_states.specs.States.{scope_of}
use Rattle.occ_derive_laws.specs.occ_syntax.Tree.{Waiting, Tree, alt, select}
use Rattle.occ_derive_laws.specs.occ_target.Rows.{guarded}
use Rattle.occ_derive_laws.specs.occ_target.States.{is_at}
use Rattle.occ_derive_laws.specs.occ_target_laws.Shapes.{Header, Node, numbered}

-- some configurations, at least one
pub record AreConfigured (h : Header) (limit : ℕ) (ps : List Tree) : Type 0 where
  pub some : ps ≡ [] → ⊥
  pub each : AllByRecursion (IsConfigured h limit) ps

-- All that can be done without an event is done, and less is left: the part leads to an ALT of events, acceptances and ends.
pub record IsSettled (h : Header) (limit : ℕ) (p : Tree) : Type 0 where
  pub branches : List (Waiting × Tree)
  pub each : AllByRecursion (IsSettledBranch h limit) branches
  pub leads : Leads (scope_of h) p (alt (guarded branches))

-- Each event stands once: the part leads to a node.
pub record IsUnified (h : Header) (limit : ℕ) (p : Tree) : Type 0 where
  pub node : Node
  pub unified : IsUnifiedNode h (Follows h limit) node
  pub leads : Leads (scope_of h) p (process_cleared h node)

-- The part leads to an IF with a choice for each value that was input into t.
pub record IsChosen (h : Header) (t : ℕ) (w : Width) (limit : ℕ) (p : Tree) : Type 0 where
  pub parts : List (List Tree)
  pub count : length parts ≡ 2 ^ bits_of w
  pub each : AllByRecursion (AreConfigured h limit) parts
  pub leads : Leads (scope_of h) p (select (numbered (is_at t w) 0 (map any_of parts)))
