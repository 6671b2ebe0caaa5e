-- Nodes: settled ALTs in which each event stands once, and what follows it is an ALT of processes to which it goes on at once.
use Rattle.std.specs.Prelude.{◌≡◌, true, List, [], ◌++◌, map, None}
use Rattle.std.specs.List.{AllByRecursion}
use Rattle.occ_derive_laws.specs.occ_behaviour.States.{is_state}
use Rattle.occ_derive_laws.specs.occ_derive_moves.Settled.{IsEventGuard}
use Rattle.occ_derive_laws.specs.occ_derive_moves.Unified.{ending_cleared}
use Rattle.occ_derive_laws.specs.occ_nform_table.Lists.{Chain, In}
use Rattle.occ_derive_laws.specs.occ_syntax.Tree.{Waiting, ready, Tree, alt}
use Rattle.occ_derive_laws.specs.occ_target.Rows.{guarded}
use Rattle.occ_derive_laws.specs.occ_target_laws.Shapes.{Header, Node, accepting, branch_less, end_less, set_less}

-- the ALT that goes on at once as one of these processes
abbrev pub any_of : List Tree → Tree
any_of ps = alt (guarded (map (λ (p : Tree). (ready, p)) ps))

-- what follows an event is one of some processes, at least one, each of which is as it is asked
pub record GoesOnAsAny (Next : Waiting → Tree → Type 0) (b : Waiting × Tree) : Type 0 where
  pub parts : List Tree
  pub form : b.1 ≡ any_of parts
  pub some : parts ≡ [] → ⊥
  pub each : AllByRecursion (Next b.0) parts

-- the process of a node, whose ends say that the variables for inputs are FALSE or 0
abbrev pub process_cleared : Header → Node → Tree
process_cleared h n = alt (guarded (n.events ++ map accepting n.accepts ++ map (λ state. (ready, ending_cleared h state)) n.ends))

-- A node as normal programs have them, but for what follows the events.
pub record IsUnifiedNode (h : Header) (Next : Waiting → Tree → Type 0) (n : Node) : Type 0 where
  pub guards : (b : Waiting × Tree) → In b n.events → IsEventGuard h b.0 × GoesOnAsAny Next b
  pub rising : Chain (branch_less h) None n.events
  pub within : (set : List (Waiting × Tree)) → In set n.accepts → (b : Waiting × Tree) → In b set → In b n.events
  pub accepts_in_order : (set : List (Waiting × Tree)) → In set n.accepts → Chain (branch_less h) None set
  pub accepts_rising : Chain (set_less h) None n.accepts
  pub least : (set other : List (Waiting × Tree)) → In set n.accepts → In other n.accepts
      → ((b : Waiting × Tree) → In b other → In b set) → other ≡ set
  pub states : AllByRecursion (λ state. is_state h.params state ≡ true) n.ends
  pub ends_rising : Chain (end_less h) None n.ends
  pub full : n.accepts ≡ [] → n.ends ≡ [] → ⊥
