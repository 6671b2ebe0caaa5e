-- The nodes of a world, without its maps, with their tables.
use Rattle.std.specs.Prelude.{◌≡◌, Option}
use Rattle.occ_weave.specs.occ_node.World.{IsNode, Leads}
use Rattle.occ_weave.specs.occ_node.declared.node.NodeId.{NodeId}
use Rattle.occ_follow.specs.occ_scope.Tables.{KeepShifted}
use Rattle.occ_weave.specs.Memo.{Remembers}
use Rattle.occ_norm_frame.specs.Lifted.{IsLifted}
use Rattle.occ_norm_frame.specs.declared.lifting.Lifting.{Lifting}

-- what is remembered of nodes is so
abbrev pub IsRight : Lifting → Type 0
IsRight f = Remembers f.manner.written f.manner.closed.items f.weaver × KeepShifted f.weaver.world f.shifts

-- the node is one of the world, whose tables are right
pub record Accepts (f : Lifting) (n : NodeId) : Type 0 where
  pub node : IsNode f.weaver.world n
  pub right : IsRight f

-- the world has grown and its tables have stayed right; the step and the manner are the same
pub record Goes (f g : Lifting) : Type 0 where
  pub leads : Leads f.weaver.world g.weaver.world
  pub step : g.step ≡ f.step
  pub manner : g.manner ≡ f.manner
  pub right : IsRight f → IsRight g

-- the nodes stand in the step's relation
abbrev pub Relates : Lifting → Option NodeId → Option NodeId → Option NodeId → Type 0
Relates f a b r = IsLifted f.manner f.step f.weaver.world a b r
