use Rattle.std.specs.Prelude.{ℕ, ◌≡◌, Some}
use Rattle.occ_choice.specs.occ_dd.Memo.{recalled}
use Rattle.occ_choice.specs.occ_dd.declared.memo.Call.{Call}
use Rattle.occ_choice.specs.occ_dd.declared.memo.Memo.{Memo}
use Rattle.occ_choice.specs.occ_mdd.declared.map.MapId.{MapId}
use Rattle.occ_choice.specs.occ_node.World.{IsNode}
use Rattle.occ_choice.specs.occ_node.declared.node.NodeId.{NodeId}
use Rattle.occ_choice.specs.occ_node.declared.world.World.{World}
use Rattle.occ_choice.specs.Union.{AreUnions}
use Rattle.occ_follow.specs.Sequence.{HasNodes, IsFollowed}
use Rattle.occ_follow.specs.declared.follower.Follower.{Follower}

-- r is p with what follows, in one world
pub record IsSequence (w : World) (map : MapId) (p r : NodeId) : Type 0 where
  pub first : IsNode w p
  pub nodes : HasNodes w map
  pub followed : IsFollowed w w p map r

abbrev pub node : ℕ → NodeId
node n = record { 0 = n }

abbrev pub map_id : ℕ → MapId
map_id n = record { 0 = n }

-- what is remembered is right
pub record AreSequences (w : World) (memo : Memo) : Type 0 where
  pub each : (k : Call) (r : ℕ) → recalled memo k ≡ Some r → IsSequence w (map_id k.second) (node k.first) (node r)

-- what the tables of a follower remember is so in the world
pub record IsRight (w : World) (follower : Follower) : Type 0 where
  pub unions : AreUnions w follower.unions
  pub sequences : AreSequences w follower.sequences
