-- Maps from states to nodes of a world, as the world grows.
use Rattle.std.specs.Prelude.{ℕ, zero, suc, ◌<◌, ◌≡◌, ◌^◌, ◌==◌, ◌&&◌, Bool, true, false, List, [], ◌∷◌, Option, Some, IfSome, if◌then◌else◌}
use Rattle.std.specs.Int.{bit_at}
use Rattle.occ_syntax.specs.occ_base.declared.event.Event.{Event}
use Rattle.occ_weave.specs.occ_mdd.Maps.{IsKnown, IsMap, Keeps, value}
use Rattle.occ_weave.specs.occ_mdd.declared.map.MapId.{MapId}
use Rattle.occ_weave.specs.occ_node.World.{Grows, IsNode, fails, ends}
use Rattle.occ_weave.specs.occ_node.declared.node.NodeId.{NodeId}
use Rattle.occ_weave.specs.occ_node.declared.world.World.{World}
use Rattle.occ_follow.specs.Sequence.{IsFollowed}

-- nodes and sets keep their behaviours and members, and maps their values
pub record Extends (old new : World) : Type 0 where
  pub grows : Grows old new
  pub maps : Keeps old.maps new.maps

-- the map has a node of the world, or none, at every assignment
pub record MayHaveNodes (w : World) (map : MapId) : Type 0 where
  pub known : IsKnown w.maps map
  pub nodes : (x : ℕ) → x < 2 ^ 64 → IfSome (value w.maps map x) (IsNode w)

-- the values of r at each assignment stand in a relation to those of a and b
pub record Lifts (w : World) (a b r : MapId) (relates : Option NodeId → Option NodeId → Option NodeId → Type 0) : Type 0 where
  pub known : IsKnown w.maps r
  pub related : (x : ℕ) → x < 2 ^ 64 → relates (value w.maps a x) (value w.maps b x) (value w.maps r x)

abbrev pub digit : Bool → ℕ
digit true = 1
digit false = 0

-- whether bit n is 0, if it is one of some bits
abbrev pub is_clear : ℕ → ℕ → ℕ → Bool
is_clear bits n x = if bit_at bits n == 1 then bit_at x n == 0 else true

-- whether those of some bits that are below n are 0
unfoldable pub are_zero : ℕ → ℕ → ℕ → Bool
are_zero zero bits x = true
are_zero (suc n) bits x = is_clear bits n x && are_zero n bits x

-- r has one node everywhere, which goes on as the map's node of an assignment where it ends in that
pub record IsSequel (old new : World) (p : NodeId) (map r : MapId) : Type 0 where
  pub next : NodeId
  pub everywhere : IsMap new.maps r (λ x. Some next)
  pub followed : IsFollowed old new p map next

-- r has one node everywhere, which has ended in all assignments in which some bits are 0
pub record IsSkip (w : World) (keep : ℕ) (r : MapId) : Type 0 where
  pub node : NodeId
  pub everywhere : IsMap w.maps r (λ x. Some node)
  pub known : IsNode w node
  pub never_fails : (t : List Event) (X : Event → Bool) → fails w node t X ≡ false
  pub ends_now : (x : ℕ) → ends w node [] x ≡ are_zero 64 keep x
  pub ends_once : (e : Event) (t : List Event) (x : ℕ) → ends w node (e ∷ t) x ≡ false

-- r has one node everywhere, which is stable, offers nothing and never ends
pub record IsStop (w : World) (r : MapId) : Type 0 where
  pub node : NodeId
  pub everywhere : IsMap w.maps r (λ x. Some node)
  pub known : IsNode w node
  pub fails_now : (X : Event → Bool) → fails w node [] X ≡ true
  pub fails_once : (e : Event) (t : List Event) (X : Event → Bool) → fails w node (e ∷ t) X ≡ false
  pub never_ends : (t : List Event) (x : ℕ) → ends w node t x ≡ false
