-- What is done to nodes at each state, in one world.
use Rattle.std.specs.Prelude.{ℕ, ◌≡◌, ◌||◌, ◌++◌, Bool, List, [], ◌∷◌, map, Option, Some, None, IfSome, is_some}
use Rattle.occ_syntax.specs.occ_base.declared.event.Event.{Event}
use Rattle.occ_syntax.specs.occ_base.declared.names.Name.{Name}
use Rattle.occ_weave.specs.occ_node.World.{IsNode, row_of}
use Rattle.occ_weave.specs.occ_node.declared.node.NodeId.{NodeId}
use Rattle.occ_weave.specs.occ_node.declared.world.World.{World}
use Rattle.occ_weave.specs.occ_choice.Branches.{IsAlt, IsBeside}
use Rattle.occ_weave.specs.occ_choice.Joined.{maybe_fails, maybe_ends}
use Rattle.occ_weave.specs.occ_choice.declared.branch.Branch.{Branch}
use Rattle.occ_weave.specs.occ_choice.declared.branch.Branch.TheVariants.{Event as Comm}
use Rattle.occ_follow.specs.occ_scope.Results.{IsShifted}
use Rattle.occ_weave.specs.Weave.{IsWoven}
use Rattle.occ_weave.specs.declared.manner.Manner.{Manner}
use Rattle.occ_norm_frame.specs.declared.step.Step.{Step}
use Rattle.occ_norm_frame.specs.declared.step.Step.TheVariants.{Unite, Shift, Prefix, Merge, Finish, Weave}

-- r has the behaviours of those of two nodes that are there, and is there where one of them is
pub record IsEither (w : World) (a b r : Option NodeId) : Type 0 where
  pub first : IfSome a (IsNode w)
  pub second : IfSome b (IsNode w)
  pub known : IfSome r (IsNode w)
  pub there : is_some r ≡ (is_some a || is_some b)
  pub both_fail : (t : List Event) (X : Event → Bool) → maybe_fails w r t X ≡ (maybe_fails w a t X || maybe_fails w b t X)
  pub both_end : (t : List Event) (x : ℕ) → maybe_ends w r t x ≡ (maybe_ends w a t x || maybe_ends w b t x)

-- r is p with those bits of its final states turned
pub record IsTurned (w : World) (change : ℕ) (p r : NodeId) : Type 0 where
  pub first : IsNode w p
  pub turned : IsShifted w w change p r

-- r is p after an event
pub record IsPrefixed (w : World) (event : Event) (p r : NodeId) : Type 0 where
  pub first : IsNode w p
  pub prefixed : IsAlt w w (Comm event p ∷ []) r

-- offers as branches of an ALT
abbrev pub branches_of : List (Event × NodeId) → List Branch
branches_of offers = map (λ o. Comm o.0 o.1) offers

-- r waits for all events that the two nodes offer, and goes on as these
pub record IsMerged (w : World) (p q r : NodeId) : Type 0 where
  pub first : IsNode w p
  pub second : IsNode w q
  pub merged : IsAlt w w (branches_of (row_of w p).offers ++ branches_of (row_of w q).offers) r

-- r has what p offers and all behaviours of q
pub record IsFinished (w : World) (p q r : NodeId) : Type 0 where
  pub first : IsNode w p
  pub second : IsNode w q
  pub beside : IsBeside w w (row_of w p).offers q r

-- r is p and q side by side
pub record IsWovenOf (w : World) (written : ℕ) (closed : List Name) (p q r : NodeId) : Type 0 where
  pub first : IsNode w p
  pub second : IsNode w q
  pub woven : IsWoven w written closed p q r

-- a relation to one node, where it is there; else nothing is there
abbrev pub OnOne : (NodeId → NodeId → Type 0) → Option NodeId → Option NodeId → Type 0
OnOne R None r = r ≡ None
OnOne R (Some p) None = ⊥
OnOne R (Some p) (Some r) = R p r

-- a relation to two nodes, where both are there; else nothing is there
abbrev pub OnTwo : (NodeId → NodeId → NodeId → Type 0) → Option NodeId → Option NodeId → Option NodeId → Type 0
OnTwo R None b r = r ≡ None
OnTwo R (Some p) None r = r ≡ None
OnTwo R (Some p) (Some q) None = ⊥
OnTwo R (Some p) (Some q) (Some r) = R p q r

-- what the one offers beside the other, or the one alone where the other isn't there
abbrev pub Finished : World → Option NodeId → Option NodeId → Option NodeId → Type 0
Finished w None b r = r ≡ None
Finished w (Some p) None r = r ≡ Some p
Finished w (Some p) (Some q) None = ⊥
Finished w (Some p) (Some q) (Some r) = IsFinished w p q r

-- what a step makes of two nodes, in some manner
abbrev pub IsLifted : Manner → Step → World → Option NodeId → Option NodeId → Option NodeId → Type 0
IsLifted manner Unite w a b r = IsEither w a b r
IsLifted manner (Shift change) w a b r = OnOne (IsTurned w change) a r
IsLifted manner (Prefix event) w a b r = OnOne (IsPrefixed w event) a r
IsLifted manner Merge w a b r = OnTwo (IsMerged w) a b r
IsLifted manner Finish w a b r = Finished w a b r
IsLifted manner Weave w a b r = OnTwo (IsWovenOf w manner.written manner.closed.items) a b r
