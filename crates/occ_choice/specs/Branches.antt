use Rattle.std.specs.Prelude.{ℕ, ◌≡◌, ◌+◌, ◌||◌, ◌&&◌, Bool, true, false, not, List, [], ◌∷◌, Option, Some, None, is_some}
use Rattle.std.specs.List.{list_all, list_any, All}
use Rattle.std.specs.Ordering.{eq_by_cmp}
use Rattle.occ_node.specs.occ_base.declared.event.Dir.TheVariants.{Input}
use Rattle.occ_node.specs.occ_base.declared.event.Event.{Event}
use Rattle.occ_node.specs.occ_base.declared.names.Name.{Name}
use Rattle.occ_node.specs.occ_accept.Order.{event_cmp}
use Rattle.occ_node.specs.occ_accept.Accept.{misses}
use Rattle.occ_node.specs.Offers.{next_in}
use Rattle.occ_node.specs.World.{IsNode, fails, ends}
use Rattle.occ_node.specs.declared.node.NodeId.{NodeId}
use Rattle.occ_node.specs.declared.world.World.{World}
use Rattle.occ_choice.specs.Joined.{Reaches, maybe_fails, maybe_ends}
use Rattle.occ_choice.specs.declared.branch.Branch.{Branch}
use Rattle.occ_choice.specs.declared.branch.Branch.TheVariants.{Skip, Event as Comm}

-- The ALT of the branches that are enabled (Roscoe 1985).

abbrev pub node_of : Branch → NodeId
node_of (Skip n) = n
node_of (Comm e n) = n

-- the branch waits for an event, which isn't refused
abbrev pub is_unready : (Event → Bool) → Branch → Bool
is_unready X (Skip n) = false
is_unready X (Comm e n) = not (X e)

-- before any event, the ALT is stable where no guard is SKIP, and refuses what holds no event of a guard
abbrev pub waits : List Branch → List Event → (Event → Bool) → Bool
waits branches [] X = list_all (is_unready X) branches
waits branches (e ∷ t) X = false

-- a SKIP branch has all behaviours of its process; any other its event, and then those of its process
abbrev pub branch_fails : World → List Event → (Event → Bool) → Branch → Bool
branch_fails w t X (Skip n) = fails w n t X
branch_fails w [] X (Comm f n) = false
branch_fails w (e ∷ t) X (Comm f n) = eq_by_cmp event_cmp e f && fails w n t X

abbrev pub branch_ends : World → List Event → ℕ → Branch → Bool
branch_ends w t x (Skip n) = ends w n t x
branch_ends w [] x (Comm f n) = false
branch_ends w (e ∷ t) x (Comm f n) = eq_by_cmp event_cmp e f && ends w n t x

-- r is the ALT of the branches, whose processes have the behaviours of an earlier world
pub record IsAlt (old new : World) (branches : List Branch) (r : NodeId) : Type 0 where
  pub known : IsNode new r
  pub alt_fails : (t : List Event) (X : Event → Bool) → fails new r t X ≡ (waits branches t X || list_any (branch_fails old t X) branches)
  pub alt_ends : (t : List Event) (x : ℕ) → ends new r t x ≡ list_any (branch_ends old t x) branches

-- the branch's guard is the event, or SKIP where none is given
abbrev pub is_at : Option Event → Branch → Bool
is_at None (Skip n) = true
is_at None (Comm f n) = false
is_at (Some e) (Skip n) = false
is_at (Some e) (Comm f n) = eq_by_cmp event_cmp e f

-- r has the behaviours of the branches at an event, or of those whose guard is SKIP, and is there where there is one
pub record AreUnited (old new : World) (branches : List Branch) (at : Option Event) (r : Option NodeId) : Type 0 where
  pub there : is_some r ≡ list_any (is_at at) branches
  pub all : Reaches new r (λ t X. list_any (λ b. is_at at b && fails old (node_of b) t X) branches) (λ t x. list_any (λ b. is_at at b && ends old (node_of b) t x) branches)

-- the behaviours of the branches that have an event as their guard
abbrev pub event_fails : World → List Event → (Event → Bool) → Branch → Bool
event_fails w [] X b = false
event_fails w (e ∷ t) X b = is_at (Some e) b && fails w (node_of b) t X

abbrev pub event_ends : World → List Event → ℕ → Branch → Bool
event_ends w [] x b = false
event_ends w (e ∷ t) x b = is_at (Some e) b && ends w (node_of b) t x

-- the behaviours that offers give: none before the first event
abbrev pub offers_fails : World → List (Event × NodeId) → List Event → (Event → Bool) → Bool
offers_fails w offers [] X = false
offers_fails w offers (e ∷ t) X = maybe_fails w (next_in offers e) t X

abbrev pub offers_ends : World → List (Event × NodeId) → List Event → ℕ → Bool
offers_ends w offers [] x = false
offers_ends w offers (e ∷ t) x = maybe_ends w (next_in offers e) t x

-- r has the behaviours of the offers and of the node
pub record IsBeside (old new : World) (offers : List (Event × NodeId)) (node r : NodeId) : Type 0 where
  pub known : IsNode new r
  pub both_fail : (t : List Event) (X : Event → Bool) → fails new r t X ≡ (offers_fails old offers t X || fails old node t X)
  pub both_end : (t : List Event) (x : ℕ) → ends new r t x ≡ (offers_ends old offers t x || ends old node t x)

-- before any event, what holds no event of the set is refused
abbrev pub stays : List Event → List Event → (Event → Bool) → Bool
stays set [] X = misses X set
stays set (e ∷ t) X = false

-- r waits for the events of the set, and has the behaviours of the offers
pub record IsWaiting (old new : World) (set : List Event) (offers : List (Event × NodeId)) (r : NodeId) : Type 0 where
  pub known : IsNode new r
  pub wait_fail : (t : List Event) (X : Event → Bool) → fails new r t X ≡ (stays set t X || offers_fails old offers t X)
  pub wait_end : (t : List Event) (x : ℕ) → ends new r t x ≡ offers_ends old offers t x

-- each branch leads to a node of the world
abbrev pub AreBranches : World → List Branch → Type 0
AreBranches w branches = All (λ b. IsNode w (node_of b)) branches

-- the inputs of a channel from a value on, each with its node
abbrev pub inputs_from : Name → ℕ → List NodeId → List Branch
inputs_from chan v [] = []
inputs_from chan v (n ∷ nexts) = Comm (record { chan = chan; dir = Input; value = v }) n ∷ inputs_from chan (v + 1) nexts
