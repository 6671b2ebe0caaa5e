-- What the functions of this crate find on the way.
use Rattle.std.specs.Prelude.{ℕ, ◌<◌, ◌≡◌, ◌==◌, ◌^◌, ◌&&◌, ◌||◌, ◌⊎◌, Bool, true, false, not, List, [], ◌∷◌, Option, Some, None, if◌then◌else◌}
use Rattle.std.specs.Ordering.{is_lt}
use Rattle.occ_syntax.specs.occ_base.declared.event.Event.{Event}
use Rattle.occ_syntax.specs.occ_base.declared.names.Name.{Name}
use Rattle.occ_syntax.specs.declared.scope.Kind.{Kind}
use Rattle.occ_syntax.specs.Counts.{bits_of_scope}
use Rattle.occ_behaviour.specs.declared.behaviour.Side.{Side}
use Rattle.occ_bits.specs.occ_dd.declared.set.SetId.{SetId}
use Rattle.occ_bits.specs.occ_dd.declared.store.Store.{Store}
use Rattle.occ_node.specs.occ_mdd.Maps.{value}
use Rattle.occ_node.specs.occ_mdd.declared.map.MapId.{MapId}
use Rattle.occ_node.specs.Offers.{next_in, is_offered}
use Rattle.occ_node.specs.World.{row_of}
use Rattle.occ_node.specs.declared.node.NodeId.{NodeId}
use Rattle.occ_node.specs.declared.world.World.{World}
use Rattle.occ_behaviour.specs.declared.behaviour.Verdict.{Verdict}
use Rattle.occ_behaviour.specs.declared.behaviour.Verdict.TheVariants.{Same}
use Rattle.occ_node.specs.declared.root.Root.{Root}
use Rattle.occ_compare.specs.declared.ends.End.{End}
use Rattle.occ_compare.specs.declared.offers.Level.{Level}
use Rattle.occ_compare.specs.declared.offers.Level.TheVariants.{Events, Nodes}
use Rattle.occ_compare.specs.declared.sets.Chosen.{Chosen}
use Rattle.occ_compare.specs.declared.step.Step.{Step}
use Rattle.occ_compare.specs.declared.step.Step.TheVariants.{Stop, Alone, Both, Alike}
use Rattle.occ_compare.specs.declared.walk.Difference.{Difference}
use Rattle.occ_compare.specs.Places.{byte_state}
use Rattle.occ_compare.specs.Orders.{print_cmp, set_cmp, IsListOf, has_set}
use Rattle.occ_compare.specs.Interface.{IsWithin, IsOfInterface}
use Rattle.occ_compare.specs.Verdicts.{IsFirst}
use Rattle.occ_compare.specs.Walk.{picked, opposite, is_before, IsLeastEnd, IsLeastSet, GoOn, Stops, StopsAlone, GoesAlone, SameOffers, IsLeastSplit, IsFirstDifference}

-- the end is the least that only the set of its side has
abbrev pub Tells : Store → List (Name × Kind) → SetId → SetId → End → Type 0
Tells s params a b end = IsLeastEnd s params (picked end.only a b) (picked (opposite end.only) a b) end.bits

-- the maps have equal values at each assignment of the interface
abbrev pub SameStarts : World → List (Name × Kind) → MapId → MapId → Type 0
SameStarts w params a b = (x : ℕ) → x < 2 ^ bits_of_scope params → value w.maps a x ≡ value w.maps b x

-- the side has it, and the other one hasn't
pub record IsSide (a b : Bool) (side : Side) : Type 0 where
  pub own : picked side a b ≡ true
  pub other : picked (opposite side) a b ≡ false

-- x is the least assignment of the interface at which the maps differ
pub record IsLeastStart (w : World) (params : List (Name × Kind)) (a b : MapId) (x : ℕ) : Type 0 where
  pub within : x < 2 ^ bits_of_scope params
  pub apart : value w.maps a x ≡ value w.maps b x → ⊥
  pub before : (y : ℕ) → y < 2 ^ bits_of_scope params → is_before params y x ≡ true → value w.maps a y ≡ value w.maps b y

-- each set of the one is one of the other
abbrev pub AllIn : List (List Event) → List (List Event) → Type 0
AllIn own other = (set : List Event) → has_set own set ≡ true → has_set other set ≡ true

-- the list is the least of those of the sets that the one has and the other hasn't
pub record IsLeastOnly (params : List (Name × Kind)) (a b : List (List Event)) (list : List Event) : Type 0 where
  pub set : List Event
  pub own : has_set a set ≡ true
  pub other : has_set b set ≡ false
  pub listed : IsListOf params set list
  pub before : (t l : List Event) → IsListOf params t l → is_lt (set_cmp params l list) ≡ true → has_set a t ≡ true → has_set b t ≡ true

-- the set is the least that only the row of its side has
abbrev pub Chooses : List (Name × Kind) → List (List Event) → List (List Event) → Chosen → Type 0
Chooses params a b chosen = (set : List Event) × IsLeastSet params (picked chosen.only a b) (picked (opposite chosen.only) a b) set chosen.events.items

-- the lesser of two sets, one of each side
pub record IsLesserSide (params : List (Name × Kind)) (first second : List Event) (chosen : Chosen) : Type 0 where
  pub events : chosen.events.items ≡ picked chosen.only first second
  pub less : is_lt (set_cmp params (picked (opposite chosen.only) first second) (picked chosen.only first second)) ≡ false

abbrev pub same_node : Option NodeId → Option NodeId → Bool
same_node None None = true
same_node None (Some b) = false
same_node (Some a) None = false
same_node (Some a) (Some b) = a.0 == b.0

abbrev pub same_test : Bool → Bool → Bool
same_test true b = b
same_test false b = not b

-- whether two rows differ at an event: by whether they offer it, or by the nodes behind it
abbrev pub differ : Level → List (Event × NodeId) → List (Event × NodeId) → Event → Bool
differ Events p q e = not (same_test (is_offered p e) (is_offered q e))
differ Nodes p q e = not (same_node (next_in p e) (next_in q e))

-- the least event at which the rows differ
pub record IsLeastDiffering (params : List (Name × Kind)) (level : Level) (p q : List (Event × NodeId)) (e : Event) : Type 0 where
  pub differs : differ level p q e ≡ true
  pub before : (f : Event) → is_lt (print_cmp params f e) ≡ true → differ level p q f ≡ false

-- the rows differ at no event
abbrev pub DifferNowhere : Level → List (Event × NodeId) → List (Event × NodeId) → Type 0
DifferNowhere level p q = (e : Event) → differ level p q e ≡ false

-- the least event at which the rows differ, first by whether they offer it and then by the nodes behind it
abbrev pub IsLeastEvent : List (Name × Kind) → List (Event × NodeId) → List (Event × NodeId) → Event → Type 0
IsLeastEvent params p q e = IsLeastDiffering params Events p q e ⊎ (DifferNowhere Events p q × IsLeastDiffering params Nodes p q e)

-- the step goes along the event alone, and stops at the node behind it
abbrev pub StepsAlone : World → List (Name × Kind) → NodeId → Event → Side → Step → Type 0
StepsAlone w params child event only (Stop last side) = ⊥
StepsAlone w params child event only (Alone f last side) = (f ≡ event) × (side ≡ only) × StopsAlone w params (byte_state params) child last
StepsAlone w params child event only (Both f first second) = ⊥
StepsAlone w params child event only Alike = ⊥

-- one step of the walk
abbrev pub IsStep : World → List (Name × Kind) → NodeId → NodeId → Step → Type 0
IsStep w params a b (Stop last only) = Stops w params (byte_state params) a b last only
IsStep w params a b (Alone event last only) = GoOn w params (byte_state params) a b × GoesAlone w params (byte_state params) a b event last only
IsStep w params a b (Both event first second) = GoOn w params (byte_state params) a b × SameOffers (row_of w a).offers (row_of w b).offers
    × IsLeastSplit params (row_of w a).offers (row_of w b).offers event first second
IsStep w params a b Alike = GoOn w params (byte_state params) a b × DifferNowhere Nodes (row_of w a).offers (row_of w b).offers

-- What a step on the offers finds, where the ends and the sets are the same
abbrev pub IsOfferStep : World → List (Name × Kind) → NodeId → NodeId → Step → Type 0
IsOfferStep w params a b (Stop last only) = ⊥
IsOfferStep w params a b (Alone event last only) = GoesAlone w params (byte_state params) a b event last only
IsOfferStep w params a b (Both event first second) = SameOffers (row_of w a).offers (row_of w b).offers
    × IsLeastSplit params (row_of w a).offers (row_of w b).offers event first second
IsOfferStep w params a b Alike = DifferNowhere Nodes (row_of w a).offers (row_of w b).offers

-- the walk finds a first difference; it finds none of nodes within the interface only where they are one node
abbrev pub IsWalked : World → List (Name × Kind) → NodeId → NodeId → Option Difference → Type 0
IsWalked w params a b (Some d) = IsFirstDifference w params (byte_state params) a b d.trace d.last d.only
IsWalked w params a b None = IsWithin w params a → IsWithin w params b → a ≡ b

-- a verdict on two roots whose maps are two
pub record IsFound (w : World) (a b : Root) (verdict : Verdict) : Type 0 where
  pub differs : verdict ≡ Same → ⊥
  pub first : IsOfInterface w a → IsOfInterface w b → IsFirst w a b verdict
