-- What a verdict on two roots says.
use Rattle.std.specs.Prelude.{ℕ, ◌<◌, ◌≡◌, ◌^◌, Bool, true, List, Some, length}
use Rattle.std.specs.List.{All}
use Rattle.occ_syntax.specs.occ_base.declared.event.Event.{Event}
use Rattle.occ_syntax.specs.occ_base.declared.names.Name.{Name}
use Rattle.occ_syntax.specs.declared.scope.Kind.{Kind}
use Rattle.occ_syntax.specs.Counts.{bits_of_scope}
use Rattle.occ_syntax.specs.Scopes.{among}
use Rattle.occ_behaviour.specs.declared.behaviour.Behaviour.{Behaviour}
use Rattle.occ_behaviour.specs.declared.behaviour.Last.{Last}
use Rattle.occ_behaviour.specs.declared.behaviour.Last.TheVariants.{Refuses, Ends}
use Rattle.occ_behaviour.specs.declared.behaviour.Side.{Side}
use Rattle.occ_behaviour.specs.declared.behaviour.Verdict.{Verdict}
use Rattle.occ_behaviour.specs.declared.behaviour.Verdict.TheVariants.{Same, Differ}
use Rattle.occ_behaviour.specs.Members.{VerdictIsNamed}
use Rattle.occ_node.specs.occ_mdd.Maps.{value}
use Rattle.occ_node.specs.occ_mdd.declared.map.MapId.{MapId}
use Rattle.occ_node.specs.World.{fails, ends}
use Rattle.occ_node.specs.declared.node.NodeId.{NodeId}
use Rattle.occ_node.specs.declared.root.Root.{Root}
use Rattle.occ_node.specs.declared.world.World.{World}
use Rattle.occ_compare.specs.Places.{state_at}
use Rattle.occ_compare.specs.Walk.{picked, opposite, is_before, IsFirstDifference}

-- the nodes have equal failures and ends
pub record MeansTheSame (w : World) (a b : NodeId) : Type 0 where
  pub same_fails : (t : List Event) (X : Event → Bool) → fails w a t X ≡ fails w b t X
  pub same_ends : (t : List Event) (x : ℕ) → x < 2 ^ 64 → ends w a t x ≡ ends w b t x

-- the maps mean the same at every assignment
abbrev pub MeanTheSame : World → MapId → MapId → Type 0
MeanTheSame w a b = (x : ℕ) (m n : NodeId) → x < 2 ^ 64 → value w.maps a x ≡ Some m → value w.maps b x ≡ Some n → MeansTheSame w m n

-- the node can stand so after the trace
abbrev pub Stands : World → List (Name × Kind) → NodeId → List Event → Last → Type 0
Stands w params a trace (Refuses events) = fails w a trace (among events) ≡ true
Stands w params a trace (Ends state) = (x : ℕ) × (x < 2 ^ 64) × (state ≡ state_at params x) × (ends w a trace x ≡ true)

-- the behaviour begins in the state of an assignment, at which the roots have these nodes
pub record Begins (w : World) (a b : Root) (behaviour : Behaviour) (x : ℕ) (m n : NodeId) : Type 0 where
  pub within : x < 2 ^ bits_of_scope a.params
  pub state : behaviour.state ≡ state_at a.params x
  pub first : value w.maps a.states x ≡ Some m
  pub second : value w.maps b.states x ≡ Some n

-- the behaviour begins in the least state from which the roots differ, and is the first difference of the nodes there
pub record IsFirstOf (w : World) (a b : Root) (behaviour : Behaviour) (only : Side) : Type 0 where
  pub start : ℕ
  pub first : NodeId
  pub second : NodeId
  pub begins : Begins w a b behaviour start first second
  pub apart : first ≡ second → ⊥
  pub before : (y : ℕ) → y < 2 ^ bits_of_scope a.params → is_before a.params y start ≡ true → value w.maps a.states y ≡ value w.maps b.states y
  pub walk : IsFirstDifference w a.params (state_at a.params) first second behaviour.trace behaviour.last only

-- the behaviour belongs to one root alone, the one that the side names
pub record BelongsToOne (w : World) (a b : Root) (behaviour : Behaviour) (only : Side) : Type 0 where
  pub start : ℕ
  pub first : NodeId
  pub second : NodeId
  pub begins : Begins w a b behaviour start first second
  pub member : Stands w a.params (picked only first second) behaviour.trace behaviour.last
  pub no_member : Stands w a.params (picked (opposite only) first second) behaviour.trace behaviour.last → ⊥

abbrev pub IsFirst : World → Root → Root → Verdict → Type 0
IsFirst w a b Same = Unit {0}
IsFirst w a b (Differ behaviour only) = IsFirstOf w a b behaviour only

abbrev pub IsMember : World → Root → Root → Verdict → Type 0
IsMember w a b Same = Unit {0}
IsMember w a b (Differ behaviour only) = BelongsToOne w a b behaviour only

-- the verdict can be printed with every table that has the parameters' names
abbrev pub IsPrintable : List (Name × Kind) → Verdict → Type 0
IsPrintable params verdict = (names : List (List ℕ)) → All (λ entry. entry.0.0 < length names) params → VerdictIsNamed names verdict
