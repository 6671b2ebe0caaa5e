-- An ALT so far: what its events lead to, and what its ready guards lead to.
use Rattle.std.specs.Prelude.{ℕ, ◌<◌, ◌≡◌, ◌^◌, ◌↔◌, ◌⊎◌, Bool, true, false, List, Option, Some, None, is_some, bit_xor, if◌then◌else◌}
use Rattle.occ_syntax.specs.occ_base.declared.event.Event.{Event}
use Rattle.occ_syntax.specs.occ_base.declared.names.Name.{Name}
use Rattle.occ_syntax.specs.occ_base.declared.width.Width.{Width}
use Rattle.occ_syntax.specs.Eval.{is_true}
use Rattle.occ_syntax.specs.Meaning.{After}
use Rattle.occ_syntax.specs.Scopes.{Environment, Values}
use Rattle.occ_syntax.specs.Tree.{Branches, Exp, Tree, Waiting, and_branch, no_branch, ready}
use Rattle.occ_norm_frame.specs.occ_bits.Layout.{state_of}
use Rattle.occ_norm_frame.specs.occ_choice.Joined.{maybe_fails, maybe_ends}
use Rattle.occ_norm_frame.specs.occ_dd.Store.{has}
use Rattle.occ_norm_frame.specs.occ_dd.declared.set.SetId.{SetId}
use Rattle.occ_norm_frame.specs.occ_mdd.Maps.{value}
use Rattle.occ_norm_frame.specs.occ_mdd.declared.map.MapId.{MapId}
use Rattle.occ_norm_frame.specs.occ_node.World.{fails, ends}
use Rattle.occ_norm_frame.specs.occ_node.declared.node.NodeId.{NodeId}
use Rattle.occ_norm_frame.specs.occ_node.declared.world.World.{World}
use Rattle.occ_norm_frame.specs.occ_follow.Sequence.{HasNodes}
use Rattle.occ_norm_frame.specs.Lifted.{IsEither, IsMerged}
use Rattle.occ_norm_frame.specs.Maps.{MayHaveNodes}
use Rattle.occ_norm_frame.specs.After.{QuietlyFails, Resumes, change_of}
use Rattle.occ_norm_alt.specs.Offering.{IsOffering, Leads, Takes}

-- the world has the two maps of an ALT: one with a node everywhere, and one that may have none
pub record AreHeld (w : World) (a b : MapId) : Type 0 where
  pub waiting : HasNodes w a
  pub ready : MayHaveNodes w b

-- the set has the assignments of the states in which the condition is true
abbrev pub IsEnabledBy : World → List (Name × Width × ℕ) → Environment → Exp → SetId → Type 0
IsEnabledBy w layout Γ e set = (x : ℕ) → x < 2 ^ 64 → has w.store set x ≡ is_true Γ e (state_of layout x)

-- some branch that is enabled in the state has it
abbrev pub SomeEnabled : Environment → Values → (Waiting → Tree → Type 0) → Branches → Type 0
SomeEnabled Γ s P no_branch = ⊥
SomeEnabled Γ s P (and_branch e wait p bs) = ((is_true Γ e s ≡ true) × P wait p) ⊎ SomeEnabled Γ s P bs

-- every branch that is enabled in the state has it
abbrev pub EachEnabled : Environment → Values → (Waiting → Tree → Type 0) → Branches → Type 0
EachEnabled Γ s P no_branch = Unit {0}
EachEnabled Γ s P (and_branch e wait p bs) = (is_true Γ e s ≡ true → P wait p) × EachEnabled Γ s P bs

-- From the state of y the part and then the map `rest` can be stable after the trace and refuse the set.
abbrev pub FailsThen : World → List (Name × Width × ℕ) → List Name → Environment → MapId → Tree → ℕ → List Event → (Event → Bool) → Type 0
FailsThen w layout closed Γ rest p y t X = QuietlyFails layout closed Γ p y t X ⊎ Resumes w layout closed Γ p rest y (λ m_at m u. fails w m u X) t

-- From the state of y the part and then the map `rest` can have ended after the trace, with that change of the state of x.
abbrev pub EndsThen : World → List (Name × Width × ℕ) → ℕ → List Name → Environment → MapId → ℕ → Tree → ℕ → List Event → ℕ → Type 0
EndsThen w layout keep closed Γ rest x p y t z = Resumes w layout closed Γ p rest y (λ last m u. ends w m u (bit_xor z (change_of keep x last))) t

-- each event of the guard leads to the state of an assignment
abbrev pub Settles : List (Name × Width × ℕ) → Environment → ℕ → Waiting → Type 0
Settles layout Γ x wait = (e : Event) (s : Values) → After Γ (state_of layout x) wait e s → (y : ℕ) × (y < 2 ^ 64) × (s ≡ state_of layout y)

-- what the node of `waiting` has at an assignment: the events of the enabled guards, their processes, and then what `rest` has
abbrev pub IsWaitingAt : World → List (Name × Width × ℕ) → ℕ → List Name → Environment → Branches → MapId → ℕ → NodeId → Type 0
IsWaitingAt w layout keep closed Γ bs rest x a = IsOffering w a
    (λ e. SomeEnabled Γ (state_of layout x) (λ wait p. Takes layout closed Γ wait x e) bs)
    (λ e t X. SomeEnabled Γ (state_of layout x) (λ wait p. Leads layout closed Γ wait x e (λ y. FailsThen w layout closed Γ rest p y t X)) bs)
    (λ e t z. SomeEnabled Γ (state_of layout x) (λ wait p. Leads layout closed Γ wait x e (λ y. EndsThen w layout keep closed Γ rest x p y t z)) bs)

-- what `ready` has at an assignment: the processes of the enabled guards that are ready, and then what `rest` has
pub record IsReadyAt (w : World) (layout : List (Name × Width × ℕ)) (keep : ℕ) (closed : List Name) (Γ : Environment) (bs : Branches)
    (rest : MapId) (x : ℕ) (node : Option NodeId) : Type 0 where
  pub there : (is_some node ≡ true) ↔ SomeEnabled Γ (state_of layout x) (λ wait p. wait ≡ ready) bs
  pub ready_fails : (t : List Event) (X : Event → Bool)
      → (maybe_fails w node t X ≡ true) ↔ SomeEnabled Γ (state_of layout x) (λ wait p. (wait ≡ ready) × FailsThen w layout closed Γ rest p x t X) bs
  pub ready_ends : (t : List Event) (z : ℕ) → z < 2 ^ 64
      → (maybe_ends w node t z ≡ true) ↔ SomeEnabled Γ (state_of layout x) (λ wait p. (wait ≡ ready) × EndsThen w layout keep closed Γ rest x p x t z) bs

-- where there is a branch, the map of what follows has nodes
abbrev pub KnowsRest : World → Branches → MapId → Type 0
KnowsRest w no_branch rest = Unit {0}
KnowsRest w (and_branch e wait p bs) rest = HasNodes w rest

-- The two maps of an ALT. The node of `waiting` waits for the events of the enabled guards; that of `ready` is there where an
-- enabled guard is ready, and goes on as those that are.
pub record IsAlternation (w : World) (layout : List (Name × Width × ℕ)) (keep : ℕ) (closed : List Name) (Γ : Environment) (bs : Branches)
    (rest waiting ready : MapId) : Type 0 where
  pub rest_known : KnowsRest w bs rest
  pub settled : (x : ℕ) → x < 2 ^ 64 → EachEnabled Γ (state_of layout x) (λ wait p. Settles layout Γ x wait) bs
  pub waits : (x : ℕ) (a : NodeId) → x < 2 ^ 64 → value w.maps waiting x ≡ Some a → IsWaitingAt w layout keep closed Γ bs rest x a
  pub readies : (x : ℕ) → x < 2 ^ 64 → IsReadyAt w layout keep closed Γ bs rest x (value w.maps ready x)

-- the node waits for nothing
abbrev pub OffersNothing : World → NodeId → Type 0
OffersNothing w n = IsOffering w n (λ e. ⊥) (λ e t X. ⊥) (λ e t z. ⊥)

-- r waits for what `waiting` does and, where the test holds, for what `offered` does too
pub record IsOffered (w : World) (test : ℕ → Bool) (waiting offered r : MapId) : Type 0 where
  pub on : (x : ℕ) (a b c : NodeId) → x < 2 ^ 64 → value w.maps waiting x ≡ Some a → value w.maps offered x ≡ Some b → value w.maps r x ≡ Some c
      → test x ≡ true → IsMerged w a b c
  pub off : (x : ℕ) (a c : NodeId) → x < 2 ^ 64 → value w.maps waiting x ≡ Some a → value w.maps r x ≡ Some c → test x ≡ false
      → (n : NodeId) × OffersNothing w n × IsMerged w a n c

-- r has what `ready` has and, where the test holds, what `next` has
pub record IsUnited (w : World) (test : ℕ → Bool) (ready next r : MapId) : Type 0 where
  pub united : (x : ℕ) → x < 2 ^ 64 → IsEither w (value w.maps ready x) (if test x then value w.maps next x else None) (value w.maps r x)
