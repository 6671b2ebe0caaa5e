-- The events of a first excess are events of the interface, and so their channels have names.
use Rattle.std.proofs.Common.{◌≡◌, ◌⊎◌, ◌<◌, ◌==◌, ℕ, Bool, true, false, not, cond, List, [], ◌∷◌, Some, length, refl, sym, ap, ◌∙◌, subst, inl, inr, ⊎_elim}
use Rattle.std.proofs.lemmas.Bool.{and_parts, and_from, eqb-true, false≢true}
use Rattle.std.proofs.lemmas.List.Elements.{recursion_from_All, All-from_recursion}
use Rattle.std.specs.List.{list_all, All, AllByRecursion}
use Rattle.occ_syntax.specs.occ_base.declared.event.Event.{Event}
use Rattle.occ_syntax.specs.occ_base.declared.names.Name.{Name}
use Rattle.occ_syntax.specs.declared.scope.Kind.{Kind}
use Rattle.occ_syntax.specs.Scopes.{Trace, environment, in_interface, in_scope, allows, channel_width, channel_kind, has_width}
use Rattle.occ_behaviour.specs.declared.behaviour.Behaviour.{Behaviour}
use Rattle.occ_behaviour.specs.declared.behaviour.Last.{Last}
use Rattle.occ_behaviour.specs.declared.behaviour.Last.TheVariants.{Refuses, Ends}
use Rattle.occ_behaviour.specs.Members.{IsNamed, LastIsNamed}
use Rattle.occ_node.specs.occ_accept.Accept.{in_set}
use Rattle.occ_node.proofs.from_accept.Strict.{all_each}
use Rattle.occ_node.proofs.from_accept.Events.{cmp_total, event_exact}
use Rattle.occ_compare.specs.Views.{Values, Behaviours, after, HasTrace, Offers}
use Rattle.occ_compare.specs.Excess.{IsRefusal, StandsFirst, Stops, GoesAlone, GoesOn, IsFirstExcess}

-- ---- names of channels
first_named : (n c : ℕ) (entry : Name × Kind) (ps : List (Name × Kind)) (v : ℕ) → entry.0.0 < n → (has_width (channel_width (environment ps) c) v ≡ true → c < n)
    → (b : Bool) → (c == entry.0.0) ≡ b → has_width (channel_kind (cond b (Some entry.1) (environment ps c))) v ≡ true → c < n
first_named n c entry ps v small rest true e h = subst (λ m. m < n) (sym (eqb-true c entry.0.0 e)) small
first_named n c entry ps v small rest false e h = rest h

channel_named : (n : ℕ) (ps : List (Name × Kind)) → AllByRecursion (λ entry. entry.0.0 < n) ps → (c v : ℕ) → has_width (channel_width (environment ps) c) v ≡ true → c < n
channel_named n [] all c v h = absurd (false≢true h)
channel_named n (entry ∷ ps) all c v h = first_named n c entry ps v all.0 (channel_named n ps all.1 c v) (c == entry.0.0) refl h

-- events of the interface have channels with names, where the parameters have
pub events_named : (n : ℕ) (ps : List (Name × Kind)) → AllByRecursion (λ entry. entry.0.0 < n) ps → (events : List Event) → list_all (in_interface (environment ps)) events ≡ true → AllByRecursion (λ e. e.chan.0 < n) events
events_named n ps all [] h = tt
events_named n ps all (e ∷ events) h =
    let p = and_parts (in_interface (environment ps) e) (list_all (in_interface (environment ps)) events) h in
    let q = and_parts (in_scope (environment ps) e) (allows (environment ps e.chan.0) e.dir) p.0 in
    (channel_named n ps all e.chan.0 e.value q.0, events_named n ps all events p.1)

-- the refused events are of the interface
abbrev pub LastWithin : List (Name × Kind) → Last → Type 0
LastWithin ps (Refuses events) = list_all (in_interface (environment ps)) events ≡ true
LastWithin ps (Ends state) = Unit {0}

last_named : (names : List (List ℕ)) (ps : List (Name × Kind)) → AllByRecursion (λ entry. entry.0.0 < length names) ps → (last : Last) → LastWithin ps last → LastIsNamed names last
last_named names ps all (Refuses events) h = All-from_recursion (λ (e : Event). e.chan.0 < length names) events (events_named (length names) ps all events h)
last_named names ps all (Ends state) h = tt

-- ---- the events of a first excess
-- what refuses a set refuses the empty one
abbrev pub IsDown : Behaviours → Type 0
IsDown b = (t : Trace) (X : Event → Bool) → b.fails t X → b.fails t (λ e. false)

module _ (ps : List (Name × Kind)) where
  -- the traces have events of the interface alone
  abbrev pub HasEvents : Behaviours → Type 0
  HasEvents b = (t : Trace) → HasTrace b t → list_all (in_interface (environment ps)) t ≡ true

  some_trace : (t : Trace) (last : Last) (a b : Behaviours) → IsDown b → IsFirstExcess ps a b t last → (u : Trace) × HasTrace b u
  some_trace [] (Ends s) a b down h = ([], inr (s, h.own))
  some_trace [] (Refuses events) a b down h = ([], inl (down [] (λ e. not (in_set h.1 e)) h.2.own))
  some_trace (e ∷ t) last a b down h = ⊎_elim
      (λ (k : (t ≡ []) × GoesAlone ps a b e last). (e ∷ k.1.0.own.0, k.1.0.own.1))
      (λ (k : GoesOn ps a b e × IsFirstExcess ps (after a e) (after b e) t last). put e b (some_trace t last (after a e) (after b e) (λ u X. down (e ∷ u) X) k.1))
      h.2
    where
      put : (e : Event) (b : Behaviours) → (u : Trace) × HasTrace (after b e) u → (u : Trace) × HasTrace b u
      put e b v = (e ∷ v.0, v.1)

  offered_within : (b : Behaviours) (e : Event) → HasEvents b → Offers b e → in_interface (environment ps) e ≡ true
  offered_within b e has o = (and_parts (in_interface (environment ps) e) (list_all (in_interface (environment ps)) o.0) (has (e ∷ o.0) o.1)).0

  has_after : (b : Behaviours) (e : Event) → HasEvents b → HasEvents (after b e)
  has_after b e has t h = (and_parts (in_interface (environment ps) e) (list_all (in_interface (environment ps)) t) (has (e ∷ t) h)).1

  last_stops : (a b : Behaviours) (last : Last) → HasEvents a → HasEvents b → Stops ps a b last → LastWithin ps last
  last_stops a b (Ends s) ha hb h = tt
  last_stops a b (Refuses events) ha hb h = all_each cmp_total event_exact (in_interface (environment ps)) events (λ e m. ⊎_elim
      (λ (o : Offers a e). offered_within a e ha o)
      (λ (o : Offers b e). offered_within b e hb o)
      ((h.3.members e).0 m).0)

  last_alone : (b : Behaviours) (last : Last) → StandsFirst b last → LastWithin ps last
  last_alone b (Ends s) h = tt
  last_alone b (Refuses events) h = ap (list_all (in_interface (environment ps))) h.0

  pub events_within : (t : Trace) (last : Last) (a b : Behaviours) → IsDown b → HasEvents a → HasEvents b → IsFirstExcess ps a b t last → (list_all (in_interface (environment ps)) t ≡ true) × LastWithin ps last
  events_within [] last a b down ha hb h = (refl, last_stops a b last ha hb h)
  events_within (e ∷ t) last a b down ha hb h = ⊎_elim
      (λ (k : (t ≡ []) × GoesAlone ps a b e last). (
        and_from (in_interface (environment ps) e) (list_all (in_interface (environment ps)) t) (offered_within b e hb k.1.0.own) (ap (list_all (in_interface (environment ps))) k.0),
        last_alone (after b e) last k.1.1,
      ))
      (λ (k : GoesOn ps a b e × IsFirstExcess ps (after a e) (after b e) t last).
      let rest = events_within t last (after a e) (after b e) (λ u X. down (e ∷ u) X) (has_after a e ha) (has_after b e hb) k.1 in
      let some = some_trace t last (after a e) (after b e) (λ u X. down (e ∷ u) X) k.1 in
      (and_from (in_interface (environment ps) e) (list_all (in_interface (environment ps)) t) (offered_within b e hb (some.0, some.1)) rest.0, rest.1))
      h.2

  -- the behaviour can be printed with every table that has the parameters' names
  pub excess_named : (names : List (List ℕ)) (behaviour : Behaviour) (a b : Behaviours) → IsDown b → HasEvents a → HasEvents b → IsFirstExcess ps a b behaviour.trace behaviour.last
      → All (λ entry. entry.0.0 < length names) ps → IsNamed names behaviour
  excess_named names behaviour a b down ha hb h all =
      let each = recursion_from_All (λ (entry : Name × Kind). entry.0.0 < length names) ps all in
      let p = events_within behaviour.trace behaviour.last a b down ha hb h in
      record {
        trace = All-from_recursion (λ (e : Event). e.chan.0 < length names) behaviour.trace (events_named (length names) ps each behaviour.trace p.0);
        last = last_named names ps each behaviour.last p.1;
      }
