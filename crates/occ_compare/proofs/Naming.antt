-- The events of a first difference are events of the interface, and so their channels have names.
use Rattle.std.proofs.Common.{◌≡◌, ◌⊎◌, ◌<◌, ◌==◌, ◌||◌, ◌&&◌, ℕ, Bool, true, false, not, cond, List, [], ◌∷◌, Option, Some, None, length, is_some, refl, sym, ap, ◌∙◌, subst, ⊎_elim}
use Rattle.std.proofs.lemmas.Bool.{and_parts, and_from, or_cases, cases_Bool, eqb-true, false≢true}
use Rattle.std.proofs.lemmas.List.Elements.{All-from_recursion, recursion_from_All}
use Rattle.std.specs.List.{list_all, All, AllByRecursion}
use Rattle.occ_syntax.specs.occ_base.declared.event.Event.{Event}
use Rattle.occ_syntax.specs.occ_base.declared.names.Name.{Name}
use Rattle.occ_syntax.specs.declared.scope.Kind.{Kind}
use Rattle.occ_syntax.specs.Scopes.{environment, in_interface, in_scope, allows, channel_width, channel_kind, has_width}
use Rattle.occ_behaviour.specs.declared.behaviour.Behaviour.{Behaviour}
use Rattle.occ_behaviour.specs.declared.behaviour.Last.{Last}
use Rattle.occ_behaviour.specs.declared.behaviour.Last.TheVariants.{Refuses, Ends}
use Rattle.occ_behaviour.specs.declared.behaviour.Side.{Side}
use Rattle.occ_behaviour.specs.declared.behaviour.Side.TheVariants.{First, Second}
use Rattle.occ_behaviour.specs.Members.{AreNamed, LastIsNamed, IsNamed}
use Rattle.occ_node.specs.occ_accept.Accept.{in_set}
use Rattle.occ_node.proofs.from_accept.Strict.{all_each}
use Rattle.occ_node.proofs.from_accept.Events.{cmp_total, event_exact}
use Rattle.occ_node.specs.Offers.{next_in, is_offered}
use Rattle.occ_node.specs.World.{IsNode, row_of}
use Rattle.occ_node.specs.declared.node.NodeId.{NodeId}
use Rattle.occ_node.specs.declared.world.World.{World}
use Rattle.occ_node.proofs.Behaviours.{child_node}
use Rattle.occ_compare.specs.Interface.{IsWithin}
use Rattle.occ_compare.specs.Walk.{IsRefusal, IsLeastSplit, SameOffers, Stops, GoesAlone, IsFirstDifference}
use Rattle.occ_compare.proofs.Walking.{within_child, within_offer}

-- ---- names of channels
first_named : (n c : ℕ) (entry : Name × Kind) (ps : List (Name × Kind)) (v : ℕ) → entry.0.0 < n → (has_width (channel_width (environment ps) c) v ≡ true → c < n)
    → (b : Bool) → (c == entry.0.0) ≡ b → has_width (channel_kind (cond b (Some entry.1) (environment ps c))) v ≡ true → c < n
first_named n c entry ps v small rest true e h = subst (λ m. m < n) (sym (eqb-true c entry.0.0 e)) small
first_named n c entry ps v small rest false e h = rest h

channel_named : (n : ℕ) (ps : List (Name × Kind)) → AllByRecursion (λ entry. entry.0.0 < n) ps → (c v : ℕ) → has_width (channel_width (environment ps) c) v ≡ true → c < n
channel_named n [] all c v h = absurd (false≢true h)
channel_named n (entry ∷ ps) all c v h = first_named n c entry ps v all.0 (channel_named n ps all.1 c v) (c == entry.0.0) refl h

events_named : (n : ℕ) (ps : List (Name × Kind)) → AllByRecursion (λ entry. entry.0.0 < n) ps → (events : List Event) → list_all (in_interface (environment ps)) events ≡ true → AllByRecursion (λ e. e.chan.0 < n) events
events_named n ps all [] h = tt
events_named n ps all (e ∷ events) h =
    let p = and_parts (in_interface (environment ps) e) (list_all (in_interface (environment ps)) events) h in
    let q = and_parts (in_scope (environment ps) e) (allows (environment ps e.chan.0) e.dir) p.0 in
    (channel_named n ps all e.chan.0 e.value q.0, events_named n ps all events p.1)

abbrev LastWithin : List (Name × Kind) → Last → Type 0
LastWithin ps (Refuses events) = list_all (in_interface (environment ps)) events ≡ true
LastWithin ps (Ends state) = Unit {0}

last_named : (names : List (List ℕ)) (ps : List (Name × Kind)) → AllByRecursion (λ entry. entry.0.0 < length names) ps → (last : Last) → LastWithin ps last → LastIsNamed names last
last_named names ps all (Refuses events) h = All-from_recursion (λ (e : Event). e.chan.0 < length names) events (events_named (length names) ps all events h)
last_named names ps all (Ends state) h = tt

-- ---- the events of the walk
module _ (w : World) (ps : List (Name × Kind)) (told : ℕ → List (Name × ℕ)) where
  there : (o : Option NodeId) (c : NodeId) → o ≡ Some c → is_some o ≡ true
  there o c h = ap is_some h

  last_of_stop : (a b : NodeId) (last : Last) (side : Side) → IsNode w a → IsNode w b → IsWithin w ps a → IsWithin w ps b → Stops w ps told a b last side → LastWithin ps last
  last_of_stop a b (Ends state) side ha hb wa wb v = tt
  last_of_stop a b (Refuses events) side ha hb wa wb v = all_each cmp_total event_exact (in_interface (environment ps)) events (λ e m.
      let p = and_parts (is_offered (row_of w a).offers e || is_offered (row_of w b).offers e) (not (in_set v.1 e)) (sym (v.4.members e) ∙ m) in
      ⊎_elim
      (λ (h : is_offered (row_of w a).offers e ≡ true). within_offer w ps a e ha wa h)
      (λ (h : is_offered (row_of w b).offers e ≡ true). within_offer w ps b e hb wb h)
      (or_cases (is_offered (row_of w a).offers e) (is_offered (row_of w b).offers e) p.0))

  last_alone : (c : NodeId) (last : Last) (events : List Event) → last ≡ Refuses events → events ≡ [] → LastWithin ps last
  last_alone c last events is none = subst (LastWithin ps) (sym (is ∙ ap Refuses none)) refl

  event_alone : (side : Side) (a b : NodeId) (e : Event) (last : Last) → IsNode w a → IsNode w b → IsWithin w ps a → IsWithin w ps b → GoesAlone w ps told a b e last side → (in_interface (environment ps) e ≡ true) × LastWithin ps last
  event_alone First a b e (Ends state) ha hb wa wb v = (within_offer w ps a e ha wa (there (next_in (row_of w a).offers e) v.0 v.1.own), tt)
  event_alone First a b e (Refuses events) ha hb wa wb v = (within_offer w ps a e ha wa (there (next_in (row_of w a).offers e) v.0 v.1.own), last_alone v.0 (Refuses events) events refl v.2.0)
  event_alone Second a b e (Ends state) ha hb wa wb v = (within_offer w ps b e hb wb (there (next_in (row_of w b).offers e) v.0 v.1.own), tt)
  event_alone Second a b e (Refuses events) ha hb wa wb v = (within_offer w ps b e hb wb (there (next_in (row_of w b).offers e) v.0 v.1.own), last_alone v.0 (Refuses events) events refl v.2.0)

  pub all_within : (t : List Event) (a b : NodeId) (last : Last) (side : Side) → IsNode w a → IsNode w b → IsWithin w ps a → IsWithin w ps b → IsFirstDifference w ps told a b t last side
      → (list_all (in_interface (environment ps)) t ≡ true) × LastWithin ps last
  all_within [] a b last side ha hb wa wb v = (refl, last_of_stop a b last side ha hb wa wb v)
  all_within (e ∷ t) a b last side ha hb wa wb v = ⊎_elim
      (λ (h : (t ≡ []) × GoesAlone w ps told a b e last side).
      let p = event_alone side a b e last ha hb wa wb h.1 in
      (and_from (in_interface (environment ps) e) (list_all (in_interface (environment ps)) t) p.0 (ap (list_all (in_interface (environment ps))) h.0), p.1))
      (λ (h : SameOffers (row_of w a).offers (row_of w b).offers × (first : NodeId) × (second : NodeId) × IsLeastSplit ps (row_of w a).offers (row_of w b).offers e first second × IsFirstDifference w ps told first second t last side).
      let rest = all_within t h.1 h.2 last side (child_node w a h.1 e ha h.3.first) (child_node w b h.2 e hb h.3.second) (within_child w ps a h.1 e h.3.first wa) (within_child w ps b h.2 e h.3.second wb) h.4 in
      (and_from (in_interface (environment ps) e) (list_all (in_interface (environment ps)) t) (within_offer w ps a e ha wa (there (next_in (row_of w a).offers e) h.1 h.3.first)) rest.0, rest.1))
      v.1

  pub behaviour_named : (names : List (List ℕ)) (behaviour : Behaviour) (a b : NodeId) (side : Side) → IsNode w a → IsNode w b → IsWithin w ps a → IsWithin w ps b
      → IsFirstDifference w ps told a b behaviour.trace behaviour.last side → All (λ entry. entry.0.0 < length names) ps → IsNamed names behaviour
  behaviour_named names behaviour a b side ha hb wa wb v all =
      let each = recursion_from_All (λ (entry : Name × Kind). entry.0.0 < length names) ps all in
      let p = all_within behaviour.trace a b behaviour.last side ha hb wa wb v in
      record {
        trace = All-from_recursion (λ (e : Event). e.chan.0 < length names) behaviour.trace (events_named (length names) ps each behaviour.trace p.0);
        last = last_named names ps each behaviour.last p.1;
      }
