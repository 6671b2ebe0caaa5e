-- There is one first excess, and one first trace to where a process is stuck.
use Rattle.std.proofs.Common.{◌≡◌, ◌⊎◌, ◌↔◌, ℕ, Bool, true, false, not, List, [], ◌∷◌, Option, Some, None, refl, sym, ap, ◌∙◌, subst, inl, inr, ⊎_elim}
use Rattle.std.proofs.lemmas.Bool.{both_ways, false≢true, true≢false}
use Rattle.std.specs.Ordering.{is_lt}
use Rattle.occ_syntax.specs.occ_base.declared.event.Event.{Event}
use Rattle.occ_syntax.specs.occ_base.declared.names.Name.{Name}
use Rattle.occ_syntax.specs.declared.scope.Kind.{Kind}
use Rattle.occ_syntax.specs.Scopes.{Trace, environment, in_interface}
use Rattle.occ_syntax.specs.Tree.{Tree}
use Rattle.occ_behaviour.specs.declared.behaviour.Behaviour.{Behaviour}
use Rattle.occ_behaviour.specs.declared.behaviour.Last.{Last}
use Rattle.occ_behaviour.specs.declared.behaviour.Last.TheVariants.{Refuses, Ends}
use Rattle.occ_behaviour.specs.States.{is_state, state_less}
use Rattle.occ_node.specs.occ_accept.Order.{strict, is_in}
use Rattle.occ_node.specs.occ_accept.Accept.{in_set}
use Rattle.occ_node.proofs.from_accept.Strict.{same_strict, same_tests}
use Rattle.occ_compare.specs.Orders.{print_cmp, set_cmp}
use Rattle.occ_compare.proofs.Printing.{print_total, print_exact, in_printed}
use Rattle.occ_compare.specs.declared.refined.Refined.{Refined}
use Rattle.occ_compare.specs.declared.refined.Refined.TheVariants.{Yes, No}
use Rattle.occ_compare.specs.Views.{Values, Behaviours, after, Offers, Accepts, Stands, IsWithin}
use Rattle.occ_compare.specs.Excess.{EndsWithin, AcceptsWithin, OffersWithin, IsLeastEnd, StandsFirst, IsLeastSet, IsRefusal, IsLeastOffer, Stops, GoesAlone, GoesOn, IsFirstExcess}
use Rattle.occ_compare.specs.Stuck.{IsStuckAfter, IsFirstStuck, RefusesAll}
use Rattle.occ_compare.specs.Programs.{behaviours_of, Refines, IsExcess, IsFreeProgram, IsDeadlock, IsDeadlockAnswer, IsRefinement}
use Rattle.occ_compare.proofs.Orders.{one_event, one_list, one_state}

-- ---- lists of events that increase, with the same members
pub one_of_members : (ps : List (Name × Kind)) (l m : List Event) → strict (print_cmp ps) l ≡ true → strict (print_cmp ps) m ≡ true → ((e : Event) → in_set l e ≡ true → in_set m e ≡ true)
    → ((e : Event) → in_set m e ≡ true → in_set l e ≡ true) → l ≡ m
one_of_members ps l m p q h k = same_strict (print_total ps) (print_exact ps) l m p q
    (λ e. sym (in_printed ps l e) ∙ same_tests (in_set l e) (in_set m e) (h e) (k e) ∙ in_printed ps m e)

-- ---- an excess is no refinement
module _ (ps : List (Name × Kind)) where
  stops_more : (a b : Behaviours) (last : Last) → Stops ps a b last → IsWithin b a → ⊥
  stops_more a b (Ends s) h w = h.other (w.ends [] s h.own)
  stops_more a b (Refuses events) h w = h.2.other (w.fails [] (λ e. not (in_set h.1 e)) h.2.own)

  offers_more : (a b : Behaviours) (e : Event) → Offers b e → IsWithin b a → Offers a e
  offers_more a b e o w = (
    o.0,
    ⊎_elim
        (λ (k : b.fails (e ∷ o.0) (λ f. false)). inl (w.fails (e ∷ o.0) (λ f. false) k))
        (λ (k : (s : Values) × b.ends (e ∷ o.0) s). inr (k.0, w.ends (e ∷ o.0) k.0 k.1))
        o.1,
  )

  within_after : (a b : Behaviours) (e : Event) → IsWithin b a → IsWithin (after b e) (after a e)
  within_after a b e w = record { fails = λ t X. w.fails (e ∷ t) X; ends = λ t s. w.ends (e ∷ t) s }

  pub excess_more : (t : Trace) (last : Last) (a b : Behaviours) → IsFirstExcess ps a b t last → IsWithin b a → ⊥
  excess_more [] last a b h w = stops_more a b last h w
  excess_more (e ∷ t) last a b h w = ⊎_elim
      (λ (p : (t ≡ []) × GoesAlone ps a b e last). p.1.0.other (offers_more a b e p.1.0.own w))
      (λ (p : GoesOn ps a b e × IsFirstExcess ps (after a e) (after b e) t last). excess_more t last (after a e) (after b e) p.1 (within_after a b e w))
      h.2

-- ---- one excess
-- the two end in states of the interface alone
abbrev pub HasStates : List (Name × Kind) → Behaviours → Type 0
HasStates ps b = (t : Trace) (s : Values) → b.ends t s → is_state ps s ≡ true

module _ (ps : List (Name × Kind)) where
  abbrev AreOne : Trace → Trace → Last → Last → Type 0
  AreOne t u l m = (t ≡ u) × (l ≡ m)

  ends_one : (a b : Behaviours) → HasStates ps b → (s u : Values) → IsLeastEnd a b s → IsLeastEnd a b u → s ≡ u
  ends_one a b states s u h k = one_state ps s u (states [] s h.own) (states [] u k.own) (λ less. h.other (k.before s less h.own)) (λ less. k.other (h.before u less k.own))

  sets_one : (a b : Behaviours) (s t : List Event) → IsLeastSet ps a b s → IsLeastSet ps a b t → s ≡ t
  sets_one a b s t h k = one_list ps s t (λ less. h.other (k.before s h.listed less h.own)) (λ less. k.other (h.before t k.listed less k.own))

  refusals_one : (a b : Behaviours) (s t l m : List Event) → s ≡ t → IsRefusal ps a b s l → IsRefusal ps a b t m → l ≡ m
  refusals_one a b s t l m e h k = one_of_members ps l m h.listed k.listed
      (λ f i. let p = (h.members f).0 i in (k.members f).1 (p.0, sym (ap (λ set. in_set set f) e) ∙ p.1))
      (λ f i. let p = (k.members f).0 i in (h.members f).1 (p.0, ap (λ set. in_set set f) e ∙ p.1))

  stops_one : (a b : Behaviours) → HasStates ps b → (l m : Last) → Stops ps a b l → Stops ps a b m → l ≡ m
  stops_one a b states (Ends s) (Ends u) h k = ap Ends (ends_one a b states s u h k)
  stops_one a b states (Ends s) (Refuses events) h k = absurd (h.other (k.0 s h.own))
  stops_one a b states (Refuses events) (Ends u) h k = absurd (k.other (h.0 u k.own))
  stops_one a b states (Refuses events) (Refuses others) h k = ap Refuses (refusals_one a b h.1 k.1 events others (sets_one a b h.1 k.1 h.2 k.2) h.3 k.3)

  stops_not : (a b : Behaviours) (l : Last) → Stops ps a b l → EndsWithin b a → AcceptsWithin b a → ⊥
  stops_not a b (Ends s) h ends accepts = h.other (ends s h.own)
  stops_not a b (Refuses events) h ends accepts = h.2.other (accepts h.1 h.2.own)

  stands_one : (b : Behaviours) → HasStates ps b → (l m : Last) → StandsFirst b l → StandsFirst b m → l ≡ m
  stands_one b states (Ends s) (Ends u) h k = ap Ends (one_state ps s u (states [] s h.0) (states [] u k.0) (λ less. k.1 s less h.0) (λ less. h.1 u less k.0))
  stands_one b states (Ends s) (Refuses events) h k = absurd (k.1 s h.0)
  stands_one b states (Refuses events) (Ends u) h k = absurd (h.1 u k.0)
  stands_one b states (Refuses events) (Refuses others) h k = ap Refuses (h.0 ∙ sym k.0)

  events_one : (a b : Behaviours) (e f : Event) → IsLeastOffer ps a b e → IsLeastOffer ps a b f → e ≡ f
  events_one a b e f h k = one_event ps e f (λ less. h.other (k.before e less h.own)) (λ less. k.other (h.before f less k.own))

  module _ (a b : Behaviours) (states : HasStates ps b) (e f : Event) (t u : Trace) (l m : Last)
      (again : IsFirstExcess ps (after a e) (after b e) t l → IsFirstExcess ps (after a e) (after b e) u m → AreOne t u l m) where
    alone_one : (t ≡ []) × GoesAlone ps a b e l → (u ≡ []) × GoesAlone ps a b f m → AreOne (e ∷ t) (f ∷ u) l m
    alone_one h k =
        let event : e ≡ f = events_one a b e f h.1.0 k.1.0 in
        let trace : t ≡ u = h.0 ∙ sym k.0 in
        (λ i. event i ∷ trace i, stands_one (after b e) (λ v s. states (e ∷ v) s) l m h.1.1 (subst (λ (g : Event). StandsFirst (after b g) m) (sym event) k.1.1))

    on_one : GoesOn ps a b e × IsFirstExcess ps (after a e) (after b e) t l → GoesOn ps a b f × IsFirstExcess ps (after a f) (after b f) u m → AreOne (e ∷ t) (f ∷ u) l m
    on_one h k =
        let event : e ≡ f = one_event ps e f (λ less. excess_more ps t l (after a e) (after b e) h.1 (k.0.1 e less)) (λ less. excess_more ps u m (after a f) (after b f) k.1 (h.0.1 f less)) in
        let rest = again h.1 (subst (λ (g : Event). IsFirstExcess ps (after a g) (after b g) u m) (sym event) k.1) in
        let trace : t ≡ u = rest.0 in
        (λ i. event i ∷ trace i, rest.1)

    abbrev IsAlone : Event → Trace → Last → Type 0
    IsAlone g v n = (v ≡ []) × GoesAlone ps a b g n

    abbrev IsOn : Event → Trace → Last → Type 0
    IsOn g v n = GoesOn ps a b g × IsFirstExcess ps (after a g) (after b g) v n

    step_one : IsAlone e t l ⊎ IsOn e t l → IsAlone f u m ⊎ IsOn f u m → AreOne (e ∷ t) (f ∷ u) l m
    step_one h k = ⊎_elim
        (λ (p : IsAlone e t l). ⊎_elim
        (λ (q : IsAlone f u m). alone_one p q)
        (λ (q : IsOn f u m). absurd (p.1.0.other (q.0.0 e p.1.0.own)))
        k)
        (λ (p : IsOn e t l). ⊎_elim
        (λ (q : IsAlone f u m). absurd (q.1.0.other (p.0.0 f q.1.0.own)))
        (λ (q : IsOn f u m). on_one p q)
        k)
        h

  pub one_excess : (t u : Trace) (l m : Last) (a b : Behaviours) → HasStates ps b → IsFirstExcess ps a b t l → IsFirstExcess ps a b u m → AreOne t u l m
  one_excess [] [] l m a b states h k = (refl, stops_one a b states l m h k)
  one_excess [] (f ∷ u) l m a b states h k = absurd (stops_not a b l h k.0 k.1)
  one_excess (e ∷ t) [] l m a b states h k = absurd (stops_not a b m k h.0 h.1)
  one_excess (e ∷ t) (f ∷ u) l m a b states h k =
      step_one a b states e f t u l m (λ p q. one_excess t u l m (after a e) (after b e) (λ v s. states (e ∷ v) s) p q) h.2 k.2

-- ---- one answer of programs
pub same_behaviour : (x y : Behaviour) → x.state ≡ y.state → x.trace ≡ y.trace → x.last ≡ y.last → x ≡ y
same_behaviour x y e f g = λ i. record { state = e i; trace = f i; last = g i }

module _ (ps : List (Name × Kind)) (p q : Tree) where
  excess_one : (x y : Behaviour) → IsExcess ps p q x → IsExcess ps p q y → x ≡ y
  excess_one x y h k =
      let state : x.state ≡ y.state = one_state ps x.state y.state h.within.state k.within.state
      (λ less. excess_more ps x.trace x.last (behaviours_of ps p x.state) (behaviours_of ps q x.state) h.first (k.before x.state h.within.state less))
      (λ less. excess_more ps y.trace y.last (behaviours_of ps p y.state) (behaviours_of ps q y.state) k.first (h.before y.state k.within.state less)) in
      let one = one_excess ps x.trace y.trace x.last y.last (behaviours_of ps p x.state) (behaviours_of ps q x.state) (λ t s e. e.0) h.first
      (subst (λ (s : Values). IsFirstExcess ps (behaviours_of ps p s) (behaviours_of ps q s) y.trace y.last) (sym state) k.first) in
      same_behaviour x y state one.0 one.1

  no_excess : (x : Behaviour) → Refines ps p q → IsExcess ps p q x → ⊥
  no_excess x h k = excess_more ps x.trace x.last (behaviours_of ps p x.state) (behaviours_of ps q x.state) k.first (h x.state k.within.state)

  pub refinement_one : (x y : Refined) → IsRefinement ps p q x → IsRefinement ps p q y → x ≡ y
  refinement_one Yes Yes h k = refl
  refinement_one Yes (No y) h k = absurd (no_excess y h k)
  refinement_one (No x) Yes h k = absurd (no_excess x k h)
  refinement_one (No x) (No y) h k = ap No (excess_one x y h k)

-- ---- one deadlock
lasts_one : (ps : List (Name × Kind)) (l m : Last) → RefusesAll ps l → RefusesAll ps m → l ≡ m
lasts_one ps (Refuses events) (Refuses others) h k = ap Refuses (one_of_members ps events others h.0 k.0 (λ e i. k.1 e ∙ sym (h.1 e) ∙ i) (λ e i. h.1 e ∙ sym (k.1 e) ∙ i))
lasts_one ps (Refuses events) (Ends s) h k = absurd k
lasts_one ps (Ends s) m h k = absurd h

stuck_one : (ps : List (Name × Kind)) (b : Behaviours) (t u : Trace) → IsFirstStuck ps b t → IsFirstStuck ps b u → t ≡ u
stuck_one ps b t u h k = one_list ps t u (λ less. both_ways (is_lt (set_cmp ps t u)) (k.first t h.stuck) less) (λ less. both_ways (is_lt (set_cmp ps u t)) (h.first u k.stuck) less)

module _ (ps : List (Name × Kind)) (p : Tree) where
  deadlocks_one : (x y : Behaviour) → IsDeadlock ps p x → IsDeadlock ps p y → x ≡ y
  deadlocks_one x y h k =
      let state : x.state ≡ y.state = one_state ps x.state y.state h.within.state k.within.state
      (λ less. k.before x.state h.within.state less x.trace h.first.stuck)
      (λ less. h.before y.state k.within.state less y.trace k.first.stuck) in
      let trace : x.trace ≡ y.trace = stuck_one ps (behaviours_of ps p x.state) x.trace y.trace h.first (subst (λ (s : Values). IsFirstStuck ps (behaviours_of ps p s) y.trace) (sym state) k.first) in
      same_behaviour x y state trace (lasts_one ps x.last y.last h.last k.last)

  pub deadlock_one : (x y : Option Behaviour) → IsDeadlockAnswer ps p x → IsDeadlockAnswer ps p y → x ≡ y
  deadlock_one None None h k = refl
  deadlock_one None (Some y) h k = absurd (h y.state k.within.state y.trace k.first.stuck)
  deadlock_one (Some x) None h k = absurd (k x.state h.within.state x.trace h.first.stuck)
  deadlock_one (Some x) (Some y) h k = ap Some (deadlocks_one x y h k)
