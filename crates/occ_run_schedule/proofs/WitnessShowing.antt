-- How a configuration that has come to an outcome stands, and that this covers the last line of the behaviour.
use Rattle.occ_syntax.specs.occ_base.declared.event.Event.{Event}
use Rattle.occ_syntax.specs.occ_base.declared.names.Name.{Name}
use Rattle.occ_syntax.specs.occ_base.declared.width.Width.{Width}
use Rattle.occ_syntax.specs.occ_base.Width.{bits_of}
use Rattle.occ_run.specs.occ_behaviour.States.{is_state}
use Rattle.occ_run.specs.occ_behaviour.declared.behaviour.Last.{Last}
use Rattle.occ_run.specs.occ_behaviour.declared.behaviour.Last.TheVariants.{Refuses, Ends}
use Rattle.occ_behaviour_read.specs.Claims.{LastIsOf}
use Rattle.occ_run.proofs.from_meaning.Facts.{at_itself, event_itself, false_not_true, if_false, if_true, none_not_some, same_events}
use Rattle.occ_member.specs.Spots.{Spot, steps_of}
use Rattle.occ_run.specs.Configurations.{Configuration}
use Rattle.occ_run.specs.Configurations.{steps_of as steps_of_configuration}
use Rattle.occ_run.specs.Stands.{IsStand, interface, refused_by, shown, state_of}
use Rattle.occ_run.specs.declared.answer.Stand.{Stand}
use Rattle.occ_run.specs.declared.answer.Stand.TheVariants.{Ended, Stuck, Stable}
use Rattle.occ_run.proofs.from_run_steps.Lists.{Is, first, later}
use Rattle.occ_run.specs.occ_run_steps.Control.{Control, is_done}
use Rattle.occ_run.specs.occ_run_steps.Step.{Step, is_event, is_outside, is_unseen, not_seen, outside, same}
use Rattle.occ_run_schedule.specs.Marks.{RestsAt, configured, outcome_of}
use Rattle.occ_run_schedule.specs.Witnesses.{Covers, IsWithin}
use Rattle.occ_syntax.specs.Scopes.{Trace, Values, among, environment, same_event, values, variable_kind, variable_width}
use Rattle.occ_syntax.specs.Types.{can_declare, is_width, scope_kept, width_of_kind}
use Rattle.occ_syntax.specs.declared.scope.Kind.{Kind}
use Rattle.occ_syntax.specs.declared.scope.Kind.TheVariants.{Var, Chan}
use Rattle.std.proofs.Common.{Bool, List, None, Option, Some, [], ap, arith, false, if◌then◌else◌, inl, inr, is_none, length, nat_lt, not, refl, sym, true, ℕ, ◌&&◌, ◌==◌, ◌^◌, ◌||◌, ◌∙◌, ◌∷◌, ◌≡◌}
use Rattle.std.proofs.lemmas.Bool.{and_from, and_parts, cases_Bool, not_from_false}
use Rattle.std.proofs.lemmas.Bool.Decides.{eqb_tells}
use Rattle.std.specs.List.{filter, list_all, list_any}

-- ---- what is refused

-- each of the steps is an event that isn't of the set, so none is unseen
none_unseen : (ks : List (Step Control)) (X : Event → Bool) → list_all (is_outside X) ks ≡ true → list_any is_unseen ks ≡ false
none_unseen [] X h = refl
none_unseen (k ∷ ks) X h =
    let p = and_parts (is_outside X k) (list_all (is_outside X) ks) h in
    ap (λ b. b || list_any is_unseen ks) (by_event k.event p.0) ∙ none_unseen ks X p.1
  where
    by_event : (v : Option Event) → outside X v ≡ true → not_seen v ≡ false
    by_event None e = false_not_true e
    by_event (Some f) e = refl

-- an event of the set is none of the steps
none_is : (ks : List (Step Control)) (X : Event → Bool) (e : Event) → X e ≡ true → list_all (is_outside X) ks ≡ true → list_any (is_event e) ks ≡ false
none_is [] X e in_set h = refl
none_is (k ∷ ks) X e in_set h =
    let p = and_parts (is_outside X k) (list_all (is_outside X) ks) h in
    ap (λ b. b || list_any (is_event e) ks) (by_event k.event p.0) ∙ none_is ks X e in_set p.1
  where
    by_event : (v : Option Event) → outside X v ≡ true → same e v ≡ false
    by_event None g = refl
    by_event (Some f) g = elim (cases_Bool (same_event e f)) [
      | inl s ↦ (let one : e ≡ f = same_events e f s in false_not_true (sym (ap not (sym (ap X one) ∙ in_set)) ∙ g))
      | inr s ↦ s
    ]

-- an event of a list that passes a test is among those that pass it
among_kept : (p : Event → Bool) (es : List Event) (e : Event) → among es e ≡ true → p e ≡ true → among (filter p es) e ≡ true
among_kept p [] e h k = h
among_kept p (f ∷ es) e h k = by_same (λ g. among_kept p es e g k) (same_event e f) refl h
  where
    put_first : (b : Bool) → b ≡ true → same_event e f ≡ true → among (if b then f ∷ filter p es else filter p es) e ≡ true
    put_first true g s = if_true (same_event e f) true (among (filter p es) e) s
    put_first false g s = false_not_true g

    put_later : (b : Bool) → same_event e f ≡ false → among (filter p es) e ≡ true → among (if b then f ∷ filter p es else filter p es) e ≡ true
    put_later true s g = if_false (same_event e f) true (among (filter p es) e) s ∙ g
    put_later false s g = g

    by_same : (among es e ≡ true → among (filter p es) e ≡ true) → (b : Bool) → same_event e f ≡ b → (if b then true else among es e) ≡ true → among (filter p (f ∷ es)) e ≡ true
    by_same others true s g = put_first (p f) (sym (ap p (same_events e f s)) ∙ k) s
    by_same others false s g = put_later (p f) s (others g)

-- ---- the state at the end

later_kept : (entry : Name × Kind) (params : List (Name × Kind)) → scope_kept (entry ∷ params) ≡ true → scope_kept params ≡ true
later_kept entry params h = (and_parts (can_declare (environment params) entry.0.0 (width_of_kind entry.1)) (scope_kept params) h).1

-- the first name of a scope is no variable of the others
fresh : (entry : Name × Kind) (params : List (Name × Kind)) → scope_kept (entry ∷ params) ≡ true → variable_width (environment params) entry.0.0 ≡ None
fresh entry params h =
    let k = and_parts (can_declare (environment params) entry.0.0 (width_of_kind entry.1)) (scope_kept params) h in
    off (environment params entry.0.0) (and_parts (is_none (environment params entry.0.0)) (is_width (width_of_kind entry.1)) k.0).0
  where
    off : (o : Option Kind) → is_none o ≡ true → variable_kind o ≡ None
    off None e = refl
    off (Some kind) e = cc

wide_at : (entry : Name × Kind) (params : List (Name × Kind)) (x : ℕ) → (x == entry.0.0) ≡ true → variable_width (environment (entry ∷ params)) x ≡ variable_kind (Some entry.1)
wide_at entry params x e = ap variable_kind (if_true (x == entry.0.0) (Some entry.1) (environment params x) e)

wide_off : (entry : Name × Kind) (params : List (Name × Kind)) (x : ℕ) → (x == entry.0.0) ≡ false
    → variable_width (environment (entry ∷ params)) x ≡ variable_width (environment params) x
wide_off entry params x e = ap variable_kind (if_false (x == entry.0.0) (Some entry.1) (environment params x) e)

-- what is a variable of the others is one of all
still_wide : (entry : Name × Kind) (params : List (Name × Kind)) (x : ℕ) (w : Width) → scope_kept (entry ∷ params) ≡ true
    → variable_width (environment params) x ≡ Some w → variable_width (environment (entry ∷ params)) x ≡ Some w
still_wide entry params x w h e = elim (eqb_tells x entry.0.0) [
  | inl k ↦ none_not_some (sym (fresh entry params h) ∙ ap (variable_width (environment params)) (sym k.1) ∙ e)
  | inr k ↦ wide_off entry params x k.0 ∙ e
]

-- values that agree on the variables are one state
state_agrees : (params : List (Name × Kind)) (u v : Values) → scope_kept params ≡ true
    → ((x : ℕ) (w : Width) → variable_width (environment params) x ≡ Some w → u x ≡ v x) → state_of params u ≡ state_of params v
state_agrees [] u v h same = refl
state_agrees ((name, Chan w mark) ∷ params) u v h same =
    state_agrees params u v (later_kept (name, Chan w mark) params h) (λ x y e. same x y (still_wide (name, Chan w mark) params x y h e))
state_agrees ((name, Var w) ∷ params) u v h same =
    let one : u name.0 ≡ v name.0 = same name.0 w (wide_at (name, Var w) params name.0 (at_itself name.0)) in
    let others : state_of params u ≡ state_of params v =
    state_agrees params u v (later_kept (name, Var w) params h) (λ x y e. same x y (still_wide (name, Var w) params x y h e)) in
    (λ i. (name, one i) ∷ others i)

-- the values of a state are that state
state_again : (params : List (Name × Kind)) (l : List (Name × ℕ)) → scope_kept params ≡ true → is_state params l ≡ true → state_of params (values l) ≡ l
state_again [] [] h s = refl
state_again [] (v ∷ vs) h s = cc
state_again ((name, Chan w mark) ∷ params) l h s = state_again params l (later_kept (name, Chan w mark) params h) s
state_again ((name, Var w) ∷ params) [] h s = cc
state_again ((name, Var w) ∷ params) (v ∷ vs) h s =
    let j = and_parts (v.0.0 == name.0 && nat_lt v.1 (2 ^ bits_of w)) (is_state params vs) s in
    let named : v.0.0 ≡ name.0 = same_name v.0.0 name.0 (and_parts (v.0.0 == name.0) (nat_lt v.1 (2 ^ bits_of w)) j.0).0 in
    let kept : scope_kept params ≡ true = later_kept (name, Var w) params h in
    let one : values (v ∷ vs) name.0 ≡ v.1 =
    if_true (name.0 == v.0.0) v.1 (values vs name.0) (ap (λ y. name.0 == y) named ∙ at_itself name.0) in
    let others : state_of params (values (v ∷ vs)) ≡ vs =
    state_agrees params (values (v ∷ vs)) (values vs) kept (λ x u e. if_false (x == v.0.0) v.1 (values vs x) (ap (λ y. x == y) named ∙ other x u e))
    ∙ state_again params vs kept j.1 in
    (λ i. (record { 0 = sym named i }, one i) ∷ others i)
  where
    same_name : (x y : ℕ) → (x == y) ≡ true → x ≡ y
    same_name x y e = elim (eqb_tells x y) [ inl k ↦ k.1 | inr k ↦ false_not_true (sym k.0 ∙ e) ]

    other : (x : ℕ) (u : Width) → variable_width (environment params) x ≡ Some u → (x == name.0) ≡ false
    other x u e = elim (eqb_tells x name.0) [
      | inl k ↦ none_not_some (sym (fresh (name, Var w) params h) ∙ ap (variable_width (environment params)) (sym k.1) ∙ e)
      | inr k ↦ k.0
    ]

-- ---- how it stands

-- it stands so, and what this shows covers the last line
pub record Standing (d : Configuration) (last : Last) : Type 0 where
  pub stand : Stand
  pub stands : IsStand d stand
  pub covers : Covers (shown stand) last

refused : (d : Configuration) (events : List Event) → list_all (is_outside (among events)) (steps_of_configuration d) ≡ true
    → (e : Event) → among events e ≡ true → among (interface d.params) e ≡ true → among (refused_by d) e ≡ true
refused d events h e in_set inside =
    among_kept (λ f. not (list_any (is_event f) (steps_of_configuration d))) (interface d.params) e inside
    (not_from_false (list_any (is_event e) (steps_of_configuration d)) (none_is (steps_of_configuration d) (among events) e in_set h))

-- a member of a list is among its events
pub is_among : (e : Event) (es : List Event) → Is e es → among es e ≡ true
is_among e (f ∷ es) first = if_true (same_event e f) true (among es e) (event_itself e)
is_among e (f ∷ es) (later i) = elim (cases_Bool (same_event e f)) [
  | inl s ↦ if_true (same_event e f) true (among es e) s
  | inr s ↦ if_false (same_event e f) true (among es e) s ∙ is_among e es i
]
is_among e [] i = elim i [ ]

-- what holds of each event of a set within another holds of the set
all_so : (X Y Z : Event → Bool) → ((e : Event) → X e ≡ true → Y e ≡ true → Z e ≡ true) → (es : List Event) → ((e : Event) → Is e es → X e ≡ true)
    → list_all Y es ≡ true → list_all Z es ≡ true
all_so X Y Z f [] is h = refl
all_so X Y Z f (e ∷ es) is h =
    let k = and_parts (Y e) (list_all Y es) h in
    and_from (Z e) (list_all Z es) (f e (is e first) k.0) (all_so X Y Z f es (λ g i. is g (later i)) k.1)

all_refused : (d : Configuration) (events : List Event) → list_all (is_outside (among events)) (steps_of_configuration d) ≡ true
    → list_all (among (interface d.params)) events ≡ true → list_all (among (refused_by d)) events ≡ true
all_refused d events h within =
    all_so (among events) (among (interface d.params)) (among (refused_by d)) (refused d events h) events (λ e i. is_among e events i) within

pub standing : (q : Spot) (t : Trace) (last : Last) → scope_kept q.params ≡ true → LastIsOf q.params last → IsWithin q.params last
    → RestsAt q (outcome_of last) → Standing (configured q t) last
standing q t (Ends state) kept is within rests = record {
  stand = Ended (state_of q.params q.values);
  stands = (rests.0, refl);
  covers = ap (state_of q.params) (sym rests.1) ∙ state_again q.params state kept is;
}
standing q t (Refuses events) kept is within rests =
    let parts = and_parts (not (is_done q.control)) (list_all (is_outside (among events)) (steps_of q)) rests in
    by_steps parts (steps_of q) refl
  where
    over : not (is_done q.control) ≡ true → is_done q.control ≡ false
    over h = elim (cases_Bool (is_done q.control)) [ inl k ↦ false_not_true (sym (ap not k) ∙ h) | inr k ↦ k ]

    by_steps : (not (is_done q.control) ≡ true) × (list_all (is_outside (among events)) (steps_of q) ≡ true) → (ks : List (Step Control)) → steps_of q ≡ ks
        → Standing (configured q t) (Refuses events)
    by_steps h [] e = record {
      stand = Stuck (refused_by (configured q t));
      stands = (over h.0, e, refl);
      covers = all_refused (configured q t) events h.1 within;
    }
    by_steps h (k ∷ ks) e = record {
      stand = Stable (length (steps_of q)) (refused_by (configured q t));
      stands = ((refl, λ none. some (sym (ap length e) ∙ none)), none_unseen (steps_of q) (among events) h.1, refl);
      covers = all_refused (configured q t) events h.1 within;
    }
      where
        some : length (k ∷ ks) ≡ 0 → ⊥
        some n = omega (arith, n)
