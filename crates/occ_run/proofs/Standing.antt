-- What a configuration that stands shows is a behaviour of the program.
use Rattle.std.proofs.Common.{◌≡◌, ℕ, Bool, true, false, not, List, [], ◌∷◌, Option, None, Some, length, Ok, if◌then◌else◌, inl, inr, refl, sym, ap, ◌∙◌, subst}
use Rattle.std.specs.List.{filter, list_all, list_any}
use Rattle.std.proofs.lemmas.Bool.{and_from, cases_Bool, or_left, or_parts, or_right}
use mathlib.Core.Path.{fun_ext}
use Rattle.occ_run_steps.proofs.from_meaning.Facts.{event_itself, false_not_true, same_events}
use Rattle.occ_run_steps.proofs.from_meaning.Frame.{part_value, written_in_scope}
use Rattle.occ_syntax.specs.occ_base.declared.event.Event.{Event}
use Rattle.occ_syntax.specs.occ_base.declared.names.Name.{Name}
use Rattle.occ_syntax.specs.occ_base.declared.width.Width.{Width}
use Rattle.occ_behaviour.specs.States.{is_state}
use Rattle.occ_run.proofs.Holding.{holds_state}
use Rattle.occ_syntax.specs.Meaning.{ended, ends, fails, meaning, refusing}
use Rattle.occ_syntax.specs.Same.{HasTrace}
use Rattle.occ_syntax.specs.Scopes.{Environment, IsState, Values, among, environment, same_event, values, variable_width}
use Rattle.occ_syntax.specs.View.{tree}
use Rattle.occ_syntax.specs.declared.scope.Program.{Program}
use Rattle.occ_usage.specs.Accepted.{IsAccepted}
use Rattle.occ_run_steps.proofs.Complete.{program_does, program_trace}
use Rattle.occ_run_steps.proofs.Leading.{leads_keeps}
use Rattle.occ_run_steps.proofs.KeptSettled.{begun_kept}
use Rattle.occ_run_steps.specs.Control.{Control, done, unbegun, after, both, local, channel, is_done}
use Rattle.occ_run_steps.specs.Leads.{refuses, start}
use Rattle.occ_run_steps.specs.Step.{Step, is_event, is_outside, is_unseen, not_seen, outside, same}
use Rattle.occ_run_steps.specs.Steps.{steps}
use Rattle.occ_run.specs.declared.answer.Stand.{Stand}
use Rattle.occ_run.specs.declared.answer.Stand.TheVariants.{Ended, Stuck, Stable, Moving}
use Rattle.occ_run.specs.Configurations.{Configuration, followed, started, steps_of}
use Rattle.occ_run.specs.Laws.{Belongs, IsLed}
use Rattle.occ_run.specs.Stands.{IsStand, interface, shown, state_of, without}
use Rattle.occ_run.proofs.Interfaces.{read, state_is_state, state_read, state_silent}
use Rattle.occ_run.proofs.Led.{is_led}

-- ---- what is refused

passes_by_same : (p : Event → Bool) (es : List Event) (e f : Event) → (among (filter p es) e ≡ true → p e ≡ true) → (b : Bool) → same_event e f ≡ b → p f ≡ true
    → (if b then true else among (filter p es) e) ≡ true → p e ≡ true
passes_by_same p es e f later true k t g = ap p (same_events e f k) ∙ t
passes_by_same p es e f later false k t g = later g

passes_by_first : (p : Event → Bool) (es : List Event) (e f : Event) → (among (filter p es) e ≡ true → p e ≡ true) → (b : Bool) → p f ≡ b
    → among (if b then f ∷ filter p es else filter p es) e ≡ true → p e ≡ true
passes_by_first p es e f later true t g = passes_by_same p es e f later (same_event e f) refl t g
passes_by_first p es e f later false t g = later g

-- an event among those of a list that pass a test passes it
passes : (p : Event → Bool) (es : List Event) (e : Event) → among (filter p es) e ≡ true → p e ≡ true
passes p [] e h = false_not_true h
passes p (f ∷ es) e h = passes_by_first p es e f (λ g. passes p es e g) (p f) refl h

-- a list of events without those of the steps has no event of a step
event_left_out : (ks : List (Step Control)) (es : List Event) (e : Event) → list_any (is_event e) ks ≡ true → among (without ks es) e ≡ false
event_left_out ks es e h = elim (cases_Bool (among (without ks es) e)) [
  | inl t ↦ false_not_true (sym (ap not h) ∙ passes (λ f. not (list_any (is_event f) ks)) es e t)
  | inr t ↦ t
]

-- where none of some steps is unseen, each is an event that isn't left
all_outside : (ks js : List (Step Control)) (es : List Event) → ((e : Event) → list_any (is_event e) js ≡ true → list_any (is_event e) ks ≡ true)
    → list_any is_unseen js ≡ false → list_all (is_outside (among (without ks es))) js ≡ true
all_outside ks [] es sub h = refl
all_outside ks (j ∷ js) es sub h =
    and_from (is_outside (among (without ks es)) j) (list_all (is_outside (among (without ks es))) js)
    (by_event j.event refl (or_parts (is_unseen j) (list_any is_unseen js) h).0)
    (all_outside ks js es (λ e g. sub e (or_right (is_event e j) (list_any (is_event e) js) g)) (or_parts (is_unseen j) (list_any is_unseen js) h).1)
  where
    by_event : (o : Option Event) → j.event ≡ o → not_seen o ≡ false → outside (among (without ks es)) j.event ≡ true
    by_event None e g = false_not_true (sym g)
    by_event (Some f) e g =
        ap (outside (among (without ks es))) e
        ∙ ap not (event_left_out ks es f (sub f (or_left (is_event f j) (list_any (is_event f) js) (ap (same f) e ∙ event_itself f))))

-- ---- how a configuration refuses

no_steps_left : (Γ : Environment) (s : Values) (C : Control) → is_done C ≡ true → steps Γ s C ≡ []
no_steps_left Γ s done h = refl
no_steps_left Γ s (unbegun p) h = false_not_true h
no_steps_left Γ s (after C ps) h = false_not_true h
no_steps_left Γ s (both Cs) h = false_not_true h
no_steps_left Γ s (local x w v C) h = false_not_true h
no_steps_left Γ s (channel c w C) h = false_not_true h

stuck_refuses : (d : Configuration) (es : List Event) → IsStand d (Stuck es) → refuses (environment d.params) d.values d.control (among es) ≡ true
stuck_refuses d es h =
    and_from (not (is_done d.control)) (list_all (is_outside (among es)) (steps_of d)) (ap not h.0) (ap (list_all (is_outside (among es))) h.1)

stable_refuses : (d : Configuration) (n : ℕ) (es : List Event) → IsStand d (Stable n es) → refuses (environment d.params) d.values d.control (among es) ≡ true
stable_refuses d n es h =
    and_from (not (is_done d.control)) (list_all (is_outside (among es)) (steps_of d))
    (elim (cases_Bool (is_done d.control)) [
      | inl t ↦ absurd (h.0.1 (sym h.0.0 ∙ ap length (no_steps_left (environment d.params) d.values d.control t)))
      | inr t ↦ ap not t
    ])
    (ap (λ X. list_all (is_outside (among X)) (steps_of d)) h.2 ∙ all_outside (steps_of d) (steps_of d) (interface d.params) (λ e g. g) h.1)

-- ---- what is shown

module _ (program : Program) (accepted : IsAccepted program) (state : List (Name × ℕ)) (is : is_state program.params state ≡ true) where
  -- the values in which the program ends are those of their state
  end_values : (t : List Event) (v : Values) → (meaning (tree program.body)).does (environment program.params) (values state) t (ended v)
      → values (state_of program.params v) ≡ v
  end_values t v does = fun_ext (λ x. state_read program.params v x accepted.typed.scope ∙ by_width x (variable_width (environment program.params) x) refl)
    where
      by_width : (x : ℕ) (o : Option Width) → variable_width (environment program.params) x ≡ o → read v x o ≡ v x
      by_width x None e =
          let types = accepted.typed.types in
          let kept = (part_value (tree program.body) (environment program.params) types x (written_in_scope (tree program.body) (environment program.params) types x e)).value
          (environment program.params) (values state) t v does in
          sym (kept ∙ state_silent program.params state x accepted.typed.scope is e)
      by_width x (Some w) e = refl

  initial : IsState (environment program.params) (values state)
  initial = holds_state program.params state is

  module _ (k : ℕ) (ns : List ℕ) (d : Configuration) (follows : followed k (started program state) ns ≡ Ok d) where
    led : IsLed (started program state) d ns
    led = is_led k (started program state) ns d follows

    -- what is seen is a trace of the program
    pub trace_belongs : HasTrace (environment program.params) (tree program.body) (values state) d.trace
    trace_belongs =
        let P : List Event → Type 0 = λ t. HasTrace (environment program.params) (tree program.body) (values state) t in
        subst P (sym led.trace) (program_trace (environment program.params) (tree program.body) (values state) accepted.keeps initial ns led.events d.values d.control led.leads)

    refusal_belongs : (es : List Event) → refuses (environment d.params) d.values d.control (among es) ≡ true
        → fails (environment program.params) (tree program.body) (values state) d.trace (among es)
    refusal_belongs es h =
        let P : List Event → Type 0 = λ t. fails (environment program.params) (tree program.body) (values state) t (among es) in
        subst P (sym led.trace) (program_does (environment program.params) (tree program.body) (values state) accepted.keeps initial led.events (refusing (among es)) (record {
          schedule = ns;
          values = d.values;
          control = d.control;
          leads = led.leads;
          rests = ap (λ ps. refuses (environment ps) d.values d.control (among es)) (sym led.params) ∙ h;
        }))

    end_belongs : (r : List (Name × ℕ)) → is_done d.control ≡ true → r ≡ state_of d.params d.values
        → (is_state program.params r ≡ true) × ends (environment program.params) (tree program.body) (values state) d.trace (values r)
    end_belongs r h e =
        let Γ = environment program.params in
        let body = tree program.body in
        let does = program_does Γ body (values state) accepted.keeps initial led.events (ended d.values) (record { schedule = ns; values = d.values; control = d.control; leads = led.leads; rests = (h, refl) }) in
        let kept = begun_kept Γ (values state) body accepted.keeps.types accepted.keeps.usage in
        let later = leads_keeps Γ (values state) (start Γ (values state) body) ns led.events d.values d.control kept initial led.leads in
        let P : List Event → Type 0 = λ t. ends Γ body (values state) t (values (state_of program.params d.values)) in
        let Q : Values → Type 0 = λ v. ends Γ body (values state) led.events v in
        let R : List (Name × ℕ) → Type 0 = λ l. (is_state program.params l ≡ true) × ends Γ body (values state) d.trace (values l) in
        subst R (sym (e ∙ ap (λ ps. state_of ps d.values) led.params))
        (state_is_state program.params d.values accepted.typed.scope later.1, subst P (sym led.trace) (subst Q (sym (end_values led.events d.values does)) does))

    -- what a stand shows belongs to the program
    pub stand_belongs : (stand : Stand) → IsStand d stand → Belongs program state d.trace (shown stand)
    stand_belongs (Ended r) h = record { state = is; stands = end_belongs r h.0 h.1 }
    stand_belongs (Stuck es) h = record { state = is; stands = refusal_belongs es (stuck_refuses d es h) }
    stand_belongs (Stable n es) h = record { state = is; stands = refusal_belongs es (stable_refuses d n es h) }
    stand_belongs (Moving n) h = tt
