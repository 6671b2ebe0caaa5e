-- What is shown where a schedule leads.
use Rattle.std.proofs.Common.{◌≡◌, ◌<◌, ℕ, true, not, List, length, Option, None, Some, MatchOption, Ok, Err, inl, inr, sym, subst}
use Rattle.std.proofs.lemmas.List.Elements.{All-from_recursion, recursion_from_All}
use Rattle.std.specs.List.{list_any}
use Rattle.occ_syntax.specs.occ_base.declared.event.Event.{Event}
use Rattle.occ_syntax.specs.occ_base.declared.names.Name.{Name}
use Rattle.occ_run.specs.occ_behaviour.Members.{AreNamed}
use Rattle.occ_run.specs.occ_behaviour.States.{is_state}
use Rattle.occ_run.specs.occ_meaning.Foundation.{AreWithin, Does}
use Rattle.occ_run.proofs.Holding.{holds_state}
use Rattle.occ_run.specs.declared.answer.Stand.{Stand}
use Rattle.occ_run.specs.declared.answer.Stand.TheVariants.{Ended, Stuck, Stable, Moving}
use Rattle.occ_run.specs.Configurations.{Configuration, followed, started, steps_of}
use Rattle.occ_run.specs.Laws.{Belongs, IsLed}
use Rattle.occ_run.specs.Stands.{IsStand, interface, refused_by, shown}
use Rattle.occ_run_schedule.specs.declared.schedule.Schedule.{Schedule}
use Rattle.occ_run.specs.occ_run_steps.Step.{is_event}
use Rattle.occ_syntax.specs.Meaning.{Outcome, ended, refusing}
use Rattle.occ_syntax.specs.Same.{HasTrace, none}
use Rattle.occ_syntax.specs.Scopes.{Environment, IsState, Trace, Values, environment, in_interface, values}
use Rattle.occ_syntax.specs.Tree.{Tree}
use Rattle.occ_syntax.specs.Types.{types_kept}
use Rattle.occ_syntax.specs.View.{tree}
use Rattle.occ_syntax.specs.declared.scope.Kind.{Kind}
use Rattle.occ_syntax.specs.declared.scope.Program.{Program}
use Rattle.occ_run.specs.occ_usage.Accepted.{IsAccepted}
use Rattle.occ_run_schedule.specs.declared.following.Shown.{Shown}
use Rattle.occ_run_schedule.specs.Following.{IsShown, ParametersAreNamed, RefusedAreNamed, ShownIsNamed}
use Rattle.occ_run_schedule.proofs.Named.{Declared, Named, interface_named, kept_named, within_named}

-- the laws that are cited
abbrev pub IsTraceLaw : Type 0
IsTraceLaw = (program : Program) → IsAccepted program → (state : List (Name × ℕ)) → is_state program.params state ≡ true
    → (k : ℕ) (ns : List ℕ) (d : Configuration) → followed k (started program state) ns ≡ Ok d → HasTrace (environment program.params) (tree program.body) (values state) d.trace

abbrev pub BelongsLaw : Type 0
BelongsLaw = (program : Program) → IsAccepted program → (state : List (Name × ℕ)) → is_state program.params state ≡ true
    → (k : ℕ) (ns : List ℕ) (d : Configuration) → followed k (started program state) ns ≡ Ok d → (stand : Stand) → IsStand d stand → Belongs program state d.trace (shown stand)

abbrev pub LedLaw : Type 0
LedLaw = (k : ℕ) (c : Configuration) (ns : List ℕ) (d : Configuration) → followed k c ns ≡ Ok d → IsLed c d ns

abbrev pub WithinLaw : Type 0
WithinLaw = (Γ : Environment) (p : Tree) → types_kept p Γ ≡ true → (s : Values) (t : Trace) (o : Outcome) → IsState Γ s → Does Γ p s t o → AreWithin (in_interface Γ) t

-- numbers of which none is missing lead to where the machine stands
pub led_there : (program : Program) (schedule : Schedule) (steps : List ℕ) (start there : Configuration) (missing : Option ℕ)
    → start ≡ started program schedule.state → steps ≡ schedule.steps → missing ≡ None
    → MatchOption missing (followed 1 start steps ≡ Ok there) (λ k. followed 1 start steps ≡ Err k) → followed 1 (started program schedule.state) schedule.steps ≡ Ok there
led_there program schedule steps start there None e f m h = let led : followed 1 start steps ≡ Ok there = h in cc
led_there program schedule steps start there (Some k) e f m h = cc

module _ (program : Program) (accepted : IsAccepted program) (schedule : Schedule) (is : is_state program.params schedule.state ≡ true) (there : Configuration)
    (leads : followed 1 (started program schedule.state) schedule.steps ≡ Ok there) (s : Shown) (state : s.state ≡ schedule.state) (trace : s.trace ≡ there.trace) (stands : IsStand there s.stand) where
  pub is_shown : IsTraceLaw → BelongsLaw → IsShown program schedule s
  is_shown seen belongs =
      let P : List (Name × ℕ) → Type 0 = λ l. HasTrace (environment program.params) (tree program.body) (values l) s.trace in
      let Q : List Event → Type 0 = λ t. HasTrace (environment program.params) (tree program.body) (values schedule.state) t in
      let R : List (Name × ℕ) → Type 0 = λ l. Belongs program l s.trace (shown s.stand) in
      let S : List Event → Type 0 = λ t. Belongs program schedule.state t (shown s.stand) in
      record {
        there = there;
        leads = leads;
        state = state;
        trace = trace;
        stands = stands;
        is_trace = subst P (sym state) (subst Q (sym trace) (seen program accepted schedule.state is 1 schedule.steps there leads));
        belongs = subst R (sym state) (subst S (sym trace) (belongs program accepted schedule.state is 1 schedule.steps there leads s.stand stands));
      }

  module _ (names : List (List ℕ)) (known : ParametersAreNamed names program) where
    declared : Declared (length names) program.params
    declared = recursion_from_All (λ (entry : Name × Kind). entry.0.0 < length names) program.params known

    are_named : (es : List Event) → Named (length names) es → AreNamed names es
    are_named es h = All-from_recursion (λ (e : Event). e.chan.0 < length names) es h

    trace_within : WithinLaw → (t : List Event) → HasTrace (environment program.params) (tree program.body) (values schedule.state) t → AreWithin (in_interface (environment program.params)) t
    trace_within within t h =
        let of : (o : Outcome) → Does (environment program.params) (tree program.body) (values schedule.state) t o → AreWithin (in_interface (environment program.params)) t =
        λ o d. within (environment program.params) (tree program.body) accepted.typed.types (values schedule.state) t o (holds_state program.params schedule.state is) d in
        elim h [
          | inl f ↦ of (refusing none) f
          | inr e ↦ of (ended e.0) e.1
        ]

    refused_named : LedLaw → (es : List Event) → es ≡ refused_by there → AreNamed names es
    refused_named led es e =
        let of : Named (length names) (interface there.params) =
        subst (λ ps. Named (length names) (interface ps)) (sym (led 1 (started program schedule.state) schedule.steps there leads).params) (interface_named (length names) program.params declared) in
        are_named es (subst (Named (length names)) (sym e) (kept_named (length names) (λ f. not (list_any (is_event f) (steps_of there))) (interface there.params) of))

    stand_named : LedLaw → (stand : Stand) → IsStand there stand → RefusedAreNamed names stand
    stand_named led (Ended r) h = tt
    stand_named led (Stuck es) h = refused_named led es h.2
    stand_named led (Stable n es) h = refused_named led es h.2
    stand_named led (Moving n) h = tt

    pub shown_named : LedLaw → IsTraceLaw → WithinLaw → ShownIsNamed names s
    shown_named led seen within = record {
      trace = subst (AreNamed names) (sym trace) (are_named there.trace (within_named (length names) program.params declared there.trace
          (trace_within within there.trace (seen program accepted schedule.state is 1 schedule.steps there leads))));
      refused = stand_named led s.stand stands;
    }
