-- A schedule leads to one place.
use Rattle.std.proofs.Common.{◌≡◌, ℕ, true, List, [], length, Ok, refl, sym, ap, ◌∙◌, subst}
use Rattle.occ_syntax.specs.occ_base.declared.event.Event.{Event}
use Rattle.occ_syntax.specs.occ_base.declared.names.Name.{Name}
use Rattle.occ_run.proofs.from_meaning.Facts.{false_not_true}
use Rattle.occ_run.specs.declared.answer.Stand.{Stand}
use Rattle.occ_run.specs.declared.answer.Stand.TheVariants.{Ended, Stuck, Stable, Moving}
use Rattle.occ_run.specs.Configurations.{Configuration, followed, started, steps_of}
use Rattle.occ_run.specs.Stands.{HasSteps, IsStand}
use Rattle.occ_run_schedule.specs.declared.schedule.Schedule.{Schedule}
use Rattle.occ_run.specs.occ_run_steps.Control.{Control, done, unbegun, after, both, local, channel, is_done}
use Rattle.occ_run.specs.occ_run_steps.Steps.{steps}
use Rattle.occ_syntax.specs.Scopes.{Environment, Values, environment}
use Rattle.occ_syntax.specs.View.{tree}
use Rattle.occ_syntax.specs.declared.scope.Program.{Program}
use Rattle.occ_run_schedule.specs.declared.following.Followed.{Followed}
use Rattle.occ_run_schedule.specs.declared.following.Followed.TheVariants.{Stood, NoStep}
use Rattle.occ_run_schedule.specs.declared.following.Shown.{Shown}
use Rattle.occ_run_schedule.specs.Following.{IsFollowed}

-- ---- one configuration stands one way

over_has_none : (Γ : Environment) (s : Values) (C : Control) → is_done C ≡ true → steps Γ s C ≡ []
over_has_none Γ s done h = refl
over_has_none Γ s (unbegun p) h = false_not_true h
over_has_none Γ s (after C ps) h = false_not_true h
over_has_none Γ s (both Cs) h = false_not_true h
over_has_none Γ s (local x w v C) h = false_not_true h
over_has_none Γ s (channel c w C) h = false_not_true h

module _ (c : Configuration) where
  none_left : {A : Type 0} (n : ℕ) → steps_of c ≡ [] → HasSteps c n → A
  none_left n e h = absurd (h.1 (sym h.0 ∙ ap length e))

  over_left : {A : Type 0} (n : ℕ) → is_done c.control ≡ true → HasSteps c n → A
  over_left n d h = none_left n (over_has_none (environment c.params) c.values c.control d) h

  one_stand : (s t : Stand) → IsStand c s → IsStand c t → s ≡ t
  one_stand (Ended a) (Ended b) h k = ap (λ r. Ended r) (h.1 ∙ sym k.1)
  one_stand (Ended a) (Stuck b) h k = false_not_true (sym k.0 ∙ h.0)
  one_stand (Ended a) (Stable n b) h k = over_left n h.0 k.0
  one_stand (Ended a) (Moving n) h k = over_left n h.0 k.0
  one_stand (Stuck a) (Ended b) h k = false_not_true (sym h.0 ∙ k.0)
  one_stand (Stuck a) (Stuck b) h k = ap (λ es. Stuck es) (h.2 ∙ sym k.2)
  one_stand (Stuck a) (Stable n b) h k = none_left n h.1 k.0
  one_stand (Stuck a) (Moving n) h k = none_left n h.1 k.0
  one_stand (Stable m a) (Ended b) h k = over_left m k.0 h.0
  one_stand (Stable m a) (Stuck b) h k = none_left m k.1 h.0
  one_stand (Stable m a) (Stable n b) h k = ap (λ i. Stable i a) (sym h.0.0 ∙ k.0.0) ∙ ap (λ es. Stable n es) (h.2 ∙ sym k.2)
  one_stand (Stable m a) (Moving n) h k = false_not_true (sym h.1 ∙ k.1)
  one_stand (Moving m) (Ended b) h k = over_left m k.0 h.0
  one_stand (Moving m) (Stuck b) h k = none_left m k.1 h.0
  one_stand (Moving m) (Stable n b) h k = false_not_true (sym k.1 ∙ h.1)
  one_stand (Moving m) (Moving n) h k = ap (λ i. Moving i) (sym h.0.0 ∙ k.0.0)

-- ---- one answer

one_shown : (a b : Shown) → a.state ≡ b.state → a.trace ≡ b.trace → a.stand ≡ b.stand → a ≡ b
one_shown a b e f g =
    let with_state : List (Name × ℕ) → Shown = λ x. record { state = x; trace = a.trace; stand = a.stand } in
    let with_trace : List Event → Shown = λ x. record { state = b.state; trace = x; stand = a.stand } in
    let with_stand : Stand → Shown = λ x. record { state = b.state; trace = b.trace; stand = x } in
    ap with_state e ∙ ap with_trace f ∙ ap with_stand g

one_start : (p q : Program) (state : List (Name × ℕ)) → p.params ≡ q.params → tree p.body ≡ tree q.body → started p state ≡ started q state
one_start p q state e f = cc

pub one_following : (p q : Program) (schedule : Schedule) (f g : Followed) → p.params ≡ q.params → tree p.body ≡ tree q.body
    → IsFollowed p schedule f → IsFollowed q schedule g → f ≡ g
one_following p q schedule (Stood a) (Stood b) e f h k =
    let start : started p schedule.state ≡ started q schedule.state = one_start p q schedule.state e f in
    let led : followed 1 (started p schedule.state) schedule.steps ≡ Ok h.there = h.leads in
    let other : followed 1 (started q schedule.state) schedule.steps ≡ Ok k.there = k.leads in
    let same : h.there ≡ k.there = cc in
    ap (λ s. Stood s) (one_shown a b (h.state ∙ sym k.state) (h.trace ∙ ap (λ c. c.trace) same ∙ sym k.trace)
    (one_stand h.there a.stand b.stand h.stands (subst (λ c. IsStand c b.stand) (sym same) k.stands)))
one_following p q schedule (Stood a) (NoStep n) e f h k =
    let start : started p schedule.state ≡ started q schedule.state = one_start p q schedule.state e f in
    let led : followed 1 (started p schedule.state) schedule.steps ≡ Ok h.there = h.leads in
    cc
one_following p q schedule (NoStep m) (Stood b) e f h k =
    let start : started p schedule.state ≡ started q schedule.state = one_start p q schedule.state e f in
    let led : followed 1 (started q schedule.state) schedule.steps ≡ Ok k.there = k.leads in
    cc
one_following p q schedule (NoStep m) (NoStep n) e f h k =
    let start : started p schedule.state ≡ started q schedule.state = one_start p q schedule.state e f in
    let same : m ≡ n = cc in
    ap (λ i. NoStep i) same
