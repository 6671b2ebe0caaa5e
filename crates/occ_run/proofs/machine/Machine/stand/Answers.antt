use Rattle.std.proofs.Common.{map, sym, ap, ◌∙◌, arith}
use Rattle.std.specs.List.{list_any}
use Rattle.occ_run.specs.Configurations.{move_of}
use Rattle.occ_run.specs.Machines.{configuration}
use Rattle.occ_run.specs.Runs.{unheard}
use Rattle.occ_run.specs.MeetingRuns.{spelled}
use Rattle.occ_run.specs.Stands.{interface}
use Rattle.occ_run_steps.specs.Step.{not_seen}
use Rattle.occ_run.proofs.Listed.{is_moving, is_stable, is_stuck}
use Rattle.occ_run.proofs.machine.Machine.stand.Goals as goal

pub returns-then-steps-eq0 : goal.returns-then-steps-eq0
returns-then-steps-eq0 c =
    is_stuck (configuration c.args.self.now) c.in_ok-runs.runs.items c.in_ok-runs.ensures c.in_ok-moves_in.field-0.items c.in_ok-refused.field-0
    (c.in_ok-moves_in.ensures ∙ ap (λ rs. map move_of (spelled rs)) c.deref.ensures.value) (sym c.is_over.ensures ∙ c.if-is_over.false)
    (omega (arith, c.len-steps.ensures, c.in_ok-moves_in.field-0.ok, c.if-steps-eq0.true))
    (c.in_ok-refused.ensures ∙ ap (λ rs. unheard rs (interface c.args.self.now.point.place.scope.items)) c.deref-then-steps-eq0.ensures.value)

pub returns-then-has_unseen : goal.returns-then-has_unseen
returns-then-has_unseen c =
    is_moving (configuration c.args.self.now) c.in_ok-runs.runs.items c.in_ok-runs.ensures c.in_ok-moves_in.field-0.items c.len-steps.result
    (c.in_ok-moves_in.ensures ∙ ap (λ rs. map move_of (spelled rs)) c.deref.ensures.value) (omega (arith, c.len-steps.ensures, c.in_ok-moves_in.field-0.ok)) c.if-steps-eq0.false
    (sym (c.has_unseen.ensures ∙ ap (λ rs. list_any not_seen (spelled rs)) c.deref-2.ensures.value) ∙ c.if-has_unseen.true)

pub returns : goal.returns
returns c =
    is_stable (configuration c.args.self.now) c.in_ok-runs.runs.items c.in_ok-runs.ensures c.in_ok-moves_in.field-0.items c.len-steps.result c.in_ok-refused-2.refused
    (c.in_ok-moves_in.ensures ∙ ap (λ rs. map move_of (spelled rs)) c.deref.ensures.value) (omega (arith, c.len-steps.ensures, c.in_ok-moves_in.field-0.ok)) c.if-steps-eq0.false
    (sym (c.has_unseen.ensures ∙ ap (λ rs. list_any not_seen (spelled rs)) c.deref-2.ensures.value) ∙ c.if-has_unseen.false)
    (c.in_ok-refused-2.ensures ∙ ap (λ rs. unheard rs (interface c.args.self.now.point.place.scope.items)) c.deref-3.ensures.value)
