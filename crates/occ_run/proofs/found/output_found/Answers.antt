use Rattle.std.proofs.Common.{ℕ, Some, Option, [], ap, refl, sym, ◌∙◌}
use Rattle.occ_syntax.specs.occ_base.declared.event.Dir.TheVariants.{Output}
use Rattle.occ_syntax.specs.occ_base.declared.event.Event.{Event}
use Rattle.occ_syntax.specs.Eval.{eval}
use Rattle.occ_syntax.specs.Tree.{output}
use Rattle.occ_syntax.specs.View.{exp}
use Rattle.occ_run_steps.specs.Control.{unbegun}
use Rattle.occ_run_steps.specs.Step.{step}
use Rattle.occ_run_steps.specs.Steps.{guard_steps}
use Rattle.occ_run.specs.Effects.{behind, changes_of, leaf, next_left}
use Rattle.occ_run.specs.Founds.{leaves}
use Rattle.occ_run.specs.Places.{names_at, values_at}
use Rattle.occ_run.proofs.Processes.{one_here, one_past}
use Rattle.occ_run.proofs.found.output_found.Goals as goal

pub returns-in-Some : goal.returns-in-Some
returns-in-Some c =
    let Γ = names_at c.args.place.now in
    let s = values_at c.args.place.now in
    let event : ℕ → Option Event = λ v. Some (record { chan = c.args.chan; dir = Output; value = v }) in
    let k = step (event (eval Γ (exp c.args.value.now) s)) [] (leaf (unbegun (behind c.args.part))) in
    one_past c.args.wanted.hidden.now c.args.wanted.only c.args.wanted.number k (leaves (guard_steps Γ s (output c.args.chan.0 (exp c.args.value.now)) (behind c.args.part)))
    c.over.result c.in-Some.more refl c.in-Some.is (c.over.ensures k (ap event (sym c.value.ensures)))

pub returns : goal.returns
returns c =
    let Γ = names_at c.args.place.now in
    let s = values_at c.args.place.now in
    let event : ℕ → Option Event = λ v. Some (record { chan = c.args.chan; dir = Output; value = v }) in
    let value = eval Γ (exp c.args.value.now) s in
    let k = step (event value) [] (leaf (unbegun (behind c.args.part))) in
    one_here c.args.wanted.hidden.now c.args.wanted.only c.args.wanted.number k (step (event c.value.result) (changes_of c.new.result.items) (leaf (next_left c.behind.result)))
    (leaves (guard_steps Γ s (output c.args.chan.0 (exp c.args.value.now)) (behind c.args.part))) c.over.result c.one_found.result refl c.in_default.is
    (ap (λ v. step (event v) (changes_of c.new.result.items) (leaf (next_left c.behind.result))) c.value.ensures
    ∙ ap (λ xs. step (event value) (changes_of xs) (leaf (next_left c.behind.result))) c.new.ensures.items
    ∙ ap (λ C. step (event value) [] (leaf C)) c.behind.ensures)
    (c.over.ensures k (ap event (sym c.value.ensures))) c.one_found.ensures
