use Rattle.std.proofs.Common.{None, [], ap, refl}
use Rattle.occ_syntax.specs.View.{tree, waiting}
use Rattle.occ_run_steps.specs.Control.{unbegun}
use Rattle.occ_run_steps.specs.Step.{step}
use Rattle.occ_run_steps.specs.Steps.{guard_steps}
use Rattle.occ_run.specs.Effects.{changes_of, leaf}
use Rattle.occ_run.specs.Founds.{leaves}
use Rattle.occ_run.specs.Places.{names_at, values_at}
use Rattle.occ_run.proofs.Processes.{one_here, one_past}
use Rattle.occ_run.proofs.found.guard_found.Goals as goal

pub returns-in-Some : goal.returns-in-Some
returns-in-Some c =
    let k = step None [] (leaf (unbegun (tree c.args.part.now))) in
    one_past c.args.wanted.hidden.now c.args.wanted.only c.args.wanted.number k
    (leaves (guard_steps (names_at c.args.place.now) (values_at c.args.place.now) (waiting c.args.wait.now) (tree c.args.part.now))) c.over.result c.in-Some.more
    (ap (λ w. leaves (guard_steps (names_at c.args.place.now) (values_at c.args.place.now) (waiting w) (tree c.args.part.now))) c.in-Skip.is)
    c.in-Some.is (c.over.ensures k refl)

pub returns-in_default : goal.returns-in_default
returns-in_default c =
    let k = step None [] (leaf (unbegun (tree c.args.part.now))) in
    one_here c.args.wanted.hidden.now c.args.wanted.only c.args.wanted.number k (step None (changes_of c.new.result.items) (leaf (unbegun (tree c.args.part.now))))
    (leaves (guard_steps (names_at c.args.place.now) (values_at c.args.place.now) (waiting c.args.wait.now) (tree c.args.part.now))) c.over.result c.one_found.result
    (ap (λ w. leaves (guard_steps (names_at c.args.place.now) (values_at c.args.place.now) (waiting w) (tree c.args.part.now))) c.in-Skip.is)
    c.in_default.is (ap (λ xs. step None (changes_of xs) (leaf (unbegun (tree c.args.part.now)))) c.new.ensures.items) (c.over.ensures k refl) c.one_found.ensures
