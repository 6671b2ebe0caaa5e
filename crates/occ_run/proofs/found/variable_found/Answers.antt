use Rattle.std.proofs.Common.{◌^◌, None, [], ap, refl, sym, ◌∙◌}
use Rattle.occ_syntax.specs.occ_base.Width.{bits_of}
use Rattle.occ_syntax.specs.View.{tree}
use Rattle.occ_run_steps.specs.Control.{local, unbegun}
use Rattle.occ_run_steps.specs.Step.{step}
use Rattle.occ_run.specs.Effects.{changes_of, leaf}
use Rattle.occ_run.proofs.Processes.{value_here, values_missed, values_past}
use Rattle.occ_run.proofs.found.variable_found.Goals as goal

pub returns-then-not-asks : goal.returns-then-not-asks
returns-then-not-asks c =
    values_missed c.args.wanted.hidden.now c.args.wanted.only (λ v. step None [] (local c.args.name.0 c.args.width v (unbegun (tree c.args.body.now)))) (λ v. refl) (2 ^ bits_of c.args.width) (2 ^ bits_of c.args.width) c.args.wanted.number refl
    (sym c.asks.ensures ∙ c.if-not-asks.true)

pub returns-then-number-size : goal.returns-then-number-size
returns-then-number-size c =
    values_past c.args.wanted.hidden.now c.args.wanted.only (λ v. step None [] (local c.args.name.0 c.args.width v (unbegun (tree c.args.body.now)))) (λ v. refl) c.size_of-size.result (2 ^ bits_of c.args.width) c.args.wanted.number
    c.size_of-size.ensures.size (sym c.asks.ensures ∙ c.if-not-asks.false) c.if-number-size.true

pub returns : goal.returns
returns c =
    value_here c.args.wanted.hidden.now c.args.wanted.only (λ v. step None [] (local c.args.name.0 c.args.width v (unbegun (tree c.args.body.now)))) (λ v. refl) c.size_of-size.result (2 ^ bits_of c.args.width) c.args.wanted.number
    c.size_of-size.ensures.size
    (step None (changes_of c.new.result.items) (leaf (local c.args.name.0 c.args.width c.args.wanted.number (unbegun (tree c.args.body.now))))) c.one_found.result
    (sym c.asks.ensures ∙ c.if-not-asks.false) c.if-number-size.false
    (ap (λ xs. step None (changes_of xs) (leaf (local c.args.name.0 c.args.width c.args.wanted.number (unbegun (tree c.args.body.now))))) c.new.ensures.items) c.one_found.ensures
