use Rattle.std.proofs.Common.{◌<◌, ◌==◌, length, sym, ap, ◌∙◌, arith}
use Rattle.occ_syntax.specs.Eval.{eval}
use Rattle.occ_syntax.specs.View.{branches, exp}
use Rattle.occ_syntax.specs.declared.expr.Guard.{Guard}
use Rattle.occ_syntax.specs.declared.proc.Proc.{Proc}
use Rattle.occ_run_steps.specs.Steps.{branch_steps}
use Rattle.occ_run.specs.declared.found.Found.TheVariants.{Step as Here}
use Rattle.occ_run.specs.Founds.{asked, leaves}
use Rattle.occ_run.specs.Places.{names_at, values_at}
use Rattle.occ_run.proofs.Founds.{none_left}
use Rattle.occ_run.proofs.Fronts.{none_is, not_one, same_first}
use Rattle.occ_run.proofs.Processes.{branch_behind, branch_here, branch_over, others_kept}
use Rattle.occ_run.proofs.found.branch_found.Goals as goal

pub returns-in-Step : goal.returns-in-Step
returns-in-Step c =
    let Γ = names_at c.args.place.now in
    let s = values_at c.args.place.now in
    let bs = c.loop-rest.rest.now in
    let some : 0 < length c.loop-rest.rest.now = omega (arith, c.in-len1-up.len_at_least) in
    let d = c.index-rest-0.result in
    let is = c.index-rest-0.is in
    let later = c.index-rest-0-in-loop-rest.is in
    let yes = ap (λ v. v == 1) (sym (c.value.ensures ∙ sym (ap (λ (x : Guard × Proc). eval Γ (exp x.0.condition) s) is)) ∙ c.if-value-eq1.true) in
    c.loop-rest.invariant.whole (Here c.in-Step.offer)
    (branch_here Γ s c.args.wanted.hidden.now c.args.wanted.only bs d some is c.loop-rest.number _ _ (sym (ap (λ (x : Guard × Proc). x.0.wait) is))
    (sym (ap (λ (x : Guard × Proc). x.1) later) ∙ ap (λ (x : Guard × Proc). x.1) (same_first bs c.index-rest-0-in-loop-rest.result d some later is)) yes
    c.in_ok-offer.field-0 c.in-Step.offer c.in-Step.is c.in_ok-offer.ensures)

pub loop-rest-preserved-in-Past : goal.loop-rest-preserved-in-Past
loop-rest-preserved-in-Past c =
    let Γ = names_at c.args.place.now in
    let s = values_at c.args.place.now in
    let bs = c.loop-rest.rest.now in
    let some : 0 < length c.loop-rest.rest.now = omega (arith, c.in-len1-up.len_at_least) in
    let d = c.index-rest-0.result in
    let is = c.index-rest-0.is in
    let later = c.index-rest-0-in-loop-rest.is in
    let yes = ap (λ v. v == 1) (sym (c.value.ensures ∙ sym (ap (λ (x : Guard × Proc). eval Γ (exp x.0.condition) s) is)) ∙ c.if-value-eq1.true) in
    record {
      whole = λ r h. c.loop-rest.invariant.whole r
          (branch_behind Γ s c.args.wanted.hidden.now c.args.wanted.only bs d some is c.loop-rest.number _ _ (sym (ap (λ (x : Guard × Proc). x.0.wait) is))
          (sym (ap (λ (x : Guard × Proc). x.1) later) ∙ ap (λ (x : Guard × Proc). x.1) (same_first bs c.index-rest-0-in-loop-rest.result d some later is)) yes
          c.in_ok-offer.field-0 c.in-Past.more c.in-Past.is c.in_ok-offer.ensures r h);
      kept = others_kept Γ bs d some is c.loop-rest.invariant.kept;
    }

pub loop-rest-preserved : goal.loop-rest-preserved
loop-rest-preserved c =
    let Γ = names_at c.args.place.now in
    let s = values_at c.args.place.now in
    let bs = c.loop-rest.rest.now in
    let some : 0 < length c.loop-rest.rest.now = omega (arith, c.in-len1-up.len_at_least) in
    let d = c.index-rest-0.result in
    let is = c.index-rest-0.is in
    let no = not_one c.value.result _ (c.value.ensures ∙ sym (ap (λ (x : Guard × Proc). eval Γ (exp x.0.condition) s) is)) c.if-value-eq1.false in
    record {
      whole = λ r h. c.loop-rest.invariant.whole r (branch_over Γ s c.args.wanted.hidden.now c.args.wanted.only bs d some is c.loop-rest.number no r h);
      kept = others_kept Γ bs d some is c.loop-rest.invariant.kept;
    }

pub returns : goal.returns
returns c =
    let Γ = names_at c.args.place.now in
    let s = values_at c.args.place.now in
    none_left (asked c.args.wanted.hidden.now c.args.wanted.only (leaves (branch_steps Γ s (branches c.args.alternatives.now)))) (asked c.args.wanted.hidden.now c.args.wanted.only (leaves (branch_steps Γ s (branches c.loop-rest.rest.now))))
    c.loop-rest.number c.args.wanted.number
    (ap (λ bs. asked c.args.wanted.hidden.now c.args.wanted.only (leaves (branch_steps Γ s (branches bs)))) (none_is c.loop-rest.rest.now c.in_default.len_below)) c.loop-rest.invariant.whole
