use Rattle.std.proofs.Common.{◌≡◌, ◌<◌, ◌≤◌, ◌+◌, get_or, length, sym, ap, subst, ◌∙◌}
use Rattle.occ_tool_run.specs.occ_script.Shown.{shown_step}
use Rattle.occ_syntax.specs.View.{tree}
use Rattle.occ_draw.specs.Steps.{new_whole, told}
use Rattle.occ_draw.specs.Stopping.{Adds, IsLacking}
use Rattle.occ_draw.proofs.Listed.{told_further, told_not, told_whole}
use Rattle.occ_draw.proofs.telling.list.Goals as goal

pub returns-in-Err-clause-refused : goal.returns-in-Err-clause-refused
returns-in-Err-clause-refused c =
    let i = c.loop-step.invariant in
    let k = c.loop-step.step-index in
    let p = tree c.loop-step.program.body in
    let n = c.loop-step.number + 1 in
    let step = c.step-item.result in
    let steps = c.args.script.now.steps in
    let within : k < length steps = subst (λ ss. k < length ss) c.items-step-items.ensures c.loop-step-test.true in
    let there : get_or steps k step ≡ step = subst (λ ss. get_or ss k step ≡ step) c.items-step-items.ensures (sym c.step-item.is) in
    told_not c.args.script.now.from.program.params p n steps k step c.loop-step.text.items _ c.in-Err.untold within there i.whole
    (subst (λ S. IsLacking n (told S p n (shown_step step)) c.in-Err.untold) i.params c.in-Err.ensures.refused)

pub loop-step-preserved : goal.loop-step-preserved
loop-step-preserved c =
    let i = c.loop-step.invariant in
    let k = c.loop-step.step-index in
    let p = tree c.loop-step.program.body in
    let n = c.loop-step.number + 1 in
    let step = c.step-item.result in
    let steps = c.args.script.now.steps in
    let within : k < length steps = subst (λ ss. k < length ss) c.items-step-items.ensures c.loop-step-test.true in
    let there : get_or steps k step ≡ step = subst (λ ss. get_or ss k step ≡ step) c.items-step-items.ensures (sym c.step-item.is) in
    record {
      counted = ap (λ m. m + 1) i.counted;
      params = c.in-Ok.ensures.params ∙ i.params;
      whole = told_further c.args.script.now.from.program.params p (tree c.in-Ok.next.body) n steps k step c.loop-step.text.items c.tell.new.text.items _
          within there i.whole (subst (λ S. Adds c.loop-step.text.items c.tell.new.text.items (told S p n (shown_step step))) i.params c.in-Ok.ensures.line)
          (c.in-Ok.ensures.body ∙ ap (λ S. new_whole S p (shown_step step)) i.params);
    }

pub returns-clause-told : goal.returns-clause-told
returns-clause-told c =
    let steps = c.args.script.now.steps in
    let past : length steps ≤ c.loop-step.step-index = subst (λ ss. length ss ≤ c.loop-step.step-index) c.items-step-items.ensures c.loop-step-test.false in
    told_whole c.args.script.now.from.program.params (tree c.loop-step.program.body) (c.loop-step.number + 1) steps c.loop-step.step-index c.loop-step.text.items _ past c.loop-step.invariant.whole
