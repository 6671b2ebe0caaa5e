use Rattle.std.proofs.Common.{◌≡◌, ◌∙◌, ◌+◌, ◌∷◌, [], ap, drop, refl, subst, sym}
use Rattle.std.proofs.lemmas.List.{drop_all, drop_more, map-append}
use Rattle.occ_tool_run.specs.occ_engine.Moved.{move_of, moves_of}
use Rattle.occ_tool_run.specs.occ_script_write.declared.writing.Done.{Done}
use Rattle.occ_syntax.specs.View.{tree}
use Rattle.occ_prove.proofs.Steps.{IsReturning, arrives, goes_back}
use Rattle.occ_prove.proofs.returning.undone.Goals as goal

pub loop-step-preserved : goal.loop-step-preserved
loop-step-preserved c =
    let from = c.args.from.now in
    let end = tree c.args.outcome.now.to.body in
    let steps = c.items-step-items.result.now in
    let i = c.loop-step.step-index in
    let step = c.step-item.result in
    let here = tree c.loop-step.here.body in
    let back = moves_of c.loop-step.back.items in
    let split : drop i steps ≡ step ∷ drop (i + 1) steps = drop_more steps i step c.loop-step-test.true ∙ ap (λ s. s ∷ drop (i + 1) steps) (sym c.step-item.is) in
    let put_in = c.in_ok-next.ensures.put in
    let b : Done = record { law = step.law; dir = c.opposite.result; path = c.in_ok-copy-2.field-0; part = c.in_ok-next.part } in
    goes_back from.params (tree from.body) end here (tree c.in_ok-next.next.body) (moves_of steps) (moves_of (drop (i + 1) steps)) back (moves_of c.push.new.self.items) (move_of step) (move_of b)
    (put_in.body ∙ ap (Rattle.occ_tool_run.specs.occ_meaning.Context.put step.path here) c.in_ok-copy.ensures)
    (ap moves_of c.in_ok-push.ensures.items ∙ map-append move_of c.loop-step.back.items (b ∷ []))
    (record { law = refl; dir = c.opposite.ensures; path = c.in_ok-copy-2.ensures; part = c.in_ok-next.ensures.taken })
    (subst (λ left. IsReturning from.params (tree from.body) end (moves_of steps) left here back) (ap moves_of split) c.loop-step.invariant)

pub returns : goal.returns
returns c =
    let from = c.args.from.now in
    let steps = c.items-step-items.result.now in
    let none = drop_all c.loop-step.step-index steps c.loop-step-test.false in
    let there = arrives from.params (tree from.body) (tree c.args.outcome.now.to.body) (tree c.loop-step.here.body) (moves_of steps) (moves_of c.loop-step.back.items)
    (subst (λ left. IsReturning from.params (tree from.body) (tree c.args.outcome.now.to.body) (moves_of steps) (moves_of left) (tree c.loop-step.here.body) (moves_of c.loop-step.back.items)) none
    c.loop-step.invariant) in
    subst (λ all. Rattle.occ_prove.specs.Undone.AreUndone (tree from.body) (moves_of all) (moves_of c.loop-step.back.items)) c.items-step-items.ensures there
