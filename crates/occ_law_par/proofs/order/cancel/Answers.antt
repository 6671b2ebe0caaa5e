use Rattle.std.proofs.Common.{sym, subst, remove}
use Rattle.occ_syntax.specs.Tree.{Trees}
use Rattle.occ_syntax.specs.View.{tree}
use Rattle.occ_law_par.specs.Order.{Put, referred}
use Rattle.occ_law_par.proofs.Reordering.{put_at, put_nowhere}
use Rattle.occ_law_par.proofs.order.cancel.Goals as goal

pub returns-in-Some : goal.returns-in-Some
returns-in-Some c =
    let taken = put_at (tree c.args.part.now) c.deref.result.now c.in-Some.place c.in-Some.ensures.0 c.in-Some.ensures.1 in
    subst (λ z. Put (tree c.args.part.now) (referred z) (referred c.args.remaining.now.items)) (sym c.remove.ensures.items)
    (subst (λ z. Put (tree c.args.part.now) (referred (remove z c.in-Some.place)) (referred z)) c.deref.ensures.value taken)

pub returns-in-None : goal.returns-in-None
returns-in-None c =
    let nowhere = put_nowhere (tree c.args.part.now) c.deref.result.now c.in-None.ensures in
    subst (λ z. (qs : Trees) → Put (tree c.args.part.now) qs (referred z) → ⊥) c.deref.ensures.value nowhere
