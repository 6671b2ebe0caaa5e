use Rattle.std.proofs.Common.{ap, refl, sym, ◌∙◌, take, length, ◌-◌}
use Rattle.occ_syntax.proofs.Views.{tree-Par}
use Rattle.occ_syntax.specs.Tree.{connect, par}
use Rattle.occ_syntax.specs.View.{tree, trees}
use Rattle.occ_norm_arrange.proofs.Listed.{last_place, trees_last}
use Rattle.occ_norm_arrange.specs.Spread.{channel, parts}
use Rattle.occ_norm_arrange.proofs.flat.Spread.next.Goals as goal

pub returns-in_ok-push-in-Chan-clause-next : goal.returns-in_ok-push-in-Chan-clause-next
unfolding tree
returns-in_ok-push-in-Chan-clause-next c =
    channel c.in-Chan.name c.in-Chan.width (c.requires c.in-Chan.name.0 (sym c.contains.ensures ∙ c.if-contains.false))
    (ap tree c.in-Chan.is ∙ ap (λ p. connect c.in-Chan.name.0 c.in-Chan.width (tree p)) (sym c.deref.ensures)) c.in_ok-push-in-Chan.ensures.ok refl

pub returns-in_ok-push_all-in-Par-clause-next : goal.returns-in_ok-push_all-in-Par-clause-next
returns-in_ok-push_all-in-Par-clause-next c =
    let items = c.items-items.result.now in
    let last = last_place items (sym c.is_empty.ensures ∙ c.if-is_empty.false) in
    parts (trees (take (length items - 1) items))
    (ap tree c.in-Par.is ∙ tree-Par c.in-Par.parts ∙ ap (λ xs. par (trees xs)) (sym c.items-items.ensures) ∙ ap par (trees_last items (length items - 1) c.index-items-front.result last c.index-items-front.is))
    c.in_ok-push_all-in-Par.ensures.parts c.in_ok-push_all-in-Par.ensures.chans
