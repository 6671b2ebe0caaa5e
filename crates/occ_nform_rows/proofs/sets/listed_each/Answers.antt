use Rattle.std.proofs.Common.{◌+◌, ◌++◌, [], ◌∷◌, List, take, sym, ap, ◌∙◌, subst}
use Rattle.std.proofs.lemmas.List.{take_more}
use Rattle.occ_syntax.specs.occ_base.declared.event.Event.{Event}
use Rattle.occ_nform_rows.specs.Lists.{AreLists}
use Rattle.occ_nform_rows.proofs.Listing.{lists_more}
use Rattle.occ_nform_rows.proofs.sets.listed_each.Goals as goal

pub loop-set-preserved : goal.loop-set-preserved
loop-set-preserved c =
    let ps = c.args.params.now in
    let next = take_more c.args.sets.now c.loop-set.set-index c.set-item.result c.loop-set-test.true ∙ ap (λ s. take c.loop-set.set-index c.args.sets.now ++ s ∷ []) (sym c.set-item.is) in
    let more = lists_more ps (take c.loop-set.set-index c.args.sets.now) c.loop-set.lists.items c.set-item.result c.in_ok-listed_set.field-0 c.loop-set.invariant c.in_ok-listed_set.ensures in
    subst (λ (l : List (List Event)). AreLists ps (take (c.loop-set.set-index + 1) c.args.sets.now) l) (sym c.in_ok-push.ensures.items) (subst (λ (s : List (List Event)). AreLists ps s (c.loop-set.lists.items ++ c.in_ok-listed_set.field-0 ∷ [])) (sym next) more)
