use Rattle.std.proofs.Common.{◌≡◌, sym, ◌∙◌, subst}
use Rattle.std.proofs.lemmas.Result.{IfOk-weaker}
use Rattle.occ_nform_rows.specs.Lists.{AreSets}
use Rattle.occ_nform_rows.proofs.Listing.{sets_listed}
use Rattle.occ_nform_rows.proofs.sets.listed_sets.Goals as goal

pub returns : goal.returns
returns c =
    let ps = c.args.params.now in
    let are = sets_listed ps c.args.sets.now c.in_ok-lists.lists.items c.sorted-lists.result.items c.requires c.in_ok-lists.ensures c.sorted-lists.ensures in
    IfOk-weaker c.copied.result (λ sets. sets ≡ c.as_slice.result.now) (AreSets ps c.args.sets.now) (λ sets is. subst (AreSets ps c.args.sets.now) (sym (is ∙ c.as_slice.ensures.value)) are) c.copied.ensures
