use Rattle.std.proofs.Common.{◌≤◌, ◌++◌, length, ap, ◌∙◌, subst}
use Rattle.std.proofs.lemmas.List.{append-nil, drop_all}
use Rattle.occ_bits.specs.Layout.{IsLayout, laid_out}
use Rattle.occ_bits.proofs.Laid.{layout_of}
use Rattle.occ_bits.proofs.layout.Layout.of.Goals as goal

pub invariant_of-result : goal.invariant_of-result
invariant_of-result c =
    let past : length c.args.scope.now ≤ c.loop-name.name-index = subst (λ r. length r ≤ c.loop-name.name-index) c.items-name-items.ensures c.loop-name-test.false in
    subst IsLayout
    (c.loop-name.invariant.so_far ∙ ap (λ r. c.loop-name.entries ++ laid_out c.loop-name.first r) (drop_all c.loop-name.name-index c.args.scope.now past) ∙ append-nil c.loop-name.entries)
    (layout_of c.args.scope.now c.requires.scope c.requires.few)
