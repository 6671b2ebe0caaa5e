use Rattle.std.proofs.Common.{◌∙◌, ap, unwrap_or, true, false}
use Rattle.occ_dd.specs.Table.{nodes_of}
use Rattle.occ_dd.proofs.Growth.{known-keeps, label-keeps}
use Rattle.occ_dd.proofs.Choosing.{are_choices-keeps, are_unions-keeps}
use Rattle.occ_dd.proofs.store.Store.branch.Goals as goal

pub invariant_of-self : goal.invariant_of-self
invariant_of-self c =
    let s = c.args.self.now in
    let ms = nodes_of s.table in
    let ns = nodes_of c.branch-self.new.self in
    let k = c.branch-self.ensures.keeps in
    record {
      empty_known = known-keeps ms ns k s.empty s.empty_known;
      full_known = known-keeps ms ns k s.full s.full_known;
      empty_is = ap (λ o. unwrap_or o true) (label-keeps ms ns k s.empty s.empty_known) ∙ s.empty_is;
      full_is = ap (λ o. unwrap_or o false) (label-keeps ms ns k s.full s.full_known) ∙ s.full_is;
      choices_right = are_choices-keeps ms ns k s.table.diagram s.full s.choices s.choices_right;
      unions_right = are_unions-keeps ms ns k s.table.diagram s.full s.unions s.unions_right;
    }
