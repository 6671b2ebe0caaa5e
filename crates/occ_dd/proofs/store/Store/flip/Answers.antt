use Rattle.std.proofs.Common.{◌∙◌, refl, ap, unwrap_or, true, false}
use Rattle.occ_dd.specs.Table.{nodes_of}
use Rattle.occ_dd.proofs.Growth.{known-keeps, label-keeps}
use Rattle.occ_dd.proofs.Choosing.{are_choices-keeps, are_unions-keeps}
use Rattle.occ_dd.proofs.Sets.{known_size, keeps_grown, turned_set}
use Rattle.occ_dd.proofs.store.Store.flip.Goals as goal

pub invariant_of-self : goal.invariant_of-self
invariant_of-self c =
    let s = c.args.self.now in
    let ms = nodes_of s.table in
    let ns = nodes_of c.flip.new.self in
    let k = c.flip.ensures.keeps in
    record {
      empty_known = known-keeps ms ns k s.empty s.empty_known;
      full_known = known-keeps ms ns k s.full s.full_known;
      empty_is = ap (λ o. unwrap_or o true) (label-keeps ms ns k s.empty s.empty_known) ∙ s.empty_is;
      full_is = ap (λ o. unwrap_or o false) (label-keeps ms ns k s.full s.full_known) ∙ s.full_is;
      choices_right = are_choices-keeps ms ns k s.table.diagram s.full s.choices s.choices_right;
      unions_right = are_unions-keeps ms ns k s.table.diagram s.full s.unions s.unions_right;
    }

pub flip-requires-clause-known : goal.flip-requires-clause-known
flip-requires-clause-known c = known_size c.args.self.now c.args.a c.requires.a

pub returns-in_err-flip-clause-keeps : goal.returns-in_err-flip-clause-keeps
returns-in_err-flip-clause-keeps c = keeps_grown c.args.self.now _ (record { nodes = c.flip.ensures.keeps; empty = refl; full = refl })

pub returns-clause-keeps : goal.returns-clause-keeps
returns-clause-keeps c = keeps_grown c.args.self.now _ (record { nodes = c.flip.ensures.keeps; empty = refl; full = refl })

pub returns-clause-set : goal.returns-clause-set
returns-clause-set c = turned_set c.args.self.now _ (record { nodes = c.flip.ensures.keeps; empty = refl; full = refl }) c.args.a c.args.bit c.in_ok-flip.field-0 c.requires.a c.in_ok-flip.ensures.turned
