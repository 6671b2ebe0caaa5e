use Rattle.std.proofs.Common.{◌≤◌, [], ap, ◌∙◌, subst, sym}
use Rattle.occ_compare.specs.occ_dd.Store.{depth}
use Rattle.occ_syntax.specs.Counts.{bits_of_scope}
use Rattle.occ_nform_rows.specs.Lists.{AreEnds, AreOffers, AreSets}
use Rattle.occ_nform_rows.proofs.Rows.{deep, listed}
use Rattle.occ_nform_rows.proofs.lister.Lister.row.Goals as goal

pub listed_ends-requires-clause-deep : goal.listed_ends-requires-clause-deep
listed_ends-requires-clause-deep c =
    let w = c.args.world.now in
    let ps = c.args.self.now.params.now in
    subst (λ r. depth w.store r.ends ≤ bits_of_scope ps) (sym c.row-row.ensures.row) (deep w ps [] c.args.node c.args.self.now.kept c.requires.node c.requires.within)

pub returns : goal.returns
returns c =
    let w = c.args.world.now in
    let ps = c.args.self.now.params.now in
    let numbers = c.args.numbers.now in
    let same = c.row-row.ensures.row in
    let ends = subst (λ r. AreEnds w.store ps r.ends c.in_ok-ends.ends) same c.in_ok-ends.ensures in
    let sets = subst (λ s. AreSets ps s c.in_ok-accepts.accepts) (c.items.ensures.items ∙ ap (λ r. r.accepts) same) c.in_ok-accepts.ensures in
    let offers = subst (λ r. AreOffers ps numbers r.offers c.in_ok-offers.offers) same c.in_ok-offers.ensures in
    listed w ps numbers c.args.node c.args.self.now.kept c.requires.node c.requires.within c.in_ok-ends.ends c.in_ok-accepts.accepts c.in_ok-offers.offers ends sets offers
