use Rattle.occ_syntax.specs.View.{tree, trees}
use Rattle.occ_syntax.proofs.Rows.{refuted}
use Rattle.occ_law_seq.proofs.Here.{flat_never, flat_test}
use Rattle.occ_law_seq.proofs.places.FlatPlace.holds.Goals as goal

pub returns-in-Some : goal.returns-in-Some
returns-in-Some c = flat_test (tree c.args.first.now) (trees c.in-Seq.inner.now) (trees c.args.rest.now) (trees c.args.others.now) (trees c.in-Some.other_rest.now) _
    c.in-Seq.ensures c.in-Some.ensures c.same_procs.ensures

pub returns-in-None : goal.returns-in-None
returns-in-None c = refuted (flat_never (tree c.args.first.now) (trees c.in-Seq.inner.now) (trees c.args.rest.now) (trees c.args.others.now) c.in-Seq.ensures c.in-None.ensures)
