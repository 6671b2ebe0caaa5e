use Rattle.occ_syntax.specs.View.{tree, trees}
use Rattle.occ_syntax.proofs.Rows.{refuted}
use Rattle.occ_law_seq.proofs.Here.{stop_never, stop_test}
use Rattle.occ_law_seq.proofs.places.LastStopPlace.holds.Goals as goal

pub returns-in-Some : goal.returns-in-Some
returns-in-Some c = stop_test (tree c.args.first.now) (tree c.in-Some.other.now) (trees c.args._rest.now) (trees c.args.others.now) _
    c.in-Stop.ensures c.in-Some.ensures c.is_stop.ensures

pub returns-in-None : goal.returns-in-None
returns-in-None c = refuted (stop_never _ (trees c.args.others.now) c.in-None.ensures)
