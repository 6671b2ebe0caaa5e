use Rattle.occ_syntax.specs.View.{tree, trees}
use Rattle.occ_syntax.proofs.Rows.{refuted}
use Rattle.occ_law_seq.proofs.Here.{failed, skip_spared, skip_test}
use Rattle.occ_law_seq.proofs.places.LastSkipPlace.holds.Goals as goal

pub returns-then-begins_with_skip : goal.returns-then-begins_with_skip
returns-then-begins_with_skip c = refuted (skip_spared _ (trees c.args.others.now) (c.begins_with_skip.ensures.0 c.if-begins_with_skip.true))

pub returns-in-Skip : goal.returns-in-Skip
returns-in-Skip c = skip_test (tree c.args.first.now) (trees c.args.rest.now) (trees c.args.others.now) _
    c.in-Skip.ensures (failed _ _ c.if-begins_with_skip.false c.begins_with_skip.ensures) c.same_procs.ensures
