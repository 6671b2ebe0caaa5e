use Rattle.occ_syntax.specs.View.{tree, branches}
use Rattle.occ_syntax.proofs.Rows.{refuted}
use Rattle.occ_law_par.proofs.Expanding.{expand_law, second_missing}
use Rattle.occ_law_par.proofs.expand.par_expand.Goals as goal

pub returns-in_default-behind_beside-2 : goal.returns-in_default-behind_beside-2
returns-in_default-behind_beside-2 c = refuted (second_missing (tree c.args.left.now) (tree c.args.right.now) (tree c.in-Some.first.now) (tree c.in-Some.second.now)
    (branches c.in-Some-alternatives.firsts.now) (branches c.in-Some-alternatives-2.seconds.now) (branches c.in-Some-alternatives-3.others.now) (branches c.in-Some-behind_beside.further.now)
    c.in-Some.ensures c.in-Some-alternatives.ensures c.in-Some-alternatives-2.ensures c.in-Some-alternatives-3.ensures c.in-Some-behind_beside.ensures c.in_default-behind_beside-2.ensures)

pub returns : goal.returns
returns c = expand_law (tree c.args.left.now) (tree c.args.right.now) (tree c.in-Some.first.now) (tree c.in-Some.second.now)
    (branches c.in-Some-alternatives.firsts.now) (branches c.in-Some-alternatives-2.seconds.now) (branches c.in-Some-alternatives-3.others.now) (branches c.in-Some-behind_beside.further.now)
    (branches c.in-Some-behind_beside-2.last.now) _ c.in-Some.ensures c.in-Some-alternatives.ensures c.in-Some-alternatives-2.ensures c.in-Some-alternatives-3.ensures
    c.in-Some-behind_beside.ensures c.in-Some-behind_beside-2.ensures c.are_meetings.ensures
