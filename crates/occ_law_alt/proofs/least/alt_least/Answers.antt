use Rattle.occ_syntax.specs.View.{branches, tree}
use Rattle.occ_syntax.proofs.Rows.{refuted}
use Rattle.occ_law_alt.proofs.Ended.{least_law, least_never, least_without}
use Rattle.occ_law_alt.proofs.least.alt_least.Goals as goal

pub returns-in-Some-alt_last : goal.returns-in-Some-alt_last
returns-in-Some-alt_last c = least_law (branches c.in-Alt-law_case.alternatives.now) (branches c.in-Alt-law_case-law_case.others.now) (branches c.in-Some.less.now) (branches c.in-Some.whole.now)
    (branches c.in-Some-alt_last.more.now) (branches c.in-Some-alt_last.again.now) (tree c.args.left.now) (tree c.args.right.now) _
    c.in-Alt-law_case.ensures c.in-Alt-law_case-law_case.ensures c.in-Some.ensures c.in-Some-alt_last.ensures c.are_least.ensures

pub returns-in-None : goal.returns-in-None
returns-in-None c = refuted (least_never (branches c.in-Alt-law_case.alternatives.now) (branches c.in-Alt-law_case-law_case.others.now) (tree c.args.left.now) (tree c.args.right.now)
    c.in-Alt-law_case.ensures c.in-Alt-law_case-law_case.ensures c.in-None.ensures)

pub returns-in-None-alt_last : goal.returns-in-None-alt_last
returns-in-None-alt_last c = refuted (least_without (branches c.in-Alt-law_case.alternatives.now) (branches c.in-Alt-law_case-law_case.others.now) (tree c.args.left.now) (tree c.args.right.now)
    c.in-Alt-law_case.ensures c.in-Alt-law_case-law_case.ensures c.in-None-alt_last.ensures)
