use Rattle.occ_syntax.specs.View.{branches, tree}
use Rattle.occ_syntax.proofs.Rows.{refuted}
use Rattle.occ_law_alt.proofs.Ended.{slide_law, slide_never}
use Rattle.occ_law_alt.proofs.least.alt_slide.Goals as goal

pub returns-in-Some : goal.returns-in-Some
returns-in-Some c = slide_law (branches c.in-Alt-law_case.alternatives.now) (branches c.in-Alt-law_case-law_case.others.now) (branches c.in-Some.front.now) (branches c.in-Some.inner.now) (tree c.args.left.now) (tree c.args.right.now) _
    c.in-Alt-law_case.ensures c.in-Alt-law_case-law_case.ensures c.in-Some.ensures c.is_slide.ensures

pub returns-in-None : goal.returns-in-None
returns-in-None c = refuted (slide_never (branches c.in-Alt-law_case.alternatives.now) (branches c.in-Alt-law_case-law_case.others.now) (tree c.args.left.now) (tree c.args.right.now)
    c.in-Alt-law_case.ensures c.in-Alt-law_case-law_case.ensures c.in-None.ensures)
