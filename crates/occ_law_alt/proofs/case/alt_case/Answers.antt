use Rattle.occ_syntax.specs.View.{branches, cases, exp, tree}
use Rattle.occ_syntax.proofs.Rows.{refuted}
use Rattle.occ_law_alt.proofs.Begun.{through}
use Rattle.occ_law_alt.proofs.Cased.{case_law, case_never}
use Rattle.occ_law_alt.proofs.case.alt_case.Goals as goal

pub returns-in-Some : goal.returns-in-Some
returns-in-Some c = through c.is_case.ensures (case_law (tree c.args.left.now) (tree c.args.right.now) (branches c.in-Alt-law_case.alternatives.now) (branches c.in-Some.with.now) (branches c.in-Some.without.now)
    (cases c.in-If-law_case.choices.now) (exp c.in-Some.condition.now) c.in-Alt-law_case.ensures c.in-If-law_case.ensures c.in-Some.ensures)

pub returns-in-None : goal.returns-in-None
returns-in-None c = refuted (case_never (tree c.args.left.now) (tree c.args.right.now) (cases c.in-If-law_case.choices.now) c.in-If-law_case.ensures c.in-None.ensures)
