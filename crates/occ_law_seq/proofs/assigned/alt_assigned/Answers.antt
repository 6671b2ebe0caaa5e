use Rattle.std.proofs.Common.{sym, ◌∙◌}
use Rattle.std.proofs.lemmas.Result.{IfOk-weaker}
use Rattle.occ_syntax.proofs.Rows.{refuted}
use Rattle.occ_syntax.specs.View.{branches, exps, numbers, tree}
use Rattle.occ_law_seq.proofs.Assigning.{alt_assigned_law, alt_spared}
use Rattle.occ_law_seq.proofs.Here.{through}
use Rattle.occ_law_seq.proofs.assigned.alt_assigned.Goals as goal

pub returns-then-not-spare_all : goal.returns-then-not-spare_all
returns-then-not-spare_all c = refuted (alt_spared (tree c.args.second.now) (tree c.args.right.now) (numbers c.args.pairs.now.vars.now) (exps c.args.pairs.now.values.now)
    (branches c.in-Alt-law_case.alternatives.now) (branches c.in-Alt-law_case-law_case.others.now) c.in-Alt-law_case.ensures c.in-Alt-law_case-law_case.ensures (sym c.spare_all.ensures ∙ c.if-not-spare_all.true))

pub returns-else-not-spare_all : goal.returns-else-not-spare_all
returns-else-not-spare_all c = IfOk-weaker _ _ _ (λ answer test. through test
    (alt_assigned_law (tree c.args.second.now) (tree c.args.right.now) (numbers c.args.pairs.now.vars.now) (exps c.args.pairs.now.values.now)
    (branches c.in-Alt-law_case.alternatives.now) (branches c.in-Alt-law_case-law_case.others.now) c.in-Alt-law_case.ensures c.in-Alt-law_case-law_case.ensures
    (sym c.spare_all.ensures ∙ c.if-not-spare_all.false))) c.are_branch_pieces.ensures
