use Rattle.occ_syntax.specs.View.{tree}
use Rattle.occ_law_par.proofs.Assigning.{assign_law}
use Rattle.occ_law_par.proofs.assign.par_assign.Goals as goal

pub returns-then-begins_with : goal.returns-then-begins_with
returns-then-begins_with c = assign_law (tree c.args.left.now) (tree c.args.right.now) _ _ _ _ _ _ _ c.in-Some.ensures c.in-Some-two_in_seq.ensures c.in-Some-two_in_par.ensures
    (c.is_assignment.ensures.0 c.if-not-is_assignment.false) (c.begins_with.ensures.0 c.if-begins_with.true) c.same_proc.ensures
