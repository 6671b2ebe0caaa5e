use Rattle.std.proofs.Common.{ap, map, ◌∙◌}
use Rattle.occ_syntax.specs.Tree.{assign}
use Rattle.occ_syntax.specs.View.{exps, numbers, tree}
use Rattle.occ_law_scope.specs.occ_meaning.Substitution.{substituted}
use Rattle.occ_law_seq.specs.occ_law.Instances.{sizes}
use Rattle.occ_law_right.proofs.Rights.{join_is}
use Rattle.occ_law_right.proofs.assignment.assign_join.Goals as goal

pub returns : goal.returns
returns c =
    let xs = numbers c.in-Some.pairs.vars.now in
    let es = exps c.in-Some.pairs.values.now in
    let values = map (substituted xs es) (exps c.in-Some-of.later.values.now) in
    join_is (sizes c.args.place) (tree c.args.left.now) (tree c.assignment_of.result) xs (numbers c.in-Some-of.later.vars.now) es (exps c.in-Some-of.later.values.now) (tree c.in-Some.second.now) (c.is_whole.ensures.0 c.if-not-is_whole.false) c.in-Some.ensures
    c.in-Some-of.ensures (c.same_names.ensures.0 c.if-not-same_names.false)
    (c.assignment_of.ensures ∙ ap (λ z. assign z (exps c.in_ok-values.values)) c.in_ok-vars.ensures ∙ ap (assign xs) c.in_ok-values.ensures)
