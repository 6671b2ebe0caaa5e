use Rattle.std.proofs.Common.{ap, sym, ◌∙◌}
use Rattle.occ_syntax.specs.Tree.{alt}
use Rattle.occ_syntax.specs.View.{branches, exps, numbers, tree}
use Rattle.occ_law_seq.specs.occ_law.Instances.{sizes}
use Rattle.occ_law_right.proofs.Rights.{alt_is}
use Rattle.occ_law_right.proofs.behind.assign_alt.Goals as goal

pub returns : goal.returns
returns c =
    alt_is (sizes c.args.place) (tree c.args.left.now) (tree c.alt_of.result) (numbers c.in-Some.pairs.vars.now) (exps c.in-Some.pairs.values.now) (tree c.in-Some.second.now) (branches c.in-Some-branches_of.alternatives.now) (c.is_whole.ensures.0 c.if-not-is_whole.false)
    c.in-Some.ensures c.in-Some-branches_of.ensures (sym c.spare_all.ensures ∙ c.if-not-spare_all.false) (c.alt_of.ensures ∙ ap alt c.in_ok-made.ensures)
