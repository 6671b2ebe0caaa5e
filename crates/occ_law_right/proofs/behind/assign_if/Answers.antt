use Rattle.std.proofs.Common.{ap, ◌∙◌}
use Rattle.occ_syntax.specs.Tree.{select}
use Rattle.occ_syntax.specs.View.{cases, exps, numbers, tree}
use Rattle.occ_law_seq.specs.occ_law.Instances.{sizes}
use Rattle.occ_law_right.proofs.Rights.{if_is}
use Rattle.occ_law_right.proofs.behind.assign_if.Goals as goal

pub returns : goal.returns
returns c =
    if_is (sizes c.args.place) (tree c.args.left.now) (tree c.if_of.result) (numbers c.in-Some.pairs.vars.now) (exps c.in-Some.pairs.values.now) (tree c.in-Some.second.now) (cases c.in-Some-choices_of.choices.now) (c.is_whole.ensures.0 c.if-not-is_whole.false) c.in-Some.ensures
    c.in-Some-choices_of.ensures (c.if_of.ensures ∙ ap select c.in_ok-made.ensures)
