use Rattle.occ_syntax.specs.declared.proc.Proc.{Skip}
use Rattle.occ_syntax.specs.View.{exps, numbers, tree}
use Rattle.occ_law_seq.specs.occ_law.Instances.{sizes}
use Rattle.occ_law_right.proofs.Rights.{id_is, skip_is}
use Rattle.occ_law_right.proofs.assignment.assign_id.Goals as goal

pub returns : goal.returns
returns c =
    id_is (sizes c.args.place) (tree c.args.left.now) (tree Skip) (numbers c.in_ok-pairs.pairs.vars.now) (exps c.in_ok-pairs.pairs.values.now) (c.is_whole.ensures.0 c.if-not-is_whole.false) c.in_ok-pairs.ensures (c.are_variables.ensures.0 c.if-not-are_variables.false) skip_is
