use Rattle.std.proofs.Common.{refl}
use Rattle.occ_syntax.specs.View.{branches, exp, in_alternatives, tree, waiting}
use Rattle.occ_law_par.proofs.Putting.{put_as}
use Rattle.occ_law_par.proofs.right_expand.add_as.Goals as goal

pub returns : goal.returns
returns c =
    put_as (branches (in_alternatives c.args.made.now)) (branches (in_alternatives c.add.new.made)) (exp c.in_ok-same.same.condition) (exp c.args.guard.now.condition)
    (waiting c.in_ok-same.same.wait) (waiting c.args.guard.now.wait) (tree c.args.process) (tree c.args.process) c.in_ok-same.ensures.condition c.in_ok-same.ensures.wait refl
    c.in_ok-add.ensures
