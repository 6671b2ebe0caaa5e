use Rattle.occ_syntax.specs.View.{cases, exp, in_choices, tree}
use Rattle.occ_law_if.proofs.Putting.{put_as}
use Rattle.occ_law_if.proofs.made.add_copy.Goals as goal

pub returns : goal.returns
returns c =
    put_as (cases (in_choices c.args.made.now)) (cases (in_choices c.add.new.made)) (exp c.in_ok-same.same) (exp c.args.condition.now) (tree c.in_ok-part.part) (tree c.args.process.now)
    c.in_ok-same.ensures c.in_ok-part.ensures c.in_ok-add.ensures
