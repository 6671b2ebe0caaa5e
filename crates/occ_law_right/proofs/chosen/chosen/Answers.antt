use Rattle.occ_syntax.specs.View.{tree, trees}
use Rattle.occ_law_seq.specs.occ_law.Instances.{sizes}
use Rattle.occ_law_right.proofs.chosen.chosen.Goals as goal
use Rattle.occ_law_right.proofs.Parting.{none_there, part_there}

pub returns-in_default : goal.returns-in_default
returns-in_default c =
    none_there (sizes c.args.place) (tree c.args.part.now) (trees c.in_ok-parts.parts.now) c.in_ok-size.size c.in_ok-size.ensures c.in_ok-parts.ensures c.in_default.ensures

pub returns : goal.returns
returns c =
    part_there (sizes c.args.place) (tree c.args.part.now) (trees c.in_ok-parts.parts.now) (trees c.in-Some.found.before.now) (tree c.in-Some.found.part.now) (trees c.in-Some.found.behind.now)
    c.in_ok-size.size c.in_ok-size.ensures c.in_ok-parts.ensures c.in-Some.ensures.0 c.in-Some.ensures.1
