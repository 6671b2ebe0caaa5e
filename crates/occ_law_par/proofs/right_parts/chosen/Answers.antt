use Rattle.occ_law_shape.specs.occ_law.Lists.{size}
use Rattle.occ_law_shape.specs.occ_meaning.Parallel.{all_of}
use Rattle.occ_syntax.specs.Tree.{and_tree}
use Rattle.occ_syntax.specs.View.{tree, trees}
use Rattle.occ_law_shape.specs.occ_law.Instances.{sizes}
use Rattle.occ_law_par.proofs.Parting.{none_there, part_there}
use Rattle.occ_law_par.proofs.right_parts.chosen.Goals as goal

pub returns-in_default : goal.returns-in_default
returns-in_default c = λ ps qs p s. c.in_default.ensures (size ps) s.front

pub returns-in_default-parts_in_par : goal.returns-in_default-parts_in_par
returns-in_default-parts_in_par c = λ ps qs p s. c.in_default-parts_in_par.ensures (all_of ps (and_tree p qs)) s.whole

pub returns-in_default-part_at : goal.returns-in_default-part_at
returns-in_default-part_at c =
    none_there (sizes c.args.place) (tree c.args.part.now) (trees c.in-Some-parts_in_par.parts.now) c.in-Some.size c.in-Some.ensures c.in-Some-parts_in_par.ensures c.in_default-part_at.ensures

pub returns : goal.returns
returns c =
    part_there (sizes c.args.place) (tree c.args.part.now) (trees c.in-Some-parts_in_par.parts.now) (trees c.in-Some-part_at.found.before.now) (trees c.in-Some-part_at.found.behind.now)
    (tree c.in-Some-part_at.found.part.now) c.in-Some.size c.in-Some.ensures c.in-Some-parts_in_par.ensures c.in-Some-part_at.ensures.0 c.in-Some-part_at.ensures.1
