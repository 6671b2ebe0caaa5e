use Rattle.occ_syntax.specs.View.{cases, tree}
use Rattle.occ_law_shape.specs.occ_law.Instances.{sizes}
use Rattle.occ_law_if.specs.Chosen.{in_front}
use Rattle.occ_law_if.proofs.Parting.{chosen_is, none_chosen}
use Rattle.occ_law_if.proofs.chosen.chosen.Goals as goal

pub returns-in_default-divided : goal.returns-in_default-divided
returns-in_default-divided c =
    none_chosen (sizes c.args.place) (tree c.args.part.now) (cases c.in-Some.halves.before.now) (cases c.in-Some.halves.rest.now) c.in-Some.ensures c.in_default-divided.ensures

pub returns : goal.returns
returns c =
    chosen_is (sizes c.args.place) (tree c.args.part.now) (cases c.in-Some.halves.before.now) (cases c.in-Some.halves.rest.now) (in_front c.in-Some-divided.first)
    c.in-Some.ensures c.in-Some-divided.ensures
