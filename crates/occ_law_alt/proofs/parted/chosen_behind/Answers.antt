use Rattle.occ_syntax.specs.View.{branches}
use Rattle.occ_law_alt.proofs.Parting.{chosen_never}
use Rattle.occ_law_alt.proofs.parted.chosen_behind.Goals as goal

pub returns-in_default : goal.returns-in_default
returns-in_default c = chosen_never (branches c.args.alternatives.now) (branches c.in_ok-found.found.front.now) (branches c.in_ok-found.found.rest.now) c.args.size c.in_ok-found.ensures.0 c.in_ok-found.ensures.1 c.in_default.ensures
