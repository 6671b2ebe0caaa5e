use Rattle.std.proofs.Common.{sym, ◌∙◌}
use Rattle.occ_syntax.specs.View.{tree, trees}
use Rattle.occ_law_shape.specs.occ_meaning.Parallel.{two}
use Rattle.occ_law_shape.specs.occ_law.Instances.{sizes}
use Rattle.occ_law_par.proofs.Parting.{parts_are, renamed}
use Rattle.occ_law_par.proofs.right_parts.two_of.Goals as goal

pub returns-in_default : goal.returns-in_default
returns-in_default c = λ p q w. c.in_default.ensures (two p q) w

pub returns-in_default-pair : goal.returns-in_default-pair
returns-in_default-pair c = λ p q w. c.in_default-pair.ensures p q (parts_are (sym c.in-Some.ensures.whole ∙ w.whole))

pub returns : goal.returns
returns c =
    renamed (sizes c.args.place) (tree c.args.part.now) (trees c.in-Some.parts.now) (two (tree c.in-Some-pair.both.0.now) (tree c.in-Some-pair.both.1.now)) c.in-Some.ensures c.in-Some-pair.ensures
