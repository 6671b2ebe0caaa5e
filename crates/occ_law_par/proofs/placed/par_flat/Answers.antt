use Rattle.std.proofs.Common.{ap, ◌∙◌}
use Rattle.occ_syntax.specs.Tree.{par}
use Rattle.occ_syntax.specs.View.{in_procs, tree, trees}
use Rattle.occ_law_shape.specs.occ_law.Instances.{sizes}
use Rattle.occ_law_par.proofs.Putting.{parts_of_three}
use Rattle.occ_law_par.proofs.Rights.{flat_is, flat_never}
use Rattle.occ_law_par.proofs.placed.par_flat.Goals as goal

pub returns-in_default-parts_in_par : goal.returns-in_default-parts_in_par
returns-in_default-parts_in_par c =
    flat_never (sizes c.args.place) (tree c.args.left.now) (trees c.in-Some.at.before.now) (trees c.in-Some.at.behind.now) (tree c.in-Some.at.part.now) c.in-Some.ensures c.in_default-parts_in_par.ensures

pub returns : goal.returns
returns c =
    flat_is (sizes c.args.place) (tree c.args.left.now) (trees c.in-Some.at.before.now) (trees c.in-Some-parts_in_par.inner.now) (trees c.in-Some.at.behind.now)
    (tree c.in-Some.at.part.now) (tree c.par_of.result) c.in-Some.ensures c.in-Some-parts_in_par.ensures
    (c.par_of.ensures ∙ ap par (parts_of_three (trees (in_procs c.add_copies.new.made)) (trees (in_procs c.add_copies-2.new.made)) (trees (in_procs c.add_copies-3.new.made))
    (trees (in_procs c.new-made.result)) (trees c.in-Some.at.before.now) (trees c.in-Some-parts_in_par.inner.now) (trees c.in-Some.at.behind.now)
    (ap trees c.new-made.ensures) c.in_ok-add_copies.ensures c.in_ok-add_copies-2.ensures c.in_ok-add_copies-3.ensures))
