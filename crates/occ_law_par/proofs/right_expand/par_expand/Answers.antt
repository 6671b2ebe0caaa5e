use Rattle.occ_syntax.specs.View.{branches, in_alternatives, tree}
use Rattle.occ_law_shape.specs.occ_law.Instances.{sizes}
use Rattle.occ_law_par.proofs.Putting.{expansion, none_made}
use Rattle.occ_law_par.proofs.Rights.{expand_is, first_not_alt, second_not_alt}
use Rattle.occ_law_par.proofs.right_expand.par_expand.Goals as goal

pub returns-in_default-branches_of : goal.returns-in_default-branches_of
returns-in_default-branches_of c =
    first_not_alt (sizes c.args.place) (tree c.args.left.now) (tree c.in-Some.first.now) (tree c.in-Some.second.now) c.in-Some.ensures c.in_default-branches_of.ensures

pub returns-in_default-branches_of-2 : goal.returns-in_default-branches_of-2
returns-in_default-branches_of-2 c =
    second_not_alt (sizes c.args.place) (tree c.args.left.now) (tree c.in-Some.first.now) (tree c.in-Some.second.now) c.in-Some.ensures c.in_default-branches_of-2.ensures

pub returns : goal.returns
returns c =
    let f = tree c.in-Some.first.now in
    let s = tree c.in-Some.second.now in
    let fs = branches c.in-Some-branches_of.firsts.now in
    let ss = branches c.in-Some-branches_of-2.seconds.now in
    expand_is (sizes c.args.place) (tree c.args.left.now) f s (tree c.alt_of.result) fs ss (branches (in_alternatives c.add_meetings.new.made)) c.in-Some.ensures
    c.in-Some-branches_of.ensures c.in-Some-branches_of-2.ensures c.alt_of.ensures
    (expansion f s fs ss (branches (in_alternatives c.new-made.result)) (branches (in_alternatives c.add_first.new.made)) (branches (in_alternatives c.add_second.new.made))
    (branches (in_alternatives c.add_meetings.new.made)) (none_made (in_alternatives c.new-made.result) c.new-made.ensures) c.in_ok-add_first.ensures c.in_ok-add_second.ensures c.in_ok-add_meetings.ensures)
