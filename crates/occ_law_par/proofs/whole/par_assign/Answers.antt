use Rattle.std.proofs.Common.{ap, ◌∙◌}
use Rattle.occ_law_shape.specs.occ_meaning.Parallel.{all_of}
use Rattle.occ_syntax.specs.Tree.{seq}
use Rattle.occ_syntax.specs.View.{tree, trees}
use Rattle.occ_law_shape.specs.occ_law.Instances.{sizes}
use Rattle.occ_law_par.proofs.Putting.{assigned_made}
use Rattle.occ_law_par.proofs.Rights.{assign_is, assign_never}
use Rattle.occ_law_par.proofs.whole.par_assign.Goals as goal

pub returns-in_default-begun : goal.returns-in_default-begun
returns-in_default-begun c = assign_never (sizes c.args.place) (tree c.args.left.now) (tree c.in-Some.first.now) (tree c.in-Some.second.now) c.in-Some.ensures c.in_default-begun.ensures

pub returns : goal.returns
returns c =
    let rest = trees c.in-Some-begun.start.rest.now in
    assign_is (sizes c.args.place) (tree c.args.left.now) (tree c.in-Some.first.now) (tree c.in-Some-begun.start.assignment.now) (tree c.in-Some.second.now)
    (tree c.in_ok-in_turn.field-0) rest c.in-Some.ensures c.in-Some-begun.ensures
    (assigned_made _ _ _ _ _ _ _ _ c.in_ok-in_turn.ensures c.in_ok-later.ensures (c.seq_of.ensures ∙ ap seq (c.in_ok-add_copies.ensures ∙ ap (λ z. all_of (trees z) rest) c.new-rest.ensures))
    c.in_ok-other.ensures c.in_ok-assignment.ensures)
