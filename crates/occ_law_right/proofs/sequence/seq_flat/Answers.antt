use Rattle.std.proofs.Common.{ap, ◌∙◌}
use Rattle.occ_syntax.specs.Tree.{seq}
use Rattle.occ_syntax.specs.View.{tree, trees}
use Rattle.occ_law_scope.specs.occ_meaning.Parallel.{all_of}
use Rattle.occ_law_seq.specs.occ_law.Instances.{sizes}
use Rattle.occ_law_right.proofs.Growing.{joined_again}
use Rattle.occ_law_right.proofs.Rights.{flat_is, flat_never}
use Rattle.occ_law_right.proofs.sequence.seq_flat.Goals as goal

pub returns-in_default-parts_in_seq : goal.returns-in_default-parts_in_seq
returns-in_default-parts_in_seq c = flat_never (sizes c.args.place) (tree c.args.left.now) (trees c.in-Some.at.before.now) (tree c.in-Some.at.part.now) (trees c.in-Some.at.behind.now) c.in-Some.ensures c.in_default-parts_in_seq.ensures

pub returns : goal.returns
returns c =
    let front = trees c.in-Some.at.before.now in
    let inner = trees c.in-Some-parts_in_seq.inner.now in
    flat_is (sizes c.args.place) (tree c.args.left.now) (tree c.in_ok-finished.field-0) (trees c.in-Some.at.before.now) (tree c.in-Some.at.part.now) inner (trees c.in-Some.at.behind.now) c.in-Some.ensures c.in-Some-parts_in_seq.ensures
    (c.in_ok-finished.ensures ∙ ap (λ z. seq (all_of z (trees c.in-Some.at.behind.now))) (c.in_ok-add_copies.ensures ∙ ap (λ z. all_of z inner) c.in_ok-made.ensures) ∙ ap seq (joined_again front inner (trees c.in-Some.at.behind.now)))
