use Rattle.std.proofs.Common.{subst}
use Rattle.occ_syntax.specs.View.{tree, waiting}
use Rattle.occ_law_seq.specs.occ_law.Instances.{sizes}
use Rattle.occ_law_right.specs.Communication.{IsWait}
use Rattle.occ_law_right.proofs.Rights.{io_is, io_never}
use Rattle.occ_law_right.proofs.communication.io_alt.Goals as goal

pub returns-in_default : goal.returns-in_default
returns-in_default c = io_never (sizes c.args.place) (tree c.args.left.now) (subst (λ z. IsWait (tree c.args.left.now) z) c.in_default.is c.in_ok-found.ensures)

pub returns : goal.returns
returns c =
    io_is (sizes c.args.place) (tree c.args.left.now) (tree c.in_ok-ending.field-0) (waiting c.in-Some.wait) (c.is_whole.ensures.0 c.if-not-is_whole.false)
    (subst (λ z. IsWait (tree c.args.left.now) z) c.in-Some.is c.in_ok-found.ensures) c.in_ok-ending.ensures
