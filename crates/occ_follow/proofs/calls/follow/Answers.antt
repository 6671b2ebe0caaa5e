use Rattle.std.proofs.lemmas.Result.{IfOk-weaker}
use Rattle.occ_follow.specs.Sequences.{IsSequence}
use Rattle.occ_follow.specs.Sequence.{IsFollowed}
use Rattle.occ_follow.proofs.Continuing.{followed_from}
use Rattle.occ_follow.proofs.calls.follow.Goals as goal

pub returns-clause-followed : goal.returns-clause-followed
returns-clause-followed c = IfOk-weaker c.node_after.result (λ r. IsSequence c.node_after.new.world c.args.map c.args.node r) (λ r. IsFollowed c.args.world.now c.node_after.new.world c.args.node c.args.map r)
    (λ r is. followed_from c.args.world.now c.node_after.new.world c.node_after.ensures.leads c.args.map c.args.node r c.requires.node c.requires.map is) c.node_after.ensures.sequence
