use Rattle.std.proofs.Common.{ap}
use Rattle.std.proofs.lemmas.Result.{IfOk-weaker}
use Rattle.occ_follow.specs.Nexts.{AreNexts}
use Rattle.occ_follow.proofs.Uniting.{nexts_from}
use Rattle.occ_follow.proofs.nexts.nexts_of.Goals as goal

pub returns : goal.returns
returns c = IfOk-weaker c.leaves_under.result _ (λ r. AreNexts c.args.world.now c.args.node c.args.map r.items)
    (λ r are. nexts_from c.args.world.now c.args.node c.args.map c.row.result.now.ends _ r.items (ap (λ r. r.ends) c.row.ensures.row) are) c.leaves_under.ensures
