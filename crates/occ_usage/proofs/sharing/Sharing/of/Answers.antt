use Rattle.std.proofs.Common.{subst}
use Rattle.occ_usage.specs.Sharing.{Shares}
use Rattle.occ_usage.proofs.Shared.{trees_more}
use Rattle.occ_usage.proofs.sharing.Sharing.of.Goals as goal

pub loop-part-preserved : goal.loop-part-preserved
loop-part-preserved c =
    let s = c.add.new.self in
    subst (λ ps. Shares ps s.named s.written s.used s.shared s.shared_ends) (trees_more _ _ _ c.loop-part-test.true c.part-item.is) (c.in_ok-add.ensures _ c.loop-part.invariant)
