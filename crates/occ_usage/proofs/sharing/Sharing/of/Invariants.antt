use Rattle.std.proofs.Common.{take}
use Rattle.occ_syntax.specs.View.{trees}
use Rattle.occ_usage.specs.Sharing.{Shares}
use Rattle.occ_usage.proofs.sharing.Sharing.of.Given as goal

abbrev pub invariant-loop-part : goal.invariant-loop-part
invariant-loop-part l = Shares (trees (take l.part-index l.parts)) l.sharing.named l.sharing.written l.sharing.used l.sharing.shared l.sharing.shared_ends
