use Rattle.std.proofs.Common.{subst, sym}
use Rattle.occ_syntax.specs.View.{in_procs, trees}
use Rattle.occ_norm_arrange.proofs.Listed.{trees_more}
use Rattle.occ_norm_arrange.specs.Split.{IsSplit}
use Rattle.occ_norm_arrange.proofs.split.parted.Goals as goal

pub loop-part-preserved : goal.loop-part-preserved
loop-part-preserved c =
    let now = c.add.new.self in
    subst (λ ps. IsSplit ps (trees (in_procs now.front)) (trees (in_procs now.others)) now.writes now.names) (sym (trees_more c.args.parts.now c.loop-part.part-index c.part-item.result c.loop-part-test.true c.part-item.is))
    (c.in_ok-fits.ensures c.if-not-fits.false (trees _) c.loop-part.invariant)
