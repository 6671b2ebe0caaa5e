use Rattle.occ_norm_arrange.proofs.Congruent.{one_more}
use Rattle.occ_norm_arrange.specs.FlatArranged.{IsPart}
use Rattle.occ_norm_arrange.proofs.lists.more_parts.Goals as goal

pub returns : goal.returns
returns c = one_more IsPart _ _ _ _ _ c.in_ok-list.ensures c.in_ok-part_as.ensures c.in_ok-push.ensures.ok
