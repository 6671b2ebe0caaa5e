use Rattle.std.proofs.Common.{rules}
use Rattle.occ_dd.specs.Memo.{recalled}
use Rattle.occ_dd.proofs.memo.Memo.new.Goals as goal

pub returns : goal.returns
unfolding recalled
returns c = search rules
