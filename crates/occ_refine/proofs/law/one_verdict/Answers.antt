use Rattle.occ_refine.proofs.Unique.{one_verdict}
use Rattle.occ_refine.proofs.law.one_verdict.Goals as goal

pub returns : goal.returns
returns c = one_verdict
