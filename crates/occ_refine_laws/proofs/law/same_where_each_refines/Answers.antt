use Rattle.occ_refine_laws.proofs.Refining.{each_refines}
use Rattle.occ_refine_laws.proofs.law.same_where_each_refines.Goals as goal

pub returns : goal.returns
returns c = each_refines
