use Rattle.std.proofs.Common.{sym, subst}
use Rattle.occ_weave.specs.occ_mdd.Maps.{IsKnown}
use Rattle.occ_norm_frame.proofs.normaliser.Normaliser.node_count.Goals as goal

pub leaves_under-requires-clause-a : goal.leaves_under-requires-clause-a
leaves_under-requires-clause-a c = subst (λ v. IsKnown v.maps c.args.map) (sym c.self.view_is) c.requires
