use Rattle.std.proofs.Common.{true, subst}
use Rattle.occ_bits.specs.occ_dd.Store.{IsSet}
use Rattle.occ_norm_frame.proofs.normaliser.Normaliser.full.Goals as goal

pub returns : goal.returns
returns c = subst (λ v. IsSet v.store c.full.result (λ x. true)) c.self.view_is c.full.ensures
