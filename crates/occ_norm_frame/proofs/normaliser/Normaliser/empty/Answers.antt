use Rattle.std.proofs.Common.{false, subst}
use Rattle.occ_bits.specs.occ_dd.Store.{IsSet}
use Rattle.occ_norm_frame.proofs.normaliser.Normaliser.empty.Goals as goal

pub returns : goal.returns
returns c = subst (λ v. IsSet v.store c.empty.result (λ x. false)) c.self.view_is c.empty.ensures
