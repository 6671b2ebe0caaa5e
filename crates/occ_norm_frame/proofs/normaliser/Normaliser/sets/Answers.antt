use Rattle.std.proofs.Common.{◌≡◌, subst}
use Rattle.occ_bits.specs.occ_dd.Store.{sets_of}
use Rattle.occ_norm_frame.proofs.normaliser.Normaliser.sets.Goals as goal

pub returns : goal.returns
returns c = subst (λ v. c.sets.result ≡ sets_of v.store) c.self.view_is c.sets.ensures
