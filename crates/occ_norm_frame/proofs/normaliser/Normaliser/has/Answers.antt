use Rattle.std.proofs.Common.{◌≡◌, sym, subst}
use Rattle.occ_bits.specs.occ_dd.Store.{IsKnown, has}
use Rattle.occ_norm_frame.proofs.normaliser.Normaliser.has.Goals as goal

pub has-requires : goal.has-requires
has-requires c = subst (λ v. IsKnown v.store c.args.set) (sym c.self.view_is) c.requires

pub returns : goal.returns
returns c = subst (λ v. c.has.result ≡ has v.store c.args.set c.args.state) c.self.view_is c.has.ensures
