use Rattle.std.proofs.Common.{◌≡◌, sym, subst}
use Rattle.occ_weave.specs.occ_mdd.Maps.{IsKnown, value}
use Rattle.occ_norm_frame.proofs.normaliser.Normaliser.get.Goals as goal

pub get-requires : goal.get-requires
get-requires c = subst (λ v. IsKnown v.maps c.args.map) (sym c.self.view_is) c.requires

pub returns : goal.returns
returns c = subst (λ v. c.get.result ≡ value v.maps c.args.map c.args.bits) c.self.view_is c.get.ensures
