use Rattle.occ_mdd.proofs.Values.{canonical_maps}
use Rattle.occ_mdd.proofs.law.maps_have_one_number.Goals as goal

pub returns : goal.returns
returns g c = canonical_maps c.args._maps.now
