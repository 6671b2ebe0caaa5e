use Rattle.occ_mdd.specs.Maps.{maps_of}
use Rattle.occ_mdd.proofs.maps.Maps.maps.Goals as goal

pub returns : goal.returns
unfolding maps_of
returns g c = c.size.ensures
