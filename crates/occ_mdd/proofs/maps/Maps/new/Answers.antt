use Rattle.std.proofs.Common.{ap, length}
use Rattle.occ_mdd.proofs.Values.{no_maps}
use Rattle.occ_mdd.proofs.maps.Maps.new.Goals as goal

pub returns : goal.returns
returns g c = no_maps _ (ap length c.new.ensures)
