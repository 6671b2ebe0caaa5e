use Rattle.occ_mdd.proofs.Values.{keeps_maps, constant_map}
use Rattle.occ_mdd.proofs.maps.Maps.constant.Goals as goal

pub returns-in_err-leaf-clause-keeps : goal.returns-in_err-leaf-clause-keeps
returns-in_err-leaf-clause-keeps g c = keeps_maps c.args.self.now _ c.leaf.ensures.keeps

pub returns-clause-keeps : goal.returns-clause-keeps
returns-clause-keeps g c = keeps_maps c.args.self.now _ c.leaf.ensures.keeps

pub returns-clause-map : goal.returns-clause-map
returns-clause-map g c = constant_map _ c.in_ok-leaf.field-0 c.args.leaf c.in_ok-leaf.ensures.leaf
