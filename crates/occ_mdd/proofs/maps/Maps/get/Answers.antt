use Rattle.std.proofs.Common.{sym, ◌∙◌}
use Rattle.occ_dd.specs.Table.{nodes_of}
use Rattle.occ_mdd.proofs.Values.{known_size, value_is, value-label}
use Rattle.occ_mdd.proofs.maps.Maps.get.Goals as goal

pub label-requires : goal.label-requires
label-requires g c = known_size c.args.self.now c.args.a c.requires

pub returns : goal.returns
returns g c = sym (value_is c.args.self.now c.args.a c.args.bits ∙ value-label (nodes_of c.args.self.now.table) c.args.a.0 c.args.bits c.label.result c.label.ensures)
