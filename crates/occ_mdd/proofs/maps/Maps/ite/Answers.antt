use Rattle.occ_dd.specs.Table.{nodes_of}
use Rattle.occ_mdd.proofs.Values.{keeps_maps, known_size, chosen_map}
use Rattle.occ_mdd.proofs.Choosing.{no_chosen}
use Rattle.occ_mdd.proofs.maps.Maps.ite.Goals as goal

pub choose-requires-clause-asked : goal.choose-requires-clause-asked
choose-requires-clause-asked g c = record { set = c.requires.set; first = known_size c.args.self.now c.args.a c.requires.a; second = known_size c.args.self.now c.args.b c.requires.b }

pub choose-requires-clause-right : goal.choose-requires-clause-right
choose-requires-clause-right g c = no_chosen (nodes_of c.args.self.now.table) c.args.store.now c.new-memo.result c.new-memo.ensures

pub returns-in_err-choose-clause-sets : goal.returns-in_err-choose-clause-sets
returns-in_err-choose-clause-sets g c = c.choose.ensures.grown.sets

pub returns-in_err-choose-clause-keeps : goal.returns-in_err-choose-clause-keeps
returns-in_err-choose-clause-keeps g c = keeps_maps c.args.self.now _ c.choose.ensures.grown.nodes

pub returns-clause-sets : goal.returns-clause-sets
returns-clause-sets g c = c.choose.ensures.grown.sets

pub returns-clause-keeps : goal.returns-clause-keeps
returns-clause-keeps g c = keeps_maps c.args.self.now _ c.choose.ensures.grown.nodes

pub returns-clause-map : goal.returns-clause-map
returns-clause-map g c = chosen_map c.args.self.now _ c.choose.ensures.grown.nodes c.args.store.now c.choose.new.store c.choose.ensures.grown.sets c.args.set c.args.a c.args.b c.in_ok-choose.field-0 c.requires.set c.requires.a c.requires.b c.in_ok-choose.ensures.chosen
