use Rattle.occ_mdd.proofs.Values.{keeps_maps, known_size, turned_map}
use Rattle.occ_mdd.proofs.maps.Maps.flip.Goals as goal

pub flip-requires-clause-known : goal.flip-requires-clause-known
flip-requires-clause-known g c = known_size c.args.self.now c.args.a c.requires.a

pub returns-in_err-flip-clause-keeps : goal.returns-in_err-flip-clause-keeps
returns-in_err-flip-clause-keeps g c = keeps_maps c.args.self.now _ c.flip.ensures.keeps

pub returns-clause-keeps : goal.returns-clause-keeps
returns-clause-keeps g c = keeps_maps c.args.self.now _ c.flip.ensures.keeps

pub returns-clause-map : goal.returns-clause-map
returns-clause-map g c = turned_map c.args.self.now _ c.flip.ensures.keeps c.args.a c.args.bit c.in_ok-flip.field-0 c.requires.a c.in_ok-flip.ensures.turned
