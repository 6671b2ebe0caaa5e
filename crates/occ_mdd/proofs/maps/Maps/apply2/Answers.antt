use Rattle.occ_dd.specs.Table.{nodes_of}
use Rattle.occ_mdd.proofs.Values.{keeps_maps, known_size, pass_at, related_map}
use Rattle.occ_mdd.proofs.Combining.{no_combined}
use Rattle.occ_mdd.proofs.maps.Maps.apply2.Goals as goal

pub combine-requires-clause-pass : goal.combine-requires-clause-pass
combine-requires-clause-pass g c = record {
  first = known_size c.args.self.now c.args.a c.requires.a;
  second = known_size c.args.self.now c.args.b c.requires.b;
  first_labels = pass_at c.args.self.now c.args.a (g.F.Both.accepts c.args.f.now) c.requires.a_labels;
  second_labels = pass_at c.args.self.now c.args.b (g.F.Both.accepts c.args.f.now) c.requires.b_labels;
}

pub combine-requires-clause-right : goal.combine-requires-clause-right
combine-requires-clause-right g c = no_combined (nodes_of c.args.self.now.table) (g.F.Both.relates c.args.f.now) c.new-memo.result c.new-memo.ensures

pub returns-in_err-combine-clause-keeps : goal.returns-in_err-combine-clause-keeps
returns-in_err-combine-clause-keeps g c = keeps_maps c.args.self.now _ c.combine.ensures.keeps

pub returns-clause-keeps : goal.returns-clause-keeps
returns-clause-keeps g c = keeps_maps c.args.self.now _ c.combine.ensures.keeps

pub returns-clause-map : goal.returns-clause-map
returns-clause-map g c = related_map c.args.self.now _ c.combine.ensures.keeps c.args.a c.args.b c.in_ok-combine.field-0 (g.F.Both.relates c.combine.new.f) c.requires.a c.requires.b c.in_ok-combine.ensures.combined
