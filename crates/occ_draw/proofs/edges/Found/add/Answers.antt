use Rattle.std.proofs.lemmas.Result.{on_ok_weaker}
use Rattle.occ_draw.proofs.Found.{grown_edges, grown_ways, is_there, new_edges, new_ways}
use Rattle.occ_draw.proofs.edges.Found.add.Goals as goal

pub grow-requires : goal.grow-requires
grow-requires c =
    let e = c.in_ok-place.ensures in
    is_there c.args.offer c.args.self.now.edges.items c.args.self.now.ways.keys c.note.new.ways.keys c.in_ok-place.place c.in_ok-place.is_new
    (record { way = c.way.result; way_is = c.way.ensures; place_is = e.place; within = e.within; tells = e.is_new; keys_are = e.keys }) c.requires c.if-is_new.false

pub returns-then-is_new-clause-edges : goal.returns-then-is_new-clause-edges
returns-then-is_new-clause-edges c =
    let e = c.in_ok-place.ensures in
    on_ok_weaker c.begin.result (new_edges c.args.offer c.args.self.now.edges.items c.args.self.now.ways.keys c.note.new.ways.keys c.in_ok-place.place c.in_ok-place.is_new
    (record { way = c.way.result; way_is = c.way.ensures; place_is = e.place; within = e.within; tells = e.is_new; keys_are = e.keys }) c.requires _ c.if-is_new.true) c.begin.ensures

pub returns-then-is_new-clause-ways : goal.returns-then-is_new-clause-ways
returns-then-is_new-clause-ways c =
    let e = c.in_ok-place.ensures in
    on_ok_weaker c.begin.result (new_ways c.args.offer c.args.self.now.edges.items c.args.self.now.ways.keys c.note.new.ways.keys c.in_ok-place.place c.in_ok-place.is_new
    (record { way = c.way.result; way_is = c.way.ensures; place_is = e.place; within = e.within; tells = e.is_new; keys_are = e.keys }) c.requires _ c.if-is_new.true) c.begin.ensures

pub returns-else-is_new-clause-edges : goal.returns-else-is_new-clause-edges
returns-else-is_new-clause-edges c =
    let e = c.in_ok-place.ensures in
    on_ok_weaker c.grow.result (grown_edges c.args.offer c.args.self.now.edges.items c.args.self.now.ways.keys c.note.new.ways.keys c.in_ok-place.place c.in_ok-place.is_new
    (record { way = c.way.result; way_is = c.way.ensures; place_is = e.place; within = e.within; tells = e.is_new; keys_are = e.keys }) c.requires _ c.if-is_new.false) c.grow.ensures

pub returns-else-is_new-clause-ways : goal.returns-else-is_new-clause-ways
returns-else-is_new-clause-ways c =
    let e = c.in_ok-place.ensures in
    on_ok_weaker c.grow.result (grown_ways c.args.offer c.args.self.now.edges.items c.args.self.now.ways.keys c.note.new.ways.keys c.in_ok-place.place c.in_ok-place.is_new
    (record { way = c.way.result; way_is = c.way.ensures; place_is = e.place; within = e.within; tells = e.is_new; keys_are = e.keys }) c.requires _ c.if-is_new.false) c.grow.ensures
