use Rattle.std.proofs.Common.{◌-◌, ◌<◌, length, arith, drop}
use Rattle.occ_norm_frame.proofs.Worlds.{extends_trans, has_nodes-extends}
use Rattle.occ_norm_par.proofs.Together.{all_joined, nodes_dropped, nodes_later, nodes_taken, row_joined}
use Rattle.occ_norm_par.proofs.parallel.Sides.joined.Goals as goal

pub halves-requires-in-loop-start-clause-nodes : goal.halves-requires-in-loop-start-clause-nodes
halves-requires-in-loop-start-clause-nodes c =
    let v = c.loop-start.world in
    let s = c.row_start-start-in-loop-start.result in
    nodes_taken v (c.loop-start.start - s) (drop s c.args.maps.now) (nodes_dropped v s c.args.maps.now (nodes_later c.args.world.now v c.loop-start.invariant.extends c.args.maps.now c.requires.nodes))

pub both-requires-clause-others : goal.both-requires-clause-others
both-requires-clause-others c = has_nodes-extends c.loop-start.world c.halves-in-loop-start.new.world c.halves-in-loop-start.ensures.extends c.loop-start.map c.loop-start.invariant.nodes

pub loop-start-preserved : goal.loop-start-preserved
loop-start-preserved c =
    let u = c.args.world.now in
    let v = c.loop-start.world in
    let w = c.halves-in-loop-start.new.world in
    let x = c.both.new.world in
    let s = c.row_start-start-in-loop-start.result in
    let e = c.loop-start.start in
    let i = c.loop-start.invariant in
    let low : s < e = c.row_start-start-in-loop-start.ensures in
    let high : e < length c.args.maps.now = i.below in
    record {
      extends = extends_trans u v x i.extends (extends_trans v w x c.halves-in-loop-start.ensures.extends c.both.ensures.extends);
      nodes = c.in_ok-map-2.ensures.nodes;
      below = omega (arith, low, high);
      joined = row_joined c.args.self.now s e c.args.maps.now low (omega (arith, high)) u v w x i.extends c.halves-in-loop-start.ensures.extends c.both.ensures.extends
          c.requires.nodes c.in_ok-first.first c.loop-start.map c.in_ok-map-2.map c.in_ok-first.ensures.nodes i.nodes c.in_ok-first.ensures.joined i.joined c.in_ok-map-2.ensures.both;
    }

pub returns-clause-joined : goal.returns-clause-joined
returns-clause-joined c = all_joined c.args.self.now c.loop-start.start c.args.maps.now c.args.world.now c.loop-start.world c.loop-start.map (omega arith) c.loop-start.invariant.joined
