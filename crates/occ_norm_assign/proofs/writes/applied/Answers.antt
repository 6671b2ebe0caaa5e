use Rattle.std.proofs.Common.{get_or, refl, sym, subst, take, add-one, arith}
use Rattle.std.proofs.lemmas.Result.{IfOk-weaker}
use Rattle.occ_norm_frame.proofs.Worlds.{extends_refl, extends_trans, has_nodes-extends}
use Rattle.occ_norm_frame.specs.Changes.{IsChanged}
use Rattle.occ_norm_assign.specs.Written.{change_by, no_write}
use Rattle.occ_norm_assign.proofs.Assigning.{applied_from, changed_more, changed_start, exchanged_all}
use Rattle.occ_norm_assign.proofs.Exchanging.{are_free-keeps}
use Rattle.occ_norm_assign.proofs.Keeping.{writes-extend}
use Rattle.occ_norm_assign.proofs.Substituted.{keep_substituted_none}
use Rattle.occ_norm_assign.proofs.writes.applied.Goals as goal

pub substituted-requires-clause-map : goal.substituted-requires-clause-map
substituted-requires-clause-map c = has_nodes-extends c.args.world.now c.are_joint.new.world c.are_joint.ensures.extends c.args.rest c.requires.rest

pub substituted-requires-clause-memo : goal.substituted-requires-clause-memo
substituted-requires-clause-memo c =
    let u = c.args.world.now in
    let v = c.are_joint.new.world in
    keep_substituted_none v c.args.writes.now c.new-memo.result (writes-extend u v c.are_joint.ensures.extends c.args.writes.now c.requires.writes) c.new-memo.ensures

pub loop-write-init : goal.loop-write-init
loop-write-init c = record {
  extends = extends_refl c.substituted.new.world;
  nodes = c.in_ok-map.ensures.substituted.has;
  writes = c.substituted.ensures.memo.known;
  changed = changed_start c.substituted.new.world c.substituted.new.world.store c.args.keep c.args.writes.now c.in_ok-map.map c.in_ok-map.ensures.substituted.has;
}

pub loop-write-preserved : goal.loop-write-preserved
loop-write-preserved c = record {
  extends = extends_trans c.substituted.new.world c.loop-write.world c.written.new.world c.loop-write.invariant.extends c.written.ensures.extends;
  nodes = c.in_ok-next.ensures.nodes;
  writes = writes-extend c.loop-write.world c.written.new.world c.written.ensures.extends _ c.loop-write.invariant.writes;
  changed = subst (λ n. IsChanged c.written.new.world (change_by c.substituted.new.world.store c.args.keep (take n c.args.writes.now)) c.in_ok-map.map c.in_ok-next.next) (sym (add-one c.loop-write.write-index))
      (changed_more c.substituted.new.world c.loop-write.world c.written.new.world c.loop-write.invariant.extends c.written.ensures.extends c.args.keep c.args.writes.now
      c.substituted.ensures.memo.known c.loop-write.write-index (get_or c.args.writes.now c.loop-write.write-index no_write) no_write
      c.in_ok-map.map c.loop-write.map c.in_ok-next.next (omega arith) refl
      (has_nodes-extends c.substituted.new.world c.loop-write.world c.loop-write.invariant.extends c.in_ok-map.map c.in_ok-map.ensures.substituted.has)
      c.loop-write.invariant.nodes c.loop-write.invariant.changed c.in_ok-next.ensures.changed);
}

pub returns-clause-applied : goal.returns-clause-applied
returns-clause-applied c =
    applied_from c.substituted.new.world c.loop-write.world c.loop-write.invariant.extends c.args.writes.now
    c.substituted.ensures.memo.known c.args.keep c.args.rest c.in_ok-map.map c.loop-write.map
    c.in_ok-map.ensures.substituted
    c.loop-write.write-index c.loop-write-test.false c.loop-write.invariant.changed

pub returns-clause-extends : goal.returns-clause-extends
returns-clause-extends c = extends_trans c.args.world.now c.substituted.new.world c.loop-write.world (extends_trans c.args.world.now c.are_joint.new.world c.substituted.new.world c.are_joint.ensures.extends c.substituted.ensures.extends) c.loop-write.invariant.extends

pub map-requires-clause-map : goal.map-requires-clause-map
map-requires-clause-map c =
    let u = c.args.world.now in
    let v = c.stop.new.self in
    has_nodes-extends u v (extends_trans u c.are_joint.new.world v c.are_joint.ensures.extends c.stop.ensures.extends) c.args.rest c.requires.rest

pub map-requires-clause-exchange : goal.map-requires-clause-exchange
map-requires-clause-exchange c =
    let u = c.args.world.now in
    let j = c.are_joint.new.world in
    let v = c.stop.new.self in
    let writes = c.args.writes.now in
    record {
      writes_known = writes-extend u v (extends_trans u j v c.are_joint.ensures.extends c.stop.ensures.extends) writes c.requires.writes;
      distinct = c.requires.distinct;
      free = are_free-keeps j.store v.store c.stop.ensures.extends.grows.stored writes (writes-extend u j c.are_joint.ensures.extends writes c.requires.writes) _ refl (c.in_ok-joint.ensures.free c.if-joint.true);
      other_known = c.in_ok-other.ensures.nodes;
    }

pub returns-then-joint-clause-applied : goal.returns-then-joint-clause-applied
returns-then-joint-clause-applied c =
    let u = c.args.world.now in
    let v = c.stop.new.self in
    let w = c.map.new.world in
    let k = extends_trans u v w (extends_trans u c.are_joint.new.world v c.are_joint.ensures.extends c.stop.ensures.extends) c.map.ensures.extends in
    IfOk-weaker c.map.result _ _
    (λ r is. exchanged_all w c.args.writes.now (writes-extend u w k c.args.writes.now c.requires.writes) c.args.keep c.args.rest r (has_nodes-extends u w k c.args.rest c.requires.rest) is)
    c.map.ensures.exchanged
