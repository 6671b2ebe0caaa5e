use Rattle.std.proofs.Common.{subst}
use Rattle.occ_norm_assign.specs.Written.{IsApplied}
use Rattle.occ_norm_frame.proofs.After.{over-extends}
use Rattle.occ_norm_frame.proofs.Worlds.{extends_trans, has_nodes-extends}
use Rattle.occ_syntax.specs.Tree.{seq}
use Rattle.occ_syntax.specs.View.{trees}
use Rattle.occ_norm_assign.specs.Transfer.{SameWrites}
use Rattle.occ_norm_assign.proofs.Choosing.{function_after}
use Rattle.occ_norm_assign.proofs.Runs.{some_found}
use Rattle.occ_norm_assign.proofs.run.by_digits.Goals as goal

pub applied-requires-clause-rest : goal.applied-requires-clause-rest
applied-requires-clause-rest c =
    let k = extends_trans c.args.world.now c.composed.new.world c.writes_made.new.world (extends_trans c.args.world.now c.is_full.new.world c.composed.new.world c.is_full.ensures c.composed.ensures.extends) c.writes_made.ensures.extends in
    has_nodes-extends c.args.world.now c.writes_made.new.world k c.args.rest c.requires.rest.has

pub returns-clause-after : goal.returns-clause-after
returns-clause-after c =
    let frame = c.args.frame.now in
    let v = c.composed.new.world in
    let u = c.writes_made.new.world in
    let w = c.applied.new.world in
    let digits = c.in-Some.digits.items in
    let writes = c.in_ok-writes.writes.items in
    let k = extends_trans c.args.world.now v w (extends_trans c.args.world.now c.is_full.new.world v c.is_full.ensures c.composed.ensures.extends) (extends_trans v u w c.writes_made.ensures.extends c.applied.ensures.extends) in
    record {
      nodes = c.in_ok-map.ensures.nodes;
      after = function_after v u w c.writes_made.ensures.extends c.applied.ensures.extends frame.vars frame.layout frame.bits frame.keep frame.closed.items frame.kept frame.inside (seq (trees c.args.parts.now)) digits writes c.args.rest c.in_ok-map.map
          (some_found _ c.in_ok-digits.field-0 c.in-Some.digits c.in-Some.is c.in_ok-digits.ensures.function)
          (subst (λ ds. SameWrites u.store ds writes) c.deref.ensures.value c.in_ok-writes.ensures.same) c.in_ok-writes.ensures.writes c.in_ok-writes.ensures.distinct
          (over-extends c.args.world.now w k frame.bits c.args.rest c.requires.rest) (subst (λ ws. IsApplied w ws frame.keep c.args.rest c.in_ok-map.map) c.deref-2.ensures.value c.in_ok-map.ensures.applied);
    }
