use Rattle.std.proofs.Common.{◌≤◌, ◌+◌, get_or, length, refl, sym, ap, ◌∙◌, subst, arith}
use Rattle.std.specs.List.{All}
use Rattle.occ_norm_frame.specs.occ_bits.Words.{IsValue}
use Rattle.occ_norm_frame.specs.occ_dd.Store.{IsKnown}
use Rattle.occ_syntax.specs.View.{exp}
use Rattle.occ_norm_frame.proofs.Worlds.{extends_refl, extends_trans}
use Rattle.occ_norm_frame.proofs.Placing.{agreed_type, agreed_width, digits_within, frame_layout}
use Rattle.occ_norm_assign.specs.Written.{digit_writes}
use Rattle.occ_norm_assign.proofs.Keeping.{assigned_next, assigned_whole, no_writes, pair_here, writes-extend}
use Rattle.occ_norm_assign.proofs.writes.writes_of.Goals as goal

pub loop-place-init : goal.loop-place-init
loop-place-init c = record { extends = extends_refl c.args.world.now; writes = no_writes c.args.world.now.store _ c.new-writes.ensures.items; assigned = c.new-writes.ensures.items }

pub digits-requires : goal.digits-requires
digits-requires c = agreed_type c.args.frame.now.layout (get_or c.args.vars.now c.loop-place.place (record { 0 = 0 })).0 (exp c.index-values-place.result)
    (pair_here c.args.frame.now.layout c.args.vars.now c.args.values.now c.loop-place.place (record { 0 = 0 }) _ c.requires.pairs (omega arith) c.index-values-place.is)

pub slot-first-requires : goal.slot-first-requires
slot-first-requires c = agreed_width c.args.frame.now.layout (get_or c.args.vars.now c.loop-place.place (record { 0 = 0 })).0 (exp c.index-values-place.result)
    (pair_here c.args.frame.now.layout c.args.vars.now c.args.values.now c.loop-place.place (record { 0 = 0 }) _ c.requires.pairs (omega arith) c.index-values-place.is)

pub add_digits-requires : goal.add_digits-requires
add_digits-requires c =
    let f = c.args.frame.now in
    subst (λ n. c.slot-first.result.1 + n ≤ 64) (sym (ap length c.bits.ensures.bits ∙ c.in_ok-word.ensures.value.digits))
    (digits_within f.layout (frame_layout f.vars f.layout f.bits f.kept) _ c.slot-first.result.0 c.slot-first.result.1 (exp c.index-values-place.result) c.slot-first.ensures.found
    (pair_here f.layout c.args.vars.now c.args.values.now c.loop-place.place (record { 0 = 0 }) _ c.requires.pairs (omega arith) c.index-values-place.is))

pub loop-place-preserved : goal.loop-place-preserved
loop-place-preserved c =
    let layout = c.args.frame.now.layout in
    let v = c.loop-place.world in
    let w = c.digits.new.world in
    let vw = c.digits.ensures.extends in
    let old = c.loop-place.writes.items in
    record {
      extends = extends_trans c.args.world.now v w c.loop-place.invariant.extends vw;
      writes = c.in_ok-add_digits.ensures.writes w.store (writes-extend v w vw old c.loop-place.invariant.writes) (subst (All (IsKnown w.store)) (sym c.bits.ensures.bits) c.in_ok-word.ensures.value.known);
      assigned = assigned_next v w vw layout c.args.vars.now c.args.values.now c.loop-place.place (get_or c.args.vars.now c.loop-place.place (record { 0 = 0 })) (record { 0 = 0 }) c.index-values-place.result
          old (digit_writes c.slot-first.result.1 c.bits.result.now) c.add_digits.new.writes.items (omega arith) c.requires.same refl c.index-values-place.is c.loop-place.invariant.assigned c.in_ok-add_digits.ensures.each
          (record {
            width = c.slot-first.result.0;
            first = c.slot-first.result.1;
            sets = c.bits.result.now;
            entry = c.slot-first.ensures.found;
            value = subst (IsValue w.store layout (exp c.index-values-place.result)) (sym c.bits.ensures.bits) c.in_ok-word.ensures.value;
            each = refl;
          });
    }

pub returns-clause-assigned : goal.returns-clause-assigned
returns-clause-assigned c = assigned_whole c.loop-place.world.store c.args.frame.now.layout c.args.vars.now c.args.values.now c.loop-place.place c.loop-place.writes.items (omega (arith, c.loop-place-test.false, c.loop-place.auto.place-end)) c.requires.same c.loop-place.invariant.assigned
