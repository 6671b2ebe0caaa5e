use Rattle.occ_draw.proofs.Grouped.{grouped_all, grouped_further, grouped_none}
use Rattle.occ_draw.proofs.entries.group_states.Goals as goal

pub loop-place-init : goal.loop-place-init
loop-place-init c = grouped_none c.args.params.now c.args.states.now c.args.count c.in_ok-groups.groups.items c.in_ok-groups.ensures

pub loop-place-preserved : goal.loop-place-preserved
loop-place-preserved c =
    grouped_further c.args.params.now c.args.states.now c.args.count c.loop-place.place _ c.loop-place.groups.items c.push_leading.new.groups.items c.loop-place-test.true c.loop-place.invariant
    c.in_ok-push_leading.ensures

pub returns : goal.returns
returns c = grouped_all c.args.params.now c.args.states.now c.args.count c.loop-place.place c.loop-place.groups.items c.loop-place-test.false c.loop-place.invariant
