use Rattle.std.proofs.Common.{◌++◌, ap, ◌∙◌}
use Rattle.occ_draw.specs.Pictures.{entry_text}
use Rattle.occ_draw.proofs.Grouped.{entries_all, entries_further}
use Rattle.occ_draw.proofs.entries.push_entries.Goals as goal

pub loop-number-preserved : goal.loop-number-preserved
loop-number-preserved c =
    let items = c.deref-leading-items.result.now in
    entries_further c.args.params.now c.args.states.now c.args.count c.in_ok-groups.groups.items items c.loop-number.number c.leading-item.result c.loop-number.text.items c.push_entry.new.text.items _
    c.in_ok-groups.ensures c.deref-leading-items.ensures.value c.loop-number-test.true c.loop-number.invariant
    (c.in_ok-push_entry.ensures ∙ ap (λ s. c.loop-number.text.items ++ entry_text c.loop-number.number s) (c.items.ensures ∙ c.leading-item.is))

pub returns : goal.returns
returns c =
    entries_all c.args.params.now c.args.states.now c.args.count c.in_ok-groups.groups.items c.deref-leading-items.result.now c.loop-number.number c.loop-number.text.items _
    c.in_ok-groups.ensures c.deref-leading-items.ensures.value c.loop-number-test.false c.loop-number.invariant
