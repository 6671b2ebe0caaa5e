use Rattle.std.proofs.Common.{sym, ◌∙◌}
use Rattle.occ_parse_part.specs.Arrays.{item_array}
use Rattle.occ_parse_part.proofs.Listed.{noted_done, noted_at}
use Rattle.occ_parse_part.proofs.arrays.add_items.Goals as goal

pub loop-item-preserved : goal.loop-item-preserved
loop-item-preserved c = noted_at item_array c.args.items.now c.loop-item.item-index _ _ _ c.loop-item-test.true c.in_ok-add_item.ensures ∙ c.loop-item.invariant

pub returns : goal.returns
returns c = sym (noted_done item_array c.args.items.now c.loop-item.item-index _ c.loop-item-test.false) ∙ c.loop-item.invariant
