use Rattle.occ_nform_table.proofs.Named.{lines_are}
use Rattle.occ_nform_table.proofs.text.row_text.Goals as goal

pub returns : goal.returns
returns c = lines_are c.args.names.now c.args.row.now c.new-text.result.items c.push_ends.new.text.items c.push_accepts.new.text.items c.push_offers.new.text.items c.items.result.now c.items-2.result.now c.items-3.result.now
    c.new-text.ensures.items c.items.ensures c.items-2.ensures c.items-3.ensures c.in_ok-push_ends.ensures c.in_ok-push_accepts.ensures c.in_ok-push_offers.ensures
