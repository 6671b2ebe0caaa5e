use Rattle.std.proofs.Common.{◌≡◌, true, refl, rules}
use Rattle.std.specs.Ordering.{is_lt}
use Rattle.occ_compare.specs.Orders.{set_cmp}
use Rattle.occ_compare.proofs.Printing.{turned_set}
use Rattle.occ_compare.proofs.sets.lesser_side.Goals as goal

pub returns-then-is_less : goal.returns-then-is_less
returns-then-is_less c =
    let less : is_lt (set_cmp c.args.params.now c.args.second.items c.args.first.items) ≡ true = search rules in
    record { events = refl; less = turned_set c.args.params.now c.args.second.items c.args.first.items less }
