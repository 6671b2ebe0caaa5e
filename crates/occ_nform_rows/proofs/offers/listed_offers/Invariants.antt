use Rattle.std.proofs.Common.{◌≡◌, take}
use Rattle.occ_nform_rows.specs.Lists.{with_numbers}
use Rattle.occ_nform_rows.proofs.offers.listed_offers.Given as goal

abbrev pub invariant-loop-event : goal.invariant-loop-event
invariant-loop-event l = l.list ≡ with_numbers l.numbers l.offers (take l.event-index l.event-items)
