use Rattle.std.proofs.Common.{◌≡◌, ◌++◌, take}
use Rattle.std.specs.List.{flat_map}
use Rattle.occ_nform_table.specs.Rows.{offer_line}
use Rattle.occ_nform_table.proofs.text.push_offers.Given as goal

abbrev pub invariant-loop-offer : goal.invariant-loop-offer
invariant-loop-offer l = l.text.items ≡ l.fn.text.items ++ flat_map (offer_line l.names) (take l.offer-index l.offers)
