use Rattle.std.proofs.Common.{◌≡◌, [], drop}
use Rattle.occ_names.specs.Once.{with_all}
use Rattle.occ_names.specs.Once.{same_number}
use Rattle.occ_names.specs.Mentions.{used}
use Rattle.occ_names.proofs.listing.free.Given as goal

abbrev pub invariant-loop-mention : goal.invariant-loop-mention
invariant-loop-mention l = with_all same_number l.found (used (drop l.mention-index l.mention-items)) ≡ with_all same_number [] (used l.mention-items)
