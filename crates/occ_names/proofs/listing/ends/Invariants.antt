use Rattle.std.proofs.Common.{◌≡◌, [], drop}
use Rattle.occ_names.specs.Once.{with_all}
use Rattle.occ_names.specs.Mentions.{same_end}
use Rattle.occ_names.specs.Mentions.{ends_in}
use Rattle.occ_names.proofs.listing.ends.Given as goal

abbrev pub invariant-loop-mention : goal.invariant-loop-mention
invariant-loop-mention l = with_all same_end l.found (ends_in (drop l.mention-index l.mention-items)) ≡ with_all same_end [] (ends_in l.mention-items)
