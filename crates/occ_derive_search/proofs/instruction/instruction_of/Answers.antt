use Rattle.std.proofs.Common.{ap, ◌∙◌}
use Rattle.std.specs.Prelude.{slice_get}
use Rattle.occ_derive_search.specs.declared.instruction.TheConstants.{INSTRUCTIONS}
use Rattle.occ_derive_search.specs.Digits.{told}
use Rattle.occ_derive_search.proofs.instruction.instruction_of.Goals as goal

pub returns : goal.returns
unfolding told
returns c = c.instruction_at.ensures ∙ ap (slice_get INSTRUCTIONS) c.from.ensures
