use Rattle.std.proofs.Common.{sym, true≢false, ◌∙◌}
use Rattle.occ_law_shape.proofs.Fronts.{test_of}
use Rattle.occ_law_alt.proofs.Begun.{no_pair}
use Rattle.occ_law_alt.proofs.places.skip_pair.Goals as goal

pub returns-else-is_empty : goal.returns-else-is_empty
returns-else-is_empty c = no_pair _ _ c.in-Some-skip_first.more.now _ _ c.in-Some.ensures c.in-Some-skip_first.ensures (λ e. true≢false (sym ((test_of _ _ c.is_empty.ensures).1 e) ∙ c.if-is_empty.false))
