use Rattle.std.proofs.Common.{sym, ◌∙◌}
use Rattle.occ_syntax.proofs.Widest.{one_entry, all_entries}
use Rattle.occ_syntax.proofs.counts.bits_together.Goals as goal

pub loop-kind-preserved : goal.loop-kind-preserved
loop-kind-preserved c = record {
  whole = one_entry _ _ _ _ _ _ _ c.loop-kind-test.true c.bits.ensures c.from.ensures c.saturating_add-bits.ensures ∙ c.loop-kind.invariant.whole;
  fits = c.saturating_add-bits.type_inv;
}

pub returns : goal.returns
returns c = sym (all_entries _ _ _ c.loop-kind-test.false c.loop-kind.invariant.fits) ∙ c.loop-kind.invariant.whole
