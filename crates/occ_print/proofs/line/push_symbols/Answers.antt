use Rattle.std.proofs.Common.{◌∙◌}
use Rattle.occ_print.proofs.Texts.{symbol_more}
use Rattle.occ_print.proofs.line.push_symbols.Goals as goal

pub loop-symbol-preserved : goal.loop-symbol-preserved
loop-symbol-preserved c =
    symbol_more _ _ _ _ _ _ _ _ _ c.loop-symbol-test.true c.in_ok-push_gap.ensures c.in_ok-push_symbol.ensures ∙ c.loop-symbol.invariant
