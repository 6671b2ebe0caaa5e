use Rattle.std.proofs.Common.{◌+◌, ap, sym, arith, length}
use Rattle.std.proofs.lemmas.Bool.{ne_eqb}
use Rattle.occ_print.specs.Symbols.{comma_behind}
use Rattle.occ_print.proofs.Counting.{value_counted}
use Rattle.occ_print.proofs.widest.separated_tokens.Goals as goal

pub loop-value-preserved : goal.loop-value-preserved
loop-value-preserved c = record {
  counted = value_counted _ _ _ _ _ _ _ _ c.loop-value-test.true c.value-item.is c.loop-value.invariant.counted c.loop-value.invariant.behind c.saturating_add.ensures
      c.expression_tokens.ensures c.saturating_add-count.ensures;
  behind = ap (λ b. length (comma_behind b)) (sym (ne_eqb (c.loop-value.value-index + 1) 0 (λ e. omega (arith, e))));
}
