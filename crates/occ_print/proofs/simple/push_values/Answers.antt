use Rattle.std.proofs.Common.{◌++◌, ap, arith, sym, ◌∙◌}
use Rattle.std.proofs.lemmas.Bool.{ne_eqb}
use Rattle.occ_syntax.specs.declared.expr.Expr.{Expr}
use Rattle.occ_syntax.specs.View.{exp}
use Rattle.occ_print.specs.Symbols.{whole_symbols}
use Rattle.occ_print.proofs.Lists.{view_more}
use Rattle.occ_print.proofs.simple.push_values.Goals as goal

pub loop-value-preserved : goal.loop-value-preserved
loop-value-preserved c = record {
  listed = view_more whole_symbols exp _ _ c.value-item.result _ _ _ _ _ c.loop-value-test.true c.loop-value.invariant.at_first c.loop-value.invariant.listed
      c.in_ok-push_comma.ensures (c.in_ok-push_expression.ensures ∙ ap (λ (e : Expr). c.push_comma.new.symbols ++ whole_symbols (exp e)) c.value-item.is);
  at_first = sym (ne_eqb _ 0 (λ e. omega (arith, e)));
}
