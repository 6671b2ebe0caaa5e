use Rattle.std.proofs.Common.{arith, sym}
use Rattle.std.proofs.lemmas.Bool.{ne_eqb}
use Rattle.occ_syntax.specs.occ_base.declared.names.Name.{Name}
use Rattle.occ_syntax.specs.declared.scope.Kind.{Kind}
use Rattle.occ_print.specs.Symbols.{named_symbols}
use Rattle.occ_print.proofs.Lists.{item_more}
use Rattle.occ_print.proofs.simple.push_params.Goals as goal

pub loop-name-preserved : goal.loop-name-preserved
loop-name-preserved c = record {
  listed = item_more (λ (p : Name × Kind). named_symbols p.0.0 p.1) _ _ _ _ _ _ _ _ c.loop-name-test.true c.loop-name.invariant.at_first
      c.loop-name.invariant.listed c.in_ok-push_comma.ensures c.in_ok-push_param.ensures;
  at_first = sym (ne_eqb _ 0 (λ e. omega (arith, e)));
}
