use Rattle.std.proofs.Common.{rules, sym, ap, subst}
use Rattle.occ_parse_rules.specs.Names.{items_in}
use Rattle.occ_parse_forms.specs.Shape.{said}
use Rattle.occ_parse_types.specs.Asking.{AllThere}
use Rattle.occ_parse_types.proofs.Widths.{there_left, there_right}
use Rattle.occ_parse_types.proofs.expression.+own.Goals as goal

pub own-requires-in-Words : goal.own-requires-in-Words
own-requires-in-Words t c = (
  search rules,
  (
    c.requires.kept,
    subst (λ p. AllThere c.args.scopes.now (items_in (said p))) (sym c.deref-in-Words.ensures)
        (there_left c.args.scopes.now (said c.args.phrase.now) c.in-Two.op (said c.in-Two.left.value) (said c.in-Two.right.value) (ap said c.in-Two.is) c.requires.there),
  ),
)

pub own-requires-in-None : goal.own-requires-in-None
own-requires-in-None t c = (
  search rules,
  (
    c.requires.kept,
    subst (λ p. AllThere c.args.scopes.now (items_in (said p))) (sym c.deref-in-None.ensures)
        (there_right c.args.scopes.now (said c.args.phrase.now) c.in-Two.op (said c.in-Two.left.value) (said c.in-Two.right.value) (ap said c.in-Two.is) c.requires.there),
  ),
)
