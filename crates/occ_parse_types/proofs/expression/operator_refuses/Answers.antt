use Rattle.std.proofs.Common.{false, sym, ap, ◌∙◌}
use Rattle.occ_parse_scopes.proofs.Taken.{for_some_still}
use Rattle.occ_parse_types.specs.declared.asking.Asked.TheVariants as asked
use Rattle.occ_parse_types.specs.Asking.{class_of}
use Rattle.occ_parse_types.proofs.Expressions.{by_first, by_second, ordering_refuses, refused_by}
use Rattle.occ_parse_types.proofs.expression.operator_refuses.Goals as goal

pub returns-then-refuses : goal.returns-then-refuses
returns-then-refuses c = by_first _ _ _ _ (ordering_refuses c.args.scopes.now _ c.args.asker c.args.operands (ap class_of c.in-Ordering.is) c.requires) c.refuses-in-Ordering.ensures c.if-refuses.true

pub returns-in-Some : goal.returns-in-Some
returns-in-Some c = by_second _ _ _ _ _ (ordering_refuses c.args.scopes.now _ c.args.asker c.args.operands (ap class_of c.in-Ordering.is) c.requires) c.refuses-in-Ordering.ensures c.if-refuses.false (c.refuses-in-Some.ensures ∙ sym (ap (λ o. refused_by c.args.scopes.now o asked.Word) c.in-Some.is))

pub returns-in-None : goal.returns-in-None
returns-in-None c = by_second _ _ _ _ _ (ordering_refuses c.args.scopes.now _ c.args.asker c.args.operands (ap class_of c.in-Ordering.is) c.requires) c.refuses-in-Ordering.ensures c.if-refuses.false (sym (ap (λ o. refused_by c.args.scopes.now o asked.Word) c.in-None.is ∙ for_some_still c.args.scopes.now false))
