use Rattle.std.proofs.Common.{◌&&◌, is_none, sym, ap, ◌∙◌}
use Rattle.occ_parse_rules.specs.Types.{compares}
use Rattle.occ_parse_forms.specs.Shape.{said}
use Rattle.occ_parse_types.specs.Asking.{class_of}
use Rattle.occ_parse_types.proofs.Expressions.{none_from, not_comparing, unsettled}
use Rattle.occ_parse_types.proofs.expression.compares_unsettled.Goals as goal

pub returns-in-Words : goal.returns-in-Words
returns-in-Words c = not_comparing c.args.scopes.now _ (said c.args.left.now) (said c.args.right.now) (ap (λ k. compares (class_of k)) c.in-Words.is)

pub returns-in-TruthValues : goal.returns-in-TruthValues
returns-in-TruthValues c = not_comparing c.args.scopes.now _ (said c.args.left.now) (said c.args.right.now) (ap (λ k. compares (class_of k)) c.in-TruthValues.is)

pub returns-in-Comparing : goal.returns-in-Comparing
returns-in-Comparing c = none_from c.is_none.result c.operands.result (sym c.is_none.ensures) ∙ sym (unsettled c.args.scopes.now (class_of c.args.class) (said c.args.left.now) (said c.args.right.now) c.operands.result c.operands.ensures ∙ ap (λ k. compares (class_of k) && is_none c.operands.result) c.in-Comparing.is)

pub returns-in-Ordering : goal.returns-in-Ordering
returns-in-Ordering c = none_from c.is_none-in-Ordering.result c.operands-in-Ordering.result (sym c.is_none-in-Ordering.ensures) ∙ sym (unsettled c.args.scopes.now (class_of c.args.class) (said c.args.left.now) (said c.args.right.now) c.operands-in-Ordering.result c.operands-in-Ordering.ensures ∙ ap (λ k. compares (class_of k) && is_none c.operands-in-Ordering.result) c.in-Ordering.is)
