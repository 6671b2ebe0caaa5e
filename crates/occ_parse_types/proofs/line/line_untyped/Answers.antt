use Rattle.std.proofs.Common.{[], ◌∷◌, sym, ap, ◌∙◌, subst}
use Rattle.occ_parse_forms.specs.Shape.{all_said, said, shape, waiting}
use Rattle.occ_parse_rules.specs.Names.{items_in, items_in_all, items_of_waiting, uses}
use Rattle.occ_parse_rules.specs.Places.{for_some}
use Rattle.occ_parse_rules.specs.Types.{has_untyped, line_untyped, waiting_untyped}
use Rattle.occ_parse_scopes.proofs.Taken.{for_some_or}
use Rattle.occ_parse_types.specs.Asking.{AllThere}
use Rattle.occ_parse_types.proofs.Expressions.{by_first, by_second}
use Rattle.occ_parse_types.proofs.Lines.{other_untyped}
use Rattle.occ_parse_types.proofs.Widths.{there_back, there_front}
use Rattle.occ_parse_types.proofs.line.line_untyped.Goals as goal

pub some_untyped-requires-clause-there : goal.some_untyped-requires-clause-there
some_untyped-requires-clause-there c = subst (λ es. AllThere c.args.scopes.now (items_in_all (all_said es))) (sym c.items.ensures) (there_back c.args.scopes.now c.in-Assign.left (items_in_all (all_said c.in-Assign.right)) (subst (λ f. AllThere c.args.scopes.now (uses (shape f))) c.in-Assign.is c.requires.there))

pub untyped-requires-clause-there : goal.untyped-requires-clause-there
untyped-requires-clause-there c = there_back c.args.scopes.now (c.in-Output.chan ∷ []) (items_in (said c.in-Output.value)) (subst (λ f. AllThere c.args.scopes.now (uses (shape f))) c.in-Output.is c.requires.there)

pub untyped-requires-in-Guard-clause-there : goal.untyped-requires-in-Guard-clause-there
untyped-requires-in-Guard-clause-there c = there_front c.args.scopes.now (items_in (said c.in-Guard.condition)) (items_of_waiting (waiting c.in-Guard.wants)) (subst (λ f. AllThere c.args.scopes.now (uses (shape f))) c.in-Guard.is c.requires.there)

pub wants_untyped-requires-clause-there : goal.wants_untyped-requires-clause-there
wants_untyped-requires-clause-there c = there_back c.args.scopes.now (items_in (said c.in-Guard.condition)) (items_of_waiting (waiting c.in-Guard.wants)) (subst (λ f. AllThere c.args.scopes.now (uses (shape f))) c.in-Guard.is c.requires.there)

pub returns-then-untyped : goal.returns-then-untyped
returns-then-untyped c = by_first _ _ _ _ (ap (λ f. for_some c.args.scopes.now (λ ρ. line_untyped c.args.scopes.now ρ (shape f))) c.in-Guard.is ∙ for_some_or c.args.scopes.now (λ ρ. has_untyped c.args.scopes.now ρ (said c.in-Guard.condition)) (λ ρ. waiting_untyped c.args.scopes.now ρ (waiting c.in-Guard.wants))) c.untyped-in-Guard.ensures c.if-untyped.true

pub returns-else-untyped : goal.returns-else-untyped
returns-else-untyped c = by_second _ _ _ _ _ (ap (λ f. for_some c.args.scopes.now (λ ρ. line_untyped c.args.scopes.now ρ (shape f))) c.in-Guard.is ∙ for_some_or c.args.scopes.now (λ ρ. has_untyped c.args.scopes.now ρ (said c.in-Guard.condition)) (λ ρ. waiting_untyped c.args.scopes.now ρ (waiting c.in-Guard.wants))) c.untyped-in-Guard.ensures c.if-untyped.false c.wants_untyped.ensures

pub returns-in_default : goal.returns-in_default
returns-in_default c = other_untyped c.args.scopes.now c.args.form.now c.in_default.not-Assign c.in_default.not-Output c.in_default.not-Condition c.in_default.not-Guard
