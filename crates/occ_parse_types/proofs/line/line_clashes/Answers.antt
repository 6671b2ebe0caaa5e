use Rattle.std.proofs.Common.{[], ◌∷◌, sym, ap, ◌∙◌, subst}
use Rattle.occ_parse_forms.specs.Shape.{all_said, said, shape, waiting}
use Rattle.occ_parse_rules.specs.Names.{items_in, items_in_all, items_of_waiting, uses}
use Rattle.occ_parse_rules.specs.Places.{for_some}
use Rattle.occ_syntax.specs.occ_base.declared.width.Width.TheVariants.{Bool as TruthValue}
use Rattle.occ_parse_rules.specs.Types.{clashes, line_clashes, waiting_clashes}
use Rattle.occ_parse_scopes.proofs.Taken.{for_some_or}
use Rattle.occ_parse_types.specs.Asking.{AllThere}
use Rattle.occ_parse_types.proofs.Expressions.{by_first, by_second}
use Rattle.occ_parse_types.proofs.Lines.{other_clash}
use Rattle.occ_parse_types.proofs.Widths.{there_back, there_front}
use Rattle.occ_parse_types.proofs.line.line_clashes.Goals as goal

pub pairs_clash-requires-clause-left : goal.pairs_clash-requires-clause-left
pairs_clash-requires-clause-left c = subst (λ is. AllThere c.args.scopes.now is) (sym c.items.ensures) (there_front c.args.scopes.now c.in-Assign.left (items_in_all (all_said c.in-Assign.right)) (subst (λ f. AllThere c.args.scopes.now (uses (shape f))) c.in-Assign.is c.requires.there))

pub pairs_clash-requires-clause-right : goal.pairs_clash-requires-clause-right
pairs_clash-requires-clause-right c = subst (λ es. AllThere c.args.scopes.now (items_in_all (all_said es))) (sym c.items-in-Assign.ensures) (there_back c.args.scopes.now c.in-Assign.left (items_in_all (all_said c.in-Assign.right)) (subst (λ f. AllThere c.args.scopes.now (uses (shape f))) c.in-Assign.is c.requires.there))

pub input_clashes-requires-clause-chan : goal.input_clashes-requires-clause-chan
input_clashes-requires-clause-chan c = there_front c.args.scopes.now (c.in-Input.chan ∷ []) (c.in-Input.var ∷ []) (subst (λ f. AllThere c.args.scopes.now (uses (shape f))) c.in-Input.is c.requires.there)

pub value_clashes-requires-clause-item : goal.value_clashes-requires-clause-item
value_clashes-requires-clause-item c = there_front c.args.scopes.now (c.in-Output.chan ∷ []) (items_in (said c.in-Output.value)) (subst (λ f. AllThere c.args.scopes.now (uses (shape f))) c.in-Output.is c.requires.there)

pub value_clashes-requires-clause-value : goal.value_clashes-requires-clause-value
value_clashes-requires-clause-value c = there_back c.args.scopes.now (c.in-Output.chan ∷ []) (items_in (said c.in-Output.value)) (subst (λ f. AllThere c.args.scopes.now (uses (shape f))) c.in-Output.is c.requires.there)

pub clashes-requires-in-Guard-clause-there : goal.clashes-requires-in-Guard-clause-there
clashes-requires-in-Guard-clause-there c = there_front c.args.scopes.now (items_in (said c.in-Guard.condition)) (items_of_waiting (waiting c.in-Guard.wants)) (subst (λ f. AllThere c.args.scopes.now (uses (shape f))) c.in-Guard.is c.requires.there)

pub wants_clash-requires-clause-there : goal.wants_clash-requires-clause-there
wants_clash-requires-clause-there c = there_back c.args.scopes.now (items_in (said c.in-Guard.condition)) (items_of_waiting (waiting c.in-Guard.wants)) (subst (λ f. AllThere c.args.scopes.now (uses (shape f))) c.in-Guard.is c.requires.there)

pub returns-then-clashes : goal.returns-then-clashes
returns-then-clashes c = by_first _ _ _ _ (ap (λ f. for_some c.args.scopes.now (λ ρ. line_clashes c.args.scopes.now ρ (shape f))) c.in-Guard.is ∙ for_some_or c.args.scopes.now (λ ρ. clashes c.args.scopes.now ρ (said c.in-Guard.condition) TruthValue) (λ ρ. waiting_clashes c.args.scopes.now ρ (waiting c.in-Guard.wants))) c.clashes-in-Guard.ensures c.if-clashes.true

pub returns-else-clashes : goal.returns-else-clashes
returns-else-clashes c = by_second _ _ _ _ _ (ap (λ f. for_some c.args.scopes.now (λ ρ. line_clashes c.args.scopes.now ρ (shape f))) c.in-Guard.is ∙ for_some_or c.args.scopes.now (λ ρ. clashes c.args.scopes.now ρ (said c.in-Guard.condition) TruthValue) (λ ρ. waiting_clashes c.args.scopes.now ρ (waiting c.in-Guard.wants))) c.clashes-in-Guard.ensures c.if-clashes.false c.wants_clash.ensures

pub returns-in_default : goal.returns-in_default
returns-in_default c = other_clash c.args.scopes.now c.args.form.now c.in_default.not-Assign c.in_default.not-Input c.in_default.not-Output c.in_default.not-Condition c.in_default.not-Guard
