use Rattle.std.proofs.Common.{◌≡◌, rules, ap, ◌∙◌}
use Rattle.std.proofs.lemmas.Result.{IfOk-weaker}
use Rattle.occ_syntax.specs.Scopes.{environment}
use Rattle.occ_syntax.specs.View.{cases, exps}
use Rattle.occ_law.specs.occ_bits.Named.{are_conditions}
use Rattle.occ_law.specs.Lists.{conditions}
use Rattle.occ_law_shape.specs.Conditions.{negations}
use Rattle.occ_law_shape.proofs.Questions.{exhaustive_asked, negations_typed}
use Rattle.occ_law_shape.proofs.conditions.is_exhaustive.Goals as goal

pub is_never_all-requires-clause-under : goal.is_never_all-requires-clause-under
is_never_all-requires-clause-under c =
    let is : exps c.items.result.now ≡ negations (conditions (cases c.args.choices.now)) = search rules in
    ap (are_conditions (environment c.args.scope.now)) is ∙ negations_typed (environment c.args.scope.now) (conditions (cases c.args.choices.now)) c.requires.typed

pub returns : goal.returns
returns c =
    let is : exps c.items.result.now ≡ negations (conditions (cases c.args.choices.now)) = search rules in
    IfOk-weaker _ _ _ (λ answer. exhaustive_asked c.args.scope.now (conditions (cases c.args.choices.now)) (exps c.items.result.now) answer c.requires.typed is) c.is_never_all.ensures
