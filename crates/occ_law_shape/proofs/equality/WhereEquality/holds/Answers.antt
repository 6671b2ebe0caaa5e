use Rattle.std.proofs.Common.{◌≡◌, ◌∷◌, rules, ap, ◌∙◌}
use Rattle.std.proofs.lemmas.Bool.{and_from}
use Rattle.std.proofs.lemmas.Result.{IfOk-weaker}
use Rattle.occ_syntax.specs.Scopes.{environment}
use Rattle.occ_syntax.specs.View.{cases, exp, exps}
use Rattle.occ_law.specs.occ_bits.Named.{are_conditions}
use Rattle.occ_law.specs.Lists.{conditions}
use Rattle.occ_law_shape.specs.Conditions.{negations}
use Rattle.occ_law_shape.proofs.Questions.{equal_where_asked, negations_typed}
use Rattle.occ_law_shape.proofs.equality.WhereEquality.holds.Goals as goal

pub holds-requires-clause-under : goal.holds-requires-clause-under
holds-requires-clause-under c =
    let is : exps c.items.result.now ≡ exp c.args.self.now.condition.now ∷ negations (conditions (cases c.args.self.now.before.now)) = search rules in
    ap (are_conditions (environment c.args.self.now.scope.now)) is
    ∙ and_from _ _ c.requires.ready.1 (negations_typed (environment c.args.self.now.scope.now) (conditions (cases c.args.self.now.before.now)) c.requires.ready.2)

pub returns : goal.returns
returns c =
    let is : exps c.items.result.now ≡ exp c.args.self.now.condition.now ∷ negations (conditions (cases c.args.self.now.before.now)) = search rules in
    IfOk-weaker _ _ _ (λ answer. equal_where_asked c.args.self.now.scope.now (exp c.args.self.now.condition.now) (conditions (cases c.args.self.now.before.now))
    (exp c.args.left.now) (exp c.args.right.now) (exps c.items.result.now) answer c.requires.ready.2 is) c.holds.ensures
