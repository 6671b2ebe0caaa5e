use Rattle.std.proofs.Common.{◌≡◌, ◌∷◌, true, sym, ap, ◌∙◌, subst}
use Rattle.std.proofs.lemmas.Result.{IfOk-weaker}
use Rattle.occ_dd.proofs.Callers.{set-keeps}
use Rattle.occ_syntax.specs.Types.{agree, scope_kept, type_of}
use Rattle.occ_syntax.specs.View.{exp, exps}
use Rattle.occ_bits.specs.Layout.{environment_in, laid_out, state_of}
use Rattle.occ_bits.specs.Named.{all_true, are_conditions}
use Rattle.occ_bits.proofs.Compared.{conditions_there, entries_of, equal_answer, types_there}
use Rattle.occ_bits.proofs.Parts.{part_kept}
use Rattle.occ_bits.proofs.equal.equal_under.Goals as goal

pub of-requires-clause-scope : goal.of-requires-clause-scope
of-requires-clause-scope c = subst (λ p. scope_kept p ≡ true) (sym c.in_ok-part.ensures) (part_kept c.args.scope.now (exp c.args.left.now ∷ exp c.args.right.now ∷ exps c.args.under.now) c.requires.scope)

pub all_hold-requires : goal.all_hold-requires
all_hold-requires c =
    let is : c.in_ok-layout.layout ≡ entries_of c.args.scope.now (exp c.args.left.now) (exp c.args.right.now) (exps c.args.under.now) = c.in_ok-layout.ensures ∙ ap (laid_out 0) c.in_ok-part.ensures in
    subst (λ es. are_conditions (environment_in es) (exps c.args.under.now) ≡ true) (sym is) (conditions_there c.args.scope.now c.requires.scope (exp c.args.left.now) (exp c.args.right.now) (exps c.args.under.now) c.requires.under)

pub same_value-requires : goal.same_value-requires
same_value-requires c =
    let is : c.in_ok-layout.layout ≡ entries_of c.args.scope.now (exp c.args.left.now) (exp c.args.right.now) (exps c.args.under.now) = c.in_ok-layout.ensures ∙ ap (laid_out 0) c.in_ok-part.ensures in
    subst (λ es. agree (type_of (environment_in es) (exp c.args.left.now)) (type_of (environment_in es) (exp c.args.right.now)) ≡ true) (sym is) (types_there c.args.scope.now c.requires.scope (exp c.args.left.now) (exp c.args.right.now) (exps c.args.under.now) c.requires.types)

pub returns-clause-equal : goal.returns-clause-equal
returns-clause-equal c =
    let is : c.in_ok-layout.layout ≡ entries_of c.args.scope.now (exp c.args.left.now) (exp c.args.right.now) (exps c.args.under.now) = c.in_ok-layout.ensures ∙ ap (laid_out 0) c.in_ok-part.ensures in
    IfOk-weaker c.subset.result _ _
    (λ answer. equal_answer c.args.scope.now c.requires.scope (exp c.args.left.now) (exp c.args.right.now) (exps c.args.under.now) c.requires.under c.requires.types c.requires.few c.in_ok-layout.layout is c.same_value.new.store c.in_ok-premise.premise c.in_ok-same.same answer
    (set-keeps c.all_hold.new.store c.same_value.new.store c.same_value.ensures.keeps c.in_ok-premise.premise (λ x. all_true (environment_in c.in_ok-layout.layout) (exps c.args.under.now) (state_of c.in_ok-layout.layout x)) c.in_ok-premise.ensures.set)
    c.in_ok-same.ensures.set)
    c.subset.ensures.subset
