use Rattle.std.proofs.Common.{◌++◌, ◌∷◌, [], None, ap, ◌∙◌}
use Rattle.occ_syntax.specs.declared.scope.Kind.TheVariants.{Chan}
use Rattle.occ_syntax.specs.Scopes.{environment}
use Rattle.occ_syntax.specs.Types.{scope_kept}
use Rattle.occ_run.proofs.Fronts.{nothing_is}
use Rattle.occ_run.proofs.Channels.{on_top_kept, on_top_scope, one_on_top, scope_made}
use Rattle.occ_run.proofs.place.Place.within.Goals as goal

pub loop-name-preserved : goal.loop-name-preserved
loop-name-preserved c = λ scope. one_on_top _ _ _ _ c.in-Some.field-0.now scope _ c.in-Some.ensures.steps c.in_ok-push.ensures.items (c.loop-name.invariant scope)

pub invariant_of-result : goal.invariant_of-result
invariant_of-result c =
    let whole = scope_made c.loop-name.scope.items c.loop-name.name-iterator.iter.rest.now _ c.args.first c.args.more.now c.args.self.now.scope.items
    (c.in_ok-extend_from_slice.ensures.items ∙ ap (λ xs. xs ++ c.deref.result.now) c.in_ok-push-2.ensures.items ∙ ap (λ ys. (c.loop-name.scope.items ++ (c.args.first.0, Chan c.args.first.1 None) ∷ []) ++ ys) c.deref.ensures.value)
    (nothing_is _ c.in-None.ensures.steps.0) c.loop-name.invariant in
    record { kept = ap scope_kept whole ∙ on_top_kept (c.args.first ∷ c.args.more.now) c.args.self.now.scope.items c.requires c.args.self.now.kept }

pub returns-clause-scope : goal.returns-clause-scope
returns-clause-scope c =
    let whole = scope_made c.loop-name.scope.items c.loop-name.name-iterator.iter.rest.now _ c.args.first c.args.more.now c.args.self.now.scope.items
    (c.in_ok-extend_from_slice.ensures.items ∙ ap (λ xs. xs ++ c.deref.result.now) c.in_ok-push-2.ensures.items ∙ ap (λ ys. (c.loop-name.scope.items ++ (c.args.first.0, Chan c.args.first.1 None) ∷ []) ++ ys) c.deref.ensures.value)
    (nothing_is _ c.in-None.ensures.steps.0) c.loop-name.invariant in
    ap environment whole ∙ on_top_scope (c.args.first ∷ c.args.more.now) c.args.self.now.scope.items
