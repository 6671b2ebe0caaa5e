use Rattle.occ_syntax.specs.occ_base.declared.names.Name.{Name}
use Rattle.occ_syntax.specs.declared.scope.Kind.{Kind}
use Rattle.occ_syntax.specs.declared.scope.Kind.TheVariants.{Var}
use Rattle.occ_syntax.specs.Counts.{bits_of_scope}
use Rattle.occ_syntax.specs.Types.{scope_kept}
use Rattle.occ_norm_frame.proofs.FrameBits.{pow_more}
use Rattle.occ_norm_frame.proofs.Placing.{few_more, frame-now, frame-push}
use Rattle.std.proofs.Common.{true, ◌≡◌, ◌≤◌, ◌++◌, [], ◌∷◌, List, sym, ap, ◌∙◌, subst, arith}
use Rattle.occ_norm_frame.proofs.frame.Frame.add_variable.Goals as goal

pub of-requires-clause-scope : goal.of-requires-clause-scope
of-requires-clause-scope c = subst (λ vs. scope_kept vs ≡ true) (sym (c.in_ok-push.ensures.ok ∙ ap (λ (vs : List (Name × Kind)). vs ++ (c.args.name, Var c.args.width) ∷ []) c.in_ok-vars.ensures)) (frame-push c.args.self.now.vars c.args.self.now.layout c.args.self.now.bits c.args.name c.args.width c.args.self.now.kept c.requires).scope

pub of-requires-clause-few : goal.of-requires-clause-few
of-requires-clause-few c = subst (λ vs. bits_of_scope vs ≤ 64) (sym (c.in_ok-push.ensures.ok ∙ ap (λ (vs : List (Name × Kind)). vs ++ (c.args.name, Var c.args.width) ∷ []) c.in_ok-vars.ensures)) (few_more _ (frame-push c.args.self.now.vars c.args.self.now.layout c.args.self.now.bits c.args.name c.args.width c.args.self.now.kept c.requires).few)

pub invariant_of-self : goal.invariant_of-self
invariant_of-self c = record {
  kept = frame-now c.args.self.now.vars c.args.self.now.layout c.args.self.now.bits c.from-more.result c.args.name c.args.width c.push.new.self c.in_ok-layout.layout c.args.self.now.kept c.requires (c.in_ok-push.ensures.ok ∙ ap (λ (vs : List (Name × Kind)). vs ++ (c.args.name, Var c.args.width) ∷ []) c.in_ok-vars.ensures) c.in_ok-layout.ensures (c.from-more.ensures ∙ c.bits.ensures);
  inside = pow_more c.args.self.now.bits _ c.args.self.now.keep (omega arith) c.args.self.now.inside;
}
