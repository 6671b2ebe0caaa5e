-- What a part alone tells of the program that it is put into.
use Rattle.std.proofs.Common.{◌↔◌, Bool, IfOk, IsTrue, List, Result, Ok, Err, sym, subst, ◌∙◌}
use Rattle.occ_syntax.specs.occ_base.declared.names.Name.{Name}
use Rattle.occ_names.proofs.from_meaning.Places.{part_keeps, put_scope, put_there}
use Rattle.occ_names.specs.occ_meaning.Context.{put}
use Rattle.occ_syntax.specs.declared.scope.Kind.{Kind}
use Rattle.occ_syntax.specs.declared.scope.Program.{Program}
use Rattle.occ_syntax.specs.Scopes.{environment}
use Rattle.occ_syntax.specs.Tree.{Tree}
use Rattle.occ_syntax.specs.Usage.{Keeps}
use Rattle.occ_usage.specs.Accepted.{KeepsRules}
use Rattle.occ_usage.specs.Local.{IsExchanged, UsesNoMore}
use Rattle.occ_usage.proofs.Putting.{put_keeps}

whole_keeps : (S : List (Name × Kind)) (old new : Tree) (whole : Program) → IsExchanged S old new whole → UsesNoMore new old → Keeps (environment S) new → KeepsRules whole
whole_keeps S old new whole x w k = record {
  scope = x.scope;
  keeps = subst (Keeps (environment whole.params)) (sym x.put_in)
      (put_keeps x.path (environment whole.params) x.before old new x.kept x.there (subst (λ Γ. Keeps Γ new) x.scope_there k) w);
}

part_alone_keeps : (S : List (Name × Kind)) (old new : Tree) (whole : Program) → IsExchanged S old new whole → KeepsRules whole → Keeps (environment S) new
part_alone_keeps S old new whole x k =
    let Γ = environment whole.params in
    subst (λ Δ. Keeps Δ new) (put_scope x.path Γ x.before old new x.there ∙ sym x.scope_there)
    (part_keeps x.path Γ (put x.path x.before new) new (subst (Keeps Γ) x.put_in k.keeps) (put_there x.path x.before old new x.there))

-- a part that uses no more than the one in whose place it was put tells whether the whole keeps the rules
pub told : {E : Type 0} (result : Result Bool E) (S : List (Name × Kind)) (old new : Tree) (whole : Program) → IsExchanged S old new whole → UsesNoMore new old
    → IfOk result (λ kept. IsTrue kept ↔ Keeps (environment S) new) → IfOk result (λ kept. IsTrue kept ↔ KeepsRules whole)
told (Err e) S old new whole x w k = tt
told (Ok kept) S old new whole x w k = (λ yes. whole_keeps S old new whole x w (k.0 yes), λ keeps. k.1 (part_alone_keeps S old new whole x keeps))
