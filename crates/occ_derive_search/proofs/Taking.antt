-- One step of a derivation: when its part may be put in, and whether it is a step.
use Rattle.std.proofs.Common.{◌≡◌, ℕ, true, List, Some, sym, ap, subst, ◌∙◌}
use Rattle.occ_syntax.specs.occ_base.declared.names.Name.{Name}
use Rattle.occ_derive_search.specs.declared.walk.Walk.{Walk}
use Rattle.occ_derive_search.specs.Walking.{IsNext}
use Rattle.occ_engine.specs.Moved.{move_of}
use Rattle.occ_derive_moves.proofs.from_meaning.Places.{part_keeps, put_scope, put_there}
use Rattle.occ_derive_moves.specs.occ_meaning.Context.{part_at, put}
use Rattle.occ_derive_moves.proofs.from_script_lines.Scoping.{scopes}
use Rattle.occ_derive_moves.specs.occ_script_lines.Places.{IsPutIn, scope_list}
use Rattle.occ_engine.specs.occ_script_write.declared.writing.Done.{Done}
use Rattle.occ_syntax.specs.declared.scope.Kind.{Kind}
use Rattle.occ_syntax.specs.declared.scope.Program.{Program}
use Rattle.occ_syntax.specs.Scopes.{environment}
use Rattle.occ_syntax.specs.Tree.{Tree}
use Rattle.occ_syntax.specs.Types.{scope_kept}
use Rattle.occ_syntax.specs.Usage.{Keeps}
use Rattle.occ_syntax.specs.View.{tree}
use Rattle.occ_engine.specs.occ_usage.Accepted.{KeepsRules}

-- ---- a part put in

-- a part that is the same is put in
pub put_same : (program whole : Program) (path : List ℕ) (part new : Tree) → part ≡ new → IsPutIn program path part whole → IsPutIn program path new whole
put_same program whole path part new e put_in = subst (λ q. IsPutIn program path q whole) e put_in

-- where the body with the part put in keeps all rules, the whole keeps the rules
pub whole_kept : (program whole : Program) (path : List ℕ) (part : Tree) → KeepsRules program → IsPutIn program path part whole
    → Keeps (environment program.params) (put path (tree program.body) part) → KeepsRules whole
whole_kept program whole path part kept put_in k = record {
  scope = subst (λ T. scope_kept T ≡ true) (sym put_in.params) kept.scope;
  keeps = subst (λ T. Keeps (environment T) (tree whole.body)) (sym put_in.params) (subst (Keeps (environment program.params)) (sym put_in.body) k);
}

-- where the whole keeps the rules, the body with the part put in keeps all of them
pub body_kept : (program whole : Program) (path : List ℕ) (part : Tree) → IsPutIn program path part whole → KeepsRules whole
    → Keeps (environment program.params) (put path (tree program.body) part)
body_kept program whole path part put_in kept =
    subst (λ T. Keeps (environment T) (put path (tree program.body) part)) put_in.params (subst (Keeps (environment whole.params)) put_in.body kept.keeps)

-- the part that is put in keeps the rules in the scope there
pub part_kept : (program whole : Program) (path : List ℕ) (S : List (Name × Kind)) (old part : Tree) → KeepsRules program → S ≡ scope_list path program.params (tree program.body)
    → part_at path (tree program.body) ≡ Some old → IsPutIn program path part whole → KeepsRules whole → Keeps (environment S) part
part_kept program whole path S old part kept e there put_in after =
    let Γ = environment program.params in
    let p = tree program.body in
    let s = scopes path program.params p kept.scope kept.keeps.types in
    subst (λ Δ. Keeps Δ part) (put_scope path Γ p old part there ∙ sym (ap environment e ∙ s.gives))
    (part_keeps path Γ (put path p part) part (body_kept program whole path part put_in after) (put_there path p old part there))

-- ---- a step

-- where a step leads the rules are kept
pub rules_on : (here : Program) (step : Done) (next : Walk) → KeepsRules here → IsNext here (move_of step) (Some next) → KeepsRules next.here
rules_on here step next kept n = whole_kept here next.here step.path (tree step.part) kept n.1 n.0.keeps
