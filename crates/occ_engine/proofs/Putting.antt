-- A part put in: when it may be, and what move that is.
use Rattle.std.proofs.Common.{◌≡◌, ℕ, true, List, Some, sym, ap, subst, ◌∙◌}
use Rattle.occ_syntax.specs.occ_base.declared.names.Name.{Name}
use Rattle.occ_replay_rules.specs.Moves.{IsAdmitted}
use Rattle.occ_script_write.proofs.from_meaning.Places.{part_keeps, put_scope, put_there}
use Rattle.occ_script_write.specs.occ_meaning.Context.{environment_at, part_at, put}
use Rattle.occ_script_write.proofs.from_script_lines.Scoping.{scopes}
use Rattle.occ_script_write.specs.occ_script_lines.Places.{IsPutIn, scope_list}
use Rattle.occ_syntax.specs.declared.scope.Kind.{Kind}
use Rattle.occ_syntax.specs.declared.scope.Program.{Program}
use Rattle.occ_syntax.specs.Scopes.{environment}
use Rattle.occ_syntax.specs.Tree.{Tree}
use Rattle.occ_syntax.specs.Types.{scope_kept}
use Rattle.occ_syntax.specs.Usage.{Keeps}
use Rattle.occ_syntax.specs.View.{tree}
use Rattle.occ_law_any.specs.occ_usage.Accepted.{KeepsRules}
use Rattle.occ_law_any.specs.occ_usage.Local.{IsExchanged}

-- ---- when a part may be put in

-- the program with the part put in is one in which a part was exchanged
pub exchanged_there : (program whole : Program) (path : List ℕ) (S : List (Name × Kind)) (old part new : Tree) → KeepsRules program → S ≡ scope_list path program.params (tree program.body)
    → IsPutIn program path part whole → part_at path (tree program.body) ≡ Some old → new ≡ part → IsExchanged S old new whole
exchanged_there program whole path S old part new kept e put_in there same =
    let p = tree program.body in
    let s = scopes path program.params p kept.scope kept.keeps.types in
    record {
      before = p;
      path = path;
      scope = subst (λ T. scope_kept T ≡ true) (sym put_in.params) kept.scope;
      kept = subst (λ T. Keeps (environment T) p) (sym put_in.params) kept.keeps;
      there = there;
      put_in = put_in.body ∙ ap (put path p) (sym same);
      scope_there = ap environment e ∙ (s.gives ∙ ap (λ T. environment_at path (environment T) p) (sym put_in.params));
      scope_kept = subst (λ T. scope_kept T ≡ true) (sym e) s.kept;
    }

-- the scope at a path of a program that keeps the rules
pub scope_there_kept : (program : Program) (path : List ℕ) (S : List (Name × Kind)) → KeepsRules program → S ≡ scope_list path program.params (tree program.body) → scope_kept S ≡ true
scope_there_kept program path S kept e = subst (λ T. scope_kept T ≡ true) (sym e) (scopes path program.params (tree program.body) kept.scope kept.keeps.types).kept

-- the part at a path keeps the rules in the scope there
pub old_kept : (program : Program) (path : List ℕ) (S : List (Name × Kind)) (q : Tree) → KeepsRules program → S ≡ scope_list path program.params (tree program.body)
    → part_at path (tree program.body) ≡ Some q → Keeps (environment S) q
old_kept program path S q kept e there =
    let s = scopes path program.params (tree program.body) kept.scope kept.keeps.types in
    subst (λ Γ. Keeps Γ q) (sym (ap environment e ∙ s.gives)) (part_keeps path (environment program.params) (tree program.body) q kept.keeps there)

-- a copy keeps them too
pub rules_copied : (from copy : Program) → copy.params ≡ from.params → tree copy.body ≡ tree from.body → KeepsRules from → KeepsRules copy
rules_copied from copy params body kept = record {
  scope = subst (λ T. scope_kept T ≡ true) (sym params) kept.scope;
  keeps = subst (λ T. Keeps (environment T) (tree copy.body)) (sym params) (subst (Keeps (environment from.params)) (sym body) kept.keeps);
}

-- a part that is admitted makes a whole that keeps the rules
pub admitted_rules : (program whole : Program) (path : List ℕ) (part : Tree) → KeepsRules program → IsPutIn program path part whole
    → IsAdmitted program.params (tree program.body) path part → KeepsRules whole
admitted_rules program whole path part kept put_in may = record {
  scope = subst (λ T. scope_kept T ≡ true) (sym put_in.params) kept.scope;
  keeps = subst (λ T. Keeps (environment T) (tree whole.body)) (sym put_in.params) (subst (Keeps (environment program.params)) (sym put_in.body) may.keeps);
}

-- the part that is put in keeps the rules in the scope there
pub put_kept : (program : Program) (path : List ℕ) (S : List (Name × Kind)) (q r : Tree) → KeepsRules program → S ≡ scope_list path program.params (tree program.body)
    → part_at path (tree program.body) ≡ Some q → IsAdmitted program.params (tree program.body) path r → Keeps (environment S) r
put_kept program path S q r kept e there may =
    let Γ = environment program.params in
    let p = tree program.body in
    let s = scopes path program.params p kept.scope kept.keeps.types in
    subst (λ Δ. Keeps Δ r) (put_scope path Γ p q r there ∙ sym (ap environment e ∙ s.gives))
    (part_keeps path Γ (put path p r) r may.keeps (put_there path p q r there))
