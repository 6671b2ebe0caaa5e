-- The choice that is taken behind a state.
use Rattle.std.proofs.Common.{◌≡◌, ◌∙◌, ℕ, zero, suc, Bool, true, false, List, [], ◌∷◌, None, Some, refl, sym, ap, subst}
use Rattle.occ_derive_laws.specs.occ_base.declared.names.Name.{Name}
use Rattle.occ_derive_laws.specs.occ_base.declared.width.Width.TheVariants.{Bool as Truth}
use Rattle.occ_derive_laws.proofs.Choices.{first_case, later_cases}
use Rattle.occ_derive_laws.proofs.IfHolding.{false_law, true_law}
use Rattle.occ_derive_laws.proofs.Into.{if_behind_law}
use Rattle.occ_derive_laws.proofs.Turns.{none_keeps, with_first}
use Rattle.occ_complete_states.proofs.Leading.{law_leads, leads_keep, leads_on}
use Rattle.occ_complete_states.specs.Heads.{or_else}
use Rattle.occ_complete_states.specs.Leads.{Leads}
use Rattle.occ_complete_states.specs.States.{facts, told}
use Rattle.occ_complete_states.proofs.Facts.{substituted_unnamed, told_keeps}
use Rattle.occ_complete_states.specs.Telling.{IsTaken, IsTold}
use Rattle.occ_derive_laws.specs.occ_law.Sequence.{each_assigned}
use Rattle.occ_derive_laws.proofs.from_meaning.Typing.{condition_type}
use Rattle.occ_derive_laws.specs.occ_meaning.Context.{case_at}
use Rattle.occ_derive_laws.specs.occ_meaning.Parallel.{one, two}
use Rattle.occ_derive_laws.specs.occ_meaning.Substitution.{substituted}
use Rattle.occ_derive_laws.specs.occ_syntax.declared.scope.Kind.{Kind}
use Rattle.occ_derive_laws.specs.occ_syntax.Eval.{is_true}
use Rattle.occ_derive_laws.specs.occ_syntax.Names.{names}
use Rattle.occ_derive_laws.specs.occ_syntax.Scopes.{Values, environment}
use Rattle.occ_derive_laws.specs.occ_syntax.Tree.{Cases, Exp, Tree, and_case, no_case, no_tree, select, seq, truth}
use Rattle.occ_derive_laws.specs.occ_syntax.Usage.{Keeps}
use Rattle.occ_derive_laws.specs.occ_target.States.{variables}

-- the choice among those that were taken in
record IsPicked (T : List (Name × Kind)) (s : Values) (cs : Cases) : Type 0 where
  place : ℕ
  part : Tree
  there : case_at cs place ≡ Some part
  leads : Leads T (select (each_assigned (variables T) (facts T s) cs)) (seq (two (told T s) part))

picked : (T : List (Name × Kind)) (s : Values) → IsTold T s → (cs : Cases) (p : Tree) → Keeps (environment T) (select (or_else cs p))
    → Keeps (environment T) (select (each_assigned (variables T) (facts T s) (or_else cs p))) → IsPicked T s (or_else cs p)
picked T s i no_case p k m = record {
  place = zero;
  part = p;
  there = refl;
  leads = law_leads T 18 (true_law T (truth true) (seq (two (told T s) p)) no_case (λ x. refl) refl m);
}
picked T s i (and_case b q cs) p k m = at (λ n. picked T s i cs p (later_cases (environment T) b q (or_else cs p) k) n) (is_true (λ x. None) made (λ x. 0)) refl
  where
    made : Exp
    made = substituted (variables T) (facts T s) b

    rest : Cases
    rest = each_assigned (variables T) (facts T s) (or_else cs p)

    closed : (x : ℕ) → names made x ≡ false
    closed = substituted_unnamed T s i b Truth (condition_type (environment T) b (first_case (environment T) b q (or_else cs p) k).condition)

    at : (Keeps (environment T) (select rest) → IsPicked T s (or_else cs p)) → (t : Bool) → is_true (λ x. None) made (λ x. 0) ≡ t → IsPicked T s (and_case b q (or_else cs p))
    at further true e = record {
      place = zero;
      part = q;
      there = refl;
      leads = law_leads T 18 (true_law T made (seq (two (told T s) q)) rest closed e m);
    }
    at further false e =
        let law = law_leads T 17 (false_law T no_case rest made (seq (two (told T s) q)) closed e m) in
        let r = further (leads_keep T i.scope m law) in
        record { place = suc r.place; part = r.part; there = r.there; leads = leads_on T law r.leads }

pub choice_is_taken : (T : List (Name × Kind)) (s : Values) (cs : Cases) (p : Tree) → IsTold T s → Keeps (environment T) (select (or_else cs p)) → IsTaken T s cs p
choice_is_taken T s cs p i k =
    let both = with_first (environment T) (told T s) (one (select (or_else cs p))) (told_keeps T s i) (with_first (environment T) (select (or_else cs p)) no_tree k (none_keeps (environment T))) in
    let into = law_leads T 10 (if_behind_law T (variables T) (facts T s) (or_else cs p) both) in
    let r = picked T s i cs p k (leads_keep T i.scope both into) in
    record { place = r.place; part = r.part; there = r.there; leads = leads_on T into r.leads }
