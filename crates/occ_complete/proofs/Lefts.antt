-- What is left to do, and parts of it.
use Rattle.std.proofs.Common.{arith, ◌≡◌, ◌∙◌, ℕ, zero, suc, ◌+◌, ◌≤◌, ◌<◌, max, Bool, true, false, ◌||◌, ◌&&◌, List, [], ◌∷◌, ◌++◌, Some, refl, sym, ap, subst}
use Rattle.std.proofs.lemmas.Bool.{and_parts, or_parts}
use Rattle.std.proofs.lemmas.List.{append-nil, append_assoc}
use Rattle.std.specs.List.{AllByRecursion}
use Rattle.occ_engine.specs.occ_base.declared.names.Name.{Name}
use Rattle.occ_engine.specs.occ_base.declared.width.Width.{Width}
use Rattle.occ_complete_states.specs.occ_derive_moves.Unified.{is_target}
use Rattle.occ_complete_states.specs.occ_derive_moves.Weight.{heaviest_case, weight}
use Rattle.occ_complete_states.proofs.from_derive_laws.Turns.{first_keeps, flat_law, flat_law_back, none_keeps, with_first}
use Rattle.occ_complete_states.proofs.Leading.{declaring_leads, first_leads, law_leads, law_leads_back, leads_keep, leads_on, second_leads, sparing_leads, spares_keep, spares_use}
use Rattle.occ_complete_states.specs.Configured.{IsClear, IsLeft}
use Rattle.occ_complete_states.specs.Few.{CasesFew, IsFew}
use Rattle.occ_complete_states.specs.Heads.{or_else}
use Rattle.occ_complete_states.specs.Leads.{Leads, LeadsSparing}
use Rattle.occ_complete_states.specs.States.{in_state, scope_of, told}
use Rattle.occ_complete_states.proofs.Facts.{told_keeps}
use Rattle.occ_complete_states.specs.Telling.{IsTold}
use Rattle.occ_engine.specs.occ_law.Lists.{conditions}
use Rattle.occ_engine.specs.occ_law.States.{AreFew}
use Rattle.occ_engine.proofs.from_meaning.Facts.{none_not_some, some_is}
use Rattle.occ_engine.specs.occ_meaning.Context.{case_at}
use Rattle.occ_engine.specs.occ_meaning.Parallel.{one, two}
use Rattle.occ_engine.specs.occ_syntax.declared.scope.Kind.{Kind}
use Rattle.occ_engine.specs.occ_syntax.declared.scope.Kind.TheVariants.{Var}
use Rattle.occ_engine.specs.occ_syntax.Declarations.{declaring, declaring_all}
use Rattle.occ_engine.specs.occ_syntax.Names.{free, free_in_cases, names}
use Rattle.occ_engine.specs.occ_syntax.Scopes.{Environment, Values, environment}
use Rattle.occ_engine.specs.occ_syntax.Tree.{Cases, Exp, Tree, and_case, assign, no_case, no_tree, select, seq}
use Rattle.occ_engine.specs.occ_syntax.Types.{cases_kept, is_condition, scope_kept, types_kept}
use Rattle.occ_engine.specs.occ_syntax.Usage.{Keeps}
use Rattle.occ_complete_states.specs.occ_target_laws.Shapes.{Header}
use Rattle.occ_engine.specs.occ_usage.Local.{UsesNoMore}

not_both : (b : Bool) → b ≡ true → b ≡ false → ⊥
not_both true e f = cc
not_both false e f = cc

pub not_free : (p q : Tree) (x : ℕ) → UsesNoMore q p → free p x ≡ false → free q x ≡ false
not_free p q x u e = at (free q x) refl
  where
    at : (b : Bool) → free q x ≡ b → b ≡ false
    at true f = absurd (not_both (free p x) (u.frees x f) e)
    at false f = refl

-- ---- what is left

pub left_on : (h : Header) (ys : List (Name × Kind)) (p q : Tree) → IsLeft h ys p → Keeps (environment (scope_of h ++ ys)) q → IsFew (scope_of h ++ ys) q
    → ((t : ℕ) → free p t ≡ false → free q t ≡ false) → IsLeft h ys q
left_on h ys p q l k f n = record {
  scope = l.scope;
  vars = l.vars;
  filled = l.filled;
  keeps = k;
  few = f;
  spared = λ t e. n t (l.spared t e);
}

pub left_by : (h : Header) (ys : List (Name × Kind)) (p q : Tree) → IsLeft h ys p → LeadsSparing (scope_of h ++ ys) p q → IsFew (scope_of h ++ ys) q → IsLeft h ys q
left_by h ys p q l a f = left_on h ys p q l (spares_keep (scope_of h ++ ys) l.scope l.keeps a) f (λ t. not_free p q t (spares_use (scope_of h ++ ys) a))

pub told_in : (h : Header) (ys : List (Name × Kind)) (p : Tree) (s : Values) → IsLeft h ys p → IsClear h ys s → IsTold (scope_of h ++ ys) s
told_in h ys p s l c = record { scope = l.scope; filled = l.filled; state = c.state }

-- both keep names, types, directions and usage
pub both_keep : (T : List (Name × Kind)) (s : Values) (p : Tree) → IsTold T s → Keeps (environment T) p → Keeps (environment T) (seq (two (told T s) p))
both_keep T s p i k = with_first (environment T) (told T s) (one p) (told_keeps T s i) (with_first (environment T) p no_tree k (none_keeps (environment T)))

-- in a state, and within the declarations
pub left_leads : (h : Header) (ys : List (Name × Kind)) (s : Values) (p q : Tree) → IsLeft h ys p → Leads (scope_of h ++ ys) p q
    → Leads (scope_of h) (in_state (scope_of h) ys s p) (in_state (scope_of h) ys s q)
left_leads h ys s p q l a = declaring_leads (scope_of h) ys l.vars (second_leads (scope_of h ++ ys) (told (scope_of h ++ ys) s) no_tree a)

pub state_leads : (h : Header) (ys : List (Name × Kind)) (s : Values) (p q : Tree) → IsLeft h ys p → Leads (scope_of h ++ ys) (seq (two (told (scope_of h ++ ys) s) p)) q
    → Leads (scope_of h) (in_state (scope_of h) ys s p) (declaring_all ys q)
state_leads h ys s p q l a = declaring_leads (scope_of h) ys l.vars a

-- an assignment first: it is told, and the rest is left
pub first_is_told : (T : List (Name × Kind)) (a b c p : Tree) → Keeps (environment T) (seq (two a (seq (two b p)))) → scope_kept T ≡ true → Leads T (seq (two a b)) c
    → Leads T (seq (two a (seq (two b p)))) (seq (two c p))
first_is_told T a b c p k h l =
    let flat = law_leads T 3 (flat_law T (one a) (two b p) no_tree k) in
    let again = law_leads_back T 3 (flat_law_back T no_tree (two a b) (one p) (leads_keep T h k flat)) in
    leads_on T (leads_on T flat again) (first_leads T (one p) l)

-- ---- the processes of choices

pub case_keeps : (Γ : Environment) (cs : Cases) (i : ℕ) (q : Tree) → Keeps Γ (select cs) → case_at cs i ≡ Some q → Keeps Γ q
case_keeps Γ no_case i q k e = none_not_some e
case_keeps Γ (and_case b p cs) zero q k e =
    let here = and_parts (is_condition Γ b) (types_kept p Γ) (and_parts (is_condition Γ b && types_kept p Γ) (cases_kept cs Γ) k.types).0 in
    subst (Keeps Γ) (some_is e) (record { types = here.1; usage = k.usage.0 })
case_keeps Γ (and_case b p cs) (suc i) q k e =
    case_keeps Γ cs i q (record { types = (and_parts (is_condition Γ b && types_kept p Γ) (cases_kept cs Γ) k.types).1; usage = k.usage.1 }) e

pub case_few : (S : List (Name × Kind)) (cs : Cases) (i : ℕ) (q : Tree) → CasesFew S cs → case_at cs i ≡ Some q → IsFew S q
case_few S no_case i q f e = none_not_some e
case_few S (and_case b p cs) zero q f e = subst (IsFew S) (some_is e) f.0
case_few S (and_case b p cs) (suc i) q f e = case_few S cs i q f.1 e

pub case_light : (cs : Cases) (i : ℕ) (q : Tree) → case_at cs i ≡ Some q → weight q ≤ heaviest_case cs
case_light no_case i q e = none_not_some e
case_light (and_case b p cs) zero q e = subst (λ z. weight z ≤ max (weight p) (heaviest_case cs)) (some_is e) (omega arith)
case_light (and_case b p cs) (suc i) q e = omega (arith, case_light cs i q e)

pub case_free : (cs : Cases) (i : ℕ) (q : Tree) (x : ℕ) → case_at cs i ≡ Some q → free_in_cases cs x ≡ false → free q x ≡ false
case_free no_case i q x e f = none_not_some e
case_free (and_case b p cs) zero q x e f =
    subst (λ z. free z x ≡ false) (some_is e) (or_parts (names b x) (free p x) (or_parts (names b x || free p x) (free_in_cases cs x) f).0).1
case_free (and_case b p cs) (suc i) q x e f = case_free cs i q x e (or_parts (names b x || free p x) (free_in_cases cs x) f).1

-- ---- one more declaration

pub declaring_behind : (ys : List (Name × Kind)) (x : ℕ) (w : Width) (p : Tree)
    → declaring_all ys (Rattle.occ_engine.specs.occ_syntax.Tree.declare x w p) ≡ declaring_all (ys ++ (record { 0 = x }, Var w) ∷ []) p
declaring_behind [] x w p = refl
declaring_behind (y ∷ ys) x w p = ap (declaring y.0.0 y.1) (declaring_behind ys x w p)
