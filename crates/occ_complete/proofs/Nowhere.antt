-- Names that stand nowhere in a part: it is as few as before where they are in scope, and doesn't declare them.
use Rattle.std.proofs.Common.{◌≡◌, ◌++◌, ◌+◌, ◌==◌, ◌||◌, ◌≤◌, Bool, cond, ℕ, false, true, List, [], ◌∷◌, None, refl, sym, ap, subst, inl, inr}
use Rattle.std.proofs.lemmas.Bool.{eqb-true, or_cases, or_from, or_parts}
use Rattle.std.proofs.lemmas.List.{append-nil, append_assoc}
use Rattle.std.specs.List.{AllByRecursion}
use Rattle.occ_engine.specs.occ_base.declared.names.Name.{Name}
use Rattle.occ_engine.specs.occ_bits.Named.{bits_named, named_part}
use Rattle.occ_complete.specs.Begun.{IsAway}
use Rattle.occ_complete_states.specs.occ_derive_moves.Apart.{has_declared}
use Rattle.occ_complete_states.proofs.Nowhere.{nowhere_declared}
use Rattle.occ_complete_states.specs.Few.{AllFew, BranchesFew, CasesFew, IsFew}
use Rattle.occ_engine.specs.occ_law.Lists.{conditions}
use Rattle.occ_engine.proofs.from_meaning.Facts.{false_not_true}
use Rattle.occ_engine.proofs.from_meaning.InScope.{nowhere_free}
use Rattle.occ_engine.specs.occ_meaning.Rename.{stands, stands_in_branches, stands_in_cases, stands_in_some, stands_in_waiting}
use Rattle.occ_engine.specs.occ_syntax.declared.scope.Kind.{Kind}
use Rattle.occ_engine.specs.occ_syntax.declared.scope.Kind.TheVariants.{Chan, Var}
use Rattle.occ_engine.specs.occ_syntax.Counts.{bits_of_kind, bits_of_scope}
use Rattle.occ_engine.specs.occ_syntax.Names.{free, is_in, names, some_names}
use Rattle.occ_engine.specs.occ_syntax.Tree.{Branches, Cases, Exp, Tree, Trees, alt, and_branch, and_case, and_tree, assign, connect, declare, no_branch, no_case, no_tree, par, receive, select, send, seq, skip, stop}
use Rattle.occ_complete_states.specs.occ_target.States.{variables}
use Rattle.occ_complete_states.specs.occ_target_laws.Shapes.{Header}

-- ---- bits

bits_skip : (A B : List (Name × Kind)) (y : Name) (k : Kind) (es : List Exp) → some_names es y.0 ≡ false → bits_named (A ++ (y, k) ∷ B) es ≡ bits_named (A ++ B) es
bits_skip [] B y k es h = ap (λ b. bits_of_scope (cond b ((y, k) ∷ named_part B es) (named_part B es))) h
bits_skip (a ∷ A) B y k es h = at (some_names es a.0.0) (bits_skip A B y k es h)
  where
    at : (b : Bool) → bits_named (A ++ (y, k) ∷ B) es ≡ bits_named (A ++ B) es
        → bits_of_scope (cond b (a ∷ named_part (A ++ (y, k) ∷ B) es) (named_part (A ++ (y, k) ∷ B) es))
        ≡ bits_of_scope (cond b (a ∷ named_part (A ++ B) es) (named_part (A ++ B) es))
    at true e = ap (λ n. bits_of_kind a.1 + n) e
    at false e = e

conditions_off : (cs : Cases) (x : ℕ) → stands_in_cases cs x ≡ false → some_names (conditions cs) x ≡ false
conditions_off no_case x h = refl
conditions_off (and_case b p cs) x h =
    let first = or_parts (names b x || stands p x) (stands_in_cases cs x) h in
    or_from (names b x) (some_names (conditions cs) x) (or_parts (names b x) (stands p x) first.0).0 (conditions_off cs x first.1)

mutual
  few_more : (p : Tree) (A B : List (Name × Kind)) (y : Name) (k : Kind) → stands p y.0 ≡ false → IsFew (A ++ B) p → IsFew (A ++ (y, k) ∷ B) p
  few_more skip A B y k h f = tt
  few_more stop A B y k h f = tt
  few_more (assign xs es) A B y k h f = tt
  few_more (receive c x) A B y k h f = tt
  few_more (send c e) A B y k h f = tt
  few_more (seq ps) A B y k h f = all_few_more ps A B y k h f
  few_more (par ps) A B y k h f = all_few_more ps A B y k h f
  few_more (select cs) A B y k h f =
      (subst (λ n. n ≤ 24) (sym (bits_skip A B y k (conditions cs) (conditions_off cs y.0 h))) f.0, cases_few_more cs A B y k h f.1)
  few_more (alt gs) A B y k h f = branches_few_more gs A B y k h f
  few_more (declare x w p) A B y k h f =
      subst (λ U. IsFew U p) (sym (append_assoc A ((y, k) ∷ B) ((record { 0 = x }, Var w) ∷ [])))
      (few_more p A (B ++ (record { 0 = x }, Var w) ∷ []) y k (or_parts (y.0 == x) (stands p y.0) h).1
      (subst (λ U. IsFew U p) (append_assoc A B ((record { 0 = x }, Var w) ∷ [])) f))
  few_more (connect c w p) A B y k h f =
      subst (λ U. IsFew U p) (sym (append_assoc A ((y, k) ∷ B) ((record { 0 = c }, Chan w None) ∷ [])))
      (few_more p A (B ++ (record { 0 = c }, Chan w None) ∷ []) y k (or_parts (y.0 == c) (stands p y.0) h).1
      (subst (λ U. IsFew U p) (append_assoc A B ((record { 0 = c }, Chan w None) ∷ [])) f))

  all_few_more : (ps : Trees) (A B : List (Name × Kind)) (y : Name) (k : Kind) → stands_in_some ps y.0 ≡ false → AllFew (A ++ B) ps → AllFew (A ++ (y, k) ∷ B) ps
  all_few_more no_tree A B y k h f = tt
  all_few_more (and_tree p ps) A B y k h f =
      let both = or_parts (stands p y.0) (stands_in_some ps y.0) h in
      (few_more p A B y k both.0 f.0, all_few_more ps A B y k both.1 f.1)

  cases_few_more : (cs : Cases) (A B : List (Name × Kind)) (y : Name) (k : Kind) → stands_in_cases cs y.0 ≡ false → CasesFew (A ++ B) cs → CasesFew (A ++ (y, k) ∷ B) cs
  cases_few_more no_case A B y k h f = tt
  cases_few_more (and_case b p cs) A B y k h f =
      let both = or_parts (names b y.0 || stands p y.0) (stands_in_cases cs y.0) h in
      (few_more p A B y k (or_parts (names b y.0) (stands p y.0) both.0).1 f.0, cases_few_more cs A B y k both.1 f.1)

  branches_few_more : (gs : Branches) (A B : List (Name × Kind)) (y : Name) (k : Kind) → stands_in_branches gs y.0 ≡ false → BranchesFew (A ++ B) gs
      → BranchesFew (A ++ (y, k) ∷ B) gs
  branches_few_more no_branch A B y k h f = tt
  branches_few_more (and_branch b w p gs) A B y k h f =
      let both = or_parts ((names b y.0 || stands_in_waiting w y.0) || stands p y.0) (stands_in_branches gs y.0) h in
      (few_more p A B y k (or_parts (names b y.0 || stands_in_waiting w y.0) (stands p y.0) both.0).1 f.0, branches_few_more gs A B y k both.1 f.1)

-- one more name at the end of a scope
pub few_behind : (S : List (Name × Kind)) (p : Tree) (t : Name × Kind) → stands p t.0.0 ≡ false → IsFew S p → IsFew (S ++ t ∷ []) p
few_behind S p t h f = few_more p S [] t.0 t.1 h (subst (λ U. IsFew U p) (sym (append-nil S)) f)

pub few_with : (S I : List (Name × Kind)) (p : Tree) → AllByRecursion (λ (t : Name × Kind). stands p t.0.0 ≡ false) I → IsFew S p → IsFew (S ++ I) p
few_with S [] p all f = subst (λ U. IsFew U p) (sym (append-nil S)) f
few_with S (t ∷ I) p all f =
    subst (λ U. IsFew U p) (append_assoc S (t ∷ []) I) (few_with (S ++ t ∷ []) I p all.1 (few_behind S p t all.0 f))

-- ---- declared

pub away : (h : Header) (p : Tree) → AllByRecursion (λ (t : Name × Kind). stands p t.0.0 ≡ false) h.inputs → IsAway h p
away h p all = record { declared = each h.inputs all; spared = spared h.inputs all }
  where
    each : (I : List (Name × Kind)) → AllByRecursion (λ (t : Name × Kind). stands p t.0.0 ≡ false) I
        → AllByRecursion (λ (t : Name × Kind). has_declared p t.0.0 ≡ false) I
    each [] a = tt
    each (t ∷ I) a = (nowhere_declared p t.0.0 a.0, each I a.1)

    spared : (I : List (Name × Kind)) → AllByRecursion (λ (t : Name × Kind). stands p t.0.0 ≡ false) I → (x : ℕ) → is_in (variables I) x ≡ true → free p x ≡ false
    spared [] a x h = false_not_true h
    spared ((name, Chan w d) ∷ I) a x h = spared I a.1 x h
    spared ((name, Var w) ∷ I) a x h =
        elim (or_cases (x == name.0) (is_in (variables I) x) h) [
          | inl i ↦ subst (λ z. free p z ≡ false) (sym (eqb-true x name.0 i)) (nowhere_free p name.0 a.0)
          | inr i ↦ spared I a.1 x i
        ]
