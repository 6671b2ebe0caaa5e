-- Names exchanged one pair after another: a part does under the exchanged names what it did, and each map that takes no two names to
-- one is such a row of exchanges below any number.
use Rattle.std.proofs.Common.{◌≡◌, ◌↔◌, if◌then◌else◌, ℕ, zero, suc, ◌<◌, ◌≤◌, ◌==◌, List, [], ◌∷◌, refl, sym, ap, ap₂, subst, ◌∙◌, arith, inl, inr, ⊎_elim}
use Rattle.std.proofs.lemmas.Bool.{cases_lt, eq-eqb, ne_eqb}
use Rattle.std.proofs.lemmas.Bool.Decides.{eqb_tells}
use Rattle.occ_renamed.proofs.from_meaning.Exchanged.{exchanged}
use Rattle.occ_renamed.proofs.from_meaning.Facts.{at_itself, false_not_true, if_false, if_true}
use Rattle.occ_renamed.proofs.from_meaning.Redeclared.{itself_replaced}
use Rattle.occ_renamed.proofs.from_meaning.RenamedTrees.{trees_agree}
use Rattle.occ_renamed.proofs.from_meaning.Renaming.{exchange_is}
use Rattle.occ_renamed.specs.occ_meaning.Rename.{all_renamed, branches_renamed, cases_renamed, exchanging, renamed, renamed_event, renamed_exp, renamed_exps, renamed_names, renamed_outcome, renamed_trace, renamed_waiting, replacing, under}
use Rattle.occ_renamed.specs.Standing.{IsOneForOne}
use Rattle.occ_nform.specs.occ_syntax.Meaning.{Outcome, ended, meaning, refusing}
use Rattle.occ_nform.specs.occ_syntax.Scopes.{Environment, Trace, Values}
use Rattle.occ_nform.specs.occ_syntax.Tree.{Branches, Cases, Exp, Tree, Trees, Waiting, alt, and_branch, and_case, and_tree, assign, complement, connect, declare, input, negation, no_branch, no_case, no_tree, numeral, operation, output, par, ready, receive, select, send, seq, skip, stop, truth, variable}

-- ---- two maps one after the other

module _ (f g : ℕ → ℕ) where
  abbrev both : ℕ → ℕ
  both x = g (f x)

  exp_twice : (e : Exp) → renamed_exp g (renamed_exp f e) ≡ renamed_exp both e
  exp_twice (variable x) = refl
  exp_twice (numeral bits value) = refl
  exp_twice (truth b) = refl
  exp_twice (negation e) = ap negation (exp_twice e)
  exp_twice (complement e) = ap complement (exp_twice e)
  exp_twice (operation op left right) = ap₂ (operation op) (exp_twice left) (exp_twice right)

  names_twice : (xs : List ℕ) → renamed_names g (renamed_names f xs) ≡ renamed_names both xs
  names_twice [] = refl
  names_twice (x ∷ xs) = ap (λ ys. g (f x) ∷ ys) (names_twice xs)

  exps_twice : (es : List Exp) → renamed_exps g (renamed_exps f es) ≡ renamed_exps both es
  exps_twice [] = refl
  exps_twice (e ∷ es) = ap₂ ◌∷◌ (exp_twice e) (exps_twice es)

  waiting_twice : (w : Waiting) → renamed_waiting g (renamed_waiting f w) ≡ renamed_waiting both w
  waiting_twice ready = refl
  waiting_twice (input c x) = refl
  waiting_twice (output c e) = ap (output (g (f c))) (exp_twice e)

  mutual
    pub tree_twice : (p : Tree) → renamed (renamed p f) g ≡ renamed p both
    tree_twice skip = refl
    tree_twice stop = refl
    tree_twice (assign xs es) = ap₂ assign (names_twice xs) (exps_twice es)
    tree_twice (receive c x) = refl
    tree_twice (send c e) = ap (send (g (f c))) (exp_twice e)
    tree_twice (seq ps) = ap seq (trees_twice ps)
    tree_twice (par ps) = ap par (trees_twice ps)
    tree_twice (select cs) = ap select (cases_twice cs)
    tree_twice (alt bs) = ap alt (branches_twice bs)
    tree_twice (declare x w p) = ap (declare (g (f x)) w) (tree_twice p)
    tree_twice (connect c w p) = ap (connect (g (f c)) w) (tree_twice p)

    trees_twice : (ps : Trees) → all_renamed (all_renamed ps f) g ≡ all_renamed ps both
    trees_twice no_tree = refl
    trees_twice (and_tree p ps) = ap₂ and_tree (tree_twice p) (trees_twice ps)

    cases_twice : (cs : Cases) → cases_renamed (cases_renamed cs f) g ≡ cases_renamed cs both
    cases_twice no_case = refl
    cases_twice (and_case e p cs) =
        let c = exp_twice e in
        let q = tree_twice p in
        let ds = cases_twice cs in
        λ i. and_case (c i) (q i) (ds i)

    branches_twice : (bs : Branches) → branches_renamed (branches_renamed bs f) g ≡ branches_renamed bs both
    branches_twice no_branch = refl
    branches_twice (and_branch e w p bs) =
        let c = exp_twice e in
        let v = waiting_twice w in
        let q = tree_twice p in
        let ds = branches_twice bs in
        λ i. and_branch (c i) (v i) (q i) (ds i)

  trace_twice : (t : Trace) → renamed_trace g (renamed_trace f t) ≡ renamed_trace both t
  trace_twice [] = refl
  trace_twice (e ∷ t) = ap (λ r. renamed_event both e ∷ r) (trace_twice t)

-- ---- rows of exchanges

abbrev pub Exchanges : Type 0
Exchanges = List (ℕ × ℕ)

-- the last pair stands first
abbrev pub applied : Exchanges → ℕ → ℕ
applied [] x = x
applied (pair ∷ pairs) x = exchanging pair.0 pair.1 (applied pairs x)

abbrev pub unapplied : Exchanges → ℕ → ℕ
unapplied [] x = x
unapplied (pair ∷ pairs) x = unapplied pairs (exchanging pair.0 pair.1 x)

pub there_and_back : (pairs : Exchanges) (x : ℕ) → unapplied pairs (applied pairs x) ≡ x
there_and_back [] x = refl
there_and_back (pair ∷ pairs) x = ap (unapplied pairs) (exchange_is pair.0 pair.1 (applied pairs x)) ∙ there_and_back pairs x

pub back_and_there : (pairs : Exchanges) (x : ℕ) → applied pairs (unapplied pairs x) ≡ x
back_and_there [] x = refl
back_and_there (pair ∷ pairs) x =
    ap (exchanging pair.0 pair.1) (back_and_there pairs (exchanging pair.0 pair.1 x)) ∙ exchange_is pair.0 pair.1 x

pub exchanges_one : (pairs : Exchanges) → IsOneForOne (applied pairs)
exchanges_one pairs x y = elim (eqb_tells x y) [
  | inl k ↦ eq-eqb (applied pairs x) (applied pairs y) (ap (applied pairs) k.1) ∙ sym k.0
  | inr k ↦ ne_eqb (applied pairs x) (applied pairs y) (λ e. k.1 (sym (there_and_back pairs x) ∙ (ap (unapplied pairs) e ∙ there_and_back pairs y))) ∙ sym k.0
]

-- ---- what a part does

abbrev pub outcome_under : Exchanges → Outcome → Outcome
outcome_under pairs (ended s) = ended (under (unapplied pairs) s)
outcome_under pairs (refusing X) = refusing (λ e. X (renamed_event (unapplied pairs) e))

abbrev pub DoesSo : Exchanges → Environment → Tree → Values → Trace → Outcome → Type 0
DoesSo pairs Γ p s t o =
    (meaning (renamed p (applied pairs))).does (under (unapplied pairs) Γ) (under (unapplied pairs) s) (renamed_trace (applied pairs) t) (outcome_under pairs o)

pub unchanged : (p : Tree) → renamed p (λ x. x) ≡ p
unchanged p = trees_agree p (λ x. x) (replacing 0 0) (λ x k. sym (same x)) ∙ itself_replaced 0 p
  where
    same : (x : ℕ) → replacing 0 0 x ≡ x
    same x = elim (eqb_tells x 0) [ inl k ↦ if_true (x == 0) 0 x k.0 ∙ sym k.1 | inr k ↦ if_false (x == 0) 0 x k.0 ]

trace_unchanged : (t : Trace) → renamed_trace (λ x. x) t ≡ t
trace_unchanged [] = refl
trace_unchanged (e ∷ t) = ap (λ r. e ∷ r) (trace_unchanged t)

outcome_unchanged : (o : Outcome) → outcome_under [] o ≡ o
outcome_unchanged (ended s) = refl
outcome_unchanged (refusing X) = refl

outcome_next : (a b : ℕ) (pairs : Exchanges) (o : Outcome) → renamed_outcome (exchanging a b) (outcome_under pairs o) ≡ outcome_under ((a, b) ∷ pairs) o
outcome_next a b pairs (ended s) = refl
outcome_next a b pairs (refusing X) = refl

pub carried : (pairs : Exchanges) (Γ : Environment) (p : Tree) (s : Values) (t : Trace) (o : Outcome) → (meaning p).does Γ s t o ↔ DoesSo pairs Γ p s t o
carried [] Γ p s t o =
    let P : Tree → Type 0 = λ q. (meaning p).does Γ s t o ↔ (meaning q).does Γ s (renamed_trace (λ x. x) t) (outcome_under [] o) in
    let Q : Trace → Type 0 = λ r. (meaning p).does Γ s t o ↔ (meaning p).does Γ s r (outcome_under [] o) in
    let R : Outcome → Type 0 = λ r. (meaning p).does Γ s t o ↔ (meaning p).does Γ s t r in
    subst P (sym (unchanged p)) (subst Q (sym (trace_unchanged t)) (subst R (sym (outcome_unchanged o)) (λ d. d, λ d. d)))
carried (pair ∷ pairs) Γ p s t o =
    let a = pair.0 in
    let b = pair.1 in
    let ex = exchanging a b in
    let g = applied pairs in
    let u = unapplied pairs in
    let first = carried pairs Γ p s t o in
    let second = exchanged (renamed p g) a b (under u Γ) (under u s) (renamed_trace g t) (outcome_under pairs o) in
    let P : Tree → Type 0 = λ q. (meaning p).does Γ s t o
    ↔ (meaning q).does (under ex (under u Γ)) (under ex (under u s)) (renamed_trace ex (renamed_trace g t)) (renamed_outcome ex (outcome_under pairs o)) in
    let Q : Trace → Type 0 = λ r. (meaning p).does Γ s t o
    ↔ (meaning (renamed p (applied (pair ∷ pairs)))).does (under ex (under u Γ)) (under ex (under u s)) r (renamed_outcome ex (outcome_under pairs o)) in
    let R : Outcome → Type 0 = λ r. (meaning p).does Γ s t o
    ↔ (meaning (renamed p (applied (pair ∷ pairs)))).does (under ex (under u Γ)) (under ex (under u s)) (renamed_trace (applied (pair ∷ pairs)) t) r in
    subst R (outcome_next a b pairs o) (subst Q (trace_twice g ex t) (subst P (tree_twice g ex p) (λ d. second.0 (first.0 d), λ d. first.1 (second.1 d))))

-- ---- an exchange of two names

-- a name that is neither of the two stays
pub left_alone : (c d y : ℕ) → (y ≡ c → ⊥) → (y ≡ d → ⊥) → exchanging c d y ≡ y
left_alone c d y h k = if_false (y == c) d (if y == d then c else y) (ne_eqb y c h) ∙ if_false (y == d) c y (ne_eqb y d k)

pub to_second : (c d : ℕ) → exchanging c d c ≡ d
to_second c d = if_true (c == c) d (if c == d then c else c) (at_itself c)

-- ---- a row of exchanges that is a given map below a number

pub record IsSoBelow (f : ℕ → ℕ) (n : ℕ) : Type 0 where
  pub pairs : Exchanges
  pub same : (x : ℕ) → x < n → applied pairs x ≡ f x

module _ (f : ℕ → ℕ) (one : IsOneForOne f) where
  differ : (x y : ℕ) → (x ≡ y → ⊥) → f x ≡ f y → ⊥
  differ x y h e = elim (eqb_tells x y) [ inl k ↦ h k.1 | inr k ↦ false_not_true (sym k.0 ∙ (sym (one x y) ∙ eq-eqb (f x) (f y) e)) ]

  pub so_below : (n : ℕ) → IsSoBelow f n
  so_below zero = record { pairs = []; same = λ x h. absurd (omega (arith, h)) }
  so_below (suc n) =
      let before = so_below n in
      let g = applied before.pairs in
      let a = g n in
      let b = f n in
      record {
        pairs = (a, b) ∷ before.pairs;
        same = λ x h. ⊎_elim
            (λ (l : x < n).
            let away : x ≡ n → ⊥ = λ e. omega (arith, e, l) in
            let first : g x ≡ a → ⊥ = λ e. away (sym (there_and_back before.pairs x) ∙ (ap (unapplied before.pairs) e ∙ there_and_back before.pairs n)) in
            let second : g x ≡ b → ⊥ = λ e. differ x n away (sym (before.same x l) ∙ e) in
            left_alone a b (g x) first second ∙ before.same x l)
            (λ (l : n ≤ x).
            let last : x ≡ n = omega (arith, l, h) in
            ap (λ y. exchanging a b (g y)) last ∙ (to_second a b ∙ ap f (sym last)))
            (cases_lt x n);
      }
