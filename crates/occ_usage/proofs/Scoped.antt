-- Environments of lists, and the rules of types in other words.
use Rattle.std.proofs.Common.{◌≡◌, ℕ, ◌+◌, ◌<◌, ◌≤◌, ◌==◌, Bool, true, false, true≢false, IsTrue, ◌↔◌, cond, not, ◌&&◌, ◌||◌, Option, Some, None, is_none, is_some, List, [], ◌∷◌, ◌++◌, length, get_or, take, drop, refl, sym, ap, ◌∙◌, arith}
use mathlib.Core.Bool.{beq}
use mathlib.Core.Path.{fun_ext}
use Rattle.std.specs.List.{list_any}
use Rattle.std.specs.Map.{lookup}
use Rattle.indexmap.specs.IndexMap.{insert_entry}
use Rattle.std.proofs.lemmas.Bool.{eqb-true, and_parts}
use Rattle.std.proofs.lemmas.List.{at_drop_more, drop_all, drop_more, take-append-le, length_push}
use Rattle.occ_syntax.specs.occ_base.declared.names.Name.{Name}
use Rattle.occ_syntax.specs.declared.expr.Expr.{Expr}
use Rattle.occ_syntax.specs.declared.scope.Kind.{Kind}
use Rattle.occ_syntax.specs.declared.scope.Kind.TheVariants.{Var, Chan}
use Rattle.occ_syntax.specs.declared.scope.Program.{Program}
use Rattle.occ_syntax.specs.Declarations.{declaring}
use Rattle.occ_syntax.specs.Scopes.{Environment, environment, with_name, variable_width}
use Rattle.occ_syntax.specs.Tree.{Tree, Exp}
use Rattle.occ_syntax.specs.Types.{agree, type_of, is_width, width_of_kind, can_declare, types_kept, is_pair, pairs_kept, scope_kept}
use Rattle.occ_syntax.specs.View.{numbers, exp, exps, tree}
use Rattle.occ_names.specs.Once.{has, with_one, is_distinct, same_number}
use Rattle.occ_names.specs.Mentions.{called}
use Rattle.occ_names.proofs.Listed.{numbers_tested}
use Rattle.occ_usage.specs.declared.fault.UsageFault.{UsageFault}
use Rattle.occ_usage.specs.Accepted.{KeepsRules, usage_faults}
use Rattle.occ_usage.specs.Faults.{first, names_of}
use Rattle.occ_usage.specs.Typed.{agreeing_pairs, widths_kept, unmarked}
use Rattle.occ_usage.proofs.Law.{covers_scope, no_fault_keeps, keeps_no_fault, first_none}
use Rattle.occ_usage.proofs.Shared.{at4, beq_tells, has_with_one}

pub lookup_environment : (es : List (Name × Kind)) (x : ℕ) → lookup (λ (k : Name). x == k.0) es ≡ environment es x
lookup_environment [] x = refl
lookup_environment (e ∷ es) x = ap (λ o. cond (x == e.0.0) (Some e.1) o) (lookup_environment es x)

-- ---- two lists in turn: what the first says, else what the second says

abbrev else_from : Option Kind → Option Kind → Option Kind
else_from (Some k) o = Some k
else_from None o = o

else_cond : (b : Bool) (k : Kind) (o p : Option Kind) → cond b (Some k) (else_from o p) ≡ else_from (cond b (Some k) o) p
else_cond true k o p = refl
else_cond false k o p = refl

environment-append : (es fs : List (Name × Kind)) (y : ℕ) → environment (es ++ fs) y ≡ else_from (environment es y) (environment fs y)
environment-append [] fs y = refl
environment-append (e ∷ es) fs y =
    ap (λ o. cond (y == e.0.0) (Some e.1) o) (environment-append es fs y) ∙ else_cond (y == e.0.0) e.1 (environment es y) (environment fs y)

else_none : (o : Option Kind) → else_from o None ≡ o
else_none (Some k) = refl
else_none None = refl

pushed_at : (b : Bool) (es : List (Name × Kind)) (x y : ℕ) (k : Kind) → (y == x) ≡ b → environment es x ≡ None
    → else_from (environment es y) (cond b (Some k) None) ≡ cond b (Some k) (environment es y)
pushed_at true es x y k e h = ap (λ o. else_from o (Some k)) (ap (environment es) (eqb-true y x e) ∙ h)
pushed_at false es x y k e h = else_none (environment es y)

pub environment-push : (es : List (Name × Kind)) (n : Name) (k : Kind) → environment es n.0 ≡ None → environment (es ++ (n, k) ∷ []) ≡ with_name (environment es) n.0 k
environment-push es n k h = fun_ext (λ y. environment-append es ((n, k) ∷ []) y ∙ pushed_at (y == n.0) es n.0 y k refl h)

skipped_at : (b : Bool) (es : List (Name × Kind)) (x y : ℕ) (k j : Kind) (o : Option Kind) → (y == x) ≡ b → environment es x ≡ Some j
    → else_from (environment es y) o ≡ else_from (environment es y) (cond b (Some k) o)
skipped_at true es x y k j o e h =
    let there : environment es y ≡ Some j = ap (environment es) (eqb-true y x e) ∙ h in
    ap (λ p. else_from p o) there ∙ sym (ap (λ p. else_from p (Some k)) there)
skipped_at false es x y k j o e h = refl

pub environment-skip : (es rest : List (Name × Kind)) (n : Name) (k j : Kind) → environment es n.0 ≡ Some j → environment (es ++ rest) ≡ environment (es ++ (n, k) ∷ rest)
environment-skip es rest n k j h =
    fun_ext (λ y. environment-append es rest y ∙ skipped_at (y == n.0) es n.0 y k j (environment rest y) refl h ∙ sym (environment-append es ((n, k) ∷ rest) y))

-- ---- declarations

types_kept-declaring : (x : ℕ) (k : Kind) (p : Tree) (Γ : Environment) → types_kept (declaring x k p) Γ ≡ (can_declare Γ x (width_of_kind k) && types_kept p (with_name Γ x (unmarked k)))
types_kept-declaring x (Var w) p Γ = refl
types_kept-declaring x (Chan w d) p Γ = refl

none_tells : (o : Option Kind) → is_none o ≡ true → o ≡ None
none_tells (Some k) e = absurd (true≢false (sym e))
none_tells None e = refl

pub absent : (Γ : Environment) (x : ℕ) (w v : _) → v ≡ w → can_declare Γ x v ≡ true → Γ x ≡ None
absent Γ x w v e h = none_tells (Γ x) (and_parts (is_none (Γ x)) (is_width v) h).0

pub typed_further : (p q : Tree) (n : Name) (k j : Kind) (es fs : List (Name × Kind)) (w : _) (all : Bool) → p ≡ declaring n.0 k q → j ≡ unmarked k → w ≡ width_of_kind k
    → can_declare (environment es) n.0 w ≡ true → fs ≡ es ++ (n, j) ∷ [] → types_kept p (environment es) ≡ all → types_kept q (environment fs) ≡ all
typed_further p q n k j es fs w all e f g t h r =
    let none : environment es n.0 ≡ None = none_tells (environment es n.0) (and_parts (is_none (environment es n.0)) (is_width w) t).0 in
    let may : can_declare (environment es) n.0 (width_of_kind k) ≡ true = ap (λ v. can_declare (environment es) n.0 v) (sym g) ∙ t in
    ap (λ gs. types_kept q (environment gs)) h ∙ ap (types_kept q) (environment-push es n j none) ∙ ap (λ i. types_kept q (with_name (environment es) n.0 i)) f
    ∙ sym (ap (λ s. types_kept s (environment es)) e ∙ types_kept-declaring n.0 k q (environment es) ∙ ap (λ b. b && types_kept q (with_name (environment es) n.0 (unmarked k))) may) ∙ r

-- ---- scopes and assignments

four_so : (a n P D : Bool) → ((a && n) && (P && D)) ≡ ((a && P) && (n && D))
four_so a n P D = beq_tells _ _ (at4 (λ w x y z. beq ((w && x) && (y && z)) ((w && y) && (x && z))) refl a n P D)

turned_so : (a n P D : Bool) → ((a && n) && (P && D)) ≡ ((n && P) && (a && D))
turned_so a n P D = beq_tells _ _ (at4 (λ w x y z. beq ((w && x) && (y && z)) ((x && y) && (w && z))) refl a n P D)

absent_at : (b : Bool) (k : Kind) (o : Option Kind) (h : Bool) → is_none o ≡ not h → is_none (cond b (Some k) o) ≡ not (b || h)
absent_at true k o h e = refl
absent_at false k o h e = e

absent_is : (es : List (Name × Kind)) (x : ℕ) → is_none (environment es x) ≡ not (has same_number (names_of es) x)
absent_is [] x = refl
absent_is (e ∷ es) x = absent_at (x == e.0.0) e.1 (environment es x) (has same_number (names_of es) x) (absent_is es x)

pub scope_is : (es : List (Name × Kind)) → scope_kept es ≡ (widths_kept es && is_distinct same_number (names_of es))
scope_is [] = refl
scope_is (e ∷ es) =
    ap (λ b. (b && is_width (width_of_kind e.1)) && scope_kept es) (absent_is es e.0.0)
    ∙ ap (λ b. (not (has same_number (names_of es) e.0.0) && is_width (width_of_kind e.1)) && b) (scope_is es)
    ∙ turned_so (not (has same_number (names_of es) e.0.0)) (is_width (width_of_kind e.1)) (widths_kept es) (is_distinct same_number (names_of es))

pub pairs_are : (Γ : Environment) (xs : List ℕ) (es : List Exp) → pairs_kept Γ xs es ≡ (agreeing_pairs Γ xs es && is_distinct same_number xs)
pairs_are Γ [] [] = refl
pairs_are Γ [] (e ∷ es) = refl
pairs_are Γ (x ∷ xs) [] = refl
pairs_are Γ (x ∷ xs) (e ∷ es) =
    ap (λ b. (agree (variable_width Γ x) (type_of Γ e) && not (list_any (λ y. x == y) xs)) && b) (pairs_are Γ xs es)
    ∙ four_so (agree (variable_width Γ x) (type_of Γ e)) (not (has same_number xs x)) (agreeing_pairs Γ xs es) (is_distinct same_number xs)

second_false : (b : Bool) → (b && false) ≡ false
second_false true = refl
second_false false = refl

-- an assignment by its two tests
pub unkept : (Γ : Environment) (xs : List ℕ) (es : List Exp) → false ≡ agreeing_pairs Γ xs es → false ≡ (is_pair xs && pairs_kept Γ xs es)
unkept Γ xs es e =
    sym (ap (λ b. is_pair xs && b) (pairs_are Γ xs es ∙ ap (λ b. b && is_distinct same_number xs) (sym e)) ∙ second_false (is_pair xs))

pub once_kept : (Γ : Environment) (xs : List ℕ) (es : List Exp) → true ≡ is_pair xs → true ≡ agreeing_pairs Γ xs es → is_distinct same_number xs ≡ (is_pair xs && pairs_kept Γ xs es)
once_kept Γ xs es p e =
    sym (ap (λ b. b && pairs_kept Γ xs es) (sym p) ∙ pairs_are Γ xs es ∙ ap (λ b. b && is_distinct same_number xs) (sym e))

pub uneven : (Γ : Environment) (xs : List Name) (es : List Expr) → (length xs ≡ length es → ⊥) → agreeing_pairs Γ (numbers xs) (exps es) ≡ false
uneven Γ [] [] h = absurd (h refl)
uneven Γ [] (e ∷ es) h = refl
uneven Γ (x ∷ xs) [] h = refl
uneven Γ (x ∷ xs) (e ∷ es) h =
    ap (λ b. agree (variable_width Γ x.0) (type_of Γ (exp e)) && b) (uneven Γ xs es (λ f. h (omega arith))) ∙ second_false (agree (variable_width Γ x.0) (type_of Γ (exp e)))

next_pair : (Γ : Environment) (xs : List Name) (es : List Expr) (i : ℕ) (e : Expr) → i < length xs → i < length es → e ≡ get_or es i e
    → agreeing_pairs Γ (numbers (drop i xs)) (exps (drop i es))
    ≡ (agree (variable_width Γ (get_or xs i (called 0)).0) (type_of Γ (exp e)) && agreeing_pairs Γ (numbers (drop (i + 1) xs)) (exps (drop (i + 1) es)))
next_pair Γ xs es i e h k f =
    ap (λ ys. agreeing_pairs Γ (numbers ys) (exps (drop i es))) (drop_more xs i (called 0) h)
    ∙ ap (λ ds. agreeing_pairs Γ (numbers (get_or xs i (called 0) ∷ drop (i + 1) xs)) (exps ds)) (drop_more es i e k)
    ∙ ap (λ d. agree (variable_width Γ (get_or xs i (called 0)).0) (type_of Γ (exp d)) && agreeing_pairs Γ (numbers (drop (i + 1) xs)) (exps (drop (i + 1) es))) (sym f)

pub pair_agrees : (Γ : Environment) (xs : List Name) (es : List Expr) (i : ℕ) (e : Expr) (b all : Bool) → i < length xs → length xs ≡ length es → e ≡ get_or es i e
    → agree (variable_width Γ (get_or xs i (called 0)).0) (type_of Γ (exp e)) ≡ b
    → agreeing_pairs Γ (numbers (drop i xs)) (exps (drop i es)) ≡ all → (b && agreeing_pairs Γ (numbers (drop (i + 1) xs)) (exps (drop (i + 1) es))) ≡ all
pair_agrees Γ xs es i e b all h k f g r =
    ap (λ c. c && agreeing_pairs Γ (numbers (drop (i + 1) xs)) (exps (drop (i + 1) es))) (sym g) ∙ sym (next_pair Γ xs es i e h (omega arith) f) ∙ r

pub pairs_end : (Γ : Environment) (xs : List Name) (es : List Expr) (i : ℕ) (all : Bool) → length xs ≤ i → length xs ≡ length es
    → agreeing_pairs Γ (numbers (drop i xs)) (exps (drop i es)) ≡ all → true ≡ all
pairs_end Γ xs es i all h k r =
    sym (ap (λ ys. agreeing_pairs Γ (numbers ys) (exps (drop i es))) (drop_all i xs h) ∙ ap (λ ds. agreeing_pairs Γ [] (exps ds)) (drop_all i es (omega arith))) ∙ r

-- ---- names that stand once

abbrev pub fresh : List ℕ → List ℕ → Bool
fresh seen [] = true
fresh seen (x ∷ xs) = not (has same_number seen x) && fresh (with_one same_number seen x) xs

abbrev none_in : List ℕ → List ℕ → Bool
none_in seen [] = true
none_in seen (x ∷ xs) = not (has same_number seen x) && none_in seen xs

more_so : (hs s ni h : Bool) → (not (hs || s) && (ni && not h)) ≡ ((not hs && ni) && not (s || h))
more_so hs s ni h = beq_tells _ _ (at4 (λ w x y z. beq (not (w || x) && (y && not z)) ((not w && y) && not (x || z))) refl hs s ni h)

none_in_more : (seen xs : List ℕ) (x : ℕ) → none_in (with_one same_number seen x) xs ≡ (none_in seen xs && not (has same_number xs x))
none_in_more seen [] x = refl
none_in_more seen (y ∷ ys) x =
    ap (λ b. not b && none_in (with_one same_number seen x) ys) (has_with_one same_number numbers_tested seen x y)
    ∙ ap (λ b. not (has same_number seen y || (x == y)) && b) (none_in_more seen ys x)
    ∙ more_so (has same_number seen y) (x == y) (none_in seen ys) (has same_number ys x)

fresh_so : (n ni h D : Bool) → (n && ((ni && h) && D)) ≡ ((n && ni) && (h && D))
fresh_so n ni h D = beq_tells _ _ (at4 (λ w x y z. beq (w && ((x && y) && z)) ((w && x) && (y && z))) refl n ni h D)

fresh_is : (seen xs : List ℕ) → fresh seen xs ≡ (none_in seen xs && is_distinct same_number xs)
fresh_is seen [] = refl
fresh_is seen (x ∷ xs) =
    ap (λ b. not (has same_number seen x) && b) (fresh_is (with_one same_number seen x) xs)
    ∙ ap (λ b. not (has same_number seen x) && (b && is_distinct same_number xs)) (none_in_more seen xs x)
    ∙ fresh_so (not (has same_number seen x)) (none_in seen xs) (not (has same_number xs x)) (is_distinct same_number xs)

none_in_none : (xs : List ℕ) → none_in [] xs ≡ true
none_in_none [] = refl
none_in_none (x ∷ xs) = none_in_none xs

pub fresh_all : (xs : List ℕ) → fresh [] xs ≡ is_distinct same_number xs
fresh_all xs = fresh_is [] xs ∙ ap (λ b. b && is_distinct same_number xs) (none_in_none xs)

pub fresh_next : (names : List Name) (i : ℕ) (seen : List ℕ) → i < length names
    → fresh seen (numbers (drop i names)) ≡ (not (has same_number seen (get_or names i (called 0)).0) && fresh (with_one same_number seen (get_or names i (called 0)).0) (numbers (drop (i + 1) names)))
fresh_next names i seen h = at_drop_more (λ ns. fresh seen (numbers ns)) names i (called 0) h

pub fresh_step : (names : List Name) (i : ℕ) (seen more : List ℕ) (b all : Bool) → i < length names → b ≡ has same_number seen (get_or names i (called 0)).0 → b ≡ false
    → more ≡ with_one same_number seen (get_or names i (called 0)).0 → fresh seen (numbers (drop i names)) ≡ all → fresh more (numbers (drop (i + 1) names)) ≡ all
fresh_step names i seen more b all h e f g r =
    ap (λ s. fresh s (numbers (drop (i + 1) names))) g
    ∙ sym (fresh_next names i seen h ∙ ap (λ k. not k && fresh (with_one same_number seen (get_or names i (called 0)).0) (numbers (drop (i + 1) names))) (sym e ∙ f)) ∙ r

pub stale : (names : List Name) (i : ℕ) (seen : List ℕ) (b all : Bool) → i < length names → b ≡ has same_number seen (get_or names i (called 0)).0 → b ≡ true
    → fresh seen (numbers (drop i names)) ≡ all → false ≡ all
stale names i seen b all h e f r =
    sym (fresh_next names i seen h ∙ ap (λ k. not k && fresh (with_one same_number seen (get_or names i (called 0)).0) (numbers (drop (i + 1) names))) (sym e ∙ f)) ∙ r

-- ---- new entries

new_at : (b : Bool) (n : Name) (v k : Kind) (o : Option Kind) (m : Name) (es ins : List (Name × Kind)) → cond b (Some k) o ≡ None → (o ≡ None → ins ≡ es ++ (n, v) ∷ [])
    → cond b ((m, v) ∷ es) ((m, k) ∷ ins) ≡ (m, k) ∷ (es ++ (n, v) ∷ [])
new_at true n v k o m es ins h f = cc
new_at false n v k o m es ins h f = ap (λ zs. (m, k) ∷ zs) (f h)

pub insert_new : (es : List (Name × Kind)) (n : Name) (k : Kind) → environment es n.0 ≡ None → insert_entry (λ (a b : Name). a.0 == b.0) es n k ≡ es ++ (n, k) ∷ []
insert_new [] n k h = refl
insert_new (e ∷ es) n k h = new_at (n.0 == e.0.0) n k e.1 (environment es n.0) e.0 es (insert_entry (λ (a b : Name). a.0 == b.0) es n k) h (insert_new es n k)

-- ---- whole programs

usage_told : (program : Program) (fs : List UsageFault) → fs ≡ usage_faults program → is_none (first fs) ≡ true → first fs ≡ None
usage_told program [] e h = refl
usage_told program (f ∷ fs) e h = absurd (true≢false (sym h))

pub usage_tells : (program : Program) (found : Option UsageFault) (b : Bool) → scope_kept program.params ≡ true → types_kept (tree program.body) (environment program.params) ≡ true
    → found ≡ first (usage_faults program) → b ≡ is_none found → IsTrue b ↔ KeepsRules program
usage_tells program found b s t e f = (
  λ h. record {
    scope = s;
    keeps = record {
      types = t;
      usage = no_fault_keeps (tree program.body) 0 (names_of program.params) (environment program.params) t (covers_scope program.params)
          (first_none (usage_faults program) (usage_told program (usage_faults program) refl (sym (f ∙ ap is_none e) ∙ h)));
    };
  },
  λ r. f ∙ ap is_none (e ∙ ap first (keeps_no_fault (tree program.body) 0 (names_of program.params) r.keeps.usage)),
)

pub kinds_kept : (b : ℕ) (ks js zs : List (Name × Kind)) (d : Name × Kind) → b ≤ length ks → js ≡ ks ++ d ∷ [] → take b ks ≡ zs → take b js ≡ zs
kinds_kept b ks js zs d h e g = ap (take b) e ∙ take-append-le b ks (d ∷ []) h ∙ g

pub kinds_longer : (b : ℕ) (ks js : List (Name × Kind)) (d : Name × Kind) → b ≤ length ks → js ≡ ks ++ d ∷ [] → b ≤ length js
kinds_longer b ks js d h e = omega (arith, ap length e, length_push ks d)

pub agree_so : (r : Bool) (a b c d : _) → r ≡ agree a b → a ≡ c → b ≡ d → agree c d ≡ r
agree_so r a b c d e f g = sym (e ∙ ap (λ o. agree o b) f ∙ ap (λ o. agree c o) g)

pub none_so : (found : Option UsageFault) (b : Bool) → is_some found ≡ not b → b ≡ is_none found
none_so (Some f) true e = absurd (true≢false e)
none_so (Some f) false e = refl
none_so None true e = refl
none_so None false e = absurd (true≢false (sym e))
