-- A number that no law has: nothing holds by it.
use Rattle.std.proofs.Common.{◌≡◌, ◌==◌, ◌<◌, ◌≤◌, zero, suc, ℕ, Bool, false, true, List, Option, None, IsSome, arith, nat_le, refl, subst}
use Rattle.std.specs.Prelude.{MatchBool}
use Rattle.std.proofs.lemmas.Bool.{eqb-true, false≢true, leb-false, leb-true, lt-leb, ne_eqb}
use Rattle.occ_syntax.specs.occ_base.declared.names.Name.{Name}
use Rattle.occ_law_alt.specs.occ_law.RuleTable.{DIRECT_SIDES, SIDES, has_direct}
use Rattle.occ_law_alt.specs.occ_law.Scope.{VarAlt}
use Rattle.occ_law_alt.specs.occ_law.declared.variants.Law.{Law}
use Rattle.occ_syntax.specs.Tree.{Tree}
use Rattle.occ_syntax.specs.declared.scope.Kind.{Kind}

differs : (n k : ℕ) → k < n → (n == k) ≡ false
differs n k h = ne_eqb n k (λ e. omega arith)

-- a number behind the last law
none_behind : (n : ℕ) (S : List (Name × Kind)) (place : List ℕ) (l r : Tree) → 63 < n → SIDES n S place l r → ⊥
none_behind n S place l r h k =
    simp (
      lt-leb n 15 (omega arith),
      lt-leb n 36 (omega arith),
      lt-leb n 45 (omega arith),
      differs n 46 (omega arith),
      differs n 47 (omega arith),
      differs n 48 (omega arith),
      differs n 49 (omega arith),
      differs n 50 (omega arith),
      differs n 51 (omega arith),
      differs n 52 (omega arith),
      differs n 53 (omega arith),
      differs n 54 (omega arith),
      differs n 55 (omega arith),
      differs n 56 (omega arith),
      differs n 57 (omega arith),
      differs n 58 (omega arith),
      differs n 59 (omega arith),
      differs n 60 (omega arith),
      differs n 61 (omega arith),
      differs n 62 (omega arith),
      differs n 63 (omega arith),
    ) at k

-- a number of no law
pub nothing_holds : (n : ℕ) (S : List (Name × Kind)) (place : List ℕ) (l r : Tree) {found : Option Law} → (1 ≤ n → n ≤ 63 → IsSome found) → found ≡ None
    → SIDES n S place l r → ⊥
nothing_holds zero S place l r total e k = k
nothing_holds (suc n) S place l r total e k = by_test (nat_le (suc n) 63) refl
  where
    by_test : (b : Bool) → nat_le (suc n) 63 ≡ b → ⊥
    by_test true t = false≢true (subst IsSome e (total (omega arith) (leb-true (suc n) 63 t)))
    by_test false t = none_behind (suc n) S place l r (leb-false (suc n) 63 t) k

-- .. and nothing is its direct result
pub nothing_direct : (n : ℕ) (S : List (Name × Kind)) (place : List ℕ) (l r : Tree) {found : Option Law} → (1 ≤ n → n ≤ 63 → IsSome found) → found ≡ None
    → DIRECT_SIDES n S place l r → ⊥
nothing_direct n S place l r total e = neither (has_direct n) _ _ (at_alt (n == 52) refl) (λ d. d)
  where
    neither : (b : Bool) (A B : Type 0) → (A → ⊥) → (B → ⊥) → MatchBool b A B → ⊥
    neither true A B f g m = f m
    neither false A B f g m = g m

    at_alt : (b : Bool) → (n == 52) ≡ b → MatchBool b (VarAlt place l r) (SIDES n S place l r) → ⊥
    at_alt true t d = let is = eqb-true n 52 t in false≢true (subst IsSome e (total (omega (arith, is)) (omega (arith, is))))
    at_alt false t d = nothing_holds n S place l r total e d
