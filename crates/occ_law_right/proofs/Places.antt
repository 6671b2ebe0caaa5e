-- The laws of declared names change a part as a whole.
use Rattle.std.proofs.Common.{◌≡◌, ℕ, ◌≤◌, ◌==◌, arith, Bool, true, false, List, ◌∷◌, Option, Result, IfOk, refl, sym, subst}
use Rattle.std.proofs.lemmas.Bool.{lt-leb}
use Rattle.std.specs.Prelude.{MatchBool, nat_le}
use Rattle.occ_syntax.specs.occ_base.declared.memory.Memory.{Memory}
use Rattle.occ_syntax.specs.occ_base.declared.names.Name.{Name}
use Rattle.occ_law_seq.specs.occ_law.declared.place.Place.TheVariants.{Whole}
use Rattle.occ_law_seq.specs.occ_law.Instances.{IsInstance}
use Rattle.occ_law_seq.specs.occ_law.Scope.{ScopeSides, VarAlt}
use Rattle.occ_law_seq.specs.occ_law.RuleTable.{DIRECT_SIDES, SIDES, has_direct}
use Rattle.occ_syntax.specs.declared.proc.Proc.{Proc}
use Rattle.occ_syntax.specs.declared.scope.Kind.{Kind}
use Rattle.occ_syntax.specs.Tree.{Tree}

-- a choice of which neither is there
neither : (b : Bool) (A B : Type 0) → (A → ⊥) → (B → ⊥) → MatchBool b A B → ⊥
neither true A B f g m = f m
neither false A B f g m = g m

-- a choice of which the second is taken
second : (b : Bool) (A B : Type 0) → b ≡ false → (B → ⊥) → MatchBool b A B → ⊥
second true A B e g m = cc
second false A B e g m = g m

-- behind an item there is no law of declarations but var-alt's second form
scope_nowhere : (n : ℕ) (S : List (Name × Kind)) (k : ℕ) (ks : List ℕ) (l r : Tree) → (n == 52) ≡ false → ScopeSides n S (k ∷ ks) l r → ⊥
scope_nowhere n S k ks l r e =
    neither (n == 46) _ _ (λ d. elim d [ ]) (neither (n == 47) _ _ (λ d. elim d [ ]) (neither (n == 48) _ _ (λ d. elim d [ ]) (neither (n == 49) _ _ (λ d. elim d [ ]) (
    neither (n == 50) _ _ (λ d. elim d [ ]) (neither (n == 51) _ _ (λ d. elim d [ ]) (second (n == 52) _ _ e (neither (n == 53) _ _ (λ d. elim d [ ]) (
    neither (n == 54) _ _ (λ d. elim d [ ]) (neither (n == 55) _ _ (λ d. elim d [ ]) (neither (n == 56) _ _ (λ d. elim d [ ]) (neither (n == 57) _ _ (λ d. elim d [ ]) (
    neither (n == 58) _ _ (λ d. elim d [ ]) (neither (n == 59) _ _ (λ d. elim d [ ]) (neither (n == 60) _ _ (λ d. elim d [ ]) (neither (n == 61) _ _ (λ d. elim d [ ]) (
    neither (n == 62) _ _ (λ d. elim d [ ]) (neither (n == 63) _ _ (λ d. elim d [ ]) (λ d. d))))))))))))))))))

sides_nowhere : (n : ℕ) (S : List (Name × Kind)) (k : ℕ) (ks : List ℕ) (l r : Tree) → 46 ≤ n → (n == 52) ≡ false → SIDES n S (k ∷ ks) l r → ⊥
sides_nowhere n S k ks l r h e =
    second (nat_le n 15) _ _ (lt-leb n 15 (omega (arith, h))) (second (nat_le n 36) _ _ (lt-leb n 36 (omega (arith, h))) (second (nat_le n 45) _ _ (lt-leb n 45 (omega (arith, h)))
    (scope_nowhere n S k ks l r e)))

-- behind an item no law of declarations has a direct result
pub nowhere : (n : ℕ) (S : List (Name × Kind)) (k : ℕ) (ks : List ℕ) (l r : Tree) → 46 ≤ n → DIRECT_SIDES n S (k ∷ ks) l r → ⊥
nowhere n S k ks l r h = neither (has_direct n) _ _ (at_alt (n == 52) refl) (λ d. d)
  where
    at_alt : (b : Bool) → (n == 52) ≡ b → MatchBool b (VarAlt (k ∷ ks) l r) (SIDES n S (k ∷ ks) l r) → ⊥
    at_alt true e d = elim d [ ]
    at_alt false e d = sides_nowhere n S k ks l r h e d

-- what the law of a number makes, where that number is known
pub at_number : (n k : ℕ) (S : List (Name × Kind)) (l : Tree) (result : Result (Option Proc) Memory) → n ≡ k → IfOk result (IsInstance k S l Whole) → IfOk result (IsInstance n S l Whole)
at_number n k S l result e h = subst (λ m. IfOk result (IsInstance m S l Whole)) (sym e) h
