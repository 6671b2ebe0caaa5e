-- Laws have numbers from 1 to 63.
use Rattle.std.proofs.Common.{◌≡◌, ℕ, zero, suc, ◌==◌, ◌≤◌, nat_le, arith, Bool, true, false, MatchBool, List, refl, sym, subst}
use Rattle.std.proofs.lemmas.Bool.{eqb-true, leb-true}
use Rattle.occ_bits.specs.occ_base.declared.names.Name.{Name}
use Rattle.occ_bits.specs.occ_syntax.declared.scope.Kind.{Kind}
use Rattle.occ_bits.specs.occ_syntax.Tree.{Tree}
use Rattle.occ_law.specs.Scope.{ScopeSides}
use Rattle.occ_law.specs.RuleTable.{SIDES}

by_answer : (b : Bool) {P Q R : Type 0} → (b ≡ true → P → R) → (b ≡ false → Q → R) → MatchBool b P Q → R
by_answer true f g h = f refl h
by_answer false f g h = g refl h

-- a number that is one of the table, or else another one of it
one_or : (n k : ℕ) (X Y : Type 0) → k ≤ 63 → (Y → n ≤ 63) → MatchBool (n == k) X Y → n ≤ 63
one_or n k X Y h f = by_answer (n == k) (λ e x. subst (λ m. m ≤ 63) (sym (eqb-true n k e)) h) (λ e y. f y)

scope_laws : (n : ℕ) (S : List (Name × Kind)) (ks : List ℕ) (l r : Tree) → ScopeSides n S ks l r → n ≤ 63
scope_laws n S ks l r =
    one_or n 46 _ _ (omega arith) (one_or n 47 _ _ (omega arith) (one_or n 48 _ _ (omega arith) (one_or n 49 _ _ (omega arith) (one_or n 50 _ _ (omega arith)
    (one_or n 51 _ _ (omega arith) (one_or n 52 _ _ (omega arith) (one_or n 53 _ _ (omega arith) (one_or n 54 _ _ (omega arith) (one_or n 55 _ _ (omega arith)
    (one_or n 56 _ _ (omega arith) (one_or n 57 _ _ (omega arith) (one_or n 58 _ _ (omega arith) (one_or n 59 _ _ (omega arith) (one_or n 60 _ _ (omega arith)
    (one_or n 61 _ _ (omega arith) (one_or n 62 _ _ (omega arith) (one_or n 63 _ _ (omega arith) (λ z. absurd z))))))))))))))))))

up_to : (n k : ℕ) → k ≤ 63 → nat_le n k ≡ true → n ≤ 63
up_to n k h e = let l = leb-true n k e in omega arith

pub at_most : (n : ℕ) (S : List (Name × Kind)) (ks : List ℕ) (l r : Tree) → SIDES n S ks l r → n ≤ 63
at_most n S ks l r =
    by_answer (nat_le n 15) (λ e x. up_to n 15 (omega arith) e) (λ e. by_answer (nat_le n 36) (λ f x. up_to n 36 (omega arith) f)
    (λ f. by_answer (nat_le n 45) (λ g x. up_to n 45 (omega arith) g) (λ g. scope_laws n S ks l r)))

pub at_least : (n : ℕ) (S : List (Name × Kind)) (ks : List ℕ) (l r : Tree) → SIDES n S ks l r → 1 ≤ n
at_least zero S ks l r h = absurd h
at_least (suc n) S ks l r h = omega arith
