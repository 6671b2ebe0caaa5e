-- Lists all of whose items are in a set.
use Rattle.std.proofs.Common.{◌≡◌, Bool, refl, true, false, ◌||◌, List, [], ◌∷◌, true≢false, sym, subst}
use Rattle.occ_names.specs.Once.{has}
use Rattle.occ_names.proofs.Listed.{IsTest}

module _ {T : Type 0} (same : T → T → Bool) (test : IsTest same) where
  -- each item of a list is in a set
  abbrev pub AreIn : List T → List T → Type 0
  AreIn xs set = (x : T) → has same xs x ≡ true → has same set x ≡ true

  pub one_more_in : (set rest whole : List T) (n : T) → whole ≡ n ∷ rest → true ≡ has same set n → AreIn rest set → AreIn whole set
  one_more_in set rest whole n e h k x i = at (same x n) refl (subst (λ ws. has same ws x ≡ true) e i)
    where
      at : (b : Bool) → same x n ≡ b → (b || has same rest x) ≡ true → has same set x ≡ true
      at true f j = subst (λ z. has same set z ≡ true) (sym (test.tells x n f)) (sym h)
      at false f j = k x j

  pub none_in : (set rest : List T) → rest ≡ [] → AreIn rest set
  none_in set rest e x i = absurd (true≢false (sym (subst (λ ws. has same ws x ≡ true) e i)))
