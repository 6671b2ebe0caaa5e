-- A text stops on one line.
use Rattle.std.proofs.Common.{◌≡◌, ℕ, suc, ◌<◌, ◌≤◌, List, ◌++◌, [], take, drop, sym, ap, subst, ◌∙◌, arith, append_assoc, append-nil, ⊎_elim}
use Rattle.std.proofs.lemmas.Bool.{cases_lt}
use Rattle.std.proofs.lemmas.List.{take-append-drop, take-take}
use Rattle.occ_behaviour_read.specs.Stops.{GoesOn, StopsAt, within, too_early}

module _ (Is : List (List ℕ) → Type 0) where
  -- a front of lines that go on goes on
  pub goes_front : (i : ℕ) (front : List (List ℕ)) → GoesOn Is front → GoesOn Is (take i front)
  goes_front i front g = (
    drop i front ++ g.0,
    subst Is (sym (ap (λ ls. ls ++ g.0) (take-append-drop i front)) ∙ append_assoc (take i front) (drop i front) g.0) g.1,
  )

  -- a whole text goes on with nothing
  pub goes_whole : (lines : List (List ℕ)) → Is lines → GoesOn Is lines
  goes_whole lines h = ([], subst Is (sym (append-nil lines)) h)

  goes_less : (i j : ℕ) (lines : List (List ℕ)) → i ≤ j → GoesOn Is (take j lines) → GoesOn Is (take i lines)
  goes_less i j lines less g = subst (GoesOn Is) (take-take i j lines less) (goes_front i (take j lines) g)

  -- where a text stops it is none
  pub no_stop : (lines : List (List ℕ)) (k : ℕ) → StopsAt Is lines k → Is lines → ⊥
  no_stop lines k (within n a g against e) h = against (goes_front (suc n) lines (goes_whole lines h))
  no_stop lines k (too_early g against e) h = against h

  -- a text stops on one line
  pub one_stop : (lines : List (List ℕ)) (j k : ℕ) → StopsAt Is lines j → StopsAt Is lines k → j ≡ k
  one_stop lines j k (within n a g against e) (within m b h never f) = ⊎_elim
      (λ (less : n < m). absurd (against (goes_less (suc n) m lines (omega (arith, less)) h)))
      (λ (more : m ≤ n). ⊎_elim
      (λ (less : m < n). absurd (never (goes_less (suc m) n lines (omega (arith, less)) g)))
      (λ (back : n ≤ m). let same : n ≡ m = omega (arith, more, back) in e ∙ ap suc same ∙ sym f)
      (cases_lt m n))
      (cases_lt n m)
  one_stop lines j k (within n a g against e) (too_early h never f) = absurd (against (goes_front (suc n) lines h))
  one_stop lines j k (too_early g against e) (within m b h never f) = absurd (never (goes_front (suc m) lines g))
  one_stop lines j k (too_early g against e) (too_early h never f) = e ∙ sym f
