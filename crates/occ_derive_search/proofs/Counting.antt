-- The next row of digits.
use Rattle.std.proofs.Common.{◌≡◌, ℕ, zero, suc, ◌+◌, ◌-◌, ◌<◌, ◌≤◌, ltb, Bool, true, false, cond, List, [], ◌∷◌, ◌++◌, length, take, drop, get_or, set, append-nil, refl, sym, ap, subst, ◌∙◌, arith}
use Rattle.std.specs.List.{AllByRecursion}
use Rattle.std.proofs.lemmas.List.{drop_all, take_all}
use Rattle.std.proofs.lemmas.Bool.{lt-ltb, ltb-false}
use Rattle.occ_derive_search.specs.declared.instruction.TheConstants.{DIGITS}
use Rattle.occ_derive_search.specs.Rows.{IsDigit, rank}

-- the next row
abbrev pub next : List ℕ → List ℕ
next [] = 0 ∷ []
next (d ∷ ds) = cond (ltb d (DIGITS - 1)) ((d + 1) ∷ ds) (0 ∷ next ds)

next_below : (d : ℕ) (ds : List ℕ) → ltb d (DIGITS - 1) ≡ true → next (d ∷ ds) ≡ (d + 1) ∷ ds
next_below d ds e = ap (λ b. cond b ((d + 1) ∷ ds) (0 ∷ next ds)) e

next_turned : (d : ℕ) (ds : List ℕ) → ltb d (DIGITS - 1) ≡ false → next (d ∷ ds) ≡ 0 ∷ next ds
next_turned d ds e = ap (λ b. cond b ((d + 1) ∷ ds) (0 ∷ next ds)) e

turned_rank : (d : ℕ) (ds : List ℕ) → d < DIGITS → DIGITS - 1 ≤ d → rank (next ds) ≡ rank ds + 1 → rank (0 ∷ next ds) ≡ rank (d ∷ ds) + 1
turned_rank d ds low last r = omega arith

-- it has the next number
pub rank_next : (ds : List ℕ) → AllByRecursion IsDigit ds → rank (next ds) ≡ rank ds + 1
rank_next [] h = refl
rank_next (d ∷ ds) h = by_test (rank_next ds h.1) (ltb d (DIGITS - 1)) refl
  where
    by_test : rank (next ds) ≡ rank ds + 1 → (b : Bool) → ltb d (DIGITS - 1) ≡ b → rank (next (d ∷ ds)) ≡ rank (d ∷ ds) + 1
    by_test r true e = ap rank (next_below d ds e) ∙ omega arith
    by_test r false e = ap rank (next_turned d ds e) ∙ turned_rank d ds h.0 (ltb-false d (DIGITS - 1) e) r

-- ---- one digit after the other

-- a digit that doesn't
pub raised : (s : List ℕ) (i d : ℕ) → i < length s → get_or s i 0 ≡ d → d < DIGITS - 1 → take i s ++ next (drop i s) ≡ set s i (d + 1)
raised [] i d l e h = absurd (omega (arith, l))
raised (a ∷ rest) zero d l e h = next_below a rest (lt-ltb a (DIGITS - 1) (subst (λ z. z < DIGITS - 1) (sym e) h)) ∙ ap (λ z. (z + 1) ∷ rest) e
raised (a ∷ rest) (suc i) d l e h = ap (λ zs. a ∷ zs) (raised rest i d (omega (arith, l)) e h)

-- ---- where the row goes

-- a digit that doesn't turn over ends it
pub stopped : (old s : List ℕ) (i d : ℕ) → AllByRecursion IsDigit old → next old ≡ take i s ++ next (drop i s) → i < length s → get_or s i 0 ≡ d → d < DIGITS - 1
    → rank (set s i (d + 1) ++ []) ≡ rank old + 1
stopped old s i d h e l at low = ap rank (append-nil (set s i (d + 1)) ∙ sym (e ∙ raised s i d l at low)) ∙ rank_next old h

-- where all turn over a digit comes behind them
pub all_turned : (old s : List ℕ) (i : ℕ) → AllByRecursion IsDigit old → next old ≡ take i s ++ next (drop i s) → length s ≤ i → rank (s ++ 0 ∷ []) ≡ rank old + 1
all_turned old s i h e l =
    let front : take i s ≡ s = take_all i s l in
    let none : drop i s ≡ [] = drop_all i s l in
    ap rank (ap (λ zs. zs ++ 0 ∷ []) (sym front) ∙ ap (λ zs. take i s ++ next zs) (sym none) ∙ sym e) ∙ rank_next old h
