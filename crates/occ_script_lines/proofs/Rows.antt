-- Rows of a text from a place on.
use Rattle.std.proofs.Common.{◌≡◌, ℕ, zero, suc, ◌+◌, ◌-◌, ◌<◌, ◌≤◌, List, [], ◌∷◌, ◌++◌, length, take, drop, refl, sym, ap, ◌∙◌, arith}
use Rattle.std.specs.List.{concat}
use Rattle.std.proofs.lemmas.List.{drop-drop, drop_all, length-drop, take_at}
use Rattle.occ_lex.specs.Rows.{first_row, rows}
use Rattle.occ_lex.proofs.Placing.{concat-rows}
use Rattle.occ_lex.proofs.RowLemmas.{first_row_is}

-- the first of the rows, and those behind it
pub rows-step : (text row : List ℕ) (at : ℕ) → at < length text → row ≡ first_row (drop at text) → rows (drop at text) ≡ row ∷ rows (drop (at + length row) text)
rows-step text row at within is =
    let first = first_row_is (drop at text) (omega (arith, length-drop at text)) in
    first.parts ∙ ap (λ rest. first_row (drop at text) ∷ rows rest) (drop-drop (length (first_row (drop at text))) at text)
    ∙ ap (λ r. r ∷ rows (drop (at + length r) text)) (sym is)

-- no row is left
pub rows-none : (text : List ℕ) (at : ℕ) → length text ≤ at → rows (drop at text) ≡ []
unfolding rows
rows-none text at past = ap rows (drop_all at text past)

-- the bytes of the first row
pub row_bytes : (text row : List ℕ) (at : ℕ) → at < length text → row ≡ first_row (drop at text) → drop at text ≡ row ++ drop (at + length row) text
row_bytes text row at within is =
    sym (concat-rows (drop at text)) ∙ ap concat (rows-step text row at within is) ∙ ap (λ rest. row ++ rest) (concat-rows (drop (at + length row) text))

none_taken : (m : ℕ) (xs : List ℕ) → xs ≡ [] → take m xs ≡ []
none_taken zero [] e = refl
none_taken (suc m) [] e = refl
none_taken m (x ∷ xs) e = absurd cc

pub take-add : (n m : ℕ) (xs : List ℕ) → take (n + m) xs ≡ take n xs ++ take m (drop n xs)
take-add zero m xs = let e : 0 + m ≡ m = omega arith in ap (λ (k : ℕ). take k xs) e
take-add (suc n) m [] = none_taken (suc n + m) [] refl ∙ sym (none_taken m [] refl)
take-add (suc n) m (x ∷ xs) = let e : suc n + m ≡ suc (n + m) = omega arith in ap (λ (k : ℕ). take k (x ∷ xs)) e ∙ ap (λ ys. x ∷ ys) (take-add n m xs)

-- the bytes of a row, at its place
pub row_there : (text row : List ℕ) (at : ℕ) → at < length text → row ≡ first_row (drop at text) → take (length row) (drop at text) ≡ row
row_there text row at within is = ap (take (length row)) (row_bytes text row at within is) ∙ take_at row (drop (at + length row) text) (length row) refl

-- the text up to the end of a row
pub front_row : (text row : List ℕ) (at : ℕ) → at < length text → row ≡ first_row (drop at text) → take (at + length row) text ≡ take at text ++ row
front_row text row at within is =
    take-add at (length row) text ∙ ap (λ rest. take at text ++ rest) (ap (take (length row)) (row_bytes text row at within is) ∙ take_at row (drop (at + length row) text) (length row) refl)
