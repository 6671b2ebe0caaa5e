-- Lines that are read one after another, as a loop does.
use Rattle.std.proofs.Common.{◌≡◌, ℕ, ◌<◌, ◌≤◌, false, eqb, List, [], ◌∷◌, ◌++◌, length, drop, Option, Some, None, refl, sym, ap, ◌∙◌, arith, append_assoc}
use Rattle.std.proofs.lemmas.Bool.{eqb-false}
use Rattle.std.proofs.lemmas.List.{append-nil, length-drop}
use Rattle.occ_nform_table.specs.occ_lex.Rows.{rows, first_row}
use Rattle.occ_nform_table.proofs.from_lex.RowLemmas.{first_row_is}
use Rattle.occ_nform_table.specs.Reading.{Lines, kept, taken}

-- what was read before, and what is still read
abbrev pub with_front : {A : Type 0} → List A → List A × Lines → List A × Lines
with_front front read = (front ++ read.0, read.1)

pub taken_nil : {A : Type 0} (read : List ℕ → Option A) → taken read [] ≡ ([], [])
unfolding taken
taken_nil read = refl

pub taken_some : {A : Type 0} (read : List ℕ → Option A) (line : List ℕ) (lines : Lines) (x : A) → read line ≡ Some x → taken read (line ∷ lines) ≡ (x ∷ (taken read lines).0, (taken read lines).1)
unfolding taken
taken_some read line lines x h = ap (λ r. kept r (taken read lines) ([], line ∷ lines)) h

pub taken_none : {A : Type 0} (read : List ℕ → Option A) (line : List ℕ) (lines : Lines) → read line ≡ None → taken read (line ∷ lines) ≡ ([], line ∷ lines)
unfolding taken
taken_none read line lines h = ap (λ r. kept r (taken read lines) ([], line ∷ lines)) h

pub nothing_before : {A : Type 0} (front : List A) (read : List A × Lines) → front ≡ [] → with_front front read ≡ read
nothing_before front read h = ap (λ f. with_front f read) h

pub taken_goes : {A : Type 0} (read : List ℕ → Option A) (front new : List A) (lines : Lines) (line : List ℕ) (after : Lines) (x : A) (whole : List A × Lines) → lines ≡ line ∷ after → read line ≡ Some x → new ≡ front ++ x ∷ []
    → with_front front (taken read lines) ≡ whole → with_front new (taken read after) ≡ whole
taken_goes read front new lines line after x whole h e grown so_far =
    ap (λ f. with_front f (taken read after)) grown
    ∙ ap (λ xs. (xs, (taken read after).1)) (append_assoc front (x ∷ []) (taken read after).0)
    ∙ sym (ap (λ ls. with_front front (taken read ls)) h ∙ ap (with_front front) (taken_some read line after x e)) ∙ so_far

pub taken_stops : {A : Type 0} (read : List ℕ → Option A) (front : List A) (lines : Lines) (line : List ℕ) (after : Lines) (whole : List A × Lines) → lines ≡ line ∷ after → read line ≡ None
    → with_front front (taken read lines) ≡ whole → (front, lines) ≡ whole
taken_stops read front lines line after whole h e so_far =
    ap (λ ls. (front, ls)) h ∙ ap (λ xs. (xs, line ∷ after)) (sym (append-nil front))
    ∙ sym (ap (λ ls. with_front front (taken read ls)) h ∙ ap (with_front front) (taken_none read line after e)) ∙ so_far

pub taken_ends : {A : Type 0} (read : List ℕ → Option A) (front : List A) (lines : Lines) (whole : List A × Lines) → lines ≡ []
    → with_front front (taken read lines) ≡ whole → (front, lines) ≡ whole
taken_ends {A = A} read front lines whole h so_far =
    ap (λ ls. (front, ls)) h ∙ ap (λ (xs : List A). (xs, [])) (sym (append-nil front))
    ∙ sym (ap (λ ls. with_front front (taken read ls)) h ∙ ap (with_front front) (taken_nil read)) ∙ so_far

-- ---- the first line

pub rows_empty : (text : List ℕ) → length text ≡ 0 → rows text ≡ []
unfolding rows
rows_empty [] h = refl
rows_empty (b ∷ text) h = absurd (omega (arith, h))

some_bytes : (text : List ℕ) → eqb (length text) 0 ≡ false → 0 < length text
some_bytes [] h = absurd (eqb-false 0 0 h refl)
some_bytes (b ∷ text) h = omega arith

pub first_within : (text line : List ℕ) → eqb (length text) 0 ≡ false → line ≡ first_row text → length line ≤ length text
first_within text line some is =
    let row = first_row_is text (some_bytes text some) in
    omega (arith, row.within, ap length is)

pub first_is : (text line rest : List ℕ) → eqb (length text) 0 ≡ false → line ≡ first_row text → rest ≡ drop (length line) text → (rows text ≡ line ∷ rows rest) × (length rest < length text)
first_is text line rest some is behind =
    let row = first_row_is text (some_bytes text some) in
    let parts : rows text ≡ line ∷ rows (drop (length line) text) = row.parts ∙ ap (λ l. l ∷ rows (drop (length l) text)) (sym is) in
    let len : length line ≡ length (first_row text) = ap length is in
    let left : length rest ≡ length (drop (length line) text) = ap length behind in
    (parts ∙ ap (λ r. line ∷ rows r) (sym behind), omega (arith, row.some, row.within, len, left, length-drop (length line) text))
