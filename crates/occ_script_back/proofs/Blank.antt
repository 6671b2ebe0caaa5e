-- Blank lines give no lines: what stands behind them is read with its own line numbers and places.
use Rattle.std.proofs.Common.{◌≡◌, ℕ, ◌+◌, Bool, true, false, eqb, List, [], ◌∷◌, ◌++◌, length, refl, ap, sym, ◌∙◌, subst, arith, length-append, ⊎_elim}
use Rattle.std.specs.List.{AllByRecursion, concat, list_all, list_any}
use Rattle.std.proofs.lemmas.Bool.{and_parts, and_from, cases_Bool, eqb-true, eqb-false, or_cases}
use Rattle.occ_script_write.specs.occ_lex.Rows.{code_of, ends_code, in_front, is_space, is_tab, read_rows, reading_of, rows, then_reads}
use Rattle.occ_script_write.proofs.from_lex.Placing.{concat-rows}
use Rattle.occ_script_write.proofs.from_lex.RowLemmas.{code_go, code_nil, code_stop, line_blank, rows_feed, rows_more}
use Rattle.occ_script_back.specs.Blank.{AreBlankLines, ends_line, is_blank}

rows_nil : rows [] ≡ []
unfolding rows
rows_nil = refl

-- ---- rows in front of others

record IsSome (rs : List (List ℕ)) : Type 0 where
  row : List ℕ
  others : List (List ℕ)
  is : rs ≡ row ∷ others

in_front_some : (b : ℕ) (rs : List (List ℕ)) → IsSome (in_front b rs)
in_front_some b [] = record { row = b ∷ []; others = []; is = refl }
in_front_some b (r ∷ rs) = record { row = b ∷ r; others = rs; is = refl }

rows_some : (b : ℕ) (bs : List ℕ) → IsSome (rows (b ∷ bs))
rows_some b bs = ⊎_elim
    (λ (t : eqb b 10 ≡ true). record { row = b ∷ []; others = rows bs; is = rows_feed b bs (eqb-true b 10 t) })
    (λ (f : eqb b 10 ≡ false). subst IsSome (sym (rows_more b bs (eqb-false b 10 f))) (in_front_some b (rows bs)))
    (cases_Bool (eqb b 10))

in_front_more : (b : ℕ) (xs ys : List (List ℕ)) → IsSome xs → in_front b (xs ++ ys) ≡ in_front b xs ++ ys
in_front_more b xs ys s = ap (λ (t : List (List ℕ)). in_front b (t ++ ys)) s.is ∙ sym (ap (λ (t : List (List ℕ)). in_front b t ++ ys) s.is)

parted_more : (b c : ℕ) (front rest : List ℕ) → rows ((c ∷ front) ++ rest) ≡ rows (c ∷ front) ++ rows rest
    → (t : Bool) → eqb b 10 ≡ t → rows ((b ∷ c ∷ front) ++ rest) ≡ rows (b ∷ c ∷ front) ++ rows rest
parted_more b c front rest later true h =
    let e = eqb-true b 10 h in
    rows_feed b ((c ∷ front) ++ rest) e ∙ ap (λ t. (b ∷ []) ∷ t) later ∙ sym (ap (λ t. t ++ rows rest) (rows_feed b (c ∷ front) e))
parted_more b c front rest later false h =
    let n = eqb-false b 10 h in
    rows_more b ((c ∷ front) ++ rest) n ∙ ap (in_front b) later ∙ in_front_more b (rows (c ∷ front)) (rows rest) (rows_some c front)
    ∙ sym (ap (λ t. t ++ rows rest) (rows_more b (c ∷ front) n))

pub rows_parted : (front rest : List ℕ) → ends_line front ≡ true → rows (front ++ rest) ≡ rows front ++ rows rest
rows_parted [] rest h = ap (λ t. t ++ rows rest) (sym rows_nil)
rows_parted (b ∷ []) rest h =
    let e = eqb-true b 10 h in
    rows_feed b rest e ∙ ap (λ t. (b ∷ []) ∷ (t ++ rows rest)) (sym rows_nil) ∙ sym (ap (λ t. t ++ rows rest) (rows_feed b [] e))
rows_parted (b ∷ c ∷ front) rest h = parted_more b c front rest (rows_parted (c ∷ front) rest h) (eqb b 10) refl

-- ---- blank rows

abbrev IsBlankRow : List ℕ → Type 0
IsBlankRow row = list_all is_blank row ≡ true

abbrev AreBlankRows : List (List ℕ) → Type 0
AreBlankRows rs = AllByRecursion IsBlankRow rs

blank_in_front : (b : ℕ) (rs : List (List ℕ)) → is_blank b ≡ true → AreBlankRows rs → AreBlankRows (in_front b rs)
blank_in_front b [] p h = (and_from (is_blank b) true p refl, tt)
blank_in_front b (r ∷ rs) p h = (and_from (is_blank b) (list_all is_blank r) p h.0, h.1)

blank_more : (b : ℕ) (front : List ℕ) → is_blank b ≡ true → AreBlankRows (rows front) → (t : Bool) → eqb b 10 ≡ t → AreBlankRows (rows (b ∷ front))
blank_more b front p h true e = subst AreBlankRows (sym (rows_feed b front (eqb-true b 10 e))) (and_from (is_blank b) true p refl, h)
blank_more b front p h false e = subst AreBlankRows (sym (rows_more b front (eqb-false b 10 e))) (blank_in_front b (rows front) p h)

blank_rows : (front : List ℕ) → list_all is_blank front ≡ true → AreBlankRows (rows front)
blank_rows [] h = subst AreBlankRows (sym rows_nil) tt
blank_rows (b ∷ front) h =
    let parts = and_parts (is_blank b) (list_all is_blank front) h in
    blank_more b front parts.0 (blank_rows front parts.1) (eqb b 10) refl

-- the bytes of a row in front of its end are spaces
record IsEmptyCode (row : List ℕ) : Type 0 where
  no_tab : list_any is_tab (code_of row) ≡ false
  spaces : list_all is_space (code_of row) ≡ true

space_goes : (row : List ℕ) → ends_code (32 ∷ row) ≡ false
space_goes row = refl

feed_stops : (row : List ℕ) → ends_code (10 ∷ row) ≡ true
feed_stops [] = refl
feed_stops (b ∷ row) = refl

space_code : (row : List ℕ) → IsEmptyCode row → IsEmptyCode (32 ∷ row)
space_code row h = let e = code_go 32 row (space_goes row) in record {
  no_tab = ap (list_any is_tab) e ∙ h.no_tab;
  spaces = ap (list_all is_space) e ∙ h.spaces;
}

feed_code : (row : List ℕ) → IsEmptyCode (10 ∷ row)
feed_code row = let e = code_stop (10 ∷ row) (feed_stops row) in record { no_tab = ap (list_any is_tab) e; spaces = ap (list_all is_space) e }

blank_code : (row : List ℕ) → IsBlankRow row → IsEmptyCode row
blank_code [] h = record { no_tab = ap (list_any is_tab) code_nil; spaces = ap (list_all is_space) code_nil }
blank_code (b ∷ row) h =
    let parts = and_parts (is_blank b) (list_all is_blank row) h in
    let later = blank_code row parts.1 in
    ⊎_elim
    (λ (s : eqb b 32 ≡ true). subst (λ c. IsEmptyCode (c ∷ row)) (sym (eqb-true b 32 s)) (space_code row later))
    (λ (f : eqb b 10 ≡ true). subst (λ c. IsEmptyCode (c ∷ row)) (sym (eqb-true b 10 f)) (feed_code row))
    (or_cases (eqb b 32) (eqb b 10) parts.0)

-- ---- reading

skipped : (n place : ℕ) (rs others : List (List ℕ)) → AreBlankRows rs → read_rows n place (rs ++ others) ≡ read_rows (n + length rs) (place + length (concat rs)) others
unfolding read_rows
skipped n place [] others h = ap (λ m. read_rows m place others) (omega arith) ∙ ap (λ p. read_rows (n + 0) p others) (omega arith)
skipped n place (r ∷ rs) others h =
    let empty = blank_code r h.0 in
    ap (λ l. then_reads l n (read_rows (n + 1) (place + length r) (rs ++ others))) (line_blank n place r empty.no_tab empty.spaces)
    ∙ skipped (n + 1) (place + length r) rs others h.1
    ∙ ap (λ m. read_rows m (place + length r + length (concat rs)) others) (omega arith)
    ∙ ap (λ p. read_rows (n + length (r ∷ rs)) p others) (longer r rs)
  where
    longer : (a : List ℕ) (bs : List (List ℕ)) → place + length a + length (concat bs) ≡ place + length (concat (a ∷ bs))
    longer a bs = omega (arith, length-append a (concat bs))

-- what stands behind blank lines is read as it stands there
pub reading_behind : (front text : List ℕ) → AreBlankLines front → reading_of (front ++ text) ≡ read_rows (1 + length (rows front)) (length front) (rows text)
unfolding reading_of
reading_behind front text h =
    ap (read_rows 1 0) (rows_parted front text h.whole) ∙ skipped 1 0 (rows front) (rows text) (blank_rows front h.blank)
    ∙ ap (λ p. read_rows (1 + length (rows front)) p (rows text)) (omega (arith, ap (λ (t : List ℕ). length t) (concat-rows front)))
