-- The rows of a text, their bytes in front of the comment, and the lines that they hold.
use Rattle.std.proofs.Common.{◌≡◌, ℕ, zero, suc, ◌+◌, ◌/◌, ◌%◌, ◌<◌, ◌≤◌, Bool, true, false, eqb, not, List, [], ◌∷◌, ◌++◌, length, get_or, take, drop, Option, Some, None, Ok, Err, refl, sym, ap, subst, ◌∙◌, arith, rules, append_assoc, ⊎_elim}
use Rattle.std.specs.Prelude.{option_to_list}
use Rattle.std.specs.List.{list_all, list_any, prefix_len, position, position_or_len}
use Rattle.std.proofs.lemmas.Bool.{cond-true, cond-false, cases_Bool, eq-eqb, ne_eqb, eqb-true, eqb-false, lt-ltb, cases_lt, not-true, not-false}
use Rattle.std.proofs.lemmas.List.{append-nil, get_or_default, drop_more, drop_all, drop-drop, take_more, length-drop}
use Rattle.std.proofs.lemmas.List.Sums.{prefix_len_is, fails_before_first, list_all-from_AllPass}
use Rattle.std.proofs.lemmas.List.Folds.{list_all_at}
use Rattle.std.proofs.lemmas.List.Quantifiers.{position-Some}
use Rattle.occ_lex.specs.declared.fault.LineFault.{LineFault}
use Rattle.occ_lex.specs.declared.fault.LineFault.TheVariants as fault
use Rattle.occ_lex.specs.declared.token.Line.{Line}
use Rattle.occ_lex.specs.declared.token.Token.{Token}
use Rattle.occ_lex.specs.declared.fault.RowFault.{RowFault}
use Rattle.occ_lex.specs.declared.fault.RowFault.TheVariants as errors
use Rattle.occ_lex.specs.Gives.{RowFails}
use Rattle.occ_lex.specs.Tokens.{◌>>=◌, tokens}
use Rattle.occ_lex.specs.Rows.{in_front, rows, first_of, first_row, ends_code, code_of, is_tab, is_space, line_of, then_reads, read_rows, reading_of}

-- row is the first row of the text
pub record IsRow (text row : List ℕ) : Type 0 where
  pub parts : rows text ≡ row ∷ rows (drop (length row) text)
  pub some : 0 < length row
  pub within : length row ≤ length text

pub rows_feed : (byte : ℕ) (text : List ℕ) → byte ≡ 10 → rows (byte ∷ text) ≡ (byte ∷ []) ∷ rows text
unfolding rows
rows_feed byte text h = cond-true (eqb byte 10) ((byte ∷ []) ∷ rows text) (in_front byte (rows text)) (eq-eqb byte 10 h)

pub rows_more : (byte : ℕ) (text : List ℕ) → (byte ≡ 10 → ⊥) → rows (byte ∷ text) ≡ in_front byte (rows text)
unfolding rows
rows_more byte text h = cond-false (eqb byte 10) ((byte ∷ []) ∷ rows text) (in_front byte (rows text)) (ne_eqb byte 10 h)

rows_nil : rows [] ≡ []
unfolding rows
rows_nil = refl

-- the row up to a line feed
pub row_to : (text : List ℕ) (i : ℕ) → i < length text → get_or text i 0 ≡ 10 → ((k : ℕ) → k < i → get_or text k 0 ≡ 10 → ⊥) → rows text ≡ take (suc i) text ∷ rows (drop (suc i) text)
row_to [] i within feed before = absurd (omega (arith, within))
row_to (byte ∷ text) zero within feed before = rows_feed byte text feed
row_to (byte ∷ text) (suc i) within feed before =
    rows_more byte text (before 0 (omega arith))
    ∙ ap (in_front byte) (row_to text i (omega (arith, within)) feed (λ k below. before (suc k) (omega (arith, below))))

-- a text with no line feed
pub row_whole : (text : List ℕ) → 0 < length text → ((k : ℕ) → k < length text → get_or text k 0 ≡ 10 → ⊥) → rows text ≡ text ∷ []
row_whole [] some none = absurd (omega (arith, some))
row_whole (byte ∷ []) some none = rows_more byte [] (none 0 (omega arith)) ∙ ap (in_front byte) rows_nil
row_whole (byte ∷ next ∷ text) some none =
    rows_more byte (next ∷ text) (none 0 (omega arith))
    ∙ ap (in_front byte) (row_whole (next ∷ text) (omega arith) (λ k below. none (suc k) (omega (arith, below))))

pub position-None : (test : ℕ → Bool) (bytes : List ℕ) → position test bytes ≡ None → (k : ℕ) → k < length bytes → test (get_or bytes k 0) ≡ false
position-None test bytes h k below = ⊎_elim
    (λ (found : position_or_len test bytes < length bytes).
    let some : Some (position_or_len test bytes) ≡ None = sym (cond-true _ (Some (position_or_len test bytes)) None (lt-ltb _ _ found)) ∙ h in
    absurd (apart (position_or_len test bytes) some))
    (λ (past : length bytes ≤ position_or_len test bytes). fails_before_first test bytes k 0 (omega (arith, below, past)))
    (cases_lt (position_or_len test bytes) (length bytes))
  where
    apart : (n : ℕ) → Some n ≡ None → ⊥
    apart n e = cc

pub first_row_feed : (text : List ℕ) (i : ℕ) → position (λ byte. eqb byte 10) text ≡ Some i → take (i + 1) text ≡ first_row text
first_row_feed text i h =
    let found = position-Some (λ byte. eqb byte 10) text i 0 h in
    let one_more : i + 1 ≡ suc i = omega arith in
    ap (λ n. take n text) one_more ∙ sym (ap first_of (row_to text i found.0 (eqb-true (get_or text i 0) 10 found.1) (λ k below. eqb-false (get_or text k 0) 10 (found.2 k below))))

pub first_row_whole : (text : List ℕ) → position (λ byte. eqb byte 10) text ≡ None → text ≡ first_row text
first_row_whole [] h = sym (ap first_of rows_nil)
first_row_whole (byte ∷ text) h = sym (ap first_of (row_whole (byte ∷ text) (omega arith) (λ k below. eqb-false (get_or (byte ∷ text) k 0) 10 (position-None (λ b. eqb b 10) (byte ∷ text) h k below))))

split_text : (text : List ℕ) → 0 < length text → (row : List ℕ) × IsRow text row
split_text [] some = absurd (omega (arith, some))
split_text (byte ∷ []) some = ⊎_elim
    (λ (t : eqb byte 10 ≡ true). (byte ∷ [], record { parts = rows_feed byte [] (eqb-true byte 10 t); some = omega arith; within = omega arith }))
    (λ (f : eqb byte 10 ≡ false). (byte ∷ [], record { parts = rows_more byte [] (eqb-false byte 10 f) ∙ ap (in_front byte) rows_nil ∙ ap (λ others. (byte ∷ []) ∷ others) (sym rows_nil); some = omega arith; within = omega arith }))
    (cases_Bool (eqb byte 10))
split_text (byte ∷ next ∷ text) some = ⊎_elim
    (λ (t : eqb byte 10 ≡ true). (byte ∷ [], record { parts = rows_feed byte (next ∷ text) (eqb-true byte 10 t); some = omega arith; within = omega arith }))
    (λ (f : eqb byte 10 ≡ false).
    let rest = split_text (next ∷ text) (omega arith) in
    let row : List ℕ = rest.0 in
    let is : IsRow (next ∷ text) row = rest.1 in
    (byte ∷ row, record { parts = rows_more byte (next ∷ text) (eqb-false byte 10 f) ∙ ap (in_front byte) is.parts; some = omega arith; within = omega (arith, is.within) }))
    (cases_Bool (eqb byte 10))

pub first_row_is : (text : List ℕ) → 0 < length text → IsRow text (first_row text)
first_row_is text some =
    let split = split_text text some in
    let is : IsRow text split.0 = split.1 in
    subst (IsRow text) (sym (ap first_of is.parts)) is

-- the bytes in front of a comment, byte by byte
pub code_stop : (rest : List ℕ) → ends_code rest ≡ true → code_of rest ≡ []
unfolding code_of
code_stop [] h = refl
code_stop (byte ∷ rest) h = cond-true (ends_code (byte ∷ rest)) [] (byte ∷ code_of rest) h

pub code_go : (byte : ℕ) (rest : List ℕ) → ends_code (byte ∷ rest) ≡ false → code_of (byte ∷ rest) ≡ byte ∷ code_of rest
unfolding code_of
code_go byte rest h = cond-false (ends_code (byte ∷ rest)) [] (byte ∷ code_of rest) h

pub code_nil : code_of [] ≡ []
unfolding code_of
code_nil = refl

pub code_turn : (row : List ℕ) (len : ℕ) (all : List ℕ) → len < length row → ends_code (drop len row) ≡ false → take len row ++ code_of (drop len row) ≡ all → take (len + 1) row ++ code_of (drop (len + 1) row) ≡ all
code_turn row len all within h so_far =
    let split = drop_more row len 0 within in
    let goes_on : ends_code (get_or row len 0 ∷ drop (len + 1) row) ≡ false = ap ends_code (sym split) ∙ h in
    ap (λ front. front ++ code_of (drop (len + 1) row)) (take_more row len 0 within)
    ∙ append_assoc (take len row) (get_or row len 0 ∷ []) (code_of (drop (len + 1) row))
    ∙ ap (λ rest. take len row ++ rest) (sym (code_go (get_or row len 0) (drop (len + 1) row) goes_on) ∙ ap code_of (sym split))
    ∙ so_far

pub code_end : (row : List ℕ) (len : ℕ) (all : List ℕ) → length row ≤ len → take len row ++ code_of (drop len row) ≡ all → take len row ≡ all
code_end row len all past so_far =
    sym (append-nil (take len row)) ∙ ap (λ rest. take len row ++ rest) (sym code_nil ∙ ap code_of (sym (drop_all len row past))) ∙ so_far

pub code_stops : (row : List ℕ) (len : ℕ) (all : List ℕ) → ends_code (drop len row) ≡ true → take len row ++ code_of (drop len row) ≡ all → take len row ≡ all
code_stops row len all h so_far =
    sym (append-nil (take len row)) ∙ ap (λ rest. take len row ++ rest) (sym (code_stop (drop len row) h)) ∙ so_far

-- no more than the row's bytes
pub code-le-row : (row : List ℕ) → length (code_of row) ≤ length row
code-le-row [] = omega (arith, ap length code_nil)
code-le-row (byte ∷ rest) = ⊎_elim
    (λ (t : ends_code (byte ∷ rest) ≡ true). omega (arith, ap length (code_stop (byte ∷ rest) t)))
    (λ (f : ends_code (byte ∷ rest) ≡ false). omega (arith, ap length (code_go byte rest f), code-le-row rest))
    (cases_Bool (ends_code (byte ∷ rest)))

-- where the first byte that isn't a space stands
abbrev is_other : ℕ → Bool
is_other byte = not (eqb byte 32)

pub blank : (code : List ℕ) → position is_other code ≡ None → list_all is_space code ≡ true
blank code h = list_all-from_AllPass is_space code (λ k d below. subst (λ x. eqb x 32 ≡ true) (same k d below) (not-false (eqb (get_or code k 0) 32) (position-None is_other code h k below)))
  where
    same : (k d : ℕ) → k < length code → get_or code k 0 ≡ get_or code k d
    same k d below = search (rules, get_or_default)

pub indent : (code : List ℕ) (i : ℕ) → position is_other code ≡ Some i → (list_all is_space code ≡ false) × (prefix_len is_space code ≡ i) × (i < length code)
indent code i h =
    let found = position-Some is_other code i 0 h in
    let other : eqb (get_or code i 0) 32 ≡ false = not-true (eqb (get_or code i 0) 32) found.1 in
    let within : i < length code = found.0 in (
      list_all_at is_space code i 0 within other,
      prefix_len_is is_space code i 0 (omega (arith, within)) (λ k below. not-false (eqb (get_or code k 0) 32) (found.2 k below)) (λ _. other),
      within,
    )

-- the cases of a line
module _ (number place : ℕ) (row : List ℕ) where
  pub line_tab : list_any is_tab (code_of row) ≡ true → line_of number place row ≡ Err fault.Tab
  unfolding line_of
  line_tab h = cond-true _ (Err fault.Tab) _ h

  pub line_blank : list_any is_tab (code_of row) ≡ false → list_all is_space (code_of row) ≡ true → line_of number place row ≡ Ok None
  unfolding line_of
  line_blank h b = cond-false _ (Err fault.Tab) _ h ∙ cond-true _ (Ok None) _ b

  pub line_odd : list_any is_tab (code_of row) ≡ false → list_all is_space (code_of row) ≡ false → prefix_len is_space (code_of row) % 2 ≡ 1 → line_of number place row ≡ Err fault.OddIndent
  unfolding line_of
  line_odd h b o = cond-false _ (Err fault.Tab) _ h ∙ cond-false _ (Ok None) _ b ∙ cond-true _ (Err fault.OddIndent) _ (eq-eqb _ 1 o)

  pub line_even : list_any is_tab (code_of row) ≡ false → list_all is_space (code_of row) ≡ false → (prefix_len is_space (code_of row) % 2 ≡ 1 → ⊥)
      → line_of number place row ≡ (tokens place 0 (code_of row) >>= λ found. Ok (Some (record { number = number; level = prefix_len is_space (code_of row) / 2; tokens = found })))
  unfolding line_of
  line_even h b o = cond-false _ (Err fault.Tab) _ h ∙ cond-false _ (Ok None) _ b ∙ cond-false _ (Err fault.OddIndent) _ (ne_eqb _ 1 o)

-- what the bytes in front of the comment say of the line
module _ (number place : ℕ) (row code : List ℕ) (is : code ≡ code_of row) where
  pub tab_line : list_any is_tab code ≡ true → line_of number place row ≡ Err fault.Tab
  tab_line tab = line_tab number place row (subst (λ c. list_any is_tab c ≡ true) is tab)

  module _ (no_tab : list_any is_tab code ≡ false) where
    no_tab_there : list_any is_tab (code_of row) ≡ false
    no_tab_there = subst (λ c. list_any is_tab c ≡ false) is no_tab

    pub blank_line : position is_other code ≡ None → line_of number place row ≡ Ok None
    blank_line none = line_blank number place row no_tab_there (subst (λ c. list_all is_space c ≡ true) is (blank code none))

    module _ (i : ℕ) (found : position is_other code ≡ Some i) where
      not_blank : list_all is_space (code_of row) ≡ false
      not_blank = subst (λ c. list_all is_space c ≡ false) is (indent code i found).0

      indent_there : prefix_len is_space (code_of row) ≡ i
      indent_there = subst (λ c. prefix_len is_space c ≡ i) is (indent code i found).1

      pub odd_line : i % 2 ≡ 1 → line_of number place row ≡ Err fault.OddIndent
      odd_line odd = line_odd number place row no_tab_there not_blank (subst (λ n. n % 2 ≡ 1) (sym indent_there) odd)

      pub token_line : (i % 2 ≡ 1 → ⊥) → line_of number place row ≡ (tokens place 0 code >>= λ there. Ok (Some (record { number = number; level = i / 2; tokens = there })))
      token_line even =
          line_even number place row no_tab_there not_blank (λ odd. even (subst (λ n. n % 2 ≡ 1) indent_there odd))
          ∙ ap (λ n. tokens place 0 (code_of row) >>= λ there. Ok (Some (record { number = number; level = n / 2; tokens = there }))) indent_there
          ∙ ap (λ c. tokens place 0 c >>= λ there. Ok (Some (record { number = number; level = i / 2; tokens = there }))) (sym is)

      pub read_line : (there : List Token) → (i % 2 ≡ 1 → ⊥) → tokens place 0 code ≡ Ok there → line_of number place row ≡ Ok (Some (record { number = number; level = i / 2; tokens = there }))
      read_line there even read = token_line even ∙ ap (λ r. r >>= λ there. Ok (Some (record { number = number; level = i / 2; tokens = there }))) read

      pub faulty_line : (e : RowFault) → (i % 2 ≡ 1 → ⊥) → RowFails e (tokens place 0 code) → RowFails e (line_of number place row)
      faulty_line errors.Memory even read = tt
      faulty_line (errors.Fault f) even read = token_line even ∙ ap (λ r. r >>= λ there. Ok (Some (record { number = number; level = i / 2; tokens = there }))) read

-- lines read before, and those of what is left
abbrev pub with_lines : List Line → List Line × Option (ℕ × LineFault) → List Line × Option (ℕ × LineFault)
with_lines front read = (front ++ read.0, read.1)

rows_step : (text : List ℕ) (at : ℕ) → at < length text → rows (drop at text) ≡ first_row (drop at text) ∷ rows (drop (at + length (first_row (drop at text))) text)
rows_step text at within =
    let is = first_row_is (drop at text) (omega (arith, length-drop at text)) in
    is.parts ∙ ap (λ rest. first_row (drop at text) ∷ rows rest) (drop-drop (length (first_row (drop at text))) at text)

read_step : (text row : List ℕ) (number at : ℕ) → at < length text → row ≡ first_row (drop at text)
    → read_rows number at (rows (drop at text)) ≡ then_reads (line_of number at row) number (read_rows (number + 1) (at + length row) (rows (drop (at + length row) text)))
unfolding read_rows
read_step text row number at within is =
    ap (read_rows number at) (rows_step text at within ∙ ap (λ r. r ∷ rows (drop (at + length r) text)) (sym is))

pub read_turn : (lines : List Line) (text row : List ℕ) (number at : ℕ) (line : Option Line) (all : List Line × Option (ℕ × LineFault)) → at < length text → row ≡ first_row (drop at text)
    → line_of number at row ≡ Ok line → with_lines lines (read_rows number at (rows (drop at text))) ≡ all
    → with_lines (lines ++ option_to_list line) (read_rows (number + 1) (at + length row) (rows (drop (at + length row) text))) ≡ all
read_turn lines text row number at line all within is read so_far =
    let rest = read_rows (number + 1) (at + length row) (rows (drop (at + length row) text)) in
    let step : read_rows number at (rows (drop at text)) ≡ (option_to_list line ++ rest.0, rest.1) = read_step text row number at within is ∙ ap (λ r. then_reads r number rest) read in
    ap (λ (found : List Line). (found, rest.1)) (append_assoc lines (option_to_list line) rest.0) ∙ ap (with_lines lines) (sym step) ∙ so_far

pub read_fault : (lines : List Line) (text row : List ℕ) (number at : ℕ) (e : LineFault) (all : List Line × Option (ℕ × LineFault)) → at < length text → row ≡ first_row (drop at text)
    → line_of number at row ≡ Err e → with_lines lines (read_rows number at (rows (drop at text))) ≡ all → (lines, Some (number, e)) ≡ all
read_fault lines text row number at e all within is read so_far =
    let rest = read_rows (number + 1) (at + length row) (rows (drop (at + length row) text)) in
    let step : read_rows number at (rows (drop at text)) ≡ ([], Some (number, e)) = read_step text row number at within is ∙ ap (λ r. then_reads r number rest) read in
    ap (λ (found : List Line). (found, Some (number, e))) (sym (append-nil lines)) ∙ ap (with_lines lines) (sym step) ∙ so_far

pub read_end : (lines : List Line) (text : List ℕ) (number at : ℕ) (all : List Line × Option (ℕ × LineFault)) → length text ≤ at
    → with_lines lines (read_rows number at (rows (drop at text))) ≡ all → (lines, None) ≡ all
unfolding read_rows
read_end lines text number at all past so_far =
    let none : read_rows number at (rows (drop at text)) ≡ ([], None) = ap (λ t. read_rows number at (rows t)) (drop_all at text past) ∙ ap (read_rows number at) rows_nil in
    ap (λ (found : List Line). (found, None)) (sym (append-nil lines)) ∙ ap (with_lines lines) (sym none) ∙ so_far

pub read_start : (text : List ℕ) → with_lines [] (read_rows 1 0 (rows (drop 0 text))) ≡ reading_of text
unfolding reading_of
read_start text = refl

pub row_fits : (text row : List ℕ) (at : ℕ) → at < length text → row ≡ first_row (drop at text) → (0 < length row) × (at + length row ≤ length text)
row_fits text row at within is =
    let first = first_row_is (drop at text) (omega (arith, length-drop at text)) in
    (omega (arith, ap length is, first.some), omega (arith, ap length is, first.within, length-drop at text))
