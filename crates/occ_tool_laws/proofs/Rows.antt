-- A text that reads as a table has as many ROW lines as the table has rows.
use Rattle.std.proofs.Common.{◌≡◌, ℕ, zero, suc, ◌+◌, true, false, List, [], ◌∷◌, ◌++◌, length, Option, None, Some, Ok, refl, sym, ap, subst, ◌∙◌, arith, ⊎_elim}
use Rattle.std.specs.Prelude.{codes}
use Rattle.std.proofs.lemmas.Bool.{and_parts, cases_Bool, cond-false, cond-true, false≢true}
use Rattle.occ_witness.specs.occ_base.Names.{place_of, with_text}
use Rattle.occ_witness.specs.occ_base.declared.event.Event.{Event}
use Rattle.occ_witness.specs.occ_base.declared.names.Name.{Name}
use Rattle.occ_witness.specs.occ_lex.Rows.{rows}
use Rattle.occ_witness.proofs.from_read_renamed.Again.{IsVersioned, found_in, header_of, later, rows_of as rows_found, states_of, version}
use Rattle.occ_witness.specs.occ_nform_table.Judging.{is_none}
use Rattle.occ_witness.specs.occ_nform_table.Lines.{accept_of, end_of, is_number, is_row, next_param, offer_of, param_of, row_of_state}
use Rattle.occ_witness.specs.occ_nform_table.Normal.{Parts, text_read}
use Rattle.occ_witness.specs.occ_nform_table.Reading.{Lines, either, kept, params_in, row_behind, rows_in, states_in, taken, with_row}
use Rattle.occ_witness.specs.occ_nform_table.Words.{between, number_of, then_read}
use Rattle.occ_witness.specs.occ_nform_table.declared.table.TableRow.{TableRow}
use Rattle.occ_witness.proofs.from_nform_table.ReadWords.{between_inv, bytes_same, then_inv}
use Rattle.occ_witness.specs.occ_syntax.declared.scope.Kind.{Kind}
use Rattle.occ_tool_laws.specs.Rows.{is_row_line, row_lines, rows_of}

-- ---- one line

-- a line that is read by its front isn't a ROW line
module _ (line : List ℕ) where
  end_line : (params : List (Name × Kind)) (s : List (Name × ℕ)) → end_of params line ≡ Some s → is_row_line line ≡ false
  unfolding end_of
  end_line params s e = let found = then_inv (between (codes "END [") (codes "]\n") line) _ s e in ap is_row_line (between_inv (codes "END [") (codes "]\n") line found.0 found.1)

  accept_line : (names : List (List ℕ)) (params : List (Name × Kind)) (set : List Event) → accept_of names params line ≡ Some set → is_row_line line ≡ false
  unfolding accept_of
  accept_line names params set e =
      let found = then_inv (between (codes "ACCEPT {") (codes "}\n") line) _ set e in ap is_row_line (between_inv (codes "ACCEPT {") (codes "}\n") line found.0 found.1)

  offer_line : (names : List (List ℕ)) (params : List (Name × Kind)) (n : ℕ) (offer : Event × ℕ) → offer_of names params n line ≡ Some offer → is_row_line line ≡ false
  unfolding offer_of
  offer_line names params n offer e =
      let found = then_inv (between (codes "OFFER ") (codes "\n") line) _ offer e in ap is_row_line (between_inv (codes "OFFER ") (codes "\n") line found.0 found.1)

  state_line : (params : List (Name × Kind)) (n k row : ℕ) → row_of_state params n k line ≡ Some row → is_row_line line ≡ false
  unfolding row_of_state
  state_line params n k row e =
      let found = then_inv (between (codes "STATE [") (codes "\n") line) _ row e in ap is_row_line (between_inv (codes "STATE [") (codes "\n") line found.0 found.1)

  param_line : (names : List (List ℕ)) (params : List (Name × Kind)) (p : List ℕ × Kind) → next_param names params line ≡ Some p → is_row_line line ≡ false
  unfolding next_param param_of
  param_line names params p e =
      let read = then_inv (param_of line) _ p e in
      let found = then_inv (between (codes "PARAM ") (codes "\n") line) _ read.0 read.1 in ap is_row_line (between_inv (codes "PARAM ") (codes "\n") line found.0 found.1)

  row_line : (n : ℕ) → is_row n line ≡ true → is_row_line line ≡ true
  unfolding is_row
  row_line n e = at (between (codes "ROW ") (codes "\n") line) refl e
    where
      at : (o : Option (List ℕ)) → between (codes "ROW ") (codes "\n") line ≡ o → is_number n (then_read o number_of) ≡ true → is_row_line line ≡ true
      at None k h = absurd (false≢true h)
      at (Some word) k h = ap is_row_line (between_inv (codes "ROW ") (codes "\n") line word k)

-- ---- lines one after another

other_line : (line : List ℕ) (lines : Lines) → is_row_line line ≡ false → row_lines (line ∷ lines) ≡ row_lines lines
other_line line lines h = cond-false (is_row_line line) (1 + row_lines lines) (row_lines lines) h

taken_rows : {A : Type 0} (read : List ℕ → Option A) → ((line : List ℕ) (x : A) → read line ≡ Some x → is_row_line line ≡ false) → (lines : Lines)
    → row_lines (taken read lines).1 ≡ row_lines lines
unfolding taken
taken_rows read h [] = refl
taken_rows {A} read h (line ∷ lines) = at (read line) refl (taken_rows read h lines)
  where
    at : (o : Option A) → read line ≡ o → row_lines (taken read lines).1 ≡ row_lines lines
        → row_lines (kept o (taken read lines) ([], line ∷ lines)).1 ≡ row_lines (line ∷ lines)
    at None e rest = refl
    at (Some x) e rest = rest ∙ sym (other_line line lines (h line x e))

behind_rows : (names : List (List ℕ)) (params : List (Name × Kind)) (n : ℕ) (lines : Lines) → row_lines (row_behind names params n lines).1 ≡ row_lines lines
unfolding row_behind
behind_rows names params n lines =
    let ends = taken (end_of params) lines in
    let accepts = taken (accept_of names params) ends.1 in
    taken_rows (offer_of names params n) (λ line. offer_line line names params n) accepts.1
    ∙ (taken_rows (accept_of names params) (λ line. accept_line line names params) ends.1 ∙ taken_rows (end_of params) (λ line. end_line line params) lines)

rows_counted : (names : List (List ℕ)) (params : List (Name × Kind)) (most n : ℕ) (lines : Lines)
    → length (rows_in names params most n lines).0 + row_lines (rows_in names params most n lines).1 ≡ row_lines lines
unfolding rows_in
rows_counted names params zero n lines = omega arith
rows_counted names params (suc most) n [] = omega arith
rows_counted names params (suc most) n (line ∷ lines) =
    let row = row_behind names params n lines in
    let next = rows_in names params most (n + 1) in
    let stop : List TableRow × Lines = ([], line ∷ lines) in
    let P : List TableRow × Lines → Type 0 = λ r. length r.0 + row_lines r.1 ≡ row_lines (line ∷ lines) in
    ⊎_elim
    (λ (y : is_row n line ≡ true).
    let here : row_lines (line ∷ lines) ≡ 1 + row_lines lines = cond-true (is_row_line line) (1 + row_lines lines) (row_lines lines) (row_line line n y) in
    let own : P (with_row row next) = omega (arith, here, rows_counted names params most (n + 1) row.1, behind_rows names params n lines) in
    subst P (sym (cond-true (is_row n line) (with_row row next) stop y)) own)
    (λ (no : is_row n line ≡ false). let own : P stop = omega arith in subst P (sym (cond-false (is_row n line) (with_row row next) stop no)) own)
    (cases_Bool (is_row n line))

states_counted : (params : List (Name × Kind)) (n k : ℕ) (lines : Lines) → row_lines (states_in params n k lines).1 ≡ row_lines lines
unfolding states_in
states_counted params n k [] = refl
states_counted params n k (line ∷ lines) = at (row_of_state params n k line) refl (states_counted params n (k + 1) lines)
  where
    at : (o : Option ℕ) → row_of_state params n k line ≡ o → row_lines (states_in params n (k + 1) lines).1 ≡ row_lines lines
        → row_lines (kept o (states_in params n (k + 1) lines) ([], line ∷ lines)).1 ≡ row_lines (line ∷ lines)
    at None e rest = refl
    at (Some row) e rest = rest ∙ sym (other_line line lines (state_line line params n k row e))

params_counted : (names : List (List ℕ)) (params : List (Name × Kind)) (lines : Lines) → row_lines (params_in names params lines).rest ≡ row_lines lines
unfolding params_in
params_counted names params [] = refl
params_counted names params (line ∷ lines) = at (next_param names params line) refl (λ more all. params_counted more all lines)
  where
    at : (o : Option (List ℕ × Kind)) → next_param names params line ≡ o → ((more : List (List ℕ)) (all : List (Name × Kind)) → row_lines (params_in more all lines).rest ≡ row_lines lines)
        → row_lines (either o (record { names = names; params = params; rest = line ∷ lines })
        (λ p. params_in (with_text names p.0) (params ++ (record { 0 = place_of names p.0 }, p.1) ∷ []) lines)).rest ≡ row_lines (line ∷ lines)
    at None e behind = refl
    at (Some p) e behind = behind (with_text names p.0) (params ++ (record { 0 = place_of names p.0 }, p.1) ∷ []) ∙ sym (other_line line lines (param_line line names params p e))

-- ---- the whole text

none_left : (lines : Lines) → is_none lines ≡ true → row_lines lines ≡ 0
none_left [] h = refl
none_left (line ∷ lines) h = absurd (false≢true h)

version_first : (lines : Lines) → IsVersioned lines → row_lines lines ≡ row_lines (later lines)
version_first [] h = absurd h
version_first (line ∷ lines) h = other_line line lines (ap is_row_line (bytes_same line version h))

pub counted : (names : List (List ℕ)) (text : List ℕ) (t : Parts) → text_read names text ≡ Ok t → length t.rows ≡ rows_of text
counted names text t e =
    let lines = rows text in
    let found = found_in names lines t e in
    let h = header_of names lines in
    let parts = and_parts _ (is_none (states_of h).1) found.1.whole in
    let first = version_first lines found.0 in
    let header = params_counted names [] (later lines) in
    let middle = rows_counted h.names h.params (length h.rest) 0 h.rest in
    let last = states_counted h.params (length (rows_found h).0) 0 (rows_found h).1 in
    let none = none_left (states_of h).1 parts.1 in
    let same : length (rows_found h).0 ≡ length t.rows = ap (λ (u : Parts). length u.rows) found.1.is in
    omega (arith, first, header, middle, last, none, same)
