-- The text of a normal table reads as that table.
use Rattle.std.proofs.Common.{◌≡◌, ℕ, zero, suc, ◌+◌, ◌^◌, ◌<◌, ◌≤◌, true, List, [], ◌∷◌, ◌++◌, length, map, Ok, refl, sym, ap, ◌∙◌, arith, append_assoc, length-append}
use Rattle.std.specs.Prelude.{decimal, codes}
use Rattle.std.specs.List.{AllByRecursion}
use Rattle.std.proofs.lemmas.Bool.{and_from, cond-true, eq-eqb}
use Rattle.occ_lex.specs.occ_base.declared.names.Name.{Name}
use Rattle.occ_lex.specs.occ_base.Names.{IsDistinct}
use Rattle.occ_syntax.specs.Counts.{bits_of_scope}
use Rattle.occ_syntax.specs.declared.scope.Kind.{Kind}
use Rattle.occ_lex.specs.Rows.{rows}
use Rattle.occ_nform_table.specs.declared.table.TableRow.{TableRow}
use Rattle.occ_nform_table.specs.Words.{then_read, behind, between, number_of}
use Rattle.occ_nform_table.specs.Lines.{is_number, is_row, end_of, accept_of, offer_of, param_of}
use Rattle.occ_nform_table.specs.Judging.{row_text}
use Rattle.occ_nform_table.specs.Reading.{Lines, with_row, params_in, row_behind, rows_in, states_in}
use Rattle.occ_nform_table.specs.Normal.{Parts, judged, finished, behind_params, lines_read, table_fault, text_read}
use Rattle.occ_nform_table.specs.Tables.{are_params, IsInterface, AreRowsOf, IsNormal}
use Rattle.occ_nform_table.specs.Texts.{params_text, rows_text, states_text, table_text}
use Rattle.occ_nform_table.proofs.WrittenWords.{lacks-append, between_parts}
use Rattle.occ_nform_table.proofs.WrittenNumerals.{decimal_lacks, number_read}
use Rattle.occ_nform_table.proofs.Lines.{IsLine, joined, joined-append, rows_joined, are_lines-append}
use Rattle.occ_nform_table.proofs.TextNamed.{are_named}
use Rattle.occ_nform_table.proofs.TextRows.{Stops, row_lines, row_joined, Ends, row_reads, row_are_lines}
use Rattle.occ_nform_table.proofs.WrittenParams.{param_line, params_joined, params_are_lines, other_header, params_read}
use Rattle.occ_nform_table.proofs.PlaceNames.{state_lines, states_joined, states_are_lines, states_read}

-- ---- the lines of rows

abbrev pub row_line : ℕ → List ℕ
row_line n = codes "ROW " ++ decimal n ++ codes "\n"

row_line_reads : (n : ℕ) → n < 10 ^ 64 → is_row n (row_line n) ≡ true
unfolding is_row
row_line_reads n h =
    ap (λ o. is_number n (then_read o number_of)) (between_parts (codes "ROW ") (decimal n) (codes "\n")) ∙ ap (is_number n) (number_read n h) ∙ eq-eqb n n refl

row_line_is_line : (n : ℕ) → n < 10 ^ 64 → IsLine (row_line n)
row_line_is_line n h = record { body = codes "ROW " ++ decimal n; whole = refl; quiet = lacks-append 10 (codes "ROW ") (decimal n) refl (decimal_lacks 10 refl n h) }

abbrev pub rows_lines : List (List ℕ) → ℕ → List TableRow → Lines
rows_lines names n [] = []
rows_lines names n (row ∷ rows) = row_line n ∷ (row_lines names row ++ rows_lines names (n + 1) rows)

pub rows_texts_joined : (names : List (List ℕ)) (n : ℕ) (rows : List TableRow) → rows_text names n rows ≡ joined (rows_lines names n rows)
unfolding rows_text
rows_texts_joined names n [] = refl
rows_texts_joined names n (row ∷ rows) =
    append_assoc (row_line n) (row_text names row) (rows_text names (n + 1) rows)
    ∙ (λ i. row_line n ++ (row_joined names row i ++ rows_texts_joined names (n + 1) rows i))
    ∙ ap (λ t. row_line n ++ t) (sym (joined-append (row_lines names row) (rows_lines names (n + 1) rows)))

rows_counted : (names : List (List ℕ)) (n : ℕ) (rows : List TableRow) (rest : Lines) → length rows ≤ length (rows_lines names n rows ++ rest)
rows_counted names n [] rest = omega arith
rows_counted names n (row ∷ rows) rest =
    let more = rows_counted names (n + 1) rows rest in
    omega (arith, length-append (row_lines names row ++ rows_lines names (n + 1) rows) rest, length-append (row_lines names row) (rows_lines names (n + 1) rows), length-append (rows_lines names (n + 1) rows) rest, more)

-- ---- the lines behind the parameters, and behind rows

states_no_param : (params : List (Name × Kind)) (k : ℕ) (states : List ℕ) → Stops param_of (state_lines params k states)
unfolding param_of between behind
states_no_param params k [] = tt
states_no_param params k (n ∷ states) = refl

pub no_param : (names : List (List ℕ)) (params : List (Name × Kind)) (k : ℕ) (states : List ℕ) (n : ℕ) (rows : List TableRow) → Stops param_of (rows_lines names n rows ++ state_lines params k states)
unfolding param_of between behind
no_param names params k states n [] = states_no_param params k states
no_param names params k states n (row ∷ rows) = refl

states_no_row : (names : List (List ℕ)) (params : List (Name × Kind)) (n most k : ℕ) (states : List ℕ) → rows_in names params most n (state_lines params k states) ≡ ([], state_lines params k states)
unfolding rows_in is_row between behind
states_no_row names params n zero k states = refl
states_no_row names params n (suc most) k [] = refl
states_no_row names params n (suc most) k (m ∷ states) = refl

module _ (names : List (List ℕ)) (params : List (Name × Kind)) (distinct : IsDistinct names) (interface : IsInterface names params) (are : are_params names [] params ≡ true) where
  states_end : (n : ℕ) (most : n ≤ 10 ^ 64) (k : ℕ) (states : List ℕ) → Ends names params distinct interface are n most (state_lines params k states)
  unfolding end_of accept_of offer_of between behind
  states_end n most k [] = record { ends = tt; accepts = tt; offers = tt }
  states_end n most k (m ∷ states) = record { ends = refl; accepts = refl; offers = refl }

  rows_end : (n : ℕ) (most : n ≤ 10 ^ 64) (m : ℕ) (rows : List TableRow) (k : ℕ) (states : List ℕ) → Ends names params distinct interface are n most (rows_lines names m rows ++ state_lines params k states)
  unfolding end_of accept_of offer_of between behind
  rows_end n most m [] k states = states_end n most k states
  rows_end n most m (row ∷ rows) k states = record { ends = refl; accepts = refl; offers = refl }

  rows_read : (most n : ℕ) (rows : List TableRow) (k : ℕ) (states : List ℕ) → length rows ≤ most → n + length rows ≤ 10 ^ 64 → AreRowsOf params n rows
      → rows_in names params most n (rows_lines names n rows ++ state_lines params k states) ≡ (rows, state_lines params k states)
  unfolding rows_in
  rows_read most n [] k states enough few h = states_no_row names params n most k states
  rows_read zero n (row ∷ rows) k states enough few h = absurd (omega (arith, enough))
  rows_read (suc most) n (row ∷ rows) k states enough few h =
      let low : n < 10 ^ 64 = omega (arith, few) in
      let low_too : n ≤ 10 ^ 64 = omega (arith, few) in
      let rest = rows_lines names (n + 1) rows ++ state_lines params k states in
      let lines = (row_lines names row ++ rows_lines names (n + 1) rows) ++ state_lines params k states in
      let next = rows_in names params most (n + 1) in
      let parted : lines ≡ row_lines names row ++ rest = append_assoc (row_lines names row) (rows_lines names (n + 1) rows) (state_lines params k states) in
      cond-true _ (with_row (row_behind names params n lines) next) ([], row_line n ∷ lines) (row_line_reads n low)
      ∙ ap (λ r. with_row r next) (ap (row_behind names params n) parted ∙ row_reads names params distinct interface are n low_too row rest h.0 (rows_end n low_too (n + 1) rows k states))
      ∙ ap (λ (t : List TableRow × Lines). (row ∷ t.0, t.1)) (rows_read most (n + 1) rows k states (omega (arith, enough)) (omega (arith, few)) h.1)

  pub rows_are_lines : (n : ℕ) (rows : List TableRow) → n + length rows ≤ 10 ^ 64 → AreRowsOf params n rows → AllByRecursion IsLine (rows_lines names n rows)
  rows_are_lines n [] few h = tt
  rows_are_lines n (row ∷ rows) few h =
      let low : n < 10 ^ 64 = omega (arith, few) in
      let low_too : n ≤ 10 ^ 64 = omega (arith, few) in
      (row_line_is_line n low, are_lines-append (row_lines names row) (rows_lines names (n + 1) rows) (row_are_lines names params distinct interface are n low_too row h.0) (rows_are_lines (n + 1) rows (omega (arith, few)) h.1))

-- ---- the whole text

abbrev pub version : List ℕ
version = codes "occam-normal 1\n"

-- a table whose parts have their forms
pub record IsFormed (t : Parts) : Type 0 where
  pub interface : IsInterface t.names t.params
  pub params : are_params t.names [] t.params ≡ true
  pub rows : AreRowsOf t.params 0 t.rows
  pub count : length t.states ≡ 2 ^ bits_of_scope t.params
  pub states : AllByRecursion (λ n. n < length t.rows) t.states

formed : (t : Parts) → IsNormal t → IsFormed t
formed t normal = record { interface = normal.interface; params = normal.params; rows = normal.rows; count = normal.count; states = normal.states }

module _ (t : Parts) (distinct : IsDistinct t.names) (normal : IsFormed t) (few : length t.rows ≤ 10 ^ 64) where
  unfoldable pub param_part : Lines
  param_part = map (param_line t.names) t.params

  unfoldable pub behind_part : Lines
  behind_part = rows_lines t.names 0 t.rows ++ state_lines t.params 0 t.states

  bounded : 0 + length t.rows ≤ 10 ^ 64
  bounded = omega (arith, few)

  pub whole_text : table_text t.names t.params t.rows t.states ≡ joined (version ∷ (param_part ++ behind_part))
  unfolding table_text param_part behind_part
  whole_text =
      append_assoc (version ++ params_text t.names t.params) (rows_text t.names 0 t.rows) (states_text t.params 0 t.states)
      ∙ append_assoc version (params_text t.names t.params) (rows_text t.names 0 t.rows ++ states_text t.params 0 t.states)
      ∙ (λ i. version ++ (params_joined t.names t.params i ++ (rows_texts_joined t.names 0 t.rows i ++ states_joined t.params 0 t.states i)))
      ∙ ap (λ s. version ++ (joined param_part ++ s)) (sym (joined-append (rows_lines t.names 0 t.rows) (state_lines t.params 0 t.states)))
      ∙ ap (λ s. version ++ s) (sym (joined-append param_part behind_part))

  pub all_lines : AllByRecursion IsLine (version ∷ (param_part ++ behind_part))
  unfolding param_part behind_part
  all_lines = (
    record { body = codes "occam-normal 1"; whole = refl; quiet = refl },
    are_lines-append param_part behind_part (params_are_lines t.names t.params (are_named t.names [] t.params normal.params) normal.interface.wide)
        (are_lines-append (rows_lines t.names 0 t.rows) (state_lines t.params 0 t.states) (rows_are_lines t.names t.params distinct normal.interface normal.params 0 t.rows bounded normal.rows)
        (states_are_lines t.params normal.interface.wide (length t.rows) few 0 t.states normal.states)),
  )

  header_read : params_in t.names [] (param_part ++ behind_part) ≡ other_header t.names t.params behind_part
  unfolding param_part behind_part
  header_read = params_read t.names distinct [] t.params behind_part normal.params normal.interface.named normal.interface.wide (no_param t.names t.params 0 t.states 0 t.rows)

  rows_part : rows_in t.names t.params (length behind_part) 0 behind_part ≡ (t.rows, state_lines t.params 0 t.states)
  unfolding behind_part
  rows_part = rows_read t.names t.params distinct normal.interface normal.params (length behind_part) 0 t.rows 0 t.states (rows_counted t.names 0 t.rows (state_lines t.params 0 t.states)) bounded normal.rows

  states_part : states_in t.params (length t.rows) 0 (state_lines t.params 0 t.states) ≡ (t.states, [])
  states_part = let count = normal.count in states_read t.params normal.interface.wide (length t.rows) few 0 t.states (omega (arith, count)) normal.states

  pub behind_read : (all : ℕ) → behind_params all (other_header t.names t.params behind_part) ≡ judged t (table_fault t)
  behind_read all =
      let h = other_header t.names t.params behind_part in
      ap (λ (r : List TableRow × Lines). finished all h r (states_in t.params (length r.0) 0 r.1)) rows_part
      ∙ ap (λ (s : List ℕ × Lines). finished all h (t.rows, state_lines t.params 0 t.states) s) states_part
      ∙ cond-true _ _ _ (and_from _ true (eq-eqb _ _ normal.count) refl)

  pub table_reads : text_read t.names (table_text t.names t.params t.rows t.states) ≡ judged t (table_fault t)
  unfolding lines_read
  table_reads =
      ap (λ s. lines_read t.names (rows s)) whole_text ∙ ap (lines_read t.names) (rows_joined (version ∷ (param_part ++ behind_part)) all_lines)
      ∙ ap (behind_params (1 + length (param_part ++ behind_part))) header_read ∙ behind_read (1 + length (param_part ++ behind_part))

pub reads_back : (t : Parts) → IsDistinct t.names → IsNormal t → length t.rows ≤ 10 ^ 64 → text_read t.names (table_text t.names t.params t.rows t.states) ≡ Ok t
reads_back t distinct normal few = table_reads t distinct (formed t normal) few ∙ ap (judged t) normal.fine
