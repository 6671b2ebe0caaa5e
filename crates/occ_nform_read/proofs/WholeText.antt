-- What the reading of all sections gives together.
use Rattle.std.proofs.Common.{◌≡◌, ℕ, zero, suc, ◌+◌, ◌<◌, ◌≤◌, Bool, true, false, cond, eqb, List, [], ◌∷◌, ◌++◌, length, Option, Some, None, Result, Err, refl, sym, ap, ◌∙◌, subst, arith, length-append, codes, ltb, IfOk}
use Rattle.std.specs.List.{AllByRecursion}
use Rattle.std.proofs.lemmas.Bool.{cond-true, cond-false, ne_eqb}
use Rattle.occ_syntax.specs.occ_base.Names.{place_of, with_text}
use Rattle.occ_nform_table.specs.occ_lex.Rows.{rows, first_row}
use Rattle.occ_nform_table.proofs.from_lex.RowLemmas.{IsRow, first_row_is}
use Rattle.occ_nform_read.proofs.Taking.{rows_empty}
use Rattle.std.specs.Str.{bytes_eq}
use Rattle.occ_syntax.specs.occ_base.declared.event.Event.{Event}
use Rattle.occ_syntax.specs.occ_base.declared.names.Name.{Name}
use Rattle.occ_syntax.specs.declared.scope.Kind.{Kind}
use Rattle.occ_nform_table.specs.declared.table.TableRow.{TableRow}
use Rattle.occ_nform_table.specs.declared.table.Table.{Table}
use Rattle.occ_nform_table.specs.declared.table.TableFault.{TableFault}
use Rattle.occ_nform_table.specs.declared.table.TableFault.TheVariants as fault
use Rattle.occ_nform_table.specs.Lines.{next_param, end_of, accept_of, offer_of, is_row, row_of_state, rank, state_place}
use Rattle.occ_nform_table.specs.Reading.{Lines, kept, taken, Header, params_in, row_behind, with_row, rows_in, states_in}
use Rattle.occ_nform_table.specs.Judging.{Mark, list_marks, accept_marks, row_marks, rows_marks, height_over, row_text, is_none}
use Rattle.occ_nform_table.specs.Normal.{behind_params, lines_read}
use Rattle.occ_nform_table.specs.Tables.{AreRowsOf}
use Rattle.occ_nform_read.specs.Found.{AreApart, IsRead}
use Rattle.occ_nform_read.proofs.Forms.{rows_are, states_are}
use Rattle.occ_nform_read.proofs.Steps.{params_some, params_none, params_nil, name_at}

-- ---- how many lines are read

kept_count : {A : Type 0} (r : Option A) (more : List A × Lines) (line : List ℕ) (lines : Lines) → length more.0 + length more.1 ≡ length lines → length (kept r more ([], line ∷ lines)).0 + length (kept r more ([], line ∷ lines)).1 ≡ suc (length lines)
kept_count None more line lines h = omega arith
kept_count (Some x) more line lines h = omega (arith, h)

taken_count : {A : Type 0} (read : List ℕ → Option A) (lines : Lines) → length (taken read lines).0 + length (taken read lines).1 ≡ length lines
unfolding taken
taken_count read [] = omega arith
taken_count read (line ∷ lines) = kept_count (read line) (taken read lines) line lines (taken_count read lines)

row_count : (names : List (List ℕ)) (params : List (Name × Kind)) (n : ℕ) (lines : Lines)
    → length (row_behind names params n lines).0.ends + length (row_behind names params n lines).0.accepts + length (row_behind names params n lines).0.offers + length (row_behind names params n lines).1 ≡ length lines
unfolding row_behind
row_count names params n lines =
    omega (arith, taken_count (end_of params) lines, taken_count (accept_of names params) (taken (end_of params) lines).1, taken_count (offer_of names params n) (taken (accept_of names params) (taken (end_of params) lines).1).1)

marks_count : {A : Type 0} (less : A → A → Bool) (before : Option A) (xs : List A) → length (list_marks less before xs) ≡ length xs
unfolding list_marks
marks_count less before [] = refl
marks_count less before (x ∷ xs) = ap suc (marks_count less (Some x) xs)

accepts_count : (params : List (Name × Kind)) (offers : List (Event × ℕ)) (all : List (List Event)) (before : Option (List Event)) (sets : List (List Event)) → length (accept_marks params offers all before sets) ≡ length sets
unfolding accept_marks
accepts_count params offers all before [] = refl
accepts_count params offers all before (set ∷ sets) = ap suc (accepts_count params offers all (Some set) sets)

row_marks_count : (params : List (Name × Kind)) (row : TableRow) → length (row_marks params row) ≡ length row.ends + length row.accepts + length row.offers
row_marks_count params row =
    let ends : List Mark = list_marks (λ s u. ltb (state_place params s) (state_place params u)) None row.ends in
    let accepts : List Mark = accept_marks params row.offers row.accepts None row.accepts in
    let offers : List Mark = list_marks (λ (o p : Event × ℕ). ltb (rank params o.0) (rank params p.0)) None row.offers in
    omega (
      arith,
      length-append (ends ++ accepts) offers,
      length-append ends accepts,
      marks_count (λ s u. ltb (state_place params s) (state_place params u)) None row.ends,
      accepts_count params row.offers row.accepts None row.accepts,
      marks_count (λ (o p : Event × ℕ). ltb (rank params o.0) (rank params p.0)) None row.offers,
    )

-- each line of a row has its mark
pub rows_marks_count : (names : List (List ℕ)) (params : List (Name × Kind)) (most n : ℕ) (lines : Lines) (heights : List ℕ) (before : Option (ℕ × List ℕ))
    → length (rows_marks names params heights before (rows_in names params most n lines).0) + length (rows_in names params most n lines).1 ≡ length lines
unfolding rows_in rows_marks
rows_marks_count names params zero n lines heights before = omega arith
rows_marks_count names params (suc most) n [] heights before = omega arith
rows_marks_count names params (suc most) n (line ∷ lines) heights before =
    from (is_row n line) (λ heights before. rows_marks_count names params most (n + 1) (row_behind names params n lines).1 heights before)
  where
    from : (b : Bool)
        → ((heights : List ℕ) (before : Option (ℕ × List ℕ)) → length (rows_marks names params heights before (rows_in names params most (n + 1) (row_behind names params n lines).1).0)
        + length (rows_in names params most (n + 1) (row_behind names params n lines).1).1 ≡ length (row_behind names params n lines).1)
        → length (rows_marks names params heights before (cond b (with_row (row_behind names params n lines) (rows_in names params most (n + 1))) ([], line ∷ lines)).0)
        + length (cond b (with_row (row_behind names params n lines) (rows_in names params most (n + 1))) ([], line ∷ lines)).1 ≡ suc (length lines)
    from true more =
        let row : TableRow = (row_behind names params n lines).0 in
        let left : Lines = (row_behind names params n lines).1 in
        let height : ℕ = height_over heights row.offers in
        let text : List ℕ = row_text names row in
        omega (
          arith,
          row_count names params n lines,
          row_marks_count params row,
          length-append (row_marks params row) (rows_marks names params (heights ++ height ∷ []) (Some (height, text)) (rows_in names params most (n + 1) left).0),
          more (heights ++ height ∷ []) (Some (height, text)),
        )
    from false more = omega arith

-- no more rows than marks
rows_few : (names : List (List ℕ)) (params : List (Name × Kind)) (heights : List ℕ) (before : Option (ℕ × List ℕ)) (rows : List TableRow) → length rows ≤ length (rows_marks names params heights before rows)
unfolding rows_marks
rows_few names params heights before [] = omega arith
rows_few names params heights before (row ∷ rows) =
    let height : ℕ = height_over heights row.offers in
    let text : List ℕ = row_text names row in
    omega (
      arith,
      length-append (row_marks params row) (rows_marks names params (heights ++ height ∷ []) (Some (height, text)) rows),
      rows_few names params (heights ++ height ∷ []) (Some (height, text)) rows,
    )

params_count : (names : List (List ℕ)) (params : List (Name × Kind)) (lines : Lines) → length (params_in names params lines).params + length (params_in names params lines).rest ≡ length params + length lines
params_count names params [] = omega (arith, ap (λ (h : Header). length h.params + length h.rest) (params_nil names params))
params_count names params (line ∷ lines) = from (next_param names params line) refl (λ names params. params_count names params lines)
  where
    from : (r : Option (List ℕ × Kind)) → next_param names params line ≡ r
        → ((names : List (List ℕ)) (params : List (Name × Kind)) → length (params_in names params lines).params + length (params_in names params lines).rest ≡ length params + length lines)
        → length (params_in names params (line ∷ lines)).params + length (params_in names params (line ∷ lines)).rest ≡ length params + suc (length lines)
    from None e more = ap (λ (h : Header). length h.params + length h.rest) (params_none names params line lines e)
    from (Some p) e more =
        let next : List (Name × Kind) = params ++ (name_at (place_of names p.0), p.1) ∷ [] in
        omega (
          arith,
          ap (λ (h : Header). length h.params + length h.rest) (params_some names params line lines p e),
          more (with_text names p.0) next,
          length-append params ((name_at (place_of names p.0), p.1) ∷ []),
        )

states_left : (params : List (Name × Kind)) (n k : ℕ) (lines : Lines) → length (states_in params n k lines).1 ≤ length lines
unfolding states_in
states_left params n k [] = omega arith
states_left params n k (line ∷ lines) = from (row_of_state params n k line) (states_left params n (k + 1) lines)
  where
    from : (r : Option ℕ) → length (states_in params n (k + 1) lines).1 ≤ length lines → length (kept r (states_in params n (k + 1) lines) ([], line ∷ lines)).1 ≤ suc (length lines)
    from None more = omega arith
    from (Some row) more = omega (arith, more)

-- ---- the sections together

-- the parameters, what is left behind them, and the numbers of lines
pub header_count : (old names : List (List ℕ)) (params : List (Name × Kind)) (lines rest : Lines) → params_in old [] lines ≡ record { names = names; params = params; rest = rest } → length params + length rest ≡ length lines
header_count old names params lines rest h = omega (arith, ap (λ (h : Header). length h.params + length h.rest) h, params_count old [] lines)

-- the rows, by the list of parameters that the code read
module _ (names : List (List ℕ)) (params shown : List (Name × Kind)) (lines rest : Lines) (found : List TableRow) (same : shown ≡ params) (body : (found, rest) ≡ rows_in names shown (length lines) 0 lines) where
  pub body_is : (found, rest) ≡ rows_in names params (length lines) 0 lines
  body_is = body ∙ ap (λ ps. rows_in names ps (length lines) 0 lines) same

  pub body_marks : length (rows_marks names params [] None found) + length rest ≡ length lines
  body_marks = ap (λ (r : List TableRow × Lines). length (rows_marks names params [] None r.0) + length r.1) body_is ∙ rows_marks_count names params (length lines) 0 lines [] None

  pub body_few : length found + length rest ≤ length lines
  body_few = omega (arith, body_marks, rows_few names params [] None found)

  pub body_forms : AreApart params → AreRowsOf params 0 found
  body_forms apart = subst (λ (r : List TableRow × Lines). AreRowsOf params 0 r.0) (sym body_is) (rows_are names params (length lines) 0 lines apart)

-- the states, by the lists that the code read
module _ (params shown : List (Name × Kind)) (found rows : List TableRow) (lines rest : Lines) (states : List ℕ) (same : shown ≡ params) (same_rows : rows ≡ found) (tail : (states, rest) ≡ states_in shown (length rows) 0 lines) where
  pub tail_is : (states, rest) ≡ states_in params (length found) 0 lines
  tail_is = tail ∙ ap (λ ps. states_in ps (length rows) 0 lines) same ∙ ap (λ (rs : List TableRow). states_in params (length rs) 0 lines) same_rows

  pub tail_left : length rest ≤ length lines
  tail_left = omega (arith, ap (λ (r : List ℕ × Lines). length r.1) tail_is, states_left params (length found) 0 lines)

  pub tail_below : AllByRecursion (λ i. i < length found) states
  tail_below = subst (λ (r : List ℕ × Lines). AllByRecursion (λ i. i < length found) r.0) (sym tail_is) (states_are params (length found) 0 lines)

-- ---- the version line

pub no_version : (names : List (List ℕ)) (lines : Lines) → lines ≡ [] → lines_read names lines ≡ Err (fault.Form 1)
unfolding lines_read
no_version names lines h = ap (lines_read names) h

pub other_version : (names : List (List ℕ)) (lines : Lines) (line : List ℕ) (after : Lines) → lines ≡ line ∷ after → bytes_eq line (codes "occam-normal 1\n") ≡ false → lines_read names lines ≡ Err (fault.Form 1)
unfolding lines_read
other_version names lines line after h other = ap (lines_read names) h ∙ cond-false (bytes_eq line (codes "occam-normal 1\n")) (behind_params (1 + length after) (params_in names [] after)) (Err (fault.Form 1)) other

version : (names : List (List ℕ)) (lines : Lines) (line : List ℕ) (after : Lines) → lines ≡ line ∷ after → bytes_eq line (codes "occam-normal 1\n") ≡ true → behind_params (length lines) (params_in names [] after) ≡ lines_read names lines
unfolding lines_read
version names lines line after h is =
    let count : length lines ≡ 1 + length after = omega (arith, ap length h) in
    ap (λ n. behind_params n (params_in names [] after)) count
    ∙ sym (ap (lines_read names) h ∙ cond-true (bytes_eq line (codes "occam-normal 1\n")) (behind_params (1 + length after) (params_in names [] after)) (Err (fault.Form 1)) is)

pub behind_is : {E : Type 0} (result : Result (Result Table TableFault) E) (old names : List (List ℕ)) (lines : Lines) (line : List ℕ) (after : Lines) → lines ≡ line ∷ after → bytes_eq line (codes "occam-normal 1\n") ≡ true
    → IfOk result (λ found. IsRead names found (behind_params (length lines) (params_in old [] after))) → IfOk result (λ found. IsRead names found (lines_read old lines))
behind_is result old names lines line after h is = subst (λ r. IfOk result (λ found. IsRead names found r)) (version old lines line after h is)

-- ---- nothing left

pub nothing_left : (text : List ℕ) → is_none (rows text) ≡ eqb (length text) 0
nothing_left [] = ap is_none (rows_empty [] refl)
nothing_left (byte ∷ text) = from (first_row_is (byte ∷ text) (omega arith))
  where
    from : IsRow (byte ∷ text) (first_row (byte ∷ text)) → is_none (rows (byte ∷ text)) ≡ eqb (length (byte ∷ text)) 0
    from row = ap is_none row.parts ∙ sym (ne_eqb (length (byte ∷ text)) 0 (λ e. absurd (omega (arith, e))))
