-- A text is read as a table where it is written so, and else it is faulty where no table's text goes on.
use Rattle.std.proofs.Common.{◌≡◌, ◌↔◌, ◌∙◌, ℕ, zero, suc, ◌+◌, ◌^◌, ◌<◌, ◌≤◌, Bool, true, false, eqb, List, [], ◌∷◌, ◌++◌, length, map, take, max, Option, None, Some, Result, Ok, Err, refl, sym, ap, subst, arith, append_assoc, append-nil, length-append, ⊎_elim}
use Rattle.std.specs.Prelude.{codes}
use Rattle.std.specs.List.{AllByRecursion, concat}
use Rattle.std.specs.Str.{bytes_eq}
use Rattle.std.proofs.lemmas.Bool.{and_parts, both_ways, cases_Bool, cond-false, cond-true, eqb-true}
use Rattle.std.proofs.lemmas.List.{append_cancel_right}
use Rattle.std.proofs.lemmas.Option.{none-some, same_Some}
use Rattle.std.proofs.lemmas.Slice.Eq.{bytes_eq-Decides}
use Rattle.occ_syntax.specs.occ_base.declared.names.Name.{Name}
use Rattle.occ_nform_read.specs.occ_lex.Rows.{rows}
use Rattle.occ_syntax.specs.Counts.{bits_of_scope}
use Rattle.occ_syntax.specs.declared.scope.Kind.{Kind}
use Rattle.occ_nform_read.specs.occ_nform_table.Judging.{Excessive, Fine, Mark, Misplaced, is_empty_row, is_none, is_reached, rows_marks}
use Rattle.occ_nform_read.specs.occ_nform_table.Normal.{Parts, behind_params, finished, first_empty, first_mark, first_unreached, is_whole, judged, line_at, lines_read, or_fault, table_fault, text_read}
use Rattle.occ_nform_read.specs.occ_nform_table.Reading.{Header, Lines, params_in, rows_in, states_in}
use Rattle.occ_nform_read.specs.occ_nform_table.Texts.{params_text, rows_text, states_text}
use Rattle.occ_nform_read.specs.occ_nform_table.declared.table.TableFault.{TableFault}
use Rattle.occ_nform_read.specs.occ_nform_table.declared.table.TableFault.TheVariants as fault
use Rattle.occ_nform_read.specs.occ_nform_table.declared.table.TableRow.{TableRow}
use Rattle.occ_nform_read.proofs.from_nform_table.Header.{IsHeader, params_inv}
use Rattle.occ_nform_read.proofs.from_nform_table.Lines.{IsLine, are_lines-append, joined, joined-append}
use Rattle.occ_nform_read.proofs.from_nform_table.TextNamed.{are_named}
use Rattle.occ_nform_read.proofs.from_nform_table.Names.{apart}
use Rattle.occ_nform_read.proofs.from_nform_table.PlaceNames.{state_lines, states_are_lines, states_joined}
use Rattle.occ_nform_read.proofs.from_nform_table.ReadWords.{bytes_same}
use Rattle.occ_nform_read.proofs.from_nform_table.Sections.{AreRowsRead, AreStatesRead, rows_inv, states_inv}
use Rattle.occ_nform_read.proofs.from_nform_table.TextTables.{behind_part, behind_read, no_param, rows_are_lines, rows_lines, rows_texts_joined, version}
use Rattle.occ_nform_read.proofs.from_nform_table.Whole.{AreLines, are_lines, no_params, no_text}
use Rattle.occ_nform_read.proofs.from_nform_table.WrittenParams.{other_header, param_line, params_are_lines, params_joined}
use Rattle.occ_behaviour_read.proofs.Lists.{err_is, first_is, later_are, no_line, ok_is, ok_not}
use Rattle.occ_behaviour_read.proofs.Fronts.{HasBytes, IsPart, bytes_in_front, few_rows, form_of, joined_concat, lines_of, part_goes, rows_behind, rows_have_bytes, same_front, table_lines, take_front, take_one_more}
use Rattle.occ_behaviour_read.proofs.Headers.{AreOwn, grow_read, header_own}
use Rattle.occ_behaviour_read.proofs.Local.{IsWholeLocal, whole_local}
use Rattle.occ_behaviour_read.proofs.Params.{are_from}
use Rattle.occ_behaviour_read.proofs.Stops.{goes_front, no_stop, one_stop}
use Rattle.occ_behaviour_read.specs.Stops.{GoesOn, StopsAt, within, too_early}
use Rattle.occ_behaviour_read.specs.Tables.{AreTableLines, IsTable, IsTableFault, IsTableText, disordered, misshapen}

-- ---- the faults of a table are of no line's form

abbrev IsForm : TableFault → Type 0
IsForm (fault.Form line) = Unit {0}
IsForm (fault.Order line) = ⊥
IsForm (fault.NotLeast line) = ⊥
IsForm (fault.Empty row) = ⊥
IsForm (fault.Unreached row) = ⊥
IsForm fault.Memory = ⊥

no_form_of : (g : TableFault) → (IsForm g → ⊥) → (f : TableFault) → Some g ≡ Some f → IsForm f → ⊥
no_form_of g h f e k = h (subst IsForm (sym (same_Some g f e)) k)

marks_no_form : (line : ℕ) (marks : List Mark) (f : TableFault) → first_mark line marks ≡ Some f → IsForm f → ⊥
unfolding first_mark
marks_no_form line [] f e h = none-some f e
marks_no_form line (Fine ∷ marks) f e h = marks_no_form (line + 1) marks f e h
marks_no_form line (Misplaced ∷ marks) f e h = no_form_of (fault.Order line) (λ k. k) f e h
marks_no_form line (Excessive ∷ marks) f e h = no_form_of (fault.NotLeast line) (λ k. k) f e h

empty_no_form : (n : ℕ) (rows : List TableRow) (f : TableFault) → first_empty n rows ≡ Some f → IsForm f → ⊥
unfolding first_empty
empty_no_form n [] f e h = none-some f e
empty_no_form n (row ∷ rows) f e h = ⊎_elim
    (λ (t : is_empty_row row ≡ true). no_form_of (fault.Empty n) (λ k. k) f (sym (cond-true (is_empty_row row) (Some (fault.Empty n)) (first_empty (n + 1) rows) t) ∙ e) h)
    (λ (o : is_empty_row row ≡ false). empty_no_form (n + 1) rows f (sym (cond-false (is_empty_row row) (Some (fault.Empty n)) (first_empty (n + 1) rows) o) ∙ e) h)
    (cases_Bool (is_empty_row row))

unreached_no_form : (reached : ℕ → Bool) (more n : ℕ) (f : TableFault) → first_unreached reached more n ≡ Some f → IsForm f → ⊥
unfolding first_unreached
unreached_no_form reached zero n f e h = none-some f e
unreached_no_form reached (suc more) n f e h = ⊎_elim
    (λ (t : reached n ≡ true). unreached_no_form reached more (n + 1) f (sym (cond-true (reached n) (first_unreached reached more (n + 1)) (Some (fault.Unreached n)) t) ∙ e) h)
    (λ (o : reached n ≡ false). no_form_of (fault.Unreached n) (λ k. k) f (sym (cond-false (reached n) (first_unreached reached more (n + 1)) (Some (fault.Unreached n)) o) ∙ e) h)
    (cases_Bool (reached n))

or_no_form : (a b : Option TableFault) → ((f : TableFault) → a ≡ Some f → IsForm f → ⊥) → ((f : TableFault) → b ≡ Some f → IsForm f → ⊥) → (f : TableFault) → or_fault a b ≡ Some f → IsForm f → ⊥
or_no_form None b h k f e i = k f e i
or_no_form (Some g) b h k f e i = h f e i

table_no_form : (t : Parts) (f : TableFault) → table_fault t ≡ Some f → IsForm f → ⊥
unfolding table_fault
table_no_form t =
    or_no_form (first_mark (2 + length t.params) (rows_marks t.names t.params [] None t.rows)) (or_fault (first_empty 0 t.rows) (first_unreached (is_reached t.rows t.states) (length t.rows) 0))
    (marks_no_form (2 + length t.params) (rows_marks t.names t.params [] None t.rows))
    (or_no_form (first_empty 0 t.rows) (first_unreached (is_reached t.rows t.states) (length t.rows) 0) (empty_no_form 0 t.rows) (unreached_no_form (is_reached t.rows t.states) (length t.rows) 0))

-- ---- what is written is read

judged_err : (t : Parts) (o : Option TableFault) (f : TableFault) → judged t o ≡ Err f → o ≡ Some f
judged_err t None f e = absurd (ok_not e)
judged_err t (Some g) f e = ap Some (err_is e)

-- the lines of a table's text are read as the table, or its first fault
lines_back : (t : Parts) (is : IsTable t) → lines_read [] (lines_of t.names t.params t.rows t.states) ≡ judged t (table_fault t)
unfolding lines_read behind_part
lines_back t is =
    let form = form_of t is in
    let few = few_rows (length t.rows) is.few in
    let behind : Lines = rows_lines t.names 0 t.rows ++ state_lines t.params 0 t.states in
    let read : params_in [] [] (map (param_line t.names) t.params ++ behind) ≡ other_header t.names t.params behind =
    grow_read t.names is.distinct [] [] t.params behind form.params tt form.interface.named form.interface.wide (sym is.named) (no_param t.names t.params 0 t.states 0 t.rows) in
    ap (behind_params (1 + length (map (param_line t.names) t.params ++ behind))) read ∙ behind_read t is.distinct form few (1 + length (map (param_line t.names) t.params ++ behind))

pub read_back : (t : Parts) (lines : Lines) → IsTableText t lines → lines_read [] lines ≡ judged t (table_fault t)
read_back t lines is = ap (lines_read []) (is.written ∙ table_lines t is.form) ∙ lines_back t is.form

-- lines that aren't of the form for their place are no table's
no_table : (lines : Lines) (k : ℕ) → lines_read [] lines ≡ Err (fault.Form k) → AreTableLines lines → ⊥
no_table lines k e h = table_no_form h.0 (fault.Form k) (judged_err h.0 (table_fault h.0) (fault.Form k) (sym (read_back h.0 lines h.1) ∙ e)) tt

-- ---- what a text is read as

data Outcome (lines : Lines) (r : Result Parts TableFault) : Type 0 where
  as_table : (t : Parts) → IsTableText t lines → r ≡ judged t (table_fault t) → Outcome lines r
  as_stopped : (k : ℕ) → StopsAt AreTableLines lines k → r ≡ Err (fault.Form k) → Outcome lines r

no_part : IsPart [] [] [] []
no_part = record {
  interface = record { named = tt; wide = tt; few = omega arith; bits = omega arith };
  are = no_params [];
  own = record { texts = refl; distinct = λ i j text e f. absurd (none-some text e); named = tt };
  form = tt;
  few = omega arith;
  states_few = omega arith;
  below = tt;
}

nothing_goes : GoesOn AreTableLines []
nothing_goes = goes_front AreTableLines 0 (lines_of [] [] [] []) (part_goes [] [] [] [] no_part)

part_joined : (names : List (List ℕ)) (params : List (Name × Kind)) (rows : List TableRow) (states : List ℕ)
    → version ++ (params_text names params ++ (rows_text names 0 rows ++ states_text params 0 states)) ≡ joined (lines_of names params rows states)
part_joined names params rows states =
    ap (λ t. version ++ t)
    ((λ i. params_joined names params i ++ ((λ j. rows_texts_joined names 0 rows j ++ states_joined params 0 states j) ∙ sym (joined-append (rows_lines names 0 rows) (state_lines params 0 states))) i)
    ∙ sym (joined-append (map (param_line names) params) (rows_lines names 0 rows ++ state_lines params 0 states)))

part_lines : (names : List (List ℕ)) (params : List (Name × Kind)) (rows : List TableRow) (states : List ℕ) → IsPart names params rows states → AllByRecursion IsLine (lines_of names params rows states)
part_lines names params rows states is =
    let few = few_rows (length rows) is.few in
    let bounded : 0 + length rows ≤ 10 ^ 64 = omega (arith, few) in (
      record { body = codes "occam-normal 1"; whole = refl; quiet = refl },
      are_lines-append (map (param_line names) params) (rows_lines names 0 rows ++ state_lines params 0 states) (params_are_lines names params (are_named names [] params is.are) is.interface.wide)
          (are_lines-append (rows_lines names 0 rows) (state_lines params 0 states) (rows_are_lines names params is.own.distinct is.interface is.are 0 rows bounded is.form)
          (states_are_lines params is.interface.wide (length rows) few 0 states is.below)),
    )

none_left : (lines : Lines) → is_none lines ≡ true → lines ≡ []
none_left [] h = refl
none_left (line ∷ lines) h = absurd (both_ways false refl h)

-- the text behind its version line
module _ (text : List ℕ) (short : length text < 2 ^ 32) (xs : Lines) (lines_are : rows text ≡ version ∷ xs) where
  abbrev h : Header
  h = params_in [] [] xs

  abbrev rs : List TableRow × Lines
  rs = rows_in h.names h.params (length h.rest) 0 h.rest

  abbrev ss : List ℕ × Lines
  ss = states_in h.params (length rs.0) 0 rs.1

  header : IsHeader [] [] xs h
  header = params_inv [] [] xs no_part.interface (no_params [])

  own : AreOwn h.names h.params
  own = header_own [] [] xs no_part.own

  count : length h.rest < 2 ^ 32
  count =
      let all : AreLines text (rows text) = are_lines text in
      let n : length (rows text) ≡ suc (length xs) = ap (λ (ls : Lines). length ls) lines_are in
      omega (arith, short, all.few, n, header.shorter)

  middle : AreRowsRead h.names h.params (length h.rest) 0 h.rest rs
  middle = rows_inv h.names h.params (length h.rest) 0 h.rest (apart h.names [] h.params header.are) (omega (arith, count))

  last : AreStatesRead h.params (length rs.0) 0 rs.1 ss
  last = states_inv h.params (length rs.0) 0 rs.1 (omega (arith, count, middle.few))

  part : IsPart h.names h.params rs.0 ss.0
  part = record {
    interface = header.interface;
    are = header.are;
    own = own;
    form = middle.form;
    few = omega (arith, count, middle.few);
    states_few = omega (arith, last.within (omega arith));
    below = last.each_is;
  }

  abbrev front : Lines
  front = lines_of h.names h.params rs.0 ss.0

  text_is : text ≡ joined front ++ concat ss.1
  text_is =
      let all : AreLines text (rows text) = are_lines text in
      let ps : List ℕ = params_text h.names h.params in
      let ts : List ℕ = rows_text h.names 0 rs.0 in
      let us : List ℕ = states_text h.params 0 ss.0 in
      let behind : concat xs ≡ ps ++ concat h.rest = ap (λ t. t ++ concat xs) (sym (no_text [])) ∙ header.written in
      let one : concat h.rest ≡ (ts ++ us) ++ concat ss.1 = middle.written ∙ ap (λ t. ts ++ t) last.written ∙ sym (append_assoc ts us (concat ss.1)) in
      let two : concat xs ≡ (ps ++ (ts ++ us)) ++ concat ss.1 = behind ∙ ap (λ t. ps ++ t) one ∙ sym (append_assoc ps (ts ++ us) (concat ss.1)) in
      sym all.joined ∙ ap concat lines_are ∙ ap (λ t. version ++ t) two ∙ sym (append_assoc version (ps ++ (ts ++ us)) (concat ss.1))
      ∙ ap (λ t. t ++ concat ss.1) (part_joined h.names h.params rs.0 ss.0)

  parted : version ∷ xs ≡ front ++ rows (concat ss.1)
  parted = sym lines_are ∙ ap rows text_is ∙ rows_behind front (concat ss.1) (part_lines h.names h.params rs.0 ss.0 part)

  found : Parts
  found = record { names = h.names; params = h.params; rows = rs.0; states = ss.0 }

  no_rows_left : rows [] ≡ []
  unfolding rows
  no_rows_left = refl

  -- where nothing is left the lines are those of the part
  all_read : ss.1 ≡ [] → version ∷ xs ≡ front
  all_read e = parted ∙ ap (λ ls. front ++ rows (concat ls)) e ∙ ap (λ ls. front ++ ls) no_rows_left ∙ append-nil front

  read_is : lines_read [] (version ∷ xs) ≡ finished (1 + length xs) h rs ss
  unfolding lines_read
  read_is = refl

  whole_table : is_whole h.params ss ≡ true → Outcome (version ∷ xs) (lines_read [] (version ∷ xs))
  unfolding found
  whole_table w =
      let parts = and_parts (eqb (length ss.0) (2 ^ bits_of_scope h.params)) (is_none ss.1) w in
      let form : IsTable found = record {
        params = are_from h.names h.params header.interface header.are;
        few_params = header.interface.few;
        few_bits = header.interface.bits;
        distinct = own.distinct;
        named = own.texts;
        rows = middle.form;
        few = part.few;
        count = eqb-true (length ss.0) (2 ^ bits_of_scope h.params) parts.0;
        states = last.each_is;
      } in
      as_table found (record { form = form; written = all_read (none_left ss.1 parts.1) ∙ sym (table_lines found form) })
      (read_is ∙ cond-true (is_whole h.params ss) (judged found (table_fault found)) (Err (fault.Form (line_at (1 + length xs) (length ss.1)))) w)

  stop_is : is_whole h.params ss ≡ false → lines_read [] (version ∷ xs) ≡ Err (fault.Form (line_at (1 + length xs) (length ss.1)))
  unfolding found
  stop_is w = read_is ∙ cond-false (is_whole h.params ss) (judged found (table_fault found)) (Err (fault.Form (line_at (1 + length xs) (length ss.1)))) w

  too_short : ss.1 ≡ [] → lines_read [] (version ∷ xs) ≡ Err (fault.Form (line_at (1 + length xs) (length ss.1))) → Outcome (version ∷ xs) (lines_read [] (version ∷ xs))
  too_short e r =
      let number : line_at (1 + length xs) (length ss.1) ≡ max (length (version ∷ xs)) 1 = ap (λ (ls : Lines). line_at (1 + length xs) (length ls)) e ∙ (let n : 1 + length xs ≡ suc (length xs) = omega arith in ap (λ n. max n 1) n) in
      as_stopped (line_at (1 + length xs) (length ss.1))
      (too_early (subst (GoesOn AreTableLines) (sym (all_read e)) (part_goes h.names h.params rs.0 ss.0 part)) (no_table (version ∷ xs) (line_at (1 + length xs) (length ss.1)) r) number) r

  at_line : (line : List ℕ) (more : Lines) → ss.1 ≡ line ∷ more → lines_read [] (version ∷ xs) ≡ Err (fault.Form (line_at (1 + length xs) (length ss.1))) → Outcome (version ∷ xs) (lines_read [] (version ∷ xs))
  at_line line more e r =
      let local : IsWholeLocal [] xs line more = whole_local [] xs line more e in
      let later : Lines = map (param_line h.names) h.params ++ (rows_lines h.names 0 rs.0 ++ state_lines h.params 0 ss.0) in
      let both : local.front ++ line ∷ more ≡ later ++ rows (concat ss.1) = sym local.are ∙ later_are parted in
      let bytes : joined local.front ++ concat (line ∷ more) ≡ joined later ++ concat (line ∷ more) =
      ap (λ t. joined local.front ++ t) (sym (joined_concat (line ∷ more))) ∙ sym (joined-append local.front (line ∷ more)) ∙ ap joined (sym local.are) ∙ joined_concat xs
      ∙ behind_version ∙ ap (λ ls. joined later ++ concat ls) e in
      let some : AllByRecursion HasBytes (version ∷ xs) = subst (AllByRecursion HasBytes) lines_are (rows_have_bytes text) in
      let same : local.front ≡ later =
      same_front local.front later (line ∷ more) (rows (concat ss.1)) both (append_cancel_right (joined local.front) (joined later) (concat (line ∷ more)) bytes)
      (bytes_in_front xs local.front (line ∷ more) local.are some.1) (bytes_in_front xs later (rows (concat ss.1)) (later_are parted) some.1) in
      let n : ℕ = length local.front in
      let long : length xs ≡ length local.front + suc (length more) = ap (λ (ls : Lines). length ls) local.are ∙ length-append local.front (line ∷ more) in
      let size : length ss.1 ≡ suc (length more) = ap (λ (ls : Lines). length ls) e in
      let here : take (suc n) (version ∷ xs) ≡ front = ap (λ ls. version ∷ ls) (ap (take n) local.are ∙ take_front local.front (line ∷ more) ∙ same) in
      let next : take (suc (suc n)) (version ∷ xs) ≡ version ∷ (local.front ++ line ∷ []) = ap (λ ls. version ∷ ls) (ap (take (suc n)) local.are ∙ take_one_more local.front line more) in
      let number : line_at (1 + length xs) (length ss.1) ≡ suc (suc n) = ap (line_at (1 + length xs)) size ∙ omega (arith, long) in
      as_stopped (line_at (1 + length xs) (length ss.1))
      (within (suc n) (omega (arith, long)) (subst (GoesOn AreTableLines) (sym here) (part_goes h.names h.params rs.0 ss.0 part)) (λ g. refused local (subst (GoesOn AreTableLines) next g)) number) r
    where
      behind_version : concat xs ≡ joined (map (param_line h.names) h.params ++ (rows_lines h.names 0 rs.0 ++ state_lines h.params 0 ss.0)) ++ concat ss.1
      behind_version =
          let all : AreLines text (rows text) = are_lines text in
          append_cancel_left_of (sym (ap concat lines_are) ∙ all.joined ∙ text_is ∙ append_assoc version (joined (map (param_line h.names) h.params ++ (rows_lines h.names 0 rs.0 ++ state_lines h.params 0 ss.0))) (concat ss.1))
        where
          append_cancel_left_of : {a b : List ℕ} → version ++ a ≡ version ++ b → a ≡ b
          append_cancel_left_of k = cc

      refused : (local : IsWholeLocal [] xs line more) → GoesOn AreTableLines (version ∷ (local.front ++ line ∷ [])) → ⊥
      refused local g =
          let bad = local.refused g.0 in
          let e : version ∷ ((local.front ++ line ∷ []) ++ g.0) ≡ version ∷ (local.front ++ line ∷ g.0) = ap (λ ls. version ∷ ls) (append_assoc local.front (line ∷ []) g.0) in
          no_table (version ∷ (local.front ++ line ∷ g.0)) bad.0 bad.1 (subst AreTableLines e g.1)

  outcome_behind : Outcome (version ∷ xs) (lines_read [] (version ∷ xs))
  outcome_behind = ⊎_elim whole_table (λ (w : is_whole h.params ss ≡ false). by_rest ss.1 refl (stop_is w)) (cases_Bool (is_whole h.params ss))
    where
      by_rest : (left : Lines) → ss.1 ≡ left → lines_read [] (version ∷ xs) ≡ Err (fault.Form (line_at (1 + length xs) (length ss.1))) → Outcome (version ∷ xs) (lines_read [] (version ∷ xs))
      by_rest [] e r = too_short e r
      by_rest (line ∷ more) e r = at_line line more e r

-- ---- the whole text

not_version : (line : List ℕ) (xs : Lines) → bytes_eq line version ≡ false → Outcome (line ∷ xs) (lines_read [] (line ∷ xs))
unfolding lines_read
not_version line xs other = as_stopped 1
    (within 0 (omega arith) nothing_goes
    (λ g. both_ways (bytes_eq line version) other ((bytes_eq-Decides line version).1 (first_is (g.1.1.written ∙ table_lines g.1.0 g.1.1.form)))) refl)
    (cond-false (bytes_eq line version) (behind_params (1 + length xs) (params_in [] [] xs)) (Err (fault.Form 1)) other)

nothing_read : Outcome [] (lines_read [] [])
unfolding lines_read
nothing_read = as_stopped 1 (too_early nothing_goes (λ h. no_line (h.1.written ∙ table_lines h.0 h.1.form)) refl) refl

outcome : (text : List ℕ) → length text < 2 ^ 32 → Outcome (rows text) (lines_read [] (rows text))
outcome text short = by_lines (rows text) refl
  where
    by_lines : (lines : Lines) → rows text ≡ lines → Outcome (rows text) (lines_read [] (rows text))
    by_lines [] e = subst (λ ls. Outcome ls (lines_read [] ls)) (sym e) nothing_read
    by_lines (line ∷ xs) e = ⊎_elim
        (λ (t : bytes_eq line version ≡ true).
        let are : rows text ≡ version ∷ xs = e ∙ ap (λ l. l ∷ xs) (bytes_same line version t) in
        subst (λ ls. Outcome ls (lines_read [] ls)) (sym are) (outcome_behind text short xs are))
        (λ (o : bytes_eq line version ≡ false). subst (λ ls. Outcome ls (lines_read [] ls)) (sym e) (not_version line xs o))
        (cases_Bool (bytes_eq line version))

judged_ok : (t u : Parts) (o : Option TableFault) → judged t o ≡ Ok u → (o ≡ None) × (t ≡ u)
judged_ok t u None e = (refl, ok_is e)
judged_ok t u (Some f) e = absurd (ok_not (sym e))

-- a text is read as a normal table where it is the table's text
pub tables_as_written : (text : List ℕ) (t : Parts) → length text < 2 ^ 32 → (text_read [] text ≡ Ok t) ↔ (IsTableText t (rows text) × (table_fault t ≡ None))
tables_as_written text t short = (λ e. there (outcome text short) e, λ k. read_back t (rows text) k.0 ∙ ap (judged t) k.1)
  where
    there : Outcome (rows text) (lines_read [] (rows text)) → text_read [] text ≡ Ok t → IsTableText t (rows text) × (table_fault t ≡ None)
    there (as_table u is e) k =
        let same = judged_ok u t (table_fault u) (sym e ∙ k) in
        let P : Parts → Type 0 = λ v. IsTableText v (rows text) × (table_fault v ≡ None) in
        subst P same.1 (is, same.0)
    there (as_stopped n s e) k = absurd (ok_not (sym k ∙ e))

-- a text has the fault that its lines have
pub faults_as_written : (text : List ℕ) (why : TableFault) → length text < 2 ^ 32 → (text_read [] text ≡ Err why) ↔ IsTableFault (rows text) why
faults_as_written text why short = (λ e. there (outcome text short) e, back)
  where
    there : Outcome (rows text) (lines_read [] (rows text)) → text_read [] text ≡ Err why → IsTableFault (rows text) why
    there (as_table u is e) k = disordered u is (judged_err u (table_fault u) why (sym e ∙ k))
    there (as_stopped n s e) k = misshapen n s (err_is (sym k ∙ e))

    stopped : (line : ℕ) → StopsAt AreTableLines (rows text) line → Outcome (rows text) (lines_read [] (rows text)) → text_read [] text ≡ Err (fault.Form line)
    stopped line s (as_table u is e) = absurd (no_stop AreTableLines (rows text) line s (u, is))
    stopped line s (as_stopped n q e) = e ∙ ap (λ k. Err (fault.Form k)) (one_stop AreTableLines (rows text) n line q s)

    back : IsTableFault (rows text) why → text_read [] text ≡ Err why
    back (misshapen line s e) = stopped line s (outcome text short) ∙ ap Err (sym e)
    back (disordered u is e) = read_back u (rows text) is ∙ ap (judged u) e
