-- The table of an interface without parameters: no event has a place in it, so that the table of names doesn't matter to its text.
use Rattle.std.proofs.Common.{◌≡◌, ◌+◌, ◌≤◌, ◌<◌, ◌^◌, ℕ, zero, suc, Bool, true, false, cond, List, [], ◌∷◌, ◌++◌, length, Option, Some, None, Ok, Err, refl, sym, ap, ◌∙◌, subst, arith}
use Rattle.std.specs.Prelude.{codes, decimal, if◌then◌else◌}
use Rattle.std.specs.Str.{bytes_eq}
use Rattle.std.specs.List.{list_all, AllByRecursion}
use Rattle.std.proofs.lemmas.Bool.{false≢true}
use Rattle.std.proofs.lemmas.Option.{slice_get_within}
use mathlib.Core.Path.{fun_ext}
use Rattle.occ_syntax.specs.occ_base.declared.event.Event.{Event}
use Rattle.occ_syntax.specs.occ_base.declared.names.Name.{Name}
use Rattle.occ_syntax.specs.occ_base.Names.{IsDistinct, place_of, with_text}
use Rattle.occ_nform_rows.specs.occ_lex.Rows.{rows as lines_of}
use Rattle.occ_syntax.specs.declared.scope.Kind.{Kind}
use Rattle.occ_syntax.specs.Scopes.{environment, in_interface}
use Rattle.occ_nform_rows.specs.occ_nform_table.declared.table.TableFault.{TableFault}
use Rattle.occ_nform_rows.specs.occ_nform_table.declared.table.TableFault.TheVariants as fault
use Rattle.occ_nform_rows.specs.occ_nform_table.declared.table.TableRow.{TableRow}
use Rattle.occ_nform_rows.specs.occ_nform_table.Judging.{accepts_text, offers_text, ends_text, row_text, row_marks, rows_marks, height_over, comes_after, placed, is_reached}
use Rattle.occ_nform_rows.specs.occ_nform_table.Lines.{accept_of, can_follow, end_of, event_of, is_rising, is_row, next_param, offer_of, set_of, below}
use Rattle.occ_nform_rows.specs.occ_nform_table.Words.{between, cut, each, items_of, number_of, then_read}
use Rattle.occ_nform_rows.specs.occ_nform_table.Normal.{Parts, behind_params, finished, first_empty, first_mark, first_unreached, is_whole, judged, lines_read, or_fault, line_at, table_fault, text_read}
use Rattle.occ_nform_rows.specs.occ_nform_table.Reading.{Header, Lines, either, params_in, row_behind, rows_in, states_in, taken, with_row}
use Rattle.occ_nform_rows.specs.occ_nform_table.Tables.{are_params, AreRowsOf, IsNormal, IsRowOf}
use Rattle.occ_nform_rows.specs.occ_nform_table.Texts.{params_text, rows_text, states_text, table_text}
use Rattle.occ_nform_rows.proofs.from_nform_table.TextTables.{reads_back}

abbrev plain : List (List ℕ) → List TableRow → List ℕ → Parts
plain names rows states = record { names = names; params = []; rows = rows; states = states }

-- the lines of a row, by how ACCEPT lines and OFFER lines are read
abbrev behind_by : (List ℕ → Option (List Event)) → (List ℕ → Option (Event × ℕ)) → Lines → TableRow × Lines
behind_by accept offer lines = (
  record {
    ends = (taken (end_of []) lines).0;
    accepts = (taken accept (taken (end_of []) lines).1).0;
    offers = (taken offer (taken accept (taken (end_of []) lines).1).1).0;
  },
  (taken offer (taken accept (taken (end_of []) lines).1).1).1,
)

module _ (names others : List (List ℕ)) where
  -- ---- how it is written
  accepts_plain : (sets : List (List Event)) → AllByRecursion (λ set. (list_all (in_interface (environment [])) set ≡ true) × (is_rising [] 0 set ≡ true)) sets → accepts_text names sets ≡ accepts_text others sets
  unfolding accepts_text
  accepts_plain [] h = refl
  accepts_plain ([] ∷ sets) h = ap (λ l. codes "ACCEPT {}\n" ++ l) (accepts_plain sets h.1)
  accepts_plain ((e ∷ set) ∷ sets) h = absurd (false≢true h.0.0)

  offers_plain : (n : ℕ) (offers : List (Event × ℕ)) → AllByRecursion (λ (o : Event × ℕ). (in_interface (environment []) o.0 ≡ true) × (o.1 < n)) offers → offers_text names offers ≡ offers_text others offers
  unfolding offers_text
  offers_plain n [] h = refl
  offers_plain n (o ∷ offers) h = absurd (false≢true h.0.0)

  row_plain : (n : ℕ) (row : TableRow) → IsRowOf [] n row → row_text names row ≡ row_text others row
  row_plain n row is = λ i. ends_text row.ends ++ accepts_plain row.accepts is.accepts i ++ offers_plain n row.offers is.offers i

  rows_plain : (n m : ℕ) (rows : List TableRow) → AreRowsOf [] n rows → rows_text names m rows ≡ rows_text others m rows
  unfolding rows_text
  rows_plain n m [] h = refl
  rows_plain n m (row ∷ rows) h = λ i. codes "ROW " ++ decimal m ++ codes "\n" ++ row_plain n row h.0 i ++ rows_plain (n + 1) (m + 1) rows h.1 i

  -- ---- what is wrong with it
  marks_plain : (n : ℕ) (heights : List ℕ) (before : Option (ℕ × List ℕ)) (rows : List TableRow) → AreRowsOf [] n rows → rows_marks names [] heights before rows ≡ rows_marks others [] heights before rows
  unfolding rows_marks
  marks_plain n heights before [] h = refl
  marks_plain n heights before (row ∷ rows) h =
      let own = row_plain n row h.0 in
      let height = height_over heights row.offers in
      (λ i. placed (comes_after before (height, own i)) ∷ row_marks [] row ++ rows_marks names [] (heights ++ height ∷ []) (Some (height, own i)) rows)
      ∙ ap (λ l. placed (comes_after before (height, row_text others row)) ∷ row_marks [] row ++ l) (marks_plain (n + 1) (heights ++ height ∷ []) (Some (height, row_text others row)) rows h.1)

  fault_plain : (rows : List TableRow) (states : List ℕ) → AreRowsOf [] 0 rows → table_fault (plain names rows states) ≡ table_fault (plain others rows states)
  unfolding table_fault
  fault_plain rows states h = ap (λ marks. or_fault (first_mark 2 marks) (or_fault (first_empty 0 rows) (first_unreached (is_reached rows states) (length rows) 0))) (marks_plain 0 [] None rows h)

  -- ---- how it is read
  event_plain : event_of names [] ≡ event_of others []
  unfolding event_of
  event_plain = fun_ext (λ word. refl)

  set_plain : set_of names [] ≡ set_of others []
  unfolding set_of
  set_plain = fun_ext (λ text. ap (λ f. then_read (each f (items_of text)) (λ events. if is_rising [] 0 events then Some events else None)) event_plain)

  accept_plain : accept_of names [] ≡ accept_of others []
  unfolding accept_of
  accept_plain = fun_ext (λ line. ap (then_read (between (codes "ACCEPT {") (codes "}\n") line)) set_plain)

  offer_plain : (n : ℕ) → offer_of names [] n ≡ offer_of others [] n
  unfolding offer_of
  offer_plain n = fun_ext (λ line. ap (λ f. then_read (between (codes "OFFER ") (codes "\n") line) (λ text. then_read (cut 32 text) (λ parts. then_read (f parts.0) (λ event. then_read (number_of parts.1) (λ row. then_read (below n row) (λ row. Some (event, row))))))) event_plain)

  behind_plain : (n : ℕ) (lines : Lines) → row_behind names [] n lines ≡ row_behind others [] n lines
  unfolding row_behind
  behind_plain n lines = λ i. behind_by (accept_plain i) (offer_plain n i) lines

  read_step : (most n : ℕ) → rows_in names [] most (n + 1) ≡ rows_in others [] most (n + 1) → (lines : Lines) → rows_in names [] (suc most) n lines ≡ rows_in others [] (suc most) n lines
  unfolding rows_in
  read_step most n rest [] = refl
  read_step most n rest (line ∷ lines) = λ i. if is_row n line then with_row (behind_plain n lines i) (rest i) else ([], line ∷ lines)

  read_plain : (most n : ℕ) → rows_in names [] most n ≡ rows_in others [] most n
  unfolding rows_in
  read_plain zero n = fun_ext (λ lines. refl)
  read_plain (suc most) n = fun_ext (read_step most n (read_plain most (n + 1)))

  next_plain : (line : List ℕ) → next_param names [] line ≡ next_param others [] line
  unfolding next_param can_follow
  next_plain line = refl

-- ---- headers
abbrev header : List (List ℕ) → List (Name × Kind) → Lines → Header
header names params lines = record { names = names; params = params; rest = lines }

-- the header behind a PARAM line
abbrev behind_param : List (List ℕ) → List (Name × Kind) → Lines → List ℕ × Kind → Header
behind_param names params lines k = params_in (with_text names k.0) (params ++ (record { 0 = place_of names k.0 }, k.1) ∷ []) lines

abbrev HasMore : Header → Type 0
HasMore h = (q : Name × Kind) × (rest : List (Name × Kind)) × (h.params ≡ q ∷ rest)

header_more : (names : List (List ℕ)) (p : Name × Kind) (params : List (Name × Kind)) (lines : Lines) → HasMore (params_in names (p ∷ params) lines)
unfolding params_in
header_more names p params [] = (p, params, refl)
header_more names p params (line ∷ lines) = at (λ k. header_more (with_text names k.0) p (params ++ (record { 0 = place_of names k.0 }, k.1) ∷ []) lines) (next_param names (p ∷ params) line)
  where
    at : ((k : List ℕ × Kind) → HasMore (behind_param names (p ∷ params) lines k)) → (o : Option (List ℕ × Kind)) → HasMore (either o (header names (p ∷ params) (line ∷ lines)) (behind_param names (p ∷ params) lines))
    at more None = (p, params, refl)
    at more (Some k) = more k

found_as : (b : Bool) (o : Option TableFault) (u t : Parts) (line : ℕ) → cond b (judged u o) (Err (fault.Form line)) ≡ Ok t → u ≡ t
found_as true None u t line h = cc
found_as true (Some f) u t line h = absurd (cc)
found_as false o u t line h = absurd (cc)

finished_params : (all : ℕ) (h : Header) (t : Parts) → behind_params all h ≡ Ok t → h.params ≡ t.params
finished_params all h t e =
    let r = rows_in h.names h.params (length h.rest) 0 h.rest in
    let s = states_in h.params (length r.0) 0 r.1 in
    let u : Parts = record { names = h.names; params = h.params; rows = r.0; states = s.0 } in
    ap (λ (v : Parts). v.params) (found_as (is_whole h.params s) (table_fault u) u t (line_at all (length s.1)) e)

no_names : IsDistinct []
no_names i j text h k = absurd (omega (arith, slice_get_within [] i text h))

-- ---- whole texts
module _ (names : List (List ℕ)) (rows : List TableRow) (states : List ℕ) (normal : IsNormal (plain names rows states)) where
  bare : IsNormal (plain [] rows states)
  unfolding are_params
  bare = record {
    interface = record { named = tt; wide = tt; few = normal.interface.few; bits = normal.interface.bits };
    params = refl;
    rows = normal.rows;
    count = normal.count;
    states = normal.states;
    fine = fault_plain [] names rows states normal.rows ∙ normal.fine;
  }

  text_plain : table_text names [] rows states ≡ table_text [] [] rows states
  unfolding table_text params_text
  text_plain = ap (λ l. codes "occam-normal 1\n" ++ l ++ states_text [] 0 states) (rows_plain names [] 0 0 rows normal.rows)

  finished_as : (b : Bool) (r : List TableRow) (u : List ℕ) (line : ℕ) → cond b (judged (plain [] r u) (table_fault (plain [] r u))) (Err (fault.Form line)) ≡ Ok (plain [] rows states)
      → cond b (judged (plain names r u) (table_fault (plain names r u))) (Err (fault.Form line)) ≡ Ok (plain names rows states)
  finished_as true r u line h =
      let e = found_as true (table_fault (plain [] r u)) (plain [] r u) (plain [] rows states) line h in
      (λ i. judged (plain names (e i).rows (e i).states) (table_fault (plain names (e i).rows (e i).states))) ∙ ap (judged (plain names rows states)) normal.fine
  finished_as false r u line h = absurd (cc)

  behind_as : (all : ℕ) (lines : Lines) → behind_params all (header [] [] lines) ≡ Ok (plain [] rows states) → behind_params all (header names [] lines) ≡ Ok (plain names rows states)
  behind_as all lines h =
      let r = rows_in [] [] (length lines) 0 lines in
      let s = states_in [] (length r.0) 0 r.1 in
      subst (λ (x : List TableRow × Lines). finished all (header names [] lines) x (states_in [] (length x.0) 0 x.1) ≡ Ok (plain names rows states))
      (ap (λ f. f lines) (read_plain [] names (length lines) 0)) (finished_as (is_whole [] s) r.0 s.0 (line_at all (length s.1)) h)

  header_as : (all : ℕ) (line : List ℕ) (lines : Lines) (o : Option (List ℕ × Kind)) → behind_params all (either o (header [] [] (line ∷ lines)) (behind_param [] [] lines)) ≡ Ok (plain [] rows states)
      → behind_params all (either o (header names [] (line ∷ lines)) (behind_param names [] lines)) ≡ Ok (plain names rows states)
  header_as all line lines None h = behind_as all (line ∷ lines) h
  header_as all line lines (Some k) h =
      let more = header_more (with_text [] k.0) (record { 0 = place_of [] k.0 }, k.1) [] lines in
      absurd (clash (sym (finished_params all (behind_param [] [] lines k) (plain [] rows states) h) ∙ more.2))
    where
      clash : {q : Name × Kind} {rest : List (Name × Kind)} → [] ≡ q ∷ rest → ⊥
      clash e = absurd (cc)

  first_as : (b : Bool) (lines : Lines) → cond b (behind_params (1 + length lines) (params_in [] [] lines)) (Err (fault.Form 1)) ≡ Ok (plain [] rows states)
      → cond b (behind_params (1 + length lines) (params_in names [] lines)) (Err (fault.Form 1)) ≡ Ok (plain names rows states)
  unfolding params_in
  first_as false lines h = absurd (cc)
  first_as true [] h = behind_as 1 [] h
  first_as true (line ∷ lines) h =
      subst (λ o. behind_params (1 + length (line ∷ lines)) (either o (header names [] (line ∷ lines)) (behind_param names [] lines)) ≡ Ok (plain names rows states)) (next_plain [] names line)
      (header_as (1 + length (line ∷ lines)) line lines (next_param [] [] line) h)

  lines_as : (lines : Lines) → lines_read [] lines ≡ Ok (plain [] rows states) → lines_read names lines ≡ Ok (plain names rows states)
  unfolding lines_read
  lines_as [] h = absurd (cc)
  lines_as (line ∷ lines) h = first_as (bytes_eq line (codes "occam-normal 1\n")) lines h

  plain_reads : length rows ≤ 10 ^ 64 → text_read names (table_text names [] rows states) ≡ Ok (plain names rows states)
  plain_reads few =
      ap (text_read names) text_plain ∙ lines_as (lines_of (table_text [] [] rows states)) (reads_back (plain [] rows states) no_names bare few)

by_params : (names : List (List ℕ)) (params : List (Name × Kind)) (rows : List TableRow) (states : List ℕ) → (0 < length params → IsDistinct names) → IsNormal (record { names = names; params = params; rows = rows; states = states })
    → length rows ≤ 10 ^ 64 → text_read names (table_text names params rows states) ≡ Ok (record { names = names; params = params; rows = rows; states = states })
by_params names [] rows states distinct normal few = plain_reads names rows states normal few
by_params names (p ∷ params) rows states distinct normal few = reads_back (record { names = names; params = p ∷ params; rows = rows; states = states }) (distinct (omega arith)) normal few

-- The text of a normal table reads as that table. Where it has parameters, the names are distinct.
pub reads : (t : Parts) → (0 < length t.params → IsDistinct t.names) → IsNormal t → length t.rows ≤ 10 ^ 64 → text_read t.names (table_text t.names t.params t.rows t.states) ≡ Ok t
reads t distinct normal few = by_params t.names t.params t.rows t.states distinct normal few
