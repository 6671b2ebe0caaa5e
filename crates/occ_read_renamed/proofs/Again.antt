-- A text that reads as a table with one table of names reads as one with any other.
use Rattle.std.proofs.Common.{◌≡◌, ℕ, ◌+◌, ◌<◌, ◌≤◌, ◌^◌, true, false, cond, List, [], ◌∷◌, length, Option, None, Some, Result, Ok, Err, refl, sym, ap, subst, ◌∙◌, arith, lit≤, ⊎_elim}
use Rattle.std.specs.Prelude.{codes}
use Rattle.std.specs.Str.{bytes_eq}
use Rattle.std.proofs.lemmas.Bool.{cases_Bool, cond-false, cond-true}
use Rattle.std.proofs.lemmas.List.{length-map}
use Rattle.occ_nform.specs.occ_base.Names.{IsDistinct}
use Rattle.occ_nform.specs.occ_base.declared.names.Name.{Name}
use Rattle.occ_renamed.specs.occ_lex.Rows.{rows}
use Rattle.occ_read_renamed.proofs.Exchanges.{applied, exchanges_one}
use Rattle.occ_read_renamed.proofs.Headers.{AreLike, Table, again, grown, headers}
use Rattle.occ_read_renamed.proofs.TableNumbers.{exchanged_so, exchanges_of}
use Rattle.occ_read_renamed.proofs.RenamedTables.{StaysAll, normal_so, row_renamed, rows_renamed, table_same}
use Rattle.occ_read_renamed.proofs.Texts.{parts, parts_are, table_short}
use Rattle.occ_read_renamed.specs.Read.{IsReadWith}
use Rattle.occ_nform.specs.occ_nform_table.Lines.{AreNamed}
use Rattle.occ_nform.specs.occ_nform_table.Normal.{Parts, behind_params, finished, is_whole, judged, line_at, lines_read, table_fault, text_read}
use Rattle.occ_nform.specs.occ_nform_table.Reading.{Header, Lines, params_in, rows_in, states_in}
use Rattle.occ_nform.specs.occ_nform_table.Tables.{IsInterface, IsNormal, are_params}
use Rattle.occ_nform.specs.occ_nform_table.Texts.{table_text}
use Rattle.occ_nform.specs.occ_nform_table.declared.table.TableFault.{TableFault}
use Rattle.occ_nform.specs.occ_nform_table.declared.table.TableFault.TheVariants as fault
use Rattle.occ_nform.specs.occ_nform_table.declared.table.TableRow.{TableRow}
use Rattle.occ_nform.proofs.from_nform_table.Header.{params_inv}
use Rattle.occ_nform.proofs.from_nform_table.Names.{apart}
use Rattle.occ_nform.proofs.from_nform_table.TextTables.{reads_back}
use Rattle.occ_nform.proofs.from_nform_table.Whole.{normal_text}
use Rattle.occ_renamed.specs.Renamed.{kinds_renamed}
use Rattle.occ_renamed.specs.Standing.{IsOneForOne}
use Rattle.occ_nform.specs.occ_syntax.declared.scope.Kind.{Kind}

-- ---- what is known of a text that reads as a table

abbrev pub later : Lines → Lines
later [] = []
later (line ∷ lines) = lines

abbrev pub header_of : Table → Lines → Header
header_of names lines = params_in names [] (later lines)

abbrev pub rows_of : Header → List TableRow × Lines
rows_of h = rows_in h.names h.params (length h.rest) 0 h.rest

abbrev pub states_of : Header → List ℕ × Lines
states_of h = states_in h.params (length (rows_of h).0) 0 (rows_of h).1

abbrev table_of : Header → List TableRow × Lines → List ℕ × Lines → Parts
table_of h rows states = record { names = h.names; params = h.params; rows = rows.0; states = states.0 }

-- the lines behind the header read as the table, and nothing is left
pub record IsFound (h : Header) (t : Parts) : Type 0 where
  pub whole : is_whole h.params (states_of h) ≡ true
  pub is : table_of h (rows_of h) (states_of h) ≡ t

not_ok : (f : TableFault) (t : Parts) → ◌≡◌ {A = Result Parts TableFault} (Err f) (Ok t) → ⊥
not_ok f t e = cc

one_ok : (s t : Parts) → ◌≡◌ {A = Result Parts TableFault} (Ok s) (Ok t) → s ≡ t
one_ok s t e = cc

judged_is : (s t : Parts) (o : Option TableFault) → judged s o ≡ Ok t → s ≡ t
judged_is s t None e = one_ok s t e
judged_is s t (Some f) e = absurd (not_ok f t e)

finished_is : (all : ℕ) (h : Header) (rows : List TableRow × Lines) (states : List ℕ × Lines) (t : Parts) → finished all h rows states ≡ Ok t
    → (is_whole h.params states ≡ true) × (table_of h rows states ≡ t)
finished_is all h rows states t e =
    let found = table_of h rows states in
    let other : Result Parts TableFault = Err (fault.Form (line_at all (length states.1))) in
    ⊎_elim
    (λ (y : is_whole h.params states ≡ true). (y, judged_is found t (table_fault found) (sym (cond-true (is_whole h.params states) (judged found (table_fault found)) other y) ∙ e)))
    (λ (n : is_whole h.params states ≡ false).
    absurd (not_ok (fault.Form (line_at all (length states.1))) t (sym (cond-false (is_whole h.params states) (judged found (table_fault found)) other n) ∙ e)))
    (cases_Bool (is_whole h.params states))

abbrev pub version : List ℕ
version = codes "occam-normal 1\n"

-- the version line stands in front
abbrev pub IsVersioned : Lines → Type 0
IsVersioned [] = ⊥
IsVersioned (line ∷ lines) = bytes_eq line version ≡ true

pub found_in : (names : Table) (lines : Lines) (t : Parts) → lines_read names lines ≡ Ok t → IsVersioned lines × IsFound (header_of names lines) t
unfolding lines_read
found_in names [] t e = absurd (not_ok (fault.Form 1) t e)
found_in names (line ∷ lines) t e =
    let h = header_of names (line ∷ lines) in
    let own = behind_params (1 + length lines) h in
    let other : Result Parts TableFault = Err (fault.Form 1) in
    ⊎_elim
    (λ (y : bytes_eq line version ≡ true).
    let is = finished_is (1 + length lines) h (rows_of h) (states_of h) t (sym (cond-true (bytes_eq line version) own other y) ∙ e) in
    (y, record { whole = is.0; is = is.1 }))
    (λ (n : bytes_eq line version ≡ false). absurd (not_ok (fault.Form 1) t (sym (cond-false (bytes_eq line version) own other n) ∙ e)))
    (cases_Bool (bytes_eq line version))

-- ---- the table of names that the text leaves

pub lines_again : (names : Table) (lines : Lines) → IsDistinct names → lines_read (header_of names lines).names lines ≡ lines_read names lines
unfolding lines_read
lines_again names [] d = refl
lines_again names (line ∷ lines) d =
    let all = grown names [] lines in
    ap (λ h. cond (bytes_eq line version) (behind_params (1 + length lines) h) (Err (fault.Form 1)))
    (again (params_in names [] lines).names names [] lines (all.distinct d) tt refl)

-- ---- another table

no_params : (names : Table) → are_params names [] [] ≡ true
unfolding are_params
no_params names = refl

interface_of : (names : Table) (lines : Lines) → (IsInterface (params_in names [] lines).names (params_in names [] lines).params)
    × (are_params (params_in names [] lines).names [] (params_in names [] lines).params ≡ true)
interface_of names lines =
    let is = params_inv names [] lines (record { named = tt; wide = tt; few = omega arith; bits = omega arith }) (no_params names) in
    (is.interface, is.are)

module _ (f : ℕ → ℕ) where
  all_stay : (one : IsOneForOne f) (names other : Table) (ps : List (Name × Kind)) → AreNamed other (kinds_renamed f ps) → AreLike names other ps (kinds_renamed f ps) → StaysAll f one names other ps
  all_stay one names other [] n h = tt
  all_stay one names other (p ∷ ps) n h = ((sym h.0, n.0), all_stay one names other ps n.1 h.2)

pub reads_so : (names other : Table) (text : List ℕ) (t : Parts) → IsDistinct names → IsDistinct other → length text < 2 ^ 64 → text_read names text ≡ Ok t
    → IsReadWith other text (length t.rows)
reads_so names other text t d e small read =
    let lines = rows text in
    let g = header_of names lines in
    let h = header_of other lines in
    let found = (found_in names lines t read).1 in
    let same = headers names other [] [] (later lines) tt tt tt in
    let mine = interface_of names (later lines) in
    let theirs = interface_of other (later lines) in
    let pairs = exchanges_of g.params h.params in
    let f = applied pairs in
    let one = exchanges_one pairs in
    let are : kinds_renamed f g.params ≡ h.params =
    exchanged_so g.names h.names g.params h.params (apart g.names [] g.params mine.1) (apart h.names [] h.params theirs.1) same.like in
    let all : StaysAll f one g.names h.names g.params =
    all_stay f one g.names h.names g.params (subst (AreNamed h.names) (sym are) theirs.0.named) (subst (AreLike g.names h.names g.params) (sym are) same.like) in
    let whole : IsNormal (parts g.names g.params t.rows t.states) × (text ≡ table_text g.names g.params t.rows t.states) =
    subst (λ (u : Parts). IsNormal u × (text ≡ table_text u.names u.params u.rows u.states))
    (parts_are t g.names g.params (sym (ap (λ (u : Parts). u.names) found.is)) (sym (ap (λ (u : Parts). u.params) found.is))) (normal_text names text t small read) in
    let u = parts h.names (kinds_renamed f g.params) (rows_renamed f t.rows) t.states in
    let normal : IsNormal u = normal_so f one g.names h.names g.params t.rows t.states all whole.0 in
    let most : 2 ^ 64 ≤ 10 ^ 64 = lit≤ tt in
    let short = table_short g.names g.params t.rows t.states in
    let few : length (rows_renamed f t.rows) ≤ 10 ^ 64 = omega (arith, length-map t.rows (row_renamed f), short, ap (λ (s : List ℕ). length s) whole.1, small, most) in
    let left = grown other [] (later lines) in
    let back : text_read h.names text ≡ Ok u =
    ap (text_read h.names) (whole.1 ∙ sym (table_same f one g.names h.names g.params t.rows t.states all whole.0.rows)) ∙ reads_back u (left.distinct e) normal few in
    record { table = u; reads = sym (lines_again other lines e) ∙ back; rows = length-map t.rows (row_renamed f) }
