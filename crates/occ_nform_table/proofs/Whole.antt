-- A text that is read as a table is the text of that table, and the table is normal.
use Rattle.std.proofs.Common.{◌≡◌, ℕ, ◌+◌, ◌^◌, ◌<◌, ◌≤◌, true, false, eqb, List, [], ◌∷◌, ◌++◌, length, Option, Some, None, Result, Ok, Err, refl, sym, ap, subst, ◌∙◌, arith, append_assoc, append-nil, codes, ⊎_elim}
use Rattle.std.specs.List.{concat}
use Rattle.std.specs.Str.{bytes_eq}
use Rattle.std.proofs.lemmas.Bool.{and_parts, cases_Bool, cond-true, cond-false, eqb-true, both_ways}
use Rattle.occ_lex.specs.Rows.{rows, in_front}
use Rattle.occ_syntax.specs.Counts.{bits_of_scope}
use Rattle.occ_nform_table.specs.declared.table.TableRow.{TableRow}
use Rattle.occ_nform_table.specs.declared.table.TableFault.{TableFault}
use Rattle.occ_nform_table.specs.declared.table.TableFault.TheVariants as fault
use Rattle.occ_nform_table.specs.Reading.{Lines, Header, params_in, rows_in, states_in}
use Rattle.occ_nform_table.specs.Judging.{is_none}
use Rattle.occ_nform_table.specs.Normal.{Parts, table_fault, judged, is_whole, finished, behind_params, line_at, lines_read, text_read}
use Rattle.occ_nform_table.specs.Tables.{IsInterface, AreRowsOf, IsNormal, are_params}
use Rattle.occ_nform_table.specs.Texts.{params_text, rows_text, states_text, table_text}
use Rattle.occ_nform_table.proofs.ReadWords.{bytes_same}
use Rattle.occ_nform_table.proofs.Names.{apart}
use Rattle.occ_nform_table.proofs.Sections.{AreRowsRead, rows_inv, AreStatesRead, states_inv}
use Rattle.occ_nform_table.proofs.Header.{IsHeader, params_inv}

-- ---- the lines of a text

-- the lines together are the text, and there are no more than bytes
pub record AreLines (text : List ℕ) (lines : Lines) : Type 0 where
  pub joined : concat lines ≡ text
  pub few : length lines ≤ length text

lines_in_front : (b : ℕ) (text : List ℕ) (lines : Lines) → AreLines text lines → AreLines (b ∷ text) (in_front b lines)
lines_in_front b text [] all = record { joined = ap (λ t. b ∷ t) all.joined; few = omega arith }
lines_in_front b text (line ∷ lines) all = record { joined = ap (λ t. b ∷ t) all.joined; few = omega (arith, all.few) }

pub are_lines : (text : List ℕ) → AreLines text (rows text)
unfolding rows
are_lines [] = record { joined = refl; few = omega arith }
are_lines (b ∷ text) = ⊎_elim
    (λ (t : eqb b 10 ≡ true).
    let rest : AreLines text (rows text) = are_lines text in
    let all : AreLines (b ∷ text) ((b ∷ []) ∷ rows text) = record { joined = ap (λ t. b ∷ t) rest.joined; few = omega (arith, rest.few) } in
    subst (AreLines (b ∷ text)) (sym (cond-true (eqb b 10) ((b ∷ []) ∷ rows text) (in_front b (rows text)) t)) all)
    (λ (f : eqb b 10 ≡ false).
    subst (AreLines (b ∷ text)) (sym (cond-false (eqb b 10) ((b ∷ []) ∷ rows text) (in_front b (rows text)) f)) (lines_in_front b text (rows text) (are_lines text)))
    (cases_Bool (eqb b 10))

-- ---- the whole

ok_same : {A E : Type 0} (x y : A) → ◌≡◌ {A = Result A E} (Ok x) (Ok y) → x ≡ y
ok_same x y e = cc

err_not : {A E : Type 0} (f : E) (y : A) → ◌≡◌ {A = Result A E} (Err f) (Ok y) → ⊥
err_not f y e = cc

-- a table that is read, and its text behind the version line
record IsTableRead (t : Parts) (text : List ℕ) : Type 0 where
  normal : IsNormal t
  written : text ≡ params_text t.names t.params ++ rows_text t.names 0 t.rows ++ states_text t.params 0 t.states

judged_inv : (t u : Parts) (o : Option TableFault) → table_fault t ≡ o → judged t o ≡ Ok u → (table_fault t ≡ None) × (t ≡ u)
judged_inv t u None e h = (e, ok_same t u h)
judged_inv t u (Some f) e h = absurd (err_not f u h)

none_left : (lines : Lines) → is_none lines ≡ true → concat lines ≡ []
none_left [] h = refl
none_left (line ∷ lines) h = absurd (both_ways false refl h)

table_inv : (h : Header) (rows : List TableRow × Lines) (states : List ℕ × Lines) (text : List ℕ) → IsInterface h.names h.params → are_params h.names [] h.params ≡ true → AreRowsOf h.params 0 rows.0
    → text ≡ params_text h.names h.params ++ concat h.rest → concat h.rest ≡ rows_text h.names 0 rows.0 ++ concat rows.1 → AreStatesRead h.params (length rows.0) 0 rows.1 states
    → is_whole h.params states ≡ true
    → table_fault (record { names = h.names; params = h.params; rows = rows.0; states = states.0 }) ≡ None
    → IsTableRead (record { names = h.names; params = h.params; rows = rows.0; states = states.0 }) text
table_inv h rows states text interface are form front middle last whole fine =
    let parts = and_parts (eqb (length states.0) (2 ^ bits_of_scope h.params)) (is_none states.1) whole in
    let end : concat rows.1 ≡ states_text h.params 0 states.0 =
    last.written ∙ ap (λ t. states_text h.params 0 states.0 ++ t) (none_left states.1 parts.1) ∙ append-nil (states_text h.params 0 states.0) in
    record {
      normal = record { interface = interface; params = are; rows = form; count = eqb-true (length states.0) (2 ^ bits_of_scope h.params) parts.0; states = last.each_is; fine = fine };
      written = front ∙ ap (λ t. params_text h.names h.params ++ t) (middle ∙ ap (λ t. rows_text h.names 0 rows.0 ++ t) end)
          ∙ sym (append_assoc (params_text h.names h.params) (rows_text h.names 0 rows.0) (states_text h.params 0 states.0));
    }

finished_inv : (all : ℕ) (h : Header) (rows : List TableRow × Lines) (states : List ℕ × Lines) (t : Parts) → finished all h rows states ≡ Ok t
    → (is_whole h.params states ≡ true) × (table_fault (record { names = h.names; params = h.params; rows = rows.0; states = states.0 }) ≡ None)
    × (record { names = h.names; params = h.params; rows = rows.0; states = states.0 } ≡ t)
finished_inv all h rows states t e =
    let found : Parts = record { names = h.names; params = h.params; rows = rows.0; states = states.0 } in
    ⊎_elim
    (λ (yes_whole : is_whole h.params states ≡ true).
    let is = judged_inv found t (table_fault found) refl (sym (cond-true _ (judged found (table_fault found)) (Err (fault.Form (line_at all (length states.1)))) yes_whole) ∙ e) in
    (yes_whole, is.0, is.1))
    (λ (not_whole : is_whole h.params states ≡ false).
    absurd (err_not _ t (sym (cond-false _ (judged found (table_fault found)) (Err (fault.Form (line_at all (length states.1)))) not_whole) ∙ e)))
    (cases_Bool (is_whole h.params states))

behind_params_inv : (all : ℕ) (h : Header) (text : List ℕ) (t : Parts) → IsInterface h.names h.params → are_params h.names [] h.params ≡ true
    → text ≡ params_text h.names h.params ++ concat h.rest → length h.rest < 2 ^ 64 → behind_params all h ≡ Ok t → IsTableRead t text
behind_params_inv all h text t interface are front small e =
    let rows = rows_in h.names h.params (length h.rest) 0 h.rest in
    let states = states_in h.params (length rows.0) 0 rows.1 in
    let middle : AreRowsRead h.names h.params (length h.rest) 0 h.rest rows = rows_inv h.names h.params (length h.rest) 0 h.rest (apart h.names [] h.params are) (omega arith) in
    let last : AreStatesRead h.params (length rows.0) 0 rows.1 states = states_inv h.params (length rows.0) 0 rows.1 (omega (arith, middle.few)) in
    let is = finished_inv all h rows states t e in
    subst (λ u. IsTableRead u text) is.2 (table_inv h rows states text interface are middle.form front middle.written last is.0 is.1)

pub no_params : (names : List (List ℕ)) → are_params names [] [] ≡ true
unfolding are_params
no_params names = refl

pub no_text : (names : List (List ℕ)) → params_text names [] ≡ []
unfolding params_text
no_text names = refl

lines_inv : (names : List (List ℕ)) (lines : Lines) (t : Parts) → length lines < 2 ^ 64 → lines_read names lines ≡ Ok t
    → IsNormal t × (concat lines ≡ table_text t.names t.params t.rows t.states)
unfolding lines_read table_text
lines_inv names [] t small e = absurd (err_not (fault.Form 1) t e)
lines_inv names (line ∷ lines) t small e =
    let h = params_in names [] lines in
    let version : List ℕ = codes "occam-normal 1\n" in
    ⊎_elim
    (λ (same : bytes_eq line version ≡ true).
    let header : IsHeader names [] lines h = params_inv names [] lines (record { named = tt; wide = tt; few = omega arith; bits = omega arith }) (no_params names) in
    let front : concat lines ≡ params_text h.names h.params ++ concat h.rest = ap (λ t. t ++ concat lines) (sym (no_text names)) ∙ header.written in
    let is : IsTableRead t (concat lines) = behind_params_inv (1 + length lines) h (concat lines) t header.interface header.are front (omega (arith, header.shorter))
    (sym (cond-true (bytes_eq line version) (behind_params (1 + length lines) h) (Err (fault.Form 1)) same) ∙ e) in (
      is.normal,
      (λ i. bytes_same line version same i ++ is.written i)
          ∙ sym (append_assoc (version ++ params_text t.names t.params) (rows_text t.names 0 t.rows) (states_text t.params 0 t.states)
          ∙ append_assoc version (params_text t.names t.params) (rows_text t.names 0 t.rows ++ states_text t.params 0 t.states)
          ∙ ap (λ s. version ++ s) (sym (append_assoc (params_text t.names t.params) (rows_text t.names 0 t.rows) (states_text t.params 0 t.states)))),
    ))
    (λ (other : bytes_eq line version ≡ false). absurd (err_not (fault.Form 1) t (sym (cond-false (bytes_eq line version) (behind_params (1 + length lines) h) (Err (fault.Form 1)) other) ∙ e)))
    (cases_Bool (bytes_eq line version))

pub normal_text : (names : List (List ℕ)) (text : List ℕ) (t : Parts) → length text < 2 ^ 64 → text_read names text ≡ Ok t
    → IsNormal t × (text ≡ table_text t.names t.params t.rows t.states)
normal_text names text t small e =
    let all : AreLines text (rows text) = are_lines text in
    let is = lines_inv names (rows text) t (omega (arith, all.few)) e in
    (is.0, sym all.joined ∙ is.1)
