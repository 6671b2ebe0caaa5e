-- Rows, states and parameters that are read one after another, as a loop does.
use Rattle.std.proofs.Common.{◌≡◌, ℕ, zero, suc, ◌+◌, ◌-◌, ◌<◌, ◌≤◌, Bool, true, false, cond, eqb, subst, List, [], ◌∷◌, ◌++◌, length, Option, Some, None, refl, sym, ap, ◌∙◌, arith, append_assoc, length-append}
use Rattle.std.proofs.lemmas.Bool.{cond-true, cond-false}
use Rattle.std.proofs.lemmas.List.{append-nil}
use Rattle.occ_syntax.specs.occ_base.declared.names.Name.{Name}
use Rattle.occ_syntax.specs.occ_base.Names.{place_of, with_text}
use Rattle.occ_syntax.specs.declared.scope.Kind.{Kind}
use Rattle.occ_nform_table.specs.declared.table.TableRow.{TableRow}
use Rattle.occ_nform_table.specs.Lines.{next_param, end_of, accept_of, offer_of, is_row, row_of_state}
use Rattle.occ_nform_table.specs.Reading.{Lines, kept, taken, either, Header, params_in, row_behind, with_row, rows_in, states_in}
use Rattle.occ_nform_table.specs.occ_lex.Rows.{rows, in_front}
use Rattle.occ_nform_table.specs.Tables.{IsInterface}
use Rattle.occ_nform_read.specs.Found.{AreApart}
use Rattle.occ_nform_read.proofs.Interfaces.{interface_more, names_apart}
use Rattle.occ_nform_read.proofs.Taking.{with_front}

-- ---- states

pub states_some : (params : List (Name × Kind)) (n k : ℕ) (line : List ℕ) (lines : Lines) (row : ℕ) → row_of_state params n k line ≡ Some row
    → states_in params n k (line ∷ lines) ≡ (row ∷ (states_in params n (k + 1) lines).0, (states_in params n (k + 1) lines).1)
unfolding states_in
states_some params n k line lines row h = ap (λ r. kept r (states_in params n (k + 1) lines) ([], line ∷ lines)) h

pub states_none : (params : List (Name × Kind)) (n k : ℕ) (line : List ℕ) (lines : Lines) → row_of_state params n k line ≡ None → states_in params n k (line ∷ lines) ≡ ([], line ∷ lines)
unfolding states_in
states_none params n k line lines h = ap (λ r. kept r (states_in params n (k + 1) lines) ([], line ∷ lines)) h

pub states_nil : (params : List (Name × Kind)) (n k : ℕ) → states_in params n k [] ≡ ([], [])
unfolding states_in
states_nil params n k = refl

pub states_goes : (params : List (Name × Kind)) (n k : ℕ) (front new : List ℕ) (lines : Lines) (line : List ℕ) (after : Lines) (row : ℕ) (whole : List ℕ × Lines) → lines ≡ line ∷ after → k ≡ length front → row_of_state params n k line ≡ Some row
    → new ≡ front ++ row ∷ [] → with_front front (states_in params n (length front) lines) ≡ whole → with_front new (states_in params n (length new) after) ≡ whole
states_goes params n k front new lines line after row whole h place e grown so_far =
    let one_more : length new ≡ k + 1 = omega (arith, ap length grown, length-append front (row ∷ []), place) in
    ap (λ m. with_front new (states_in params n m after)) one_more
    ∙ ap (λ f. with_front f (states_in params n (k + 1) after)) grown
    ∙ ap (λ xs. (xs, (states_in params n (k + 1) after).1)) (append_assoc front (row ∷ []) (states_in params n (k + 1) after).0)
    ∙ sym (ap (λ m. with_front front (states_in params n m lines)) (sym place) ∙ ap (λ ls. with_front front (states_in params n k ls)) h ∙ ap (with_front front) (states_some params n k line after row e)) ∙ so_far

pub states_stops : (params : List (Name × Kind)) (n k : ℕ) (front : List ℕ) (lines : Lines) (line : List ℕ) (after : Lines) (whole : List ℕ × Lines) → lines ≡ line ∷ after → k ≡ length front → row_of_state params n k line ≡ None
    → with_front front (states_in params n (length front) lines) ≡ whole → (front, lines) ≡ whole
states_stops params n k front lines line after whole h place e so_far =
    ap (λ ls. (front, ls)) h ∙ ap (λ xs. (xs, line ∷ after)) (sym (append-nil front))
    ∙ sym (ap (λ m. with_front front (states_in params n m lines)) (sym place) ∙ ap (λ ls. with_front front (states_in params n k ls)) h ∙ ap (with_front front) (states_none params n k line after e)) ∙ so_far

pub states_ends : (params : List (Name × Kind)) (n : ℕ) (front : List ℕ) (lines : Lines) (whole : List ℕ × Lines) → lines ≡ []
    → with_front front (states_in params n (length front) lines) ≡ whole → (front, lines) ≡ whole
states_ends params n front lines whole h so_far =
    ap (λ ls. (front, ls)) h ∙ ap (λ (xs : List ℕ). (xs, [])) (sym (append-nil front))
    ∙ sym (ap (λ ls. with_front front (states_in params n (length front) ls)) h ∙ ap (with_front front) (states_nil params n (length front))) ∙ so_far

-- ---- rows

pub rows_some : (names : List (List ℕ)) (params : List (Name × Kind)) (most n : ℕ) (line : List ℕ) (lines : Lines) → is_row n line ≡ true
    → rows_in names params (suc most) n (line ∷ lines) ≡ with_row (row_behind names params n lines) (rows_in names params most (n + 1))
unfolding rows_in
rows_some names params most n line lines h = cond-true (is_row n line) (with_row (row_behind names params n lines) (rows_in names params most (n + 1))) ([], line ∷ lines) h

pub rows_other : (names : List (List ℕ)) (params : List (Name × Kind)) (most n : ℕ) (line : List ℕ) (lines : Lines) → is_row n line ≡ false → rows_in names params most n (line ∷ lines) ≡ ([], line ∷ lines)
unfolding rows_in
rows_other names params zero n line lines h = refl
rows_other names params (suc most) n line lines h = cond-false (is_row n line) (with_row (row_behind names params n lines) (rows_in names params most (n + 1))) ([], line ∷ lines) h

pub rows_nil : (names : List (List ℕ)) (params : List (Name × Kind)) (most n : ℕ) → rows_in names params most n [] ≡ ([], [])
unfolding rows_in
rows_nil names params zero n = refl
rows_nil names params (suc most) n = refl

-- no more lines are left than were there
kept_left : {A : Type 0} (r : Option A) (more : List A × Lines) (line : List ℕ) (lines : Lines) → length more.1 ≤ length lines → length (kept r more ([], line ∷ lines)).1 ≤ suc (length lines)
kept_left None more line lines h = omega arith
kept_left (Some x) more line lines h = omega (arith, h)

taken_left : {A : Type 0} (read : List ℕ → Option A) (lines : Lines) → length (taken read lines).1 ≤ length lines
unfolding taken
taken_left read [] = omega arith
taken_left read (line ∷ lines) = kept_left (read line) (taken read lines) line lines (taken_left read lines)

pub row_left : (names : List (List ℕ)) (params : List (Name × Kind)) (n : ℕ) (lines : Lines) → length (row_behind names params n lines).1 ≤ length lines
unfolding row_behind
row_left names params n lines =
    omega (arith, taken_left (end_of params) lines, taken_left (accept_of names params) (taken (end_of params) lines).1, taken_left (offer_of names params n) (taken (accept_of names params) (taken (end_of params) lines).1).1)

pub rows_goes : (names : List (List ℕ)) (params : List (Name × Kind)) (total n : ℕ) (front new : List TableRow) (lines : Lines) (line : List ℕ) (after : Lines) (row : TableRow) (left : Lines) (whole : List TableRow × Lines)
    → lines ≡ line ∷ after → n ≡ length front → length front + length lines ≤ total → is_row n line ≡ true → (row, left) ≡ row_behind names params n after → new ≡ front ++ row ∷ []
    → with_front front (rows_in names params (total - length front) (length front) lines) ≡ whole → with_front new (rows_in names params (total - length new) (length new) left) ≡ whole
rows_goes names params total n front new lines line after row left whole h place fits e behind grown so_far =
    let one_more : length new ≡ n + 1 = omega (arith, ap length grown, length-append front (row ∷ []), place) in
    let len : length lines ≡ suc (length after) = ap length h in
    let most : total - n ≡ suc (total - (n + 1)) = omega (arith, fits, len, place) in
    let next : List TableRow × Lines = rows_in names params (total - (n + 1)) (n + 1) left in
    ap (λ m. with_front new (rows_in names params (total - m) m left)) one_more
    ∙ ap (λ f. with_front f (rows_in names params (total - (n + 1)) (n + 1) left)) grown
    ∙ ap (λ xs. (xs, (rows_in names params (total - (n + 1)) (n + 1) left).1)) (append_assoc front (row ∷ []) (rows_in names params (total - (n + 1)) (n + 1) left).0)
    ∙ ap (λ (r : TableRow × Lines). with_front front (with_row r (rows_in names params (total - (n + 1)) (n + 1)))) behind
    ∙ sym (ap (λ m. with_front front (rows_in names params (total - m) m lines)) (sym place)
    ∙ ap (λ ls. with_front front (rows_in names params (total - n) n ls)) h
    ∙ ap (λ m. with_front front (rows_in names params m n (line ∷ after))) most
    ∙ ap (with_front front) (rows_some names params (total - (n + 1)) n line after e))
    ∙ so_far

pub rows_fit : (names : List (List ℕ)) (params : List (Name × Kind)) (total n : ℕ) (front new : List TableRow) (lines : Lines) (line : List ℕ) (after : Lines) (row : TableRow) (left : Lines)
    → lines ≡ line ∷ after → length front + length lines ≤ total → (row, left) ≡ row_behind names params n after → new ≡ front ++ row ∷ [] → length new + length left ≤ total
rows_fit names params total n front new lines line after row left h fits behind grown =
    let len : length lines ≡ suc (length after) = ap length h in
    let same_left : length left ≡ length (row_behind names params n after).1 = ap (λ (r : TableRow × Lines). length r.1) behind in
    omega (arith, ap length grown, length-append front (row ∷ []), len, fits, same_left, row_left names params n after)

pub rows_stops : (names : List (List ℕ)) (params : List (Name × Kind)) (total n : ℕ) (front : List TableRow) (lines : Lines) (line : List ℕ) (after : Lines) (whole : List TableRow × Lines) → lines ≡ line ∷ after → n ≡ length front → is_row n line ≡ false
    → with_front front (rows_in names params (total - length front) (length front) lines) ≡ whole → (front, lines) ≡ whole
rows_stops names params total n front lines line after whole h place e so_far =
    ap (λ ls. (front, ls)) h ∙ ap (λ xs. (xs, line ∷ after)) (sym (append-nil front))
    ∙ sym (ap (λ m. with_front front (rows_in names params (total - m) m lines)) (sym place) ∙ ap (λ ls. with_front front (rows_in names params (total - n) n ls)) h ∙ ap (with_front front) (rows_other names params (total - n) n line after e)) ∙ so_far

pub rows_ends : (names : List (List ℕ)) (params : List (Name × Kind)) (total : ℕ) (front : List TableRow) (lines : Lines) (whole : List TableRow × Lines) → lines ≡ []
    → with_front front (rows_in names params (total - length front) (length front) lines) ≡ whole → (front, lines) ≡ whole
rows_ends names params total front lines whole h so_far =
    ap (λ ls. (front, ls)) h ∙ ap (λ (xs : List TableRow). (xs, [])) (sym (append-nil front))
    ∙ sym (ap (λ ls. with_front front (rows_in names params (total - length front) (length front) ls)) h ∙ ap (with_front front) (rows_nil names params (total - length front) (length front))) ∙ so_far

-- ---- parameters

abbrev pub header_of : List (List ℕ) → List (Name × Kind) → Lines → Header
header_of names params lines = record { names = names; params = params; rest = lines }

pub params_some : (names : List (List ℕ)) (params : List (Name × Kind)) (line : List ℕ) (lines : Lines) (p : List ℕ × Kind) → next_param names params line ≡ Some p
    → params_in names params (line ∷ lines) ≡ params_in (with_text names p.0) (params ++ (record { 0 = place_of names p.0 }, p.1) ∷ []) lines
unfolding params_in
params_some names params line lines p h = ap (λ r. either r (record { names = names; params = params; rest = line ∷ lines }) (λ p. params_in (with_text names p.0) (params ++ (record { 0 = place_of names p.0 }, p.1) ∷ []) lines)) h

pub params_none : (names : List (List ℕ)) (params : List (Name × Kind)) (line : List ℕ) (lines : Lines) → next_param names params line ≡ None → params_in names params (line ∷ lines) ≡ record { names = names; params = params; rest = line ∷ lines }
unfolding params_in
params_none names params line lines h = ap (λ r. either r (record { names = names; params = params; rest = line ∷ lines }) (λ p. params_in (with_text names p.0) (params ++ (record { 0 = place_of names p.0 }, p.1) ∷ []) lines)) h

pub params_nil : (names : List (List ℕ)) (params : List (Name × Kind)) → params_in names params [] ≡ record { names = names; params = params; rest = [] }
unfolding params_in
params_nil names params = refl

abbrev pub name_at : ℕ → Name
name_at place = record { 0 = place }

pub params_ends : (names : List (List ℕ)) (params : List (Name × Kind)) (lines : Lines) (whole : Header) → lines ≡ [] → params_in names params lines ≡ whole → whole ≡ record { names = names; params = params; rest = lines }
params_ends names params lines whole h so_far =
    sym so_far ∙ ap (params_in names params) h ∙ params_nil names params ∙ ap (header_of names params) (sym h)

pub params_stops : (names : List (List ℕ)) (params shown : List (Name × Kind)) (lines : Lines) (line : List ℕ) (after : Lines) (whole : Header) → lines ≡ line ∷ after → shown ≡ params → next_param names shown line ≡ None
    → params_in names params lines ≡ whole → whole ≡ record { names = names; params = params; rest = lines }
params_stops names params shown lines line after whole h same e so_far =
    sym so_far ∙ ap (params_in names params) h ∙ params_none names params line after (ap (λ ps. next_param names ps line) (sym same) ∙ e) ∙ ap (header_of names params) (sym h)

-- what a turn keeps
pub record Goes (names : List (List ℕ)) (params : List (Name × Kind)) (lines : Lines) (whole : Header) : Type 0 where
  pub so_far : params_in names params lines ≡ whole
  pub interface : IsInterface names params
  pub apart : AreApart params

pub params_goes : (names new_names : List (List ℕ)) (params shown new_params : List (Name × Kind)) (lines : Lines) (line : List ℕ) (after : Lines) (text : List ℕ) (kind : Kind) (name : Name) (whole : Header)
    → lines ≡ line ∷ after → shown ≡ params → next_param names shown line ≡ Some (text, kind) → name.0 ≡ place_of names text → new_names ≡ with_text names text → new_params ≡ params ++ (name, kind) ∷ []
    → Goes names params lines whole → Goes new_names new_params after whole
params_goes names new_names params shown new_params lines line after text kind name whole h same e number table grown goes =
    let here : next_param names params line ≡ Some (text, kind) = ap (λ ps. next_param names ps line) (sym same) ∙ e in
    let one_more : new_params ≡ params ++ (name_at (place_of names text), kind) ∷ [] = grown ∙ ap (λ m. params ++ (name_at m, kind) ∷ []) number in
    subst (λ ns. Goes ns new_params after whole) (sym table) (subst (λ ps. Goes (with_text names text) ps after whole) (sym one_more) (record {
      so_far = sym (params_some names params line after (text, kind) here) ∙ ap (params_in names params) (sym h) ∙ goes.so_far;
      interface = interface_more names params line (text, kind) goes.interface here;
      apart = names_apart names params line (text, kind) goes.interface goes.apart here;
    }))

-- ---- how many lines

front_count : (byte : ℕ) (lines : Lines) → length (in_front byte lines) ≤ suc (length lines)
front_count byte [] = omega arith
front_count byte (line ∷ lines) = omega arith

-- no more lines than bytes
pub rows_count : (text : List ℕ) → length (rows text) ≤ length text
unfolding rows
rows_count [] = omega arith
rows_count (byte ∷ text) = from (eqb byte 10) (rows_count text)
  where
    from : (b : Bool) → length (rows text) ≤ length text → length (cond b ((byte ∷ []) ∷ rows text) (in_front byte (rows text))) ≤ suc (length text)
    from true h = omega (arith, h)
    from false h = omega (arith, h, front_count byte (rows text))

pub rows_smaller : (names : List (List ℕ)) (params : List (Name × Kind)) (n : ℕ) (lines : Lines) (line : List ℕ) (after : Lines) (row : TableRow) (left : Lines) → lines ≡ line ∷ after → (row, left) ≡ row_behind names params n after → length left < length lines
rows_smaller names params n lines line after row left h behind =
    let same_left : length left ≡ length (row_behind names params n after).1 = ap (λ (r : TableRow × Lines). length r.1) behind in
    omega (arith, ap length h, same_left, row_left names params n after)
