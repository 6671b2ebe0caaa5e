-- Rows and entries one after another.
use Rattle.std.proofs.Common.{◌≡◌, ◌<◌, ◌≤◌, ◌+◌, ◌-◌, ℕ, suc, List, ◌∷◌, ◌++◌, get_or, drop, drop-cons, length, append_assoc, refl, sym, ap, ◌∙◌, arith}
use Rattle.std.proofs.lemmas.List.{append-nil, drop_all}
use Rattle.occ_syntax.specs.occ_base.declared.names.Name.{Name}
use Rattle.occ_syntax.specs.declared.scope.Kind.{Kind}
use Rattle.occ_tool_run.specs.occ_nform_table.declared.table.TableRow.{TableRow}
use Rattle.occ_draw.specs.Pictures.{entries_text, entry_text, row_text, rows_text, states_to}

-- ---- rows
rows_cons : (names : List (List ℕ)) (n : ℕ) (row : TableRow) (rows : List TableRow) → row_text names n row ++ rows_text names (n + 1) rows ≡ rows_text names n (row ∷ rows)
unfolding rows_text
rows_cons names n row rows = refl

pub rows_step : (names : List (List ℕ)) (rows : List TableRow) (i : ℕ) (d : TableRow) (old new all : List ℕ) → i < length rows
    → old ++ rows_text names i (drop i rows) ≡ all → new ≡ old ++ row_text names i (get_or rows i d) → new ++ rows_text names (i + 1) (drop (i + 1) rows) ≡ all
rows_step names rows i d old new all h e is =
    let next : suc i ≡ i + 1 = omega arith in
    let row = get_or rows i d in
    let here : drop i rows ≡ row ∷ drop (i + 1) rows = drop-cons rows i d h ∙ ap (λ n. row ∷ drop n rows) next in
    ap (λ l. l ++ rows_text names (i + 1) (drop (i + 1) rows)) is ∙ append_assoc old (row_text names i row) (rows_text names (i + 1) (drop (i + 1) rows))
    ∙ ap (λ r. old ++ r) (rows_cons names i row (drop (i + 1) rows)) ∙ ap (λ r. old ++ rows_text names i r) (sym here) ∙ e

pub rows_end : (names : List (List ℕ)) (rows : List TableRow) (i : ℕ) (text all : List ℕ) → length rows ≤ i → text ++ rows_text names i (drop i rows) ≡ all → text ≡ all
unfolding rows_text
rows_end names rows i text all past e = sym (append-nil text) ∙ ap (λ r. text ++ rows_text names i r) (sym (drop_all i rows past)) ∙ e

-- ---- entries
entries_more : (params : List (Name × Kind)) (states : List ℕ) (n more : ℕ) → entry_text n (states_to params n 0 states) ++ entries_text params states (n + 1) more ≡ entries_text params states n (suc more)
unfolding entries_text
entries_more params states n more = refl

pub entries_step : (params : List (Name × Kind)) (states : List ℕ) (n count : ℕ) (old new all : List ℕ) → n < count
    → old ++ entries_text params states n (count - n) ≡ all → new ≡ old ++ entry_text n (states_to params n 0 states) → new ++ entries_text params states (n + 1) (count - (n + 1)) ≡ all
entries_step params states n count old new all h e is =
    let left : suc (count - (n + 1)) ≡ count - n = omega (arith, h) in
    let entry = entry_text n (states_to params n 0 states) in
    ap (λ l. l ++ entries_text params states (n + 1) (count - (n + 1))) is ∙ append_assoc old entry (entries_text params states (n + 1) (count - (n + 1)))
    ∙ ap (λ l. old ++ l) (entries_more params states n (count - (n + 1)) ∙ ap (entries_text params states n) left) ∙ e

pub entries_end : (params : List (Name × Kind)) (states : List ℕ) (n count : ℕ) (text all : List ℕ) → count ≤ n → text ++ entries_text params states n (count - n) ≡ all → text ≡ all
unfolding entries_text
entries_end params states n count text all past e =
    let none : 0 ≡ count - n = omega (arith, past) in
    sym (append-nil text) ∙ ap (λ m. text ++ entries_text params states n m) none ∙ e

-- ---- pieces of a line

-- one piece more
pub more : (old a b t u : List ℕ) → t ≡ old ++ a → u ≡ t ++ b → u ≡ old ++ (a ++ b)
more old a b t u e f = f ∙ ap (λ l. l ++ b) e ∙ append_assoc old a b
