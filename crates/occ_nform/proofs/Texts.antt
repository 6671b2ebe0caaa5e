-- Lines one after another.
use Rattle.std.proofs.Common.{◌≡◌, ◌<◌, ◌≤◌, ◌+◌, ℕ, suc, List, [], ◌∷◌, ◌++◌, get_or, drop, drop-cons, length, append_assoc, refl, sym, ap, ◌∙◌, arith}
use Rattle.std.specs.Prelude.{codes}
use Rattle.std.specs.List.{flat_map}
use Rattle.std.proofs.lemmas.List.{append-nil, drop_all}
use Rattle.occ_syntax.specs.occ_base.declared.names.Name.{Name}
use Rattle.occ_syntax.specs.declared.scope.Kind.{Kind}
use Rattle.occ_nform_rows.specs.occ_nform_table.Texts.{params_text, rows_text, states_text, table_text}
use Rattle.occ_nform_rows.specs.occ_nform_table.declared.table.TableRow.{TableRow}
use Rattle.occ_nform.specs.Lines.{param_line, row_lines, state_line}

params_are : (names : List (List ℕ)) (params : List (Name × Kind)) → flat_map (param_line names) params ≡ params_text names params
unfolding params_text
params_are names [] = refl
params_are names (p ∷ params) = ap (λ l. param_line names p ++ l) (params_are names params)

rows_cons : (names : List (List ℕ)) (n : ℕ) (row : TableRow) (rows : List TableRow) → row_lines names n row ++ rows_text names (n + 1) rows ≡ rows_text names n (row ∷ rows)
unfolding rows_text
rows_cons names n row rows = refl

states_cons : (params : List (Name × Kind)) (k n : ℕ) (states : List ℕ) → state_line params k n ++ states_text params (k + 1) states ≡ states_text params k (n ∷ states)
unfolding states_text
states_cons params k n states = refl

pub rows_step : (names : List (List ℕ)) (rows : List TableRow) (i : ℕ) (d : TableRow) (old new all : List ℕ) → i < length rows → old ++ rows_text names i (drop i rows) ≡ all → new ≡ old ++ row_lines names i (get_or rows i d)
    → new ++ rows_text names (i + 1) (drop (i + 1) rows) ≡ all
rows_step names rows i d old new all h e is =
    let next : suc i ≡ i + 1 = omega arith in
    let here : drop i rows ≡ get_or rows i d ∷ drop (i + 1) rows = drop-cons rows i d h ∙ ap (λ n. get_or rows i d ∷ drop n rows) next in
    ap (λ l. l ++ rows_text names (i + 1) (drop (i + 1) rows)) is ∙ append_assoc old (row_lines names i (get_or rows i d)) (rows_text names (i + 1) (drop (i + 1) rows))
    ∙ ap (λ r. old ++ r) (rows_cons names i (get_or rows i d) (drop (i + 1) rows)) ∙ ap (λ r. old ++ rows_text names i r) (sym here) ∙ e

pub rows_end : (names : List (List ℕ)) (rows : List TableRow) (i : ℕ) (text all : List ℕ) → length rows ≤ i → text ++ rows_text names i (drop i rows) ≡ all → text ≡ all
unfolding rows_text
rows_end names rows i text all past e =
    let left : drop i rows ≡ [] = drop_all i rows past in
    sym (append-nil text) ∙ ap (λ r. text ++ rows_text names i r) (sym left) ∙ e

pub states_step : (params : List (Name × Kind)) (states : List ℕ) (i d : ℕ) (old new all : List ℕ) → i < length states → old ++ states_text params i (drop i states) ≡ all → new ≡ old ++ state_line params i (get_or states i d)
    → new ++ states_text params (i + 1) (drop (i + 1) states) ≡ all
states_step params states i d old new all h e is =
    let next : suc i ≡ i + 1 = omega arith in
    let here : drop i states ≡ get_or states i d ∷ drop (i + 1) states = drop-cons states i d h ∙ ap (λ n. get_or states i d ∷ drop n states) next in
    ap (λ l. l ++ states_text params (i + 1) (drop (i + 1) states)) is ∙ append_assoc old (state_line params i (get_or states i d)) (states_text params (i + 1) (drop (i + 1) states))
    ∙ ap (λ r. old ++ r) (states_cons params i (get_or states i d) (drop (i + 1) states)) ∙ ap (λ r. old ++ states_text params i r) (sym here) ∙ e

pub states_end : (params : List (Name × Kind)) (states : List ℕ) (i : ℕ) (text all : List ℕ) → length states ≤ i → text ++ states_text params i (drop i states) ≡ all → text ≡ all
unfolding states_text
states_end params states i text all past e =
    let left : drop i states ≡ [] = drop_all i states past in
    sym (append-nil text) ∙ ap (λ r. text ++ states_text params i r) (sym left) ∙ e

-- the parts of a table's text
pub table_is : (names : List (List ℕ)) (params : List (Name × Kind)) (rows : List TableRow) (states : List ℕ) (a b c d : List ℕ) → a ≡ codes "occam-normal 1\n" → b ≡ a ++ flat_map (param_line names) params → c ≡ b ++ rows_text names 0 rows
    → d ≡ c ++ states_text params 0 states → d ≡ table_text names params rows states
unfolding table_text
table_is names params rows states a b c d first second third last =
    last ∙ ap (λ l. l ++ states_text params 0 states) third ∙ ap (λ l. (l ++ rows_text names 0 rows) ++ states_text params 0 states) second
    ∙ (λ i. ((first i ++ params_are names params i) ++ rows_text names 0 rows) ++ states_text params 0 states)
