-- A text reads as a table that stands for a program exactly where it is the text of such a table.
use Rattle.std.proofs.Common.{◌≡◌, ◌↔◌, ◌∙◌, ℕ, ◌+◌, ◌^◌, ◌<◌, ◌≤◌, true, List, [], ◌∷◌, ◌++◌, length, Ok, refl, sym, ap, subst, arith, length-append}
use Rattle.std.specs.Prelude.{codes, decimal}
use Rattle.occ_syntax.specs.occ_base.Names.{IsDistinct}
use Rattle.occ_syntax.specs.occ_base.declared.names.Name.{Name}
use Rattle.occ_syntax.specs.Tree.{Tree}
use Rattle.occ_syntax.specs.declared.scope.Kind.{Kind}
use Rattle.occ_nform_read.specs.occ_nform_table.Behaviours.{Stands}
use Rattle.occ_nform_read.specs.occ_nform_table.Judging.{row_text}
use Rattle.occ_nform_read.specs.occ_nform_table.Normal.{Parts, text_read}
use Rattle.occ_nform_read.specs.occ_nform_table.Tables.{IsInterface, IsNormal, are_params}
use Rattle.occ_nform_read.specs.occ_nform_table.Texts.{params_text, rows_text, states_text, table_text}
use Rattle.occ_nform_read.specs.occ_nform_table.declared.table.TableRow.{TableRow}
use Rattle.occ_nform_read.proofs.from_nform_table.TextTables.{reads_back, version}
use Rattle.occ_nform_read.proofs.from_nform_table.Whole.{normal_text}
use Rattle.occ_behaviour_read.specs.Tables.{IsTextOf}

rows_long : (names : List (List ℕ)) (n : ℕ) (rows : List TableRow) → length rows ≤ length (rows_text names n rows)
unfolding rows_text
rows_long names n [] = omega arith
rows_long names n (row ∷ rows) =
    let front : List ℕ = codes "ROW " ++ decimal n ++ codes "\n" ++ row_text names row in
    let some : 0 < length front = omega arith in
    omega (arith, some, length-append front (rows_text names (n + 1) rows), rows_long names (n + 1) rows)

table_long : (names : List (List ℕ)) (params : List (Name × Kind)) (rows : List TableRow) (states : List ℕ) → length rows ≤ length (table_text names params rows states)
unfolding table_text
table_long names params rows states =
    let front : List ℕ = version ++ params_text names params in
    omega (arith, length-append (front ++ rows_text names 0 rows) (states_text params 0 states), length-append front (rows_text names 0 rows), rows_long names 0 rows)

-- a table that a text is read as, which stands for a program with these names and parameters
abbrev pub ReadsFor : List (List ℕ) → List (Name × Kind) → Tree → List ℕ → Type 0
ReadsFor names params p text = (t : Parts) × (text_read names text ≡ Ok t) × (t.names ≡ names) × (t.params ≡ params) × Stands params t.rows t.states p

-- it is the text of such a table
pub texts_of_programs : (names : List (List ℕ)) (params : List (Name × Kind)) (p : Tree) (text : List ℕ) → IsDistinct names → IsInterface names params → are_params names [] params ≡ true
    → length text < 2 ^ 64 → ReadsFor names params p text ↔ IsTextOf names params p text
texts_of_programs names params p text distinct interface are short = (to, from)
  where
    to : ReadsFor names params p text → IsTextOf names params p text
    to h =
        let t : Parts = h.0 in
        let is = normal_text names text t short h.1 in
        let P : List (List ℕ) × List (Name × Kind) → Type 0 = λ q. IsTextOf q.0 q.1 p text in
        subst P {x = (t.names, t.params)} (λ i. (h.2 i, h.3 i)) (record {
          rows = t.rows;
          states = t.states;
          table = record { rows_are = is.0.rows; count = is.0.count; low = is.0.states; fine = is.0.fine; stands = subst (λ ps. Stands ps t.rows t.states p) (sym h.3) h.4 };
          written = is.1;
        })

    from : IsTextOf names params p text → ReadsFor names params p text
    from h =
        let t : Parts = record { names = names; params = params; rows = h.rows; states = h.states } in
        let normal : IsNormal t = record { interface = interface; params = are; rows = h.table.rows_are; count = h.table.count; states = h.table.low; fine = h.table.fine } in
        let size : length text ≡ length (table_text names params h.rows h.states) = ap (λ (s : List ℕ). length s) h.written in
        (t, ap (text_read names) h.written ∙ reads_back t distinct normal (omega (arith, short, size, table_long names params h.rows h.states)), refl, refl, h.table.stands)
