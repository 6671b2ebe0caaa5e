-- The elements of arrays have their numbers in each longer table.
use Rattle.std.proofs.Common.{◌≡◌, ℕ, zero, suc, ◌+◌, ◌<◌, ◌≤◌, List, [], ◌∷◌, length, refl, ap, ◌∙◌, arith}
use Rattle.std.specs.List.{AllByRecursion}
use Rattle.occ_script_back.specs.occ_base.declared.names.Name.{Name}
use Rattle.occ_script_back.specs.occ_lex.Symbols.{Extends}
use Rattle.occ_script_back.proofs.from_lex.Interned.{extends_same, extends_trans, longer}
use Rattle.occ_script_back.specs.occ_parse_part.Elements.{Elements, element_count, elements_in, no_elements, row_in, with_arrays, with_arrays_in, with_row}
use Rattle.occ_script_back.specs.occ_parse_rules.Places.{elements_from}
use Rattle.occ_script_back.specs.occ_parse_unroll.Elements.{with_places}
use Rattle.occ_script_back.specs.occ_parse_unroll.Numbers.{number_in}
use Rattle.occ_script_back.proofs.from_parse_unroll.Elements.{places_extend}
use Rattle.occ_script_table.proofs.Below.{elements_low}
use Rattle.occ_script_table.proofs.Numbers.{AreSame}
use Rattle.occ_script_table.proofs.Settled.{Table, places_same, places_there}

pub arrays_extend : (t : Table) (xs : List Name) → Extends t (with_arrays t xs)
arrays_extend t [] = extends_same t
arrays_extend t (x ∷ xs) =
    let next = with_places t (elements_from x.0 0 element_count) in
    extends_trans t next (with_arrays next xs) (places_extend t (elements_from x.0 0 element_count)) (arrays_extend next xs)

below_later : (n m : ℕ) (xs : List Name) → n ≤ m → AllByRecursion (λ (x : Name). x.0 < n) xs → AllByRecursion (λ (x : Name). x.0 < m) xs
below_later n m [] l h = tt
below_later n m (x ∷ xs) l h = (omega (arith, l, h.0), below_later n m xs l h.1)

row_same : (t u : Table) (x k n : ℕ) → AreSame (number_in t) (number_in u) (elements_from x k n) → row_in t x k n ≡ row_in u x k n
row_same t u x k zero h = refl
row_same t u x k (suc n) h = λ i. record { 0 = h.0 i } ∷ row_same t u x (k + 1) n h.1 i

abbrev RowsAreSame : Table → Table → List Name → Type 0
RowsAreSame t u xs = AllByRecursion (λ (x : Name). row_in t x.0 0 element_count ≡ row_in u x.0 0 element_count) xs

rows_same : (old t u : Table) (xs : List Name) → AllByRecursion (λ (x : Name). x.0 < length old) xs → Extends (with_arrays old xs) t → Extends (with_arrays old xs) u
    → RowsAreSame t u xs
rows_same old t u [] h e f = tt
rows_same old t u (x ∷ xs) h e f =
    let first = elements_from x.0 0 element_count in
    let next = with_places old first in
    let whole = with_arrays next xs in
    let more = arrays_extend next xs in (
      row_same t u x.0 0 element_count
          (places_same old t u first (elements_low (length old) x.0 0 element_count h.0) (extends_trans next whole t more e) (extends_trans next whole u more f)),
      rows_same next t u xs (below_later (length old) (length next) xs (longer old next (places_extend old first)) h.1) e f,
    )

with_arrays_same : (t u : Table) (e : Elements) (xs : List Name) → RowsAreSame t u xs → with_arrays_in t e xs ≡ with_arrays_in u e xs
with_arrays_same t u e [] h = refl
with_arrays_same t u e (x ∷ xs) h =
    ap (λ row. with_arrays_in t (with_row e x row) xs) h.0 ∙ with_arrays_same t u (with_row e x (row_in u x.0 0 element_count)) xs h.1

pub elements_same : (old t u : Table) (xs : List Name) → AllByRecursion (λ (x : Name). x.0 < length old) xs → Extends (with_arrays old xs) t
    → Extends (with_arrays old xs) u → elements_in t xs ≡ elements_in u xs
elements_same old t u xs h e f = with_arrays_same t u no_elements xs (rows_same old t u xs h e f)

pub arrays_there : (old t : Table) (xs : List Name) → AllByRecursion (λ (x : Name). x.0 < length old) xs → Extends (with_arrays old xs) t → with_arrays t xs ≡ t
arrays_there old t [] h e = refl
arrays_there old t (x ∷ xs) h e =
    let first = elements_from x.0 0 element_count in
    let next = with_places old first in
    let here : with_places t first ≡ t = places_there old t first (elements_low (length old) x.0 0 element_count h.0) (extends_trans next (with_arrays next xs) t (arrays_extend next xs) e) in
    ap (λ s. with_arrays s xs) here ∙ arrays_there next t xs (below_later (length old) (length next) xs (longer old next (places_extend old first)) h.1) e
