-- A row of the table is read at a place.
use Rattle.std.proofs.Common.{◌≡◌, ◌==◌, ◌<◌, ◌≤◌, ◌+◌, ℕ, Bool, true, ◌&&◌, List, get_or, length, map, nat_le, arith, sym, ap, ◌∙◌}
use Rattle.std.proofs.lemmas.Bool.{and_parts, eqb-true, leb-true}
use Rattle.std.proofs.lemmas.List.{get_or-map, length-map}
use Rattle.std.proofs.lemmas.List.FromFn.{get_or-range_with_len, length-range_with_len}
use Rattle.std.specs.List.{range_with_len}
use Rattle.occ_law.specs.declared.variants.Row.{Row}
use Rattle.occ_law.specs.Numbers.{is_row, first_of, last_of, lists, lists_of, number}

-- the law at a place has the number behind it
pub law_there : (rows : List Row) (i : ℕ) (other : Row) → map (λ row. number row.law) rows ≡ range_with_len 1 63 → i < 63
    → number (get_or rows i other).law ≡ i + 1
law_there rows i other table h =
    let long : length rows ≡ 63 = sym (length-map rows (λ row. number row.law)) ∙ ap length table ∙ length-range_with_len 1 63 in
    let read = get_or-map (λ row. number row.law) rows i other 0 (omega (arith, long, h)) in
    sym read ∙ ap (λ ns. get_or ns i 0) table ∙ get_or-range_with_len 1 63 i 0 h ∙ omega arith

-- what a row says
pub said : (row : Row) → is_row row ≡ true
    → (first_of row.family ≤ number row.law) × (number row.law ≤ last_of row.family) × (lists row.changes ≡ lists_of (number row.law))
unfolding is_row
said row h =
    let places = and_parts (nat_le (first_of row.family) (number row.law) && nat_le (number row.law) (last_of row.family))
    (lists row.changes == lists_of (number row.law)) h in
    let ends = and_parts (nat_le (first_of row.family) (number row.law)) (nat_le (number row.law) (last_of row.family)) places.0 in (
      leb-true (first_of row.family) (number row.law) ends.0,
      leb-true (number row.law) (last_of row.family) ends.1,
      eqb-true (lists row.changes) (lists_of (number row.law)) places.1,
    )
