-- Rows that are judged one by one.
use Rattle.std.proofs.Common.{◌≡◌, ℕ, ◌+◌, ◌<◌, ◌≤◌, List, [], ◌∷◌, ◌++◌, length, get_or, drop, Option, Some, refl, sym, ap, subst, ◌∙◌}
use Rattle.std.proofs.lemmas.List.{append-nil, drop_more, drop_all}
use Rattle.occ_parse_rules.specs.occ_lex.declared.fault.LineFault.{LineFault}
use Rattle.occ_parse_rules.specs.occ_lex.declared.symbol.Row.{Row}
use Rattle.occ_parse_rules.specs.Forest.{Laid}
use Rattle.occ_parse_layout.specs.declared.placed.Placed.{Placed}
use Rattle.occ_parse_layout.specs.Layout.{laid_rows}
use Rattle.occ_parse.specs.declared.bound.Bound.{Bound}
use Rattle.occ_parse.specs.declared.fault.ParseFault.{ParseFault}
use Rattle.occ_parse.specs.declared.fault.Which.{Which}
use Rattle.occ_parse.specs.Limits.{line_limit, stop_at, stopped}
use Rattle.occ_parse.specs.Reading.{AreForms}

-- so many rows are done, and what is left decides what follows and where it stops
pub record Passed (b : Bound) (rows : List Row) (found : Option (ℕ × LineFault)) (done : List Laid) (left : List Row) : Type 0 where
  pub forms : (lines : List Laid) → AreForms (stopped b left found).0 lines → AreForms (stopped b rows found).0 (done ++ lines)
  pub stop : (stopped b left found).1 ≡ (stopped b rows found).1

module _ (b : Bound) (rows : List Row) (found : Option (ℕ × LineFault)) where
  over_forms : (done : List Laid) (row : Row) (left : List Row) (w : Which) → Passed b rows found done (row ∷ left) → line_limit b row ≡ Some w
      → AreForms (stopped b rows found).0 done
  over_forms done row left w p over =
      let others = stopped b left found in
      let P : List Row × Option ParseFault → Type 0 = λ s. AreForms s.0 [] in
      subst (AreForms (stopped b rows found).0) (append-nil done) (p.forms [] (subst (λ o. P (stop_at row o others)) (sym over) tt))

-- the rows that are left, at a place
module _ (b : Bound) (rows : List Row) (found : Option (ℕ × LineFault)) (i : ℕ) (row : Row) (items : List Placed) where
  here : i < length rows → row ≡ get_or rows i row → Passed b rows found (laid_rows items) (drop i rows) → Passed b rows found (laid_rows items) (row ∷ drop (i + 1) rows)
  here h e p = subst (Passed b rows found (laid_rows items)) (drop_more rows i row h ∙ ap (λ r. r ∷ drop (i + 1) rows) (sym e)) p

  pub over_left_forms : (w : Which) → i < length rows → row ≡ get_or rows i row → Passed b rows found (laid_rows items) (drop i rows) → Some w ≡ line_limit b row
      → AreForms (stopped b rows found).0 (laid_rows items)
  over_left_forms w h e p over = over_forms b rows found (laid_rows items) row (drop (i + 1) rows) w (here h e p) (sym over)

module _ (b : Bound) (rows : List Row) (found : Option (ℕ × LineFault)) (i : ℕ) (items : List Placed) where
  pub none_left_forms : length rows ≤ i → Passed b rows found (laid_rows items) (drop i rows) → AreForms (stopped b rows found).0 (laid_rows items)
  none_left_forms h p =
      let q : Passed b rows found (laid_rows items) [] = subst (Passed b rows found (laid_rows items)) (drop_all i rows h) p in
      subst (AreForms (stopped b rows found).0) (append-nil (laid_rows items)) (q.forms [] tt)
