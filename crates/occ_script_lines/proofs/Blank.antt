-- Blank rows, and the last row that isn't blank.
use Rattle.std.proofs.Common.{◌≡◌, ℕ, ◌+◌, ◌<◌, ◌≤◌, Bool, true, false, cond, ◌&&◌, List, [], ◌∷◌, length, drop, Option, Some, None, refl, sym, ap, ◌∙◌}
use Rattle.std.specs.List.{list_all}
use Rattle.std.specs.Option.{unwrap_or}
use Rattle.occ_lex.specs.Rows.{first_row, rows}
use Rattle.occ_script_lines.specs.Lines.{is_blank_row}
use Rattle.occ_script_lines.specs.Sections.{last_from, latest}
use Rattle.occ_script_lines.proofs.Rows.{rows-none, rows-step}

blank_step : (text row : List ℕ) (at : ℕ) → at < length text → row ≡ first_row (drop at text) → list_all is_blank_row (rows (drop at text)) ≡ (is_blank_row row && list_all is_blank_row (rows (drop (at + length row) text)))
blank_step text row at within is = ap (list_all is_blank_row) (rows-step text row at within is)

-- a row that isn't blank
pub blank_stop : (text row : List ℕ) (at : ℕ) (all : Bool) → at < length text → row ≡ first_row (drop at text) → is_blank_row row ≡ false → list_all is_blank_row (rows (drop at text)) ≡ all → false ≡ all
blank_stop text row at all within is e so_far =
    sym (ap (λ b. b && list_all is_blank_row (rows (drop (at + length row) text))) e) ∙ sym (blank_step text row at within is) ∙ so_far

-- a blank row more
pub blank_go : (text row : List ℕ) (at : ℕ) (all : Bool) → at < length text → row ≡ first_row (drop at text) → is_blank_row row ≡ true → list_all is_blank_row (rows (drop at text)) ≡ all
    → list_all is_blank_row (rows (drop (at + length row) text)) ≡ all
blank_go text row at all within is e so_far =
    sym (ap (λ b. b && list_all is_blank_row (rows (drop (at + length row) text))) e) ∙ sym (blank_step text row at within is) ∙ so_far

-- no row is left
pub blank_all : (text : List ℕ) (at : ℕ) (all : Bool) → length text ≤ at → list_all is_blank_row (rows (drop at text)) ≡ all → true ≡ all
blank_all text at all past so_far = sym (ap (list_all is_blank_row) (rows-none text at past)) ∙ so_far

-- ---- the last row

either_last : (o : Option ℕ) (b : Bool) (n last next : ℕ) → next ≡ cond b last n → unwrap_or o next ≡ unwrap_or (latest o (cond b None (Some n))) last
either_last (Some m) b n last next e = refl
either_last None true n last next e = e
either_last None false n last next e = e

-- one row more
pub last_more : (text row : List ℕ) (at n last next all : ℕ) → at < length text → row ≡ first_row (drop at text) → next ≡ cond (is_blank_row row) last n
    → unwrap_or (last_from n (rows (drop at text))) last ≡ all → unwrap_or (last_from (n + 1) (rows (drop (at + length row) text))) next ≡ all
unfolding last_from
last_more text row at n last next all within is e so_far =
    either_last (last_from (n + 1) (rows (drop (at + length row) text))) (is_blank_row row) n last next e
    ∙ sym (ap (λ rs. unwrap_or (last_from n rs) last) (rows-step text row at within is)) ∙ so_far

-- no row is left
pub last_all : (text : List ℕ) (at n last all : ℕ) → length text ≤ at → unwrap_or (last_from n (rows (drop at text))) last ≡ all → last ≡ all
unfolding last_from
last_all text at n last all past so_far = sym (ap (λ rs. unwrap_or (last_from n rs) last) (rows-none text at past)) ∙ so_far
