-- The lines of a text: how many there are, and the one at a place.
use Rattle.std.proofs.Common.{arith, ◌≡◌, ◌<◌, ◌∙◌, ◌==◌, ◌≤◌, ◌+◌, ℕ, zero, suc, cond, true, false, refl, sym, ap, List, [], ◌∷◌, length, map, drop, Option, None, Some, inl, inr}
use Rattle.std.specs.Prelude.{slice_get}
use Rattle.occ_nform_read.specs.occ_lex.Rows.{rows}
use Rattle.occ_behaviour_read.specs.Claims.{bare, bare_lines}

pub bare_count : (text : List ℕ) → length (bare_lines text) ≡ length (rows text)
bare_count text = counted (rows text)
  where
    counted : (rs : List (List ℕ)) → length (map bare rs) ≡ length rs
    counted [] = refl
    counted (r ∷ rs) = ap suc (counted rs)

-- the line at a place of the rows that are left
pub line_there : (text : List ℕ) (k : ℕ) (row : List ℕ) (more : List (List ℕ)) → row ∷ more ≡ drop k (rows text) → slice_get (bare_lines text) k ≡ Some (bare row)
line_there text k row more e = at (rows text) k e
  where
    at : (rs : List (List ℕ)) (k : ℕ) → row ∷ more ≡ drop k rs → slice_get (map bare rs) k ≡ Some (bare row)
    at [] zero e = cc
    at [] (suc k) e = cc
    at (r ∷ rs) zero e = cc
    at (r ∷ rs) (suc k) e = at rs k e

pub no_line : (text : List ℕ) (k : ℕ) → [] ≡ drop k (rows text) → slice_get (bare_lines text) k ≡ None
no_line text k e = at (rows text) k e
  where
    at : (rs : List (List ℕ)) (k : ℕ) → [] ≡ drop k rs → slice_get (map bare rs) k ≡ None
    at [] zero e = refl
    at [] (suc k) e = refl
    at (r ∷ rs) zero e = cc
    at (r ∷ rs) (suc k) e = at rs k e

pub behind_row : (rs : List (List ℕ)) (k : ℕ) (row : List ℕ) (more : List (List ℕ)) → row ∷ more ≡ drop k rs → more ≡ drop (suc k) rs
behind_row [] zero row more e = cc
behind_row [] (suc k) row more e = cc
behind_row (r ∷ rs) zero row more e = cc
behind_row (r ∷ rs) (suc k) row more e = behind_row rs k row more e

pub no_text : (text : List ℕ) → length text < 1 → text ≡ []
no_text [] e = refl
no_text (b ∷ text) e = absurd (none (length text) e)
  where
    none : (n : ℕ) → suc n < 1 → ⊥
    none n h = omega arith

pub no_later_line : (text : List ℕ) (j k : ℕ) → j ≤ k → [] ≡ drop j (rows text) → slice_get (bare_lines text) k ≡ None
no_later_line text j k h e = at (rows text) j k h e
  where
    at : (rs : List (List ℕ)) (j k : ℕ) → j ≤ k → [] ≡ drop j rs → slice_get (map bare rs) k ≡ None
    at [] j zero h e = refl
    at [] j (suc k) h e = refl
    at (r ∷ rs) zero k h e = cc
    at (r ∷ rs) (suc j) zero h e = absurd (no j h)
      where
        no : (n : ℕ) → suc n ≤ 0 → ⊥
        no n h = omega arith
    at (r ∷ rs) (suc j) (suc k) h e = at rs j k (omega arith) e
