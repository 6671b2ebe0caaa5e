-- The names of the laws, and which law a name is.
use Rattle.std.specs.Prelude.{ℕ, ◌≡◌, ◌-◌, ◌≤◌, List, [], ◌∷◌, Some, codes, slice_get}
use Rattle.occ_law.specs.declared.table.LawId.{LawId}

-- the names in the order of the laws' numbers, which begin with 1
unfoldable pub law_names : List (List ℕ)
law_names =
    codes "seq-none" ∷ codes "seq-one" ∷ codes "seq-flat" ∷ codes "seq-skip" ∷ codes "seq-stop" ∷ codes "assign-id" ∷ codes "assign-order" ∷
    codes "assign-pad" ∷ codes "assign-join" ∷ codes "assign-if" ∷ codes "assign-alt" ∷ codes "seq-if" ∷ codes "seq-alt" ∷ codes "expr" ∷
    codes "io-alt" ∷ codes "if-none" ∷ codes "if-false" ∷ codes "if-true" ∷ codes "if-else-stop" ∷ codes "if-cut" ∷ codes "if-nest" ∷
    codes "if-swap" ∷ codes "if-merge" ∷ codes "if-copy" ∷ codes "if-under" ∷ codes "alt-none" ∷ codes "alt-order" ∷ codes "alt-false" ∷
    codes "alt-twice" ∷ codes "alt-skip" ∷ codes "alt-case" ∷ codes "alt-flat" ∷ codes "alt-split" ∷ codes "alt-same" ∷ codes "alt-slide" ∷
    codes "alt-least" ∷ codes "par-none" ∷ codes "par-one" ∷ codes "par-flat" ∷ codes "par-order" ∷ codes "par-skip" ∷ codes "par-stop" ∷
    codes "par-assign" ∷ codes "par-if" ∷ codes "par-expand" ∷ codes "var-unused" ∷ codes "var-rename" ∷ codes "var-swap" ∷ codes "var-first" ∷
    codes "var-last" ∷ codes "var-if" ∷ codes "var-alt" ∷ codes "var-par" ∷ codes "var-any" ∷ codes "var-assign" ∷ codes "var-end" ∷
    codes "chan-unused" ∷ codes "chan-rename" ∷ codes "chan-swap" ∷ codes "chan-seq" ∷ codes "chan-if" ∷ codes "chan-alt" ∷ codes "chan-par" ∷ []

-- The law has this name.
pub record IsNamed (law : LawId) (text : List ℕ) : Type 0 where
  pub low : 1 ≤ law.0
  pub high : law.0 ≤ 63
  pub spelled : slice_get law_names (law.0 - 1) ≡ Some text
