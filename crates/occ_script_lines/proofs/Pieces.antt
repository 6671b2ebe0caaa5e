-- The pieces of a text between its slashes.
use Rattle.std.proofs.Common.{◌≡◌, ℕ, ◌+◌, ◌<◌, ◌≤◌, Bool, true, false, not, cond, List, [], ◌∷◌, ◌++◌, length, take, drop, Option, Some, None, refl, ap, ◌∙◌, arith}
use Rattle.std.specs.Prelude.{option_map}
use Rattle.std.specs.Borrow.{Bor}
use Rattle.std.specs.List.{onto_first, position_or_len, slice_split}
use Rattle.std.proofs.lemmas.List.Splits.{slice_split-cons_no, slice_split_first}
use Rattle.occ_script_lines.specs.Texts.{is_byte}

-- a text without such a byte is one piece
pub piece_whole : (byte : ℕ) (text : List ℕ) → length text ≤ position_or_len (is_byte byte) text → slice_split (is_byte byte) text ≡ text ∷ []
piece_whole byte [] h = refl
piece_whole byte (b ∷ text) h = at (piece_whole byte text) (is_byte byte b) refl h
  where
    at : (length text ≤ position_or_len (is_byte byte) text → slice_split (is_byte byte) text ≡ text ∷ []) → (s : Bool) → is_byte byte b ≡ s
        → length (b ∷ text) ≤ cond (not s) (1 + position_or_len (is_byte byte) text) 0 → slice_split (is_byte byte) (b ∷ text) ≡ (b ∷ text) ∷ []
    at later true e h = absurd (omega (arith, h))
    at later false e h = slice_split-cons_no (is_byte byte) b text e ∙ ap (onto_first b) (later (omega (arith, h)))

-- else the first piece ends at the first such byte
pub piece_front : (byte : ℕ) (text : List ℕ) → position_or_len (is_byte byte) text < length text
    → slice_split (is_byte byte) text ≡ take (position_or_len (is_byte byte) text) text ∷ slice_split (is_byte byte) (drop (position_or_len (is_byte byte) text + 1) text)
piece_front byte text h = slice_split_first (is_byte byte) text 0 h

-- ---- the numbers so far, in front of those of what is left

abbrev pub behind : List ℕ → Option (List ℕ) → Option (List ℕ)
behind ns places = option_map (λ ms. ns ++ ms) places

-- how much text is left
abbrev pub left : Option (Bor (List ℕ)) → ℕ
left None = 0
left (Some text) = length text.now + 1
