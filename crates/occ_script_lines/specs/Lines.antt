-- The keyword lines of scripts and orders.
use Rattle.std.specs.Prelude.{ℕ, Bool, true, false, ◌&&◌, ◌||◌, not, nat_eq, nat_le, ◌==◌, if◌then◌else◌, List, [], ◌∷◌, drop, take, length, codes, Option, Some, None, slice_get}
use Rattle.std.specs.List.{list_all, slice_split, starts_with}
use Rattle.std.specs.Str.{bytes_eq}
use Rattle.occ_lex.specs.Rows.{code_of, is_space}
use Rattle.occ_lex.specs.Spelling.{is_between, is_name_byte}
use Rattle.occ_script_lines.specs.declared.direction.Direction.{Direction}
use Rattle.occ_script_lines.specs.declared.direction.Direction.TheVariants as direction
use Rattle.occ_script_lines.specs.declared.section.Format.{Format}
use Rattle.occ_script_lines.specs.declared.section.Format.TheVariants as format
use Rattle.occ_script_lines.specs.Texts.{is_byte, path_of}

-- a byte that a name could go on with
abbrev pub goes_on : Option ℕ → Bool
goes_on None = false
goes_on (Some byte) = is_name_byte byte

-- a line that begins with a word
abbrev pub begins_with : List ℕ → List ℕ → Bool
begins_with word row = starts_with nat_eq row word && not (goes_on (slice_get row (length word)))

-- A keyword line: FROM, STEP or TO at level 0 of a script, and ORDER at level 0 of orders.
unfoldable pub is_keyword : Format → List ℕ → Bool
is_keyword format.Script row = begins_with (codes "FROM") row || (begins_with (codes "STEP") row || begins_with (codes "TO") row)
is_keyword format.Orders row = begins_with (codes "ORDER") row

-- a line that is these words, and then nothing but spaces and a comment
unfoldable pub is_line : List ℕ → List ℕ → Bool
is_line words row = bytes_eq (take (length words) (code_of row)) words && list_all is_space (drop (length words) (code_of row))

-- a line with nothing but spaces and a comment
abbrev pub is_blank_row : List ℕ → Bool
is_blank_row row = list_all is_space (code_of row)

-- ---- the line of a step or an order

-- lower-case letters and `-`, one at the least
abbrev pub is_law_byte : ℕ → Bool
is_law_byte byte = is_between 97 122 byte || byte == 45

abbrev pub is_law_word : List ℕ → Bool
is_law_word text = nat_le 1 (length text) && list_all is_law_byte text

abbrev pub direction_of : List ℕ → Option Direction
direction_of text = if bytes_eq text (codes "FORWARD") then Some direction.Forward
    else (if bytes_eq text (codes "BACKWARD") then Some direction.Backward else None)

-- what a step or an order says on its line
pub record Head : Type 0 where
  pub law : List ℕ
  pub dir : Direction
  pub path : List ℕ

abbrev pub head_from : List ℕ → Option Direction → Option (List ℕ) → Option Head
head_from law (Some dir) (Some path) = Some (record { law = law; dir = dir; path = path })
head_from law (Some dir) None = None
head_from law None path = None

abbrev pub is_empty : List ℕ → Bool
is_empty [] = true
is_empty (byte ∷ text) = false

-- the words of a line, with one space in front of each but the first: a keyword, a law, a direction and a path
abbrev pub head_of_words : List ℕ → List (List ℕ) → Option Head
head_of_words keyword [] = None
head_of_words keyword (a ∷ []) = None
head_of_words keyword (a ∷ b ∷ []) = None
head_of_words keyword (a ∷ b ∷ c ∷ []) = None
head_of_words keyword (a ∷ b ∷ c ∷ d ∷ others) =
    if bytes_eq a keyword && (is_law_word b && list_all is_empty others) then head_from b (direction_of c) (path_of d) else None

unfoldable pub head_of : List ℕ → List ℕ → Option Head
head_of keyword row = head_of_words keyword (slice_split (is_byte 32) (code_of row))
