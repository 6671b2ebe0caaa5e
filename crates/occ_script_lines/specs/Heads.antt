-- The words of a step's line as code has them.
use Rattle.std.specs.Prelude.{ℕ, ◌≡◌, Bool, ◌&&◌, if◌then◌else◌, List, ◌∷◌, Option, Some, None}
use Rattle.std.specs.List.{list_all}
use Rattle.std.specs.Str.{bytes_eq}
use Rattle.occ_script_lines.specs.declared.keyword.Head.{Head as Seen}
use Rattle.occ_script_lines.specs.declared.keyword.Words.{Words}
use Rattle.occ_script_lines.specs.Lines.{Head, direction_of, head_from, head_of_words, is_empty, is_law_word}
use Rattle.occ_script_lines.specs.Places.{pieces_behind}
use Rattle.occ_script_lines.specs.Texts.{path_of}

-- what is found on a line is what it says
pub record IsHead (w : Head) (h : Seen) : Type 0 where
  pub law : h.law.now ≡ w.law
  pub dir : h.dir ≡ w.dir
  pub path : h.path ≡ w.path

abbrev pub AreHeads : Option Head → Option Seen → Type 0
AreHeads None None = Unit {0}
AreHeads None (Some h) = ⊥
AreHeads (Some w) None = ⊥
AreHeads (Some w) (Some h) = IsHead w h

-- the pieces of a line are four words and what stands behind, or too few
abbrev pub AreWords : List (List ℕ) → Option Words → Type 0
AreWords pieces None = (keyword : List ℕ) → head_of_words keyword pieces ≡ None
AreWords pieces (Some w) = pieces ≡ w.keyword.now ∷ w.law.now ∷ w.dir.now ∷ w.path.now ∷ pieces_behind 32 w.rest

-- what four words say
abbrev pub is_step : List ℕ → Words → Bool
is_step keyword w = bytes_eq w.keyword.now keyword && (is_law_word w.law.now && list_all is_empty (pieces_behind 32 w.rest))

abbrev pub head_in : List ℕ → Words → Option Head
head_in keyword w = if is_step keyword w then head_from w.law.now (direction_of w.dir.now) (path_of w.path.now) else None
