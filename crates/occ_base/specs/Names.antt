use Rattle.std.specs.Prelude.{ℕ, ◌≡◌, ◌<◌, ◌++◌, ◌∷◌, [], List, length, slice_get, Some, nat_lt, if◌then◌else◌}
use Rattle.std.specs.List.{position_or_len}
use Rattle.std.specs.Str.{bytes_eq}

-- the first place of a text in a table, or the table's length where it isn't there
abbrev pub place_of : List (List ℕ) → List ℕ → ℕ
place_of texts text = position_or_len (bytes_eq text) texts

-- the table in which the text stands: the same one where it is there, else with the text at its end
abbrev pub with_text : List (List ℕ) → List ℕ → List (List ℕ)
with_text texts text = if nat_lt (place_of texts text) (length texts) then texts else texts ++ text ∷ []

-- each text stands once
abbrev pub IsDistinct : List (List ℕ) → Type 0
IsDistinct texts = (i j : ℕ) (text : List ℕ) → slice_get texts i ≡ Some text → slice_get texts j ≡ Some text → i ≡ j

-- One text has one number, and one number has one text, whatever is interned in between.
pub record IsNaming (texts : List (List ℕ)) (text : List ℕ) : Type 0 where
  -- the number that a text is given is that text's
  pub there : slice_get (with_text texts text) (place_of texts text) ≡ Some text
  -- earlier numbers keep their texts
  pub kept : (i : ℕ) → i < length texts → slice_get (with_text texts text) i ≡ slice_get texts i
  -- a text that is there keeps its number and leaves the table as it is
  pub again : (i : ℕ) → IsDistinct texts → slice_get texts i ≡ Some text → place_of texts text ≡ i
  pub same : (i : ℕ) → slice_get texts i ≡ Some text → with_text texts text ≡ texts
  -- and no text ever stands twice
  pub distinct : IsDistinct texts → IsDistinct (with_text texts text)
