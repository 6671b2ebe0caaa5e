-- The numbers of names and of elements in a table of names.
use Rattle.std.specs.Prelude.{ℕ, List, [], ◌++◌, Some, None, codes, decimal, slice_index_or}
use Rattle.occ_syntax.specs.occ_base.Names.{place_of}
use Rattle.occ_parse_rules.specs.Unrolled.{Numbers}

-- the text of an element, by its array's text: the place stands in brackets behind it
abbrev pub element_text : List ℕ → ℕ → List ℕ
element_text text k = text ++ codes "[" ++ decimal k ++ codes "]"

-- a name by itself has its own number, and an element that of a rule
abbrev pub numbering : (ℕ → ℕ → ℕ) → Numbers
numbering number x None = x
numbering number x (Some k) = number x k

-- the number of an element in a table: that of its text
abbrev pub element_number : List (List ℕ) → ℕ → ℕ → ℕ
element_number texts x k = place_of texts (element_text (slice_index_or texts x []) k)

abbrev pub number_in : List (List ℕ) → Numbers
number_in texts = numbering (element_number texts)
