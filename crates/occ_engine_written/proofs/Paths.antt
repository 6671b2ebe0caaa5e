-- The numbers of a path that is read are below 2 ^ 32.
use Rattle.std.proofs.Common.{◌≡◌, ℕ, ◌≤◌, Bool, true, false, cond, nat_le, ◌&&◌, List, [], ◌∷◌, Option, Some, None, refl, subst, arith}
use Rattle.std.specs.List.{slice_split}
use Rattle.std.proofs.lemmas.Bool.{and_parts, leb-true}
use Rattle.occ_renamed.specs.occ_lex.Rows.{code_of}
use Rattle.occ_renamed.specs.occ_lex.Spelling.{is_numeral, value_of}
use Rattle.occ_renamed.specs.occ_script_lines.Lines.{Head, direction_of, head_from, head_of, head_of_words}
use Rattle.occ_renamed.specs.occ_script_lines.declared.direction.Direction.{Direction}
use Rattle.occ_renamed.specs.occ_script_lines.Texts.{and_place, has_zero_in_front, is_byte, is_slash, numeral_of, path_behind, path_of, place_of, places_of}
use Rattle.occ_script_table.specs.occ_script_back.Said.{IsShortPath}

-- ---- a path

numeral_low : (b : Bool) (m n : ℕ) → (b ≡ true → m ≤ 4294967295) → cond b (Some m) None ≡ Some n → n ≤ 4294967295
numeral_low true m n h e = let same : m ≡ n = cc in omega (arith, h refl, same)
numeral_low false m n h e = absurd cc

numeral_short : (digits : List ℕ) (n : ℕ) → numeral_of digits ≡ Some n → n ≤ 4294967295
unfolding numeral_of
numeral_short digits n e =
    numeral_low (is_numeral digits && nat_le (value_of digits) 4294967295) (value_of digits) n
    (λ h. leb-true (value_of digits) 4294967295 (and_parts (is_numeral digits) (nat_le (value_of digits) 4294967295) h).1) e

place_low : (b : Bool) (o : Option ℕ) (n : ℕ) → cond b None o ≡ Some n → o ≡ Some n
place_low true o n e = absurd cc
place_low false o n e = e

place_short : (digits : List ℕ) (n : ℕ) → place_of digits ≡ Some n → n ≤ 4294967295
place_short digits n e = numeral_short digits n (place_low (has_zero_in_front digits) (numeral_of digits) n e)

more_short : (o : Option ℕ) (ns : Option (List ℕ)) (path : List ℕ) → ((n : ℕ) → o ≡ Some n → n ≤ 4294967295) → ((p : List ℕ) → ns ≡ Some p → IsShortPath p)
    → and_place o ns ≡ Some path → IsShortPath path
more_short (Some n) (Some ns) path h k e = let same : n ∷ ns ≡ path = cc in subst IsShortPath same (h n refl, k ns refl)
more_short (Some n) None path h k e = absurd cc
more_short None ns path h k e = absurd cc

places_short : (pieces : List (List ℕ)) (path : List ℕ) → places_of pieces ≡ Some path → IsShortPath path
places_short [] path e = let same : [] ≡ path = cc in subst IsShortPath same tt
places_short (piece ∷ pieces) path e = more_short (place_of piece) (places_of pieces) path (place_short piece) (places_short pieces) e

behind_short : (text path : List ℕ) → path_behind text ≡ Some path → IsShortPath path
behind_short [] path e = let same : [] ≡ path = cc in subst IsShortPath same tt
behind_short (byte ∷ text) path e = places_short (slice_split is_slash (byte ∷ text)) path e

slashed : (b : Bool) (o : Option (List ℕ)) (path : List ℕ) → ((p : List ℕ) → o ≡ Some p → IsShortPath p) → cond b o None ≡ Some path → IsShortPath path
slashed true o path h e = h path e
slashed false o path h e = absurd cc

pub path_short : (text path : List ℕ) → path_of text ≡ Some path → IsShortPath path
path_short [] path e = absurd cc
path_short (byte ∷ text) path e = slashed (is_slash byte) (path_behind text) path (behind_short text) e

-- ---- the line of an order

of_head : (law : List ℕ) (d : Option Direction) (p : Option (List ℕ)) (h : Head) → ((path : List ℕ) → p ≡ Some path → IsShortPath path)
    → head_from law d p ≡ Some h → IsShortPath h.path
of_head law (Some dir) (Some path) h k e =
    let same : record { law = law; dir = dir; path = path } ≡ h = cc in subst (λ (g : Head). IsShortPath g.path) same (k path refl)
of_head law (Some dir) None h k e = absurd cc
of_head law None p h k e = absurd cc

if_head : (b : Bool) (o : Option Head) (h : Head) → cond b o None ≡ Some h → o ≡ Some h
if_head true o h e = e
if_head false o h e = absurd cc

words_short : (keyword : List ℕ) (words : List (List ℕ)) (h : Head) → head_of_words keyword words ≡ Some h → IsShortPath h.path
words_short keyword [] h e = absurd cc
words_short keyword (a ∷ []) h e = absurd cc
words_short keyword (a ∷ b ∷ []) h e = absurd cc
words_short keyword (a ∷ b ∷ c ∷ []) h e = absurd cc
words_short keyword (a ∷ b ∷ c ∷ d ∷ others) h e = of_head b (direction_of c) (path_of d) h (path_short d) (if_head _ (head_from b (direction_of c) (path_of d)) h e)

pub head_short : (keyword row : List ℕ) (h : Head) → head_of keyword row ≡ Some h → IsShortPath h.path
unfolding head_of
head_short keyword row h e = words_short keyword (slice_split (is_byte 32) (code_of row)) h e
