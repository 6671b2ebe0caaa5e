-- Lines that are written are the lines of their text.
use Rattle.std.proofs.Common.{◌≡◌, ◌∙◌, ℕ, true, false, ◌&&◌, not, List, [], ◌∷◌, ◌++◌, map, Option, None, Some, refl, ap}
use Rattle.std.specs.Prelude.{unwrap_or}
use Rattle.std.specs.List.{AllByRecursion}
use Rattle.std.proofs.lemmas.Bool.{both_ways, eq-eqb}
use Rattle.occ_nform_read.specs.occ_nform_table.Words.{before, or_else}
use Rattle.occ_nform_read.proofs.from_nform_table.Lines.{IsLine, joined, rows_joined}
use Rattle.occ_nform_read.proofs.from_nform_table.WrittenWords.{before_back, before_is, is_not, lacks, lacks-append}
use Rattle.occ_behaviour_read.specs.Claims.{bare, bare_lines}
use Rattle.occ_behaviour_read.proofs.Lists.{and_off}

-- no byte of a line end stands in it
abbrev pub IsQuiet : List ℕ → Type 0
IsQuiet body = (lacks 10 body ≡ true) × (lacks 13 body ≡ true)

-- a line with its end
abbrev pub fed : List ℕ → List ℕ
fed body = body ++ 10 ∷ []

-- a byte that stands in a text isn't lacked
pub has_byte : (byte : ℕ) (front rest : List ℕ) → lacks byte (front ++ byte ∷ rest) ≡ false
has_byte byte [] rest = ap (λ t. not t && lacks byte rest) (eq-eqb byte byte refl)
has_byte byte (b ∷ front) rest = ap (λ c. is_not byte b && c) (has_byte byte front rest) ∙ and_off (is_not byte b)

bare_line : (body : List ℕ) → lacks 13 body ≡ true → bare (fed body) ≡ body
bare_line body h = by_end (before (13 ∷ 10 ∷ []) (fed body)) refl
  where
    by_end : (o : Option (List ℕ)) → before (13 ∷ 10 ∷ []) (fed body) ≡ o → unwrap_or (or_else o (before (10 ∷ []) (fed body))) (fed body) ≡ body
    by_end None e = ap (λ o. unwrap_or o (fed body)) (before_back body (10 ∷ []))
    by_end (Some front) e =
        let whole : fed body ≡ front ++ 13 ∷ 10 ∷ [] = before_is (13 ∷ 10 ∷ []) (fed body) front e in
        absurd (both_ways (lacks 13 (fed body)) (ap (lacks 13) whole ∙ has_byte 13 front (10 ∷ [])) (lacks-append 13 body (10 ∷ []) h refl))

are_lines : (bodies : List (List ℕ)) → AllByRecursion IsQuiet bodies → AllByRecursion IsLine (map fed bodies)
are_lines [] h = tt
are_lines (body ∷ bodies) h = (record { body = body; whole = refl; quiet = h.0.0 }, are_lines bodies h.1)

all_bare : (bodies : List (List ℕ)) → AllByRecursion IsQuiet bodies → map bare (map fed bodies) ≡ bodies
all_bare [] h = refl
all_bare (body ∷ bodies) h = (λ i. bare_line body h.0.1 i ∷ all_bare bodies h.1 i)

-- lines that are written one behind another are those of the text
pub lines_bare : (bodies : List (List ℕ)) → AllByRecursion IsQuiet bodies → bare_lines (joined (map fed bodies)) ≡ bodies
lines_bare bodies h = ap (map bare) (rows_joined (map fed bodies) (are_lines bodies h)) ∙ all_bare bodies h
