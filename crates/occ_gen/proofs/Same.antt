-- Texts, their lengths and tables of names, compared by computing.
use Rattle.std.proofs.Common.{◌≡◌, ℕ, ◌+◌, ◌*◌, Bool, true, false, ◌&&◌, eqb, List, [], ◌∷◌, ◌++◌, length, replicate, refl, ap, ◌∙◌, arith}
use Rattle.std.proofs.lemmas.Bool.{and_parts, eqb-true}
use Rattle.std.proofs.lemmas.List.{length-append, length-replicate}
use Rattle.occ_gen.specs.Programs.{Line, line_text, lines_text}
use Rattle.occ_script.specs.occ_lex.Printed.{Printed, pieces_text, printed_line, printed_text}

abbrev pub same_text : List ℕ → List ℕ → Bool
same_text [] [] = true
same_text [] (y ∷ ys) = false
same_text (x ∷ xs) [] = false
same_text (x ∷ xs) (y ∷ ys) = eqb x y && same_text xs ys

pub same_text-true : (xs ys : List ℕ) → same_text xs ys ≡ true → xs ≡ ys
same_text-true [] [] h = refl
same_text-true [] (y ∷ ys) h = absurd cc
same_text-true (x ∷ xs) [] h = absurd cc
same_text-true (x ∷ xs) (y ∷ ys) h =
    let both = and_parts (eqb x y) (same_text xs ys) h in
    ap (λ n. n ∷ xs) (eqb-true x y both.0) ∙ ap (λ zs. y ∷ zs) (same_text-true xs ys both.1)

abbrev pub same_table : List (List ℕ) → List (List ℕ) → Bool
same_table [] [] = true
same_table [] (y ∷ ys) = false
same_table (x ∷ xs) [] = false
same_table (x ∷ xs) (y ∷ ys) = same_text x y && same_table xs ys

pub same_table-true : (xs ys : List (List ℕ)) → same_table xs ys ≡ true → xs ≡ ys
same_table-true [] [] h = refl
same_table-true [] (y ∷ ys) h = absurd cc
same_table-true (x ∷ xs) [] h = absurd cc
same_table-true (x ∷ xs) (y ∷ ys) h =
    let both = and_parts (same_text x y) (same_table xs ys) h in
    ap (λ t. t ∷ xs) (same_text-true x y both.0) ∙ ap (λ t. y ∷ t) (same_table-true xs ys both.1)

-- ---- lines with their margins

abbrev same_line : Line → Printed → Bool
same_line l p = eqb l.level p.level && same_text l.words (pieces_text p.pieces)

abbrev pub same_lines : List Line → List Printed → Bool
same_lines [] [] = true
same_lines [] (p ∷ ps) = false
same_lines (l ∷ ls) [] = false
same_lines (l ∷ ls) (p ∷ ps) = same_line l p && same_lines ls ps

one_line : (l : Line) (p : Printed) → same_line l p ≡ true → line_text l ≡ printed_line p
one_line l p h =
    let both = and_parts (eqb l.level p.level) (same_text l.words (pieces_text p.pieces)) h in
    ap (λ n. replicate (2 * n) 32 ++ l.words ++ 10 ∷ []) (eqb-true l.level p.level both.0)
    ∙ ap (λ t. replicate (2 * p.level) 32 ++ t ++ 10 ∷ []) (same_text-true l.words (pieces_text p.pieces) both.1)

pub same_lines-true : (ls : List Line) (ps : List Printed) → same_lines ls ps ≡ true → lines_text ls ≡ printed_text ps
same_lines-true [] [] h = refl
same_lines-true [] (p ∷ ps) h = absurd cc
same_lines-true (l ∷ ls) [] h = absurd cc
same_lines-true (l ∷ ls) (p ∷ ps) h =
    let both = and_parts (same_line l p) (same_lines ls ps) h in
    ap (λ t. t ++ lines_text ls) (one_line l p both.0) ∙ ap (λ t. printed_line p ++ t) (same_lines-true ls ps both.1)

-- how many bytes lines have
abbrev pub bytes_in : List Line → ℕ
bytes_in [] = 0
bytes_in (l ∷ ls) = (2 * l.level + (length l.words + 1)) + bytes_in ls

pub bytes_are : (ls : List Line) → length (lines_text ls) ≡ bytes_in ls
bytes_are [] = refl
bytes_are (l ∷ ls) =
    let margin : List ℕ = replicate {A = ℕ} (2 * l.level) 32 in
    omega (arith, length-append (line_text l) (lines_text ls), length-append (margin ++ l.words) (10 ∷ []), length-append margin l.words, length-replicate {A = ℕ} (2 * l.level) 32, bytes_are ls)
