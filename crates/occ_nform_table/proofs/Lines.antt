-- The lines of a text that is joined from lines are these lines.
use Rattle.std.proofs.Common.{◌≡◌, ℕ, true, eqb, List, [], ◌∷◌, ◌++◌, map, refl, sym, ap, ◌∙◌, append_assoc}
use Rattle.std.specs.List.{AllByRecursion}
use Rattle.std.proofs.lemmas.Bool.{and_parts, eqb-false, not-true}
use Rattle.occ_lex.specs.Rows.{in_front, rows}
use Rattle.occ_lex.proofs.RowLemmas.{rows_feed, rows_more}
use Rattle.occ_nform_table.proofs.WrittenWords.{is_not, lacks}

-- a line feed stands at its end, and nowhere else
pub record IsLine (line : List ℕ) : Type 0 where
  pub body : List ℕ
  pub whole : line ≡ body ++ 10 ∷ []
  pub quiet : lacks 10 body ≡ true

rows_body : (body rest : List ℕ) → lacks 10 body ≡ true → rows ((body ++ 10 ∷ []) ++ rest) ≡ (body ++ 10 ∷ []) ∷ rows rest
rows_body [] rest h = rows_feed 10 rest refl
rows_body (b ∷ body) rest h =
    let parts = and_parts (is_not 10 b) (lacks 10 body) h in
    rows_more b ((body ++ 10 ∷ []) ++ rest) (eqb-false b 10 (not-true (eqb b 10) parts.0)) ∙ ap (in_front b) (rows_body body rest parts.1)

pub rows_line : (line rest : List ℕ) → IsLine line → rows (line ++ rest) ≡ line ∷ rows rest
rows_line line rest h = ap (λ l. rows (l ++ rest)) h.whole ∙ rows_body h.body rest h.quiet ∙ ap (λ l. l ∷ rows rest) (sym h.whole)

-- lines one behind another
abbrev pub joined : List (List ℕ) → List ℕ
joined [] = []
joined (line ∷ lines) = line ++ joined lines

pub joined-append : (front rest : List (List ℕ)) → joined (front ++ rest) ≡ joined front ++ joined rest
joined-append [] rest = refl
joined-append (line ∷ front) rest = ap (λ t. line ++ t) (joined-append front rest) ∙ sym (append_assoc line (joined front) (joined rest))

pub rows_joined : (lines : List (List ℕ)) → AllByRecursion IsLine lines → rows (joined lines) ≡ lines
unfolding rows
rows_joined [] h = refl
rows_joined (line ∷ lines) h = rows_line line (joined lines) h.0 ∙ ap (λ ls. line ∷ ls) (rows_joined lines h.1)

pub are_lines-append : (front rest : List (List ℕ)) → AllByRecursion IsLine front → AllByRecursion IsLine rest → AllByRecursion IsLine (front ++ rest)
are_lines-append [] rest h k = k
are_lines-append (line ∷ front) rest h k = (h.0, are_lines-append front rest h.1 k)

pub are_lines-map : {X : Type 0} (written : X → List ℕ) (P : X → Type 0) → ((x : X) → P x → IsLine (written x)) → (xs : List X) → AllByRecursion P xs → AllByRecursion IsLine (map written xs)
are_lines-map written P is [] h = tt
are_lines-map written P is (x ∷ xs) h = (is x h.0, are_lines-map written P is xs h.1)
