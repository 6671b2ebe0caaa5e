-- The steps of lines, read one by one.
use Rattle.std.proofs.Common.{◌≡◌, ◌+◌, ℕ, Result, Ok, Err, List, [], ◌∷◌, ◌++◌, drop, map, refl, sym, ap, ◌∙◌, Option, Some, None}
use Rattle.std.proofs.lemmas.List.{append_assoc, append-nil}
use Rattle.occ_behaviour_read.specs.occ_lex.Rows.{rows}
use Rattle.occ_behaviour_read.specs.Claims.{and_then, bare, bare_lines, found_at}
use Rattle.occ_run_schedule.specs.Schedules.{step_line, steps_from}

pub two_dropped : (xs : List (List ℕ)) → drop 1 (drop 1 xs) ≡ drop 2 xs
two_dropped [] = refl
two_dropped (x ∷ []) = refl
two_dropped (x ∷ y ∷ xs) = refl

-- steps that were read, and then those of what is left
abbrev pub prefixed : List ℕ → Result (List ℕ) ℕ → Result (List ℕ) ℕ
prefixed xs (Ok ns) = Ok (xs ++ ns)
prefixed xs (Err n) = Err n

pub begun : (r : Result (List ℕ) ℕ) → prefixed [] r ≡ r
begun (Ok ns) = refl
begun (Err n) = refl

one_more : (xs : List ℕ) (x : ℕ) (r : Result (List ℕ) ℕ) → prefixed (xs ++ x ∷ []) r ≡ prefixed xs (and_then r (λ ns. Ok (x ∷ ns)))
one_more xs x (Ok ns) = ap Ok (append_assoc xs (x ∷ []) ns)
one_more xs x (Err n) = refl

-- what is read of lines, by what is read of the first
step_then : List ℕ → ℕ → List (List ℕ) → Option ℕ → Result (List ℕ) ℕ
step_then xs k lines o = prefixed xs (and_then (found_at k o) (λ n. and_then (steps_from (k + 1) lines) (λ ns. Ok (n ∷ ns))))

module _ (text after row xs : List ℕ) (k : ℕ) (whole : Result (List ℕ) ℕ) where
  -- a line that says a step
  pub onward : (x : ℕ) → rows text ≡ row ∷ rows after → Some x ≡ step_line (bare row) → prefixed xs (steps_from k (bare_lines text)) ≡ whole
      → prefixed (xs ++ x ∷ []) (steps_from (k + 1) (bare_lines after)) ≡ whole
  unfolding step_then
  onward x e h i = one_more xs x (steps_from (k + 1) (bare_lines after)) ∙ ap (step_then xs k (bare_lines after)) h
      ∙ sym (ap (λ rs. prefixed xs (steps_from k (map bare rs))) e) ∙ i

  -- a line that says none
  pub failed : rows text ≡ row ∷ rows after → None ≡ step_line (bare row) → prefixed xs (steps_from k (bare_lines text)) ≡ whole → whole ≡ Err (k + 1)
  unfolding step_then
  failed e h i = sym i ∙ ap (λ rs. prefixed xs (steps_from k (map bare rs))) e ∙ sym (ap (step_then xs k (bare_lines after)) h)

-- no line is left
pub over : (text xs : List ℕ) (k : ℕ) (whole : Result (List ℕ) ℕ) → rows text ≡ [] → prefixed xs (steps_from k (bare_lines text)) ≡ whole → whole ≡ Ok xs
over text xs k whole e i = sym i ∙ ap (λ rs. prefixed xs (steps_from k (map bare rs))) e ∙ ap Ok (append-nil xs)
