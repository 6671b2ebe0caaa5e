-- A generated program that the words ask for has from 1 to 48 stages.
use Rattle.std.proofs.Common.{◌+◌, ◌≤◌, ℕ, zero, suc, Bool, true, false, cond, ◌&&◌, List, [], ◌∷◌, Option, Some, None, codes, decimal, if◌then◌else◌, find, option_and_then, option_map, arith}
use Rattle.std.specs.List.{range_with_len}
use Rattle.std.specs.Str.{bytes_eq}
use Rattle.occ_tool_words.specs.occ_gen.declared.shape.Shape.{Shape}
use Rattle.occ_replay.specs.occ_script_lines.Texts.{path_of}
use Rattle.occ_tool_run.specs.Replies.{AreStagesInRange}
use Rattle.occ_tool_words.specs.Words.{Job, same, normalise, normal, belongs, stress, refine, deadlock, replay, run, transform, expand, derive, expand_of, is_plain, job_of, shape_of, stages_of, stress_of, with_one, with_two, with_two_later}

abbrev InRange : ℕ → Type 0
InRange n = (1 ≤ n) × (n ≤ 48)

abbrev IsInRange : Option ℕ → Type 0
IsInRange None = Unit {0}
IsInRange (Some n) = InRange n

-- either of two
choice : (b : Bool) (x y : Option Job) → AreStagesInRange x → AreStagesInRange y → AreStagesInRange (if b then x else y)
choice true x y h k = h
choice false x y h k = k

-- ---- numbers of stages

either : (b : Bool) (x y : Option ℕ) → IsInRange x → IsInRange y → IsInRange (cond b x y)
either true x y h k = h
either false x y h k = k

found : (test : ℕ → Bool) (n k : ℕ) → 1 ≤ n → n + k ≤ 49 → IsInRange (find test (range_with_len n k))
found test n zero low high = tt
found test n (suc k) low high =
    let one : InRange n = (low, omega (arith, high)) in
    either (test n) (Some n) (find test (range_with_len (n + 1) k)) one (found test (n + 1) k (omega (arith, low)) (omega (arith, high)))

staged : (word : List ℕ) → IsInRange (stages_of word)
unfolding stages_of
staged word = found (λ n. bytes_eq (decimal n) word) 1 48 (omega arith) (omega arith)

-- ---- commands

shaped : (o : Option Shape) (m : Option ℕ) → IsInRange m → AreStagesInRange (option_and_then (λ shape. option_map (stress shape) m) o)
shaped None m h = tt
shaped (Some shape) None h = tt
shaped (Some shape) (Some n) h = h

of_one : (command first : List ℕ) → AreStagesInRange (with_one command first)
of_one command first =
    choice (bytes_eq command (codes "normalise")) (Some (normalise first)) _ tt
    (choice (bytes_eq command (codes "normal")) (Some (normal first)) _ tt
    (choice (bytes_eq command (codes "deadlock")) (Some (deadlock first)) _ tt
    (choice (bytes_eq command (codes "replay")) (Some (replay first)) _ tt
    (choice (bytes_eq command (codes "derive")) (Some (derive first)) None tt tt))))

pathed : (first : List ℕ) (o : Option (List ℕ)) → AreStagesInRange (option_map (expand first) o)
pathed first None = tt
pathed first (Some path) = tt

of_two_later : (command first second : List ℕ) → AreStagesInRange (with_two_later command first second)
of_two_later command first second =
    choice (bytes_eq command (codes "refine")) (Some (refine first second)) _ tt
    (choice (bytes_eq command (codes "run")) (Some (run first second)) _ tt
    (choice (bytes_eq command (codes "transform")) (Some (transform first second)) _ tt
    (choice (bytes_eq command (codes "expand")) (expand_of first second) None (pathed first (path_of second)) tt)))

of_two : (command first second : List ℕ) → AreStagesInRange (with_two command first second)
of_two command first second =
    choice (bytes_eq command (codes "same")) (Some (same first second)) _ tt
    (choice (bytes_eq command (codes "belongs")) (Some (belongs first second)) _ tt
    (choice (bytes_eq command (codes "stress")) (stress_of first second) _ (shaped (shape_of first) (stages_of second) (staged second))
    (of_two_later command first second)))

-- where words ask for a generated program, its number of stages is in range
pub fit : (words : List (List ℕ)) → AreStagesInRange (job_of words)
fit [] = tt
fit (name ∷ []) = tt
fit (name ∷ command ∷ []) = tt
fit (name ∷ command ∷ first ∷ []) = choice (is_plain first) (with_one command first) None (of_one command first) tt
fit (name ∷ command ∷ first ∷ second ∷ []) = choice (is_plain first && is_plain second) (with_two command first second) None (of_two command first second) tt
fit (name ∷ command ∷ first ∷ second ∷ third ∷ rest) = tt
