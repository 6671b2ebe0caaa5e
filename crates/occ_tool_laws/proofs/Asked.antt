-- What the words ask for decides what their answer is.
use Rattle.std.proofs.Common.{◌≡◌, ℕ, Bool, true, false, cond, List, [], ◌∷◌, Option, Some, None, refl, sym, subst, ◌∙◌, ◌&&◌}
use Rattle.std.specs.Prelude.{option_and_then, option_map}
use Rattle.occ_witness.specs.occ_gen.declared.shape.Shape.{Shape}
use Rattle.occ_witness.specs.occ_script_lines.Texts.{path_of}
use Rattle.occ_witness.specs.occ_tool_words.Words.{Job, belongs, deadlock, derive, expand, expand_of, is_plain, job_of, normal, normalise, refine, replay, run, same, shape_of, stages_of, stress, stress_of, transform, with_one, with_two, with_two_later}
use Rattle.occ_witness.specs.occ_tool_run.Answers.{Derives, Expands, IsAnswer, Transforms, checking, comparison, normalisation_by_laws, expanding, membership, normalisation, refinement, replaying, running, seeking, stressing, transforming, usage}
use Rattle.occ_witness.specs.occ_tool_run.Derivations.{Replays}
use Rattle.occ_witness.specs.occ_call.Files.{Files}
use Rattle.occ_witness.specs.occ_script_back.Said.{IsShortPath}

-- ---- the answer to words that ask for it

pub transform_asked : (files : Files) (words : List (List ℕ)) (answer : _) (program orders : List ℕ) → job_of words ≡ Some (transform program orders)
    → IsAnswer files words answer → Transforms (files program) (files orders) answer
transform_asked files words answer program orders j (usage k h) = let bad : Some (transform program orders) ≡ None = sym j ∙ k in absurd cc
transform_asked files words answer program orders j (comparison a b k h) = let bad : Some (transform program orders) ≡ Some (same a b) = sym j ∙ k in absurd cc
transform_asked files words answer program orders j (normalisation a k h) = let bad : Some (transform program orders) ≡ Some (normalise a) = sym j ∙ k in absurd cc
transform_asked files words answer program orders j (checking a k h) = let bad : Some (transform program orders) ≡ Some (normal a) = sym j ∙ k in absurd cc
transform_asked files words answer program orders j (membership a b k h) = let bad : Some (transform program orders) ≡ Some (belongs a b) = sym j ∙ k in absurd cc
transform_asked files words answer program orders j (stressing shape n k h) = let bad : Some (transform program orders) ≡ Some (stress shape n) = sym j ∙ k in absurd cc
transform_asked files words answer program orders j (refinement a b k h) = let bad : Some (transform program orders) ≡ Some (refine a b) = sym j ∙ k in absurd cc
transform_asked files words answer program orders j (seeking a k h) = let bad : Some (transform program orders) ≡ Some (deadlock a) = sym j ∙ k in absurd cc
transform_asked files words answer program orders j (replaying a k h) = let bad : Some (transform program orders) ≡ Some (replay a) = sym j ∙ k in absurd cc
transform_asked files words answer program orders j (running a b k h) = let bad : Some (transform program orders) ≡ Some (run a b) = sym j ∙ k in absurd cc
transform_asked files words answer program orders j (transforming a b k h) =
    let e : Some (transform program orders) ≡ Some (transform a b) = sym j ∙ k in
    let first : a ≡ program = cc in
    let second : b ≡ orders = cc in
    subst (λ x. Transforms (files x) (files orders) answer) first (subst (λ x. Transforms (files a) (files x) answer) second h)
transform_asked files words answer program orders j (expanding a way k h) = let bad : Some (transform program orders) ≡ Some (expand a way) = sym j ∙ k in absurd cc
transform_asked files words answer program orders j (normalisation_by_laws a k h) = let bad : Some (transform program orders) ≡ Some (derive a) = sym j ∙ k in absurd cc

pub expand_asked : (files : Files) (words : List (List ℕ)) (answer : _) (program path : List ℕ) → job_of words ≡ Some (expand program path)
    → IsAnswer files words answer → Expands (files program) path answer
expand_asked files words answer program path j (usage k h) = let bad : Some (expand program path) ≡ None = sym j ∙ k in absurd cc
expand_asked files words answer program path j (comparison a b k h) = let bad : Some (expand program path) ≡ Some (same a b) = sym j ∙ k in absurd cc
expand_asked files words answer program path j (normalisation a k h) = let bad : Some (expand program path) ≡ Some (normalise a) = sym j ∙ k in absurd cc
expand_asked files words answer program path j (checking a k h) = let bad : Some (expand program path) ≡ Some (normal a) = sym j ∙ k in absurd cc
expand_asked files words answer program path j (membership a b k h) = let bad : Some (expand program path) ≡ Some (belongs a b) = sym j ∙ k in absurd cc
expand_asked files words answer program path j (stressing shape n k h) = let bad : Some (expand program path) ≡ Some (stress shape n) = sym j ∙ k in absurd cc
expand_asked files words answer program path j (refinement a b k h) = let bad : Some (expand program path) ≡ Some (refine a b) = sym j ∙ k in absurd cc
expand_asked files words answer program path j (seeking a k h) = let bad : Some (expand program path) ≡ Some (deadlock a) = sym j ∙ k in absurd cc
expand_asked files words answer program path j (replaying a k h) = let bad : Some (expand program path) ≡ Some (replay a) = sym j ∙ k in absurd cc
expand_asked files words answer program path j (running a b k h) = let bad : Some (expand program path) ≡ Some (run a b) = sym j ∙ k in absurd cc
expand_asked files words answer program path j (transforming a b k h) = let bad : Some (expand program path) ≡ Some (transform a b) = sym j ∙ k in absurd cc
expand_asked files words answer program path j (expanding a way k h) =
    let e : Some (expand program path) ≡ Some (expand a way) = sym j ∙ k in
    let first : a ≡ program = cc in
    let second : way ≡ path = cc in
    subst (λ x. Expands (files x) path answer) first (subst (λ x. Expands (files a) x answer) second h)
expand_asked files words answer program path j (normalisation_by_laws a k h) = let bad : Some (expand program path) ≡ Some (derive a) = sym j ∙ k in absurd cc

pub derive_asked : (files : Files) (words : List (List ℕ)) (answer : _) (program : List ℕ) → job_of words ≡ Some (derive program)
    → IsAnswer files words answer → Derives (files program) answer
derive_asked files words answer program j (usage k h) = let bad : Some (derive program) ≡ None = sym j ∙ k in absurd cc
derive_asked files words answer program j (comparison a b k h) = let bad : Some (derive program) ≡ Some (same a b) = sym j ∙ k in absurd cc
derive_asked files words answer program j (normalisation a k h) = let bad : Some (derive program) ≡ Some (normalise a) = sym j ∙ k in absurd cc
derive_asked files words answer program j (checking a k h) = let bad : Some (derive program) ≡ Some (normal a) = sym j ∙ k in absurd cc
derive_asked files words answer program j (membership a b k h) = let bad : Some (derive program) ≡ Some (belongs a b) = sym j ∙ k in absurd cc
derive_asked files words answer program j (stressing shape n k h) = let bad : Some (derive program) ≡ Some (stress shape n) = sym j ∙ k in absurd cc
derive_asked files words answer program j (refinement a b k h) = let bad : Some (derive program) ≡ Some (refine a b) = sym j ∙ k in absurd cc
derive_asked files words answer program j (seeking a k h) = let bad : Some (derive program) ≡ Some (deadlock a) = sym j ∙ k in absurd cc
derive_asked files words answer program j (replaying a k h) = let bad : Some (derive program) ≡ Some (replay a) = sym j ∙ k in absurd cc
derive_asked files words answer program j (running a b k h) = let bad : Some (derive program) ≡ Some (run a b) = sym j ∙ k in absurd cc
derive_asked files words answer program j (transforming a b k h) = let bad : Some (derive program) ≡ Some (transform a b) = sym j ∙ k in absurd cc
derive_asked files words answer program j (expanding a way k h) = let bad : Some (derive program) ≡ Some (expand a way) = sym j ∙ k in absurd cc
derive_asked files words answer program j (normalisation_by_laws a k h) =
    let e : Some (derive program) ≡ Some (derive a) = sym j ∙ k in
    let first : a ≡ program = cc in
    subst (λ x. Derives (files x) answer) first h

pub replay_asked : (files : Files) (words : List (List ℕ)) (answer : _) (script : List ℕ) → job_of words ≡ Some (replay script)
    → IsAnswer files words answer → Replays (files script) answer
replay_asked files words answer script j (usage k h) = let bad : Some (replay script) ≡ None = sym j ∙ k in absurd cc
replay_asked files words answer script j (comparison a b k h) = let bad : Some (replay script) ≡ Some (same a b) = sym j ∙ k in absurd cc
replay_asked files words answer script j (normalisation a k h) = let bad : Some (replay script) ≡ Some (normalise a) = sym j ∙ k in absurd cc
replay_asked files words answer script j (checking a k h) = let bad : Some (replay script) ≡ Some (normal a) = sym j ∙ k in absurd cc
replay_asked files words answer script j (membership a b k h) = let bad : Some (replay script) ≡ Some (belongs a b) = sym j ∙ k in absurd cc
replay_asked files words answer script j (stressing shape n k h) = let bad : Some (replay script) ≡ Some (stress shape n) = sym j ∙ k in absurd cc
replay_asked files words answer script j (refinement a b k h) = let bad : Some (replay script) ≡ Some (refine a b) = sym j ∙ k in absurd cc
replay_asked files words answer script j (seeking a k h) = let bad : Some (replay script) ≡ Some (deadlock a) = sym j ∙ k in absurd cc
replay_asked files words answer script j (replaying a k h) =
    let e : Some (replay script) ≡ Some (replay a) = sym j ∙ k in
    let first : a ≡ script = cc in
    subst (λ x. Replays (files x) answer) first h
replay_asked files words answer script j (running a b k h) = let bad : Some (replay script) ≡ Some (run a b) = sym j ∙ k in absurd cc
replay_asked files words answer script j (transforming a b k h) = let bad : Some (replay script) ≡ Some (transform a b) = sym j ∙ k in absurd cc
replay_asked files words answer script j (expanding a way k h) = let bad : Some (replay script) ≡ Some (expand a way) = sym j ∙ k in absurd cc
replay_asked files words answer script j (normalisation_by_laws a k h) = let bad : Some (replay script) ≡ Some (derive a) = sym j ∙ k in absurd cc

-- ---- the path of an expansion is one that a word writes

abbrev pub PathLaw : Type 0
PathLaw = (text path : List ℕ) → path_of text ≡ Some path → IsShortPath path

-- the path of a job, where it has one, is short
abbrev HasShortPath : Option Job → Type 0
HasShortPath (Some (expand program path)) = IsShortPath path
HasShortPath (Some (transform program orders)) = Unit {0}
HasShortPath (Some (replay script)) = Unit {0}
HasShortPath (Some (same first second)) = Unit {0}
HasShortPath (Some (normalise program)) = Unit {0}
HasShortPath (Some (normal text)) = Unit {0}
HasShortPath (Some (belongs program text)) = Unit {0}
HasShortPath (Some (stress shape stages)) = Unit {0}
HasShortPath (Some (refine first second)) = Unit {0}
HasShortPath (Some (deadlock program)) = Unit {0}
HasShortPath (Some (run program text)) = Unit {0}
HasShortPath (Some (derive program)) = Unit {0}
HasShortPath None = Unit {0}

record IsShortJob (job : Option Job) : Type 0 where
  short : HasShortPath job

either : (b : Bool) (x y : Option Job) → IsShortJob x → IsShortJob y → IsShortJob (cond b x y)
either true x y h k = h
either false x y h k = k

stress_short : (shape : Option Shape) (stages : Option ℕ) → IsShortJob (option_and_then (λ s. option_map (stress s) stages) shape)
stress_short None n = record { short = tt }
stress_short (Some shape) None = record { short = tt }
stress_short (Some shape) (Some n) = record { short = tt }

module _ (law : PathLaw) where
  expand_short : (program word : List ℕ) (path : Option (List ℕ)) → path_of word ≡ path → IsShortJob (option_map (expand program) path)
  expand_short program word None h = record { short = tt }
  expand_short program word (Some path) h = record { short = law word path h }

  one_short : (command first : List ℕ) → IsShortJob (with_one command first)
  one_short command first =
      either _ (Some (normalise first)) _ (record { short = tt }) (either _ (Some (normal first)) _ (record { short = tt })
      (either _ (Some (deadlock first)) _ (record { short = tt }) (either _ (Some (replay first)) _ (record { short = tt })
      (either _ (Some (derive first)) None (record { short = tt }) (record { short = tt })))))

  later_short : (command first second : List ℕ) → IsShortJob (with_two_later command first second)
  later_short command first second =
      either _ (Some (refine first second)) _ (record { short = tt }) (either _ (Some (run first second)) _ (record { short = tt })
      (either _ (Some (transform first second)) _ (record { short = tt })
      (either _ (expand_of first second) None (expand_short first second (path_of second) refl) (record { short = tt }))))

  two_short : (command first second : List ℕ) → IsShortJob (with_two command first second)
  two_short command first second =
      either _ (Some (same first second)) _ (record { short = tt }) (either _ (Some (belongs first second)) _ (record { short = tt })
      (either _ (stress_of first second) (with_two_later command first second) (stress_short (shape_of first) (stages_of second)) (later_short command first second)))

  job_short : (words : List (List ℕ)) → IsShortJob (job_of words)
  job_short [] = record { short = tt }
  job_short (name ∷ []) = record { short = tt }
  job_short (name ∷ command ∷ []) = record { short = tt }
  job_short (name ∷ command ∷ first ∷ []) = either (is_plain first) (with_one command first) None (one_short command first) (record { short = tt })
  job_short (name ∷ command ∷ first ∷ second ∷ []) =
      either (is_plain first && is_plain second) (with_two command first second) None (two_short command first second) (record { short = tt })
  job_short (name ∷ command ∷ first ∷ second ∷ third ∷ rest) = record { short = tt }

  pub path_asked : (words : List (List ℕ)) (program path : List ℕ) → job_of words ≡ Some (expand program path) → IsShortPath path
  path_asked words program path j = subst HasShortPath j (job_short words).short
