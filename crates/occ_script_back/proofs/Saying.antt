-- The line of a step is read as it was written.
use Rattle.std.proofs.Common.{◌≡◌, ℕ, ◌-◌, ◌<◌, ◌≤◌, Bool, true, false, eqb, not, ◌&&◌, List, [], ◌∷◌, ◌++◌, length, get_or, take, drop, Some, None, refl, ap, ◌∙◌, arith, append_assoc}
use Rattle.std.specs.Prelude.{codes, decimal, if◌then◌else◌, unwrap_or}
use Rattle.std.specs.List.{list_all, slice_split, starts_with}
use Rattle.std.specs.Str.{bytes_eq}
use Rattle.std.proofs.lemmas.Bool.{and_parts, and_from, and_left, and_right, or_from, not-true, not_from_false, ne_eqb}
use Rattle.std.proofs.lemmas.List.Folds.{list_all_at, list_all-append}
use Rattle.std.proofs.lemmas.Option.{slice_get-get_or}
use Rattle.occ_script_write.specs.occ_law.declared.table.LawId.{LawId}
use Rattle.occ_script_write.specs.occ_law.Table.{law_names}
use Rattle.occ_script_write.specs.occ_lex.Rows.{code_of, ends_code, is_space}
use Rattle.occ_script_write.specs.occ_lex.Spelling.{is_digit}
use Rattle.occ_script_write.proofs.from_lex.Classes.{digit_is}
use Rattle.occ_script_write.proofs.from_lex.RowLemmas.{code_stop, code_go}
use Rattle.occ_script_write.specs.occ_script_lines.declared.direction.Direction.{Direction}
use Rattle.occ_script_write.specs.occ_script_lines.declared.direction.Direction.TheVariants as direction
use Rattle.occ_script_write.specs.occ_script_lines.Texts.{is_byte, path_of}
use Rattle.occ_script_write.specs.occ_script_lines.declared.section.Format.TheVariants as format
use Rattle.occ_script_write.specs.occ_script_lines.Lines.{direction_of, head_from, head_of, head_of_words, is_keyword, is_law_word, is_line}
use Rattle.occ_script_write.specs.declared.writing.Done.{Done}
use Rattle.occ_script_write.specs.Text.{direction_text, law_text, line, numbers_text, path_text, step_words}
use Rattle.occ_script_back.specs.Said.{IsSaid}
use Rattle.occ_script_back.proofs.Numerals.{AreSmall, digits_lack, lacks, number_digits, path_there, split_front, split_last}

-- ---- lines without a comment

abbrev pub minus_first : List ℕ → Bool
minus_first [] = false
minus_first (b ∷ bs) = eqb 45 b

abbrev pub is_still : ℕ → List ℕ → Bool
is_still b bs = not (eqb 10 b) && (not (eqb 13 b) && not (eqb 45 b && minus_first bs))

-- no line feed, no carriage return, and no two minus signs side by side
abbrev pub is_calm : List ℕ → Bool
is_calm [] = true
is_calm (b ∷ bs) = is_still b bs && is_calm bs

and_more : (p q : Bool) → (p && q) ≡ false → (p && (q && true)) ≡ false
and_more true true h = h
and_more true false h = refl
and_more false q h = refl

no_dashes : (b : ℕ) (w : List ℕ) → (eqb 45 b && minus_first w) ≡ false → starts_with eqb (b ∷ (w ++ 10 ∷ [])) (45 ∷ 45 ∷ []) ≡ false
no_dashes b [] h = and_right (eqb 45 b) (starts_with eqb (10 ∷ []) (45 ∷ [])) refl
no_dashes b (x ∷ w) h = and_more (eqb 45 b) (eqb 45 x) h

goes : (b : ℕ) (w : List ℕ) → is_still b w ≡ true → ends_code (b ∷ (w ++ 10 ∷ [])) ≡ false
goes b w h =
    let parts = and_parts (not (eqb 10 b)) _ h in
    let more = and_parts (not (eqb 13 b)) _ parts.1 in
    or_from _ _ (no_dashes b w (not-true _ more.1)) (or_from _ _ (and_left (eqb 10 b) _ (not-true _ parts.0)) (and_left (eqb 13 b) _ (not-true _ more.0)))

pub code_calm : (w : List ℕ) → is_calm w ≡ true → code_of (w ++ 10 ∷ []) ≡ w
code_calm [] h = code_stop (10 ∷ []) refl
code_calm (b ∷ w) h =
    let parts = and_parts (is_still b w) (is_calm w) h in
    code_go b (w ++ 10 ∷ []) (goes b w parts.0) ∙ ap (λ bs. b ∷ bs) (code_calm w parts.1)

calm_append : (a b : List ℕ) → is_calm a ≡ true → is_calm b ≡ true → minus_first b ≡ false → is_calm (a ++ b) ≡ true
calm_append [] b h k m = k
calm_append (x ∷ []) b h k m =
    ap (λ c. (not (eqb 10 x) && (not (eqb 13 x) && not (eqb 45 x && c))) && is_calm b) m
    ∙ ap (λ c. (not (eqb 10 x) && (not (eqb 13 x) && not (eqb 45 x && false))) && c) k ∙ h
calm_append (x ∷ y ∷ a) b h k m =
    let parts = and_parts (is_still x (y ∷ a)) (is_calm (y ∷ a)) h in
    and_from (is_still x (y ∷ a)) (is_calm ((y ∷ a) ++ b)) parts.0 (calm_append (y ∷ a) b parts.1 k m)

digit_still : (d : ℕ) (ds : List ℕ) → is_digit d ≡ true → is_still d ds ≡ true
digit_still d ds h =
    let range = digit_is d h in
    and_from _ _ (not_from_false (eqb 10 d) (ne_eqb 10 d (λ e. omega (arith, range.0, e))))
    (and_from _ _ (not_from_false (eqb 13 d) (ne_eqb 13 d (λ e. omega (arith, range.0, e))))
    (not_from_false _ (and_left (eqb 45 d) (minus_first ds) (ne_eqb 45 d (λ e. omega (arith, range.0, e))))))

digits_calm : (ds : List ℕ) → list_all is_digit ds ≡ true → is_calm ds ≡ true
digits_calm [] h = refl
digits_calm (d ∷ ds) h =
    let parts = and_parts (is_digit d) (list_all is_digit ds) h in
    and_from (is_still d ds) (is_calm ds) (digit_still d ds parts.0) (digits_calm ds parts.1)

numbers_first : (ns : List ℕ) → minus_first (numbers_text ns) ≡ false
numbers_first [] = refl
numbers_first (n ∷ ns) = refl

numbers_calm : (ns : List ℕ) → AreSmall ns → is_calm (numbers_text ns) ≡ true
numbers_calm [] h = refl
numbers_calm (n ∷ ns) h = calm_append (decimal n) (numbers_text ns) (digits_calm (decimal n) (number_digits n h.0)) (numbers_calm ns h.1) (numbers_first ns)

numbers_lack : (ns : List ℕ) → AreSmall ns → lacks 32 (numbers_text ns) ≡ true
numbers_lack [] h = refl
numbers_lack (n ∷ ns) h =
    list_all-append (λ b. not (is_byte 32 b)) (decimal n) (numbers_text ns)
    ∙ and_from (lacks 32 (decimal n)) (lacks 32 (numbers_text ns)) (digits_lack 32 refl (decimal n) (number_digits n h.0)) (numbers_lack ns h.1)

path_calm : (path : List ℕ) → AreSmall path → is_calm (path_text path) ≡ true
path_calm [] h = refl
path_calm (n ∷ ns) h = numbers_calm (n ∷ ns) h

path_lacks : (path : List ℕ) → AreSmall path → lacks 32 (path_text path) ≡ true
path_lacks [] h = refl
path_lacks (n ∷ ns) h = numbers_lack (n ∷ ns) h

-- ---- names of laws

-- the name is a word, begins with no minus sign, and can stand on a line among others
abbrev is_law : List ℕ → Bool
is_law text = is_law_word text && (is_calm text && (lacks 32 text && not (minus_first text)))

all_laws : list_all is_law law_names ≡ true
unfolding law_names
all_laws = refl

pub laws_counted : length law_names ≡ 63
unfolding law_names
laws_counted = refl

at_true : (text : List ℕ) (b : Bool) → is_law text ≡ b → (is_law text ≡ false → ⊥) → is_law text ≡ true
at_true text true e no_false = e
at_true text false e no_false = absurd (no_false e)

law_good : (law : LawId) → 1 ≤ law.0 → law.0 ≤ 63 → is_law (law_text law) ≡ true
law_good law low high =
    let i = law.0 - 1 in
    let within : i < length law_names = omega (arith, low, high, laws_counted) in
    let same : law_text law ≡ get_or law_names i [] = ap (λ o. unwrap_or o []) (slice_get-get_or law_names i [] within) in
    ap is_law same
    ∙ at_true (get_or law_names i []) (is_law (get_or law_names i [])) refl (λ f.
    let bad : list_all is_law law_names ≡ false = list_all_at is_law law_names i [] within f in
    let good = all_laws in absurd cc)

-- ---- the line of a step

dir_calm : (d : Direction) (rest : List ℕ) → is_calm rest ≡ true → minus_first rest ≡ false → is_calm (direction_text d ++ rest) ≡ true
dir_calm direction.Forward rest h m = calm_append (direction_text direction.Forward) rest refl h m
dir_calm direction.Backward rest h m = calm_append (direction_text direction.Backward) rest refl h m

dir_lacks : (d : Direction) → lacks 32 (direction_text d) ≡ true
dir_lacks direction.Forward = refl
dir_lacks direction.Backward = refl

dir_there : (d : Direction) → direction_of (direction_text d) ≡ Some d
dir_there direction.Forward = refl
dir_there direction.Backward = refl

law_first : (text rest : List ℕ) → minus_first text ≡ false → minus_first rest ≡ false → minus_first (text ++ rest) ≡ false
law_first [] rest h m = m
law_first (b ∷ text) rest h m = h

module _ (done : Done) (h : IsSaid done) where
  abbrev path_part : List ℕ
  path_part = path_text done.path

  abbrev dir_part : List ℕ
  dir_part = direction_text done.dir ++ 32 ∷ path_part

  abbrev law_part : List ℕ
  law_part = law_text done.law ++ 32 ∷ dir_part

  words_are : step_words done ≡ codes "STEP" ++ 32 ∷ law_part
  words_are =
      let a = codes "STEP " in
      let l = law_text done.law in
      let d = direction_text done.dir in
      append_assoc (a ++ l ++ 32 ∷ [] ++ d) (32 ∷ []) path_part
      ∙ append_assoc (a ++ l ++ 32 ∷ []) d (32 ∷ path_part)
      ∙ append_assoc (a ++ l) (32 ∷ []) dir_part
      ∙ append_assoc a l (32 ∷ dir_part)

  law_is : (is_law_word (law_text done.law) ≡ true) × ((is_calm (law_text done.law) && (lacks 32 (law_text done.law) && not (minus_first (law_text done.law)))) ≡ true)
  law_is = and_parts (is_law_word (law_text done.law)) _ (law_good done.law h.low h.high)

  calm : is_calm (codes "STEP" ++ 32 ∷ law_part) ≡ true
  calm =
      let more = and_parts (is_calm (law_text done.law)) _ law_is.1 in
      calm_append (codes "STEP ") law_part refl
      (calm_append (law_text done.law) (32 ∷ dir_part) more.0 (dir_calm done.dir (32 ∷ path_part) (path_calm done.path h.path) refl) refl)
      (law_first (law_text done.law) (32 ∷ dir_part) (not-true _ (and_parts (lacks 32 (law_text done.law)) _ more.1).1) refl)

  pub words_calm : is_calm (step_words done) ≡ true
  words_calm = ap is_calm words_are ∙ calm

  pub words_begin : is_keyword format.Script (line (step_words done)) ≡ true
  unfolding is_keyword
  words_begin = ap (λ w. is_keyword format.Script (w ++ 10 ∷ [])) words_are

  pub not_to : is_line (codes "TO") (line (step_words done)) ≡ false
  unfolding is_line
  not_to =
      ap (λ w. bytes_eq (take 2 (code_of (w ++ 10 ∷ []))) (codes "TO") && list_all is_space (drop 2 (code_of (w ++ 10 ∷ [])))) words_are
      ∙ ap (λ w. bytes_eq (take 2 w) (codes "TO") && list_all is_space (drop 2 w)) (code_calm (codes "STEP" ++ 32 ∷ law_part) calm)

  pieces : slice_split (is_byte 32) (codes "STEP" ++ 32 ∷ law_part) ≡ codes "STEP" ∷ law_text done.law ∷ direction_text done.dir ∷ path_part ∷ []
  pieces =
      let more = and_parts (is_calm (law_text done.law)) _ law_is.1 in
      split_front 32 (codes "STEP") law_part refl
      ∙ ap (λ ps. codes "STEP" ∷ ps) (split_front 32 (law_text done.law) dir_part (and_parts (lacks 32 (law_text done.law)) _ more.1).0
      ∙ ap (λ ps. law_text done.law ∷ ps) (split_front 32 (direction_text done.dir) path_part (dir_lacks done.dir)
      ∙ ap (λ ps. direction_text done.dir ∷ ps) (split_last 32 path_part (path_lacks done.path h.path))))

  pub step_said : head_of (codes "STEP") (line (step_words done)) ≡ Some (record { law = law_text done.law; dir = done.dir; path = done.path })
  unfolding head_of
  step_said =
      let l = law_text done.law in
      let found = head_from l (direction_of (direction_text done.dir)) (path_of path_part) in
      ap (λ w. head_of_words (codes "STEP") (slice_split (is_byte 32) (code_of (w ++ 10 ∷ [])))) words_are
      ∙ ap (λ w. head_of_words (codes "STEP") (slice_split (is_byte 32) w)) (code_calm (codes "STEP" ++ 32 ∷ law_part) calm)
      ∙ ap (head_of_words (codes "STEP")) pieces
      ∙ ap (λ b. if b then found else None) (and_from (is_law_word l) true law_is.0 refl)
      ∙ ap (λ d. head_from l d (path_of path_part)) (dir_there done.dir)
      ∙ ap (head_from l (Some done.dir)) (path_there done.path h.path)
