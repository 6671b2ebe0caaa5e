-- Good lines put a process below each choice and each alternative.
use Rattle.std.proofs.Common.{◌≡◌, ℕ, ◌+◌, ◌≤◌, Bool, true, false, not, ◌&&◌, ◌||◌, cond, List, [], ◌∷◌, ◌++◌, Option, Some, None, refl, sym, ap, ◌∙◌, arith, append_assoc, ⊎_elim}
use Rattle.std.proofs.lemmas.Bool.{cond-true, le-leb, and_parts, and_from, false≢true, cases_Bool}
use Rattle.std.proofs.lemmas.List.{append-nil}
use Rattle.occ_print.specs.occ_parse_forms.declared.form.Group.TheVariants as word
use Rattle.occ_print.specs.occ_parse_forms.declared.form.Times.{Times}
use Rattle.occ_print.specs.occ_parse_forms.Shape.{Shape}
use Rattle.occ_print.specs.occ_parse_forms.Shape as line
use Rattle.occ_parse.specs.occ_parse_rules.Forest.{Forest, no_line, and_line, Laid, lines_at}
use Rattle.occ_parse.specs.occ_parse_layout.declared.placed.Frame.{Frame}
use Rattle.occ_parse.specs.occ_parse_layout.Layout.{kind_of, takes, has_alternatives, needs_child, room_at, has_child, is_good, least_bad, least_bad_behind}
use Rattle.occ_parse.proofs.from_parse_layout.Levels.{good_first}
use Rattle.occ_parse.proofs.from_parse_layout.Rooms.{room_next}

-- ---- what is shown

abbrev pub has_line : Forest → Bool
has_line no_line = false
has_line (and_line number s below rest) = true

abbrev pub is_message : Shape → Bool
is_message (line.receive c x) = true
is_message (line.send c e) = true
is_message other = false

-- each input and each output among lines one below another has a line below it
abbrev pub messages_are_guards : Forest → Bool
messages_are_guards no_line = true
messages_are_guards (and_line number s below rest) = (not (is_message s) || has_line below) && messages_are_guards rest

-- below a choice and a guard stands a line, and below an ALT each input and each output is a guard
abbrev pub is_served : Shape → Forest → Bool
is_served (line.condition e) below = has_line below
is_served (line.guard e w) below = has_line below
is_served (line.group word.Alt times) below = messages_are_guards below
is_served other below = true

-- so it is on all lines
abbrev pub all_served : Forest → Bool
all_served no_line = true
all_served (and_line number s below rest) = is_served s below && (all_served below && all_served rest)

-- ---- lines below a line

-- the first of lines isn't deeper
abbrev NoDeeper : ℕ → List Laid → Type 0
NoDeeper level [] = Unit {0}
NoDeeper level (q ∷ rows) = q.level ≤ level

no_deeper_below : (level : ℕ) (rows : List Laid) → NoDeeper level rows → NoDeeper (level + 1) rows
no_deeper_below level [] h = tt
no_deeper_below level (q ∷ rows) h = omega (arith, h)

no_deeper_behind : (level : ℕ) (g : Forest) (ys : List Laid) → NoDeeper level ys → NoDeeper level (lines_at level g ++ ys)
no_deeper_behind level no_line ys h = h
no_deeper_behind level (and_line number s below rest) ys h = omega arith

no_child : (level : ℕ) (rows : List Laid) → NoDeeper level rows → has_child false level rows ≡ false
no_child level [] h = refl
no_child level (q ∷ rows) h = cond-true _ _ _ (le-leb q.level level h)

-- the lines behind a line: those below it, those at its level, and others
abbrev behind : ℕ → Forest → Forest → List Laid → List Laid
behind level below rest ys = (lines_at (level + 1) below ++ lines_at level rest) ++ ys

-- what follows a line without lines below it is no child of it
bare_has_none : (level : ℕ) (below rest : Forest) (ys : List Laid) → NoDeeper level ys → has_line below ≡ false → has_child false level (behind level below rest ys) ≡ false
bare_has_none level no_line rest ys n h = no_child level (lines_at level rest ++ ys) (no_deeper_behind level rest ys n)
bare_has_none level (and_line number s below others) rest ys n h = absurd (false≢true (sym h))

not_bare : (level : ℕ) (below rest : Forest) (ys : List Laid) → NoDeeper level ys → has_child false level (behind level below rest ys) ≡ true → has_line below ≡ true
not_bare level below rest ys n h =
    ⊎_elim (λ (e : has_line below ≡ true). e)
    (λ (e : has_line below ≡ false). absurd (false≢true (sym (bare_has_none level below rest ys n e) ∙ h)))
    (cases_Bool (has_line below))

-- a line that isn't less deep leaves the room at a level as it is
room_kept : (f : Frame) (q : Laid) (before : List Laid) (level : ℕ) → level ≤ q.level → room_at f (q ∷ before) level ≡ room_at f before level
room_kept f q before level h = cond-true _ _ _ (le-leb level q.level h)

chosen : {A : Type 0} (test : A → Bool) (b : Bool) (x y : A) → b ≡ true → test x ≡ true → test (cond b x y) ≡ true
chosen test true x y h k = k
chosen test false x y h k = absurd (false≢true h)

module _ (f : Frame) where
  -- the lines behind one line of a forest: those below it, and then those behind these
  behind_line : (before : List Laid) (level number : ℕ) (s : Shape) (below rest : Forest) (ys : List Laid)
      → least_bad_behind f false (record { number = number; level = level; shape = s } ∷ before) (behind level below rest ys) ≡ None
      → least_bad_behind f false (record { number = number; level = level; shape = s } ∷ before) (lines_at (level + 1) below ++ (lines_at level rest ++ ys)) ≡ None
  behind_line before level number s below rest ys h =
      ap (least_bad_behind f false (record { number = number; level = level; shape = s } ∷ before)) (sym (append_assoc (lines_at (level + 1) below) (lines_at level rest) ys)) ∙ h

  -- what is said of the lines in front of others that are good behind them
  record Passed (before : List Laid) (level : ℕ) (ys : List Laid) : Type 0 where
    front : List Laid
    room : room_at f front level ≡ room_at f before level
    good : least_bad_behind f false front ys ≡ None

  passed : (level deep : ℕ) (before : List Laid) (g : Forest) (ys : List Laid) → level ≤ deep → least_bad_behind f false before (lines_at deep g ++ ys) ≡ None → Passed before level ys
  passed level deep before no_line ys l h = record { front = before; room = refl; good = h }
  passed level deep before (and_line number s below rest) ys l h =
      let r : Laid = record { number = number; level = deep; shape = s } in
      let others = good_first f false before r (behind deep below rest ys) h in
      let under = passed level (deep + 1) (r ∷ before) below (lines_at deep rest ++ ys) (omega (arith, l)) (behind_line before deep number s below rest ys others.1) in
      let after = passed level deep under.front rest ys l under.good in
      record { front = after.front; room = after.room ∙ under.room ∙ room_kept f r before level l; good = after.good }

  -- ---- one line

  abbrev IsGood : List Laid → ℕ → ℕ → Shape → List Laid → Type 0
  IsGood before number level s rows = is_good f false before (record { number = number; level = level; shape = s }) rows ≡ true

  abbrev HasAlternatives : List Laid → ℕ → Type 0
  HasAlternatives before level = has_alternatives (room_at f before level) ≡ true

  message_needs : (before : List Laid) (number level : ℕ) (s : Shape) (rows : List Laid) → HasAlternatives before level → IsGood before number level s rows
      → (not (is_message s) || has_child false level rows) ≡ true
  message_needs before number level (line.receive c x) rows o h =
      sym (cond-true _ _ _ (chosen needs_child (has_alternatives (room_at f before level)) _ _ o refl)) ∙ (and_parts _ _ h).1
  message_needs before number level (line.send c e) rows o h =
      sym (cond-true _ _ _ (chosen needs_child (has_alternatives (room_at f before level)) _ _ o refl)) ∙ (and_parts _ _ h).1
  message_needs before number level s rows o h = refl

  message_served : (before : List Laid) (number level : ℕ) (s : Shape) (below rest : Forest) (ys : List Laid) → HasAlternatives before level → NoDeeper level ys
      → IsGood before number level s (behind level below rest ys) → (not (is_message s) || has_line below) ≡ true
  message_served before number level s below rest ys o n h =
      ⊎_elim
      (λ (m : is_message s ≡ true).
      let child = sym (ap (λ b. not b || has_child false level (behind level below rest ys)) m) ∙ message_needs before number level s (behind level below rest ys) o h in
      ap (λ b. not b || has_line below) m ∙ not_bare level below rest ys n child)
      (λ (m : is_message s ≡ false). ap (λ b. not b || has_line below) m)
      (cases_Bool (is_message s))

  -- ---- alternatives

  in_alternatives : (level : ℕ) (before : List Laid) (g : Forest) (ys : List Laid) → HasAlternatives before level → NoDeeper level ys
      → least_bad_behind f false before (lines_at level g ++ ys) ≡ None → messages_are_guards g ≡ true
  in_alternatives level before no_line ys o n h = refl
  in_alternatives level before (and_line number s below rest) ys o n h =
      let r : Laid = record { number = number; level = level; shape = s } in
      let first = good_first f false before r (behind level below rest ys) h in
      let under = passed level (level + 1) (r ∷ before) below (lines_at level rest ++ ys) (omega arith) (behind_line before level number s below rest ys first.1) in
      let same : room_at f under.front level ≡ room_at f before level = under.room ∙ room_kept f r before level (omega arith) in
      and_from _ _ (message_served before number level s below rest ys o n first.0)
      (in_alternatives level under.front rest ys (ap has_alternatives same ∙ o) n under.good)

  alt_takes : (before : List Laid) (level : ℕ) (times : Option Times) → has_alternatives (takes (room_at f before level) (kind_of (line.group word.Alt times))) ≡ true
  alt_takes before level None = refl
  alt_takes before level (Some times) = refl

  -- ---- all lines

  line_served : (before : List Laid) (number level : ℕ) (s : Shape) (below rest : Forest) (ys : List Laid) → NoDeeper level ys
      → IsGood before number level s (behind level below rest ys)
      → least_bad_behind f false (record { number = number; level = level; shape = s } ∷ before) (behind level below rest ys) ≡ None
      → is_served s below ≡ true
  line_served before number level (line.condition e) below rest ys n g h = not_bare level below rest ys n (and_parts _ _ g).1
  line_served before number level (line.guard e w) below rest ys n g h = not_bare level below rest ys n (and_parts _ _ g).1
  line_served before number level (line.group word.Alt times) below rest ys n g h =
      let r : Laid = record { number = number; level = level; shape = line.group word.Alt times } in
      in_alternatives (level + 1) (r ∷ before) below (lines_at level rest ++ ys) (ap has_alternatives (room_next f r before) ∙ alt_takes before level times)
      (no_deeper_below level (lines_at level rest ++ ys) (no_deeper_behind level rest ys n)) (behind_line before level number (line.group word.Alt times) below rest ys h)
  line_served before number level s below rest ys n g h = refl

  lines_served : (level : ℕ) (before : List Laid) (g : Forest) (ys : List Laid) → NoDeeper level ys → least_bad_behind f false before (lines_at level g ++ ys) ≡ None
      → all_served g ≡ true
  lines_served level before no_line ys n h = refl
  lines_served level before (and_line number s below rest) ys n h =
      let r : Laid = record { number = number; level = level; shape = s } in
      let first = good_first f false before r (behind level below rest ys) h in
      let others = behind_line before level number s below rest ys first.1 in
      let under = passed level (level + 1) (r ∷ before) below (lines_at level rest ++ ys) (omega arith) others in
      let deep = no_deeper_below level (lines_at level rest ++ ys) (no_deeper_behind level rest ys n) in
      and_from _ _ (line_served before number level s below rest ys n first.0 first.1)
      (and_from _ _ (lines_served (level + 1) (r ∷ before) below (lines_at level rest ++ ys) deep others) (lines_served level under.front rest ys n under.good))

  -- below each choice and each alternative of good lines stands a line
  pub good_served : (level : ℕ) (g : Forest) → least_bad f false (lines_at level g) ≡ None → all_served g ≡ true
  good_served level no_line h = refl
  good_served level (and_line number s below rest) h =
      lines_served level [] (and_line number s below rest) [] tt (ap (least_bad_behind f false []) (append-nil (lines_at level (and_line number s below rest))) ∙ h)
