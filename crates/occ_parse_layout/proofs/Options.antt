-- Good lines put no declaration among choices or alternatives.
use Rattle.std.proofs.Common.{◌≡◌, ℕ, ◌+◌, ◌<◌, ◌≤◌, Bool, true, false, not, ◌&&◌, ◌||◌, List, [], ◌∷◌, ◌++◌, refl, sym, subst, ap, ◌∙◌, arith, append_assoc, None, ⊎_elim}
use Rattle.std.proofs.lemmas.Bool.{cond-true, le-leb, and_parts, and_from, false≢true, cases_Bool}
use Rattle.std.proofs.lemmas.List.{append-nil}
use Rattle.occ_parse_rules.specs.occ_parse_forms.Shape.{Shape}
use Rattle.occ_parse_rules.specs.Forest.{Forest, no_line, and_line, Laid, lines_at}
use Rattle.occ_parse_layout.specs.declared.placed.Frame.{Frame}
use Rattle.occ_parse_layout.specs.declared.kind.Child.{Child}
use Rattle.occ_parse_layout.specs.declared.kind.Child.TheVariants as child
use Rattle.occ_parse_layout.specs.declared.kind.Kind.{Kind}
use Rattle.occ_parse_layout.specs.declared.kind.Kind.TheVariants as kind
use Rattle.occ_parse_layout.specs.declared.kind.Room.{Room}
use Rattle.occ_parse_layout.specs.declared.kind.Room.TheVariants as room
use Rattle.occ_parse_layout.specs.Layout.{kind_of, is_declaration, takes, fits, fits_child, room_at, is_free, least_bad, least_bad_behind}
use Rattle.occ_parse_layout.specs.Options.{is_option, takes_options, none_declares, options_declare_nothing}
use Rattle.occ_parse_layout.proofs.Levels.{good_first, placed_first, placed_inside}
use Rattle.occ_parse_layout.proofs.Rooms.{room_next}

-- ---- rooms of options

-- a room for choices or for alternatives
abbrev has_options : Room → Bool
has_options (room.One c) = is_option c
has_options (room.Any c) = is_option c
has_options room.Nothing = false

taken_options : (r : Room) (k : Kind) → takes_options k ≡ true → has_options (takes r k) ≡ true
taken_options r (kind.Construct c true) h = h
taken_options r (kind.Construct c false) h = h
taken_options r kind.Header h = absurd (false≢true h)
taken_options r kind.Close h = absurd (false≢true h)
taken_options r kind.Plain h = absurd (false≢true h)
taken_options r kind.Message h = absurd (false≢true h)
taken_options r kind.Declaration h = absurd (false≢true h)
taken_options r kind.Condition h = absurd (false≢true h)
taken_options r kind.Guard h = absurd (false≢true h)
taken_options r kind.Nothing h = absurd (false≢true h)

-- a child that is an option is no declaration
option_fits : (c : Child) (k : Kind) → is_option c ≡ true → fits_child c k ≡ true → not (is_declaration k) ≡ true
option_fits child.Slot k o h = absurd (false≢true o)
option_fits child.Choice kind.Declaration o h = absurd (false≢true h)
option_fits child.Alternative kind.Declaration o h = absurd (false≢true h)
option_fits c k o h = refl

fits_options : (r : Room) (free : Bool) (k : Kind) → has_options r ≡ true → fits r free k ≡ true → not (is_declaration k) ≡ true
fits_options room.Nothing free k o h = absurd (false≢true o)
fits_options (room.One c) free k o h = option_fits c k o (and_parts free (fits_child c k) h).1
fits_options (room.Any c) free k o h = option_fits c k o h

-- ---- lines behind others

-- a line that isn't less deep leaves the room at a level as it is
room_kept : (f : Frame) (q : Laid) (before : List Laid) (level : ℕ) → level ≤ q.level → room_at f (q ∷ before) level ≡ room_at f before level
room_kept f q before level h = cond-true _ _ _ (le-leb level q.level h)

module _ (f : Frame) (more : Bool) where
  -- the lines behind one line of a forest: those below it, and then those behind these
  behind_line : (before : List Laid) (level number : ℕ) (s : Shape) (below rest : Forest) (ys : List Laid)
      → least_bad_behind f more (record { number = number; level = level; shape = s } ∷ before) ((lines_at (level + 1) below ++ lines_at level rest) ++ ys) ≡ None
      → least_bad_behind f more (record { number = number; level = level; shape = s } ∷ before) (lines_at (level + 1) below ++ (lines_at level rest ++ ys)) ≡ None
  behind_line before level number s below rest ys h =
      ap (least_bad_behind f more (record { number = number; level = level; shape = s } ∷ before)) (sym (append_assoc (lines_at (level + 1) below) (lines_at level rest) ys)) ∙ h

  -- what is said of the lines in front of others that are good behind them
  record Passed (before : List Laid) (level : ℕ) (ys : List Laid) : Type 0 where
    front : List Laid
    room : room_at f front level ≡ room_at f before level
    good : least_bad_behind f more front ys ≡ None

  passed : (level deep : ℕ) (before : List Laid) (g : Forest) (ys : List Laid) → level ≤ deep → least_bad_behind f more before (lines_at deep g ++ ys) ≡ None → Passed before level ys
  passed level deep before no_line ys l h = record { front = before; room = refl; good = h }
  passed level deep before (and_line number s below rest) ys l h =
      let r : Laid = record { number = number; level = deep; shape = s } in
      let others = good_first f more before r ((lines_at (deep + 1) below ++ lines_at deep rest) ++ ys) h in
      let under = passed level (deep + 1) (r ∷ before) below (lines_at deep rest ++ ys) (omega (arith, l)) (behind_line before deep number s below rest ys others.1) in
      let after = passed level deep under.front rest ys l under.good in
      record { front = after.front; room = after.room ∙ under.room ∙ room_kept f r before level l; good = after.good }

  -- lines in a room of options declare nothing
  in_options : (level : ℕ) (before : List Laid) (g : Forest) (ys : List Laid) → 0 < level → has_options (room_at f before level) ≡ true
      → least_bad_behind f more before (lines_at level g ++ ys) ≡ None → none_declares g ≡ true
  in_options level before no_line ys l o h = refl
  in_options level before (and_line number s below rest) ys l o h =
      let r : Laid = record { number = number; level = level; shape = s } in
      let rows = (lines_at (level + 1) below ++ lines_at level rest) ++ ys in
      let first = good_first f more before r rows h in
      let placed = placed_inside f before level (kind_of s) l (placed_first f more before r rows first.0) in
      let under = passed level (level + 1) (r ∷ before) below (lines_at level rest ++ ys) (omega arith) (behind_line before level number s below rest ys first.1) in
      let same : room_at f under.front level ≡ room_at f before level = under.room ∙ room_kept f r before level (omega arith) in
      and_from _ _ (fits_options (room_at f before level) (is_free before level) (kind_of s) o placed.0)
      (in_options level under.front rest ys l (ap has_options same ∙ o) under.good)

  options_below : (level : ℕ) (before : List Laid) (number : ℕ) (s : Shape) (below : Forest) (ys : List Laid)
      → least_bad_behind f more (record { number = number; level = level; shape = s } ∷ before) (lines_at (level + 1) below ++ ys) ≡ None
      → (not (takes_options (kind_of s)) || none_declares below) ≡ true
  options_below level before number s below ys h =
      let r : Laid = record { number = number; level = level; shape = s } in
      ⊎_elim
      (λ (t : takes_options (kind_of s) ≡ true).
      let o : has_options (room_at f (r ∷ before) (level + 1)) ≡ true = ap has_options (room_next f r before) ∙ taken_options (room_at f before level) (kind_of s) t in
      ap (λ b. not b || none_declares below) t ∙ in_options (level + 1) (r ∷ before) below ys (omega arith) o h)
      (λ (t : takes_options (kind_of s) ≡ false). ap (λ b. not b || none_declares below) t)
      (cases_Bool (takes_options (kind_of s)))

  all_options : (level : ℕ) (before : List Laid) (g : Forest) (ys : List Laid) → least_bad_behind f more before (lines_at level g ++ ys) ≡ None → options_declare_nothing g ≡ true
  all_options level before no_line ys h = refl
  all_options level before (and_line number s below rest) ys h =
      let r : Laid = record { number = number; level = level; shape = s } in
      let first = good_first f more before r ((lines_at (level + 1) below ++ lines_at level rest) ++ ys) h in
      let others = behind_line before level number s below rest ys first.1 in
      let under = passed level (level + 1) (r ∷ before) below (lines_at level rest ++ ys) (omega arith) others in
      and_from _ _ (options_below level before number s below (lines_at level rest ++ ys) others)
      (and_from _ _ (all_options (level + 1) (r ∷ before) below (lines_at level rest ++ ys) others) (all_options level under.front rest ys under.good))

  good_options : (level : ℕ) (g : Forest) → least_bad f more (lines_at level g) ≡ None → options_declare_nothing g ≡ true
  good_options level no_line h = refl
  good_options level (and_line number s below rest) h =
      all_options level [] (and_line number s below rest) [] (ap (least_bad_behind f more []) (append-nil (lines_at level (and_line number s below rest))) ∙ h)

  pub options_of : (level : ℕ) (rows : List Laid) (g : Forest) → lines_at level g ≡ rows → least_bad f more rows ≡ None → options_declare_nothing g ≡ true
  options_of level rows g e h = good_options level g (ap (least_bad f more) e ∙ h)
