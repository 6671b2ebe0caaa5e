-- What holds of each good line.
use Rattle.std.proofs.Common.{◌≡◌, ℕ, ◌+◌, ◌==◌, if◌then◌else◌, ◌<◌, ◌≤◌, Bool, true, false, not, ◌&&◌, ◌||◌, eqb, cond, List, [], ◌∷◌, ◌++◌, refl, sym, subst, ap, ◌∙◌, arith, ⊎_elim, Option, Some, None}
use Rattle.std.specs.List.{list_any, list_all}
use Rattle.std.proofs.lemmas.Bool.{cond-true, cond-false, eqb-true, eq-eqb, both_ways, ne_eqb, and_parts, and_from, cases_Bool, cases_lt, false≢true}
use Rattle.occ_parse_rules.specs.Forest.{Laid}
use Rattle.occ_parse_layout.specs.declared.placed.Frame.{Frame}
use Rattle.occ_parse_layout.specs.declared.placed.Frame.TheVariants as frame
use Rattle.occ_parse_layout.specs.declared.kind.Child.{Child}
use Rattle.occ_parse_layout.specs.declared.kind.Child.TheVariants as child
use Rattle.occ_parse_layout.specs.declared.kind.Kind.{Kind}
use Rattle.occ_parse_layout.specs.declared.kind.Kind.TheVariants as kind
use Rattle.occ_parse_layout.specs.declared.kind.Room.{Room}
use Rattle.occ_parse_layout.specs.declared.kind.Room.TheVariants as room
use Rattle.occ_parse_layout.specs.Layout.{kind_of, is_header, is_close, closes, takes, fits, fits_child, outermost, room_at, is_free, stands_outermost, may_repeat, is_placed, is_good, least_bad, least_bad_behind}
use Rattle.occ_parse_layout.specs.Nesting.{Nest}
use Rattle.occ_parse_layout.specs.Whole.{outermost_level, is_inner}
use Rattle.occ_parse_layout.proofs.Rooms.{room_behind, room_next}

cond_none : (b : Bool) (x : Option ℕ) (n : ℕ) → cond b x (Some n) ≡ None → (b ≡ true) × (x ≡ None)
cond_none true x n e = (refl, e)
cond_none false x n e = absurd (cc)

-- the first line is good, and so are the others
pub good_first : (f : Frame) (more : Bool) (before : List Laid) (r : Laid) (rows : List Laid) → least_bad_behind f more before (r ∷ rows) ≡ None
    → (is_good f more before r rows ≡ true) × (least_bad_behind f more (r ∷ before) rows ≡ None)
good_first f more before r rows h = cond_none _ _ _ h

pub placed_first : (f : Frame) (more : Bool) (before : List Laid) (r : Laid) (rows : List Laid) → is_good f more before r rows ≡ true → is_placed f before r.level (kind_of r.shape) ≡ true
placed_first f more before r rows h = (and_parts _ _ h).0

-- a line that is placed, at level 0 and deeper
pub placed_outermost : (f : Frame) (before : List Laid) (level : ℕ) (k : Kind) → level ≡ 0 → is_placed f before level k ≡ true → stands_outermost f before k ≡ true
placed_outermost f before level k e h = subst (λ (n : ℕ). is_placed f before n k ≡ true) e h

ne_zero : (level : ℕ) → 0 < level → eqb level 0 ≡ false
ne_zero level l = ne_eqb level 0 (λ e. absurd (omega arith))

pub placed_inside : (f : Frame) (before : List Laid) (level : ℕ) (k : Kind) → 0 < level → is_placed f before level k ≡ true
    → (fits (room_at f before level) (is_free before level) k ≡ true) × (may_repeat f k ≡ true)
placed_inside f before level k l h = and_parts _ _ (sym (cond-false (eqb level 0) _ _ (ne_zero level l)) ∙ h)

-- ---- levels

abbrev reach : Frame → List Laid → ℕ
reach f [] = outermost_level f
reach f (q ∷ before) = q.level + 1

fits_somewhere : (r : Room) (free : Bool) (k : Kind) → fits r free k ≡ true → r ≡ room.Nothing → ⊥
fits_somewhere r free k h e = false≢true (sym (ap (λ (x : Room). fits x free k) e) ∙ h)

outermost_reach : (f : Frame) (level : ℕ) → (outermost f level ≡ room.Nothing → ⊥) → level ≤ outermost_level f
outermost_reach frame.Program level h = absurd (h refl)
outermost_reach frame.Plain level h = absurd (h refl)
outermost_reach frame.Part level h =
    ⊎_elim (λ (e : eqb level 1 ≡ true). let one : level ≡ 1 = eqb-true level 1 e in omega arith)
    (λ (e : eqb level 1 ≡ false). absurd (h (cond-false _ _ _ e)))
    (cases_Bool (eqb level 1))

room_reach : (f : Frame) (before : List Laid) (level : ℕ) → (room_at f before level ≡ room.Nothing → ⊥) → level ≤ reach f before
room_reach f [] level h = outermost_reach f level h
room_reach f (q ∷ before) level h =
    ⊎_elim (λ (l : q.level + 1 < level). absurd (h (room_behind f q before level l)))
    (λ (l : level ≤ q.level + 1). l)
    (cases_lt (q.level + 1) level)

outermost_placed : (f : Frame) (before : List Laid) (k : Kind) → stands_outermost f before k ≡ true → outermost_level f ≡ 0
outermost_placed frame.Program before k h = refl
outermost_placed frame.Plain before k h = refl
outermost_placed frame.Part before k h = absurd (false≢true h)

inside_level : (f : Frame) (level : ℕ) → 0 < level → outermost_level f ≤ level
inside_level frame.Program level l = omega arith
inside_level frame.Plain level l = omega arith
inside_level frame.Part level l = l

placed_level : (f : Frame) (before : List Laid) (level : ℕ) (k : Kind) → is_placed f before level k ≡ true → (outermost_level f ≤ level) × (level ≤ reach f before)
placed_level f before level k h =
    ⊎_elim
    (λ (l : 0 < level). (inside_level f level l, room_reach f before level (fits_somewhere _ _ k (placed_inside f before level k l h).0)))
    (λ (l : level ≤ 0).
    let e : level ≡ 0 = omega arith in
    let o = outermost_placed f before k (placed_outermost f before level k e h) in (omega arith, omega arith))
    (cases_lt 0 level)

nest_behind : (f : Frame) (more : Bool) (before rows : List Laid) → least_bad_behind f more before rows ≡ None → Nest (outermost_level f) (reach f before) rows
nest_behind f more before [] h = tt
nest_behind f more before (r ∷ rows) h =
    let g = good_first f more before r rows h in
    let p = placed_level f before r.level (kind_of r.shape) (placed_first f more before r rows g.0) in
    (p.0, p.1, nest_behind f more (r ∷ before) rows g.1)

pub good_nest : (f : Frame) (more : Bool) (rows : List Laid) → least_bad f more rows ≡ None → Nest (outermost_level f) (outermost_level f) rows
good_nest f more [] h = tt
good_nest f more (r ∷ rows) h = nest_behind f more [] (r ∷ rows) h

-- ---- kinds

fits_child_inner : (c : Child) (k : Kind) → fits_child c k ≡ true → (not (is_header k) && not (is_close k)) ≡ true
fits_child_inner child.Slot kind.Header h = absurd (false≢true h)
fits_child_inner child.Choice kind.Header h = absurd (false≢true h)
fits_child_inner child.Alternative kind.Header h = absurd (false≢true h)
fits_child_inner child.Slot kind.Close h = absurd (false≢true h)
fits_child_inner child.Choice kind.Close h = absurd (false≢true h)
fits_child_inner child.Alternative kind.Close h = absurd (false≢true h)
fits_child_inner c k h = refl

fits_inner : (r : Room) (free : Bool) (k : Kind) → fits r free k ≡ true → (not (is_header k) && not (is_close k)) ≡ true
fits_inner room.Nothing free k h = absurd (false≢true h)
fits_inner (room.One c) free k h = fits_child_inner c k (and_parts free (fits_child c k) h).1
fits_inner (room.Any c) free k h = fits_child_inner c k h

pub inside_inner : (f : Frame) (before : List Laid) (level : ℕ) (k : Kind) → 0 < level → is_placed f before level k ≡ true → (not (is_header k) && not (is_close k)) ≡ true
inside_inner f before level k l h = fits_inner _ _ k (placed_inside f before level k l h).0

-- a line behind another one: at level 0 a closing line, and deeper neither that nor a header
abbrev pub is_apt : Laid → Bool
is_apt q = if q.level == 0 then is_close (kind_of q.shape) else is_inner q.shape

outermost_close : (f : Frame) (q : Laid) (before : List Laid) (k : Kind) → stands_outermost f (q ∷ before) k ≡ true → is_close k ≡ true
outermost_close frame.Program q before k h = (and_parts _ _ h).0
outermost_close frame.Plain q before k h = (and_parts _ _ h).0
outermost_close frame.Part q before k h = absurd (false≢true h)

placed_apt : (f : Frame) (q : Laid) (before : List Laid) (r : Laid) → is_placed f (q ∷ before) r.level (kind_of r.shape) ≡ true → is_apt r ≡ true
placed_apt f q before r h =
    ⊎_elim
    (λ (l : 0 < r.level). cond-false (eqb r.level 0) _ _ (ne_zero r.level l) ∙ inside_inner f (q ∷ before) r.level (kind_of r.shape) l h)
    (λ (l : r.level ≤ 0).
    let e : r.level ≡ 0 = omega arith in
    cond-true (eqb r.level 0) _ _ (eq-eqb r.level 0 e) ∙ outermost_close f q before (kind_of r.shape) (placed_outermost f (q ∷ before) r.level (kind_of r.shape) e h))
    (cases_lt 0 r.level)

pub all_apt : (f : Frame) (more : Bool) (q : Laid) (before rows : List Laid) → least_bad_behind f more (q ∷ before) rows ≡ None → list_all is_apt rows ≡ true
all_apt f more q before [] h = refl
all_apt f more q before (r ∷ rows) h =
    let g = good_first f more (q ∷ before) r rows h in
    and_from _ _ (placed_apt f q before r (placed_first f more (q ∷ before) r rows g.0)) (all_apt f more r (q ∷ before) rows g.1)

-- ---- nothing follows a closing line

takes_nothing : (r : Room) (k : Kind) → is_close k ≡ true → takes r k ≡ room.Nothing
takes_nothing r kind.Close h = refl
takes_nothing r kind.Header h = absurd (false≢true h)
takes_nothing r kind.Plain h = absurd (false≢true h)
takes_nothing r kind.Message h = absurd (false≢true h)
takes_nothing r (kind.Construct c t) h = absurd (false≢true h)
takes_nothing r kind.Declaration h = absurd (false≢true h)
takes_nothing r kind.Condition h = absurd (false≢true h)
takes_nothing r kind.Guard h = absurd (false≢true h)
takes_nothing r kind.Nothing h = absurd (false≢true h)

closed_room : (f : Frame) (q : Laid) (before : List Laid) (level : ℕ) → closes q ≡ true → 0 < level → room_at f (q ∷ before) level ≡ room.Nothing
closed_room f q before level h l =
    let parts = and_parts (eqb q.level 0) (is_close (kind_of q.shape)) h in
    let zero_level : q.level ≡ 0 = eqb-true q.level 0 parts.0 in
    ⊎_elim
    (λ (l2 : q.level + 1 < level). room_behind f q before level l2)
    (λ (l2 : level ≤ q.level + 1).
    let e : q.level + 1 ≡ level = omega arith in
    subst (λ (n : ℕ). room_at f (q ∷ before) n ≡ room.Nothing) e (room_next f q before ∙ takes_nothing _ _ parts.1))
    (cases_lt (q.level + 1) level)

closed_outermost : (f : Frame) (q : Laid) (before : List Laid) (k : Kind) → closes q ≡ true → stands_outermost f (q ∷ before) k ≡ true → ⊥
closed_outermost frame.Program q before k c h = both_ways (not (list_any closes (q ∷ before))) (ap (λ (b : Bool). not (b || list_any closes before)) c) (and_parts _ _ h).1
closed_outermost frame.Plain q before k c h = both_ways (not (list_any closes (q ∷ before))) (ap (λ (b : Bool). not (b || list_any closes before)) c) (and_parts _ _ h).1
closed_outermost frame.Part q before k c h = false≢true h

closed_placed : (f : Frame) (q : Laid) (before : List Laid) (level : ℕ) (k : Kind) → closes q ≡ true → is_placed f (q ∷ before) level k ≡ true → ⊥
closed_placed f q before level k c h =
    ⊎_elim
    (λ (l : 0 < level). fits_somewhere _ _ k (placed_inside f (q ∷ before) level k l h).0 (closed_room f q before level c l))
    (λ (l : level ≤ 0). closed_outermost f q before k c (placed_outermost f (q ∷ before) level k (omega arith) h))
    (cases_lt 0 level)

pub closed_end : (f : Frame) (more : Bool) (q : Laid) (before rows : List Laid) → closes q ≡ true → least_bad_behind f more (q ∷ before) rows ≡ None → rows ≡ []
closed_end f more q before [] c h = refl
closed_end f more q before (r ∷ rows) c h =
    absurd (closed_placed f q before r.level (kind_of r.shape) c (placed_first f more (q ∷ before) r rows (good_first f more (q ∷ before) r rows h).0))

-- the lines behind some good lines are good behind them
pub good_behind : (f : Frame) (more : Bool) (before xs ys : List Laid) → least_bad_behind f more before (xs ++ ys) ≡ None → (b : List Laid) × (least_bad_behind f more b ys ≡ None)
good_behind f more before [] ys h = (before, h)
good_behind f more before (x ∷ xs) ys h = good_behind f more (x ∷ before) xs ys (good_first f more before x (xs ++ ys) h).1
