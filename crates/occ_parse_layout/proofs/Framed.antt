-- The forest of good lines.
use Rattle.std.proofs.Common.{◌≡◌, ℕ, ◌+◌, ◌<◌, ◌≤◌, Bool, true, false, not, ◌&&◌, ◌||◌, eqb, cond, List, [], ◌∷◌, ◌++◌, refl, sym, ap, ◌∙◌, arith, ⊎_elim, None}
use Rattle.std.specs.List.{list_any, list_all}
use Rattle.std.proofs.lemmas.Bool.{ne_eqb, and_parts, and_from, false≢true, cases_lt}
use Rattle.std.proofs.lemmas.List.{append-nil}
use Rattle.std.proofs.lemmas.List.Folds.{list_all-append, list_any-append}
use Rattle.occ_parse_rules.specs.occ_base.declared.names.Name.{Name}
use Rattle.occ_parse_rules.specs.occ_parse_forms.declared.form.Param.{Param}
use Rattle.occ_parse_rules.specs.occ_parse_forms.Shape.{Shape, header, close, skip, stop, assign, receive, send, group, declare, condition, guard, nothing}
use Rattle.occ_parse_rules.specs.Forest.{Forest, no_line, and_line, Laid, lines_at}
use Rattle.occ_parse_layout.specs.declared.placed.Frame.{Frame}
use Rattle.occ_parse_layout.specs.declared.placed.Frame.TheVariants as frame
use Rattle.occ_parse_layout.specs.declared.kind.Kind.{Kind}
use Rattle.occ_parse_layout.specs.declared.kind.Kind.TheVariants as kind
use Rattle.occ_parse_layout.specs.declared.kind.Room.{Room}
use Rattle.occ_parse_layout.specs.Layout.{kind_of, is_header, is_close, is_replicated, closes, stands_outermost, may_repeat, is_placed, is_served, has_close, least_bad, least_bad_behind}
use Rattle.occ_parse_layout.specs.Whole.{outermost_level, every_line, is_inner, is_single, IsProgram}
use Rattle.occ_parse_layout.proofs.Levels.{good_first, placed_first, placed_outermost, placed_inside, inside_inner, is_apt, all_apt, closed_end, good_behind}

-- ---- a fact of each line of a forest

each_line : (p : Shape → Bool) (level : ℕ) (f : Forest) → list_all (λ q. p q.shape) (lines_at level f) ≡ every_line p f
each_line p level no_line = refl
each_line p level (and_line n s below rest) =
    ap (λ (b : Bool). p s && b)
    (list_all-append (λ (q : Laid). p q.shape) (lines_at (level + 1) below) (lines_at level rest)
    ∙ ap (λ (b : Bool). b && list_all (λ (q : Laid). p q.shape) (lines_at level rest)) (each_line p (level + 1) below)
    ∙ ap (λ (b : Bool). every_line p below && b) (each_line p level rest))

deeper : (level : ℕ) → eqb (level + 1) 0 ≡ false
deeper level = ne_eqb (level + 1) 0 (λ e. absurd (omega arith))

apt_inner : (level : ℕ) (f : Forest) → list_all is_apt (lines_at (level + 1) f) ≡ every_line is_inner f
apt_inner level no_line = refl
apt_inner level (and_line n s below rest) =
    ap (λ (t : Bool). cond t (is_close (kind_of s)) (is_inner s) && list_all is_apt (lines_at (level + 1 + 1) below ++ lines_at (level + 1) rest)) (deeper level)
    ∙ ap (λ (b : Bool). is_inner s && b)
    (list_all-append is_apt (lines_at (level + 1 + 1) below) (lines_at (level + 1) rest)
    ∙ ap (λ (b : Bool). b && list_all is_apt (lines_at (level + 1) rest)) (apt_inner (level + 1) below)
    ∙ ap (λ (b : Bool). every_line is_inner below && b) (apt_inner level rest))

none_closes : (level : ℕ) (f : Forest) → list_any closes (lines_at (level + 1) f) ≡ false
none_closes level no_line = refl
none_closes level (and_line n s below rest) =
    ap (λ (t : Bool). (t && is_close (kind_of s)) || list_any closes (lines_at (level + 1 + 1) below ++ lines_at (level + 1) rest)) (deeper level)
    ∙ list_any-append closes (lines_at (level + 1 + 1) below) (lines_at (level + 1) rest)
    ∙ ap (λ (b : Bool). b || list_any closes (lines_at (level + 1) rest)) (none_closes (level + 1) below)
    ∙ none_closes level rest

-- ---- the header and the closing line

-- a frame with a header and a closing line
abbrev pub IsWhole : Frame → Type 0
IsWhole f = outermost_level f ≡ 0

outermost_header : (f : Frame) (k : Kind) → IsWhole f → stands_outermost f [] k ≡ true → is_header k ≡ true
outermost_header frame.Program k w h = h
outermost_header frame.Plain k w h = h
outermost_header frame.Part k w h = absurd (omega arith)

header_served : (more : Bool) (below : Room) (k : Kind) (level : ℕ) (after : List Laid) → is_header k ≡ true → is_served more below k level after ≡ true → has_close more after ≡ true
header_served more below kind.Header level after h s = (and_parts _ _ s).1
header_served more below kind.Close level after h s = absurd (false≢true h)
header_served more below kind.Plain level after h s = absurd (false≢true h)
header_served more below kind.Message level after h s = absurd (false≢true h)
header_served more below (kind.Construct c t) level after h s = absurd (false≢true h)
header_served more below kind.Declaration level after h s = absurd (false≢true h)
header_served more below kind.Condition level after h s = absurd (false≢true h)
header_served more below kind.Guard level after h s = absurd (false≢true h)
header_served more below kind.Nothing level after h s = absurd (false≢true h)

record IsHeader (s : Shape) : Type 0 where
  name : Name
  params : List Param
  is : s ≡ header name params

header_of : (s : Shape) → is_header (kind_of s) ≡ true → IsHeader s
header_of (header name params) h = record { name = name; params = params; is = refl }
header_of close h = absurd (false≢true h)
header_of skip h = absurd (false≢true h)
header_of stop h = absurd (false≢true h)
header_of (assign xs es) h = absurd (false≢true h)
header_of (receive c x) h = absurd (false≢true h)
header_of (send c e) h = absurd (false≢true h)
header_of (group g times) h = absurd (false≢true h)
header_of (declare k ds) h = absurd (false≢true h)
header_of (condition e) h = absurd (false≢true h)
header_of (guard e w) h = absurd (false≢true h)
header_of nothing h = absurd (false≢true h)

close_of : (s : Shape) → is_close (kind_of s) ≡ true → s ≡ close
close_of close h = refl
close_of (header name params) h = absurd (false≢true h)
close_of skip h = absurd (false≢true h)
close_of stop h = absurd (false≢true h)
close_of (assign xs es) h = absurd (false≢true h)
close_of (receive c x) h = absurd (false≢true h)
close_of (send c e) h = absurd (false≢true h)
close_of (group g times) h = absurd (false≢true h)
close_of (declare k ds) h = absurd (false≢true h)
close_of (condition e) h = absurd (false≢true h)
close_of (guard e w) h = absurd (false≢true h)
close_of nothing h = absurd (false≢true h)

no_lines : (level : ℕ) (f : Forest) (xs : List Laid) → lines_at level f ++ xs ≡ [] → (f ≡ no_line) × (xs ≡ [])
no_lines level no_line xs e = (refl, e)
no_lines level (and_line n s below rest) xs e = absurd (cc)

one_line : (last : ℕ) (s : Shape) (below rest : Forest) → s ≡ close → below ≡ no_line → rest ≡ no_line → and_line last s below rest ≡ and_line last close no_line no_line
one_line last s below rest a b c = cc

two_lines : (n : ℕ) (s : Shape) (below rest : Forest) (first : Shape) (end : Forest) → s ≡ first → rest ≡ end → and_line n s below rest ≡ and_line n first below end
two_lines n s below rest first end a b = cc

no_text : (f : Frame) → IsWhole f → least_bad f false [] ≡ None → ⊥
no_text frame.Program w h = cc
no_text frame.Plain w h = cc
no_text frame.Part w h = omega arith

-- the lines behind the header's own: one closing line
closing : (f : Frame) (before : List Laid) (under rest : Forest) → list_any closes (lines_at 0 rest) ≡ true → list_all is_apt (lines_at 0 rest) ≡ true
    → least_bad_behind f false before (lines_at 1 under ++ lines_at 0 rest) ≡ None
    → (last : ℕ) × (rest ≡ and_line last close no_line no_line)
closing f before under no_line some apt good = absurd (false≢true some)
closing f before under (and_line last s below rest) some apt good =
    let is : is_close (kind_of s) ≡ true = (and_parts _ _ apt).0 in
    let q : Laid = record { number = last; level = 0; shape = s } in
    let b = good_behind f false before (lines_at 1 under) (lines_at 0 (and_line last s below rest)) good in
    let others = closed_end f false q b.0 (lines_at 1 below ++ lines_at 0 rest) is (good_first f false b.0 q (lines_at 1 below ++ lines_at 0 rest) b.1).1 in
    let none = no_lines 1 below (lines_at 0 rest) others in
    let end = no_lines 0 rest [] (append-nil (lines_at 0 rest) ∙ none.1) in
    (last, one_line last s below rest (close_of s is) none.0 end.0)

program_of : (f : Frame) (g : Forest) → IsWhole f → least_bad f false (lines_at 0 g) ≡ None → IsProgram g
program_of f no_line w h = absurd (no_text f w h)
program_of f (and_line n s below rest) w h =
    let r : Laid = record { number = n; level = 0; shape = s } in
    let rows = lines_at 1 below ++ lines_at 0 rest in
    let g = good_first f false [] r rows h in
    let parts = and_parts _ _ g.0 in
    let head : is_header (kind_of s) ≡ true = outermost_header f (kind_of s) w parts.0 in
    let any : list_any closes rows ≡ true = header_served false _ (kind_of s) 0 rows head parts.1 in
    let apt = and_parts _ _ (sym (list_all-append is_apt (lines_at 1 below) (lines_at 0 rest)) ∙ all_apt f false r [] rows g.1) in
    let some : list_any closes (lines_at 0 rest) ≡ true =
    sym (list_any-append closes (lines_at 1 below) (lines_at 0 rest) ∙ ap (λ (b : Bool). b || list_any closes (lines_at 0 rest)) (none_closes 0 below)) ∙ any in
    let end = closing f (r ∷ []) below rest some apt.1 g.1 in
    let first = header_of s head in
    record {
      number = n;
      name = first.name;
      params = first.params;
      below = below;
      last = end.0;
      whole = two_lines n s below rest _ _ first.is end.1;
      inner = sym (apt_inner 0 below) ∙ apt.0;
    }

pub whole_of : (f : Frame) (rows : List Laid) (g : Forest) → IsWhole f → lines_at 0 g ≡ rows → least_bad f false rows ≡ None → IsProgram g
whole_of f rows g w e h = program_of f g w (ap (least_bad f false) e ∙ h)

-- ---- parts, and lines without replicators

part_placed_inner : (before : List Laid) (level : ℕ) (k : Kind) → is_placed frame.Part before level k ≡ true → (not (is_header k) && not (is_close k)) ≡ true
part_placed_inner before level k h =
    ⊎_elim
    (λ (l : 0 < level). inside_inner frame.Part before level k l h)
    (λ (l : level ≤ 0). absurd (false≢true (placed_outermost frame.Part before level k (omega arith) h)))
    (cases_lt 0 level)

part_inner_behind : (more : Bool) (before rows : List Laid) → least_bad_behind frame.Part more before rows ≡ None → list_all (λ q. is_inner q.shape) rows ≡ true
part_inner_behind more before [] h = refl
part_inner_behind more before (r ∷ rows) h =
    let g = good_first frame.Part more before r rows h in
    and_from _ _ (part_placed_inner before r.level (kind_of r.shape) (placed_first frame.Part more before r rows g.0)) (part_inner_behind more (r ∷ before) rows g.1)

part_inner : (more : Bool) (rows : List Laid) → least_bad frame.Part more rows ≡ None → list_all (λ q. is_inner q.shape) rows ≡ true
part_inner more [] h = refl
part_inner more (r ∷ rows) h = part_inner_behind more [] (r ∷ rows) h

pub part_inner_of : (rows : List Laid) (g : Forest) → lines_at 1 g ≡ rows → least_bad frame.Part false rows ≡ None → every_line is_inner g ≡ true
part_inner_of rows g e h = sym (each_line is_inner 1 g) ∙ ap (list_all (λ (q : Laid). is_inner q.shape)) e ∙ part_inner false rows h

-- a frame without replicators
abbrev pub IsUnreplicated : Frame → Type 0
IsUnreplicated f = (k : Kind) → may_repeat f k ≡ not (is_replicated k)

header_single : (k : Kind) → is_header k ≡ true → not (is_replicated k) ≡ true
header_single kind.Header h = refl
header_single kind.Close h = refl
header_single kind.Plain h = refl
header_single kind.Message h = refl
header_single (kind.Construct c t) h = absurd (false≢true h)
header_single kind.Declaration h = refl
header_single kind.Condition h = refl
header_single kind.Guard h = refl
header_single kind.Nothing h = refl

close_single : (k : Kind) → is_close k ≡ true → not (is_replicated k) ≡ true
close_single kind.Header h = refl
close_single kind.Close h = refl
close_single kind.Plain h = refl
close_single kind.Message h = refl
close_single (kind.Construct c t) h = absurd (false≢true h)
close_single kind.Declaration h = refl
close_single kind.Condition h = refl
close_single kind.Guard h = refl
close_single kind.Nothing h = refl

outermost_single : (f : Frame) (before : List Laid) (k : Kind) → stands_outermost f before k ≡ true → not (is_replicated k) ≡ true
outermost_single frame.Part before k h = absurd (false≢true h)
outermost_single frame.Program [] k h = header_single k h
outermost_single frame.Plain [] k h = header_single k h
outermost_single frame.Program (q ∷ before) k h = close_single k (and_parts _ _ h).0
outermost_single frame.Plain (q ∷ before) k h = close_single k (and_parts _ _ h).0

placed_single : (f : Frame) (before : List Laid) (level : ℕ) (k : Kind) → IsUnreplicated f → is_placed f before level k ≡ true → not (is_replicated k) ≡ true
placed_single f before level k u h =
    ⊎_elim
    (λ (l : 0 < level). sym (u k) ∙ (placed_inside f before level k l h).1)
    (λ (l : level ≤ 0). outermost_single f before k (placed_outermost f before level k (omega arith) h))
    (cases_lt 0 level)

all_single_behind : (f : Frame) (more : Bool) (before rows : List Laid) → IsUnreplicated f → least_bad_behind f more before rows ≡ None → list_all (λ q. is_single q.shape) rows ≡ true
all_single_behind f more before [] u h = refl
all_single_behind f more before (r ∷ rows) u h =
    let g = good_first f more before r rows h in
    and_from _ _ (placed_single f before r.level (kind_of r.shape) u (placed_first f more before r rows g.0)) (all_single_behind f more (r ∷ before) rows u g.1)

all_single : (f : Frame) (more : Bool) (rows : List Laid) → IsUnreplicated f → least_bad f more rows ≡ None → list_all (λ q. is_single q.shape) rows ≡ true
all_single f more [] u h = refl
all_single f more (r ∷ rows) u h = all_single_behind f more [] (r ∷ rows) u h

pub single_of : (f : Frame) (level : ℕ) (rows : List Laid) (g : Forest) → IsUnreplicated f → lines_at level g ≡ rows → least_bad f false rows ≡ None → every_line is_single g ≡ true
single_of f level rows g u e h = sym (each_line is_single level g) ∙ ap (list_all (λ (q : Laid). is_single q.shape)) e ∙ all_single f false rows u h
