-- Which lines stand where they may and have what they need. Each line is judged by itself: from what it says, from the lines
-- before it (the nearest first) and from the lines after it.
use Rattle.std.specs.Prelude.{ℕ, ◌+◌, ◌==◌, nat_lt, nat_le, Bool, true, false, not, ◌&&◌, ◌||◌, if◌then◌else◌, List, [], ◌∷◌, map, Option, Some, None, is_some}
use Rattle.std.specs.List.{list_any}
use Rattle.occ_parse_rules.specs.occ_parse_forms.declared.form.Group.{Group}
use Rattle.occ_parse_rules.specs.occ_parse_forms.declared.form.Group.TheVariants as word
use Rattle.occ_parse_rules.specs.occ_parse_forms.Shape.{Shape, header, close, skip, stop, assign, receive, send, group, declare, condition, guard, nothing, shape}
use Rattle.occ_parse_rules.specs.Forest.{Laid}
use Rattle.occ_parse_layout.specs.declared.placed.Placed.{Placed}
use Rattle.occ_parse_layout.specs.declared.placed.Frame.{Frame}
use Rattle.occ_parse_layout.specs.declared.placed.Frame.TheVariants as frame
use Rattle.occ_parse_layout.specs.declared.kind.Child.{Child}
use Rattle.occ_parse_layout.specs.declared.kind.Child.TheVariants as child
use Rattle.occ_parse_layout.specs.declared.kind.Room.{Room}
use Rattle.occ_parse_layout.specs.declared.kind.Room.TheVariants as room
use Rattle.occ_parse_layout.specs.declared.kind.Kind.{Kind}
use Rattle.occ_parse_layout.specs.declared.kind.Kind.TheVariants as kind

abbrev pub laid : Placed → Laid
laid p = record { number = p.number; level = p.level; shape = shape p.form }

abbrev pub laid_rows : List Placed → List Laid
laid_rows rows = map laid rows

-- ---- what the layout sees of a line

abbrev pub child_of : Group → Child
child_of word.Seq = child.Slot
child_of word.Par = child.Slot
child_of word.If = child.Choice
child_of word.Alt = child.Alternative

abbrev pub kind_of : Shape → Kind
kind_of (header name params) = kind.Header
kind_of close = kind.Close
kind_of skip = kind.Plain
kind_of stop = kind.Plain
kind_of (assign xs es) = kind.Plain
kind_of (receive c x) = kind.Message
kind_of (send c e) = kind.Message
kind_of (group g times) = kind.Construct (child_of g) (is_some times)
kind_of (declare k ds) = kind.Declaration
kind_of (condition e) = kind.Condition
kind_of (guard e w) = kind.Guard
kind_of nothing = kind.Nothing

abbrev pub is_header : Kind → Bool
is_header kind.Header = true
is_header other = false

abbrev pub is_close : Kind → Bool
is_close kind.Close = true
is_close other = false

abbrev pub is_declaration : Kind → Bool
is_declaration kind.Declaration = true
is_declaration other = false

abbrev pub is_replicated : Kind → Bool
is_replicated (kind.Construct c times) = times
is_replicated other = false

-- the closing line: `:` at level 0
abbrev pub closes : Laid → Bool
closes q = q.level == 0 && is_close (kind_of q.shape)

-- ---- rooms: what a line takes below it

abbrev pub has_alternatives : Room → Bool
has_alternatives (room.One child.Alternative) = true
has_alternatives (room.Any child.Alternative) = true
has_alternatives other = false

-- What a line takes below it that stands in a room: among alternatives an input or an output is a guard, and elsewhere it
-- is a process.
abbrev pub takes : Room → Kind → Room
takes r kind.Header = room.One child.Slot
takes r kind.Condition = room.One child.Slot
takes r kind.Guard = room.One child.Slot
takes r kind.Message = if has_alternatives r then room.One child.Slot else room.Nothing
takes r (kind.Construct c true) = room.One c
takes r (kind.Construct c false) = room.Any c
takes r other = room.Nothing

abbrev pub needs_child : Room → Bool
needs_child (room.One c) = true
needs_child other = false

-- what may stand where a slot, a choice or an alternative stands
abbrev pub fits_child : Child → Kind → Bool
fits_child child.Slot kind.Plain = true
fits_child child.Slot kind.Message = true
fits_child child.Slot (kind.Construct c times) = true
fits_child child.Slot kind.Declaration = true
fits_child child.Choice kind.Condition = true
fits_child child.Choice (kind.Construct child.Choice times) = true
fits_child child.Alternative kind.Message = true
fits_child child.Alternative kind.Guard = true
fits_child child.Alternative (kind.Construct child.Alternative times) = true
fits_child c other = false

-- whether a line may stand in a room, of which it is said whether no child is there yet
abbrev pub fits : Room → (free : Bool) → Kind → Bool
fits room.Nothing free k = false
fits (room.One c) free k = free && fits_child c k
fits (room.Any c) free k = fits_child c k

-- the room at a level in front of all lines: a part is one slot at level 1
abbrev pub outermost : Frame → ℕ → Room
outermost frame.Program level = room.Nothing
outermost frame.Plain level = room.Nothing
outermost frame.Part level = if level == 1 then room.One child.Slot else room.Nothing

-- The room at a level behind lines: below the nearest line of a smaller level, where that stands one level above. Below any
-- other line a line at this level is too deep.
abbrev pub room_at : Frame → (before : List Laid) → ℕ → Room
room_at f [] level = outermost f level
room_at f (q ∷ before) level =
    if nat_le level q.level then room_at f before level
    else (if level == q.level + 1 then takes (room_at f before q.level) (kind_of q.shape) else room.Nothing)

-- No child stands at a level yet behind the nearest line of a smaller level. A slot is there with its process line.
abbrev pub is_free : (before : List Laid) → ℕ → Bool
is_free [] level = true
is_free (q ∷ before) level =
    if nat_lt q.level level then true
    else (if q.level == level && not (is_declaration (kind_of q.shape)) then false
    else is_free before level)

-- ---- where a line may stand

-- at level 0 of a program the header stands first, and a closing line anywhere behind it
abbrev pub stands_outermost : Frame → (before : List Laid) → Kind → Bool
stands_outermost frame.Part before k = false
stands_outermost other [] k = is_header k
stands_outermost other (q ∷ before) k = is_close k && not (list_any closes (q ∷ before))

abbrev pub may_repeat : Frame → Kind → Bool
may_repeat frame.Program k = true
may_repeat frame.Plain k = not (is_replicated k)
may_repeat frame.Part k = not (is_replicated k)

abbrev pub is_placed : Frame → (before : List Laid) → ℕ → Kind → Bool
is_placed f before level k =
    if level == 0 then stands_outermost f before k
    else fits (room_at f before level) (is_free before level) k && may_repeat f k

-- ---- what a line needs. Where more of the text follows behind the lines, that may still have it.

-- a line one level deeper, in front of the next line that isn't deeper
abbrev pub has_child : (more : Bool) → ℕ → (after : List Laid) → Bool
has_child more level [] = more
has_child more level (q ∷ after) =
    if nat_le q.level level then false
    else (if q.level == level + 1 then true
    else has_child more level after)

-- a line at the same level that isn't a declaration, in front of the next line of a smaller level
abbrev pub has_process : (more : Bool) → ℕ → (after : List Laid) → Bool
has_process more level [] = more
has_process more level (q ∷ after) =
    if nat_lt q.level level then false
    else (if q.level == level && not (is_declaration (kind_of q.shape)) then true
    else has_process more level after)

-- a closing line
abbrev pub has_close : (more : Bool) → (after : List Laid) → Bool
has_close more after = more || list_any closes after

-- whether a line has what it needs that takes such a room below it
abbrev pub is_served : (more : Bool) → Room → Kind → ℕ → (after : List Laid) → Bool
is_served more below kind.Header level after = has_child more level after && has_close more after
is_served more below kind.Declaration level after = has_process more level after
is_served more below other level after = if needs_child below then has_child more level after else true

-- ---- the least bad line

abbrev pub is_good : Frame → (more : Bool) → (before : List Laid) → Laid → (after : List Laid) → Bool
is_good f more before r after =
    let k = kind_of r.shape in
    is_placed f before r.level k && is_served more (takes (room_at f before r.level) k) k r.level after

abbrev pub least_bad_behind : Frame → (more : Bool) → (before after : List Laid) → Option ℕ
least_bad_behind f more before [] = None
least_bad_behind f more before (r ∷ after) = if is_good f more before r after then least_bad_behind f more (r ∷ before) after else Some r.number

-- a program without any line is bad on line 1
abbrev pub least_bad_of_none : Frame → (more : Bool) → Option ℕ
least_bad_of_none frame.Part more = None
least_bad_of_none other true = None
least_bad_of_none other false = Some 1

-- The number of the least line that is bad. `more` says that the text goes on behind these lines.
abbrev pub least_bad : Frame → (more : Bool) → List Laid → Option ℕ
least_bad f more [] = least_bad_of_none f more
least_bad f more (r ∷ rows) = least_bad_behind f more [] (r ∷ rows)
