-- The process of a row of a table: an ALT of its offers, its acceptances and its ends.
use Rattle.std.specs.Prelude.{ℕ, ◌==◌, Bool, true, false, ◌&&◌, List, [], ◌∷◌, ◌++◌, drop, map, filter, get_or, Option, None, Some, if◌then◌else◌}
use Rattle.occ_syntax.specs.occ_base.declared.event.Dir.{Dir}
use Rattle.occ_syntax.specs.occ_base.declared.event.Dir.TheVariants.{Input, Output}
use Rattle.occ_syntax.specs.occ_base.declared.event.Event.{Event}
use Rattle.occ_syntax.specs.occ_base.declared.names.Name.{Name}
use Rattle.occ_syntax.specs.occ_base.declared.width.Width.{Width}
use Rattle.occ_syntax.specs.occ_base.declared.width.Width.TheVariants.{Bool as Truth}
use Rattle.occ_syntax.specs.declared.scope.Kind.{Kind}
use Rattle.occ_syntax.specs.declared.scope.Kind.TheVariants.{Var, Chan}
use Rattle.occ_syntax.specs.Scopes.{channel_width, environment, same_event}
use Rattle.occ_syntax.specs.Tree.{Exp, truth, Waiting, ready, input, output, Tree, stop, select, alt, Cases, no_case, and_case, Branches, no_branch, and_branch}
use Rattle.occ_nform_table.specs.declared.table.TableRow.{TableRow}
use Rattle.occ_target.specs.States.{constant, ending, is_at}
use Rattle.occ_syntax.specs.Types.{same_width}

-- ---- lists of choices and of branches, all of whose conditions are TRUE
abbrev pub choices : List (Exp × Tree) → Cases
choices [] = no_case
choices (c ∷ cs) = and_case c.0 c.1 (choices cs)

abbrev pub guarded : List (Waiting × Tree) → Branches
guarded [] = no_branch
guarded (b ∷ bs) = and_branch (truth true) b.0 b.1 (guarded bs)

-- ---- guards

abbrev pub or_bool : Option Width → Width
or_bool None = Truth
or_bool (Some width) = width

abbrev pub width_in : List (Name × Kind) → ℕ → Width
width_in params c = or_bool (channel_width (environment params) c)

abbrev pub is_of_width : Width → Kind → Bool
is_of_width w (Var v) = same_width w v
is_of_width w (Chan v dir) = false

-- the variable of a width
abbrev pub variable_of : List (Name × Kind) → Width → ℕ
variable_of [] w = 0
variable_of (t ∷ ts) w = if is_of_width w t.1 then t.0.0 else variable_of ts w

-- What the branches of events are made of: the parameters, the variables for inputs, and the processes of the rows behind.
pub record Frame : Type 0 where
  pub params : List (Name × Kind)
  pub inputs : List (Name × Kind)
  pub parts : List Tree

abbrev pub part_at : List Tree → ℕ → Tree
part_at parts n = get_or parts n stop

abbrev pub waits_for : Frame → Dir → ℕ → ℕ → Waiting
waits_for f Input c v = input c (variable_of f.inputs (width_in f.params c))
waits_for f Output c v = output c (constant (width_in f.params c) v)

-- ---- the branches of events

abbrev pub is_on : ℕ → Event × ℕ → Bool
is_on c offer = offer.0.chan.0 == c

-- the choice that is taken where the variable has the value of the event
abbrev pub value_choice : Frame → ℕ → Event × ℕ → Exp × Tree
value_choice f c offer = (is_at (variable_of f.inputs (width_in f.params c)) (width_in f.params c) offer.0.value, part_at f.parts offer.1)

-- for each value that is input from a channel the choice of the row behind it
abbrev pub value_choices : Frame → ℕ → List (Event × ℕ) → List (Exp × Tree)
value_choices f c offers = map (value_choice f c) (filter (is_on c) offers)

-- what follows the first of these events; all inputs from its channel are one branch
abbrev pub behind : Frame → Dir → ℕ → ℕ → List (Event × ℕ) → Tree
behind f Input c n offers = select (choices (value_choices f c offers))
behind f Output c n offers = part_at f.parts n

abbrev pub is_name : ℕ → Option Name → Bool
is_name c None = false
is_name c (Some name) = name.0 == c

abbrev pub is_input : Dir → Bool
is_input Input = true
is_input Output = false

-- the event is an input that stands in the branch of the event before it, whose channel is given
abbrev pub is_in_branch : Option Name → Event → Bool
is_in_branch before e = is_input e.dir && is_name e.chan.0 before

-- The branches of events in order. Events of one channel stand together.
unfoldable pub event_branches : Frame → Option Name → List (Event × ℕ) → List (Waiting × Tree)
event_branches f before [] = []
event_branches f before (o ∷ offers) =
    (if is_in_branch before o.0 then [] else (waits_for f o.0.dir o.0.chan.0 o.0.value, behind f o.0.dir o.0.chan.0 o.1 (o ∷ offers)) ∷ [])
    ++ event_branches f (Some o.0.chan) offers

abbrev pub of_events : Frame → List (Event × ℕ) → List (Waiting × Tree)
of_events f offers = event_branches f None offers

-- ---- the process of a row

abbrev pub begins_with : List Event → Event → Bool
begins_with [] e = false
begins_with (f ∷ set) e = same_event f e

-- the offers of the events of a set; both stand in the order of events
unfoldable pub chosen : List Event → List (Event × ℕ) → List (Event × ℕ)
chosen set [] = []
chosen set (o ∷ offers) = if begins_with set o.0 then o ∷ chosen (drop 1 set) offers else chosen set offers

-- the branch that comes to stand where exactly the events of a set are accepted
abbrev pub acceptance : Frame → List (Event × ℕ) → List Event → Waiting × Tree
acceptance f offers set = (ready, alt (guarded (of_events f (chosen set offers))))

abbrev pub end_branch : Frame → List (Name × ℕ) → Waiting × Tree
end_branch f state = (ready, ending f.params state)

abbrev pub row_branches : Frame → TableRow → List (Waiting × Tree)
row_branches f row = of_events f row.offers ++ map (acceptance f row.offers) row.accepts ++ map (end_branch f) row.ends

abbrev pub row_process : Frame → TableRow → Tree
row_process f row = alt (guarded (row_branches f row))
