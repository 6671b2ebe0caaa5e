-- How states, events, behaviours and verdicts are written.
use Rattle.std.specs.Prelude.{ℕ, List, [], ◌∷◌, ◌++◌, codes, decimal, slice_get, unwrap_or}
use Rattle.std.specs.List.{flat_map}
use Rattle.occ_syntax.specs.occ_base.declared.names.Name.{Name}
use Rattle.occ_syntax.specs.occ_base.declared.event.Dir.{Dir}
use Rattle.occ_syntax.specs.occ_base.declared.event.Dir.TheVariants.{Input, Output}
use Rattle.occ_syntax.specs.occ_base.declared.event.Event.{Event}
use Rattle.occ_behaviour.specs.declared.behaviour.Behaviour.{Behaviour}
use Rattle.occ_behaviour.specs.declared.behaviour.Last.{Last}
use Rattle.occ_behaviour.specs.declared.behaviour.Last.TheVariants.{Refuses, Ends}
use Rattle.occ_behaviour.specs.declared.behaviour.Side.{Side}
use Rattle.occ_behaviour.specs.declared.behaviour.Side.TheVariants.{First, Second}
use Rattle.occ_behaviour.specs.declared.behaviour.Verdict.{Verdict}
use Rattle.occ_behaviour.specs.declared.behaviour.Verdict.TheVariants.{Same, Differ}

-- the items as they are written, with one space between
abbrev pub spaced : {X : Type 0} → (X → List ℕ) → List X → List ℕ
spaced written [] = []
spaced written (x ∷ xs) = written x ++ flat_map (λ y. 32 ∷ written y) xs

-- a state: its values in brackets
abbrev pub state_text : List (Name × ℕ) → List ℕ
state_text state = codes "[" ++ spaced (λ v. decimal v.1) state ++ codes "]"

abbrev pub mark_text : Dir → List ℕ
mark_text Input = codes "?"
mark_text Output = codes "!"

-- an event: the channel's name, its mark and the value
abbrev pub event_text : List (List ℕ) → Event → List ℕ
event_text names e = unwrap_or (slice_get names e.chan.0) [] ++ mark_text e.dir ++ decimal e.value

-- a set: its events in braces
abbrev pub set_text : List (List ℕ) → List Event → List ℕ
set_text names events = codes "{" ++ spaced (event_text names) events ++ codes "}"

abbrev pub last_text : List (List ℕ) → Last → List ℕ
last_text names (Refuses events) = codes "REFUSES " ++ set_text names events ++ codes "\n"
last_text names (Ends state) = codes "ENDS " ++ state_text state ++ codes "\n"

-- a behaviour: its state, its trace and how it stands then, a line each
abbrev pub text_of_behaviour : List (List ℕ) → Behaviour → List ℕ
text_of_behaviour names b = codes "STATE " ++ state_text b.state ++ codes "\n"
    ++ codes "TRACE" ++ flat_map (λ e. 32 ∷ event_text names e) b.trace ++ codes "\n" ++ last_text names b.last

abbrev pub side_text : Side → List ℕ
side_text First = codes "ONLY FIRST\n"
side_text Second = codes "ONLY SECOND\n"

-- a verdict on two programs
abbrev pub text_of_verdict : List (List ℕ) → Verdict → List ℕ
text_of_verdict names Same = codes "SAME\n"
text_of_verdict names (Differ b side) = codes "DIFFER\n" ++ text_of_behaviour names b ++ side_text side
