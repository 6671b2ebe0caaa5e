-- Events of one channel whose values follow one another, as one span.
use Rattle.std.specs.Prelude.{ℕ, ◌+◌, ◌==◌, nat_le, Bool, ◌&&◌, if◌then◌else◌, List, [], ◌∷◌, ◌++◌, codes, decimal}
use Rattle.occ_syntax.specs.occ_base.declared.event.Event.{Event}
use Rattle.occ_syntax.specs.Scopes.{same_dir}
use Rattle.occ_tool_run.specs.occ_behaviour.Texts.{event_text, spaced}

-- the events are on one channel, in one direction
abbrev pub same_end : Event → Event → Bool
same_end e f = e.chan.0 == f.chan.0 && same_dir e.dir f.dir

-- the second event has the value behind the first one's, on its channel
abbrev pub precedes : Event → Event → Bool
precedes e f = same_end e f && e.value + 1 == f.value

-- A span: its first event, and the value of its last one, on the same channel.
abbrev pub Span : Type 0
Span = Event × ℕ

abbrev pub joined : Event → List Span → List Span
joined e [] = (e, e.value) ∷ []
joined e (span ∷ spans) = if precedes e span.0 then (e, span.1) ∷ spans else (e, e.value) ∷ span ∷ spans

-- events in their order as spans, each as long as it can be
unfoldable pub spans_of : List Event → List Span
spans_of [] = []
spans_of (e ∷ events) = joined e (spans_of events)

-- the event is one of the span
abbrev pub is_in : Event → Span → Bool
is_in e span = same_end e span.0 && (nat_le span.0.value e.value && nat_le e.value span.1)

-- the first event as it is written; where there are more, two dots and the last value behind it
abbrev pub span_text : List (List ℕ) → Span → List ℕ
span_text names span = event_text names span.0 ++ (if span.0.value == span.1 then [] else codes ".." ++ decimal span.1)

-- events as they are written in a picture: their spans, with one space between
abbrev pub events_text : List (List ℕ) → List Event → List ℕ
events_text names events = spaced (span_text names) (spans_of events)
