-- Spans as they are written, from the left.
use Rattle.std.specs.Prelude.{List, [], ◌∷◌}
use Rattle.occ_syntax.specs.occ_base.declared.event.Event.{Event}
use Rattle.occ_draw.specs.Spans.{Span, spans_of}

-- the first of the spans begins with that event
abbrev pub begun : Event → List Span → List Span
begun first [] = []
begun first (span ∷ spans) = (first, span.1) ∷ spans

-- the spans of events behind a first one, which has begun with an event and has come to another one
abbrev pub spans_from : Event → Event → List Event → List Span
spans_from first last rest = begun first (spans_of (last ∷ rest))
