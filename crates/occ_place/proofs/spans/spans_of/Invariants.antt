use Rattle.std.proofs.Common.{ℕ, List, ◌≡◌, ◌≤◌, ◌+◌, ◌++◌, length}
use Rattle.std.specs.List.{All}
use Rattle.occ_place.specs.Steps.{MoveIsNamed, SpanIsNamed, numbered, spell_span, spelled}
use Rattle.occ_place.proofs.spans.spans_of.Given as goal

abbrev pub invariant-loop-rest : goal.invariant-loop-rest
invariant-loop-rest l = record {
  whole : spelled l.spans.items ++ spell_span l.span ++ numbered (l.span.last + 1) l.rest ≡ numbered 0 l.moves;
  within : l.span.last + 1 + length l.rest ≡ length l.moves;
  order : l.span.from ≤ l.span.last;
  named : (names : List (List ℕ)) → All (MoveIsNamed names) l.moves → All (SpanIsNamed names) l.spans.items × (SpanIsNamed names l.span × All (MoveIsNamed names) l.rest);
}

abbrev pub decreases-loop-rest : goal.decreases-loop-rest
decreases-loop-rest l = length l.rest
