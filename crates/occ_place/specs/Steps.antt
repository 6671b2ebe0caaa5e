-- The steps that can be taken, each with its number, as rows of a table.
use Rattle.std.specs.Prelude.{ℕ, ◌≡◌, ◌<◌, ◌+◌, ◌-◌, ◌++◌, ◌==◌, zero, suc, List, [], ◌∷◌, map, length, codes, decimal, replicate, if◌then◌else◌}
use Rattle.std.specs.List.{flat_map}
use Rattle.occ_run.specs.occ_behaviour.Texts.{event_text}
use Rattle.occ_run.specs.declared.answer.Move.{Move}
use Rattle.occ_run.specs.declared.answer.Move.TheVariants.{Unseen, Seen}
use Rattle.occ_syntax.specs.Counts.{capped}
use Rattle.occ_place.specs.declared.spans.Span.{Span}
use Rattle.occ_place.specs.declared.row.Row.{Row}

-- what is seen of the step that is so many behind another one, where values go up one by one
abbrev pub advanced : Move → ℕ → Move
advanced Unseen k = Unseen
advanced (Seen e) k = Seen (record { chan = e.chan; dir = e.dir; value = e.value + k })

-- the step of a number and so many behind it, each with its number
abbrev pub spell : ℕ → Move → ℕ → List (ℕ × Move)
spell n m zero = (n, m) ∷ []
spell n m (suc k) = spell n m k ++ (n + suc k, advanced m (suc k)) ∷ []

abbrev pub spell_span : Span → List (ℕ × Move)
spell_span s = spell s.from s.first (s.last - s.from)

abbrev pub spelled : List Span → List (ℕ × Move)
spelled spans = flat_map spell_span spans

-- what is seen of each step, with its number, where the first has that number
abbrev pub numbered : ℕ → List Move → List (ℕ × Move)
numbered n [] = []
numbered n (m ∷ ms) = (n, m) ∷ numbered (n + 1) ms

-- an event's channel has a name
abbrev pub MoveIsNamed : List (List ℕ) → Move → Type 0
MoveIsNamed names Unseen = Unit {0}
MoveIsNamed names (Seen e) = e.chan.0 < length names

abbrev pub SpanIsNamed : List (List ℕ) → Span → Type 0
SpanIsNamed names s = MoveIsNamed names s.first

-- ---- the text of a row

-- from one number to another: `3`, `0-3`
abbrev pub numbers_text : Span → List ℕ
numbers_text s = if s.last == s.from then decimal s.from else decimal s.from ++ codes "-" ++ decimal s.last

-- from a value to the last of so many more: nothing where there are none
abbrev pub more_text : ℕ → ℕ → List ℕ
more_text value more = if more == 0 then [] else codes ".." ++ decimal (capped (value + more))

-- the events of a row behind two spaces: `in?0`, `in?0..3`; of unseen steps nothing
abbrev pub events_text : List (List ℕ) → Move → ℕ → List ℕ
events_text names Unseen more = []
events_text names (Seen e) more = codes "  " ++ event_text names e ++ more_text e.value more

-- a row: spaces, the numbers, the events, and what is told of the steps
abbrev pub row_text : List (List ℕ) → Row → List ℕ
row_text names row = replicate row.pad 32 ++ numbers_text row.span
    ++ events_text names row.span.first (row.span.last - row.span.from) ++ row.tail.items ++ codes "\n"

-- The text has a row for each run of steps: all together are the steps, each once, in order, with its number.
pub record TellsSteps (names : List (List ℕ)) (moves : List Move) (text : List ℕ) : Type 0 where
  pub rows : List Row
  pub all : spelled (map (λ row. row.span) rows) ≡ numbered 0 moves
  pub is : text ≡ flat_map (row_text names) rows
