-- Printed lines under other names, and tables in which names have other numbers.
use Rattle.std.specs.Prelude.{ℕ, ◌≡◌, List}
use Rattle.occ_renamed.specs.Renamed.{symbols_renamed}
use Rattle.occ_replay_rules.specs.occ_print.Lines.{TextLine}
use Rattle.occ_replay_rules.specs.occ_print.Spelled.{name_text}

abbrev pub line_renamed : (ℕ → ℕ) → TextLine → TextLine
line_renamed f l = record { level = l.level; symbols = symbols_renamed f l.symbols }

-- each number of the one table has under f the same text in the other
abbrev pub IsRenumbered : (ℕ → ℕ) → List (List ℕ) → List (List ℕ) → Type 0
IsRenumbered f names other = (x : ℕ) → name_text other (f x) ≡ name_text names x
