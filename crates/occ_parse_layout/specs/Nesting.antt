-- Lines whose levels nest.
use Rattle.std.specs.Prelude.{ℕ, ◌+◌, ◌<◌, ◌≤◌, ◌≡◌, ◌≢◌, List, [], ◌∷◌, reverse, Option, Some, None}
use Rattle.occ_parse_rules.specs.Forest.{Laid}
use Rattle.occ_parse_layout.specs.declared.placed.Placed.{Placed}
use Rattle.occ_parse_layout.specs.Layout.{laid, laid_rows}

-- No line is at a smaller level than the base, the first one is at most as deep as `reach`, and no other line is more than
-- one level deeper than the line before.
abbrev pub Nest : (base reach : ℕ) → List Laid → Type 0
Nest base reach [] = Unit {0}
Nest base reach (r ∷ rows) = (base ≤ r.level) × (r.level ≤ reach) × Nest base (r.level + 1) rows

-- ---- lines that lie the other way round, the next one last

abbrev pub left : List Placed → List Laid
left rows = laid_rows (reverse rows)

-- the first line is at a smaller level
abbrev pub IsAbove : ℕ → List Laid → Type 0
IsAbove level [] = Unit {0}
IsAbove level (r ∷ rows) = r.level < level

abbrev pub IsElsewhere : ℕ → List Laid → Type 0
IsElsewhere level [] = Unit {0}
IsElsewhere level (r ∷ rows) = r.level ≢ level

-- takes the first line where that is at the level
abbrev pub Takes : ℕ → List Laid → Option Placed → List Laid → Type 0
Takes level old None new = (new ≡ old) × IsElsewhere level old
Takes level old (Some row) new = (old ≡ laid row ∷ new) × (row.level ≡ level)
