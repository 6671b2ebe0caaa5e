-- The values of the indices, by the replicators round a copy.
use Rattle.std.specs.Prelude.{ℕ, ◌+◌, List, [], ◌∷◌}
use Rattle.occ_parse_forms.specs.declared.form.Times.{Times}
use Rattle.occ_parse_unroll.specs.declared.values.Present.{Present}
use Rattle.occ_parse_rules.specs.Places.{Indices, with_index}

-- where the newest replicator stands first
abbrev pub values_of : List Present → Indices
values_of [] = λ i. 0
values_of (p ∷ ps) = with_index (values_of ps) p.index.0 (p.base + p.copy)

-- the copy of a replicator with that number
abbrev pub present : Times → ℕ → Present
present times copy = record { index = times.index; base = times.base; copy = copy }
