-- Lists of choices that grow at their end.
use Rattle.std.specs.Prelude.{◌≡◌}
use Rattle.occ_syntax.specs.Tree.{Cases}
use Rattle.occ_law_shape.specs.occ_law.Lists.{all_cases}

-- choices are put behind others, in front of what follows
abbrev pub IsPut : (Cases → Cases) → Cases → Cases → Type 0
IsPut put before after = (rest : Cases) → all_cases after rest ≡ all_cases before (put rest)
