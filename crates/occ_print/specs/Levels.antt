use Rattle.std.specs.Prelude.{ℕ, ◌+◌}
use Rattle.occ_print.specs.declared.level.Level.{Level, Outer, Below'}

-- the number of a level
abbrev pub level_of : Level → ℕ
level_of (Outer n) = n
level_of (Below' p outer) = level_of outer + 1
