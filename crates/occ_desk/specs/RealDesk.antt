use Rattle.std.specs.Prelude.{ℕ}

-- What a desk over the system is seen as: how many reads and how many writes failed.
pub record Faults : Type 0 where
  pub reads : ℕ
  pub writes : ℕ
