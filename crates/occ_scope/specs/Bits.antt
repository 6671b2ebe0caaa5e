use Rattle.std.specs.Prelude.{ℕ, zero, suc, ◌==◌, ◌||◌, Bool, if◌then◌else◌}
use Rattle.std.specs.Int.{bit_at}
use Rattle.occ_node.specs.occ_dd.Assignment.{turned, with_bit}

-- x with those bits of `change` turned that are below n
unfoldable pub turned_below : ℕ → ℕ → ℕ → ℕ
turned_below zero change x = x
turned_below (suc n) change x = turned_below n change (if bit_at change n == 1 then turned x n else x)

-- whether x passes a test once those of `bits` that are below n have other values, or the same
unfoldable pub passes_freed : ℕ → ℕ → (ℕ → Bool) → ℕ → Bool
passes_freed zero bits test x = test x
passes_freed (suc n) bits test x = if bit_at bits n == 1 then passes_freed n bits test (with_bit x n 0) || passes_freed n bits test (with_bit x n 1) else passes_freed n bits test x
