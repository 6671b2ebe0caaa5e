-- The values of a width, by number.
use Rattle.std.specs.Prelude.{ℕ, zero, suc, ◌+◌, nat_lt, List, [], ◌∷◌}
use Rattle.occ_syntax.specs.occ_base.declared.width.Width.{Width}
use Rattle.occ_syntax.specs.occ_base.declared.width.Width.TheVariants.{Bool as TruthValue, Word}
use Rattle.occ_syntax.specs.Tree.{Exp, numeral, truth}

-- that value as a constant of the width; FALSE is 0
abbrev pub value_at : Width → ℕ → Exp
value_at TruthValue v = truth (nat_lt 0 v)
value_at (Word bits) v = numeral bits v

-- so many values of that width, in order, from one on
abbrev pub values_from : Width → ℕ → ℕ → List Exp
values_from w v zero = []
values_from w v (suc n) = value_at w v ∷ values_from w (v + 1) n
