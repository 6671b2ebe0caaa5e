use Rattle.std.proofs.Common.{◌≡◌, ◌++◌, ◌∷◌, drop}
use Rattle.occ_syntax.specs.View.{exp, exps}
use Rattle.occ_bits.specs.Named.{named_part}
use Rattle.occ_bits.proofs.named.named_scope.Given as goal

abbrev pub invariant-loop-name : goal.invariant-loop-name
invariant-loop-name l = named_part l.scope (exp l.left ∷ exp l.right ∷ exps l.under) ≡ l.part ++ named_part (drop l.name-index l.scope) (exp l.left ∷ exp l.right ∷ exps l.under)
