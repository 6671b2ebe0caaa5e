-- Conditions turned, and conditions that are never true together.
use Rattle.std.specs.Prelude.{◌≡◌, false, List, [], ◌∷◌}
use Rattle.occ_syntax.specs.Scopes.{Environment, IsState, Values}
use Rattle.occ_syntax.specs.Tree.{Exp, negation}
use Rattle.occ_law.specs.occ_bits.Named.{all_true}

-- NOT of each condition
abbrev pub negations : List Exp → List Exp
negations [] = []
negations (b ∷ bs) = negation b ∷ negations bs

-- in no state all of the conditions are true
abbrev pub IsNeverAll : Environment → List Exp → Type 0
IsNeverAll Γ bs = (s : Values) → IsState Γ s → all_true Γ bs s ≡ false
