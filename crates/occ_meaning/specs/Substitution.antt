-- Expressions in the place of variables, all at once.
use Rattle.occ_syntax.specs.Names.{is_in, names}
use Rattle.occ_syntax.specs.Tree.{Exp, complement, negation, numeral, operation, truth, variable}
use Rattle.std.specs.Prelude.{List, [], false, if◌then◌else◌, true, ℕ, ◌==◌, ◌∷◌, ◌≡◌}

-- the expression that stands for a variable: its own, or the variable where it has none
abbrev pub value_for : List ℕ → List Exp → ℕ → Exp
value_for [] es y = variable y
value_for (x ∷ xs) [] y = variable y
value_for (x ∷ xs) (e ∷ es) y = if y == x then e else value_for xs es y

abbrev pub substituted : List ℕ → List Exp → Exp → Exp
substituted xs es (variable y) = value_for xs es y
substituted xs es (numeral bits value) = numeral bits value
substituted xs es (truth b) = truth b
substituted xs es (negation e) = negation (substituted xs es e)
substituted xs es (complement e) = complement (substituted xs es e)
substituted xs es (operation op left right) = operation op (substituted xs es left) (substituted xs es right)

-- the expression names none of these variables
abbrev pub NamesNone : Exp → List ℕ → Type 0
NamesNone e xs = (x : ℕ) → names e x ≡ true → is_in xs x ≡ false
