-- The first choice of a list, and what stands behind the front of a list.
use Rattle.std.specs.Prelude.{◌≡◌, List, Option, None, Some}
use Rattle.std.specs.Borrow.{Bor}
use Rattle.occ_syntax.specs.declared.expr.Expr.{Expr}
use Rattle.occ_syntax.specs.declared.proc.Proc.{Proc}
use Rattle.occ_syntax.specs.Tree.{Exp, Tree, Cases, and_case}
use Rattle.occ_syntax.specs.View.{cases, exp, tree}
use Rattle.occ_law_shape.specs.occ_law.Choice.{each_case_under}
use Rattle.occ_law_shape.specs.occ_law.Lists.{all_cases}
use Rattle.occ_law_if.specs.declared.choices.Front.{Front}

-- the first choice and those behind it; or there is none
abbrev pub IsFront : Cases → Option Front → Type 0
IsFront cs None = (b : Exp) (p : Tree) (ds : Cases) → cs ≡ and_case b p ds → ⊥
IsFront cs (Some found) = cs ≡ and_case (exp found.condition.now) (tree found.process.now) (cases found.behind.now)

-- the list begins with these choices, and has this rest; or it doesn't begin so
abbrev pub IsBehind : Cases → Cases → Option (Bor (List (Expr × Proc))) → Type 0
IsBehind first all None = (rest : Cases) → all ≡ all_cases first rest → ⊥
IsBehind first all (Some found) = all ≡ all_cases first (cases found.now)

-- the first choice has this condition and this process, and these are behind it; or it hasn't
abbrev pub IsLed : Exp → Tree → Cases → Option (Bor (List (Expr × Proc))) → Type 0
IsLed b p cs None = (rest : Cases) → cs ≡ and_case b p rest → ⊥
IsLed b p cs (Some found) = cs ≡ and_case b p (cases found.now)

-- the list begins with these choices, each asking for b as well, and has this rest; or it doesn't begin so
abbrev pub IsBehindUnder : Exp → Cases → Cases → Option (Bor (List (Expr × Proc))) → Type 0
IsBehindUnder b first all None = (rest : Cases) → all ≡ all_cases (each_case_under b first) rest → ⊥
IsBehindUnder b first all (Some found) = all ≡ all_cases (each_case_under b first) (cases found.now)

-- the first choice has this process; or it hasn't
abbrev pub IsLedBy : Tree → Cases → Option Front → Type 0
IsLedBy p cs None = (b : Exp) (rest : Cases) → cs ≡ and_case b p rest → ⊥
IsLedBy p cs (Some found) = (cs ≡ and_case (exp found.condition.now) (tree found.process.now) (cases found.behind.now)) × (tree found.process.now ≡ p)
