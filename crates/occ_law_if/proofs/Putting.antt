-- Lists of choices that grow at their end.
use Rattle.std.proofs.Common.{◌≡◌, List, [], ◌∷◌, ◌++◌, refl, ap, sym, ◌∙◌}
use Rattle.occ_syntax.specs.declared.expr.Expr.{Expr}
use Rattle.occ_syntax.specs.declared.proc.Proc.{Proc, Stop}
use Rattle.occ_syntax.specs.Tree.{Exp, Tree, stop, Cases, no_case, and_case}
use Rattle.occ_syntax.specs.View.{cases, exp, tree}
use Rattle.occ_law_shape.specs.occ_law.Lists.{all_cases}
use Rattle.occ_law_if.proofs.Fronts.{all_cases-none}
use Rattle.occ_law_if.specs.Made.{IsPut}

-- one choice at the end
pub put_last : (before after : List (Expr × Proc)) (x : Expr × Proc) → after ≡ before ++ x ∷ [] → IsPut (and_case (exp x.0) (tree x.1)) (cases before) (cases after)
put_last before after x e rest = ap (λ z. all_cases (cases z) rest) e ∙ at_end before
  where
    at_end : (list : List (Expr × Proc)) → all_cases (cases (list ++ x ∷ [])) rest ≡ all_cases (cases list) (and_case (exp x.0) (tree x.1) rest)
    at_end [] = refl
    at_end (y ∷ ys) = ap (and_case (exp y.0) (tree y.1)) (at_end ys)

-- what is put behind a list is the list's end
pub put_is : (before after cs : Cases) → IsPut (all_cases cs) before after → after ≡ all_cases before cs
put_is before after cs put = sym (all_cases-none after) ∙ put no_case ∙ ap (all_cases before) (all_cases-none cs)

-- a choice in other words
pub put_as : (before after : Cases) (b c : Exp) (p q : Tree) → b ≡ c → p ≡ q → IsPut (and_case b p) before after → IsPut (and_case c q) before after
put_as before after b c p q e f put rest = put rest ∙ ap (λ z. all_cases before (and_case z p rest)) e ∙ ap (λ z. all_cases before (and_case c z rest)) f

-- behind a list in other words
pub put_behind : (put : Cases → Cases) (before after cs rest : Cases) → before ≡ cs → IsPut put before after → all_cases after rest ≡ all_cases cs (put rest)
put_behind put before after cs rest e is = is rest ∙ ap (λ z. all_cases z (put rest)) e

-- STOP as a tree
pub stop_is : tree Stop ≡ stop
unfolding tree
stop_is = refl
