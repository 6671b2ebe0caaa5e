-- Lists of parts that grow at their end.
use Rattle.std.proofs.Common.{◌≡◌, List, [], ◌∷◌, ◌++◌, refl, ap, sym, ◌∙◌}
use Rattle.occ_syntax.specs.declared.proc.Proc.{Proc}
use Rattle.occ_syntax.specs.Tree.{Tree, Trees, no_tree, and_tree}
use Rattle.occ_syntax.specs.View.{tree, trees}
use Rattle.occ_law.specs.occ_meaning.Parallel.{all_of}
use Rattle.occ_law_shape.proofs.Parts.{all_of-none}

-- one more of a list of parts
pub parts_step : (xs ys : List Proc) (x : Proc) (p : Tree) (before all now rest : Trees) → ys ≡ xs ++ x ∷ [] → tree x ≡ p → now ≡ and_tree p rest
    → all_of (trees xs) now ≡ all_of before all → all_of (trees ys) rest ≡ all_of before all
parts_step xs ys x p before all now rest e f g so_far =
    ap (λ z. all_of (trees z) rest) e ∙ at_end xs ∙ ap (λ z. all_of (trees xs) (and_tree z rest)) f ∙ ap (all_of (trees xs)) (sym g) ∙ so_far
  where
    at_end : (list : List Proc) → all_of (trees (list ++ x ∷ [])) rest ≡ all_of (trees list) (and_tree (tree x) rest)
    at_end [] = refl
    at_end (y ∷ ys) = ap (and_tree (tree y)) (at_end ys)

pub parts_whole : (made before all rest : Trees) → rest ≡ no_tree → all_of made rest ≡ all_of before all → made ≡ all_of before all
parts_whole made before all rest e so_far = sym (all_of-none made) ∙ ap (all_of made) (sym e) ∙ so_far
