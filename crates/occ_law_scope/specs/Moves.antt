-- What the laws of declared names that govern one part of a PAR say of the two lists.
use Rattle.std.specs.Prelude.{◌≡◌, false}
use Rattle.occ_syntax.specs.Names.{free_in_some}
use Rattle.occ_syntax.specs.Tree.{Tree, Trees, and_tree}
use Rattle.occ_law_scope.specs.declared.declaration.Declaration.{Declaration}
use Rattle.occ_law_scope.specs.Under.{name_of, under}

-- the first process is under the declaration, whose name isn't free in the rest
pub data InFirst (d : Declaration) : Trees → Trees → Type 0 where
  in_first : (p : Tree) (qs : Trees) → free_in_some qs (name_of d) ≡ false → InFirst d (and_tree p qs) (and_tree (under d p) qs)
