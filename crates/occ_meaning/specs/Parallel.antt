-- The parts of a PAR in other lists and other orders.
use Rattle.occ_syntax.specs.Names.{written}
use Rattle.occ_syntax.specs.Tree.{Tree, Trees, and_tree, no_tree, par}
use Rattle.std.specs.Prelude.{false, ℕ, ◌≡◌, ◌⊎◌}

abbrev pub one : Tree → Trees
one p = and_tree p no_tree

abbrev pub two : Tree → Tree → Trees
two p q = and_tree p (one q)

-- the parts of two lists in one
abbrev pub all_of : Trees → Trees → Trees
all_of no_tree qs = qs
all_of (and_tree p ps) qs = and_tree p (all_of ps qs)

-- the same parts in another order
pub data Reordered : Trees → Trees → Type 0 where
  as_they_are : {ps : Trees} → Reordered ps ps
  behind_first : {p : Tree} {ps qs : Trees} → Reordered ps qs → Reordered (and_tree p ps) (and_tree p qs)
  first_two : {p q : Tree} {ps : Trees} → Reordered (and_tree p (and_tree q ps)) (and_tree q (and_tree p ps))
  in_steps : {ps qs rs : Trees} → Reordered ps qs → Reordered qs rs → Reordered ps rs

-- no variable is written by two parts
abbrev pub WriteApart : Tree → Tree → Type 0
WriteApart p q = (x : ℕ) → (written p x ≡ false) ⊎ (written q x ≡ false)

abbrev pub EachWritesApart : Trees → Type 0
EachWritesApart no_tree = Unit {0}
EachWritesApart (and_tree p ps) = WriteApart p (par ps) × EachWritesApart ps
