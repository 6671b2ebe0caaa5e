-- The parts that a list has, what stands behind the front of a list, and expressions that are variables.
use Rattle.std.specs.Prelude.{◌≡◌, List, Option, None, Some, ℕ}
use Rattle.std.specs.Borrow.{Bor}
use Rattle.occ_syntax.specs.declared.proc.Proc.{Proc}
use Rattle.occ_syntax.specs.Tree.{Tree, Trees, and_tree}
use Rattle.occ_syntax.specs.View.{tree, trees}
use Rattle.occ_law.specs.occ_meaning.Parallel.{all_of, one, two}
use Rattle.occ_law.specs.Lists.{size}
use Rattle.occ_law_shape.specs.declared.lists.Here.{Here}

-- the list has one part, which is this; or it hasn't one
abbrev pub IsOnly : Trees → Option (Bor Proc) → Type 0
IsOnly ps None = (p : Tree) → ps ≡ one p → ⊥
IsOnly ps (Some found) = ps ≡ one (tree found.now)

-- the list has two parts, which are these; or it hasn't two
abbrev pub IsPair : Trees → Option (Bor Proc × Bor Proc) → Type 0
IsPair ps None = (p q : Tree) → ps ≡ two p q → ⊥
IsPair ps (Some found) = ps ≡ two (tree found.0.now) (tree found.1.now)

-- the part behind so many others, with those before it and behind it; or there is none
abbrev pub IsPartAt : Trees → ℕ → Option Here → Type 0
IsPartAt all k None = (ps qs : Trees) (p : Tree) → all ≡ all_of ps (and_tree p qs) → k ≡ size ps → ⊥
IsPartAt all k (Some found) =
    (all ≡ all_of (trees found.before.now) (and_tree (tree found.part.now) (trees found.behind.now))) × (k ≡ size (trees found.before.now))

-- the list begins with these parts, and has this rest; or it doesn't begin so
abbrev pub IsBehind : Trees → Trees → Option (Bor (List Proc)) → Type 0
IsBehind first all None = (rest : Trees) → all ≡ all_of first rest → ⊥
IsBehind first all (Some found) = all ≡ all_of first (trees found.now)
