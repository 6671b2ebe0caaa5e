-- What the parts of a PAR name, write and use, and what they share.
use Rattle.std.specs.Prelude.{ℕ, ◌≡◌, List}
use Rattle.occ_syntax.specs.occ_base.declared.event.Dir.{Dir}
use Rattle.occ_syntax.specs.Names.{is_in, free_in_some, written_in_some, end_in_some}
use Rattle.occ_syntax.specs.Tree.{Tree, Trees, no_tree, and_tree}
use Rattle.occ_names.specs.Once.{has}
use Rattle.occ_names.specs.Mentions.{same_end}
use Rattle.occ_usage.specs.Faults.{shared_variable, shared_end}

-- a row with one part more at its end
abbrev pub with_part : Trees → Tree → Trees
with_part no_tree p = and_tree p no_tree
with_part (and_tree q ps) p = and_tree q (with_part ps p)

-- sets that say these things of a row of parts
pub record Shares (ps : Trees) (named written : List ℕ) (used : List (ℕ × Dir)) (shared : List ℕ) (shared_ends : List (ℕ × Dir)) : Type 0 where
  pub names : (x : ℕ) → is_in named x ≡ free_in_some ps x
  pub writes : (x : ℕ) → is_in written x ≡ written_in_some ps x
  pub uses : (c : ℕ) (d : Dir) → has same_end used (c, d) ≡ end_in_some ps c d
  pub variables : (x : ℕ) → is_in shared x ≡ shared_variable ps x
  pub ends : (c : ℕ) (d : Dir) → has same_end shared_ends (c, d) ≡ shared_end ps c d
