-- The straight parts of a PAR in front, and the others behind them.
use Rattle.std.specs.Prelude.{ℕ, ◌≡◌, true, false, ◌⊎◌, List}
use Rattle.occ_meaning.specs.Parallel.{all_of}
use Rattle.occ_syntax.specs.Names.{free_in_some, is_in, written, written_in_some}
use Rattle.occ_syntax.specs.Tree.{Tree, Trees, no_tree, and_tree, par}
use Rattle.occ_norm_arrange.specs.Arranged.{IsArranged}
use Rattle.occ_norm_arrange.specs.Straight.{straight}

-- no variable that the part writes stands free in one of the others
abbrev pub WritesOff : Tree → Trees → Type 0
WritesOff p qs = (x : ℕ) → (written p x ≡ false) ⊎ (free_in_some qs x ≡ false)

-- each part is straight, and no variable that it writes stands free behind it
abbrev pub EachLeads : Trees → Trees → Type 0
EachLeads no_tree rs = Unit {0}
EachLeads (and_tree p ps) rs = (straight p ≡ true) × WritesOff p (all_of ps rs) × EachLeads ps rs

-- What the parts of a PAR are split into: those in front and the others. All variables that the former write are among the first
-- names, and all free names are among the second ones.
pub record IsSplit (ps front others : Trees) (ws ns : List ℕ) : Type 0 where
  pub alike : IsArranged (par ps) (par (all_of front others))
  pub leads : EachLeads front others
  pub writes : (x : ℕ) → is_in ws x ≡ false → written_in_some front x ≡ false
  pub names : (x : ℕ) → is_in ns x ≡ false → free_in_some (all_of front others) x ≡ false
