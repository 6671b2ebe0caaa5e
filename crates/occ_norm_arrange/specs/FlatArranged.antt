-- What a process becomes where the parts of its PARs are arranged, and what lists of parts, choices and alternatives become.
use Rattle.std.specs.Prelude.{◌≡◌, ◌≤◌, List, [], ◌∷◌}
use Rattle.occ_meaning.specs.Parallel.{all_of}
use Rattle.occ_syntax.proofs.Weights.{weight}
use Rattle.occ_syntax.specs.Tree.{Tree, Trees, par}
use Rattle.occ_syntax.specs.View.{exp, tree, waiting}
use Rattle.occ_norm_arrange.specs.Arranged.{IsArranged}
use Rattle.occ_syntax.specs.declared.expr.Expr.{Expr}
use Rattle.occ_syntax.specs.declared.expr.Guard.{Guard}
use Rattle.occ_syntax.specs.declared.proc.Proc.{Proc}

-- the same as arranged, where the new one has no more constructs
pub record IsReshaped (p q : Tree) : Type 0 where
  pub arranged : IsArranged p q
  pub weighs : weight q ≤ weight p

-- the same of parts side by side
abbrev pub AreArranged : Trees → Trees → Type 0
AreArranged ps qs = IsReshaped (par ps) (par qs)

-- behind some parts stand others that do, side by side, what those do
pub record AddsAll (before ps after : Trees) : Type 0 where
  pub others : Trees
  pub whole : after ≡ all_of before others
  pub alike : AreArranged ps others

-- ---- item by item

pub data Pairwise {A : Type 0} (R : A → A → Type 0) : List A → List A → Type 0 where
  no_items : Pairwise R [] []
  and_item : {x y : A} {xs ys : List A} → R x y → Pairwise R xs ys → Pairwise R (x ∷ xs) (y ∷ ys)

-- a part of a SEQ or a PAR
abbrev pub IsPart : Proc → Proc → Type 0
IsPart x y = IsArranged (tree x) (tree y)

-- a choice of an IF
abbrev pub IsChoice : Expr × Proc → Expr × Proc → Type 0
IsChoice x y = (exp y.0 ≡ exp x.0) × IsArranged (tree x.1) (tree y.1)

-- a branch of an ALT
abbrev pub IsBranch : Guard × Proc → Guard × Proc → Type 0
IsBranch x y = (exp y.0.condition ≡ exp x.0.condition) × (waiting y.0.wait ≡ waiting x.0.wait) × IsArranged (tree x.1) (tree y.1)
