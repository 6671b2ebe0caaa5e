-- A process under a declaration.
use Rattle.std.specs.Prelude.{ℕ, ◌≡◌, Option, None, Some}
use Rattle.std.specs.Borrow.{Bor}
use Rattle.occ_syntax.specs.declared.proc.Proc.{Proc}
use Rattle.occ_syntax.specs.Tree.{Tree, declare, connect}
use Rattle.occ_syntax.specs.View.{tree}
use Rattle.occ_law_scope.specs.declared.declaration.Declaration.{Declaration}
use Rattle.occ_law_scope.specs.declared.declaration.Declaration.TheVariants.{Var, Chan}

abbrev pub under : Declaration → Tree → Tree
under (Var name width) p = declare name.0 width p
under (Chan name width) p = connect name.0 width p

abbrev pub name_of : Declaration → ℕ
name_of (Var name width) = name.0
name_of (Chan name width) = name.0

-- the declaration with which a process begins and what is under it; or it begins with none
abbrev pub IsTakenOff : Tree → Option (Declaration × Bor Proc) → Type 0
IsTakenOff p None = (d : Declaration) (q : Tree) → p ≡ under d q → ⊥
IsTakenOff p (Some found) = p ≡ under found.0 (tree found.1.now)

-- the process under that declaration; or the whole doesn't begin with it
abbrev pub IsBody : Declaration → Tree → Option (Bor Proc) → Type 0
IsBody d whole None = (p : Tree) → whole ≡ under d p → ⊥
IsBody d whole (Some found) = whole ≡ under d (tree found.now)
