-- A text that reads as a program, whichever that is.
use Rattle.std.specs.Prelude.{ℕ, List}
use Rattle.occ_witness.specs.occ_base.declared.names.Name.{Name}
use Rattle.occ_witness.specs.occ_parse.Reading.{IsRead}
use Rattle.occ_witness.specs.occ_parse.declared.bound.Bound.{Bound}
use Rattle.occ_witness.specs.occ_syntax.Tree.{Tree}
use Rattle.occ_witness.specs.occ_syntax.declared.scope.Kind.{Kind}

pub record Reads (b : Bound) (text : List ℕ) (old : List (List ℕ)) : Type 0 where
  pub new : List (List ℕ)
  pub name : Name
  pub params : List (Name × Kind)
  pub body : Tree
  pub numbers : List ℕ
  pub read : IsRead b text old new name params body numbers
