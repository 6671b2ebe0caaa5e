-- Normal programs that are too long to be derived, and others.
use Rattle.std.specs.Prelude.{ℕ, ◌≤◌, ◌<◌, List}
use Rattle.occ_tool_run.specs.occ_derive_search.Derivations.{IsDerived}
use Rattle.occ_tool_run.specs.occ_engine.declared.outcome.Outcome.{Outcome}
use Rattle.occ_tool_run.specs.occ_lex.Growth.{GrowsByNames}
use Rattle.occ_syntax.specs.Counts.{controls}
use Rattle.occ_syntax.specs.declared.scope.Program.{Program}
use Rattle.occ_syntax.specs.Tree.{Tree}
use Rattle.occ_syntax.specs.View.{tree}
use Rattle.occ_tool_run.specs.Derived.{IsNormalBody}

-- The normal program has more than 4,096 controls. Its names are those of a table that has grown by names of the language.
pub record IsLong (names : List (List ℕ)) (p : Program) : Type 0 where
  pub new : List (List ℕ)
  pub grown : GrowsByNames names new
  pub body : Tree
  pub is : IsNormalBody new p body
  pub long : 4096 < controls body

-- it has no more
pub record IsShort (names : List (List ℕ)) (p : Program) : Type 0 where
  pub new : List (List ℕ)
  pub grown : GrowsByNames names new
  pub body : Tree
  pub is : IsNormalBody new p body
  pub short : controls body ≤ 4096

-- An outcome leads from a program to its normal program, which has at most 4,096 controls.
pub record IsToNormal (names : List (List ℕ)) (p : Program) (o : Outcome) : Type 0 where
  pub derived : IsDerived p o
  pub is : IsNormalBody names p (tree o.to.body)
  pub short : controls (tree o.to.body) ≤ 4096
