-- A text of an accepted program.
use Rattle.std.specs.Prelude.{ℕ, List, []}
use Rattle.occ_script.specs.occ_base.declared.names.Name.{Name}
use Rattle.occ_print_back.specs.occ_parse.declared.bound.Bound.TheVariants as bound
use Rattle.occ_print_back.specs.occ_parse.Reading.{IsRead}
use Rattle.occ_script.specs.occ_syntax.declared.scope.Kind.{Kind}
use Rattle.occ_script.specs.occ_syntax.Tree.{Tree}
use Rattle.occ_script.specs.occ_syntax.Usage.{KeepsUsage}

-- With an empty table of names the text, which all limits bind, reads as a program that keeps the usage rule.
pub record IsTextOfAccepted (text : List ℕ) : Type 0 where
  pub names : List (List ℕ)
  pub name : Name
  pub params : List (Name × Kind)
  pub body : Tree
  pub lines : List ℕ
  pub read : IsRead bound.Program text [] names name params body lines
  pub usage : KeepsUsage body
