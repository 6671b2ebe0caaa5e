-- The abstract syntax: what a program is, apart from where its parts lie in memory. A name is a number of the name table.
use Rattle.std.specs.Prelude.{ℕ, Bool, List}
use Rattle.occ_base.specs.declared.width.Width.{Width}
use Rattle.occ_syntax.specs.declared.expr.Op.{Op}

-- An expression.
pub data Exp : Type 0 where
  variable : ℕ → Exp
  numeral : (bits value : ℕ) → Exp
  truth : Bool → Exp
  negation : Exp → Exp
  complement : Exp → Exp
  operation : Op → Exp → Exp → Exp

-- What a guard waits for: nothing, an input from a channel into a variable, or an output of a value to a channel.
pub data Waiting : Type 0 where
  ready : Waiting
  input : (chan var : ℕ) → Waiting
  output : (chan : ℕ) → Exp → Waiting

-- A process. Its lists of parts have types of their own: processes, choices (IF) and alternatives (ALT).
mutual
  pub data Tree : Type 0 where
    skip : Tree
    stop : Tree
    assign : List ℕ → List Exp → Tree
    receive : (chan var : ℕ) → Tree
    send : (chan : ℕ) → Exp → Tree
    seq : Trees → Tree
    par : Trees → Tree
    select : Cases → Tree
    alt : Branches → Tree
    declare : ℕ → Width → Tree → Tree
    connect : ℕ → Width → Tree → Tree

  pub data Trees : Type 0 where
    no_tree : Trees
    and_tree : Tree → Trees → Trees

  pub data Cases : Type 0 where
    no_case : Cases
    and_case : Exp → Tree → Cases → Cases

  pub data Branches : Type 0 where
    no_branch : Branches
    and_branch : Exp → Waiting → Tree → Branches → Branches
