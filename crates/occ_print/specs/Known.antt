-- The names of a program stand in a table of so many names.
use Rattle.std.specs.Prelude.{ℕ, ◌<◌, List, length}
use Rattle.std.specs.List.{AllByRecursion}
use Rattle.occ_syntax.specs.occ_base.declared.names.Name.{Name}
use Rattle.occ_syntax.specs.declared.scope.Kind.{Kind}
use Rattle.occ_parse_forms.specs.occ_lex.Symbols.{IsKnown}
use Rattle.occ_print.specs.Lines.{TextLine}
use Rattle.occ_syntax.specs.Tree.{Exp, variable, numeral, truth, negation, complement, operation, Waiting, ready, input, output, Tree, skip, stop, assign, receive, send, seq, par, select, alt, declare, connect, Trees, no_tree, and_tree, Cases, no_case, and_case, Branches, no_branch, and_branch}

abbrev pub ExpIsKnown : ℕ → Exp → Type 0
ExpIsKnown n (variable x) = x < n
ExpIsKnown n (numeral bits value) = Unit {0}
ExpIsKnown n (truth b) = Unit {0}
ExpIsKnown n (negation e) = ExpIsKnown n e
ExpIsKnown n (complement e) = ExpIsKnown n e
ExpIsKnown n (operation o left right) = ExpIsKnown n left × ExpIsKnown n right

abbrev pub WaitingIsKnown : ℕ → Waiting → Type 0
WaitingIsKnown n ready = Unit {0}
WaitingIsKnown n (input c x) = (c < n) × (x < n)
WaitingIsKnown n (output c e) = (c < n) × ExpIsKnown n e

-- each name in a part is below n
abbrev mutual
  pub PartIsKnown : ℕ → Tree → Type 0
  PartIsKnown n skip = Unit {0}
  PartIsKnown n stop = Unit {0}
  PartIsKnown n (assign xs es) = AllByRecursion (λ x. x < n) xs × AllByRecursion (ExpIsKnown n) es
  PartIsKnown n (receive c x) = (c < n) × (x < n)
  PartIsKnown n (send c e) = (c < n) × ExpIsKnown n e
  PartIsKnown n (seq ps) = PartsAreKnown n ps
  PartIsKnown n (par ps) = PartsAreKnown n ps
  PartIsKnown n (select cs) = CasesAreKnown n cs
  PartIsKnown n (alt bs) = BranchesAreKnown n bs
  PartIsKnown n (declare x w p) = (x < n) × PartIsKnown n p
  PartIsKnown n (connect c w p) = (c < n) × PartIsKnown n p

  pub PartsAreKnown : ℕ → Trees → Type 0
  PartsAreKnown n no_tree = Unit {0}
  PartsAreKnown n (and_tree p ps) = PartIsKnown n p × PartsAreKnown n ps

  pub CasesAreKnown : ℕ → Cases → Type 0
  CasesAreKnown n no_case = Unit {0}
  CasesAreKnown n (and_case e p cs) = ExpIsKnown n e × PartIsKnown n p × CasesAreKnown n cs

  pub BranchesAreKnown : ℕ → Branches → Type 0
  BranchesAreKnown n no_branch = Unit {0}
  BranchesAreKnown n (and_branch e w p bs) = ExpIsKnown n e × WaitingIsKnown n w × PartIsKnown n p × BranchesAreKnown n bs

-- the names of a program stand in the table
pub record ProgramIsKnown (names : List (List ℕ)) (name : ℕ) (params : List (Name × Kind)) (body : Tree) : Type 0 where
  pub name_is : name < length names
  pub params_are : AllByRecursion (λ (p : Name × Kind). p.0.0 < length names) params
  pub body_is : PartIsKnown (length names) body

-- the names on lines stand in the table
abbrev pub LinesAreKnown : List (List ℕ) → List TextLine → Type 0
LinesAreKnown names lines = AllByRecursion (λ (l : TextLine). AllByRecursion (IsKnown names) l.symbols) lines
