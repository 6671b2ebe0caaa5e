use Rattle.std.proofs.Common.{◌≡◌}
use Rattle.occ_syntax.specs.View.{tree}
use Rattle.occ_syntax.specs.Declarations.{declaring_all}
use Rattle.occ_syntax.proofs.proc.Proc.within.Given as goal

-- the declarations that are left, round the process so far
abbrev pub invariant-loop-name : goal.invariant-loop-name
invariant-loop-name l = declaring_all l.name-iterator.iter.rest.now (tree l.part) ≡ declaring_all l.declarations (tree l.fn.self)
