use Rattle.std.proofs.Common.{◌<◌, ◌≡◌, ℕ, get_or, length}
use Rattle.std.specs.Borrow.{Bor}
use Rattle.occ_syntax.specs.declared.expr.Guard.{Guard}
use Rattle.occ_syntax.specs.declared.proc.Proc.{Proc}
use Rattle.occ_law_alt.specs.Fronts.{IsSameBranch}
use Rattle.occ_law_alt.proofs.order.place_of.Given as goal

-- no branch so far is this one
abbrev pub invariant-loop-place : goal.invariant-loop-place
invariant-loop-place l = (k : ℕ) (x : Bor (Guard × Proc)) → k < l.place → k < length l.list → x ≡ get_or l.list k x → IsSameBranch l.branch x.now → ⊥
