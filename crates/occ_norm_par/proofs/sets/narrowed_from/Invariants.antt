use Rattle.std.proofs.Common.{ℕ, ◌+◌, ◌≤◌, length}
use Rattle.occ_norm_frame.specs.occ_dd.Store.{IsKnown, Keeps}
use Rattle.occ_norm_par.specs.States.{AreStates, HasThose}
use Rattle.occ_norm_par.proofs.Freeing.{Digits}
use Rattle.occ_norm_par.proofs.sets.narrowed_from.Given as goal

abbrev pub invariant-loop-place : goal.invariant-loop-place
invariant-loop-place l = record {
  keeps : Keeps l.fn.store l.store;
  known : IsKnown l.store l.those;
  states : (n : ℕ) → l.fn.first + length l.digits ≤ n → AreStates l.fn.store n l.fn.to → AreStates l.store n l.those;
  those : HasThose l.store (Digits l.store l.fn.first l.digits l.place) l.fn.from l.fn.to l.those;
}
