use Rattle.occ_node.specs.occ_dd.Store.{IsSet, Keeps, has}
use Rattle.occ_scope.specs.Bits.{turned_below}
use Rattle.occ_scope.proofs.bits.turn.Given as goal

-- the bits so far are turned
abbrev pub invariant-loop-bit : goal.invariant-loop-bit
invariant-loop-bit l = record {
  keeps : Keeps l.fn.store l.store;
  turned : IsSet l.store l.turned (λ x. has l.fn.store l.fn.set (turned_below l.bit l.change x));
}
