use Rattle.std.proofs.Common.{◌≡◌, ◌&&◌, ℕ, true, drop}
use Rattle.occ_dd.specs.Store.{has, IsKnown, Keeps}
use Rattle.occ_syntax.specs.View.{exps}
use Rattle.occ_bits.specs.Layout.{environment_in, state_of}
use Rattle.occ_bits.specs.Named.{all_true, are_conditions}
use Rattle.occ_bits.proofs.equal.all_hold.Given as goal

abbrev pub invariant-loop-expr : goal.invariant-loop-expr
invariant-loop-expr l = record {
  keeps : Keeps l.fn.store l.store;
  known : IsKnown l.store l.all;
  typed : are_conditions (environment_in l.layout) (exps (drop l.expr-index l.under)) ≡ true;
  tells : (x : ℕ) → (has l.store l.all x && all_true (environment_in l.layout) (exps (drop l.expr-index l.under)) (state_of l.layout x)) ≡ all_true (environment_in l.layout) (exps l.under) (state_of l.layout x);
}
