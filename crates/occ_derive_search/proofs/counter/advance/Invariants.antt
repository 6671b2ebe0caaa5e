use Rattle.std.proofs.Common.{◌≡◌, ◌++◌, take, drop}
use Rattle.std.specs.List.{AllByRecursion}
use Rattle.occ_derive_search.proofs.Counting.{next}
use Rattle.occ_derive_search.specs.Rows.{IsDigit}
use Rattle.occ_derive_search.proofs.counter.advance.Given as goal

abbrev pub invariant-loop-digit : goal.invariant-loop-digit
invariant-loop-digit l = record {
  next_is : next l.fn.digits ≡ take l.digit-index l.digits ++ next (drop l.digit-index l.digits);
  small : AllByRecursion IsDigit l.digits;
}
