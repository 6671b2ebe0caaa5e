use Rattle.std.proofs.Common.{◌≡◌, drop}
use Rattle.occ_print.specs.Greatest.{greatest_of_names}
use Rattle.occ_syntax.specs.View.{numbers}
use Rattle.occ_print.proofs.greatest.of_names.Given as goal

-- the names that are left, with the greatest so far
abbrev pub invariant-loop-name : goal.invariant-loop-name
invariant-loop-name l = greatest_of_names (numbers (drop l.name-index l.list)) l.found ≡ greatest_of_names (numbers l.list) l.most
