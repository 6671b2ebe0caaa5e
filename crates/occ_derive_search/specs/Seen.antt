-- The machine of the code, seen as what it holds.
use Rattle.std.specs.Prelude.{List, map, reverse}
use Rattle.occ_derive_search.specs.declared.machine.Machine.{Machine}
use Rattle.occ_derive_search.specs.Piles.{Held}
use Rattle.occ_engine.specs.Moved.{moves_of}
use Rattle.occ_syntax.specs.View.{exp, tree, waiting}

-- a pile, its last item first
unfoldable pub pile : {A B : Type 0} → (A → B) → List A → List B
pile f xs = reverse (map f xs)

unfoldable pub held : Machine → Held
held machine = record {
  number = machine.number;
  kept = machine.kept;
  exps = pile exp machine.exprs.items;
  waits = pile waiting machine.waits.items;
  parts = pile tree machine.parts.items;
  path = machine.path;
  moves = moves_of machine.steps;
}
