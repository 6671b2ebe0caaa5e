use Rattle.std.proofs.Common.{[], ◌∷◌, refl, false}
use Rattle.occ_bits.specs.occ_syntax.Tree.{truth, skip, no_case, and_case}
use Rattle.occ_law.specs.Choice.{if_else_stop}
use Rattle.occ_law.proofs.law.a_last_stop_leaves.Goals as goal

pub returns : goal.returns
returns c = λ S. record {
  place = 1 ∷ [];
  sides = if_else_stop (and_case (truth false) skip no_case);
  left = record { types = refl; usage = (tt, (tt, tt)) };
  right = record { types = refl; usage = (tt, tt) };
}
