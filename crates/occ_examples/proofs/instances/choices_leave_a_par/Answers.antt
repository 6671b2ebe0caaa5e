use Rattle.occ_examples.proofs.instances.choices_leave_a_par.Goals as goal
use Rattle.occ_law.specs.Parallel.{par_if}
use Rattle.occ_law.specs.States.{AreFew, IsExhaustive}
use Rattle.occ_law.proofs.from_meaning.Facts.{false_not_true}
use Rattle.occ_law.specs.occ_syntax.Eval.{is_true}
use Rattle.occ_law.specs.occ_syntax.Tree.{and_case, no_case, no_tree, and_tree, par, send, skip, truth}
use Rattle.occ_law.specs.occ_syntax.Usage.{IsSeparate}
use Rattle.occ_examples.proofs.NearMisses.{may_stop}
use Rattle.occ_examples.specs.Programs.{c, here, if_else, scope, word, x_is_one}
use Rattle.std.proofs.Common.{arith, [], ◌∷◌, inl, inr, refl, true}
use Rattle.std.proofs.lemmas.Bool.{cases_Bool}

few : AreFew scope (x_is_one ∷ truth true ∷ [])
few = omega arith

every : IsExhaustive here (x_is_one ∷ truth true ∷ [])
every s h = elim (cases_Bool (is_true here x_is_one s)) [ inl i ↦ rw i refl | inr i ↦ rw i refl ]

-- the parts are an IF of two SKIPs, or SKIP, and an output
apart : IsSeparate (if_else x_is_one skip skip) (par (and_tree (send c (word 1)) no_tree))
apart = record { first_writes = λ n h. false_not_true h; second_writes = λ n h. false_not_true h; ends = λ n dir h. false_not_true h }

skip_apart : IsSeparate skip (par (and_tree (send c (word 1)) no_tree))
skip_apart = record { first_writes = λ n h. false_not_true h; second_writes = λ n h. false_not_true h; ends = λ n dir h. false_not_true h }

last_apart : IsSeparate (send c (word 1)) (par no_tree)
last_apart = record { first_writes = λ n h. false_not_true h; second_writes = λ n h. false_not_true h; ends = λ n dir h. refl }

pub returns : goal.returns
returns given = (
  record {
    place = [];
    sides = par_if (and_case x_is_one skip (and_case (truth true) skip no_case)) (send c (word 1)) few every;
    left = record { types = refl; usage = (((tt, (tt, tt)), (tt, tt)), (apart, (last_apart, tt))) };
    right = record { types = refl; usage = (((tt, (tt, tt)), (skip_apart, (last_apart, tt))), (((tt, (tt, tt)), (skip_apart, (last_apart, tt))), tt)) };
  },
  λ law. may_stop law.place _ _ law.sides refl,
)
