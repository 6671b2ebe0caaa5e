-- A PAR whose parts are split, as the SEQ of those in front and of the PAR of the others.
use Rattle.std.proofs.Common.{◌≡◌, ◌==◌, ◌++◌, ℕ, true, List, [], ◌∷◌, length, refl, sym, subst, arith}
use Rattle.std.proofs.lemmas.Bool.{eqb-true}
use Rattle.occ_meaning.specs.Parallel.{all_of, one}
use Rattle.occ_syntax.specs.Tree.{Trees, no_tree, par, seq}
use Rattle.occ_syntax.specs.View.{tree, trees}
use Rattle.occ_syntax.specs.declared.proc.Proc.{Proc}
use Rattle.occ_norm_arrange.specs.Arranged.{IsArranged}
use Rattle.occ_norm_arrange.specs.Split.{IsSplit}
use Rattle.occ_norm_arrange.proofs.StraightFlat.{as_seq, none_as_seq}
use Rattle.occ_norm_arrange.proofs.Itself.{arranged_steps}
use Rattle.occ_norm_arrange.proofs.Leading.{front_arranged}
use Rattle.occ_norm_arrange.proofs.Listed.{all_of_none, trees_pushed}

-- there are no others
pub front_alone : (ps front : Trees) (others : List Proc) (ws ns : List ℕ) → (length others == 0) ≡ true → IsSplit ps front (trees others) ws ns → IsArranged (par ps) (seq front)
front_alone ps front [] ws ns h a =
    subst (λ zs. IsArranged (par ps) (seq zs)) (all_of_none front)
    (arranged_steps (par ps) (par (all_of front no_tree)) (seq (all_of front no_tree)) a.alike (front_arranged front no_tree no_tree a.leads none_as_seq))
front_alone ps front (x ∷ others) ws ns h a = absurd (omega (arith, eqb-true (length (x ∷ others)) 0 h))

-- what does what the others do is put behind those in front
pub front_and_last : (ps others : Trees) (front now : List Proc) (last : Proc) (ws ns : List ℕ) → now ≡ front ++ last ∷ [] → IsArranged (par others) (tree last)
    → IsSplit ps (trees front) others ws ns → IsArranged (par ps) (seq (trees now))
front_and_last ps others front now last ws ns e q a =
    subst (λ zs. IsArranged (par ps) (seq zs)) (sym (trees_pushed now front last (tree last) e refl))
    (arranged_steps (par ps) (par (all_of (trees front) others)) (seq (all_of (trees front) (one (tree last)))) a.alike
    (front_arranged (trees front) others (one (tree last)) a.leads (as_seq others (tree last) q)))
