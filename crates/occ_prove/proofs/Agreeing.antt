-- Two maps of names that agree below a number give parts whose names are below it one form.
use Rattle.std.proofs.Common.{◌≡◌, ◌∙◌, ◌<◌, ℕ, List, [], ◌∷◌, refl, ap, ap₂}
use Rattle.std.specs.List.{AllByRecursion}
use Rattle.occ_tool_run.specs.occ_meaning.Rename.{all_renamed, branches_renamed, cases_renamed, renamed, renamed_exp, renamed_exps, renamed_names, renamed_waiting}
use Rattle.occ_tool_run.specs.occ_print.Known.{BranchesAreKnown, CasesAreKnown, ExpIsKnown, PartIsKnown, PartsAreKnown, WaitingIsKnown}
use Rattle.occ_syntax.specs.Tree.{Branches, Cases, Exp, Tree, Trees, Waiting, alt, and_branch, and_case, and_tree, assign, complement, connect, declare, input, negation, no_branch, no_case, no_tree, numeral, operation, output, par, ready, receive, select, send, seq, skip, stop, truth, variable}

module _ (n : ℕ) (f g : ℕ → ℕ) (same : (x : ℕ) → x < n → f x ≡ g x) where
  exp_agrees : (e : Exp) → ExpIsKnown n e → renamed_exp f e ≡ renamed_exp g e
  exp_agrees (variable x) k = ap variable (same x k)
  exp_agrees (numeral bits value) k = refl
  exp_agrees (truth b) k = refl
  exp_agrees (negation e) k = ap negation (exp_agrees e k)
  exp_agrees (complement e) k = ap complement (exp_agrees e k)
  exp_agrees (operation o left right) k = ap₂ (operation o) (exp_agrees left k.0) (exp_agrees right k.1)

  names_agree : (xs : List ℕ) → AllByRecursion (λ x. x < n) xs → renamed_names f xs ≡ renamed_names g xs
  names_agree [] k = refl
  names_agree (x ∷ xs) k = ap₂ ◌∷◌ (same x k.0) (names_agree xs k.1)

  exps_agree : (es : List Exp) → AllByRecursion (ExpIsKnown n) es → renamed_exps f es ≡ renamed_exps g es
  exps_agree [] k = refl
  exps_agree (e ∷ es) k = ap₂ ◌∷◌ (exp_agrees e k.0) (exps_agree es k.1)

  waiting_agrees : (w : Waiting) → WaitingIsKnown n w → renamed_waiting f w ≡ renamed_waiting g w
  waiting_agrees ready k = refl
  waiting_agrees (input c x) k = ap₂ input (same c k.0) (same x k.1)
  waiting_agrees (output c e) k = ap₂ output (same c k.0) (exp_agrees e k.1)

  mutual
    -- a part is one under both
    pub part_agrees : (p : Tree) → PartIsKnown n p → renamed p f ≡ renamed p g
    part_agrees skip k = refl
    part_agrees stop k = refl
    part_agrees (assign xs es) k = ap₂ assign (names_agree xs k.0) (exps_agree es k.1)
    part_agrees (receive c x) k = ap₂ receive (same c k.0) (same x k.1)
    part_agrees (send c e) k = ap₂ send (same c k.0) (exp_agrees e k.1)
    part_agrees (seq ps) k = ap seq (parts_agree ps k)
    part_agrees (par ps) k = ap par (parts_agree ps k)
    part_agrees (select cs) k = ap select (cases_agree cs k)
    part_agrees (alt bs) k = ap alt (branches_agree bs k)
    part_agrees (declare x w p) k = ap₂ (λ y q. declare y w q) (same x k.0) (part_agrees p k.1)
    part_agrees (connect c w p) k = ap₂ (λ y q. connect y w q) (same c k.0) (part_agrees p k.1)

    parts_agree : (ps : Trees) → PartsAreKnown n ps → all_renamed ps f ≡ all_renamed ps g
    parts_agree no_tree k = refl
    parts_agree (and_tree p ps) k = ap₂ and_tree (part_agrees p k.0) (parts_agree ps k.1)

    cases_agree : (cs : Cases) → CasesAreKnown n cs → cases_renamed cs f ≡ cases_renamed cs g
    cases_agree no_case k = refl
    cases_agree (and_case e p cs) k = λ i. and_case (exp_agrees e k.0 i) (part_agrees p k.1 i) (cases_agree cs k.2 i)

    branches_agree : (bs : Branches) → BranchesAreKnown n bs → branches_renamed bs f ≡ branches_renamed bs g
    branches_agree no_branch k = refl
    branches_agree (and_branch e w p bs) k = λ i. and_branch (exp_agrees e k.0 i) (waiting_agrees w k.1 i) (part_agrees p k.2 i) (branches_agree bs k.3 i)
