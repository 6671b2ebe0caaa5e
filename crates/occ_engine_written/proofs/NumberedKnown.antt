-- Names under an exchange of numbers below n stay below n.
use Rattle.std.proofs.Common.{ℕ, ◌<◌, List, [], ◌∷◌}
use Rattle.std.specs.List.{AllByRecursion}
use Rattle.occ_engine_known.specs.occ_base.declared.names.Name.{Name}
use Rattle.occ_renamed.specs.Scopes.{scope_renamed}
use Rattle.occ_renamed.specs.occ_meaning.Rename.{all_renamed, branches_renamed, cases_renamed, renamed, renamed_exp, renamed_exps, renamed_names, renamed_waiting}
use Rattle.occ_renamed.specs.occ_parse_forms.Lines.{IsMarked}
use Rattle.occ_renamed.specs.occ_print.Known.{BranchesAreKnown, CasesAreKnown, ExpIsKnown, PartIsKnown, PartsAreKnown, WaitingIsKnown}
use Rattle.occ_engine_known.specs.occ_syntax.declared.scope.Kind.{Kind}
use Rattle.occ_engine_known.specs.occ_syntax.Tree.{Branches, Cases, Exp, Tree, Trees, Waiting, alt, and_branch, and_case, and_tree, assign, complement, connect, declare, input, negation, no_branch, no_case, no_tree, numeral, operation, output, par, ready, receive, select, send, seq, skip, stop, truth, variable}

module _ (f : ℕ → ℕ) (n : ℕ) (within : (x : ℕ) → x < n → f x < n) where
  exp_known : (e : Exp) → ExpIsKnown n e → ExpIsKnown n (renamed_exp f e)
  exp_known (variable x) h = within x h
  exp_known (numeral bits v) h = tt
  exp_known (truth b) h = tt
  exp_known (negation e) h = exp_known e h
  exp_known (complement e) h = exp_known e h
  exp_known (operation o l r) h = (exp_known l h.0, exp_known r h.1)

  exps_known : (es : List Exp) → AllByRecursion (ExpIsKnown n) es → AllByRecursion (ExpIsKnown n) (renamed_exps f es)
  exps_known [] h = tt
  exps_known (e ∷ es) h = (exp_known e h.0, exps_known es h.1)

  names_known : (xs : List ℕ) → AllByRecursion (λ (x : ℕ). x < n) xs → AllByRecursion (λ (x : ℕ). x < n) (renamed_names f xs)
  names_known [] h = tt
  names_known (x ∷ xs) h = (within x h.0, names_known xs h.1)

  waiting_known : (w : Waiting) → WaitingIsKnown n w → WaitingIsKnown n (renamed_waiting f w)
  waiting_known ready h = tt
  waiting_known (input c x) h = (within c h.0, within x h.1)
  waiting_known (output c e) h = (within c h.0, exp_known e h.1)

  mutual
    pub part_known : (p : Tree) → PartIsKnown n p → PartIsKnown n (renamed p f)
    part_known skip h = tt
    part_known stop h = tt
    part_known (assign xs es) h = (names_known xs h.0, exps_known es h.1)
    part_known (receive c x) h = (within c h.0, within x h.1)
    part_known (send c e) h = (within c h.0, exp_known e h.1)
    part_known (seq ps) h = parts_known ps h
    part_known (par ps) h = parts_known ps h
    part_known (select cs) h = cases_known cs h
    part_known (alt bs) h = branches_known bs h
    part_known (declare x w p) h = (within x h.0, part_known p h.1)
    part_known (connect c w p) h = (within c h.0, part_known p h.1)

    parts_known : (ps : Trees) → PartsAreKnown n ps → PartsAreKnown n (all_renamed ps f)
    parts_known no_tree h = tt
    parts_known (and_tree p ps) h = (part_known p h.0, parts_known ps h.1)

    cases_known : (cs : Cases) → CasesAreKnown n cs → CasesAreKnown n (cases_renamed cs f)
    cases_known no_case h = tt
    cases_known (and_case e p cs) h = (exp_known e h.0, part_known p h.1, cases_known cs h.2)

    branches_known : (bs : Branches) → BranchesAreKnown n bs → BranchesAreKnown n (branches_renamed bs f)
    branches_known no_branch h = tt
    branches_known (and_branch e w p bs) h = (exp_known e h.0, waiting_known w h.1, part_known p h.2, branches_known bs h.3)

  pub scope_known : (S : List (Name × Kind)) → AllByRecursion (λ (p : Name × Kind). p.0.0 < n) S
      → AllByRecursion (λ (p : Name × Kind). p.0.0 < n) (scope_renamed f S)
  scope_known [] h = tt
  scope_known (p ∷ S) h = (within p.0.0 h.0, scope_known S h.1)

pub scope_marked : (f : ℕ → ℕ) (S : List (Name × Kind)) → AllByRecursion (λ (p : Name × Kind). IsMarked p.1) S
    → AllByRecursion (λ (p : Name × Kind). IsMarked p.1) (scope_renamed f S)
scope_marked f [] h = tt
scope_marked f (p ∷ S) h = (h.0, scope_marked f S h.1)
