-- The laws of PAR, where names are exchanged.
use Rattle.occ_replay_rules.specs.occ_base.declared.names.Name.{Name}
use Rattle.occ_renamed.proofs.Lists.{all_branches_under, all_of_under, conditions_under, parts_under}
use Rattle.occ_renamed.proofs.Names.{pushed}
use Rattle.occ_renamed.proofs.Sequence.{behind, these}
use Rattle.occ_renamed.proofs.States.{exhaustive_under, few_under}
use Rattle.occ_renamed.specs.Scopes.{scope_renamed}
use Rattle.occ_replay_rules.specs.occ_law.Lists.{all_branches, conditions, size}
use Rattle.occ_replay_rules.specs.occ_law.Parallel.{ParAssign, ParExpand, ParFlat, ParIf, ParNone, ParOne, ParOrder, ParSkip, ParStop, ParallelSides, both_go, each_case_beside, expanded, first_goes, meeting, meetings, meetings_of, par_assign, par_expand, par_flat, par_if, par_none, par_one, par_order, par_skip, par_stop, second_goes}
use Rattle.occ_replay_rules.specs.occ_law.States.{AreFew, IsExhaustive}
use Rattle.occ_replay_rules.proofs.from_meaning.Facts.{both}
use Rattle.occ_replay_rules.proofs.from_meaning.Renaming.{IsExchange, one_for_one}
use Rattle.occ_replay_rules.specs.occ_meaning.Parallel.{all_of, two}
use Rattle.occ_replay_rules.specs.occ_meaning.Rename.{all_renamed, branches_renamed, cases_renamed, renamed, renamed_exp, renamed_exps, renamed_names, renamed_waiting}
use Rattle.occ_replay_rules.specs.occ_syntax.Scopes.{environment}
use Rattle.occ_replay_rules.specs.occ_syntax.Tree.{Branches, Cases, Exp, Tree, Waiting, alt, and_branch, and_case, and_tree, input, no_branch, no_case, operation, output, par, ready, select, skip}
use Rattle.occ_replay_rules.specs.occ_syntax.declared.expr.Op.TheVariants.{And}
use Rattle.occ_replay_rules.specs.occ_syntax.declared.scope.Kind.{Kind}
use Rattle.std.proofs.Common.{List, [], ap, if◌then◌else◌, refl, subst, sym, ℕ, ◌==◌, ◌∙◌, ◌∷◌, ◌≡◌}

none_under : (f : ℕ → ℕ) (ks : List ℕ) (l r : Tree) → ParNone ks l r → ParNone ks (renamed l f) (renamed r f)
none_under f ks l r par_none = par_none

one_under : (f : ℕ → ℕ) (ks : List ℕ) (l r : Tree) → ParOne ks l r → ParOne ks (renamed l f) (renamed r f)
one_under f ks l r (par_one p) = par_one (renamed p f)

flat_under : (f : ℕ → ℕ) (ks : List ℕ) (l r : Tree) → ParFlat ks l r → ParFlat ks (renamed l f) (renamed r f)
flat_under f ks l r (par_flat ps qs rs) =
    let Ps = all_renamed ps f in let Qs = all_renamed qs f in let Rs = all_renamed rs f in
    these ParFlat (size Ps ∷ []) (size ps ∷ []) (par (all_of Ps (and_tree (par Qs) Rs))) (renamed (par (all_of ps (and_tree (par qs) rs))) f)
    (par (all_of Ps (all_of Qs Rs))) (renamed (par (all_of ps (all_of qs rs))) f)
    (behind f ps) (ap par (sym (all_of_under f ps (and_tree (par qs) rs))))
    (ap par (sym (all_of_under f ps (all_of qs rs) ∙ ap (all_of Ps) (all_of_under f qs rs))))
    (par_flat Ps Qs Rs)

order_under : (f : ℕ → ℕ) (ks : List ℕ) (l r : Tree) → ParOrder ks l r → ParOrder ks (renamed l f) (renamed r f)
order_under f ks l r (par_order ps qs h) = par_order (all_renamed ps f) (all_renamed qs f) (parts_under f ps qs h)

skip_under : (f : ℕ → ℕ) (ks : List ℕ) (l r : Tree) → ParSkip ks l r → ParSkip ks (renamed l f) (renamed r f)
skip_under f ks l r (par_skip ps qs) =
    let Ps = all_renamed ps f in let Qs = all_renamed qs f in
    these ParSkip (size Ps ∷ []) (size ps ∷ []) (par (all_of Ps (and_tree skip Qs))) (renamed (par (all_of ps (and_tree skip qs))) f)
    (par (all_of Ps Qs)) (renamed (par (all_of ps qs)) f)
    (behind f ps) (ap par (sym (all_of_under f ps (and_tree skip qs)))) (ap par (sym (all_of_under f ps qs))) (par_skip Ps Qs)

stop_under : (f : ℕ → ℕ) (ks : List ℕ) (l r : Tree) → ParStop ks l r → ParStop ks (renamed l f) (renamed r f)
stop_under f ks l r (par_stop p) = par_stop (renamed p f)

assign_under : (f : ℕ → ℕ) (ks : List ℕ) (l r : Tree) → ParAssign ks l r → ParAssign ks (renamed l f) (renamed r f)
assign_under f ks l r (par_assign xs es ps q) = par_assign (renamed_names f xs) (renamed_exps f es) (all_renamed ps f) (renamed q f)

cases_beside_under : (f : ℕ → ℕ) (cs : Cases) (q : Tree) → cases_renamed (each_case_beside cs q) f ≡ each_case_beside (cases_renamed cs f) (renamed q f)
cases_beside_under f no_case q = refl
cases_beside_under f (and_case b p cs) q = ap (and_case (renamed_exp f b) (par (two (renamed p f) (renamed q f)))) (cases_beside_under f cs q)

if_under : (f : ℕ → ℕ) → IsExchange f → (S : List (Name × Kind)) (ks : List ℕ) (l r : Tree) → ParIf S ks l r
    → ParIf (scope_renamed f S) ks (renamed l f) (renamed r f)
if_under f inv S ks l r (par_if cs q few every) =
    let Cs = cases_renamed cs f in let Q = renamed q f in
    subst (λ ds. ParIf (scope_renamed f S) [] (par (two (select Cs) Q)) (select ds)) (sym (cases_beside_under f cs q))
    (par_if Cs Q (subst (AreFew (scope_renamed f S)) (sym (conditions_under f cs)) (few_under f inv S (conditions cs) few))
    (subst (IsExhaustive (environment (scope_renamed f S))) (sym (conditions_under f cs)) (exhaustive_under f inv S (conditions cs) every)))

-- ---- par-expand

first_under : (f : ℕ → ℕ) (ls : Branches) (m : Tree) → branches_renamed (first_goes ls m) f ≡ first_goes (branches_renamed ls f) (renamed m f)
first_under f no_branch m = refl
first_under f (and_branch b w p ls) m = ap (and_branch (renamed_exp f b) (renamed_waiting f w) (par (two (renamed p f) (renamed m f)))) (first_under f ls m)

second_under : (f : ℕ → ℕ) (l : Tree) (ms : Branches) → branches_renamed (second_goes l ms) f ≡ second_goes (renamed l f) (branches_renamed ms f)
second_under f l no_branch = refl
second_under f l (and_branch b w q ms) = ap (and_branch (renamed_exp f b) (renamed_waiting f w) (par (two (renamed l f) (renamed q f)))) (second_under f l ms)

one_meeting : (f : ℕ → ℕ) → IsExchange f → (c d : ℕ) (g rest : Branches)
    → branches_renamed (if c == d then g else rest) f ≡ (if f c == f d then branches_renamed g f else branches_renamed rest f)
one_meeting f inv c d g rest =
    let G = branches_renamed g f in let Rest = branches_renamed rest f in
    pushed (λ hs. branches_renamed hs f) (c == d) g rest G Rest refl refl ∙ ap (λ b. if b then G else Rest) (sym (one_for_one f inv c d))

meeting_under : (f : ℕ → ℕ) → IsExchange f → (b : Exp) (w : Waiting) (p : Tree) (b' : Exp) (w' : Waiting) (q : Tree) (rest : Branches)
    → branches_renamed (meeting b w p b' w' q rest) f
    ≡ meeting (renamed_exp f b) (renamed_waiting f w) (renamed p f) (renamed_exp f b') (renamed_waiting f w') (renamed q f) (branches_renamed rest f)
meeting_under f inv b (output c e) p b' (input d x) q rest = one_meeting f inv c d (and_branch (operation And b b') ready (both_go x e p q) rest) rest
meeting_under f inv b (input d x) p b' (output c e) q rest = one_meeting f inv d c (and_branch (operation And b b') ready (both_go x e p q) rest) rest
meeting_under f inv b (output c e) p b' (output d z) q rest = refl
meeting_under f inv b (output c e) p b' ready q rest = refl
meeting_under f inv b (input d x) p b' (input c y) q rest = refl
meeting_under f inv b (input d x) p b' ready q rest = refl
meeting_under f inv b ready p b' w q rest = refl

meetings_of_under : (f : ℕ → ℕ) → IsExchange f → (b : Exp) (w : Waiting) (p : Tree) (ms rest : Branches)
    → branches_renamed (meetings_of b w p ms rest) f
    ≡ meetings_of (renamed_exp f b) (renamed_waiting f w) (renamed p f) (branches_renamed ms f) (branches_renamed rest f)
meetings_of_under f inv b w p no_branch rest = refl
meetings_of_under f inv b w p (and_branch b' w' q ms) rest =
    meeting_under f inv b w p b' w' q (meetings_of b w p ms rest)
    ∙ ap (meeting (renamed_exp f b) (renamed_waiting f w) (renamed p f) (renamed_exp f b') (renamed_waiting f w') (renamed q f)) (meetings_of_under f inv b w p ms rest)

meetings_under : (f : ℕ → ℕ) → IsExchange f → (ls ms : Branches)
    → branches_renamed (meetings ls ms) f ≡ meetings (branches_renamed ls f) (branches_renamed ms f)
meetings_under f inv no_branch ms = refl
meetings_under f inv (and_branch b w p ls) ms =
    meetings_of_under f inv b w p ms (meetings ls ms)
    ∙ ap (meetings_of (renamed_exp f b) (renamed_waiting f w) (renamed p f) (branches_renamed ms f)) (meetings_under f inv ls ms)

expanded_under : (f : ℕ → ℕ) → IsExchange f → (ls ms : Branches)
    → branches_renamed (expanded ls ms) f ≡ expanded (branches_renamed ls f) (branches_renamed ms f)
expanded_under f inv ls ms =
    let Ls = branches_renamed ls f in let Ms = branches_renamed ms f in
    all_branches_under f (first_goes ls (alt ms)) (all_branches (second_goes (alt ls) ms) (meetings ls ms))
    ∙ (ap (λ z. all_branches z (branches_renamed (all_branches (second_goes (alt ls) ms) (meetings ls ms)) f)) (first_under f ls (alt ms))
    ∙ ap (all_branches (first_goes Ls (alt Ms)))
    (all_branches_under f (second_goes (alt ls) ms) (meetings ls ms)
    ∙ (ap (λ z. all_branches z (branches_renamed (meetings ls ms) f)) (second_under f (alt ls) ms)
    ∙ ap (all_branches (second_goes (alt Ls) Ms)) (meetings_under f inv ls ms))))

expand_under : (f : ℕ → ℕ) → IsExchange f → (ks : List ℕ) (l r : Tree) → ParExpand ks l r → ParExpand ks (renamed l f) (renamed r f)
expand_under f inv ks l r (par_expand ls ms) =
    let Ls = branches_renamed ls f in let Ms = branches_renamed ms f in
    subst (λ gs. ParExpand [] (par (two (alt Ls) (alt Ms))) (alt gs)) (sym (expanded_under f inv ls ms)) (par_expand Ls Ms)

pub parallel_under : (f : ℕ → ℕ) → IsExchange f → (n : ℕ) (S : List (Name × Kind)) (ks : List ℕ) (l r : Tree) → ParallelSides n S ks l r
    → ParallelSides n (scope_renamed f S) ks (renamed l f) (renamed r f)
parallel_under f inv n S ks l r =
    both (n == 37) (none_under f ks l r) (both (n == 38) (one_under f ks l r) (both (n == 39) (flat_under f ks l r)
    (both (n == 40) (order_under f ks l r) (both (n == 41) (skip_under f ks l r) (both (n == 42) (stop_under f ks l r)
    (both (n == 43) (assign_under f ks l r) (both (n == 44) (if_under f inv S ks l r) (both (n == 45) (expand_under f inv ks l r) (λ h. h)))))))))
