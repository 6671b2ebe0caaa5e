-- The laws of declared variables and channels, where names are exchanged.
use Rattle.occ_replay_rules.specs.occ_base.declared.names.Name.{Name}
use Rattle.occ_replay_rules.specs.occ_base.declared.width.Width.{Width}
use Rattle.occ_replay_rules.specs.occ_base.declared.width.Width.TheVariants.{Bool as TruthValue, Word}
use Rattle.occ_renamed.proofs.Lists.{all_branches_under, assigned_without_under, conditions_under, tally_under, values_without_under}
use Rattle.occ_renamed.proofs.Names.{free_branches_under, free_some_under, free_under, names_under, or2, pushed, some_names_under, stands_under, waiting_under}
use Rattle.occ_renamed.proofs.Sequence.{these}
use Rattle.occ_renamed.proofs.States.{environment_under}
use Rattle.occ_renamed.specs.Scopes.{scope_renamed}
use Rattle.occ_replay_rules.specs.occ_law.Choice.{and_skip}
use Rattle.occ_replay_rules.specs.occ_law.Lists.{all_branches, conditions, tally, values_without}
use Rattle.occ_replay_rules.specs.occ_law.Scope.{ChanAlt, ChanIf, ChanPar, ChanRename, ChanSeq, ChanSwap, ChanUnused, ScopeSides, VarAlt, VarAltInput, VarAny, VarAssign, VarEnd, VarFirst, VarIf, VarLast, VarPar, VarRename, VarSwap, VarUnused, chan_alt, chan_if, chan_par, chan_rename, chan_seq, chan_swap, chan_unused, each_branch_declaring, each_case_connecting, each_case_declaring, each_value, is_on, some_guard_names, swap_variables, swap_with_channel, values_of, var_alt, var_alt_input, var_any, var_assign, var_end, var_first, var_if, var_last, var_par, var_rename, var_unused, without_channel, words_from}
use Rattle.occ_replay_rules.proofs.from_meaning.Facts.{both}
use Rattle.occ_replay_rules.proofs.from_meaning.Renaming.{IsExchange, one_for_one}
use Rattle.occ_renamed.proofs.Composed.{part_both}
use Rattle.occ_replay_rules.specs.occ_meaning.Parallel.{two}
use Rattle.occ_replay_rules.specs.occ_meaning.Rename.{all_renamed, branches_renamed, cases_renamed, renamed, renamed_exp, renamed_exps, renamed_names, renamed_waiting, replacing}
use Rattle.occ_replay_rules.specs.occ_syntax.Names.{some_names}
use Rattle.occ_replay_rules.specs.occ_syntax.Scopes.{environment, variable_kind}
use Rattle.occ_replay_rules.specs.occ_syntax.Tree.{Branches, Cases, Exp, Tree, Waiting, alt, and_branch, and_case, assign, connect, declare, input, no_branch, no_case, numeral, output, ready, select, seq, variable}
use Rattle.occ_replay_rules.specs.occ_syntax.declared.scope.Kind.{Kind}
use Rattle.std.proofs.Common.{List, [], ap, if◌then◌else◌, inl, inr, refl, subst, suc, sym, zero, ℕ, ◌+◌, ◌==◌, ◌^◌, ◌∙◌, ◌∷◌, ◌≡◌, ◌⊎◌}
use mathlib.Core.Path.{fun_ext}

unused_under : (f : ℕ → ℕ) → IsExchange f → (ks : List ℕ) (l r : Tree) → VarUnused ks l r → VarUnused ks (renamed l f) (renamed r f)
unused_under f inv ks l r (var_unused x w p h) = var_unused (f x) w (renamed p f) (free_under p f inv x ∙ h)

swap_under : (f : ℕ → ℕ) (ks : List ℕ) (l r : Tree) → VarSwap ks l r → VarSwap ks (renamed l f) (renamed r f)
swap_under f ks l r (swap_variables x y v w p) = swap_variables (f x) (f y) v w (renamed p f)
swap_under f ks l r (swap_with_channel x c v w p) = swap_with_channel (f x) (f c) v w (renamed p f)

first_under : (f : ℕ → ℕ) → IsExchange f → (ks : List ℕ) (l r : Tree) → VarFirst ks l r → VarFirst ks (renamed l f) (renamed r f)
first_under f inv ks l r (var_first x w p q h) = var_first (f x) w (renamed p f) (renamed q f) (free_under p f inv x ∙ h)

last_under : (f : ℕ → ℕ) → IsExchange f → (ks : List ℕ) (l r : Tree) → VarLast ks l r → VarLast ks (renamed l f) (renamed r f)
last_under f inv ks l r (var_last x w p q h) = var_last (f x) w (renamed p f) (renamed q f) (free_under q f inv x ∙ h)

cases_declaring_under : (f : ℕ → ℕ) (x : ℕ) (w : Width) (cs : Cases)
    → cases_renamed (each_case_declaring x w cs) f ≡ each_case_declaring (f x) w (cases_renamed cs f)
cases_declaring_under f x w no_case = refl
cases_declaring_under f x w (and_case b p cs) = ap (and_case (renamed_exp f b) (declare (f x) w (renamed p f))) (cases_declaring_under f x w cs)

if_under : (f : ℕ → ℕ) → IsExchange f → (ks : List ℕ) (l r : Tree) → VarIf ks l r → VarIf ks (renamed l f) (renamed r f)
if_under f inv ks l r (var_if x w cs h) =
    let Cs = cases_renamed cs f in
    subst (λ ds. VarIf [] (declare (f x) w (select Cs)) (select ds)) (sym (cases_declaring_under f x w cs))
    (var_if (f x) w Cs (ap (λ z. some_names z (f x)) (conditions_under f cs) ∙ (some_names_under f inv (conditions cs) x ∙ h)))

branches_declaring_under : (f : ℕ → ℕ) (x : ℕ) (w : Width) (gs : Branches)
    → branches_renamed (each_branch_declaring x w gs) f ≡ each_branch_declaring (f x) w (branches_renamed gs f)
branches_declaring_under f x w no_branch = refl
branches_declaring_under f x w (and_branch b v p gs) =
    ap (and_branch (renamed_exp f b) (renamed_waiting f v) (declare (f x) w (renamed p f))) (branches_declaring_under f x w gs)

guard_names_under : (f : ℕ → ℕ) → IsExchange f → (gs : Branches) (x : ℕ) → some_guard_names (branches_renamed gs f) (f x) ≡ some_guard_names gs x
guard_names_under f inv no_branch x = refl
guard_names_under f inv (and_branch b w p gs) x = or2 (or2 (names_under f inv b x) (waiting_under f inv w x)) (guard_names_under f inv gs x)

alt_under : (f : ℕ → ℕ) → IsExchange f → (ks : List ℕ) (l r : Tree) → VarAlt ks l r → VarAlt ks (renamed l f) (renamed r f)
alt_under f inv ks l r (var_alt x w gs h) =
    let Gs = branches_renamed gs f in
    subst (λ hs. VarAlt [] (declare (f x) w (alt Gs)) (alt hs)) (sym (branches_declaring_under f x w gs))
    (var_alt (f x) w Gs (guard_names_under f inv gs x ∙ h))

-- what a scope says of a name, where names are exchanged in it
kind_under : (f : ℕ → ℕ) → IsExchange f → (S : List (Name × Kind)) (x : ℕ) → environment (scope_renamed f S) (f x) ≡ environment S x
kind_under f inv S x = ap (λ Γ. Γ (f x)) (environment_under f inv S) ∙ ap (environment S) (inv x)

input_under : (f : ℕ → ℕ) → IsExchange f → (S : List (Name × Kind)) (ks : List ℕ) (l r : Tree) → VarAltInput (environment S) ks l r
    → VarAltInput (environment (scope_renamed f S)) ks (renamed l f) (renamed r f)
input_under f inv S ks l r (var_alt_input z w gs hs b c x p differ width h1 h2 h3 h4) =
    let Gs = branches_renamed gs f in let Hs = branches_renamed hs f in let B = renamed_exp f b in let P = renamed p f in
    let Γ = environment (scope_renamed f S) in
    let left = and_branch b (input c x) p hs in
    let right = and_branch b (input c z) (seq (two (assign (x ∷ []) (variable z ∷ [])) p)) hs in
    these (VarAltInput Γ) (tally Gs ∷ []) (tally gs ∷ [])
    (declare (f z) w (alt (all_branches Gs (and_branch B (input (f c) (f x)) P Hs)))) (renamed (declare z w (alt (all_branches gs left))) f)
    (declare (f z) w (alt (all_branches Gs (and_branch B (input (f c) (f z)) (seq (two (assign (f x ∷ []) (variable (f z) ∷ [])) P)) Hs))))
    (renamed (declare z w (alt (all_branches gs right))) f)
    (ap (λ n. n ∷ []) (tally_under f gs))
    (ap (λ ks. declare (f z) w (alt ks)) (sym (all_branches_under f gs left)))
    (ap (λ ks. declare (f z) w (alt ks)) (sym (all_branches_under f gs right)))
    (var_alt_input (f z) w Gs Hs B (f c) (f x) P (one_for_one f inv x z ∙ differ) (ap variable_kind (kind_under f inv S x) ∙ width)
    (free_branches_under gs f inv z ∙ h1) (names_under f inv b z ∙ h2) (free_under p f inv z ∙ h3) (free_branches_under hs f inv z ∙ h4))

par_under : (f : ℕ → ℕ) → IsExchange f → (ks : List ℕ) (l r : Tree) → VarPar ks l r → VarPar ks (renamed l f) (renamed r f)
par_under f inv ks l r (var_par x w p qs h) = var_par (f x) w (renamed p f) (all_renamed qs f) (free_some_under qs f inv x ∙ h)

words_under : (f : ℕ → ℕ) (bits v n : ℕ) → renamed_exps f (words_from bits v n) ≡ words_from bits v n
words_under f bits v zero = refl
words_under f bits v (suc n) = ap (λ r. numeral bits v ∷ r) (words_under f bits (v + 1) n)

values_under : (f : ℕ → ℕ) (w : Width) → renamed_exps f (values_of w) ≡ values_of w
values_under f TruthValue = refl
values_under f (Word bits) = words_under f bits 0 (2 ^ bits)

each_value_under : (f : ℕ → ℕ) (x : ℕ) (w : Width) (p : Tree) (vs : List Exp)
    → branches_renamed (each_value x w p vs) f ≡ each_value (f x) w (renamed p f) (renamed_exps f vs)
each_value_under f x w p [] = refl
each_value_under f x w p (v ∷ vs) =
    ap (and_skip (declare (f x) w (seq (two (assign (f x ∷ []) (renamed_exp f v ∷ [])) (renamed p f))))) (each_value_under f x w p vs)

any_under : (f : ℕ → ℕ) (ks : List ℕ) (l r : Tree) → VarAny ks l r → VarAny ks (renamed l f) (renamed r f)
any_under f ks l r (var_any x w p) =
    let P = renamed p f in
    subst (λ gs. VarAny [] (declare (f x) w P) (alt gs))
    (sym (each_value_under f x w p (values_of w) ∙ ap (each_value (f x) w P) (values_under f w))) (var_any (f x) w P)

assign_under : (f : ℕ → ℕ) → IsExchange f → (ks : List ℕ) (l r : Tree) → VarAssign ks l r → VarAssign ks (renamed l f) (renamed r f)
assign_under f inv ks l r (var_assign x w ys fs h) =
    let Ys = renamed_names f ys in let Fs = renamed_exps f fs in
    subst (λ q. VarAssign [] (declare (f x) w (assign Ys Fs)) q) (sym (assigned_without_under f inv x ys fs))
    (var_assign (f x) w Ys Fs (ap (λ z. some_names z (f x)) (sym (values_without_under f inv x ys fs)) ∙ (some_names_under f inv (values_without x ys fs) x ∙ h)))

end_under : (f : ℕ → ℕ) → IsExchange f → (ks : List ℕ) (l r : Tree) → VarEnd ks l r → VarEnd ks (renamed l f) (renamed r f)
end_under f inv ks l r (var_end x w p ys fs) =
    let Ys = renamed_names f ys in let Fs = renamed_exps f fs in let P = renamed p f in
    subst (λ q. VarEnd [] (declare (f x) w (seq (two P (assign Ys Fs)))) (declare (f x) w (seq (two P q)))) (sym (assigned_without_under f inv x ys fs))
    (var_end (f x) w P Ys Fs)

-- ---- other names

-- a name replaced, and then names exchanged
replaced_name : (f : ℕ → ℕ) → IsExchange f → (x y n : ℕ) → f (replacing x y n) ≡ replacing (f x) (f y) (f n)
replaced_name f inv x y n =
    pushed f (n == x) y n (f y) (f n) refl refl ∙ ap (λ b. if b then f y else f n) (sym (one_for_one f inv n x))

replaced_under : (f : ℕ → ℕ) → IsExchange f → (x y : ℕ) (p : Tree)
    → renamed (renamed p (replacing x y)) f ≡ renamed (renamed p f) (replacing (f x) (f y))
replaced_under f inv x y p =
    part_both p f (replacing x y)
    ∙ (ap (renamed p) (fun_ext (λ n. replaced_name f inv x y n)) ∙ sym (part_both p (replacing (f x) (f y)) f))

rename_under : (f : ℕ → ℕ) → IsExchange f → (S : List (Name × Kind)) (ks : List ℕ) (l r : Tree) → VarRename (environment S) ks l r
    → VarRename (environment (scope_renamed f S)) ks (renamed l f) (renamed r f)
rename_under f inv S ks l r (var_rename x y w p h free) =
    let P = renamed p f in
    subst (λ q. VarRename (environment (scope_renamed f S)) [] (declare (f x) w P) (declare (f y) w q)) (sym (replaced_under f inv x y p))
    (var_rename (f x) (f y) w P (stands_under p f inv y ∙ h) (kind_under f inv S y ∙ free))

chan_rename_under : (f : ℕ → ℕ) → IsExchange f → (S : List (Name × Kind)) (ks : List ℕ) (l r : Tree) → ChanRename (environment S) ks l r
    → ChanRename (environment (scope_renamed f S)) ks (renamed l f) (renamed r f)
chan_rename_under f inv S ks l r (chan_rename c d w p h free) =
    let P = renamed p f in
    subst (λ q. ChanRename (environment (scope_renamed f S)) [] (connect (f c) w P) (connect (f d) w q)) (sym (replaced_under f inv c d p))
    (chan_rename (f c) (f d) w P (stands_under p f inv d ∙ h) (kind_under f inv S d ∙ free))

-- ---- channels

chan_unused_under : (f : ℕ → ℕ) → IsExchange f → (ks : List ℕ) (l r : Tree) → ChanUnused ks l r → ChanUnused ks (renamed l f) (renamed r f)
chan_unused_under f inv ks l r (chan_unused c w p h) = chan_unused (f c) w (renamed p f) (free_under p f inv c ∙ h)

chan_swap_under : (f : ℕ → ℕ) (ks : List ℕ) (l r : Tree) → ChanSwap ks l r → ChanSwap ks (renamed l f) (renamed r f)
chan_swap_under f ks l r (chan_swap c d v w p) = chan_swap (f c) (f d) v w (renamed p f)

chan_seq_under : (f : ℕ → ℕ) (ks : List ℕ) (l r : Tree) → ChanSeq ks l r → ChanSeq ks (renamed l f) (renamed r f)
chan_seq_under f ks l r (chan_seq c w p q) = chan_seq (f c) w (renamed p f) (renamed q f)

cases_connecting_under : (f : ℕ → ℕ) (c : ℕ) (w : Width) (cs : Cases)
    → cases_renamed (each_case_connecting c w cs) f ≡ each_case_connecting (f c) w (cases_renamed cs f)
cases_connecting_under f c w no_case = refl
cases_connecting_under f c w (and_case b p cs) = ap (and_case (renamed_exp f b) (connect (f c) w (renamed p f))) (cases_connecting_under f c w cs)

chan_if_under : (f : ℕ → ℕ) (ks : List ℕ) (l r : Tree) → ChanIf ks l r → ChanIf ks (renamed l f) (renamed r f)
chan_if_under f ks l r (chan_if c w cs) =
    let Cs = cases_renamed cs f in
    subst (λ ds. ChanIf [] (connect (f c) w (select Cs)) (select ds)) (sym (cases_connecting_under f c w cs)) (chan_if (f c) w Cs)

on_under : (f : ℕ → ℕ) → IsExchange f → (v : Waiting) (c : ℕ) → is_on (renamed_waiting f v) (f c) ≡ is_on v c
on_under f inv ready c = refl
on_under f inv (input d x) c = one_for_one f inv c d
on_under f inv (output d e) c = one_for_one f inv c d

without_under : (f : ℕ → ℕ) → IsExchange f → (c : ℕ) (w : Width) (gs : Branches)
    → branches_renamed (without_channel c w gs) f ≡ without_channel (f c) w (branches_renamed gs f)
without_under f inv c w no_branch = refl
without_under f inv c w (and_branch b v p gs) =
    let rest = without_channel (f c) w (branches_renamed gs f) in
    let kept = and_branch (renamed_exp f b) (renamed_waiting f v) (connect (f c) w (renamed p f)) rest in
    pushed (λ hs. branches_renamed hs f) (is_on v c) (without_channel c w gs) (and_branch b v (connect c w p) (without_channel c w gs)) rest kept
    (without_under f inv c w gs) (ap (and_branch (renamed_exp f b) (renamed_waiting f v) (connect (f c) w (renamed p f))) (without_under f inv c w gs))
    ∙ ap (λ z. if z then rest else kept) (sym (on_under f inv v c))

chan_alt_under : (f : ℕ → ℕ) → IsExchange f → (ks : List ℕ) (l r : Tree) → ChanAlt ks l r → ChanAlt ks (renamed l f) (renamed r f)
chan_alt_under f inv ks l r (chan_alt c w gs) =
    let Gs = branches_renamed gs f in
    subst (λ hs. ChanAlt [] (connect (f c) w (alt Gs)) (alt hs)) (sym (without_under f inv c w gs)) (chan_alt (f c) w Gs)

chan_par_under : (f : ℕ → ℕ) → IsExchange f → (ks : List ℕ) (l r : Tree) → ChanPar ks l r → ChanPar ks (renamed l f) (renamed r f)
chan_par_under f inv ks l r (chan_par c w p qs h) = chan_par (f c) w (renamed p f) (all_renamed qs f) (free_some_under qs f inv c ∙ h)

either_form : (f : ℕ → ℕ) → IsExchange f → (S : List (Name × Kind)) (ks : List ℕ) (l r : Tree) → VarAlt ks l r ⊎ VarAltInput (environment S) ks l r
    → VarAlt ks (renamed l f) (renamed r f) ⊎ VarAltInput (environment (scope_renamed f S)) ks (renamed l f) (renamed r f)
either_form f inv S ks l r (inl h) = inl (alt_under f inv ks l r h)
either_form f inv S ks l r (inr h) = inr (input_under f inv S ks l r h)

pub scope_under : (f : ℕ → ℕ) → IsExchange f → (n : ℕ) (S : List (Name × Kind)) (ks : List ℕ) (l r : Tree) → ScopeSides n S ks l r
    → ScopeSides n (scope_renamed f S) ks (renamed l f) (renamed r f)
scope_under f inv n S ks l r =
    both (n == 46) (unused_under f inv ks l r) (both (n == 47) (rename_under f inv S ks l r) (both (n == 48) (swap_under f ks l r)
    (both (n == 49) (first_under f inv ks l r) (both (n == 50) (last_under f inv ks l r) (both (n == 51) (if_under f inv ks l r)
    (both (n == 52) (either_form f inv S ks l r) (both (n == 53) (par_under f inv ks l r) (both (n == 54) (any_under f ks l r)
    (both (n == 55) (assign_under f inv ks l r) (both (n == 56) (end_under f inv ks l r) (both (n == 57) (chan_unused_under f inv ks l r)
    (both (n == 58) (chan_rename_under f inv S ks l r) (both (n == 59) (chan_swap_under f ks l r) (both (n == 60) (chan_seq_under f ks l r)
    (both (n == 61) (chan_if_under f ks l r) (both (n == 62) (chan_alt_under f inv ks l r) (both (n == 63) (chan_par_under f inv ks l r) (λ h. h))))))))))))))))))
