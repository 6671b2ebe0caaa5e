-- The laws of SEQ, of assignment, and of communication as choice, where names are exchanged.
use Rattle.occ_replay_rules.specs.occ_base.declared.names.Name.{Name}
use Rattle.occ_renamed.proofs.Lists.{all_of_under, assigned_without_under, each_substituted_under, exps_both, names_both, pairs_under, size_under, substituted_under, values_without_under, variables_under}
use Rattle.occ_renamed.proofs.Names.{and2, is_in_under, some_names_under}
use Rattle.occ_renamed.proofs.States.{branches_equal_under, cases_equal_under, each_under, equal_under}
use Rattle.occ_renamed.specs.Scopes.{scope_renamed}
use Rattle.occ_replay_rules.specs.occ_law.Lists.{size, values_without}
use Rattle.occ_replay_rules.specs.occ_law.Sequence.{AssignAlt, AssignId, AssignIf, AssignJoin, AssignOrder, AssignPad, ExprEqual, IoAlt, SeqAlt, SeqFlat, SeqIf, SeqNone, SeqOne, SeqSkip, SeqStop, SequenceSides, assign_alt, assign_id, assign_if, assign_join, assign_order, assign_pad, assigned_behind, each_assigned, each_branch_before, each_case_before, each_guard_assigned, expr_in_alt, expr_in_assignment, expr_in_if, expr_in_output, input_alt, output_alt, seq_alt, seq_flat, seq_if, seq_none, seq_one, seq_skip, seq_stop, spare_inputs, spares_input, substituted_waiting}
use Rattle.occ_replay_rules.specs.occ_law.States.{IsEqualAlways}
use Rattle.occ_replay_rules.proofs.from_meaning.Facts.{both}
use Rattle.occ_replay_rules.proofs.from_meaning.Renaming.{IsExchange}
use Rattle.occ_replay_rules.specs.occ_meaning.Parallel.{all_of, one, two}
use Rattle.occ_replay_rules.specs.occ_meaning.Rename.{all_renamed, branches_renamed, cases_renamed, renamed, renamed_exp, renamed_exps, renamed_names, renamed_waiting}
use Rattle.occ_replay_rules.specs.occ_meaning.Substitution.{substituted}
use Rattle.occ_replay_rules.specs.occ_syntax.Names.{some_names}
use Rattle.occ_replay_rules.specs.occ_syntax.Tree.{Branches, Cases, Exp, Tree, Trees, Waiting, alt, and_branch, and_case, and_tree, assign, input, no_branch, no_case, output, ready, select, seq, skip, stop, variable}
use Rattle.occ_replay_rules.specs.occ_syntax.declared.scope.Kind.{Kind}
use Rattle.std.proofs.Common.{List, [], ap, not, refl, subst, sym, ℕ, ◌++◌, ◌==◌, ◌∙◌, ◌∷◌, ◌≡◌}

-- two sides that are known under other terms
pub these : (L : List ℕ → Tree → Tree → Type 0) (ks js : List ℕ) (l m r q : Tree) → ks ≡ js → l ≡ m → r ≡ q → L ks l r → L js m q
these L ks js l m r q hk hl hr h = subst (λ z. L js m z) hr (subst (λ z. L js z r) hl (subst (λ z. L z l r) hk h))

none_under : (f : ℕ → ℕ) (ks : List ℕ) (l r : Tree) → SeqNone ks l r → SeqNone ks (renamed l f) (renamed r f)
none_under f ks l r seq_none = seq_none

one_under : (f : ℕ → ℕ) (ks : List ℕ) (l r : Tree) → SeqOne ks l r → SeqOne ks (renamed l f) (renamed r f)
one_under f ks l r (seq_one p) = seq_one (renamed p f)

-- the place behind a list of parts
pub behind : (f : ℕ → ℕ) (ps : Trees) → size (all_renamed ps f) ∷ [] ≡ size ps ∷ []
behind f ps = ap (λ n. n ∷ []) (size_under f ps)

flat_under : (f : ℕ → ℕ) (ks : List ℕ) (l r : Tree) → SeqFlat ks l r → SeqFlat ks (renamed l f) (renamed r f)
flat_under f ks l r (seq_flat ps qs rs) =
    let Ps = all_renamed ps f in let Qs = all_renamed qs f in let Rs = all_renamed rs f in
    these SeqFlat (size Ps ∷ []) (size ps ∷ []) (seq (all_of Ps (and_tree (seq Qs) Rs))) (renamed (seq (all_of ps (and_tree (seq qs) rs))) f)
    (seq (all_of Ps (all_of Qs Rs))) (renamed (seq (all_of ps (all_of qs rs))) f)
    (behind f ps) (ap seq (sym (all_of_under f ps (and_tree (seq qs) rs))))
    (ap seq (sym (all_of_under f ps (all_of qs rs) ∙ ap (all_of Ps) (all_of_under f qs rs))))
    (seq_flat Ps Qs Rs)

skip_under : (f : ℕ → ℕ) (ks : List ℕ) (l r : Tree) → SeqSkip ks l r → SeqSkip ks (renamed l f) (renamed r f)
skip_under f ks l r (seq_skip ps qs) =
    let Ps = all_renamed ps f in let Qs = all_renamed qs f in
    these SeqSkip (size Ps ∷ []) (size ps ∷ []) (seq (all_of Ps (and_tree skip Qs))) (renamed (seq (all_of ps (and_tree skip qs))) f)
    (seq (all_of Ps Qs)) (renamed (seq (all_of ps qs)) f)
    (behind f ps) (ap seq (sym (all_of_under f ps (and_tree skip qs)))) (ap seq (sym (all_of_under f ps qs))) (seq_skip Ps Qs)

stop_under : (f : ℕ → ℕ) (ks : List ℕ) (l r : Tree) → SeqStop ks l r → SeqStop ks (renamed l f) (renamed r f)
stop_under f ks l r (seq_stop ps qs) =
    let Ps = all_renamed ps f in let Qs = all_renamed qs f in
    these SeqStop (size Ps ∷ []) (size ps ∷ []) (seq (all_of Ps (and_tree stop Qs))) (renamed (seq (all_of ps (and_tree stop qs))) f)
    (seq (all_of Ps (one stop))) (renamed (seq (all_of ps (one stop))) f)
    (behind f ps) (ap seq (sym (all_of_under f ps (and_tree stop qs)))) (ap seq (sym (all_of_under f ps (one stop)))) (seq_stop Ps Qs)

id_under : (f : ℕ → ℕ) (ks : List ℕ) (l r : Tree) → AssignId ks l r → AssignId ks (renamed l f) (renamed r f)
id_under f ks l r (assign_id xs) =
    let Xs = renamed_names f xs in
    subst (λ es. AssignId [] (assign Xs es) skip) (sym (variables_under f xs)) (assign_id Xs)

order_under : (f : ℕ → ℕ) (ks : List ℕ) (l r : Tree) → AssignOrder ks l r → AssignOrder ks (renamed l f) (renamed r f)
order_under f ks l r (assign_order xs ys es fs h) =
    assign_order (renamed_names f xs) (renamed_names f ys) (renamed_exps f es) (renamed_exps f fs) (pairs_under f xs es ys fs h)

pad_under : (f : ℕ → ℕ) → IsExchange f → (ks : List ℕ) (l r : Tree) → AssignPad ks l r → AssignPad ks (renamed l f) (renamed r f)
pad_under f inv ks l r (assign_pad xs es y h) =
    let Xs = renamed_names f xs in let Es = renamed_exps f es in
    subst (λ ys. AssignPad [] (assign Xs Es) (assign ys (renamed_exps f (es ++ variable y ∷ [])))) (sym (names_both f xs (y ∷ [])))
    (subst (λ fs. AssignPad [] (assign Xs Es) (assign (Xs ++ f y ∷ []) fs)) (sym (exps_both f es (variable y ∷ [])))
    (assign_pad Xs Es (f y) (is_in_under f inv xs y ∙ h)))

join_under : (f : ℕ → ℕ) → IsExchange f → (ks : List ℕ) (l r : Tree) → AssignJoin ks l r → AssignJoin ks (renamed l f) (renamed r f)
join_under f inv ks l r (assign_join xs es fs) =
    let Xs = renamed_names f xs in let Es = renamed_exps f es in let Fs = renamed_exps f fs in
    subst (λ gs. AssignJoin [] (seq (two (assign Xs Es) (assign Xs Fs))) (assign Xs gs)) (sym (each_substituted_under f inv xs es fs)) (assign_join Xs Es Fs)

-- ---- assignments in front

cases_assigned_under : (f : ℕ → ℕ) → IsExchange f → (xs : List ℕ) (es : List Exp) (cs : Cases)
    → cases_renamed (each_assigned xs es cs) f ≡ each_assigned (renamed_names f xs) (renamed_exps f es) (cases_renamed cs f)
cases_assigned_under f inv xs es no_case = refl
cases_assigned_under f inv xs es (and_case b p cs) =
    let q = seq (two (assign (renamed_names f xs) (renamed_exps f es)) (renamed p f)) in
    ap (λ z. and_case z q (cases_renamed (each_assigned xs es cs) f)) (substituted_under f inv xs es b)
    ∙ ap (and_case (substituted (renamed_names f xs) (renamed_exps f es) (renamed_exp f b)) q) (cases_assigned_under f inv xs es cs)

if_under : (f : ℕ → ℕ) → IsExchange f → (ks : List ℕ) (l r : Tree) → AssignIf ks l r → AssignIf ks (renamed l f) (renamed r f)
if_under f inv ks l r (assign_if xs es cs) =
    let Xs = renamed_names f xs in let Es = renamed_exps f es in let Cs = cases_renamed cs f in
    subst (λ ds. AssignIf [] (seq (two (assign Xs Es) (select Cs))) (select ds)) (sym (cases_assigned_under f inv xs es cs)) (assign_if Xs Es Cs)

waits_under : (f : ℕ → ℕ) → IsExchange f → (xs : List ℕ) (es : List Exp) (w : Waiting)
    → renamed_waiting f (substituted_waiting xs es w) ≡ substituted_waiting (renamed_names f xs) (renamed_exps f es) (renamed_waiting f w)
waits_under f inv xs es ready = refl
waits_under f inv xs es (input c x) = refl
waits_under f inv xs es (output c e) = ap (output (f c)) (substituted_under f inv xs es e)

behind_under : (f : ℕ → ℕ) → IsExchange f → (xs : List ℕ) (es : List Exp) (w : Waiting)
    → renamed (assigned_behind xs es w) f ≡ assigned_behind (renamed_names f xs) (renamed_exps f es) (renamed_waiting f w)
behind_under f inv xs es ready = refl
behind_under f inv xs es (input c x) = assigned_without_under f inv x xs es
behind_under f inv xs es (output c e) = refl

guards_assigned_under : (f : ℕ → ℕ) → IsExchange f → (xs : List ℕ) (es : List Exp) (gs : Branches)
    → branches_renamed (each_guard_assigned xs es gs) f ≡ each_guard_assigned (renamed_names f xs) (renamed_exps f es) (branches_renamed gs f)
guards_assigned_under f inv xs es no_branch = refl
guards_assigned_under f inv xs es (and_branch b w p gs) =
    let Xs = renamed_names f xs in let Es = renamed_exps f es in
    let c = substituted Xs Es (renamed_exp f b) in let v = substituted_waiting Xs Es (renamed_waiting f w) in
    let rest = branches_renamed (each_guard_assigned xs es gs) f in
    ap (λ z. and_branch z (renamed_waiting f (substituted_waiting xs es w)) (seq (two (renamed (assigned_behind xs es w) f) (renamed p f))) rest) (substituted_under f inv xs es b)
    ∙ (ap (λ z. and_branch c z (seq (two (renamed (assigned_behind xs es w) f) (renamed p f))) rest) (waits_under f inv xs es w)
    ∙ (ap (λ z. and_branch c v (seq (two z (renamed p f))) rest) (behind_under f inv xs es w)
    ∙ ap (and_branch c v (seq (two (assigned_behind Xs Es (renamed_waiting f w)) (renamed p f)))) (guards_assigned_under f inv xs es gs)))

spares_under : (f : ℕ → ℕ) → IsExchange f → (xs : List ℕ) (es : List Exp) (w : Waiting)
    → spares_input (renamed_names f xs) (renamed_exps f es) (renamed_waiting f w) ≡ spares_input xs es w
spares_under f inv xs es ready = refl
spares_under f inv xs es (input c x) =
    ap (λ z. not (some_names z (f x))) (sym (values_without_under f inv x xs es)) ∙ ap not (some_names_under f inv (values_without x xs es) x)
spares_under f inv xs es (output c e) = refl

spare_under : (f : ℕ → ℕ) → IsExchange f → (xs : List ℕ) (es : List Exp) (gs : Branches)
    → spare_inputs (renamed_names f xs) (renamed_exps f es) (branches_renamed gs f) ≡ spare_inputs xs es gs
spare_under f inv xs es no_branch = refl
spare_under f inv xs es (and_branch b w p gs) = and2 (spares_under f inv xs es w) (spare_under f inv xs es gs)

alt_under : (f : ℕ → ℕ) → IsExchange f → (ks : List ℕ) (l r : Tree) → AssignAlt ks l r → AssignAlt ks (renamed l f) (renamed r f)
alt_under f inv ks l r (assign_alt xs es gs h) =
    let Xs = renamed_names f xs in let Es = renamed_exps f es in let Gs = branches_renamed gs f in
    subst (λ hs. AssignAlt [] (seq (two (assign Xs Es) (alt Gs))) (alt hs)) (sym (guards_assigned_under f inv xs es gs))
    (assign_alt Xs Es Gs (spare_under f inv xs es gs ∙ h))

-- ---- parts behind

cases_before_under : (f : ℕ → ℕ) (cs : Cases) (qs : Trees)
    → cases_renamed (each_case_before cs qs) f ≡ each_case_before (cases_renamed cs f) (all_renamed qs f)
cases_before_under f no_case qs = refl
cases_before_under f (and_case b p cs) qs =
    ap (and_case (renamed_exp f b) (seq (and_tree (renamed p f) (all_renamed qs f)))) (cases_before_under f cs qs)

branches_before_under : (f : ℕ → ℕ) (gs : Branches) (qs : Trees)
    → branches_renamed (each_branch_before gs qs) f ≡ each_branch_before (branches_renamed gs f) (all_renamed qs f)
branches_before_under f no_branch qs = refl
branches_before_under f (and_branch b w p gs) qs =
    ap (and_branch (renamed_exp f b) (renamed_waiting f w) (seq (and_tree (renamed p f) (all_renamed qs f)))) (branches_before_under f gs qs)

seq_if_under : (f : ℕ → ℕ) (ks : List ℕ) (l r : Tree) → SeqIf ks l r → SeqIf ks (renamed l f) (renamed r f)
seq_if_under f ks l r (seq_if cs qs) =
    let Cs = cases_renamed cs f in let Qs = all_renamed qs f in
    subst (λ ds. SeqIf [] (seq (and_tree (select Cs) Qs)) (select ds)) (sym (cases_before_under f cs qs)) (seq_if Cs Qs)

seq_alt_under : (f : ℕ → ℕ) (ks : List ℕ) (l r : Tree) → SeqAlt ks l r → SeqAlt ks (renamed l f) (renamed r f)
seq_alt_under f ks l r (seq_alt gs qs) =
    let Gs = branches_renamed gs f in let Qs = all_renamed qs f in
    subst (λ hs. SeqAlt [] (seq (and_tree (alt Gs) Qs)) (alt hs)) (sym (branches_before_under f gs qs)) (seq_alt Gs Qs)

expr_under : (f : ℕ → ℕ) → IsExchange f → (S : List (Name × Kind)) (ks : List ℕ) (l r : Tree) → ExprEqual S ks l r
    → ExprEqual (scope_renamed f S) ks (renamed l f) (renamed r f)
expr_under f inv S ks l r (expr_in_assignment xs es fs h) =
    expr_in_assignment (renamed_names f xs) (renamed_exps f es) (renamed_exps f fs)
    (each_under f (IsEqualAlways S) (IsEqualAlways (scope_renamed f S)) (equal_under f inv S) es fs h)
expr_under f inv S ks l r (expr_in_output c d e h) = expr_in_output (f c) (renamed_exp f d) (renamed_exp f e) (equal_under f inv S d e h)
expr_under f inv S ks l r (expr_in_if cs ds h) =
    expr_in_if (cases_renamed cs f) (cases_renamed ds f) (cases_equal_under f (IsEqualAlways S) (IsEqualAlways (scope_renamed f S)) (equal_under f inv S) cs ds h)
expr_under f inv S ks l r (expr_in_alt gs hs h) =
    expr_in_alt (branches_renamed gs f) (branches_renamed hs f)
    (branches_equal_under f (IsEqualAlways S) (IsEqualAlways (scope_renamed f S)) (equal_under f inv S) gs hs h)

io_under : (f : ℕ → ℕ) (ks : List ℕ) (l r : Tree) → IoAlt ks l r → IoAlt ks (renamed l f) (renamed r f)
io_under f ks l r (output_alt c e) = output_alt (f c) (renamed_exp f e)
io_under f ks l r (input_alt c x) = input_alt (f c) (f x)

pub sequence_under : (f : ℕ → ℕ) → IsExchange f → (n : ℕ) (S : List (Name × Kind)) (ks : List ℕ) (l r : Tree) → SequenceSides n S ks l r
    → SequenceSides n (scope_renamed f S) ks (renamed l f) (renamed r f)
sequence_under f inv n S ks l r =
    both (n == 1) (none_under f ks l r) (both (n == 2) (one_under f ks l r) (both (n == 3) (flat_under f ks l r)
    (both (n == 4) (skip_under f ks l r) (both (n == 5) (stop_under f ks l r) (both (n == 6) (id_under f ks l r)
    (both (n == 7) (order_under f ks l r) (both (n == 8) (pad_under f inv ks l r) (both (n == 9) (join_under f inv ks l r)
    (both (n == 10) (if_under f inv ks l r) (both (n == 11) (alt_under f inv ks l r) (both (n == 12) (seq_if_under f ks l r)
    (both (n == 13) (seq_alt_under f ks l r) (both (n == 14) (expr_under f inv S ks l r) (both (n == 15) (io_under f ks l r) (λ h. h)))))))))))))))
