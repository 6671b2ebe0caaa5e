-- The place of each law's instances: so many lists in front of it as the law's number tells, none longer than the part's.
use Rattle.std.proofs.Common.{◌≡◌, ◌∙◌, ℕ, zero, suc, ◌==◌, ◌≤◌, arith, Bool, true, false, true≢false, MatchBool, List, [], ◌∷◌, nat_le, refl, sym, subst}
use Rattle.std.proofs.lemmas.Bool.{eqb-true}
use Rattle.occ_syntax.specs.occ_base.declared.names.Name.{Name}
use Rattle.occ_syntax.specs.declared.scope.Kind.{Kind}
use Rattle.occ_syntax.specs.Scopes.{Environment, environment}
use Rattle.occ_syntax.specs.Tree.{Branches, Cases, Exp, Tree, Trees, Waiting, and_branch, and_case, and_tree, no_branch, no_case, no_tree}
use Rattle.occ_usage.specs.occ_meaning.Parallel.{all_of}
use Rattle.occ_law_alt.specs.occ_law.Lists.{all_branches, all_cases, count, size, tally}
use Rattle.occ_law_alt.specs.occ_law.RuleTable.{DIRECT_SIDES, SIDES, has_direct}
use Rattle.occ_law_alt.specs.occ_law.Sequence.{assign_alt, assign_id, assign_if, assign_join, assign_order, assign_pad, AssignAlt, AssignId, AssignIf, AssignJoin, AssignOrder, AssignPad, expr_in_alt}
use Rattle.occ_law_alt.specs.occ_law.Sequence.{expr_in_assignment, expr_in_if, expr_in_output, ExprEqual, input_alt, IoAlt, output_alt, seq_alt, seq_flat, seq_if, seq_none, seq_one, seq_skip, seq_stop}
use Rattle.occ_law_alt.specs.occ_law.Sequence.{SeqAlt, SeqFlat, SeqIf, SeqNone, SeqOne, SeqSkip, SeqStop, SequenceSides}
use Rattle.occ_law_alt.specs.occ_law.Choice.{alt_case, alt_false, alt_flat, alt_least, alt_none, alt_order, alt_same, alt_skip, alt_slide, alt_split, alt_twice, AltCase, AltFalse, AltFlat, AltLeast}
use Rattle.occ_law_alt.specs.occ_law.Choice.{AltNone, AltOrder, AltSame, AltSkip, AltSlide, AltSplit, AltTwice, ChoiceSides, if_copy, if_cut, if_else_stop, if_false, if_merge, if_nest, if_none, if_swap}
use Rattle.occ_law_alt.specs.occ_law.Choice.{if_true, IfCopy, IfCut, IfElseStop, IfFalse, IfMerge, IfNest, IfNone, IfSwap, IfTrue, IfUnder, under_alt, under_assignment, under_seq}
use Rattle.occ_law_alt.specs.occ_law.Parallel.{par_assign, par_expand, par_flat, par_if, par_none, par_one, par_order, par_skip, par_stop, ParallelSides, ParAssign, ParExpand, ParFlat, ParIf, ParNone}
use Rattle.occ_law_alt.specs.occ_law.Parallel.{ParOne, ParOrder, ParSkip, ParStop}
use Rattle.occ_law_alt.specs.occ_law.Scope.{chan_alt, chan_if, chan_par, chan_rename, chan_seq, chan_swap, chan_unused, ChanAlt, ChanIf, ChanPar, ChanRename, ChanSeq, ChanSwap, ChanUnused, ScopeSides}
use Rattle.occ_law_alt.specs.occ_law.Scope.{swap_variables, swap_with_channel, var_alt, var_any, var_assign, var_end, var_first, var_if, var_last, var_par, var_rename, var_unused, VarAlt, VarAny}
use Rattle.occ_law_alt.specs.occ_law.Scope.{VarAssign, VarEnd, VarFirst, VarIf, VarLast, VarPar, VarRename, VarSwap, VarUnused}
use Rattle.occ_law_alt.specs.occ_law.Numbers.{lists_of}
use Rattle.occ_law_any.specs.Places.{breadth_of}

-- that many lists stand in front of a place, each no longer than the list of the part
abbrev pub IsPlaced : ℕ → Tree → List ℕ → Type 0
IsPlaced zero l ks = ks ≡ []
IsPlaced (suc zero) l ks = (k : ℕ) × (ks ≡ k ∷ []) × (k ≤ breadth_of l)
IsPlaced (suc (suc m)) l ks = (i : ℕ) × (k : ℕ) × (ks ≡ i ∷ k ∷ []) × (i ≤ breadth_of l) × (k ≤ breadth_of l)

by_case : (b : Bool) {P Q R : Type 0} → (b ≡ true → P → R) → (b ≡ false → Q → R) → MatchBool b P Q → R
by_case true f g h = f refl h
by_case false f g h = g refl h

-- what holds of the number of a law, and else of any other one
at_number : (n k : ℕ) (P : ℕ → Type 0) {X Y : Type 0} → ((n == k) ≡ true → X → P k) → (Y → P n) → MatchBool (n == k) X Y → P n
at_number n k P f g = by_case (n == k) (λ e x. subst P (sym (eqb-true n k e)) (f e x)) (λ e y. g y)

size_front : (ps rest : Trees) → size ps ≤ size (all_of ps rest)
size_front no_tree rest = omega arith
size_front (and_tree p ps) rest = omega (arith, size_front ps rest)

count_front : (cs rest : Cases) → count cs ≤ count (all_cases cs rest)
count_front no_case rest = omega arith
count_front (and_case b p cs) rest = omega (arith, count_front cs rest)

tally_front : (gs rest : Branches) → tally gs ≤ tally (all_branches gs rest)
tally_front no_branch rest = omega arith
tally_front (and_branch b w p gs) rest = omega (arith, tally_front gs rest)

tally_rest : (gs rest : Branches) → tally rest ≤ tally (all_branches gs rest)
tally_rest no_branch rest = omega arith
tally_rest (and_branch b w p gs) rest = omega (arith, tally_rest gs rest)

tally_within : (gs hs : Branches) (b : Exp) (w : Waiting) (p : Tree) (rest : Branches) → tally hs ≤ tally (all_branches gs (and_branch b w p (all_branches hs rest)))
tally_within gs hs b w p rest = omega (arith, tally_front hs rest, tally_rest gs (and_branch b w p (all_branches hs rest)))

seq_none_placed : (ks : List ℕ) (l r : Tree) → SeqNone ks l r → IsPlaced 0 l ks
seq_none_placed ks l r seq_none = refl

seq_one_placed : (ks : List ℕ) (l r : Tree) → SeqOne ks l r → IsPlaced 0 l ks
seq_one_placed ks l r (seq_one p) = refl

seq_flat_placed : (ks : List ℕ) (l r : Tree) → SeqFlat ks l r → IsPlaced 1 l ks
seq_flat_placed ks l r (seq_flat ps qs rs) = (size ps, refl, size_front ps _)

seq_skip_placed : (ks : List ℕ) (l r : Tree) → SeqSkip ks l r → IsPlaced 1 l ks
seq_skip_placed ks l r (seq_skip ps qs) = (size ps, refl, size_front ps _)

seq_stop_placed : (ks : List ℕ) (l r : Tree) → SeqStop ks l r → IsPlaced 1 l ks
seq_stop_placed ks l r (seq_stop ps qs) = (size ps, refl, size_front ps _)

assign_id_placed : (ks : List ℕ) (l r : Tree) → AssignId ks l r → IsPlaced 0 l ks
assign_id_placed ks l r (assign_id xs) = refl

assign_order_placed : (ks : List ℕ) (l r : Tree) → AssignOrder ks l r → IsPlaced 0 l ks
assign_order_placed ks l r (assign_order xs ys es fs h0) = refl

assign_pad_placed : (ks : List ℕ) (l r : Tree) → AssignPad ks l r → IsPlaced 0 l ks
assign_pad_placed ks l r (assign_pad xs es y h0) = refl

assign_join_placed : (ks : List ℕ) (l r : Tree) → AssignJoin ks l r → IsPlaced 0 l ks
assign_join_placed ks l r (assign_join xs es fs) = refl

assign_if_placed : (ks : List ℕ) (l r : Tree) → AssignIf ks l r → IsPlaced 0 l ks
assign_if_placed ks l r (assign_if xs es cs) = refl

assign_alt_placed : (ks : List ℕ) (l r : Tree) → AssignAlt ks l r → IsPlaced 0 l ks
assign_alt_placed ks l r (assign_alt xs es gs h0) = refl

seq_if_placed : (ks : List ℕ) (l r : Tree) → SeqIf ks l r → IsPlaced 0 l ks
seq_if_placed ks l r (seq_if cs qs) = refl

seq_alt_placed : (ks : List ℕ) (l r : Tree) → SeqAlt ks l r → IsPlaced 0 l ks
seq_alt_placed ks l r (seq_alt gs qs) = refl

expr_equal_placed : (S : List (Name × Kind)) (ks : List ℕ) (l r : Tree) → ExprEqual S ks l r → IsPlaced 0 l ks
expr_equal_placed S ks l r (expr_in_assignment xs es fs h0) = refl
expr_equal_placed S ks l r (expr_in_output c e f h0) = refl
expr_equal_placed S ks l r (expr_in_if cs ds h0) = refl
expr_equal_placed S ks l r (expr_in_alt gs hs h0) = refl

io_alt_placed : (ks : List ℕ) (l r : Tree) → IoAlt ks l r → IsPlaced 0 l ks
io_alt_placed ks l r (output_alt c e) = refl
io_alt_placed ks l r (input_alt c x) = refl

if_none_placed : (ks : List ℕ) (l r : Tree) → IfNone ks l r → IsPlaced 0 l ks
if_none_placed ks l r if_none = refl

if_false_placed : (S : List (Name × Kind)) (ks : List ℕ) (l r : Tree) → IfFalse S ks l r → IsPlaced 1 l ks
if_false_placed S ks l r (if_false cs ds b p h0 h1) = (count cs, refl, count_front cs _)

if_true_placed : (S : List (Name × Kind)) (ks : List ℕ) (l r : Tree) → IfTrue S ks l r → IsPlaced 0 l ks
if_true_placed S ks l r (if_true b p ds h0 h1) = refl

if_else_stop_placed : (ks : List ℕ) (l r : Tree) → IfElseStop ks l r → IsPlaced 1 l ks
if_else_stop_placed ks l r (if_else_stop cs) = (count cs, refl, count_front cs _)

if_cut_placed : (S : List (Name × Kind)) (ks : List ℕ) (l r : Tree) → IfCut S ks l r → IsPlaced 1 l ks
if_cut_placed S ks l r (if_cut cs ds h0 h1) = (count cs, refl, count_front cs _)

if_nest_placed : (ks : List ℕ) (l r : Tree) → IfNest ks l r → IsPlaced 1 l ks
if_nest_placed ks l r (if_nest cs es ds b) = (count cs, refl, count_front cs _)

if_swap_placed : (S : List (Name × Kind)) (ks : List ℕ) (l r : Tree) → IfSwap S ks l r → IsPlaced 1 l ks
if_swap_placed S ks l r (if_swap cs ds b c p q h0 h1) = (count cs, refl, count_front cs _)

if_merge_placed : (ks : List ℕ) (l r : Tree) → IfMerge ks l r → IsPlaced 1 l ks
if_merge_placed ks l r (if_merge cs ds b c p) = (count cs, refl, count_front cs _)

if_copy_placed : (S : List (Name × Kind)) (ks : List ℕ) (l r : Tree) → IfCopy S ks l r → IsPlaced 0 l ks
if_copy_placed S ks l r (if_copy p bs h0 h1) = refl

if_under_placed : (S : List (Name × Kind)) (ks : List ℕ) (l r : Tree) → IfUnder S ks l r → IsPlaced 1 l ks
if_under_placed S ks l r (under_assignment cs ds b xs es fs h0) = (count cs, refl, count_front cs _)
if_under_placed S ks l r (under_seq cs ds b xs es fs ps h0) = (count cs, refl, count_front cs _)
if_under_placed S ks l r (under_alt cs ds b gs hs h0) = (count cs, refl, count_front cs _)

alt_none_placed : (ks : List ℕ) (l r : Tree) → AltNone ks l r → IsPlaced 0 l ks
alt_none_placed ks l r alt_none = refl

alt_order_placed : (ks : List ℕ) (l r : Tree) → AltOrder ks l r → IsPlaced 0 l ks
alt_order_placed ks l r (alt_order gs hs h0) = refl

alt_false_placed : (S : List (Name × Kind)) (ks : List ℕ) (l r : Tree) → AltFalse S ks l r → IsPlaced 1 l ks
alt_false_placed S ks l r (alt_false gs hs b w p h0 h1) = (tally gs, refl, tally_front gs _)

alt_twice_placed : (ks : List ℕ) (l r : Tree) → AltTwice ks l r → IsPlaced 2 l ks
alt_twice_placed ks l r (alt_twice gs hs is b w p) = (tally gs, tally hs, refl, tally_front gs _, tally_within gs hs _ _ _ _)

alt_skip_placed : (ks : List ℕ) (l r : Tree) → AltSkip ks l r → IsPlaced 0 l ks
alt_skip_placed ks l r (alt_skip p) = refl

alt_case_placed : (ks : List ℕ) (l r : Tree) → AltCase ks l r → IsPlaced 1 l ks
alt_case_placed ks l r (alt_case gs hs b w p) = (tally gs, refl, tally_front gs _)

alt_flat_placed : (ks : List ℕ) (l r : Tree) → AltFlat ks l r → IsPlaced 1 l ks
alt_flat_placed ks l r (alt_flat gs hs is h0) = (tally gs, refl, tally_front gs _)

alt_split_placed : (ks : List ℕ) (l r : Tree) → AltSplit ks l r → IsPlaced 1 l ks
alt_split_placed ks l r (alt_split gs hs is g p q h0) = (tally gs, refl, tally_front gs _)

alt_same_placed : (ks : List ℕ) (l r : Tree) → AltSame ks l r → IsPlaced 2 l ks
alt_same_placed ks l r (alt_same gs hs is b g p q h0) = (tally gs, tally hs, refl, tally_front gs _, tally_within gs hs _ _ _ _)

alt_slide_placed : (ks : List ℕ) (l r : Tree) → AltSlide ks l r → IsPlaced 1 l ks
alt_slide_placed ks l r (alt_slide gs hs h0) = (tally gs, refl, tally_front gs _)

alt_least_placed : (ks : List ℕ) (l r : Tree) → AltLeast ks l r → IsPlaced 0 l ks
alt_least_placed ks l r (alt_least gs hs h0 h1) = refl

par_none_placed : (ks : List ℕ) (l r : Tree) → ParNone ks l r → IsPlaced 0 l ks
par_none_placed ks l r par_none = refl

par_one_placed : (ks : List ℕ) (l r : Tree) → ParOne ks l r → IsPlaced 0 l ks
par_one_placed ks l r (par_one p) = refl

par_flat_placed : (ks : List ℕ) (l r : Tree) → ParFlat ks l r → IsPlaced 1 l ks
par_flat_placed ks l r (par_flat ps qs rs) = (size ps, refl, size_front ps _)

par_order_placed : (ks : List ℕ) (l r : Tree) → ParOrder ks l r → IsPlaced 0 l ks
par_order_placed ks l r (par_order ps qs h0) = refl

par_skip_placed : (ks : List ℕ) (l r : Tree) → ParSkip ks l r → IsPlaced 1 l ks
par_skip_placed ks l r (par_skip ps qs) = (size ps, refl, size_front ps _)

par_stop_placed : (ks : List ℕ) (l r : Tree) → ParStop ks l r → IsPlaced 0 l ks
par_stop_placed ks l r (par_stop p) = refl

par_assign_placed : (ks : List ℕ) (l r : Tree) → ParAssign ks l r → IsPlaced 0 l ks
par_assign_placed ks l r (par_assign xs es ps q) = refl

par_if_placed : (S : List (Name × Kind)) (ks : List ℕ) (l r : Tree) → ParIf S ks l r → IsPlaced 0 l ks
par_if_placed S ks l r (par_if cs q h0 h1) = refl

par_expand_placed : (ks : List ℕ) (l r : Tree) → ParExpand ks l r → IsPlaced 0 l ks
par_expand_placed ks l r (par_expand ls ms) = refl

var_unused_placed : (ks : List ℕ) (l r : Tree) → VarUnused ks l r → IsPlaced 0 l ks
var_unused_placed ks l r (var_unused x w p h0) = refl

var_rename_placed : (Γ : Environment) (ks : List ℕ) (l r : Tree) → VarRename Γ ks l r → IsPlaced 0 l ks
var_rename_placed Γ ks l r (var_rename x y w p h0 h1) = refl

var_swap_placed : (ks : List ℕ) (l r : Tree) → VarSwap ks l r → IsPlaced 0 l ks
var_swap_placed ks l r (swap_variables x y v w p) = refl
var_swap_placed ks l r (swap_with_channel x c v w p) = refl

var_first_placed : (ks : List ℕ) (l r : Tree) → VarFirst ks l r → IsPlaced 0 l ks
var_first_placed ks l r (var_first x w p q h0) = refl

var_last_placed : (ks : List ℕ) (l r : Tree) → VarLast ks l r → IsPlaced 0 l ks
var_last_placed ks l r (var_last x w p q h0) = refl

var_if_placed : (ks : List ℕ) (l r : Tree) → VarIf ks l r → IsPlaced 0 l ks
var_if_placed ks l r (var_if x w cs h0) = refl

var_alt_placed : (ks : List ℕ) (l r : Tree) → VarAlt ks l r → IsPlaced 0 l ks
var_alt_placed ks l r (var_alt x w gs h0) = refl

var_par_placed : (ks : List ℕ) (l r : Tree) → VarPar ks l r → IsPlaced 0 l ks
var_par_placed ks l r (var_par x w p qs h0) = refl

var_any_placed : (ks : List ℕ) (l r : Tree) → VarAny ks l r → IsPlaced 0 l ks
var_any_placed ks l r (var_any x w p) = refl

var_assign_placed : (ks : List ℕ) (l r : Tree) → VarAssign ks l r → IsPlaced 0 l ks
var_assign_placed ks l r (var_assign x w ys fs h0) = refl

var_end_placed : (ks : List ℕ) (l r : Tree) → VarEnd ks l r → IsPlaced 0 l ks
var_end_placed ks l r (var_end x w p ys fs) = refl

chan_unused_placed : (ks : List ℕ) (l r : Tree) → ChanUnused ks l r → IsPlaced 0 l ks
chan_unused_placed ks l r (chan_unused c w p h0) = refl

chan_rename_placed : (Γ : Environment) (ks : List ℕ) (l r : Tree) → ChanRename Γ ks l r → IsPlaced 0 l ks
chan_rename_placed Γ ks l r (chan_rename c d w p h0 h1) = refl

chan_swap_placed : (ks : List ℕ) (l r : Tree) → ChanSwap ks l r → IsPlaced 0 l ks
chan_swap_placed ks l r (chan_swap c d v w p) = refl

chan_seq_placed : (ks : List ℕ) (l r : Tree) → ChanSeq ks l r → IsPlaced 0 l ks
chan_seq_placed ks l r (chan_seq c w p q) = refl

chan_if_placed : (ks : List ℕ) (l r : Tree) → ChanIf ks l r → IsPlaced 0 l ks
chan_if_placed ks l r (chan_if c w cs) = refl

chan_alt_placed : (ks : List ℕ) (l r : Tree) → ChanAlt ks l r → IsPlaced 0 l ks
chan_alt_placed ks l r (chan_alt c w gs) = refl

chan_par_placed : (ks : List ℕ) (l r : Tree) → ChanPar ks l r → IsPlaced 0 l ks
chan_par_placed ks l r (chan_par c w p qs h0) = refl

sequence_placed : (n : ℕ) (S : List (Name × Kind)) (ks : List ℕ) (l r : Tree) → SequenceSides n S ks l r → IsPlaced (lists_of n) l ks
sequence_placed n S ks l r =
    (at_number n 1 (λ m. IsPlaced (lists_of m) l ks) (λ e. seq_none_placed ks l r)
    (at_number n 2 (λ m. IsPlaced (lists_of m) l ks) (λ e. seq_one_placed ks l r)
    (at_number n 3 (λ m. IsPlaced (lists_of m) l ks) (λ e. seq_flat_placed ks l r)
    (at_number n 4 (λ m. IsPlaced (lists_of m) l ks) (λ e. seq_skip_placed ks l r)
    (at_number n 5 (λ m. IsPlaced (lists_of m) l ks) (λ e. seq_stop_placed ks l r)
    (at_number n 6 (λ m. IsPlaced (lists_of m) l ks) (λ e. assign_id_placed ks l r)
    (at_number n 7 (λ m. IsPlaced (lists_of m) l ks) (λ e. assign_order_placed ks l r)
    (at_number n 8 (λ m. IsPlaced (lists_of m) l ks) (λ e. assign_pad_placed ks l r)
    (at_number n 9 (λ m. IsPlaced (lists_of m) l ks) (λ e. assign_join_placed ks l r)
    (at_number n 10 (λ m. IsPlaced (lists_of m) l ks) (λ e. assign_if_placed ks l r)
    (at_number n 11 (λ m. IsPlaced (lists_of m) l ks) (λ e. assign_alt_placed ks l r)
    (at_number n 12 (λ m. IsPlaced (lists_of m) l ks) (λ e. seq_if_placed ks l r)
    (at_number n 13 (λ m. IsPlaced (lists_of m) l ks) (λ e. seq_alt_placed ks l r)
    (at_number n 14 (λ m. IsPlaced (lists_of m) l ks) (λ e. expr_equal_placed S ks l r)
    (at_number n 15 (λ m. IsPlaced (lists_of m) l ks) (λ e. io_alt_placed ks l r)
    (λ z. absurd z))))))))))))))))

choice_placed : (n : ℕ) (S : List (Name × Kind)) (ks : List ℕ) (l r : Tree) → ChoiceSides n S ks l r → IsPlaced (lists_of n) l ks
choice_placed n S ks l r =
    (at_number n 16 (λ m. IsPlaced (lists_of m) l ks) (λ e. if_none_placed ks l r)
    (at_number n 17 (λ m. IsPlaced (lists_of m) l ks) (λ e. if_false_placed S ks l r)
    (at_number n 18 (λ m. IsPlaced (lists_of m) l ks) (λ e. if_true_placed S ks l r)
    (at_number n 19 (λ m. IsPlaced (lists_of m) l ks) (λ e. if_else_stop_placed ks l r)
    (at_number n 20 (λ m. IsPlaced (lists_of m) l ks) (λ e. if_cut_placed S ks l r)
    (at_number n 21 (λ m. IsPlaced (lists_of m) l ks) (λ e. if_nest_placed ks l r)
    (at_number n 22 (λ m. IsPlaced (lists_of m) l ks) (λ e. if_swap_placed S ks l r)
    (at_number n 23 (λ m. IsPlaced (lists_of m) l ks) (λ e. if_merge_placed ks l r)
    (at_number n 24 (λ m. IsPlaced (lists_of m) l ks) (λ e. if_copy_placed S ks l r)
    (at_number n 25 (λ m. IsPlaced (lists_of m) l ks) (λ e. if_under_placed S ks l r)
    (at_number n 26 (λ m. IsPlaced (lists_of m) l ks) (λ e. alt_none_placed ks l r)
    (at_number n 27 (λ m. IsPlaced (lists_of m) l ks) (λ e. alt_order_placed ks l r)
    (at_number n 28 (λ m. IsPlaced (lists_of m) l ks) (λ e. alt_false_placed S ks l r)
    (at_number n 29 (λ m. IsPlaced (lists_of m) l ks) (λ e. alt_twice_placed ks l r)
    (at_number n 30 (λ m. IsPlaced (lists_of m) l ks) (λ e. alt_skip_placed ks l r)
    (at_number n 31 (λ m. IsPlaced (lists_of m) l ks) (λ e. alt_case_placed ks l r)
    (at_number n 32 (λ m. IsPlaced (lists_of m) l ks) (λ e. alt_flat_placed ks l r)
    (at_number n 33 (λ m. IsPlaced (lists_of m) l ks) (λ e. alt_split_placed ks l r)
    (at_number n 34 (λ m. IsPlaced (lists_of m) l ks) (λ e. alt_same_placed ks l r)
    (at_number n 35 (λ m. IsPlaced (lists_of m) l ks) (λ e. alt_slide_placed ks l r)
    (at_number n 36 (λ m. IsPlaced (lists_of m) l ks) (λ e. alt_least_placed ks l r)
    (λ z. absurd z))))))))))))))))))))))

parallel_placed : (n : ℕ) (S : List (Name × Kind)) (ks : List ℕ) (l r : Tree) → ParallelSides n S ks l r → IsPlaced (lists_of n) l ks
parallel_placed n S ks l r =
    (at_number n 37 (λ m. IsPlaced (lists_of m) l ks) (λ e. par_none_placed ks l r)
    (at_number n 38 (λ m. IsPlaced (lists_of m) l ks) (λ e. par_one_placed ks l r)
    (at_number n 39 (λ m. IsPlaced (lists_of m) l ks) (λ e. par_flat_placed ks l r)
    (at_number n 40 (λ m. IsPlaced (lists_of m) l ks) (λ e. par_order_placed ks l r)
    (at_number n 41 (λ m. IsPlaced (lists_of m) l ks) (λ e. par_skip_placed ks l r)
    (at_number n 42 (λ m. IsPlaced (lists_of m) l ks) (λ e. par_stop_placed ks l r)
    (at_number n 43 (λ m. IsPlaced (lists_of m) l ks) (λ e. par_assign_placed ks l r)
    (at_number n 44 (λ m. IsPlaced (lists_of m) l ks) (λ e. par_if_placed S ks l r)
    (at_number n 45 (λ m. IsPlaced (lists_of m) l ks) (λ e. par_expand_placed ks l r)
    (λ z. absurd z))))))))))

scope_placed : (n : ℕ) (S : List (Name × Kind)) (ks : List ℕ) (l r : Tree) → (n == 52) ≡ false → ScopeSides n S ks l r → IsPlaced (lists_of n) l ks
scope_placed n S ks l r other =
    (at_number n 46 (λ m. IsPlaced (lists_of m) l ks) (λ e. var_unused_placed ks l r)
    (at_number n 47 (λ m. IsPlaced (lists_of m) l ks) (λ e. var_rename_placed (environment S) ks l r)
    (at_number n 48 (λ m. IsPlaced (lists_of m) l ks) (λ e. var_swap_placed ks l r)
    (at_number n 49 (λ m. IsPlaced (lists_of m) l ks) (λ e. var_first_placed ks l r)
    (at_number n 50 (λ m. IsPlaced (lists_of m) l ks) (λ e. var_last_placed ks l r)
    (at_number n 51 (λ m. IsPlaced (lists_of m) l ks) (λ e. var_if_placed ks l r)
    (at_number n 52 (λ m. IsPlaced (lists_of m) l ks) (λ e x. absurd (true≢false (sym e ∙ other)))
    (at_number n 53 (λ m. IsPlaced (lists_of m) l ks) (λ e. var_par_placed ks l r)
    (at_number n 54 (λ m. IsPlaced (lists_of m) l ks) (λ e. var_any_placed ks l r)
    (at_number n 55 (λ m. IsPlaced (lists_of m) l ks) (λ e. var_assign_placed ks l r)
    (at_number n 56 (λ m. IsPlaced (lists_of m) l ks) (λ e. var_end_placed ks l r)
    (at_number n 57 (λ m. IsPlaced (lists_of m) l ks) (λ e. chan_unused_placed ks l r)
    (at_number n 58 (λ m. IsPlaced (lists_of m) l ks) (λ e. chan_rename_placed (environment S) ks l r)
    (at_number n 59 (λ m. IsPlaced (lists_of m) l ks) (λ e. chan_swap_placed ks l r)
    (at_number n 60 (λ m. IsPlaced (lists_of m) l ks) (λ e. chan_seq_placed ks l r)
    (at_number n 61 (λ m. IsPlaced (lists_of m) l ks) (λ e. chan_if_placed ks l r)
    (at_number n 62 (λ m. IsPlaced (lists_of m) l ks) (λ e. chan_alt_placed ks l r)
    (at_number n 63 (λ m. IsPlaced (lists_of m) l ks) (λ e. chan_par_placed ks l r)
    (λ z. absurd z)))))))))))))))))))

sides_placed : (n : ℕ) (S : List (Name × Kind)) (ks : List ℕ) (l r : Tree) → (n == 52) ≡ false → SIDES n S ks l r → IsPlaced (lists_of n) l ks
sides_placed n S ks l r other =
    by_case (nat_le n 15) (λ e. sequence_placed n S ks l r) (λ e. by_case (nat_le n 36) (λ e. choice_placed n S ks l r)
    (λ f. by_case (nat_le n 45) (λ e. parallel_placed n S ks l r) (λ e. scope_placed n S ks l r other)))

-- the place of an instance from which a direct result is taken
pub placed : (n : ℕ) (S : List (Name × Kind)) (ks : List ℕ) (l r : Tree) → DIRECT_SIDES n S ks l r → IsPlaced (lists_of n) l ks
placed n S ks l r =
    by_case (has_direct n) (λ e. by_case (n == 52) (λ f x. subst (λ m. IsPlaced (lists_of m) l ks) (sym (eqb-true n 52 f)) (var_alt_placed ks l r x)) (λ other. sides_placed n S ks l r other))
    (λ e z. absurd z)
