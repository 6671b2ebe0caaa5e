-- The laws of declared names: what they make of a left side that is known.
use Rattle.std.proofs.Common.{◌≡◌, ℕ, false, List, [], Option, None, Some, Result, IfOk, refl, ap, sym, ◌∙◌}
use Rattle.occ_syntax.specs.occ_base.declared.memory.Memory.{Memory}
use Rattle.occ_syntax.specs.occ_base.declared.width.Width.{Width}
use Rattle.occ_law_seq.specs.occ_law.Instances.{IsOnly}
use Rattle.occ_law_right.proofs.Only.{only_some, only_under, only_where}
use Rattle.occ_law_right.specs.Where.{InFirst, in_first, IsWhere}
use Rattle.occ_law_seq.specs.occ_law.Lists.{assigned_without, conditions, values_without}
use Rattle.occ_law_seq.specs.occ_law.Scope.{ChanAlt, chan_alt, ChanIf, chan_if, ChanPar, chan_par, ChanSeq, chan_seq, ChanSwap, chan_swap, ChanUnused, chan_unused}
use Rattle.occ_law_seq.specs.occ_law.Scope.{VarAlt, var_alt, VarAny, var_any, VarAssign, var_assign, VarEnd, var_end, VarFirst, var_first, VarIf, var_if, VarLast, var_last, VarPar, var_par, VarSwap, swap_variables, swap_with_channel, VarUnused, var_unused}
use Rattle.occ_law_seq.specs.occ_law.Scope.{each_branch_declaring, each_case_connecting, each_case_declaring, each_value, some_guard_names, values_of, without_channel}
use Rattle.occ_law_seq.specs.occ_law_shape.Pieces.{each_branch, each_choice}
use Rattle.occ_law_scope.specs.occ_meaning.Parallel.{two}
use Rattle.occ_syntax.specs.Declarations.{declaring}
use Rattle.occ_syntax.specs.declared.proc.Proc.{Proc}
use Rattle.occ_syntax.specs.declared.scope.Kind.{Kind}
use Rattle.occ_syntax.specs.declared.scope.Kind.TheVariants.{Var, Chan}
use Rattle.occ_syntax.specs.Names.{free, free_in_some, some_names}
use Rattle.occ_syntax.specs.Tree.{Exp, Tree, assign, seq, par, select, alt, declare, connect, Trees, and_tree, Cases, no_case, and_case, Branches, no_branch, and_branch}
use Rattle.occ_syntax.specs.View.{tree}

-- ---- var-unused and chan-unused

unused_variable : (x : ℕ) (w : Width) (p r : Tree) → VarUnused [] (declare x w p) r → (free p x ≡ false) × (r ≡ p)
unused_variable x w p r (var_unused y v q h) = (h, refl)

pub var_unused_only : (l p : Tree) (x : ℕ) (w : Width) (result : Result (Option Proc) Memory) → declare x w p ≡ l → IfOk result (IsWhere (free p x ≡ false) p)
    → IfOk result (IsOnly (VarUnused []) l)
var_unused_only l p x w result e h = only_where (VarUnused []) (declare x w p) l p result e h (var_unused x w p) (unused_variable x w p)

unused_channel : (c : ℕ) (w : Width) (p r : Tree) → ChanUnused [] (connect c w p) r → (free p c ≡ false) × (r ≡ p)
unused_channel c w p r (chan_unused d v q h) = (h, refl)

pub chan_unused_only : (l p : Tree) (c : ℕ) (w : Width) (result : Result (Option Proc) Memory) → connect c w p ≡ l → IfOk result (IsWhere (free p c ≡ false) p)
    → IfOk result (IsOnly (ChanUnused []) l)
chan_unused_only l p c w result e h = only_where (ChanUnused []) (connect c w p) l p result e h (chan_unused c w p) (unused_channel c w p)

-- ---- var-swap and chan-swap

var_swap_to : (x : ℕ) (v : Width) (y : ℕ) (k : Kind) (p : Tree) → VarSwap [] (declare x v (declaring y k p)) (declaring y k (declare x v p))
var_swap_to x v y (Var w) p = swap_variables x y v w p
var_swap_to x v c (Chan w d) p = swap_with_channel x c v w p

var_swap_back : (x : ℕ) (v : Width) (y : ℕ) (k : Kind) (p r : Tree) → VarSwap [] (declare x v (declaring y k p)) r → r ≡ declaring y k (declare x v p)
var_swap_back x v y (Var w) p r (swap_variables a b c d q) = refl
var_swap_back x v y (Chan w t) p r (swap_with_channel a b c d q) = refl

pub var_swap_only : (l b p : Tree) (x : ℕ) (v : Width) (y : ℕ) (k : Kind) (found : Proc) → declare x v b ≡ l → b ≡ declaring y k p → tree found ≡ declaring y k (declare x v p)
    → IsOnly (VarSwap []) l (Some found)
var_swap_only l b p x v y k found e f made =
    only_some (VarSwap []) (declare x v (declaring y k p)) l (declaring y k (declare x v p)) found (sym (ap (declare x v) f) ∙ e) made (var_swap_to x v y k p) (var_swap_back x v y k p)

chan_swap_back : (c d : ℕ) (v w : Width) (p r : Tree) → ChanSwap [] (connect c v (connect d w p)) r → r ≡ connect d w (connect c v p)
chan_swap_back c d v w p r (chan_swap a b t u q) = refl

pub chan_swap_only : (l b p : Tree) (c d : ℕ) (v w : Width) (found : Proc) → connect c v b ≡ l → connect d w p ≡ b → tree found ≡ connect d w (connect c v p)
    → IsOnly (ChanSwap []) l (Some found)
chan_swap_only l b p c d v w found e f made =
    only_some (ChanSwap []) (connect c v (connect d w p)) l (connect d w (connect c v p)) found (ap (connect c v) f ∙ e) made (chan_swap c d v w p) (chan_swap_back c d v w p)

-- ---- var-first, var-last and chan-seq

var_first_back : (x : ℕ) (w : Width) (p q r : Tree) → VarFirst [] (declare x w (seq (two p q))) r → (free p x ≡ false) × (r ≡ seq (two p (declare x w q)))
var_first_back x w p q r (var_first y v a b h) = (h, refl)

pub var_first_only : (l b p q : Tree) (ps : Trees) (x : ℕ) (w : Width) (result : Result (Option Proc) Memory) → declare x w b ≡ l → seq ps ≡ b → ps ≡ two p q
    → IfOk result (IsWhere (free p x ≡ false) (seq (two p (declare x w q)))) → IfOk result (IsOnly (VarFirst []) l)
var_first_only l b p q ps x w result e f g h =
    only_where (VarFirst []) (declare x w (seq (two p q))) l (seq (two p (declare x w q))) result (ap (λ z. declare x w (seq z)) (sym g) ∙ ap (declare x w) f ∙ e) h
    (var_first x w p q) (var_first_back x w p q)

var_last_back : (x : ℕ) (w : Width) (p q r : Tree) → VarLast [] (declare x w (seq (two p q))) r → (free q x ≡ false) × (r ≡ seq (two (declare x w p) q))
var_last_back x w p q r (var_last y v a b h) = (h, refl)

pub var_last_only : (l b p q : Tree) (ps : Trees) (x : ℕ) (w : Width) (result : Result (Option Proc) Memory) → declare x w b ≡ l → seq ps ≡ b → ps ≡ two p q
    → IfOk result (IsWhere (free q x ≡ false) (seq (two (declare x w p) q))) → IfOk result (IsOnly (VarLast []) l)
var_last_only l b p q ps x w result e f g h =
    only_where (VarLast []) (declare x w (seq (two p q))) l (seq (two (declare x w p) q)) result (ap (λ z. declare x w (seq z)) (sym g) ∙ ap (declare x w) f ∙ e) h
    (var_last x w p q) (var_last_back x w p q)

chan_seq_back : (c : ℕ) (w : Width) (p q r : Tree) → ChanSeq [] (connect c w (seq (two p q))) r → r ≡ seq (two (connect c w p) (connect c w q))
chan_seq_back c w p q r (chan_seq d v a b) = refl

pub chan_seq_only : (l b p q s t : Tree) (ps : Trees) (c : ℕ) (w : Width) (found : Proc) → connect c w b ≡ l → seq ps ≡ b → ps ≡ two p q
    → s ≡ connect c w p → t ≡ connect c w q → tree found ≡ seq (two s t) → IsOnly (ChanSeq []) l (Some found)
chan_seq_only l b p q s t ps c w found e f g h k made =
    only_some (ChanSeq []) (connect c w (seq (two p q))) l (seq (two (connect c w p) (connect c w q))) found (ap (λ z. connect c w (seq z)) (sym g) ∙ ap (connect c w) f ∙ e)
    (made ∙ ap (λ z. seq (two z t)) h ∙ ap (λ z. seq (two (connect c w p) z)) k) (chan_seq c w p q) (chan_seq_back c w p q)

-- ---- var-par and chan-par

in_first_back : (x : ℕ) (k : Kind) (p : Tree) (qs : Trees) (r : Tree) → InFirst x k (par (and_tree p qs)) r → (free_in_some qs x ≡ false) × (r ≡ par (and_tree (declaring x k p) qs))
in_first_back x k p qs r (in_first q rs h) = (h, refl)

pub in_first_only : (l p q : Tree) (ps qs : Trees) (x : ℕ) (k : Kind) (found : Proc) → par ps ≡ l → ps ≡ and_tree p qs → free_in_some qs x ≡ false
    → q ≡ declaring x k p → tree found ≡ par (and_tree q qs) → IsOnly (InFirst x k) l (Some found)
in_first_only l p q ps qs x k found e f spared g made =
    only_some (InFirst x k) (par (and_tree p qs)) l (par (and_tree (declaring x k p) qs)) found (ap par (sym f) ∙ e) (made ∙ ap (λ z. par (and_tree z qs)) g)
    (in_first p qs spared) (λ r d. (in_first_back x k p qs r d).1)

var_par_to : (x : ℕ) (w : Width) (b r : Tree) → InFirst x (Var w) b r → VarPar [] (declare x w b) r
var_par_to x w b r (in_first p qs h) = var_par x w p qs h

var_par_back : (x : ℕ) (w : Width) (b r : Tree) → VarPar [] (declare x w b) r → InFirst x (Var w) b r
var_par_back x w b r (var_par y v p qs h) = in_first p qs h

pub var_par_only : (l b : Tree) (x : ℕ) (w : Width) (result : Result (Option Proc) Memory) → declare x w b ≡ l → IfOk result (IsOnly (InFirst x (Var w)) b)
    → IfOk result (IsOnly (VarPar []) l)
var_par_only l b x w result e h = only_under (InFirst x (Var w)) (VarPar []) (declare x w b) b l result e h (var_par_to x w b) (var_par_back x w b)

chan_par_to : (c : ℕ) (w : Width) (b r : Tree) → InFirst c (Chan w None) b r → ChanPar [] (connect c w b) r
chan_par_to c w b r (in_first p qs h) = chan_par c w p qs h

chan_par_back : (c : ℕ) (w : Width) (b r : Tree) → ChanPar [] (connect c w b) r → InFirst c (Chan w None) b r
chan_par_back c w b r (chan_par d v p qs h) = in_first p qs h

pub chan_par_only : (l b : Tree) (c : ℕ) (w : Width) (result : Result (Option Proc) Memory) → connect c w b ≡ l → IfOk result (IsOnly (InFirst c (Chan w None)) b)
    → IfOk result (IsOnly (ChanPar []) l)
chan_par_only l b c w result e h = only_under (InFirst c (Chan w None)) (ChanPar []) (connect c w b) b l result e h (chan_par_to c w b) (chan_par_back c w b)

-- ---- var-if and chan-if

cases_declaring : (x : ℕ) (w : Width) (cs : Cases) → each_choice (λ b. b) (declaring x (Var w)) cs ≡ each_case_declaring x w cs
cases_declaring x w no_case = refl
cases_declaring x w (and_case b p cs) = ap (and_case b (declare x w p)) (cases_declaring x w cs)

var_if_back : (x : ℕ) (w : Width) (cs : Cases) (r : Tree) → VarIf [] (declare x w (select cs)) r → r ≡ select (each_case_declaring x w cs)
var_if_back x w cs r (var_if y v ds h) = refl

pub var_if_only : (l b : Tree) (x : ℕ) (w : Width) (cs : Cases) (found : Proc) → declare x w b ≡ l → select cs ≡ b → some_names (conditions cs) x ≡ false
    → tree found ≡ select (each_choice (λ e. e) (declaring x (Var w)) cs) → IsOnly (VarIf []) l (Some found)
var_if_only l b x w cs found e f spared made =
    only_some (VarIf []) (declare x w (select cs)) l (select (each_case_declaring x w cs)) found (ap (declare x w) f ∙ e) (made ∙ ap select (cases_declaring x w cs))
    (var_if x w cs spared) (var_if_back x w cs)

cases_connecting : (c : ℕ) (w : Width) (cs : Cases) → each_choice (λ b. b) (declaring c (Chan w None)) cs ≡ each_case_connecting c w cs
cases_connecting c w no_case = refl
cases_connecting c w (and_case b p cs) = ap (and_case b (connect c w p)) (cases_connecting c w cs)

chan_if_back : (c : ℕ) (w : Width) (cs : Cases) (r : Tree) → ChanIf [] (connect c w (select cs)) r → r ≡ select (each_case_connecting c w cs)
chan_if_back c w cs r (chan_if d v ds) = refl

pub chan_if_only : (l b : Tree) (c : ℕ) (w : Width) (cs : Cases) (found : Proc) → connect c w b ≡ l → select cs ≡ b
    → tree found ≡ select (each_choice (λ e. e) (declaring c (Chan w None)) cs) → IsOnly (ChanIf []) l (Some found)
chan_if_only l b c w cs found e f made =
    only_some (ChanIf []) (connect c w (select cs)) l (select (each_case_connecting c w cs)) found (ap (connect c w) f ∙ e) (made ∙ ap select (cases_connecting c w cs))
    (chan_if c w cs) (chan_if_back c w cs)

-- ---- var-alt and chan-alt

branches_declaring : (x : ℕ) (w : Width) (gs : Branches) → each_branch (λ b. b) (λ v. v) (λ v p. declaring x (Var w) p) gs ≡ each_branch_declaring x w gs
branches_declaring x w no_branch = refl
branches_declaring x w (and_branch b v p gs) = ap (and_branch b v (declare x w p)) (branches_declaring x w gs)

var_alt_back : (x : ℕ) (w : Width) (gs : Branches) (r : Tree) → VarAlt [] (declare x w (alt gs)) r → r ≡ alt (each_branch_declaring x w gs)
var_alt_back x w gs r (var_alt y v hs h) = refl

pub var_alt_only : (l b : Tree) (x : ℕ) (w : Width) (gs : Branches) (found : Proc) → declare x w b ≡ l → alt gs ≡ b → some_guard_names gs x ≡ false
    → tree found ≡ alt (each_branch (λ e. e) (λ v. v) (λ v p. declaring x (Var w) p) gs) → IsOnly (VarAlt []) l (Some found)
var_alt_only l b x w gs found e f spared made =
    only_some (VarAlt []) (declare x w (alt gs)) l (alt (each_branch_declaring x w gs)) found (ap (declare x w) f ∙ e) (made ∙ ap alt (branches_declaring x w gs))
    (var_alt x w gs spared) (var_alt_back x w gs)

chan_alt_back : (c : ℕ) (w : Width) (gs : Branches) (r : Tree) → ChanAlt [] (connect c w (alt gs)) r → r ≡ alt (without_channel c w gs)
chan_alt_back c w gs r (chan_alt d v hs) = refl

pub chan_alt_only : (l b : Tree) (c : ℕ) (w : Width) (gs : Branches) (found : Proc) → connect c w b ≡ l → alt gs ≡ b → tree found ≡ alt (without_channel c w gs)
    → IsOnly (ChanAlt []) l (Some found)
chan_alt_only l b c w gs found e f made =
    only_some (ChanAlt []) (connect c w (alt gs)) l (alt (without_channel c w gs)) found (ap (connect c w) f ∙ e) made (chan_alt c w gs) (chan_alt_back c w gs)

-- ---- var-any

var_any_back : (x : ℕ) (w : Width) (p r : Tree) → VarAny [] (declare x w p) r → r ≡ alt (each_value x w p (values_of w))
var_any_back x w p r (var_any y v q) = refl

pub var_any_only : (l p : Tree) (x : ℕ) (w : Width) (found : Proc) → declare x w p ≡ l → tree found ≡ alt (each_value x w p (values_of w)) → IsOnly (VarAny []) l (Some found)
var_any_only l p x w found e made = only_some (VarAny []) (declare x w p) l (alt (each_value x w p (values_of w))) found e made (var_any x w p) (var_any_back x w p)

-- ---- var-assign and var-end

var_assign_back : (x : ℕ) (w : Width) (ys : List ℕ) (fs : List Exp) (r : Tree) → VarAssign [] (declare x w (assign ys fs)) r → r ≡ assigned_without x ys fs
var_assign_back x w ys fs r (var_assign y v zs gs h) = refl

pub var_assign_only : (l b : Tree) (x : ℕ) (w : Width) (ys : List ℕ) (fs : List Exp) (found : Proc) → declare x w b ≡ l → assign ys fs ≡ b → some_names (values_without x ys fs) x ≡ false
    → tree found ≡ assigned_without x ys fs → IsOnly (VarAssign []) l (Some found)
var_assign_only l b x w ys fs found e f spared made =
    only_some (VarAssign []) (declare x w (assign ys fs)) l (assigned_without x ys fs) found (ap (declare x w) f ∙ e) made (var_assign x w ys fs spared) (var_assign_back x w ys fs)

var_end_back : (x : ℕ) (w : Width) (p : Tree) (ys : List ℕ) (fs : List Exp) (r : Tree) → VarEnd [] (declare x w (seq (two p (assign ys fs)))) r
    → r ≡ declare x w (seq (two p (assigned_without x ys fs)))
var_end_back x w p ys fs r (var_end y v q zs gs) = refl

pub var_end_only : (l b p q s t u : Tree) (ps : Trees) (x : ℕ) (w : Width) (ys : List ℕ) (fs : List Exp) (found : Proc) → declare x w b ≡ l → seq ps ≡ b → ps ≡ two p q → assign ys fs ≡ q
    → s ≡ p → t ≡ assigned_without x ys fs → u ≡ seq (two s t) → tree found ≡ declare x w u → IsOnly (VarEnd []) l (Some found)
var_end_only l b p q s t u ps x w ys fs found e f g h i j k made =
    only_some (VarEnd []) (declare x w (seq (two p (assign ys fs)))) l (declare x w (seq (two p (assigned_without x ys fs)))) found
    (ap (λ z. declare x w (seq (two p z))) h ∙ ap (λ z. declare x w (seq z)) (sym g) ∙ ap (declare x w) f ∙ e)
    (made ∙ ap (declare x w) (k ∙ ap (λ z. seq (two z t)) i ∙ ap (λ z. seq (two p z)) j)) (var_end x w p ys fs) (var_end_back x w p ys fs)
