-- The laws of IF and of ALT, where names are exchanged.
use Rattle.occ_replay_rules.specs.occ_base.declared.names.Name.{Name}
use Rattle.occ_renamed.proofs.Lists.{all_branches_under, all_cases_under, branches_under, conditions_under, count_under, tally_under}
use Rattle.occ_renamed.proofs.Names.{and2, or2}
use Rattle.occ_renamed.proofs.Sequence.{these}
use Rattle.occ_renamed.proofs.States.{always_under, branches_equal_under, each_under, equal_where_under, exclude_under, exhaustive_under, few_under, never_under}
use Rattle.occ_renamed.specs.Scopes.{scope_renamed}
use Rattle.occ_replay_rules.specs.occ_law.Choice.{AltCase, AltFalse, AltFlat, AltLeast, AltNone, AltOrder, AltSame, AltSkip, AltSlide, AltSplit, AltTwice, ChoiceSides, IfCopy, IfCut, IfElseStop, IfFalse, IfMerge, IfNest, IfNone, IfSwap, IfTrue, IfUnder, alt_case, alt_false, alt_flat, alt_least, alt_none, alt_order, alt_same, alt_skip, alt_slide, alt_split, alt_twice, and_skip, are_events, are_plain_events, copies, each_case_under, has_skip, if_copy, if_cut, if_else_stop, if_false, if_merge, if_nest, if_none, if_swap, if_true, is_event, is_plain, is_ready, under_alt, under_assignment, under_seq}
use Rattle.occ_replay_rules.specs.occ_law.Lists.{all_branches, all_cases, conditions, count, tally}
use Rattle.occ_replay_rules.specs.occ_law.States.{AreFew, IsEqualWhere, IsExhaustive}
use Rattle.occ_replay_rules.proofs.from_meaning.Facts.{both}
use Rattle.occ_replay_rules.proofs.from_meaning.Renaming.{IsExchange}
use Rattle.occ_replay_rules.specs.occ_meaning.Rename.{all_renamed, branches_renamed, cases_renamed, renamed, renamed_exp, renamed_exps, renamed_names, renamed_waiting}
use Rattle.occ_replay_rules.specs.occ_syntax.Scopes.{environment}
use Rattle.occ_replay_rules.specs.occ_syntax.Tree.{Branches, Cases, Exp, Tree, Waiting, alt, and_branch, and_case, and_tree, assign, complement, input, negation, no_branch, no_case, numeral, operation, output, ready, select, seq, stop, truth, variable}
use Rattle.occ_replay_rules.specs.occ_syntax.declared.expr.Op.TheVariants.{And, Or}
use Rattle.occ_replay_rules.specs.occ_syntax.declared.scope.Kind.{Kind}
use Rattle.std.proofs.Common.{List, [], ap, refl, subst, sym, true, ℕ, ◌==◌, ◌∙◌, ◌∷◌, ◌≡◌}

-- the place behind a list of choices
after_cases : (f : ℕ → ℕ) (cs : Cases) → count (cases_renamed cs f) ∷ [] ≡ count cs ∷ []
after_cases f cs = ap (λ n. n ∷ []) (count_under f cs)

-- an IF of choices in front of others
front : (f : ℕ → ℕ) (cs ds : Cases) → select (all_cases (cases_renamed cs f) (cases_renamed ds f)) ≡ renamed (select (all_cases cs ds)) f
front f cs ds = ap select (sym (all_cases_under f cs ds))

if_none_under : (f : ℕ → ℕ) (ks : List ℕ) (l r : Tree) → IfNone ks l r → IfNone ks (renamed l f) (renamed r f)
if_none_under f ks l r if_none = if_none

if_false_under : (f : ℕ → ℕ) → IsExchange f → (S : List (Name × Kind)) (ks : List ℕ) (l r : Tree) → IfFalse S ks l r
    → IfFalse (scope_renamed f S) ks (renamed l f) (renamed r f)
if_false_under f inv S ks l r (if_false cs ds b p few never) =
    let Cs = cases_renamed cs f in let Ds = cases_renamed ds f in let c = and_case (renamed_exp f b) (renamed p f) Ds in
    these (IfFalse (scope_renamed f S)) (count Cs ∷ []) (count cs ∷ []) (select (all_cases Cs c)) (renamed (select (all_cases cs (and_case b p ds))) f)
    (select (all_cases Cs Ds)) (renamed (select (all_cases cs ds)) f)
    (after_cases f cs) (front f cs (and_case b p ds)) (front f cs ds)
    (if_false Cs Ds (renamed_exp f b) (renamed p f) (few_under f inv S (b ∷ []) few) (never_under f inv S b never))

if_true_under : (f : ℕ → ℕ) → IsExchange f → (S : List (Name × Kind)) (ks : List ℕ) (l r : Tree) → IfTrue S ks l r
    → IfTrue (scope_renamed f S) ks (renamed l f) (renamed r f)
if_true_under f inv S ks l r (if_true b p ds few always) =
    if_true (renamed_exp f b) (renamed p f) (cases_renamed ds f) (few_under f inv S (b ∷ []) few) (always_under f inv S b always)

if_else_under : (f : ℕ → ℕ) (ks : List ℕ) (l r : Tree) → IfElseStop ks l r → IfElseStop ks (renamed l f) (renamed r f)
if_else_under f ks l r (if_else_stop cs) =
    let Cs = cases_renamed cs f in let last = and_case (truth true) stop no_case in
    these IfElseStop (count Cs ∷ []) (count cs ∷ []) (select (all_cases Cs last)) (renamed (select (all_cases cs last)) f) (select Cs) (select Cs)
    (after_cases f cs) (front f cs last) refl (if_else_stop Cs)

if_cut_under : (f : ℕ → ℕ) → IsExchange f → (S : List (Name × Kind)) (ks : List ℕ) (l r : Tree) → IfCut S ks l r
    → IfCut (scope_renamed f S) ks (renamed l f) (renamed r f)
if_cut_under f inv S ks l r (if_cut cs ds few every) =
    let Cs = cases_renamed cs f in let Ds = cases_renamed ds f in
    these (IfCut (scope_renamed f S)) (count Cs ∷ []) (count cs ∷ []) (select (all_cases Cs Ds)) (renamed (select (all_cases cs ds)) f) (select Cs) (select Cs)
    (after_cases f cs) (front f cs ds) refl
    (if_cut Cs Ds (subst (AreFew (scope_renamed f S)) (sym (conditions_under f cs)) (few_under f inv S (conditions cs) few))
    (subst (IsExhaustive (environment (scope_renamed f S))) (sym (conditions_under f cs)) (exhaustive_under f inv S (conditions cs) every)))

case_under_under : (f : ℕ → ℕ) (b : Exp) (cs : Cases) → cases_renamed (each_case_under b cs) f ≡ each_case_under (renamed_exp f b) (cases_renamed cs f)
case_under_under f b no_case = refl
case_under_under f b (and_case c p cs) = ap (and_case (operation And (renamed_exp f b) (renamed_exp f c)) (renamed p f)) (case_under_under f b cs)

if_nest_under : (f : ℕ → ℕ) (ks : List ℕ) (l r : Tree) → IfNest ks l r → IfNest ks (renamed l f) (renamed r f)
if_nest_under f ks l r (if_nest cs es ds b) =
    let Cs = cases_renamed cs f in let Es = cases_renamed es f in let Ds = cases_renamed ds f in let B = renamed_exp f b in
    let inner = all_cases (each_case_under b es) (and_case b stop ds) in
    let Inner = all_cases (each_case_under B Es) (and_case B stop Ds) in
    let inside : cases_renamed inner f ≡ Inner =
    all_cases_under f (each_case_under b es) (and_case b stop ds) ∙ ap (λ z. all_cases z (and_case B stop Ds)) (case_under_under f b es) in
    these IfNest (count Cs ∷ []) (count cs ∷ []) (select (all_cases Cs (and_case B (select Es) Ds))) (renamed (select (all_cases cs (and_case b (select es) ds))) f)
    (select (all_cases Cs Inner)) (renamed (select (all_cases cs inner)) f)
    (after_cases f cs) (front f cs (and_case b (select es) ds))
    (ap (λ z. select (all_cases Cs z)) (sym inside) ∙ front f cs inner) (if_nest Cs Es Ds B)

if_swap_under : (f : ℕ → ℕ) → IsExchange f → (S : List (Name × Kind)) (ks : List ℕ) (l r : Tree) → IfSwap S ks l r
    → IfSwap (scope_renamed f S) ks (renamed l f) (renamed r f)
if_swap_under f inv S ks l r (if_swap cs ds b c p q few apart) =
    let Cs = cases_renamed cs f in let Ds = cases_renamed ds f in let B = renamed_exp f b in let C = renamed_exp f c in
    let P = renamed p f in let Q = renamed q f in
    these (IfSwap (scope_renamed f S)) (count Cs ∷ []) (count cs ∷ [])
    (select (all_cases Cs (and_case B P (and_case C Q Ds)))) (renamed (select (all_cases cs (and_case b p (and_case c q ds)))) f)
    (select (all_cases Cs (and_case C Q (and_case B P Ds)))) (renamed (select (all_cases cs (and_case c q (and_case b p ds)))) f)
    (after_cases f cs) (front f cs (and_case b p (and_case c q ds))) (front f cs (and_case c q (and_case b p ds)))
    (if_swap Cs Ds B C P Q (few_under f inv S (b ∷ c ∷ []) few) (exclude_under f inv S b c apart))

if_merge_under : (f : ℕ → ℕ) (ks : List ℕ) (l r : Tree) → IfMerge ks l r → IfMerge ks (renamed l f) (renamed r f)
if_merge_under f ks l r (if_merge cs ds b c p) =
    let Cs = cases_renamed cs f in let Ds = cases_renamed ds f in let B = renamed_exp f b in let C = renamed_exp f c in let P = renamed p f in
    these IfMerge (count Cs ∷ []) (count cs ∷ [])
    (select (all_cases Cs (and_case B P (and_case C P Ds)))) (renamed (select (all_cases cs (and_case b p (and_case c p ds)))) f)
    (select (all_cases Cs (and_case (operation Or B C) P Ds))) (renamed (select (all_cases cs (and_case (operation Or b c) p ds))) f)
    (after_cases f cs) (front f cs (and_case b p (and_case c p ds))) (front f cs (and_case (operation Or b c) p ds)) (if_merge Cs Ds B C P)

copies_under : (f : ℕ → ℕ) (bs : List Exp) (p : Tree) → cases_renamed (copies bs p) f ≡ copies (renamed_exps f bs) (renamed p f)
copies_under f [] p = refl
copies_under f (b ∷ bs) p = ap (and_case (renamed_exp f b) (renamed p f)) (copies_under f bs p)

if_copy_under : (f : ℕ → ℕ) → IsExchange f → (S : List (Name × Kind)) (ks : List ℕ) (l r : Tree) → IfCopy S ks l r
    → IfCopy (scope_renamed f S) ks (renamed l f) (renamed r f)
if_copy_under f inv S ks l r (if_copy p bs few every) =
    subst (λ cs. IfCopy (scope_renamed f S) [] (renamed p f) (select cs)) (sym (copies_under f bs p))
    (if_copy (renamed p f) (renamed_exps f bs) (few_under f inv S bs few) (exhaustive_under f inv S bs every))

-- what is equal where a choice is taken
equal_there : (f : ℕ → ℕ) → IsExchange f → (S : List (Name × Kind)) (b : Exp) (cs : Cases) (d e : Exp) → IsEqualWhere S b (conditions cs) d e
    → IsEqualWhere (scope_renamed f S) (renamed_exp f b) (conditions (cases_renamed cs f)) (renamed_exp f d) (renamed_exp f e)
equal_there f inv S b cs d e h =
    subst (λ bs. IsEqualWhere (scope_renamed f S) (renamed_exp f b) bs (renamed_exp f d) (renamed_exp f e)) (sym (conditions_under f cs))
    (equal_where_under f inv S b (conditions cs) d e h)

if_under_under : (f : ℕ → ℕ) → IsExchange f → (S : List (Name × Kind)) (ks : List ℕ) (l r : Tree) → IfUnder S ks l r
    → IfUnder (scope_renamed f S) ks (renamed l f) (renamed r f)
if_under_under f inv S ks l r (under_assignment cs ds b xs es fs h) =
    let Cs = cases_renamed cs f in let Ds = cases_renamed ds f in let B = renamed_exp f b in let Xs = renamed_names f xs in
    let Es = renamed_exps f es in let Fs = renamed_exps f fs in
    these (IfUnder (scope_renamed f S)) (count Cs ∷ []) (count cs ∷ [])
    (select (all_cases Cs (and_case B (assign Xs Es) Ds))) (renamed (select (all_cases cs (and_case b (assign xs es) ds))) f)
    (select (all_cases Cs (and_case B (assign Xs Fs) Ds))) (renamed (select (all_cases cs (and_case b (assign xs fs) ds))) f)
    (after_cases f cs) (front f cs (and_case b (assign xs es) ds)) (front f cs (and_case b (assign xs fs) ds))
    (under_assignment Cs Ds B Xs Es Fs
    (each_under f (IsEqualWhere S b (conditions cs)) (IsEqualWhere (scope_renamed f S) B (conditions Cs)) (equal_there f inv S b cs) es fs h))
if_under_under f inv S ks l r (under_seq cs ds b xs es fs ps h) =
    let Cs = cases_renamed cs f in let Ds = cases_renamed ds f in let B = renamed_exp f b in let Xs = renamed_names f xs in
    let Es = renamed_exps f es in let Fs = renamed_exps f fs in let Ps = all_renamed ps f in
    these (IfUnder (scope_renamed f S)) (count Cs ∷ []) (count cs ∷ [])
    (select (all_cases Cs (and_case B (seq (and_tree (assign Xs Es) Ps)) Ds))) (renamed (select (all_cases cs (and_case b (seq (and_tree (assign xs es) ps)) ds))) f)
    (select (all_cases Cs (and_case B (seq (and_tree (assign Xs Fs) Ps)) Ds))) (renamed (select (all_cases cs (and_case b (seq (and_tree (assign xs fs) ps)) ds))) f)
    (after_cases f cs) (front f cs (and_case b (seq (and_tree (assign xs es) ps)) ds)) (front f cs (and_case b (seq (and_tree (assign xs fs) ps)) ds))
    (under_seq Cs Ds B Xs Es Fs Ps
    (each_under f (IsEqualWhere S b (conditions cs)) (IsEqualWhere (scope_renamed f S) B (conditions Cs)) (equal_there f inv S b cs) es fs h))
if_under_under f inv S ks l r (under_alt cs ds b gs hs h) =
    let Cs = cases_renamed cs f in let Ds = cases_renamed ds f in let B = renamed_exp f b in
    let Gs = branches_renamed gs f in let Hs = branches_renamed hs f in
    these (IfUnder (scope_renamed f S)) (count Cs ∷ []) (count cs ∷ [])
    (select (all_cases Cs (and_case B (alt Gs) Ds))) (renamed (select (all_cases cs (and_case b (alt gs) ds))) f)
    (select (all_cases Cs (and_case B (alt Hs) Ds))) (renamed (select (all_cases cs (and_case b (alt hs) ds))) f)
    (after_cases f cs) (front f cs (and_case b (alt gs) ds)) (front f cs (and_case b (alt hs) ds))
    (under_alt Cs Ds B Gs Hs
    (branches_equal_under f (IsEqualWhere S b (conditions cs)) (IsEqualWhere (scope_renamed f S) B (conditions Cs)) (equal_there f inv S b cs) gs hs h))

-- ---- ALT

after_branches : (f : ℕ → ℕ) (gs : Branches) → tally (branches_renamed gs f) ∷ [] ≡ tally gs ∷ []
after_branches f gs = ap (λ n. n ∷ []) (tally_under f gs)

after_both : (f : ℕ → ℕ) (gs hs : Branches) → tally (branches_renamed gs f) ∷ tally (branches_renamed hs f) ∷ [] ≡ tally gs ∷ tally hs ∷ []
after_both f gs hs = ap (λ n. n ∷ tally (branches_renamed hs f) ∷ []) (tally_under f gs) ∙ ap (λ n. tally gs ∷ n ∷ []) (tally_under f hs)

alts : (f : ℕ → ℕ) (gs hs : Branches) → alt (all_branches (branches_renamed gs f) (branches_renamed hs f)) ≡ renamed (alt (all_branches gs hs)) f
alts f gs hs = ap alt (sym (all_branches_under f gs hs))

alt_none_under : (f : ℕ → ℕ) (ks : List ℕ) (l r : Tree) → AltNone ks l r → AltNone ks (renamed l f) (renamed r f)
alt_none_under f ks l r alt_none = alt_none

alt_order_under : (f : ℕ → ℕ) (ks : List ℕ) (l r : Tree) → AltOrder ks l r → AltOrder ks (renamed l f) (renamed r f)
alt_order_under f ks l r (alt_order gs hs h) = alt_order (branches_renamed gs f) (branches_renamed hs f) (branches_under f gs hs h)

alt_false_under : (f : ℕ → ℕ) → IsExchange f → (S : List (Name × Kind)) (ks : List ℕ) (l r : Tree) → AltFalse S ks l r
    → AltFalse (scope_renamed f S) ks (renamed l f) (renamed r f)
alt_false_under f inv S ks l r (alt_false gs hs b w p few never) =
    let Gs = branches_renamed gs f in let Hs = branches_renamed hs f in let B = renamed_exp f b in let W = renamed_waiting f w in let P = renamed p f in
    these (AltFalse (scope_renamed f S)) (tally Gs ∷ []) (tally gs ∷ []) (alt (all_branches Gs (and_branch B W P Hs))) (renamed (alt (all_branches gs (and_branch b w p hs))) f)
    (alt (all_branches Gs Hs)) (renamed (alt (all_branches gs hs)) f)
    (after_branches f gs) (alts f gs (and_branch b w p hs)) (alts f gs hs)
    (alt_false Gs Hs B W P (few_under f inv S (b ∷ []) few) (never_under f inv S b never))

alt_twice_under : (f : ℕ → ℕ) (ks : List ℕ) (l r : Tree) → AltTwice ks l r → AltTwice ks (renamed l f) (renamed r f)
alt_twice_under f js l r (alt_twice gs hs ks b w p) =
    let Gs = branches_renamed gs f in let Hs = branches_renamed hs f in let Ks = branches_renamed ks f in
    let B = renamed_exp f b in let W = renamed_waiting f w in let P = renamed p f in
    let left = and_branch b w p (all_branches hs (and_branch b w p ks)) in let right = and_branch b w p (all_branches hs ks) in
    these AltTwice (tally Gs ∷ tally Hs ∷ []) (tally gs ∷ tally hs ∷ [])
    (alt (all_branches Gs (and_branch B W P (all_branches Hs (and_branch B W P Ks))))) (renamed (alt (all_branches gs left)) f)
    (alt (all_branches Gs (and_branch B W P (all_branches Hs Ks)))) (renamed (alt (all_branches gs right)) f)
    (after_both f gs hs)
    (ap (λ z. alt (all_branches Gs (and_branch B W P z))) (sym (all_branches_under f hs (and_branch b w p ks))) ∙ alts f gs left)
    (ap (λ z. alt (all_branches Gs (and_branch B W P z))) (sym (all_branches_under f hs ks)) ∙ alts f gs right)
    (alt_twice Gs Hs Ks B W P)

alt_skip_under : (f : ℕ → ℕ) (ks : List ℕ) (l r : Tree) → AltSkip ks l r → AltSkip ks (renamed l f) (renamed r f)
alt_skip_under f ks l r (alt_skip p) = alt_skip (renamed p f)

alt_case_under : (f : ℕ → ℕ) (ks : List ℕ) (l r : Tree) → AltCase ks l r → AltCase ks (renamed l f) (renamed r f)
alt_case_under f ks l r (alt_case gs hs b w p) =
    let Gs = branches_renamed gs f in let Hs = branches_renamed hs f in let B = renamed_exp f b in let W = renamed_waiting f w in let P = renamed p f in
    let plain = and_branch (truth true) w p hs in
    these AltCase (tally Gs ∷ []) (tally gs ∷ []) (alt (all_branches Gs (and_branch B W P Hs))) (renamed (alt (all_branches gs (and_branch b w p hs))) f)
    (select (and_case B (alt (all_branches Gs (and_branch (truth true) W P Hs))) (and_case (truth true) (alt (all_branches Gs Hs)) no_case)))
    (renamed (select (and_case b (alt (all_branches gs plain)) (and_case (truth true) (alt (all_branches gs hs)) no_case))) f)
    (after_branches f gs) (alts f gs (and_branch b w p hs))
    (ap (λ z. select (and_case B z (and_case (truth true) (alt (all_branches Gs Hs)) no_case))) (alts f gs plain)
    ∙ ap (λ z. select (and_case B (renamed (alt (all_branches gs plain)) f) (and_case (truth true) z no_case))) (alts f gs hs))
    (alt_case Gs Hs B W P)

-- ---- what is seen of guards

plain_under : (f : ℕ → ℕ) (b : Exp) → is_plain (renamed_exp f b) ≡ is_plain b
plain_under f (variable x) = refl
plain_under f (numeral bits value) = refl
plain_under f (truth b) = refl
plain_under f (negation e) = refl
plain_under f (complement e) = refl
plain_under f (operation op left right) = refl

event_under : (f : ℕ → ℕ) (w : Waiting) → is_event (renamed_waiting f w) ≡ is_event w
event_under f ready = refl
event_under f (input c x) = refl
event_under f (output c e) = refl

ready_under : (f : ℕ → ℕ) (w : Waiting) → is_ready (renamed_waiting f w) ≡ is_ready w
ready_under f ready = refl
ready_under f (input c x) = refl
ready_under f (output c e) = refl

skip_under : (f : ℕ → ℕ) (gs : Branches) → has_skip (branches_renamed gs f) ≡ has_skip gs
skip_under f no_branch = refl
skip_under f (and_branch b w p gs) = or2 (and2 (plain_under f b) (ready_under f w)) (skip_under f gs)

events_under : (f : ℕ → ℕ) (gs : Branches) → are_events (branches_renamed gs f) ≡ are_events gs
events_under f no_branch = refl
events_under f (and_branch b w p gs) = and2 (event_under f w) (events_under f gs)

plain_events_under : (f : ℕ → ℕ) (gs : Branches) → are_plain_events (branches_renamed gs f) ≡ are_plain_events gs
plain_events_under f no_branch = refl
plain_events_under f (and_branch b w p gs) = and2 (and2 (plain_under f b) (event_under f w)) (plain_events_under f gs)

-- ---- ready branches

alt_flat_under : (f : ℕ → ℕ) (ks : List ℕ) (l r : Tree) → AltFlat ks l r → AltFlat ks (renamed l f) (renamed r f)
alt_flat_under f js l r (alt_flat gs hs ks h) =
    let Gs = branches_renamed gs f in let Hs = branches_renamed hs f in let Ks = branches_renamed ks f in
    these AltFlat (tally Gs ∷ []) (tally gs ∷ []) (alt (all_branches Gs (and_skip (alt Hs) Ks))) (renamed (alt (all_branches gs (and_skip (alt hs) ks))) f)
    (alt (all_branches Gs (all_branches Hs Ks))) (renamed (alt (all_branches gs (all_branches hs ks))) f)
    (after_branches f gs) (alts f gs (and_skip (alt hs) ks))
    (ap (λ z. alt (all_branches Gs z)) (sym (all_branches_under f hs ks)) ∙ alts f gs (all_branches hs ks))
    (alt_flat Gs Hs Ks (skip_under f hs ∙ h))

alt_split_under : (f : ℕ → ℕ) (ks : List ℕ) (l r : Tree) → AltSplit ks l r → AltSplit ks (renamed l f) (renamed r f)
alt_split_under f js l r (alt_split gs hs ks g p q h) =
    let Gs = branches_renamed gs f in let Hs = branches_renamed hs f in let Ks = branches_renamed ks f in
    let G = renamed_waiting f g in let P = renamed p f in let Q = renamed q f in
    let left = and_branch (truth true) g p (and_skip (alt (and_branch (truth true) g q hs)) ks) in
    let right = and_skip (alt (and_branch (truth true) g p (and_branch (truth true) g q hs))) ks in
    these AltSplit (tally Gs ∷ []) (tally gs ∷ [])
    (alt (all_branches Gs (and_branch (truth true) G P (and_skip (alt (and_branch (truth true) G Q Hs)) Ks)))) (renamed (alt (all_branches gs left)) f)
    (alt (all_branches Gs (and_skip (alt (and_branch (truth true) G P (and_branch (truth true) G Q Hs))) Ks))) (renamed (alt (all_branches gs right)) f)
    (after_branches f gs) (alts f gs left) (alts f gs right) (alt_split Gs Hs Ks G P Q (event_under f g ∙ h))

alt_same_under : (f : ℕ → ℕ) (ks : List ℕ) (l r : Tree) → AltSame ks l r → AltSame ks (renamed l f) (renamed r f)
alt_same_under f js l r (alt_same gs hs ks b g p q h) =
    let Gs = branches_renamed gs f in let Hs = branches_renamed hs f in let Ks = branches_renamed ks f in
    let B = renamed_exp f b in let G = renamed_waiting f g in let P = renamed p f in let Q = renamed q f in
    let left = and_branch b g p (all_branches hs (and_branch b g q ks)) in
    let one = alt (and_skip p (and_skip q no_branch)) in let One = alt (and_skip P (and_skip Q no_branch)) in
    let right = and_branch b g one (all_branches hs ks) in
    these AltSame (tally Gs ∷ tally Hs ∷ []) (tally gs ∷ tally hs ∷ [])
    (alt (all_branches Gs (and_branch B G P (all_branches Hs (and_branch B G Q Ks))))) (renamed (alt (all_branches gs left)) f)
    (alt (all_branches Gs (and_branch B G One (all_branches Hs Ks)))) (renamed (alt (all_branches gs right)) f)
    (after_both f gs hs)
    (ap (λ z. alt (all_branches Gs (and_branch B G P z))) (sym (all_branches_under f hs (and_branch b g q ks))) ∙ alts f gs left)
    (ap (λ z. alt (all_branches Gs (and_branch B G One z))) (sym (all_branches_under f hs ks)) ∙ alts f gs right)
    (alt_same Gs Hs Ks B G P Q (event_under f g ∙ h))

alt_slide_under : (f : ℕ → ℕ) (ks : List ℕ) (l r : Tree) → AltSlide ks l r → AltSlide ks (renamed l f) (renamed r f)
alt_slide_under f ks l r (alt_slide gs hs h) =
    let Gs = branches_renamed gs f in let Hs = branches_renamed hs f in
    let last = and_skip (alt (all_branches gs hs)) no_branch in
    these AltSlide (tally Gs ∷ []) (tally gs ∷ []) (alt (all_branches Gs (and_skip (alt (all_branches Gs Hs)) no_branch))) (renamed (alt (all_branches gs last)) f)
    (alt (all_branches Gs Hs)) (renamed (alt (all_branches gs hs)) f)
    (after_branches f gs)
    (ap (λ z. alt (all_branches Gs (and_skip z no_branch))) (alts f gs hs) ∙ alts f gs last)
    (alts f gs hs) (alt_slide Gs Hs (events_under f gs ∙ h))

alt_least_under : (f : ℕ → ℕ) (ks : List ℕ) (l r : Tree) → AltLeast ks l r → AltLeast ks (renamed l f) (renamed r f)
alt_least_under f ks l r (alt_least gs hs h k) =
    let Gs = branches_renamed gs f in let Hs = branches_renamed hs f in
    these AltLeast [] [] (alt (and_skip (alt Gs) (and_skip (alt (all_branches Gs Hs)) no_branch))) (renamed (alt (and_skip (alt gs) (and_skip (alt (all_branches gs hs)) no_branch))) f)
    (alt (all_branches Hs (and_skip (alt Gs) no_branch))) (renamed (alt (all_branches hs (and_skip (alt gs) no_branch))) f)
    refl (ap (λ z. alt (and_skip (alt Gs) (and_skip z no_branch))) (alts f gs hs)) (alts f hs (and_skip (alt gs) no_branch))
    (alt_least Gs Hs (plain_events_under f gs ∙ h) (plain_events_under f hs ∙ k))

pub choice_under : (f : ℕ → ℕ) → IsExchange f → (n : ℕ) (S : List (Name × Kind)) (ks : List ℕ) (l r : Tree) → ChoiceSides n S ks l r
    → ChoiceSides n (scope_renamed f S) ks (renamed l f) (renamed r f)
choice_under f inv n S ks l r =
    both (n == 16) (if_none_under f ks l r) (both (n == 17) (if_false_under f inv S ks l r) (both (n == 18) (if_true_under f inv S ks l r)
    (both (n == 19) (if_else_under f ks l r) (both (n == 20) (if_cut_under f inv S ks l r) (both (n == 21) (if_nest_under f ks l r)
    (both (n == 22) (if_swap_under f inv S ks l r) (both (n == 23) (if_merge_under f ks l r) (both (n == 24) (if_copy_under f inv S ks l r)
    (both (n == 25) (if_under_under f inv S ks l r) (both (n == 26) (alt_none_under f ks l r) (both (n == 27) (alt_order_under f ks l r)
    (both (n == 28) (alt_false_under f inv S ks l r) (both (n == 29) (alt_twice_under f ks l r) (both (n == 30) (alt_skip_under f ks l r)
    (both (n == 31) (alt_case_under f ks l r) (both (n == 32) (alt_flat_under f ks l r) (both (n == 33) (alt_split_under f ks l r)
    (both (n == 34) (alt_same_under f ks l r) (both (n == 35) (alt_slide_under f ks l r) (both (n == 36) (alt_least_under f ks l r) (λ h. h)))))))))))))))))))))
