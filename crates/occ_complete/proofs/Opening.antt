-- A configuration is opened: what is first to do is done, until it ends or goes on as an ALT.
use Rattle.std.proofs.Common.{arith, ◌≡◌, ◌∙◌, ℕ, zero, suc, ◌+◌, ◌≤◌, ◌<◌, false, ◌||◌, List, ◌++◌}
use Rattle.std.proofs.lemmas.Bool.{or_parts}
use Rattle.occ_engine.specs.occ_base.declared.names.Name.{Name}
use Rattle.occ_complete_states.specs.occ_derive_moves.Weight.{weight}
use Rattle.occ_complete_states.proofs.from_derive_laws.Turns.{first_keeps, none_keeps, one_law, rest_keeps, skip_law, with_first}
use Rattle.occ_complete_states.proofs.Leading.{law_leads, leads_on, sparing_leads}
use Rattle.occ_complete_states.specs.Configured.{IsClear, IsLeft, IsOpenBranch}
use Rattle.occ_complete_states.specs.Headers.{IsHeader}
use Rattle.occ_complete_states.specs.Heads.{IsHead, assigns, assigns_first, chooses, declares, nothing, or_else, waits}
use Rattle.occ_complete_states.specs.Leads.{Leads}
use Rattle.occ_complete_states.specs.States.{in_state, scope_of, told}
use Rattle.occ_complete.proofs.Beginning.{variable_opens}
use Rattle.occ_complete.proofs.Lefts.{both_keep, case_few, case_free, case_keeps, case_light, first_is_told, left_by, left_leads, left_on, state_leads, told_in}
use Rattle.occ_complete.proofs.Limits.{all_open_more, opens_more}
use Rattle.occ_complete_states.proofs.Opening.{alternatives_open}
use Rattle.occ_complete.proofs.Heading.{part_has_head}
use Rattle.occ_complete_states.proofs.Ending.{state_ends}
use Rattle.occ_complete_states.proofs.Facts.{told_keeps}
use Rattle.occ_complete_states.proofs.Taking.{choice_is_taken}
use Rattle.occ_complete_states.proofs.Telling.{assignment_is_told}
use Rattle.occ_complete.specs.Ways.{ComesTo, ends, goes_on}
use Rattle.occ_engine.specs.occ_meaning.Parallel.{one, two}
use Rattle.occ_engine.specs.occ_syntax.declared.scope.Kind.{Kind}
use Rattle.occ_engine.specs.occ_syntax.Names.{free, is_in, some_names}
use Rattle.occ_engine.specs.occ_syntax.Scopes.{Values, environment}
use Rattle.occ_engine.specs.occ_syntax.Tree.{Cases, Exp, Tree, alt, assign, no_tree, select, seq, skip}
use Rattle.occ_complete_states.specs.occ_target.Rows.{guarded}
use Rattle.occ_complete_states.specs.occ_target_laws.Shapes.{Header}

-- what is asked: each configuration with so much left to do, or less, is opened
abbrev pub OpensUpTo : Header → ℕ → Type 0
OpensUpTo h n = (ys : List (Name × Kind)) (s : Values) (p : Tree) → IsLeft h ys p → IsClear h ys s → weight p ≤ n
    → ComesTo h (IsOpenBranch h n) (in_state (scope_of h) ys s p)

abbrev OpensBelow : Header → ℕ → Type 0
OpensBelow h n = (ys : List (Name × Kind)) (s : Values) (p : Tree) → IsLeft h ys p → IsClear h ys s → weight p < n
    → ComesTo h (IsOpenBranch h n) (in_state (scope_of h) ys s p)

first_then : (h : Header) (n : ℕ) (p q : Tree) → Leads (scope_of h) p q → ComesTo h (IsOpenBranch h n) q → ComesTo h (IsOpenBranch h n) p
first_then h n p q a c = record { part = c.part; leads = leads_on (scope_of h) a c.leads; outcome = c.outcome }

-- ---- SKIP, and an assignment

nothing_opens : (h : Header) → IsHeader h → (n : ℕ) (ys : List (Name × Kind)) (s : Values) → IsLeft h ys skip → IsClear h ys s
    → ComesTo h (IsOpenBranch h n) (in_state (scope_of h) ys s skip)
nothing_opens h is n ys s l c =
    let T = scope_of h ++ ys in
    let i = told_in h ys skip s l c in
    let bare = law_leads T 4 (skip_law T (one (told T s)) no_tree (both_keep T s skip i l.keeps)) in
    let alone = law_leads T 2 (one_law T (told T s) (with_first (environment T) (told T s) no_tree (told_keeps T s i) (none_keeps (environment T)))) in
    let e = state_ends h ys s is l.vars i c in
    record { part = e.part; leads = leads_on (scope_of h) (state_leads h ys s skip (told T s) l (leads_on T bare alone)) e.leads; outcome = ends e.part e.ending }

not_assigned : (h : Header) (ys : List (Name × Kind)) (xs : List ℕ) (es : List Exp) (t : ℕ) → free (assign xs es) t ≡ false → is_in xs t ≡ false
not_assigned h ys xs es t f = (or_parts (is_in xs t) (some_names es t) f).0

assignment_opens : (h : Header) → IsHeader h → (n : ℕ) (ys : List (Name × Kind)) (s : Values) (xs : List ℕ) (es : List Exp) → IsLeft h ys (assign xs es) → IsClear h ys s
    → ComesTo h (IsOpenBranch h n) (in_state (scope_of h) ys s (assign xs es))
assignment_opens h is n ys s xs es l c =
    let T = scope_of h ++ ys in
    let i = told_in h ys (assign xs es) s l c in
    let a = assignment_is_told T s xs es i l.keeps in
    let e = state_ends h ys a.after is l.vars (record { scope = i.scope; filled = i.filled; state = a.state })
    (record { state = a.state; clear = λ t g. a.others t (not_assigned h ys xs es t (l.spared t g)) ∙ c.clear t g }) in
    record { part = e.part; leads = leads_on (scope_of h) (state_leads h ys s (assign xs es) (told T a.after) l a.leads) e.leads; outcome = ends e.part e.ending }

-- ---- an assignment first, and an IF

first_opens : (h : Header) (n : ℕ) → OpensBelow h n → (ys : List (Name × Kind)) (s : Values) (xs : List ℕ) (es : List Exp) (p : Tree)
    → IsLeft h ys (seq (two (assign xs es) p)) → IsClear h ys s → weight (seq (two (assign xs es) p)) ≤ n
    → ComesTo h (IsOpenBranch h n) (in_state (scope_of h) ys s (seq (two (assign xs es) p)))
first_opens h n further ys s xs es p l c w =
    let T = scope_of h ++ ys in
    let i = told_in h ys (seq (two (assign xs es) p)) s l c in
    let k = first_keeps (environment T) (assign xs es) (one p) l.keeps in
    let a = assignment_is_told T s xs es i k in
    let rest : IsLeft h ys p = left_on h ys (seq (two (assign xs es) p)) p l (first_keeps (environment T) p no_tree (rest_keeps (environment T) (assign xs es) (one p) l.keeps)) l.few.1.0
    (λ t f. (or_parts (free p t) false (or_parts (free (assign xs es) t) (free p t || false) f).1).0) in
    let clear : IsClear h ys a.after = record {
      state = a.state;
      clear = λ t g. a.others t (not_assigned h ys xs es t (or_parts (free (assign xs es) t) (free p t || false) (l.spared t g)).0) ∙ c.clear t g;
    } in
    first_then h n (in_state (scope_of h) ys s (seq (two (assign xs es) p))) (in_state (scope_of h) ys a.after p)
    (state_leads h ys s (seq (two (assign xs es) p)) (seq (two (told T a.after) p)) l
    (first_is_told T (told T s) (assign xs es) (told T a.after) p (both_keep T s (seq (two (assign xs es) p)) i l.keeps) l.scope a.leads))
    (further ys a.after p rest clear (omega (arith, w)))

choice_opens : (h : Header) (n : ℕ) → OpensBelow h n → (ys : List (Name × Kind)) (s : Values) (cs : Cases) (p : Tree)
    → IsLeft h ys (select (or_else cs p)) → IsClear h ys s → weight (select (or_else cs p)) ≤ n
    → ComesTo h (IsOpenBranch h n) (in_state (scope_of h) ys s (select (or_else cs p)))
choice_opens h n further ys s cs p l c w =
    let T = scope_of h ++ ys in
    let i = told_in h ys (select (or_else cs p)) s l c in
    let a = choice_is_taken T s cs p i l.keeps in
    let rest : IsLeft h ys a.part = left_on h ys (select (or_else cs p)) a.part l (case_keeps (environment T) (or_else cs p) a.place a.part l.keeps a.there)
    (case_few T (or_else cs p) a.place a.part l.few.1 a.there) (λ t f. case_free (or_else cs p) a.place a.part t a.there f) in
    first_then h n (in_state (scope_of h) ys s (select (or_else cs p))) (in_state (scope_of h) ys s a.part)
    (state_leads h ys s (select (or_else cs p)) (seq (two (told T s) a.part)) l a.leads)
    (further ys s a.part rest c (omega (arith, w, case_light (or_else cs p) a.place a.part a.there)))

-- ---- whatever is first

head_opens : (h : Header) → IsHeader h → (n : ℕ) → OpensBelow h n → (ys : List (Name × Kind)) (s : Values) (p : Tree) → IsHead p → IsLeft h ys p → IsClear h ys s
    → weight p ≤ n → ComesTo h (IsOpenBranch h n) (in_state (scope_of h) ys s p)
head_opens h is n further ys s p nothing l c w = nothing_opens h is n ys s l c
head_opens h is n further ys s p (assigns xs es) l c w = assignment_opens h is n ys s xs es l c
head_opens h is n further ys s p (assigns_first xs es q) l c w = first_opens h n further ys s xs es q l c w
head_opens h is n further ys s p (chooses cs q) l c w = choice_opens h n further ys s cs q l c w
head_opens h is n further ys s p (waits gs) l c w =
    let o = alternatives_open h is ys s gs l c in
    record { part = alt (guarded o.branches); leads = o.leads; outcome = goes_on o.branches (all_open_more h (weight (alt gs)) n o.branches w o.each) }
head_opens h is n further ys s p (declares y v q) l c w = variable_opens h is n ys s y v q l c w

part_opens : (h : Header) → IsHeader h → (n : ℕ) → OpensBelow h n → OpensUpTo h n
part_opens h is n further ys s p l c w =
    let f = part_has_head (scope_of h ++ ys) p l.scope l.keeps l.few in
    let there = left_by h ys p f.head l f.leads f.few in
    first_then h n (in_state (scope_of h) ys s p) (in_state (scope_of h) ys s f.head)
    (left_leads h ys s p f.head l (sparing_leads (scope_of h ++ ys) f.leads))
    (head_opens h is n further ys s f.head f.is there c (omega (arith, w, f.light)))

pub opens_up_to : (h : Header) → IsHeader h → (n : ℕ) → OpensUpTo h n
opens_up_to h is zero = part_opens h is zero (λ ys s p l c w. absurd (omega (arith, w)))
opens_up_to h is (suc n) = part_opens h is (suc n) (λ ys s p l c w. opens_more h n (suc n) (in_state (scope_of h) ys s p) (omega arith) (opens_up_to h is n ys s p l c (omega (arith, w))))
