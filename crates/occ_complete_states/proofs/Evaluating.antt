-- The guards of an ALT behind a state are evaluated, and branches whose condition is FALSE go.
use Rattle.std.proofs.Common.{arith, ◌≡◌, ◌∙◌, ℕ, ◌+◌, ◌<◌, ◌≤◌, ◌^◌, max, nat_lt, Bool, true, false, ◌||◌, ◌&&◌, cond, eqb, ◌==◌, List, [], ◌∷◌, ◌++◌, Option, Some, None, is_none, refl, sym, ap, subst}
use Rattle.std.proofs.lemmas.Bool.{and_parts, or_left, or_right, or_parts}
use Rattle.std.proofs.lemmas.List.{append-nil, append_assoc}
use Rattle.std.specs.List.{AllByRecursion}
use Rattle.occ_derive_laws.specs.occ_base.declared.names.Name.{Name}
use Rattle.occ_derive_laws.specs.occ_base.declared.event.Dir.TheVariants.{Input, Output}
use Rattle.occ_derive_laws.specs.occ_base.declared.width.Width.{Width}
use Rattle.occ_derive_laws.specs.occ_base.declared.width.Width.TheVariants.{Bool as Truth}
use Rattle.occ_derive_laws.specs.occ_base.Width.{bits_of}
use Rattle.occ_derive_laws.specs.occ_derive_moves.Unified.{is_target}
use Rattle.occ_derive_laws.specs.occ_derive_moves.Weight.{heaviest_branch, weight}
use Rattle.occ_complete_states.specs.GuardTelling.{GoesOn, IsTelling, goes_at_once, puts_out, takes_in}
use Rattle.occ_derive_laws.proofs.Each.{Each}
use Rattle.occ_derive_laws.proofs.Holding.{false_law}
use Rattle.occ_derive_laws.proofs.Keeping.{IsKept, kept_each}
use Rattle.occ_derive_laws.proofs.Exchanged.{branches_law}
use Rattle.occ_derive_laws.proofs.Into.{alt_behind_law, constants_spare}
use Rattle.occ_derive_laws.proofs.Turns.{none_keeps, with_first}
use Rattle.occ_derive_laws.specs.Alike.{IsAlike}
use Rattle.occ_complete_states.proofs.Leading.{law_leads, leads_itself, leads_keep, leads_on}
use Rattle.occ_complete_states.proofs.Rows.{guarded_append}
use Rattle.occ_complete_states.specs.Configured.{IsLeft}
use Rattle.occ_complete_states.specs.Few.{BranchesFew, IsFew}
use Rattle.occ_complete_states.specs.Leads.{Leads}
use Rattle.occ_complete_states.specs.States.{facts, scope_of, told}
use Rattle.occ_complete_states.proofs.Facts.{facts_unnamed, substituted_alike, told_keeps}
use Rattle.occ_complete_states.specs.Telling.{IsTold}
use Rattle.occ_derive_laws.specs.occ_law.Lists.{all_branches}
use Rattle.occ_derive_laws.specs.occ_law.Sequence.{assigned_behind, each_guard_assigned, substituted_waiting}
use Rattle.occ_derive_laws.specs.occ_law.States.{BranchesEqual, WaitingEqual, and_equal_branch, equal_input, equal_output, equal_ready, no_equal_branch}
use Rattle.occ_derive_laws.proofs.from_meaning.Facts.{at_itself, false_not_true, none_not_some, some_is}
use Rattle.occ_derive_laws.proofs.from_meaning.Typing.{condition_type, eval_below, input_types, output_types}
use Rattle.occ_derive_laws.specs.occ_meaning.Parallel.{one, two}
use Rattle.occ_derive_laws.specs.occ_meaning.Substitution.{substituted}
use Rattle.occ_derive_laws.specs.occ_syntax.declared.scope.Kind.{Kind}
use Rattle.occ_derive_laws.specs.occ_syntax.declared.scope.Kind.TheVariants.{Chan, Var}
use Rattle.occ_derive_laws.specs.occ_syntax.Eval.{eval}
use Rattle.occ_derive_laws.specs.occ_syntax.Names.{free, free_in_branches, free_in_waiting, names}
use Rattle.occ_derive_laws.specs.occ_syntax.Scopes.{Environment, Values, channel_kind, channel_width, environment, variable_width}
use Rattle.occ_derive_laws.specs.occ_syntax.Tree.{Branches, Exp, Tree, Waiting, alt, and_branch, input, no_branch, no_tree, output, ready, seq, truth}
use Rattle.occ_derive_laws.specs.occ_syntax.Types.{can_declare, is_width, scope_kept, waiting_kept, width_of_kind}
use Rattle.occ_derive_laws.specs.occ_syntax.Usage.{Keeps}
use Rattle.occ_derive_laws.specs.occ_target.Rows.{guarded, or_bool}
use Rattle.occ_derive_laws.specs.occ_target.States.{constant, variables}
use Rattle.occ_derive_laws.specs.occ_target_laws.Shapes.{Header}

-- ---- widths of a scope

pub wide_entry : (T : List (Name × Kind)) (x : ℕ) (k : Kind) → scope_kept T ≡ true → environment T x ≡ Some k → is_width (width_of_kind k) ≡ true
wide_entry [] x k h e = none_not_some e
wide_entry (t ∷ T) x k h e = at (eqb x t.0.0) e (λ f. wide_entry T x k parts.1 f)
  where
    parts : (can_declare (environment T) t.0.0 (width_of_kind t.1) ≡ true) × (scope_kept T ≡ true)
    parts = and_parts (can_declare (environment T) t.0.0 (width_of_kind t.1)) (scope_kept T) h

    at : (b : Bool) → cond b (Some t.1) (environment T x) ≡ Some k → (environment T x ≡ Some k → is_width (width_of_kind k) ≡ true) → is_width (width_of_kind k) ≡ true
    at true f further = subst (λ z. is_width (width_of_kind z) ≡ true) (some_is f) (and_parts (is_none (environment T t.0.0)) (is_width (width_of_kind t.1)) parts.0).1
    at false f further = further f

pub wide_channel : (T : List (Name × Kind)) (c : ℕ) (w : Width) → scope_kept T ≡ true → channel_width (environment T) c ≡ Some w → is_width w ≡ true
wide_channel T c w h e = at (environment T c) refl e
  where
    at : (o : Option Kind) → environment T c ≡ o → channel_kind o ≡ Some w → is_width w ≡ true
    at (Some (Chan v d)) f g = subst (λ u. is_width u ≡ true) (some_is g) (wide_entry T c (Chan v d) h f)
    at (Some (Var v)) f g = none_not_some g
    at None f g = none_not_some g

-- ---- guards that are evaluated

abbrev told_wait : List (Name × Kind) → Values → Waiting → Waiting
told_wait T s ready = ready
told_wait T s (input c x) = input c x
told_wait T s (output c e) = output c (constant (or_bool (channel_width (environment T) c)) (eval (environment T) e s))

abbrev evaluated : List (Name × Kind) → Values → Branches → Branches
evaluated T s no_branch = no_branch
evaluated T s (and_branch b w p gs) =
    and_branch (constant Truth (eval (environment T) b s)) (told_wait T s w) (seq (two (assigned_behind (variables T) (facts T s) w) p)) (evaluated T s gs)

wait_alike : (T : List (Name × Kind)) (s : Values) → IsTold T s → (w : Waiting) → waiting_kept (environment T) w ≡ true
    → WaitingEqual (IsAlike T) (substituted_waiting (variables T) (facts T s) w) (told_wait T s w)
wait_alike T s i ready k = equal_ready
wait_alike T s i (input c x) k = equal_input
wait_alike T s i (output c e) k =
    let t = (output_types (environment T) c e k).1 in
    equal_output (subst (λ o. IsAlike T (substituted (variables T) (facts T s) e) (constant (or_bool o) (eval (environment T) e s))) (sym t.1)
    (substituted_alike T s i e t.0 t.2 (wide_channel T c t.0 i.scope t.1)))

all_alike : (T : List (Name × Kind)) (s : Values) → IsTold T s → (gs : Branches) → Each (IsKept (environment T)) gs
    → BranchesEqual (IsAlike T) (each_guard_assigned (variables T) (facts T s) gs) (evaluated T s gs)
all_alike T s i no_branch k = no_equal_branch
all_alike T s i (and_branch b w p gs) k =
    and_equal_branch (substituted_alike T s i b Truth (condition_type (environment T) b k.0.condition) refl) (wait_alike T s i w k.0.wait) (all_alike T s i gs k.1)

-- ---- branches that are left

abbrev left_of : List (Name × Kind) → Values → Branches → List (Waiting × Tree)
left_of T s no_branch = []
left_of T s (and_branch b w p gs) =
    cond (nat_lt 0 (eval (environment T) b s)) ((told_wait T s w, seq (two (assigned_behind (variables T) (facts T s) w) p)) ∷ left_of T s gs) (left_of T s gs)

all_over : (fs gs hs : Branches) → all_branches (all_branches fs gs) hs ≡ all_branches fs (all_branches gs hs)
all_over no_branch gs hs = refl
all_over (and_branch b w p fs) gs hs = ap (and_branch b w p) (all_over fs gs hs)

falses_go : (T : List (Name × Kind)) (s : Values) → scope_kept T ≡ true → (gs : Branches) (front : List (Waiting × Tree))
    → Keeps (environment T) (alt (all_branches (guarded front) (evaluated T s gs))) → Leads T (alt (all_branches (guarded front) (evaluated T s gs))) (alt (guarded (front ++ left_of T s gs)))
falses_go T s h no_branch front k = subst (λ g. Leads T (alt (all_branches (guarded front) no_branch)) (alt g)) (sym (guarded_append front [])) (leads_itself T (alt (all_branches (guarded front) no_branch)))
falses_go T s h (and_branch b w p gs) front k = at (λ f m. falses_go T s h gs f m) (nat_lt 0 (eval (environment T) b s)) k
  where
    wait : Waiting
    wait = told_wait T s w

    next : Tree
    next = seq (two (assigned_behind (variables T) (facts T s) w) p)

    longer : all_branches (guarded (front ++ (wait, next) ∷ [])) (evaluated T s gs) ≡ all_branches (guarded front) (and_branch (truth true) wait next (evaluated T s gs))
    longer = ap (λ g. all_branches g (evaluated T s gs)) (guarded_append front ((wait, next) ∷ [])) ∙ all_over (guarded front) (guarded ((wait, next) ∷ [])) (evaluated T s gs)

    at : ((f : List (Waiting × Tree)) → Keeps (environment T) (alt (all_branches (guarded f) (evaluated T s gs)))
        → Leads T (alt (all_branches (guarded f) (evaluated T s gs))) (alt (guarded (f ++ left_of T s gs))))
        → (t : Bool) → Keeps (environment T) (alt (all_branches (guarded front) (and_branch (truth t) wait next (evaluated T s gs))))
        → Leads T (alt (all_branches (guarded front) (and_branch (truth t) wait next (evaluated T s gs)))) (alt (guarded (front ++ cond t ((wait, next) ∷ left_of T s gs) (left_of T s gs))))
    at further true m =
        subst (λ g. Leads T (alt g) (alt (guarded (front ++ (wait, next) ∷ left_of T s gs)))) longer
        (subst (λ l. Leads T (alt (all_branches (guarded (front ++ (wait, next) ∷ [])) (evaluated T s gs))) (alt (guarded l))) (append_assoc front ((wait, next) ∷ []) (left_of T s gs))
        (further (front ++ (wait, next) ∷ []) (subst (λ g. Keeps (environment T) (alt g)) (sym longer) m)))
    at further false m =
        let law = law_leads T 28 (false_law T (guarded front) (evaluated T s gs) wait next m) in
        leads_on T law (further front (leads_keep T h m law))

-- ---- what they are

-- what stands behind a branch is some of the ALT
record IsSome (h : Header) (ys : List (Name × Kind)) (limit : ℕ) (w : Waiting) (p : Tree) : Type 0 where
  goes : GoesOn h ys limit p
  wait : waiting_kept (environment (scope_of h ++ ys)) w ≡ true
  spared : (t : ℕ) → is_target h t ≡ true → free_in_waiting w t ≡ false

one_telling : (h : Header) (ys : List (Name × Kind)) (s : Values) (limit : ℕ) (w : Waiting) (p : Tree) → IsTold (scope_of h ++ ys) s → IsSome h ys limit w p
    → IsTelling h ys s limit (told_wait (scope_of h ++ ys) s w, seq (two (assigned_behind (variables (scope_of h ++ ys)) (facts (scope_of h ++ ys) s) w) p))
one_telling h ys s limit ready p i k = goes_at_once p k.goes
one_telling h ys s limit (output c e) p i k =
    let T = scope_of h ++ ys in
    let t = output_types (environment T) c e k.wait in
    subst (λ o. IsTelling h ys s limit (output c (constant (or_bool o) (eval (environment T) e s)), seq (two (told T s) p))) (sym t.1.1)
    (puts_out c t.1.0 (eval (environment T) e s) p t.1.1 t.0 (eval_below (environment T) s i.state e t.1.0 t.1.2) k.goes)
one_telling h ys s limit (input c x) p i k =
    let t = input_types (environment (scope_of h ++ ys)) c x k.wait in takes_in c x t.1.0 p t.1.1 t.0 t.1.2 (at (is_target h x) refl) k.goes
  where
    both : (b : Bool) → b ≡ true → b ≡ false → ⊥
    both true e f = cc
    both false e f = cc

    at : (b : Bool) → is_target h x ≡ b → b ≡ false
    at true e = absurd (both (x == c || x == x) (or_right (x == c) (x == x) (at_itself x)) (k.spared x e))
    at false e = refl

all_telling : (h : Header) (ys : List (Name × Kind)) (s : Values) (limit : ℕ) (gs : Branches) → IsTold (scope_of h ++ ys) s
    → Each (λ b. IsSome h ys limit) gs → AllByRecursion (IsTelling h ys s limit) (left_of (scope_of h ++ ys) s gs)
all_telling h ys s limit no_branch i k = tt
all_telling h ys s limit (and_branch b w p gs) i k = at (nat_lt 0 (eval (environment (scope_of h ++ ys)) b s)) (all_telling h ys s limit gs i k.1)
  where
    T : List (Name × Kind)
    T = scope_of h ++ ys

    at : (t : Bool) → AllByRecursion (IsTelling h ys s limit) (left_of (scope_of h ++ ys) s gs)
        → AllByRecursion (IsTelling h ys s limit)
        (cond t ((told_wait (scope_of h ++ ys) s w, seq (two (assigned_behind (variables (scope_of h ++ ys)) (facts (scope_of h ++ ys) s) w) p)) ∷ left_of (scope_of h ++ ys) s gs)
        (left_of (scope_of h ++ ys) s gs))
    at true more = (one_telling h ys s limit w p i k.0, more)
    at false more = more

all_some : (h : Header) (ys : List (Name × Kind)) (limit : ℕ) (l : IsLeft h ys (alt no_branch)) (gs : Branches) → Each (IsKept (environment (scope_of h ++ ys))) gs
    → BranchesFew (scope_of h ++ ys) gs → heaviest_branch gs < limit → ((t : ℕ) → is_target h t ≡ true → free_in_branches gs t ≡ false)
    → Each (λ b. IsSome h ys limit) gs
all_some h ys limit l no_branch k f below n = tt
all_some h ys limit l (and_branch b w p gs) k f below n = (
  record {
    goes = record {
      is_left = record { scope = l.scope; vars = l.vars; filled = l.filled; keeps = k.0.part; few = f.0; spared = λ t e. (apart t e).1 };
      light = omega (arith, below);
    };
    wait = k.0.wait;
    spared = λ t e. (or_parts (names b t) (free_in_waiting w t) (apart t e).0).1;
  },
  all_some h ys limit l gs k.1 f.1 (omega (arith, below)) (λ t e. (or_parts ((names b t || free_in_waiting w t) || free p t) (free_in_branches gs t) (n t e)).1),
)
  where
    apart : (t : ℕ) → is_target h t ≡ true → ((names b t || free_in_waiting w t) ≡ false) × (free p t ≡ false)
    apart t e = or_parts (names b t || free_in_waiting w t) (free p t) (or_parts ((names b t || free_in_waiting w t) || free p t) (free_in_branches gs t) (n t e)).0

-- ---- all of it

pub record IsTelling-all (h : Header) (ys : List (Name × Kind)) (s : Values) (limit : ℕ) (gs : Branches) : Type 0 where
  pub branches : List (Waiting × Tree)
  pub each : AllByRecursion (IsTelling h ys s limit) branches
  pub leads : Leads (scope_of h ++ ys) (seq (two (told (scope_of h ++ ys) s) (alt gs))) (alt (guarded branches))

pub guards_are_told : (h : Header) (ys : List (Name × Kind)) (s : Values) (gs : Branches) → IsLeft h ys (alt gs) → IsTold (scope_of h ++ ys) s
    → IsTelling-all h ys s (weight (alt gs)) gs
guards_are_told h ys s gs l i =
    let T = scope_of h ++ ys in
    let k = kept_each (environment T) gs l.keeps in
    let both = with_first (environment T) (told T s) (one (alt gs)) (told_keeps T s i) (with_first (environment T) (alt gs) no_tree l.keeps (none_keeps (environment T))) in
    let into = law_leads T 11 (alt_behind_law T (variables T) (facts T s) gs both (constants_spare (variables T) (facts T s) gs (facts_unnamed T s))) in
    let m = leads_keep T l.scope both into in
    let told = law_leads T 14 (branches_law T (each_guard_assigned (variables T) (facts T s) gs) (evaluated T s gs) m (all_alike T s i gs k)) in
    let goes = falses_go T s l.scope gs [] (leads_keep T l.scope m told) in
    record {
      branches = left_of T s gs;
      each = all_telling h ys s (weight (alt gs)) gs i (all_some h ys (weight (alt gs))
          (record { scope = l.scope; vars = l.vars; filled = l.filled; keeps = record { types = refl; usage = tt }; few = tt; spared = λ t e. refl })
          gs k l.few (omega arith) (λ t e. l.spared t e));
      leads = leads_on T into (leads_on T told goes);
    }
