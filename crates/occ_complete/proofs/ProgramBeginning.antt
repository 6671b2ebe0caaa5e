-- A body comes to a choice for each initial state, within the declarations of the variables for inputs.
use Rattle.std.proofs.Common.{◌≡◌, ◌∙◌, ◌++◌, ◌==◌, ◌+◌, ◌<◌, ◌≤◌, ◌^◌, ℕ, zero, suc, Bool, false, true, List, [], ◌∷◌, length, None, Some, if◌then◌else◌, refl, sym, ap, subst, inl, inr, arith}
use Rattle.std.proofs.lemmas.Bool.{eqb-true, or_cases}
use Rattle.std.proofs.lemmas.Nat.{pow_pos}
use Rattle.std.proofs.lemmas.List.{append-nil, append_assoc}
use Rattle.std.specs.List.{AllByRecursion}
use Rattle.occ_engine.specs.occ_base.declared.names.Name.{Name}
use Rattle.occ_engine.specs.occ_base.Width.{bits_of}
use Rattle.occ_complete.proofs.ProgramParting.{behind_skip}
use Rattle.occ_complete.proofs.Tabled.{becomes_table, start, start_state, tolds, zeros_there}
use Rattle.occ_complete.proofs.Whole.{only_variables, within_keeps}
use Rattle.occ_complete.specs.Begun.{HasBegun, IsAway}
use Rattle.occ_complete_states.specs.occ_derive_moves.Apart.{has_declared}
use Rattle.occ_complete_states.specs.occ_derive_moves.Unified.{cleared}
use Rattle.occ_complete_states.specs.occ_derive_moves.Weight.{weight}
use Rattle.occ_complete_states.proofs.from_derive_laws.Declared.{round_last}
use Rattle.occ_complete_states.proofs.from_derive_laws.Values.{pair_comes}
use Rattle.occ_complete_states.proofs.from_derive_laws.Behind.{if_law}
use Rattle.occ_complete_states.proofs.from_derive_laws.Pairs.{assign_pairs, id_law_back}
use Rattle.occ_complete_states.proofs.from_derive_laws.Turns.{first_keeps, rest_keeps}
use Rattle.occ_complete_states.specs.occ_derive_laws.Alike.{AreVariables}
use Rattle.occ_complete_states.proofs.Facts.{constant_type}
use Rattle.occ_complete_states.proofs.Leading.{declared_leads, declaring_leads, first_leads, law_leads, law_leads_back, leads_itself, leads_keep, leads_on}
use Rattle.occ_complete_states.proofs.Scopes.{declared_keeps, last_new, scope_front}
use Rattle.occ_complete_states.specs.Configured.{IsConfigured, IsLeft}
use Rattle.occ_complete_states.specs.Few.{IsFew}
use Rattle.occ_complete_states.specs.Headers.{IsHeader}
use Rattle.occ_complete_states.specs.Leads.{Leads}
use Rattle.occ_complete_states.specs.States.{in_state, scope_of, told}
use Rattle.occ_complete_states.proofs.Ending.{variables_append}
use Rattle.occ_complete_states.proofs.Facts.{IsHeld, all_held, all_listed, not_variable, scope_variables, told_keeps}
use Rattle.occ_engine.specs.occ_law.Lists.{assignment, variables as own_values}
use Rattle.occ_engine.specs.occ_law.Sequence.{each_case_before}
use Rattle.occ_engine.proofs.from_meaning.Facts.{false_not_true, none_not_some, some_is}
use Rattle.occ_engine.specs.occ_meaning.Parallel.{one, two}
use Rattle.occ_engine.specs.occ_syntax.declared.scope.Kind.{Kind}
use Rattle.occ_engine.specs.occ_syntax.declared.scope.Kind.TheVariants.{Chan, Var}
use Rattle.occ_engine.specs.occ_syntax.Counts.{bits_of_scope}
use Rattle.occ_engine.specs.occ_syntax.Declarations.{declaring_all}
use Rattle.occ_engine.specs.occ_syntax.Names.{is_in}
use Rattle.occ_engine.specs.occ_syntax.Scopes.{IsState, Values, environment, variable_kind}
use Rattle.occ_engine.specs.occ_syntax.Tree.{Exp, Tree, and_case, assign, no_tree, select, seq}
use Rattle.occ_engine.specs.occ_syntax.Types.{is_pair, pairs_kept, scope_kept}
use Rattle.occ_engine.specs.occ_syntax.Usage.{Keeps}
use Rattle.occ_complete_states.specs.occ_target.States.{constant, variables}
use Rattle.occ_complete_states.specs.occ_target_laws.Bodies.{IsVariable, in_state as initial}
use Rattle.occ_complete_states.specs.occ_target_laws.Shapes.{Header, numbered}

-- ---- an assignment in front

keeps_itself : (S : List (Name × Kind)) → scope_kept S ≡ true → (xs : List ℕ) → xs ≡ variables S → (p : Tree) → Keeps (environment S) p
    → Leads S p (seq (two (assignment xs (own_values xs)) p))
keeps_itself S kept [] e p k = behind_skip S p k
keeps_itself S kept (x ∷ xs) e p k =
    leads_on S (behind_skip S p k)
    (first_leads S (one p) (law_leads_back S 6 (id_law_back S (x ∷ xs) refl
    (subst (AreVariables (environment S)) (sym e) (scope_variables (environment S) S kept (all_listed S kept))))))

last_assigned : (xs : List ℕ) (y : ℕ) (es : List Exp) → assign (xs ++ y ∷ []) es ≡ assignment (xs ++ y ∷ []) es
last_assigned [] y es = refl
last_assigned (x ∷ xs) y es = refl

-- new variables come with value 0, round the assignment and what stands behind it
declared_round : (S ys : List (Name × Kind)) → scope_kept (S ++ ys) ≡ true → AllByRecursion (λ (y : Name × Kind). IsVariable y.1) ys
    → (xs : List ℕ) (es : List Exp) (p : Tree) → AllByRecursion (λ (y : Name × Kind). has_declared p y.0.0 ≡ false) ys
    → pairs_kept (environment S) xs es ≡ true → Keeps (environment S) (seq (two (assignment xs es) p))
    → Leads S (seq (two (assignment xs es) p)) (declaring_all ys (seq (two (assignment (xs ++ variables ys) (es ++ cleared ys)) p)))
declared_round S [] kept all xs es p off pairs k =
    subst (λ l. Leads S (seq (two (assignment xs es) p)) (seq (two (assignment l (es ++ [])) p))) (sym (append-nil xs))
    (subst (λ l. Leads S (seq (two (assignment xs es) p)) (seq (two (assignment xs l) p))) (sym (append-nil es)) (leads_itself S (seq (two (assignment xs es) p))))
declared_round S ((name, Chan w d) ∷ ys) kept all xs es p off pairs k = absurd all.0
declared_round S ((name, Var w) ∷ ys) kept all xs es p off pairs k =
    let y = name.0 in
    let T = S ++ (name, Var w) ∷ [] in
    let more = xs ++ y ∷ [] in
    let sides = es ++ constant w 0 ∷ [] in
    let long : scope_kept (T ++ ys) ≡ true = subst (λ U. scope_kept U ≡ true) (sym (append_assoc S ((name, Var w) ∷ []) ys)) kept in
    let new = last_new S name (Var w) (scope_front T ys long) in
    let come = pair_comes S y w xs es (constant w 0) new.new new.width pairs (constant_type (environment S) w 0 new.width (pow_pos (bits_of w))) in
    let first = first_leads S (one p) (law_leads_back S 55 come) in
    let round = round_last S y w (assign more sides) p (leads_keep S new.kept k first) off.0 in
    let outer = leads_on S first (law_leads_back S 50 round) in
    let inner = declared_keeps S y w (seq (two (assign more sides) p)) round.left in
    let named = last_assigned xs y sides in
    let further = declared_round T ys long all.1 more sides p off.1
    (assign_pairs (environment T) more sides (first_keeps (environment T) (assign more sides) (one p) inner))
    (subst (λ a. Keeps (environment T) (seq (two a p))) named inner) in
    let same : declaring_all ys (seq (two (assignment (more ++ variables ys) (sides ++ cleared ys)) p))
    ≡ declaring_all ys (seq (two (assignment (xs ++ y ∷ variables ys) (es ++ constant w 0 ∷ cleared ys)) p)) =
    λ i. declaring_all ys (seq (two (assignment (append_assoc xs (y ∷ []) (variables ys) i) (append_assoc es (constant w 0 ∷ []) (cleared ys) i)) p)) in
    leads_on S outer (declared_leads S y w
    (subst (λ z. Leads T (seq (two (assign more sides) p)) z) same
    (subst (λ a. Leads T (seq (two a p)) (declaring_all ys (seq (two (assignment (more ++ variables ys) (sides ++ cleared ys)) p)))) (sym named) further)))

own_pairs : (S : List (Name × Kind)) (xs : List ℕ) → AreVariables (environment S) xs → pairs_kept (environment S) xs (own_values xs) ≡ true
own_pairs S [] a = refl
own_pairs S (x ∷ xs) a = assign_pairs (environment S) (x ∷ xs) (own_values (x ∷ xs)) (id_law_back S (x ∷ xs) refl a).left

-- ---- states of the scope

held_state : (T : List (Name × Kind)) (s : Values) → AllByRecursion (IsHeld s) T → IsState (environment T) s
held_state [] s all x w e = none_not_some e
held_state (t ∷ T) s all x w e = at t.1 all.0 (x == t.0.0) refl e (held_state T s all.1 x w)
  where
    at : (k : Kind) → IsHeld s (t.0, k) → (b : Bool) → (x == t.0.0) ≡ b → variable_kind (if b then Some k else environment T x) ≡ Some w
        → (variable_kind (environment T x) ≡ Some w → s x < 2 ^ bits_of w) → s x < 2 ^ bits_of w
    at (Var v) h true i f ih =
        let same : v ≡ w = some_is f in
        subst (λ z. s x < 2 ^ bits_of z) same (subst (λ z. s z < 2 ^ bits_of v) (sym (eqb-true x t.0.0 i)) h)
    at (Chan v d) h true i f ih = none_not_some f
    at k h false i f ih = ih f

all_together : (P : Name × Kind → Type 0) (S I : List (Name × Kind)) → AllByRecursion P S → AllByRecursion P I → AllByRecursion P (S ++ I)
all_together P [] I f g = g
all_together P (s ∷ S) I f g = (f.0, all_together P S I f.1 g)

zeros_held : (s : Values) (I : List (Name × Kind)) → AllByRecursion (λ (t : Name × Kind). s t.0.0 ≡ 0) I → AllByRecursion (IsHeld s) I
zeros_held s [] all = tt
zeros_held s ((name, Chan w d) ∷ I) all = (tt, zeros_held s I all.1)
zeros_held s ((name, Var w) ∷ I) all = (subst (λ n. n < 2 ^ bits_of w) (sym all.0) (pow_pos (bits_of w)), zeros_held s I all.1)

zero_of : (s : Values) (I : List (Name × Kind)) → AllByRecursion (λ (t : Name × Kind). s t.0.0 ≡ 0) I → (x : ℕ) → is_in (variables I) x ≡ true → s x ≡ 0
zero_of s [] all x h = false_not_true h
zero_of s ((name, Chan w d) ∷ I) all x h = zero_of s I all.1 x h
zero_of s ((name, Var w) ∷ I) all x h =
    elim (or_cases (x == name.0) (is_in (variables I) x) h) [ inl i ↦ ap s (eqb-true x name.0 i) ∙ all.0 | inr i ↦ zero_of s I all.1 x i ]

-- ---- the choices

filled_assigned : (zs : List ℕ) (es : List Exp) → is_pair zs ≡ true → assignment zs es ≡ assign zs es
filled_assigned [] es h = cc
filled_assigned (z ∷ zs) es h = refl

-- each process with another one behind it
abbrev each_before : List Tree → Tree → List Tree
each_before [] p = []
each_before (q ∷ qs) p = seq (two q p) ∷ each_before qs p

before_each : (test : ℕ → Exp) (k : ℕ) (qs : List Tree) (p : Tree) → each_case_before (numbered test k qs) (one p) ≡ numbered test k (each_before qs p)
before_each test k [] p = refl
before_each test k (q ∷ qs) p = ap (and_case (test k) (seq (two q p))) (before_each test (k + 1) qs p)

-- ---- a body begins

module _ (h : Header) (is : IsHeader h) (p : Tree) (keeps : Keeps (environment h.params) p) (few : IsFew (scope_of h) p) (away : IsAway h p)
    (bits : bits_of_scope h.params ≤ 16) (filled : is_pair (variables (scope_of h)) ≡ true) where
  abbrev S : List (Name × Kind)
  S = h.params

  abbrev T : List (Name × Kind)
  T = scope_of h

  front : scope_kept S ≡ true
  front = scope_front S h.inputs is.kept

  off_all : (ts : List (Name × Kind)) → AllByRecursion (λ (t : Name × Kind). IsVariable t.1 × (environment S t.0.0 ≡ None)) ts
      → AllByRecursion (λ (t : Name × Kind). is_in (variables S) t.0.0 ≡ false) ts
  off_all [] all = tt
  off_all (t ∷ ts) all = (not_variable S t.0.0 all.0.1, off_all ts all.1)

  off : AllByRecursion (λ (t : Name × Kind). is_in (variables S) t.0.0 ≡ false) h.inputs
  off = off_all h.inputs is.declared

  abbrev begin : ℕ → Values
  begin k = start S h.inputs is.kept filled bits off front k

  zeros : (k : ℕ) → AllByRecursion (λ (t : Name × Kind). begin k t.0.0 ≡ 0) h.inputs
  zeros k = zeros_there S h.inputs is.kept filled bits off front k h.inputs off

  state_of_all : (k : ℕ) → IsState (environment T) (begin k)
  state_of_all k =
      held_state T (begin k) (all_together (IsHeld (begin k)) S h.inputs
      (all_held (environment S) S (begin k) (start_state S h.inputs is.kept filled bits off front k) (all_listed S front))
      (zeros_held (begin k) h.inputs (zeros k)))

  abbrev choice : ℕ → Tree
  choice k = in_state T [] (begin k) p

  abbrev choices : ℕ → ℕ → List Tree
  choices k zero = []
  choices k (suc m) = choice k ∷ choices (k + 1) m

  choices_count : (k m : ℕ) → length (choices k m) ≡ m
  choices_count k zero = refl
  choices_count k (suc m) = ap suc (choices_count (k + 1) m)

  no_more : T ≡ T ++ []
  no_more = sym (append-nil T)

  scope_keeps : Keeps (environment T) p → IsLeft h [] p
  scope_keeps k = record {
    scope = subst (λ U. scope_kept U ≡ true) no_more is.kept;
    vars = tt;
    filled = subst (λ U. is_pair (variables U) ≡ true) no_more filled;
    keeps = subst (λ U. Keeps (environment U) p) no_more k;
    few = subst (λ U. IsFew U p) no_more few;
    spared = away.spared;
  }

  is_configured : Keeps (environment T) p → (k : ℕ) → IsConfigured h (weight p + 1) (choice k)
  is_configured keeps_so k = record {
    ys = [];
    state = begin k;
    left = p;
    form = refl;
    is_left = scope_keeps keeps_so;
    is_clear = record {
      state = subst (λ U. IsState (environment U) (begin k)) no_more (state_of_all k);
      clear = λ t e. zero_of (begin k) h.inputs (zeros k) t e;
    };
    light = omega arith;
  }

  all_configured : Keeps (environment T) p → (k m : ℕ) → AllByRecursion (IsConfigured h (weight p + 1)) (choices k m)
  all_configured keeps_so k zero = tt
  all_configured keeps_so k (suc m) = (is_configured keeps_so k, all_configured keeps_so (k + 1) m)

  told_each : (k m : ℕ) → each_before (tolds S h.inputs is.kept filled bits off front k m) p ≡ choices k m
  told_each k zero = refl
  told_each k (suc m) = λ i. seq (two (told (no_more i) (begin k)) p) ∷ told_each (k + 1) m i

  pub bodies_begin : HasBegun h (weight p + 1) p
  bodies_begin =
      let I = h.inputs in
      let xs = variables S in
      let zs = variables T in
      let gs = own_values xs ++ cleared I in
      let vars = only_variables h I is.declared in
      let size = 2 ^ bits_of_scope S in
      let are = scope_variables (environment S) S front (all_listed S front) in
      let first = keeps_itself S front xs refl p keeps in
      let second = declared_round S I is.kept vars xs (own_values xs) p away.declared (own_pairs S xs are) (leads_keep S front keeps first) in
      let named : assignment (xs ++ variables I) gs ≡ assign zs gs = ap (λ l. assignment l gs) (sym (variables_append S I)) ∙ filled_assigned zs gs filled in
      let outer : Leads S p (declaring_all I (seq (two (assign zs gs) p))) =
      subst (λ a. Leads S p (declaring_all I (seq (two a p)))) named (leads_on S first second) in
      let inner = within_keeps S I (seq (two (assign zs gs) p)) vars (leads_keep S front keeps outer) in
      let table = becomes_table S I is.kept filled bits off front
      (λ k. told_keeps T (begin k) (record { scope = is.kept; filled = filled; state = state_of_all k })) (first_keeps (environment T) (assign zs gs) (one p) inner) in
      let third = first_leads T (one p) table in
      let law = if_law T (numbered (initial h) 0 (tolds S I is.kept filled bits off front 0 size)) (one p) (leads_keep T is.kept inner third) in
      let same : each_case_before (numbered (initial h) 0 (tolds S I is.kept filled bits off front 0 size)) (one p) ≡ numbered (initial h) 0 (choices 0 size) =
      before_each (initial h) 0 (tolds S I is.kept filled bits off front 0 size) p ∙ ap (numbered (initial h) 0) (told_each 0 size) in
      let last : Leads T (seq (two (assign zs gs) p)) (select (numbered (initial h) 0 (choices 0 size))) =
      leads_on T third (subst (λ c. Leads T (seq (two (select (numbered (initial h) 0 (tolds S I is.kept filled bits off front 0 size))) p)) (select c)) same (law_leads T 12 law)) in
      record {
        parts = choices 0 size;
        count = choices_count 0 size;
        each = all_configured (first_keeps (environment T) p no_tree (rest_keeps (environment T) (assign zs gs) (one p) inner)) 0 size;
        leads = leads_on S outer (declaring_leads S I vars last);
      }
