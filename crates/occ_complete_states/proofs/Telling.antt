-- An assignment behind a state is evaluated.
use Rattle.std.proofs.Common.{arith, ◌≡◌, ◌∙◌, ℕ, ◌<◌, ◌^◌, Bool, true, false, ◌||◌, ◌⊎◌, inl, inr, cond, eqb, ◌==◌, if◌then◌else◌, List, [], ◌∷◌, ◌++◌, Some, None, refl, sym, ap, subst, map}
use Rattle.std.proofs.lemmas.Bool.{eqb-true, eq-eqb, or_cases, or_parts}
use Rattle.std.specs.List.{AllByRecursion}
use Rattle.occ_derive_laws.specs.occ_base.declared.names.Name.{Name}
use Rattle.occ_derive_laws.specs.occ_base.declared.width.Width.{Width}
use Rattle.occ_derive_laws.specs.occ_base.Width.{bits_of}
use Rattle.occ_derive_laws.proofs.Exchanged.{sides_law}
use Rattle.occ_derive_laws.proofs.Orders.{reordered_by}
use Rattle.occ_derive_laws.proofs.Pairs.{assign_pairs, assigned_variables, first_pair, join_law, order_law, pad_law, variable_there}
use Rattle.occ_derive_laws.proofs.Turns.{none_keeps, with_first}
use Rattle.occ_derive_laws.specs.Alike.{AreVariables, IsAlike}
use Rattle.occ_complete_states.proofs.Leading.{law_leads, law_leads_back, leads_itself, leads_keep, leads_on, second_leads}
use Rattle.occ_complete_states.specs.Leads.{Leads}
use Rattle.occ_complete_states.specs.States.{facts, told}
use Rattle.occ_complete_states.proofs.Facts.{IsListed, IsWide, all_listed, all_wide, no_width, scope_once, scope_variables, substituted_alike, told_keeps}
use Rattle.occ_complete_states.specs.Telling.{IsAssigned, IsTold}
use Rattle.occ_derive_laws.specs.occ_law.States.{EachEqual, and_place, no_place}
use Rattle.occ_derive_laws.proofs.from_meaning.Facts.{false_not_true, none_not_some}
use Rattle.occ_derive_laws.proofs.from_meaning.Substituting.{value_assigned, value_type}
use Rattle.occ_derive_laws.proofs.from_meaning.Typing.{eval_below}
use Rattle.occ_derive_laws.specs.occ_meaning.Parallel.{one, two}
use Rattle.occ_derive_laws.specs.occ_meaning.Substitution.{substituted, value_for}
use Rattle.occ_derive_laws.specs.occ_syntax.declared.scope.Kind.{Kind}
use Rattle.occ_derive_laws.specs.occ_syntax.declared.scope.Kind.TheVariants.{Chan, Var}
use Rattle.occ_derive_laws.specs.occ_syntax.Eval.{eval}
use Rattle.occ_derive_laws.specs.occ_syntax.Meaning.{assigned}
use Rattle.occ_derive_laws.specs.occ_syntax.Names.{is_in}
use Rattle.occ_derive_laws.specs.occ_syntax.Scopes.{Environment, IsState, Values, environment, variable_kind, variable_width}
use Rattle.occ_derive_laws.specs.occ_syntax.Tree.{Exp, assign, no_tree, seq, variable}
use Rattle.occ_derive_laws.specs.occ_syntax.Types.{pairs_kept, scope_kept, type_of}
use Rattle.occ_derive_laws.specs.occ_syntax.Usage.{Keeps}
use Rattle.occ_derive_laws.specs.occ_target.States.{constant, variables}

-- ---- pairs for all variables

itself_for : (x y : ℕ) → (if y == x then variable x else variable y) ≡ variable y
itself_for x y = at (y == x) refl
  where
    at : (b : Bool) → (y == x) ≡ b → cond b (variable x) (variable y) ≡ variable y
    at true e = ap variable (sym (eqb-true y x e))
    at false e = refl

padded_for : (Γ : Environment) (zs : List ℕ) (es : List Exp) (x y : ℕ) → pairs_kept Γ zs es ≡ true
    → value_for (zs ++ x ∷ []) (es ++ variable x ∷ []) y ≡ value_for zs es y
padded_for Γ [] [] x y k = itself_for x y
padded_for Γ [] (e ∷ es) x y k = false_not_true k
padded_for Γ (z ∷ zs) [] x y k = false_not_true k
padded_for Γ (z ∷ zs) (e ∷ es) x y k = ap (λ r. if y == z then e else r) (padded_for Γ zs es x y (first_pair Γ z zs e es k).rest)

-- the pairs stand for the same, and are there for these variables too
record IsPadded (T : List (Name × Kind)) (zs : List ℕ) (es : List Exp) (more : List ℕ) : Type 0 where
  names : List ℕ
  sides : List Exp
  leads : Leads T (assign zs es) (assign names sides)
  back : Leads T (assign names sides) (assign zs es)
  members : (x : ℕ) → is_in names x ≡ (is_in zs x || is_in more x)
  same : (x : ℕ) → value_for names sides x ≡ value_for zs es x

or_none : (a : Bool) → a ≡ (a || false)
or_none true = refl
or_none false = refl

or_over : (a b c : Bool) → ((a || b) || c) ≡ (a || (b || c))
or_over true b c = refl
or_over false b c = refl

is_in_both : (zs : List ℕ) (x y : ℕ) → is_in (zs ++ x ∷ []) y ≡ (is_in zs y || (y == x))
is_in_both [] x y = sym (or_none (y == x))
is_in_both (z ∷ zs) x y = ap (λ b. (y == z) || b) (is_in_both zs x y) ∙ sym (or_over (y == z) (is_in zs y) (y == x))

there_already : (a b c : Bool) → (b ≡ true → a ≡ true) → (a || c) ≡ (a || (b || c))
there_already true b c f = refl
there_already false true c f = false_not_true (f refl)
there_already false false c f = refl

pad_all : (T : List (Name × Kind)) → scope_kept T ≡ true → (more : List ℕ) → AreVariables (environment T) more → (zs : List ℕ) (es : List Exp)
    → Keeps (environment T) (assign zs es) → IsPadded T zs es more
pad_all T h [] v zs es k = record { names = zs; sides = es; leads = leads_itself T (assign zs es); back = leads_itself T (assign zs es); members = λ x. or_none (is_in zs x); same = λ x. refl }
pad_all T h (m ∷ more) v zs es k = at (λ ws gs l. pad_all T h more v.2 ws gs l) (is_in zs m) refl
  where
    stands : (x : ℕ) → is_in zs m ≡ true → (x == m) ≡ true → is_in zs x ≡ true
    stands x e f = subst (λ z. is_in zs z ≡ true) (sym (eqb-true x m f)) e

    at : ((ws : List ℕ) (gs : List Exp) → Keeps (environment T) (assign ws gs) → IsPadded T ws gs more) → (b : Bool) → is_in zs m ≡ b → IsPadded T zs es (m ∷ more)
    at further true e =
        let r = further zs es k in
        record {
          names = r.names;
          sides = r.sides;
          leads = r.leads;
          back = r.back;
          same = r.same;
          members = λ x. r.members x ∙ there_already (is_in zs x) (x == m) (is_in more x) (stands x e);
        }
    at further false e =
        let law = law_leads T 8 (pad_law T zs es m v.0.0 k e v.0.1) in
        let r = further (zs ++ m ∷ []) (es ++ variable m ∷ []) (leads_keep T h k law) in
        record {
          names = r.names;
          sides = r.sides;
          leads = leads_on T law r.leads;
          back = leads_on T r.back (law_leads_back T 8 (pad_law T zs es m v.0.0 k e v.0.1));
          same = λ x. r.same x ∙ padded_for (environment T) zs es m x (assign_pairs (environment T) zs es k);
          members = λ x. r.members x ∙ (ap (λ b. b || is_in more x) (is_in_both zs m x) ∙ or_over (is_in zs x) (x == m) (is_in more x));
        }

-- ---- one assignment to all variables, in their order

-- what is assigned is a variable of the scope
among : (T : List (Name × Kind)) (zs : List ℕ) → AreVariables (environment T) zs → (x : ℕ) → is_in zs x ≡ true → is_in (variables T) x ≡ true
among T zs v x e = at (is_in (variables T) x) refl
  where
    at : (b : Bool) → is_in (variables T) x ≡ b → b ≡ true
    at true f = refl
    at false f = let there = variable_there (environment T) zs x v e in none_not_some (sym (no_width T x f) ∙ there.1)

absorbed : (a b : Bool) → (a ≡ true → b ≡ true) → (a || b) ≡ b
absorbed true b f = sym (f refl)
absorbed false b f = refl

pub record IsWidened (T : List (Name × Kind)) (zs : List ℕ) (es : List Exp) : Type 0 where
  pub sides : ℕ → Exp
  pub leads : Leads T (assign zs es) (assign (variables T) (map sides (variables T)))
  pub back : Leads T (assign (variables T) (map sides (variables T))) (assign zs es)
  pub same : (x : ℕ) → sides x ≡ value_for zs es x

pub widened : (T : List (Name × Kind)) → scope_kept T ≡ true → (zs : List ℕ) (es : List Exp) → Keeps (environment T) (assign zs es) → IsWidened T zs es
widened T h zs es k =
    let all = scope_variables (environment T) T h (all_listed T h) in
    let p = pad_all T h (variables T) all zs es k in
    let kept = leads_keep T h k p.leads in
    let members : (x : ℕ) → is_in p.names x ≡ is_in (variables T) x =
    λ x. p.members x ∙ absorbed (is_in zs x) (is_in (variables T) x) (among T zs (assigned_variables T zs es k) x) in
    let law = order_law T p.names (variables T) p.sides (map (value_for p.names p.sides) (variables T)) kept
    (reordered_by T p.names (variables T) p.sides kept (scope_once T h) members) in
    record {
      sides = value_for p.names p.sides;
      leads = leads_on T p.leads (law_leads T 7 law);
      back = leads_on T (law_leads_back T 7 law) p.back;
      same = p.same;
    }

-- ---- the state after it

assigned_other : (Γ : Environment) (s : Values) (zs : List ℕ) (es : List Exp) (x : ℕ) → is_in zs x ≡ false → assigned zs es Γ s x ≡ s x
assigned_other Γ s [] es x e = refl
assigned_other Γ s (z ∷ zs) [] x e = refl
assigned_other Γ s (z ∷ zs) (f ∷ es) x e =
    let p = or_parts (x == z) (is_in zs x) e in ap (λ b. cond b (eval Γ f s) (assigned zs es Γ s x)) p.0 ∙ assigned_other Γ s zs es x p.1

after_state : (T : List (Name × Kind)) (s : Values) (zs : List ℕ) (es : List Exp) → IsState (environment T) s → pairs_kept (environment T) zs es ≡ true
    → IsState (environment T) (assigned zs es (environment T) s)
after_state T s zs es i k x w e =
    subst (λ n. n < 2 ^ bits_of w) (value_assigned (environment T) s zs es x)
    (eval_below (environment T) s i (value_for zs es x) w (value_type (environment T) zs es k x ∙ e))

each_told : (T : List (Name × Kind)) (s : Values) → IsTold T s → (zs : List ℕ) (es : List Exp) → pairs_kept (environment T) zs es ≡ true → (sides : ℕ → Exp)
    → ((x : ℕ) → sides x ≡ value_for zs es x) → (U : List (Name × Kind)) → AllByRecursion (IsListed (environment T)) U → AllByRecursion IsWide U
    → EachEqual (IsAlike T) (map (substituted (variables T) (facts T s)) (map sides (variables U))) (facts U (assigned zs es (environment T) s))
each_told T s i zs es k sides same [] l wide = no_place
each_told T s i zs es k sides same ((name, Chan w d) ∷ U) l wide = each_told T s i zs es k sides same U l.1 wide.1
each_told T s i zs es k sides same ((name, Var w) ∷ U) l wide =
    and_place
    (subst (λ e. IsAlike T (substituted (variables T) (facts T s) e) (constant w (assigned zs es (environment T) s name.0))) (sym (same name.0))
    (subst (λ n. IsAlike T (substituted (variables T) (facts T s) (value_for zs es name.0)) (constant w n)) (value_assigned (environment T) s zs es name.0)
    (substituted_alike T s i (value_for zs es name.0) w (value_type (environment T) zs es k name.0 ∙ ap variable_kind l.0) wide.0)))
    (each_told T s i zs es k sides same U l.1 wide.1)

pub assignment_is_told : (T : List (Name × Kind)) (s : Values) (zs : List ℕ) (es : List Exp) → IsTold T s → Keeps (environment T) (assign zs es)
    → IsAssigned T s zs es
assignment_is_told T s zs es i k =
    let pairs = assign_pairs (environment T) zs es k in
    let w = widened T i.scope zs es k in
    let first = second_leads T (told T s) no_tree w.leads in
    let both = with_first (environment T) (told T s) (one (assign zs es)) (told_keeps T s i) (with_first (environment T) (assign zs es) no_tree k (none_keeps (environment T))) in
    let kept = leads_keep T i.scope both first in
    let join = law_leads T 9 (join_law T (variables T) (facts T s) (map w.sides (variables T)) kept) in
    let whole = leads_keep T i.scope kept join in
    let each = each_told T s i zs es pairs w.sides w.same T (all_listed T i.scope) (all_wide T i.scope) in
    record {
      after = assigned zs es (environment T) s;
      state = after_state T s zs es i.state pairs;
      others = λ x e. assigned_other (environment T) s zs es x e;
      leads = leads_on T first (leads_on T join (law_leads T 14 (sides_law T (variables T) (map (substituted (variables T) (facts T s)) (map w.sides (variables T)))
          (facts T (assigned zs es (environment T) s)) whole each)));
    }
