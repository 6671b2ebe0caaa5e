-- A declared variable begins with each of its values: each makes a configuration with one variable more.
use Rattle.std.proofs.Common.{arith, ◌≡◌, ◌∙◌, ℕ, ◌+◌, ◌≤◌, ◌<◌, ◌^◌, Bool, true, false, ◌||◌, not, ◌&&◌, ◌⊎◌, inl, inr, cond, eqb, List, [], ◌∷◌, ◌++◌, Option, Some, None, is_none, refl, sym, ap, subst}
use Rattle.std.proofs.lemmas.Bool.{eqb-true}
use Rattle.std.proofs.lemmas.List.{append_assoc}
use Rattle.std.specs.List.{AllByRecursion}
use Rattle.occ_engine.specs.occ_base.declared.names.Name.{Name}
use Rattle.occ_engine.specs.occ_base.declared.width.Width.{Width}
use Rattle.occ_engine.specs.occ_base.Width.{bits_of}
use Rattle.occ_complete_states.specs.occ_derive_moves.Unified.{is_target}
use Rattle.occ_complete_states.specs.occ_derive_moves.Weight.{weight}
use Rattle.occ_complete_states.proofs.from_derive_laws.Opened.{opened}
use Rattle.occ_complete_states.proofs.Leading.{leads_keep, leads_on}
use Rattle.occ_complete_states.proofs.Rows.{declarations_go_in}
use Rattle.occ_complete_states.proofs.Scopes.{declared_keeps, declaring_keeps}
use Rattle.occ_complete_states.specs.Configured.{IsClear, IsLeft, IsOpenBranch, at_once}
use Rattle.occ_complete_states.specs.Few.{IsFew}
use Rattle.occ_complete_states.specs.Headers.{IsHeader}
use Rattle.occ_complete_states.specs.Rows.{each_declaring, guard_names}
use Rattle.occ_complete_states.specs.States.{in_state, scope_of, told}
use Rattle.occ_complete.proofs.Lefts.{both_keep, declaring_behind, state_leads, told_in}
use Rattle.occ_complete.proofs.Limits.{all_both}
use Rattle.occ_complete_states.proofs.Beginning.{declared_begins}
use Rattle.occ_complete_states.specs.Telling.{BeginsWith}
use Rattle.occ_complete.specs.Ways.{ComesTo, goes_on}
use Rattle.occ_engine.proofs.from_meaning.Facts.{some_is}
use Rattle.occ_engine.specs.occ_meaning.Parallel.{two}
use Rattle.occ_engine.proofs.from_script_lines.Scoping.{scope_kept-push}
use Rattle.occ_engine.specs.occ_syntax.declared.scope.Kind.{Kind}
use Rattle.occ_engine.specs.occ_syntax.declared.scope.Kind.TheVariants.{Chan, Var}
use Rattle.occ_engine.specs.occ_syntax.Declarations.{declaring_all}
use Rattle.occ_engine.specs.occ_syntax.Names.{free, free_in_waiting, is_in}
use Rattle.occ_engine.specs.occ_syntax.Scopes.{IsState, Values, environment, variable_kind, with_value}
use Rattle.occ_engine.specs.occ_syntax.Tree.{Tree, Waiting, alt, declare, seq}
use Rattle.occ_engine.specs.occ_syntax.Types.{is_pair, scope_kept}
use Rattle.occ_engine.specs.occ_syntax.Usage.{Keeps}
use Rattle.occ_complete_states.specs.occ_target.Rows.{guarded}
use Rattle.occ_complete_states.specs.occ_target.States.{variables}
use Rattle.occ_complete_states.specs.occ_target_laws.Bodies.{IsVariable}
use Rattle.occ_complete_states.specs.occ_target_laws.Shapes.{Header}
use Rattle.occ_engine.proofs.from_usage.Scoped.{environment-push}

-- ---- the guards

ready_named : (T : List (Name × Kind)) (s : Values) (y : ℕ) (w : Width) (p : Tree) (bs : List (Waiting × Tree)) (x : ℕ) → AllByRecursion (BeginsWith T s y w p) bs
    → guard_names bs x ≡ false
ready_named T s y w p [] x all = refl
ready_named T s y w p (b ∷ bs) x all = ap (λ (z : Waiting × Tree). free_in_waiting z.0 x || guard_names bs x) all.0.form ∙ ready_named T s y w p bs x all.1

none_named : (T : List (Name × Kind)) (s : Values) (y : ℕ) (w : Width) (p : Tree) (bs : List (Waiting × Tree)) (ys : List (Name × Kind)) → AllByRecursion (BeginsWith T s y w p) bs
    → AllByRecursion (λ (z : Name × Kind). guard_names bs z.0.0 ≡ false) ys
none_named T s y w p bs [] all = tt
none_named T s y w p bs (z ∷ ys) all = (ready_named T s y w p bs z.0.0 all, none_named T s y w p bs ys all)

-- ---- names in scope

known_first : (b : Bool) (k : Kind) (o : Option Kind) → b ≡ true → is_none (cond b (Some k) o) ≡ false
known_first true k o e = refl
known_first false k o e = cc

known_later : (b : Bool) (k : Kind) (o : Option Kind) → is_none o ≡ false → is_none (cond b (Some k) o) ≡ false
known_later true k o e = refl
known_later false k o e = e

either : (a b : Bool) → (a || b) ≡ true → (a ≡ true) ⊎ (b ≡ true)
either true b e = inl refl
either false b e = inr e

variable_known : (A Y : List (Name × Kind)) (t : ℕ) → is_in (variables A) t ≡ true → is_none (environment (A ++ Y) t) ≡ false
variable_known [] Y t e = cc
variable_known ((name, Chan w d) ∷ A) Y t e = known_later (eqb t name.0) (Chan w d) (environment (A ++ Y) t) (variable_known A Y t e)
variable_known ((name, Var w) ∷ A) Y t e = at (λ f. variable_known A Y t f) (either (eqb t name.0) (is_in (variables A) t) e)
  where
    at : (is_in (variables A) t ≡ true → is_none (environment (A ++ Y) t) ≡ false) → (eqb t name.0 ≡ true) ⊎ (is_in (variables A) t ≡ true) → is_none (cond (eqb t name.0) (Some (Var w)) (environment (A ++ Y) t)) ≡ false
    at further (inl f) = known_first (eqb t name.0) (Var w) (environment (A ++ Y) t) f
    at further (inr f) = known_later (eqb t name.0) (Var w) (environment (A ++ Y) t) (further f)

known_behind : (X A : List (Name × Kind)) (t : ℕ) → is_none (environment A t) ≡ false → is_none (environment (X ++ A) t) ≡ false
known_behind [] A t e = e
known_behind (x ∷ X) A t e = known_later (eqb t x.0.0) x.1 (environment (X ++ A) t) (known_behind X A t e)

pub target_known : (h : Header) (ys : List (Name × Kind)) (t : ℕ) → is_target h t ≡ true → is_none (environment (scope_of h ++ ys) t) ≡ false
target_known h ys t e =
    subst (λ U. is_none (environment U t) ≡ false) (sym (append_assoc h.params h.inputs ys)) (known_behind h.params (h.inputs ++ ys) t (variable_known h.inputs ys t e))

pub target_other : (h : Header) (ys : List (Name × Kind)) (t y : ℕ) → is_target h t ≡ true → environment (scope_of h ++ ys) y ≡ None → eqb t y ≡ false
target_other h ys t y e n = at (eqb t y) refl
  where
    both : is_none (environment (scope_of h ++ ys) y) ≡ true → is_none (environment (scope_of h ++ ys) y) ≡ false → ⊥
    both f g = not_both (is_none (environment (scope_of h ++ ys) y)) f g
      where
        not_both : (b : Bool) → b ≡ true → b ≡ false → ⊥
        not_both true f g = cc
        not_both false f g = cc

    at : (b : Bool) → eqb t y ≡ b → b ≡ false
    at true f = absurd (both (ap is_none n) (subst (λ z. is_none (environment (scope_of h ++ ys) z) ≡ false) (eqb-true t y f) (target_known h ys t e)))
    at false f = refl

pub pair_more : (T U : List (Name × Kind)) → is_pair (variables T) ≡ true → is_pair (variables (T ++ U)) ≡ true
pair_more [] U e = cc
pair_more ((name, Chan w d) ∷ T) U e = pair_more T U e
pair_more ((name, Var w) ∷ T) U e = refl

-- ---- one variable more

abbrev Y : ℕ → Width → List (Name × Kind)
Y y w = (record { 0 = y }, Var w) ∷ []

hidden_not : (b f : Bool) → b ≡ false → (not b && f) ≡ false → f ≡ false
hidden_not true f e g = cc
hidden_not false f e g = g

pub left_within : (h : Header) (ys : List (Name × Kind)) (y : ℕ) (w : Width) (p : Tree) → IsLeft h ys (declare y w p) → IsLeft h (ys ++ Y y w) p
left_within h ys y w p l =
    let o = opened (environment (scope_of h ++ ys)) y w (Var w) p l.keeps.types in
    let same = append_assoc (scope_of h) ys (Y y w) in
    record {
      scope = subst (λ U. scope_kept U ≡ true) same (scope_kept-push (scope_of h ++ ys) (record { 0 = y }) (Var w) l.scope o.new o.width);
      vars = all_both (λ (z : Name × Kind). IsVariable z.1) ys (Y y w) l.vars (tt, tt);
      filled = subst (λ U. is_pair (variables U) ≡ true) same (pair_more (scope_of h ++ ys) (Y y w) l.filled);
      keeps = subst (λ U. Keeps (environment U) p) same (declared_keeps (scope_of h ++ ys) y w p l.keeps);
      few = subst (λ U. IsFew U p) same l.few;
      spared = λ t g. hidden_not (eqb t y) (free p t) (target_other h ys t y g o.new) (l.spared t g);
    }

pub clear_within : (h : Header) (ys : List (Name × Kind)) (s : Values) (y v : ℕ) (w : Width) → IsClear h ys s → environment (scope_of h ++ ys) y ≡ None → v < 2 ^ bits_of w
    → IsClear h (ys ++ Y y w) (with_value s y v)
clear_within h ys s y v w c n small = record {
  state = subst (λ U. IsState (environment U) (with_value s y v)) (append_assoc (scope_of h) ys (Y y w)) here;
  clear = λ t g. ap (λ b. cond b v (s t)) (target_other h ys t y g n) ∙ c.clear t g;
}
  where
    pushed : (x : ℕ) → environment ((scope_of h ++ ys) ++ Y y w) x ≡ cond (eqb x y) (Some (Var w)) (environment (scope_of h ++ ys) x)
    pushed x = ap (λ Γ. Γ x) (environment-push (scope_of h ++ ys) (record { 0 = y }) (Var w) n)

    by : (x : ℕ) (u : Width) (b : Bool) → variable_kind (cond b (Some (Var w)) (environment (scope_of h ++ ys) x)) ≡ Some u → cond b v (s x) < 2 ^ bits_of u
    by x u true e = subst (λ z. v < 2 ^ bits_of z) (some_is e) small
    by x u false e = c.state x u e

    here : IsState (environment ((scope_of h ++ ys) ++ Y y w)) (with_value s y v)
    here x u e = by x u (eqb x y) (sym (ap variable_kind (pushed x)) ∙ e)

begun : (h : Header) (n : ℕ) (ys : List (Name × Kind)) (s : Values) (y : ℕ) (w : Width) (p : Tree) (b : Waiting × Tree) → IsLeft h ys (declare y w p) → IsClear h ys s
    → weight (declare y w p) ≤ n → BeginsWith (scope_of h ++ ys) s y w p b → IsOpenBranch h n (b.0, declaring_all ys b.1)
begun h n ys s y w p b l c below i =
    let o = opened (environment (scope_of h ++ ys)) y w (Var w) p l.keeps.types in
    let s' : Values = with_value s y i.value in
    subst (λ (z : Waiting × Tree). IsOpenBranch h n (z.0, declaring_all ys z.1)) (sym i.form)
    (at_once (declaring_all ys (declare y w (seq (two (told ((scope_of h ++ ys) ++ Y y w) s') p)))) (record {
      ys = ys ++ Y y w;
      state = s';
      left = p;
      form = declaring_behind ys y w (seq (two (told ((scope_of h ++ ys) ++ Y y w) s') p))
          ∙ ap (λ U. declaring_all (ys ++ Y y w) (seq (two (told U s') p))) (append_assoc (scope_of h) ys (Y y w));
      is_left = left_within h ys y w p l;
      is_clear = clear_within h ys s y i.value w c o.new i.small;
      light = omega (arith, below);
    }))

all_begun : (h : Header) (n : ℕ) (ys : List (Name × Kind)) (s : Values) (y : ℕ) (w : Width) (p : Tree) (bs : List (Waiting × Tree)) → IsLeft h ys (declare y w p)
    → IsClear h ys s → weight (declare y w p) ≤ n → AllByRecursion (BeginsWith (scope_of h ++ ys) s y w p) bs → AllByRecursion (IsOpenBranch h n) (each_declaring ys bs)
all_begun h n ys s y w p [] l c below all = tt
all_begun h n ys s y w p (b ∷ bs) l c below all = (begun h n ys s y w p b l c below all.0, all_begun h n ys s y w p bs l c below all.1)

pub variable_opens : (h : Header) → IsHeader h → (n : ℕ) (ys : List (Name × Kind)) (s : Values) (y : ℕ) (w : Width) (p : Tree) → IsLeft h ys (declare y w p)
    → IsClear h ys s → weight (declare y w p) ≤ n → ComesTo h (IsOpenBranch h n) (in_state (scope_of h) ys s (declare y w p))
variable_opens h is n ys s y w p l c below =
    let T = scope_of h ++ ys in
    let i = told_in h ys (declare y w p) s l c in
    let b = declared_begins T s y w p i l.keeps in
    let a = state_leads h ys s (declare y w p) (alt (guarded b.branches)) l b.leads in
    let k = declaring_keeps (scope_of h) ys (seq (two (told T s) (declare y w p))) l.vars l.scope (both_keep T s (declare y w p) i l.keeps) in
    let into = declarations_go_in (scope_of h) ys b.branches l.vars (none_named T s y w p b.branches ys b.each) l.scope (leads_keep (scope_of h) is.kept k a) in
    record {
      part = alt (guarded (each_declaring ys b.branches));
      leads = leads_on (scope_of h) a into;
      outcome = goes_on (each_declaring ys b.branches) (all_begun h n ys s y w p b.branches l c below b.each);
    }
