-- What follows an input, behind a value of the variable that took it in, is a configuration.
use Rattle.std.proofs.Common.{◌≡◌, ◌∙◌, ◌++◌, ◌==◌, ◌<◌, ◌^◌, ℕ, Bool, false, true, if◌then◌else◌, List, [], ◌∷◌, Option, None, Some, refl, sym, ap, subst, map}
use Rattle.std.proofs.lemmas.Bool.{eqb-true}
use Rattle.std.specs.List.{AllByRecursion}
use Rattle.occ_derive_laws.specs.occ_base.declared.names.Name.{Name}
use Rattle.occ_derive_laws.specs.occ_base.declared.width.Width.{Width}
use Rattle.occ_derive_laws.specs.occ_base.Width.{bits_of}
use Rattle.occ_derive_laws.specs.occ_derive_moves.Unified.{is_target}
use Rattle.occ_complete_states.proofs.Values.{gets, gets_keeps}
use Rattle.occ_complete_states.proofs.Evaluating.{wide_entry}
use Rattle.occ_complete_states.proofs.Opening.{kind_front}
use Rattle.occ_complete_states.proofs.Turning.{given_at, given_keeps}
use Rattle.occ_derive_laws.proofs.Declared.{round_first}
use Rattle.occ_derive_laws.proofs.Turns.{first_keeps, none_keeps, with_first}
use Rattle.occ_complete_states.proofs.Leading.{declared_leads, declaring_leads, law_leads_back, leads_itself, leads_on}
use Rattle.occ_complete_states.proofs.Scopes.{declared_keeps, declaring_keeps}
use Rattle.occ_complete_states.specs.Configured.{IsConfigured, IsGiven}
use Rattle.occ_complete_states.specs.Headers.{IsHeader}
use Rattle.occ_complete_states.specs.Leads.{Leads}
use Rattle.occ_complete_states.specs.States.{facts_given, in_state, scope_of, told, told_given}
use Rattle.occ_complete_states.proofs.Beginning.{both_join, constant_stays, first_in_one, sides_are, value_for_map, variable_in}
use Rattle.occ_complete_states.proofs.Facts.{all_listed}
use Rattle.occ_complete_states.specs.Telling.{IsTold}
use Rattle.occ_derive_laws.proofs.from_meaning.Facts.{at_itself, false_not_true, none_not_some, off_turned, some_is}
use Rattle.occ_derive_laws.specs.occ_meaning.Parallel.{one, two}
use Rattle.occ_derive_laws.specs.occ_meaning.Substitution.{substituted, value_for}
use Rattle.occ_derive_laws.specs.occ_syntax.declared.scope.Kind.{Kind}
use Rattle.occ_derive_laws.specs.occ_syntax.declared.scope.Kind.TheVariants.{Chan, Var}
use Rattle.occ_derive_laws.specs.occ_syntax.Declarations.{declaring_all}
use Rattle.occ_derive_laws.specs.occ_syntax.Scopes.{IsState, Values, environment, variable_kind, variable_width, with_value}
use Rattle.occ_derive_laws.specs.occ_syntax.Tree.{Exp, Tree, assign, no_tree, seq, variable}
use Rattle.occ_derive_laws.specs.occ_syntax.Types.{is_width}
use Rattle.occ_derive_laws.specs.occ_syntax.Usage.{Keeps}
use Rattle.occ_derive_laws.specs.occ_target.States.{constant, variables}
use Rattle.occ_derive_laws.specs.occ_target_laws.Bodies.{IsVariable}
use Rattle.occ_derive_laws.specs.occ_target_laws.Shapes.{Header}

pub variable_there : (o : Option Kind) (w : Width) → variable_kind o ≡ Some w → o ≡ Some (Var w)
variable_there (Some (Var v)) w e = ap (λ z. Some (Var z)) (some_is e)
variable_there (Some (Chan v d)) w e = none_not_some e
variable_there None w e = none_not_some e

-- ---- declarations come round an assignment

come_round : (S ys : List (Name × Kind)) (xs : List ℕ) (es : List Exp) (p : Tree) → AllByRecursion (λ (y : Name × Kind). IsVariable y.1) ys
    → Keeps (environment S) (seq (two (assign xs es) (declaring_all ys p)))
    → Leads S (seq (two (assign xs es) (declaring_all ys p))) (declaring_all ys (seq (two (assign xs es) p)))
come_round S [] xs es p vars k = leads_itself S (seq (two (assign xs es) p))
come_round S ((name, Chan w d) ∷ ys) xs es p vars k = absurd vars.0
come_round S ((name, Var w) ∷ ys) xs es p vars k =
    let law = round_first S name.0 w (assign xs es) (declaring_all ys p) k refl in
    leads_on S (law_leads_back S 49 law)
    (declared_leads S name.0 w (come_round (S ++ (name, Var w) ∷ []) ys xs es p vars.1 (declared_keeps S name.0 w (seq (two (assign xs es) (declaring_all ys p))) law.left)))

-- ---- what was input goes to the variable that is to have it

module _ (T : List (Name × Kind)) (s : Values) (i : IsTold T s) (x t : ℕ) (w : Width) (ex : variable_width (environment T) x ≡ Some w)
    (et : variable_width (environment T) t ≡ Some w) (v : ℕ) where
  wide : is_width w ≡ true
  wide = wide_entry T x (Var w) i.scope (variable_there (environment T x) w ex)

  value_at : (front back : ℕ → Exp) → ((u : ℕ) → front u ≡ value_for (t ∷ []) (constant w v ∷ []) u)
      → ((u : ℕ) → back u ≡ value_for (variables T) (facts_given T s x t) u) → (u : ℕ) (z : Width) → environment T u ≡ Some (Var z)
      → substituted (variables T) (map front (variables T)) (back u) ≡ constant z (with_value s x v u)
  value_at front back f g u z e = at (u == x) refl
    where
      at : (b : Bool) → (u == x) ≡ b → substituted (variables T) (map front (variables T)) (back u) ≡ constant z (if b then v else s u)
      at true n =
          let same : w ≡ z = some_is (sym ex ∙ (ap (variable_width (environment T)) (sym (eqb-true u x n)) ∙ ap variable_kind e)) in
          ap (substituted (variables T) (map front (variables T))) (g u ∙ (given_at T s x t u z e ∙ ap (λ b. if b then variable t else constant z (s u)) n))
          ∙ (value_for_map (variables T) front t (variable_in T t w (variable_there (environment T t) w et))
          ∙ (f t ∙ (ap (λ b. if b then constant w v else variable t) (at_itself t) ∙ ap (λ y. constant y v) same)))
      at false n =
          ap (substituted (variables T) (map front (variables T))) (g u ∙ (given_at T s x t u z e ∙ ap (λ b. if b then variable t else constant z (s u)) n))
          ∙ constant_stays (variables T) (map front (variables T)) z (s u)

  given_joins : v < 2 ^ bits_of w → Keeps (environment T) (told_given T s x t) → Leads T (seq (two (gets t w v) (told_given T s x t))) (told T (with_value s x v))
  given_joins small k =
      let both = with_first (environment T) (gets t w v) (one (told_given T s x t)) (gets_keeps T i.scope t w wide et v small)
      (with_first (environment T) (told_given T s x t) no_tree k (none_keeps (environment T))) in
      let j = both_join T i.scope (t ∷ []) (constant w v ∷ []) (variables T) (facts_given T s x t) both in
      subst (λ es. Leads T (seq (two (gets t w v) (told_given T s x t))) (assign (variables T) es))
      (sides_are (environment T) j.back (substituted (variables T) (map j.front (variables T))) (with_value s x v) T (all_listed T i.scope)
      (value_at j.front j.back j.front_is j.back_is))
      j.leads

  pub behind_value : (p : Tree) → v < 2 ^ bits_of w → Keeps (environment T) (seq (two (told_given T s x t) p))
      → Leads T (seq (two (gets t w v) (seq (two (told_given T s x t) p)))) (seq (two (told T (with_value s x v)) p))
  behind_value p small k =
      let all = with_first (environment T) (gets t w v) (one (seq (two (told_given T s x t) p))) (gets_keeps T i.scope t w wide et v small)
      (with_first (environment T) (seq (two (told_given T s x t) p)) no_tree k (none_keeps (environment T))) in
      first_in_one T (gets t w v) (told_given T s x t) (told T (with_value s x v)) p i.scope all
      (given_joins small (first_keeps (environment T) (told_given T s x t) (one p) k))

-- ---- a configuration

-- the part leads to a configuration
pub record Becomes (h : Header) (limit : ℕ) (p : Tree) : Type 0 where
  pub part : Tree
  pub is : IsConfigured h limit part
  pub leads : Leads (scope_of h) p part

module _ (h : Header) (is : IsHeader h) (t : ℕ) (w : Width) (target : is_target h t ≡ true) (et : variable_width (environment (scope_of h)) t ≡ Some w) where
  pub target_wide : is_width w ≡ true
  target_wide = wide_entry (scope_of h) t (Var w) is.kept (variable_there (environment (scope_of h) t) w et)

  apart : (x y : ℕ) → is_target h x ≡ false → is_target h y ≡ true → (b : Bool) → (y == x) ≡ b → b ≡ false
  apart x y off on true e = false_not_true (sym off ∙ (ap (is_target h) (sym (eqb-true y x e)) ∙ on))
  apart x y off on false e = refl

  pub given_becomes : (limit : ℕ) (c : Tree) → IsGiven h t limit c → (v : ℕ) → v < 2 ^ bits_of w → Becomes h limit (seq (two (gets t w v) c))
  given_becomes limit c g v small =
      let S = scope_of h in
      let T = scope_of h ++ g.ys in
      let s = g.state in
      let x = g.var in
      let told_is : IsTold T s = record { scope = g.is_left.scope; filled = g.is_left.filled; state = g.is_clear.state } in
      let same : g.width ≡ w = some_is (sym g.given_width ∙ et) in
      let ex : variable_width (environment T) x ≡ Some w = g.var_width ∙ ap (λ z. Some z) same in
      let etT : variable_width (environment T) t ≡ Some w = kind_front S g.ys t w et in
      let differ : (x == t) ≡ false = off_turned t x (apart x t g.other target (t == x) refl) in
      let kept = given_keeps T s told_is x t w ex etT differ g.left g.is_left.keeps in
      let inner = seq (two (told_given T s x t) g.left) in
      let all = with_first (environment S) (gets t w v) (one (declaring_all g.ys inner)) (gets_keeps S is.kept t w target_wide et v small)
      (with_first (environment S) (declaring_all g.ys inner) no_tree (declaring_keeps S g.ys inner g.is_left.vars g.is_left.scope kept) (none_keeps (environment S))) in
      let round = come_round S g.ys (t ∷ []) (constant w v ∷ []) inner g.is_left.vars all in
      let there = declaring_leads S g.ys g.is_left.vars (behind_value T s told_is x t w ex etT v g.left small kept) in
      let now = with_value s x v in
      record {
        part = in_state S g.ys now g.left;
        leads = subst (λ z. Leads S (seq (two (gets t w v) z)) (in_state S g.ys now g.left)) (sym g.form) (leads_on S round there);
        is = record {
          ys = g.ys;
          state = now;
          left = g.left;
          form = refl;
          is_left = g.is_left;
          is_clear = record { state = λ u z e. state_at T s g.is_clear.state x ex u z e (u == x) refl; clear = λ u e. clear_at (s u) (g.is_clear.clear u e) (u == x) (apart x u g.other e (u == x) refl) };
          light = g.light;
        };
      }
    where
      state_at : (T : List (Name × Kind)) (s : Values) → IsState (environment T) s → (x : ℕ) → variable_width (environment T) x ≡ Some w
          → (u : ℕ) (z : Width) → variable_width (environment T) u ≡ Some z → (b : Bool) → (u == x) ≡ b → (if b then v else s u) < 2 ^ bits_of z
      state_at T s held x ex u z e true n =
          let same : w ≡ z = some_is (sym ex ∙ (ap (variable_width (environment T)) (sym (eqb-true u x n)) ∙ e)) in
          subst (λ y. v < 2 ^ bits_of y) same small
      state_at T s held x ex u z e false n = held u z e

      clear_at : (n : ℕ) → n ≡ 0 → (b : Bool) → b ≡ false → (if b then v else n) ≡ 0
      clear_at n e true f = cc
      clear_at n e false f = e
