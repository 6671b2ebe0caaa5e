-- Two assignments as one, and a declared variable that begins with each of its values.
use Rattle.std.proofs.Common.{arith, ◌≡◌, ◌∙◌, ℕ, zero, suc, ◌+◌, ◌<◌, ◌≤◌, ◌^◌, Bool, true, false, ◌||◌, cond, eqb, ◌==◌, if◌then◌else◌, List, [], ◌∷◌, ◌++◌, Option, Some, None, refl, sym, ap, subst, map}
use Rattle.std.proofs.lemmas.Bool.{eqb-true, or_left}
use Rattle.std.proofs.lemmas.List.{map-append}
use Rattle.std.specs.List.{AllByRecursion}
use Rattle.occ_derive_laws.specs.occ_base.declared.names.Name.{Name}
use Rattle.occ_derive_laws.specs.occ_base.declared.width.Width.{Width}
use Rattle.occ_derive_laws.specs.occ_base.declared.width.Width.TheVariants.{Bool as Truth, Word}
use Rattle.occ_derive_laws.specs.occ_base.Width.{bits_of}
use Rattle.occ_derive_laws.proofs.Declared.{round_first}
use Rattle.occ_derive_laws.proofs.Opened.{agree_both, declared_width, opened}
use Rattle.occ_derive_laws.proofs.Values.{any_value}
use Rattle.occ_derive_laws.proofs.Pairs.{and_pair, assign_keeps, join_law}
use Rattle.occ_derive_laws.proofs.Turns.{first_keeps, flat_law, flat_law_back, none_keeps, rest_keeps, with_first}
use Rattle.occ_complete_states.proofs.Leading.{declared_leads, first_leads, law_leads, law_leads_back, leads_keep, leads_on, second_leads}
use Rattle.occ_complete_states.proofs.Pointwise.{branches_lead}
use Rattle.occ_complete_states.proofs.Scopes.{declared_keeps}
use Rattle.occ_complete_states.specs.Leads.{BranchesLead, Leads, and_branches, no_branches}
use Rattle.occ_complete_states.specs.States.{facts, told}
use Rattle.occ_complete_states.proofs.Ending.{facts_append, variables_append}
use Rattle.occ_complete_states.proofs.Facts.{IsListed, all_held, all_listed, constant_type, facts_kept, no_width, not_variable, told_keeps}
use Rattle.occ_complete_states.proofs.Telling.{IsWidened, widened}
use Rattle.occ_complete_states.specs.Telling.{Begins, BeginsWith, IsTold}
use Rattle.occ_derive_laws.specs.occ_law.Scope.{each_value, values_of, words_from}
use Rattle.occ_derive_laws.proofs.from_meaning.Facts.{at_itself, false_not_true, none_not_some, some_is}
use Rattle.occ_derive_laws.proofs.from_meaning.Substituting.{nothing_substituted}
use Rattle.occ_derive_laws.specs.occ_meaning.Parallel.{one, two}
use Rattle.occ_derive_laws.specs.occ_meaning.Substitution.{substituted, value_for}
use Rattle.occ_derive_laws.proofs.from_script_lines.Scoping.{scope_kept-push}
use Rattle.occ_derive_laws.specs.occ_syntax.declared.scope.Kind.{Kind}
use Rattle.occ_derive_laws.specs.occ_syntax.declared.scope.Kind.TheVariants.{Chan, Var}
use Rattle.occ_derive_laws.specs.occ_syntax.Names.{is_in}
use Rattle.occ_derive_laws.specs.occ_syntax.Scopes.{Environment, Values, environment, variable_kind, variable_width, with_name, with_value}
use Rattle.occ_derive_laws.specs.occ_syntax.Tree.{Exp, Tree, Waiting, alt, assign, declare, no_tree, ready, seq, variable}
use Rattle.occ_derive_laws.specs.occ_syntax.Types.{is_width, pairs_kept, scope_kept, type_of}
use Rattle.occ_derive_laws.specs.occ_syntax.Usage.{Keeps}
use Rattle.occ_derive_laws.specs.occ_target.Rows.{guarded}
use Rattle.occ_derive_laws.specs.occ_target.States.{constant, variables}
use Rattle.occ_derive_laws.proofs.from_usage.Scoped.{environment-push}

-- ---- two assignments as one to all variables

-- the one assignment: what each variable gets
pub record IsJoined (T : List (Name × Kind)) (zs : List ℕ) (es : List Exp) (us : List ℕ) (fs : List Exp) : Type 0 where
  pub front : ℕ → Exp
  pub back : ℕ → Exp
  pub leads : Leads T (seq (two (assign zs es) (assign us fs)))
      (assign (variables T) (map (substituted (variables T) (map front (variables T))) (map back (variables T))))
  pub back_to : Leads T (assign (variables T) (map (substituted (variables T) (map front (variables T))) (map back (variables T))))
      (seq (two (assign zs es) (assign us fs)))
  pub front_is : (x : ℕ) → front x ≡ value_for zs es x
  pub back_is : (x : ℕ) → back x ≡ value_for us fs x

pub both_join : (T : List (Name × Kind)) → scope_kept T ≡ true → (zs : List ℕ) (es : List Exp) (us : List ℕ) (fs : List Exp)
    → Keeps (environment T) (seq (two (assign zs es) (assign us fs))) → IsJoined T zs es us fs
both_join T h zs es us fs k =
    let k1 = first_keeps (environment T) (assign zs es) (one (assign us fs)) k in
    let k2 = first_keeps (environment T) (assign us fs) no_tree (rest_keeps (environment T) (assign zs es) (one (assign us fs)) k) in
    let a = widened T h zs es k1 in
    let b = widened T h us fs k2 in
    let first = first_leads T (one (assign us fs)) a.leads in
    let second = second_leads T (assign (variables T) (map a.sides (variables T))) no_tree b.leads in
    let wide = leads_on T first second in
    let law = join_law T (variables T) (map a.sides (variables T)) (map b.sides (variables T)) (leads_keep T h k wide) in
    record {
      front = a.sides;
      back = b.sides;
      front_is = a.same;
      back_is = b.same;
      leads = leads_on T wide (law_leads T 9 law);
      back_to = leads_on T (law_leads_back T 9 law)
          (leads_on T (second_leads T (assign (variables T) (map a.sides (variables T))) no_tree b.back) (first_leads T (one (assign us fs)) a.back));
    }

pub value_for_map : (xs : List ℕ) (f : ℕ → Exp) (x : ℕ) → is_in xs x ≡ true → value_for xs (map f xs) x ≡ f x
value_for_map [] f x e = false_not_true e
value_for_map (z ∷ xs) f x e = at (x == z) refl (is_in xs x) e (λ g. value_for_map xs f x g)
  where
    at : (b : Bool) → (x == z) ≡ b → (c : Bool) → (b || c) ≡ true → (c ≡ true → value_for xs (map f xs) x ≡ f x)
        → (if b then f z else value_for xs (map f xs) x) ≡ f x
    at true g c k further = ap f (sym (eqb-true x z g))
    at false g c k further = further k

pub constant_stays : (xs : List ℕ) (es : List Exp) (w : Width) (v : ℕ) → substituted xs es (constant w v) ≡ constant w v
constant_stays xs es Truth v = refl
constant_stays xs es (Word bits) v = refl

-- ---- what a state tells of a variable

kind_is : {v w : Width} → Some (Var v) ≡ Some (Var w) → v ≡ w
kind_is {v} {w} e = some_is (ap variable_kind e)

pub fact_at : (A : List (Name × Kind)) (s : Values) (x : ℕ) (w : Width) → environment A x ≡ Some (Var w) → value_for (variables A) (facts A s) x ≡ constant w (s x)
fact_at [] s x w e = none_not_some e
fact_at ((name, Chan v d) ∷ A) s x w e = at (eqb x name.0) e (λ f. fact_at A s x w f)
  where
    at : (b : Bool) → cond b (Some (Chan v d)) (environment A x) ≡ Some (Var w) → (environment A x ≡ Some (Var w) → value_for (variables A) (facts A s) x ≡ constant w (s x))
        → value_for (variables A) (facts A s) x ≡ constant w (s x)
    at true f further = none_not_some (ap variable_kind f)
    at false f further = further f
fact_at ((name, Var v) ∷ A) s x w e = at (eqb x name.0) refl e (λ f. fact_at A s x w f)
  where
    at : (b : Bool) → eqb x name.0 ≡ b → cond b (Some (Var v)) (environment A x) ≡ Some (Var w)
        → (environment A x ≡ Some (Var w) → value_for (variables A) (facts A s) x ≡ constant w (s x))
        → (if b then constant v (s name.0) else value_for (variables A) (facts A s) x) ≡ constant w (s x)
    at true g f further = ap (λ u. constant u (s name.0)) (kind_is f) ∙ ap (λ z. constant w (s z)) (sym (eqb-true x name.0 g))
    at false g f further = further f

-- the sides of one assignment to all variables are those of a state, where they are for each
pub sides_are : (Γ : Environment) (f : ℕ → Exp) (g : Exp → Exp) (s : Values) (U : List (Name × Kind)) → AllByRecursion (IsListed Γ) U
    → ((x : ℕ) (w : Width) → Γ x ≡ Some (Var w) → g (f x) ≡ constant w (s x)) → map g (map f (variables U)) ≡ facts U s
sides_are Γ f g s [] l each = refl
sides_are Γ f g s ((name, Chan v d) ∷ U) l each = sides_are Γ f g s U l.1 each
sides_are Γ f g s ((name, Var v) ∷ U) l each =
    ap (λ e. e ∷ map g (map f (variables U))) (each name.0 v l.0) ∙ ap (λ es. constant v (s name.0) ∷ es) (sides_are Γ f g s U l.1 each)

-- two assignments to all variables are one where the sides are the same for each
pub sides_agree : (Γ : Environment) (f k : ℕ → Exp) (g j : Exp → Exp) (U : List (Name × Kind)) → AllByRecursion (IsListed Γ) U
    → ((x : ℕ) (w : Width) → Γ x ≡ Some (Var w) → g (f x) ≡ j (k x)) → map g (map f (variables U)) ≡ map j (map k (variables U))
sides_agree Γ f k g j [] l each = refl
sides_agree Γ f k g j ((name, Chan v d) ∷ U) l each = sides_agree Γ f k g j U l.1 each
sides_agree Γ f k g j ((name, Var v) ∷ U) l each =
    ap (λ e. e ∷ map g (map f (variables U))) (each name.0 v l.0) ∙ ap (λ es. j (k name.0) ∷ es) (sides_agree Γ f k g j U l.1 each)

pub variable_in : (T : List (Name × Kind)) (x : ℕ) (w : Width) → environment T x ≡ Some (Var w) → is_in (variables T) x ≡ true
variable_in T x w e = at (is_in (variables T) x) refl
  where
    at : (b : Bool) → is_in (variables T) x ≡ b → b ≡ true
    at true f = refl
    at false f = none_not_some (sym (no_width T x f) ∙ ap variable_kind e)

pub unlisted_stands : (xs : List ℕ) (es : List Exp) (y : ℕ) → is_in xs y ≡ false → value_for xs es y ≡ variable y
unlisted_stands xs es y h = nothing_substituted xs es (variable y) (λ x k. subst (λ z. is_in xs z ≡ false) (sym (eqb-true x y k)) h)

-- ---- a part behind two

pub first_in_one : (T : List (Name × Kind)) (a b c p : Tree) → scope_kept T ≡ true → Keeps (environment T) (seq (two a (seq (two b p)))) → Leads T (seq (two a b)) c
    → Leads T (seq (two a (seq (two b p)))) (seq (two c p))
first_in_one T a b c p h k l =
    let flat = law_leads T 3 (flat_law T (one a) (two b p) no_tree k) in
    let again = law_leads_back T 3 (flat_law_back T no_tree (two a b) (one p) (leads_keep T h k flat)) in
    leads_on T (leads_on T flat again) (first_leads T (one p) l)

-- ---- one value

abbrev with_one : List (Name × Kind) → ℕ → Width → List (Name × Kind)
with_one T y w = T ++ (record { 0 = y }, Var w) ∷ []

all_front : {A : Type 0} (P : A → Type 0) (xs ys : List A) → AllByRecursion P (xs ++ ys) → AllByRecursion P xs
all_front P [] ys all = tt
all_front P (x ∷ xs) ys all = (all.0, all_front P xs ys all.1)

module _ (T : List (Name × Kind)) (s : Values) (i : IsTold T s) (y : ℕ) (w : Width) (n : environment T y ≡ None) (wide : is_width w ≡ true) where
  longer : scope_kept (with_one T y w) ≡ true
  longer = scope_kept-push T (record { 0 = y }) (Var w) i.scope n wide

  pushed : (x : ℕ) → environment (with_one T y w) x ≡ cond (eqb x y) (Some (Var w)) (environment T x)
  pushed x = ap (λ Γ. Γ x) (environment-push T (record { 0 = y }) (Var w) n)

  told_longer : Keeps (environment (with_one T y w)) (told T s)
  told_longer = assign_keeps (environment (with_one T y w)) (variables T) (facts T s) i.filled
      (facts_kept (environment (with_one T y w)) T s i.scope (all_front (IsListed (environment (with_one T y w))) T ((record { 0 = y }, Var w) ∷ []) (all_listed (with_one T y w) longer))
      (all_held (environment T) T s i.state (all_listed T i.scope)))

  one_keeps : (v : ℕ) → v < 2 ^ bits_of w → Keeps (environment (with_one T y w)) (assign (y ∷ []) (constant w v ∷ []))
  one_keeps v small = assign_keeps (environment (with_one T y w)) (y ∷ []) (constant w v ∷ []) refl
      (and_pair (environment (with_one T y w)) y [] (constant w v) [] (record {
        typed = agree_both (variable_width (environment (with_one T y w)) y) (type_of (environment (with_one T y w)) (constant w v)) w
            (ap variable_kind (pushed y ∙ ap (λ b. cond b (Some (Var w)) (environment T y)) (at_itself y))) (constant_type (environment (with_one T y w)) w v wide small);
        once = refl;
        rest = refl;
      }))

  value_at : (v : ℕ) (front back : ℕ → Exp) → ((x : ℕ) → front x ≡ value_for (y ∷ []) (constant w v ∷ []) x) → ((x : ℕ) → back x ≡ value_for (variables T) (facts T s) x)
      → (x : ℕ) (u : Width) → environment (with_one T y w) x ≡ Some (Var u)
      → substituted (variables (with_one T y w)) (map front (variables (with_one T y w))) (back x) ≡ constant u (with_value s y v x)
  value_at v front back f g x u e = at (eqb x y) refl (sym (pushed x) ∙ e)
    where
      vs : List ℕ
      vs = variables (with_one T y w)

      at : (b : Bool) → eqb x y ≡ b → cond b (Some (Var w)) (environment T x) ≡ Some (Var u)
          → substituted (variables (with_one T y w)) (map front (variables (with_one T y w))) (back x) ≡ constant u (cond b v (s x))
      at true h k =
          let same : x ≡ y = eqb-true x y h in
          ap (substituted (variables (with_one T y w)) (map front (variables (with_one T y w))))
          (g x ∙ (unlisted_stands (variables T) (facts T s) x (subst (λ z. is_in (variables T) z ≡ false) (sym same) (not_variable T y n))))
          ∙ (value_for_map (variables (with_one T y w)) front x (variable_in (with_one T y w) x u e)
          ∙ (f x ∙ (ap (λ b. if b then constant w v else variable x) h ∙ ap (λ z. constant z v) (kind_is k))))
      at false h k =
          ap (substituted (variables (with_one T y w)) (map front (variables (with_one T y w)))) (g x ∙ fact_at T s x u k)
          ∙ constant_stays (variables (with_one T y w)) (map front (variables (with_one T y w))) u (s x)

  value_begins : (v : ℕ) → v < 2 ^ bits_of w
      → Leads (with_one T y w) (seq (two (assign (y ∷ []) (constant w v ∷ [])) (told T s))) (told (with_one T y w) (with_value s y v))
  value_begins v small =
      let L = with_one T y w in
      let k = with_first (environment L) (assign (y ∷ []) (constant w v ∷ [])) (one (told T s)) (one_keeps v small) (with_first (environment L) (told T s) no_tree told_longer (none_keeps (environment L))) in
      let j = both_join L longer (y ∷ []) (constant w v ∷ []) (variables T) (facts T s) k in
      subst (λ es. Leads L (seq (two (assign (y ∷ []) (constant w v ∷ [])) (told T s))) (assign (variables L) es))
      (sides_are (environment L) j.back (substituted (variables L) (map j.front (variables L))) (with_value s y v) L (all_listed L longer)
      (value_at v j.front j.back j.front_is j.back_is))
      j.leads

  -- the part with that value
  branch_begins : (p : Tree) → Keeps (environment (with_one T y w)) p → (v : ℕ) → v < 2 ^ bits_of w
      → Leads T (declare y w (seq (two (assign (y ∷ []) (constant w v ∷ [])) (seq (two (told T s) p)))))
      (declare y w (seq (two (told (with_one T y w) (with_value s y v)) p)))
  branch_begins p k v small =
      let L = with_one T y w in
      let rest = with_first (environment L) (told T s) (one p) told_longer (with_first (environment L) p no_tree k (none_keeps (environment L))) in
      let all = with_first (environment L) (assign (y ∷ []) (constant w v ∷ [])) (one (seq (two (told T s) p))) (one_keeps v small)
      (with_first (environment L) (seq (two (told T s) p)) no_tree rest (none_keeps (environment L))) in
      declared_leads T y w (first_in_one L (assign (y ∷ []) (constant w v ∷ [])) (told T s) (told L (with_value s y v)) p longer all (value_begins v small))

-- ---- all values

record IsValue (w : Width) (e : Exp) : Type 0 where
  value : ℕ
  small : value < 2 ^ bits_of w
  form : e ≡ constant w value

words_are : (bits v n : ℕ) → v + n ≤ 2 ^ bits → AllByRecursion (IsValue (Word bits)) (words_from bits v n)
words_are bits v zero h = tt
words_are bits v (suc n) h = (record { value = v; small = omega (arith, h); form = refl }, words_are bits (v + 1) n (omega (arith, h)))

values_are : (w : Width) → AllByRecursion (IsValue w) (values_of w)
values_are Truth = (record { value = 0; small = omega arith; form = refl }, (record { value = 1; small = omega arith; form = refl }, tt))
values_are (Word bits) = words_are bits 0 (2 ^ bits) (omega arith)

record AreBegun (T : List (Name × Kind)) (s : Values) (y : ℕ) (w : Width) (p : Tree) (vs : List Exp) : Type 0 where
  branches : List (Waiting × Tree)
  each : AllByRecursion (BeginsWith T s y w p) branches
  lead : BranchesLead T (each_value y w (seq (two (told T s) p)) vs) (guarded branches)

all_begun : (T : List (Name × Kind)) (s : Values) (i : IsTold T s) (y : ℕ) (w : Width) (n : environment T y ≡ None) (wide : is_width w ≡ true) (p : Tree)
    → Keeps (environment (with_one T y w)) p → (vs : List Exp) → AllByRecursion (IsValue w) vs → AreBegun T s y w p vs
all_begun T s i y w n wide p k [] all = record { branches = []; each = tt; lead = no_branches }
all_begun T s i y w n wide p k (e ∷ vs) all =
    let more = all_begun T s i y w n wide p k vs all.1 in
    let v = all.0.value in
    record {
      branches = (ready, declare y w (seq (two (told (with_one T y w) (with_value s y v)) p))) ∷ more.branches;
      each = (record { value = v; small = all.0.small; form = refl }, more.each);
      lead = and_branches
          (subst (λ c. Leads T (declare y w (seq (two (assign (y ∷ []) (c ∷ [])) (seq (two (told T s) p))))) (declare y w (seq (two (told (with_one T y w) (with_value s y v)) p))))
          (sym all.0.form) (branch_begins T s i y w n wide p k v all.0.small))
          more.lead;
    }

pub declared_begins : (T : List (Name × Kind)) (s : Values) (y : ℕ) (w : Width) (p : Tree) → IsTold T s → Keeps (environment T) (declare y w p) → Begins T s y w p
declared_begins T s y w p i k =
    let o = opened (environment T) y w (Var w) p k.types in
    let both = with_first (environment T) (told T s) (one (declare y w p)) (told_keeps T s i) (with_first (environment T) (declare y w p) no_tree k (none_keeps (environment T))) in
    let round = law_leads_back T 49 (round_first T y w (told T s) p both refl) in
    let any = law_leads T 54 (any_value T y w (seq (two (told T s) p)) (leads_keep T i.scope both round)) in
    let b = all_begun T s i y w o.new o.width p (declared_keeps T y w p k) (values_of w) (values_are w) in
    record { branches = b.branches; each = b.each; leads = leads_on T round (leads_on T any (branches_lead T b.lead)) }
