-- A state with nothing behind it: the variables that are declared round it go.
use Rattle.std.proofs.Common.{arith, ◌≡◌, ◌∙◌, ℕ, ◌<◌, ◌^◌, nat_lt, Bool, true, false, ◌||◌, ◌&&◌, cond, eqb, ◌==◌, if◌then◌else◌, List, [], ◌∷◌, ◌++◌, Option, Some, None, refl, sym, ap, subst}
use Rattle.std.proofs.lemmas.Bool.{and_from, eq-eqb, eqb-true, lt-ltb, or_from, or_left, or_parts, or_right}
use Rattle.std.proofs.lemmas.List.{append-nil, append_assoc}
use Rattle.std.specs.List.{AllByRecursion}
use Rattle.occ_derive_laws.specs.occ_base.declared.names.Name.{Name}
use Rattle.occ_derive_laws.specs.occ_base.declared.width.Width.{Width}
use Rattle.occ_derive_laws.specs.occ_base.Width.{bits_of}
use Rattle.occ_derive_laws.specs.occ_behaviour.States.{is_state}
use Rattle.occ_derive_laws.specs.occ_derive_moves.Unified.{cleared, ending_cleared, is_target}
use Rattle.occ_derive_laws.proofs.Values.{pair_goes}
use Rattle.occ_complete_states.proofs.Leading.{declared_leads, law_leads, leads_itself, leads_on}
use Rattle.occ_complete_states.proofs.Scopes.{declare_keeps, last_new, scope_front}
use Rattle.occ_complete_states.specs.Configured.{IsClear}
use Rattle.occ_complete_states.specs.Headers.{IsHeader}
use Rattle.occ_complete_states.specs.Leads.{Leads}
use Rattle.occ_complete_states.specs.States.{facts, scope_of, told}
use Rattle.occ_complete_states.proofs.Facts.{IsHeld, all_held, all_listed, facts_unnamed, told_keeps}
use Rattle.occ_complete_states.specs.Telling.{Ends, IsTold}
use Rattle.occ_derive_laws.specs.occ_law.Lists.{assigned_without, assignment, names_without, values_without}
use Rattle.occ_derive_laws.proofs.from_meaning.Facts.{at_itself, false_not_true, none_not_some}
use Rattle.occ_derive_laws.specs.occ_syntax.declared.scope.Kind.{Kind}
use Rattle.occ_derive_laws.specs.occ_syntax.declared.scope.Kind.TheVariants.{Chan, Var}
use Rattle.occ_derive_laws.specs.occ_syntax.Declarations.{declaring, declaring_all}
use Rattle.occ_derive_laws.specs.occ_syntax.Names.{is_in, names, some_names}
use Rattle.occ_derive_laws.specs.occ_syntax.Scopes.{IsState, Values, environment, variable_kind, variable_width}
use Rattle.occ_derive_laws.specs.occ_syntax.Tree.{Exp, Tree, assign, declare, skip}
use Rattle.occ_derive_laws.specs.occ_syntax.Types.{is_pair, scope_kept}
use Rattle.occ_derive_laws.specs.occ_target.States.{assigning, constant, constants, variables}
use Rattle.occ_derive_laws.specs.occ_target_laws.Bodies.{IsVariable}
use Rattle.occ_derive_laws.specs.occ_target_laws.Shapes.{Header}

-- ---- lists of variables and of their values

pub variables_append : (A B : List (Name × Kind)) → variables (A ++ B) ≡ variables A ++ variables B
variables_append [] B = refl
variables_append ((name, Chan w d) ∷ A) B = variables_append A B
variables_append ((name, Var w) ∷ A) B = ap (λ l. name.0 ∷ l) (variables_append A B)

pub facts_append : (A B : List (Name × Kind)) (s : Values) → facts (A ++ B) s ≡ facts A s ++ facts B s
facts_append [] B s = refl
facts_append ((name, Chan w d) ∷ A) B s = facts_append A B s
facts_append ((name, Var w) ∷ A) B s = ap (λ l. constant w (s name.0) ∷ l) (facts_append A B s)

-- ---- the last variable goes

other_name : (x y : ℕ) (k : Kind) (S : List (Name × Kind)) → cond (eqb y x) (Some k) (environment S y) ≡ None → (eqb y x ≡ false) × (environment S y ≡ None)
other_name x y k S e = at (eqb y x) refl e
  where
    at : (b : Bool) → eqb y x ≡ b → cond b (Some k) (environment S y) ≡ None → (eqb y x ≡ false) × (environment S y ≡ None)
    at true f g = none_not_some (sym g)
    at false f g = (f, g)

names_left : (S : List (Name × Kind)) (y : ℕ) (w : Width) → environment S y ≡ None → names_without y (variables (S ++ (record { 0 = y }, Var w) ∷ [])) ≡ variables S
names_left [] y w n = ap (λ b. if b then [] else y ∷ []) (at_itself y)
names_left ((name, Chan v d) ∷ S) y w n = names_left S y w (other_name name.0 y (Chan v d) S n).1
names_left ((name, Var v) ∷ S) y w n =
    let o = other_name name.0 y (Var v) S n in
    let rest = names_without y (variables (S ++ (record { 0 = y }, Var w) ∷ [])) in
    ap (λ b. if b then rest else name.0 ∷ rest) o.0 ∙ ap (λ l. name.0 ∷ l) (names_left S y w o.1)

values_left : (S : List (Name × Kind)) (s : Values) (y : ℕ) (w : Width) → environment S y ≡ None
    → values_without y (variables (S ++ (record { 0 = y }, Var w) ∷ [])) (facts (S ++ (record { 0 = y }, Var w) ∷ []) s) ≡ facts S s
values_left [] s y w n = ap (λ b. if b then [] else constant w (s y) ∷ []) (at_itself y)
values_left ((name, Chan v d) ∷ S) s y w n = values_left S s y w (other_name name.0 y (Chan v d) S n).1
values_left ((name, Var v) ∷ S) s y w n =
    let o = other_name name.0 y (Var v) S n in
    let rest = values_without y (variables (S ++ (record { 0 = y }, Var w) ∷ [])) (facts (S ++ (record { 0 = y }, Var w) ∷ []) s) in
    ap (λ b. if b then rest else constant v (s name.0) ∷ rest) o.0 ∙ ap (λ l. constant v (s name.0) ∷ l) (values_left S s y w o.1)

none_left : (xs : List ℕ) (es : List Exp) (y x : ℕ) → some_names es x ≡ false → some_names (values_without y xs es) x ≡ false
none_left [] es y x e = refl
none_left (z ∷ xs) [] y x e = refl
none_left (z ∷ xs) (f ∷ es) y x e = at (λ g. none_left xs es y x g) (y == z) (or_parts (names f x) (some_names es x) e)
  where
    at : (some_names es x ≡ false → some_names (values_without y xs es) x ≡ false) → (b : Bool) → (names f x ≡ false) × (some_names es x ≡ false)
        → some_names (if b then values_without y xs es else f ∷ values_without y xs es) x ≡ false
    at further true p = further p.1
    at further false p = or_from (names f x) (some_names (values_without y xs es) x) p.0 (further p.1)

-- a shorter scope has less, and a state of the longer one is one of it
env_front : (A B : List (Name × Kind)) (x : ℕ) (k : Kind) → environment A x ≡ Some k → environment (A ++ B) x ≡ Some k
env_front [] B x k e = none_not_some e
env_front (a ∷ A) B x k e = at (eqb x a.0.0) e (λ f. env_front A B x k f)
  where
    at : (b : Bool) → cond b (Some a.1) (environment A x) ≡ Some k → (environment A x ≡ Some k → environment (A ++ B) x ≡ Some k) → cond b (Some a.1) (environment (A ++ B) x) ≡ Some k
    at true f further = f
    at false f further = further f

pub state_front : (A B : List (Name × Kind)) (s : Values) → IsState (environment (A ++ B)) s → IsState (environment A) s
state_front A B s i x w e = at (environment A x) refl e
  where
    at : (o : Option Kind) → environment A x ≡ o → variable_kind o ≡ Some w → s x < 2 ^ bits_of w
    at (Some (Var v)) f g = i x w (ap variable_kind (env_front A B x (Var v) f) ∙ g)
    at (Some (Chan v d)) f g = none_not_some g
    at None f g = none_not_some g

some_behind : (S : List (Name × Kind)) (y : ℕ) (w : Width) → is_pair (variables (S ++ (record { 0 = y }, Var w) ∷ [])) ≡ true
some_behind [] y w = refl
some_behind ((name, Chan v d) ∷ S) y w = some_behind S y w
some_behind ((name, Var v) ∷ S) y w = refl

as_assign : (xs : List ℕ) (es : List Exp) → is_pair xs ≡ true → assignment xs es ≡ assign xs es
as_assign [] es e = false_not_true e
as_assign (x ∷ xs) es e = refl

-- all of them go
ends_go : (S ys : List (Name × Kind)) (s : Values) → AllByRecursion (λ (y : Name × Kind). IsVariable y.1) ys → IsTold (S ++ ys) s
    → Leads S (declaring_all ys (told (S ++ ys) s)) (assignment (variables S) (facts S s))
ends_go S [] s vars i =
    let same = append-nil S in
    subst (λ U. Leads S (told U s) (assignment (variables S) (facts S s))) (sym same)
    (subst (λ p. Leads S (told S s) p) (sym (as_assign (variables S) (facts S s) (subst (λ U. is_pair (variables U) ≡ true) same i.filled))) (leads_itself S (told S s)))
ends_go S (y ∷ ys) s vars i = one y.0 y.1 vars.0 longer (λ j. ends_go (S ++ y ∷ []) ys s vars.1 j)
  where
    longer : IsTold ((S ++ y ∷ []) ++ ys) s
    longer = subst (λ U. IsTold U s) (sym (append_assoc S (y ∷ []) ys)) i

    one : (x : Name) (kind : Kind) → IsVariable kind → IsTold ((S ++ (x, kind) ∷ []) ++ ys) s
        → (IsTold ((S ++ (x, kind) ∷ []) ++ ys) s → Leads (S ++ (x, kind) ∷ []) (declaring_all ys (told ((S ++ (x, kind) ∷ []) ++ ys) s))
        (assignment (variables (S ++ (x, kind) ∷ [])) (facts (S ++ (x, kind) ∷ []) s)))
        → Leads S (declaring x.0 kind (declaring_all ys (told (S ++ (x, kind) ∷ ys) s))) (assignment (variables S) (facts S s))
    one x (Chan w d) v j further = absurd v
    one x (Var w) v j further =
        let L = S ++ (x, Var w) ∷ [] in
        let h = scope_front L ys j.scope in
        let n = last_new S x (Var w) h in
        let state = state_front L ys s j.state in
        let here : IsTold L s = record { scope = h; filled = some_behind S x.0 w; state = state } in
        let inner = subst (λ p. Leads L (declaring_all ys (told (L ++ ys) s)) p) (as_assign (variables L) (facts L s) (some_behind S x.0 w)) (further j) in
        let outer = declared_leads S x.0 w inner in
        let goes = law_leads S 55 (pair_goes S x.0 w (variables L) (facts L s) (declare_keeps S x.0 w (told L s) h (told_keeps L s here))
        (none_left (variables L) (facts L s) x.0 x.0 (facts_unnamed L s x.0))) in
        let after = subst (λ xs. Leads S (declare x.0 w (told L s)) (assignment xs (values_without x.0 (variables L) (facts L s)))) (names_left S x.0 w n.new) goes in
        let last = subst (λ es. Leads S (declare x.0 w (told L s)) (assignment (variables S) es)) (values_left S s x.0 w n.new) after in
        subst (λ U. Leads S (declare x.0 w (declaring_all ys (told U s))) (assignment (variables S) (facts S s))) (append_assoc S ((x, Var w) ∷ []) ys) (leads_on S outer last)

-- ---- what is left is an end

abbrev state_of : List (Name × Kind) → Values → List (Name × ℕ)
state_of [] s = []
state_of ((name, Chan w d) ∷ A) s = state_of A s
state_of ((name, Var w) ∷ A) s = (name, s name.0) ∷ state_of A s

facts_of_state : (A : List (Name × Kind)) (s : Values) → facts A s ≡ constants A (state_of A s)
facts_of_state [] s = refl
facts_of_state ((name, Chan w d) ∷ A) s = facts_of_state A s
facts_of_state ((name, Var w) ∷ A) s = ap (λ l. constant w (s name.0) ∷ l) (facts_of_state A s)

states_are : (A : List (Name × Kind)) (s : Values) → AllByRecursion (IsHeld s) A → is_state A (state_of A s) ≡ true
states_are [] s held = refl
states_are ((name, Chan w d) ∷ A) s held = states_are A s held.1
states_are ((name, Var w) ∷ A) s held =
    and_from _ _ (and_from _ _ (eq-eqb name.0 name.0 refl) (lt-ltb (s name.0) (2 ^ bits_of w) held.0)) (states_are A s held.1)

facts_clear : (A : List (Name × Kind)) (s : Values) → ((t : ℕ) → is_in (variables A) t ≡ true → s t ≡ 0) → facts A s ≡ cleared A
facts_clear [] s c = refl
facts_clear ((name, Chan w d) ∷ A) s c = facts_clear A s c
facts_clear ((name, Var w) ∷ A) s c =
    ap (λ n. constant w n ∷ facts A s) (c name.0 (or_left (name.0 == name.0) (is_in (variables A) name.0) (at_itself name.0)))
    ∙ ap (λ l. constant w 0 ∷ l) (facts_clear A s (λ t e. c t (or_right (t == name.0) (is_in (variables A) t) e)))

same_assigning : (xs : List ℕ) (es : List Exp) → assignment xs es ≡ assigning xs es
same_assigning [] es = refl
same_assigning (x ∷ xs) es = refl

held_front : (A B : List (Name × Kind)) (s : Values) → AllByRecursion (IsHeld s) (A ++ B) → AllByRecursion (IsHeld s) A
held_front [] B s held = tt
held_front (a ∷ A) B s held = (held.0, held_front A B s held.1)

pub state_ends : (h : Header) (ys : List (Name × Kind)) (s : Values) → IsHeader h → AllByRecursion (λ (y : Name × Kind). IsVariable y.1) ys
    → IsTold (scope_of h ++ ys) s → IsClear h ys s → Ends h (declaring_all ys (told (scope_of h ++ ys) s))
state_ends h ys s is vars i c = record {
  part = assignment (variables (scope_of h)) (facts (scope_of h) s);
  leads = ends_go (scope_of h) ys s vars i;
  ending = record {
    state = state_of h.params s;
    form = same_assigning (variables (scope_of h)) (facts (scope_of h) s)
        ∙ (ap (λ xs. assigning xs (facts (scope_of h) s)) (variables_append h.params h.inputs)
        ∙ ap (assigning (variables h.params ++ variables h.inputs)) (facts_append h.params h.inputs s
        ∙ (ap (λ l. l ++ facts h.inputs s) (facts_of_state h.params s) ∙ ap (λ l. constants h.params (state_of h.params s) ++ l) (facts_clear h.inputs s (λ t e. c.clear t e)))));
    is = states_are h.params s (held_front h.params h.inputs s
        (all_held (environment (scope_of h)) (scope_of h) s (state_front (scope_of h) ys s i.state) (all_listed (scope_of h) is.kept)));
  };
}
