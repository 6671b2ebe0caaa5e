-- Events of an interface are told apart by their ranks.
use Rattle.std.proofs.Common.{◌≡◌, ℕ, ◌+◌, ◌^◌, ◌<◌, ◌≤◌, Bool, true, false, ◌==◌, List, [], ◌∷◌, ◌++◌, Option, Some, None, if◌then◌else◌, refl, sym, ap, ◌∙◌, subst, inl, inr, ◌⊎◌, arith}
use Rattle.std.proofs.Math.Pow.{pow_mono}
use Rattle.std.proofs.lemmas.Bool.{and_from, and_parts, false≢true, ltb-true, eqb-true, eq-eqb, ne_eqb, cases_eq}
use Rattle.std.specs.List.{AllByRecursion}
use Rattle.occ_lex.specs.occ_base.declared.event.Dir.{Dir}
use Rattle.occ_lex.specs.occ_base.declared.event.Dir.TheVariants.{Input, Output}
use Rattle.occ_lex.specs.occ_base.declared.event.Event.{Event}
use Rattle.occ_lex.specs.occ_base.declared.names.Name.{Name}
use Rattle.occ_lex.specs.occ_base.declared.width.Width.{Width}
use Rattle.occ_lex.specs.occ_base.declared.width.Width.TheVariants.{Bool as Truth, Word}
use Rattle.occ_lex.specs.occ_base.Width.{bits_of, IsWidth}
use Rattle.occ_syntax.specs.declared.scope.Kind.{Kind}
use Rattle.occ_syntax.specs.declared.scope.Kind.TheVariants.{Var, Chan}
use Rattle.occ_syntax.specs.Scopes.{allows, channel_kind, environment, has_width, in_interface, same_dir, same_event}
use Rattle.occ_behaviour.specs.Places.{place_in}
use Rattle.occ_nform_table.specs.Lines.{HasWidth, HaveWidths, rank}
use Rattle.occ_nform_table.specs.Tables.{is_marked, are_params}

-- what an interface's parameters are like
pub record IsProper (params : List (Name × Kind)) : Type 0 where
  pub wide : HaveWidths params
  pub marked : AllByRecursion (λ (p : Name × Kind). is_marked p.1 ≡ true) params

pub all_marked : (names : List (List ℕ)) (before params : List (Name × Kind)) → are_params names before params ≡ true → AllByRecursion (λ (p : Name × Kind). is_marked p.1 ≡ true) params
unfolding are_params
all_marked names before [] h = tt
all_marked names before (p ∷ params) h =
    let both = and_parts _ _ h in
    let here = and_parts _ _ (and_parts _ _ both.0).0 in
    (here.1, all_marked names (before ++ p ∷ []) params both.1)

-- ---- directions
same_dir_is : (d f : Dir) → same_dir d f ≡ true → d ≡ f
same_dir_is Input Input h = refl
same_dir_is Input Output h = absurd (false≢true h)
same_dir_is Output Input h = absurd (false≢true h)
same_dir_is Output Output h = refl

same_dir_itself : (d : Dir) → same_dir d d ≡ true
same_dir_itself Input = refl
same_dir_itself Output = refl

pub event_itself : (e : Event) → same_event e e ≡ true
event_itself e = and_from _ _ (and_from _ _ (eq-eqb e.chan.0 e.chan.0 refl) (same_dir_itself e.dir)) (eq-eqb e.value e.value refl)

event_of_parts : (e f : Event) → e.chan.0 ≡ f.chan.0 → e.dir ≡ f.dir → e.value ≡ f.value → e ≡ f
event_of_parts e f h k l i = record { chan = record { 0 = h i }; dir = k i; value = l i }

pub same_event_is : (e f : Event) → same_event e f ≡ true → e ≡ f
same_event_is e f h =
    let outer = and_parts _ _ h in
    let inner = and_parts _ _ outer.0 in
    event_of_parts e f (eqb-true e.chan.0 f.chan.0 inner.0) (same_dir_is e.dir f.dir inner.1) (eqb-true e.value f.value outer.1)

-- ---- values
width_below : (w : Width) → IsWidth w → 2 ^ bits_of w ≤ 256
width_below Truth h = omega arith
width_below (Word bits) h = pow_mono h.1

fits_width : (k : Option Kind) (v : ℕ) → ((kind : Kind) → k ≡ Some kind → HasWidth kind) → has_width (channel_kind k) v ≡ true → v < 256
fits_width None v known h = absurd (false≢true h)
fits_width (Some (Var w)) v known h = absurd (false≢true h)
fits_width (Some (Chan w d)) v known h = omega (arith, ltb-true v (2 ^ bits_of w) h, width_below w (known (Chan w d) refl))

-- what an environment says of a name is what one of its parameters says
pub some_is : {A : Type 0} {a b : A} → Some a ≡ Some b → a ≡ b
some_is h = cc

pub none_not_some : {A B : Type 0} {a : A} → None ≡ Some a → B
none_not_some h = absurd (cc)

pub kind_holds : (P : Kind → Type 0) (params : List (Name × Kind)) → AllByRecursion (λ (p : Name × Kind). P p.1) params → (c : ℕ) (kind : Kind) → environment params c ≡ Some kind → P kind
kind_holds P [] h c kind e = none_not_some e
kind_holds P (p ∷ params) h c kind e = go (c == p.0.0) e (kind_holds P params h.1 c kind)
  where
    go : (b : Bool) → (if b then Some p.1 else environment params c) ≡ Some kind → (environment params c ≡ Some kind → P kind) → P kind
    go true k ih = subst P (some_is k) h.0
    go false k ih = ih k

pub value_below : (params : List (Name × Kind)) → IsProper params → (e : Event) → in_interface (environment params) e ≡ true → e.value < 256
value_below params proper e h =
    fits_width (environment params e.chan.0) e.value (kind_holds (λ k. HasWidth k) params proper.wide e.chan.0) (and_parts _ _ h).0

-- ---- places
has_kind : (k : Option Kind) (v : ℕ) → has_width (channel_kind k) v ≡ true → k ≡ None → ⊥
has_kind None v h e = false≢true h
has_kind (Some kind) v h e = none_not_some (sym e)

-- two names that stand for something are told apart by their places
pub same_place : (params : List (Name × Kind)) (c d : Name) → (environment params c.0 ≡ None → ⊥) → (environment params d.0 ≡ None → ⊥) → place_in params c ≡ place_in params d → c.0 ≡ d.0
same_place [] c d h k e = absurd (h refl)
same_place (p ∷ params) c d h k e = go (same_place params c d) (cases_eq c.0 p.0.0) (cases_eq d.0 p.0.0)
  where
    at_none : (x : ℕ) → (x ≡ p.0.0 → ⊥) → environment (p ∷ params) x ≡ environment params x
    at_none x n = ap (λ b. if b then Some p.1 else environment params x) (ne_eqb x p.0.0 n)

    first_place : (x : Name) → x.0 ≡ p.0.0 → place_in (p ∷ params) x ≡ 0
    first_place x f = ap (λ b. if b then 0 else 1 + place_in params x) (eq-eqb p.0.0 x.0 (sym f))

    later_place : (x : Name) → (x.0 ≡ p.0.0 → ⊥) → place_in (p ∷ params) x ≡ 1 + place_in params x
    later_place x n = ap (λ b. if b then 0 else 1 + place_in params x) (ne_eqb p.0.0 x.0 (λ f. n (sym f)))

    go : ((environment params c.0 ≡ None → ⊥) → (environment params d.0 ≡ None → ⊥) → place_in params c ≡ place_in params d → c.0 ≡ d.0)
        → (c.0 ≡ p.0.0) ⊎ (c.0 ≡ p.0.0 → ⊥) → (d.0 ≡ p.0.0) ⊎ (d.0 ≡ p.0.0 → ⊥) → c.0 ≡ d.0
    go ih (inl f) (inl g) = f ∙ sym g
    go ih (inl f) (inr g) = absurd (omega (arith, e, first_place c f, later_place d g))
    go ih (inr f) (inl g) = absurd (omega (arith, e, later_place c f, first_place d g))
    go ih (inr f) (inr g) = ih (λ z. h (at_none c.0 f ∙ z)) (λ z. k (at_none d.0 g ∙ z)) (omega (arith, e, later_place c f, later_place d g))

-- ---- directions are those of the marks
one_direction : (k : Option Kind) (d f : Dir) → ((kind : Kind) → k ≡ Some kind → is_marked kind ≡ true) → allows k d ≡ true → allows k f ≡ true → d ≡ f
one_direction None d f marked h k = absurd (false≢true h)
one_direction (Some (Var w)) d f marked h k = absurd (false≢true h)
one_direction (Some (Chan w None)) d f marked h k = absurd (false≢true (marked (Chan w None) refl))
one_direction (Some (Chan w (Some mark))) d f marked h k = sym (same_dir_is mark d h) ∙ same_dir_is mark f k

pub same_rank : (params : List (Name × Kind)) → IsProper params → (e f : Event) → in_interface (environment params) e ≡ true → in_interface (environment params) f ≡ true → rank params e ≡ rank params f → e ≡ f
same_rank params proper e f h k r =
    let v : e.value < 256 = value_below params proper e h in
    let w : f.value < 256 = value_below params proper f k in
    let place : place_in params e.chan ≡ place_in params f.chan = omega arith in
    let value : e.value ≡ f.value = omega arith in
    let chan : e.chan.0 ≡ f.chan.0 = same_place params e.chan f.chan (has_kind (environment params e.chan.0) e.value (and_parts _ _ h).0) (has_kind (environment params f.chan.0) f.value (and_parts _ _ k).0) place in
    let other : allows (environment params e.chan.0) f.dir ≡ true = subst (λ c. allows (environment params c) f.dir ≡ true) (sym chan) (and_parts _ _ k).1 in
    event_of_parts e f chan (one_direction (environment params e.chan.0) e.dir f.dir (kind_holds (λ z. is_marked z ≡ true) params proper.marked e.chan.0) (and_parts _ _ h).1 other) value
