-- Declarations: the environment agrees with the scope behind them, and each name could be declared.
use Rattle.std.proofs.Common.{◌≡◌, refl, ap, sym, ◌∙◌, subst, Bool, true, false, not, ◌&&◌, ◌||◌, ◌==◌, ◌+◌, ◌≤◌, ◌<◌, nat_lt, if◌then◌else◌, zero, suc, arith, Option, Some, None, is_none, is_some, map, List, [], ◌∷◌, ◌++◌, inl, inr, ◌⊎◌, ℕ}
use Rattle.std.specs.List.{list_any, AllByRecursion, flat_map}
use Rattle.std.proofs.lemmas.Bool.{or_parts, or_cases, or_from, or_left, or_right, and_parts, and_from, and_right, cases_Bool, cases_eq, eqb-true, eq-eqb, ne_eqb, not-true, ltb-true, lt-ltb, false_from_ne_true, both_ways}
use Rattle.occ_meaning.specs.occ_base.declared.names.Name.{Name}
use Rattle.occ_meaning.proofs.Facts.{true_not_false, false_not_true, some_is, if_true, if_false, at_itself}
use Rattle.occ_meaning.specs.occ_syntax.declared.scope.Kind.{Kind}
use Rattle.occ_meaning.specs.occ_syntax.declared.scope.Kind.TheVariants as kind
use Rattle.occ_meaning.specs.occ_syntax.Scopes.{Environment, with_name}
use Rattle.occ_meaning.specs.occ_syntax.Tree.{Tree}
use Rattle.occ_meaning.specs.occ_syntax.Types.{can_declare, width_of_kind, is_width, types_kept}
use Rattle.occ_meaning.specs.occ_syntax.Declarations.{declaring, declaring_all}
use Rattle.occ_parse_forms.specs.declared.form.Declared.{Declared}
use Rattle.occ_parse_forms.specs.declared.form.Declared.TheVariants as declared
use Rattle.occ_parse_forms.specs.declared.form.Times.{Times}
use Rattle.occ_parse_rules.specs.declared.sort.Sort.{Sort}
use Rattle.occ_parse_rules.specs.declared.sort.Sort.TheVariants as sort
use Rattle.occ_parse_rules.specs.Places.{Place, Sorts, Indices, sort_at, declares, places, elements_from, entry_of, entries_of, sort_of, declared_in, counter_of}
use Rattle.occ_parse_rules.specs.Names.{is_there, redeclares_some, same_element}
use Rattle.occ_parse_rules.specs.Unrolled.{Numbers, named, all_named}
use Rattle.occ_parse_rules.specs.Sound.{is_unmarked, has_width}
use Rattle.occ_parse_rules.specs.Scoped.{declared_kind, after, can_declare_all}
use Rattle.occ_parse_rules.specs.Agreement.{Has, Known, IsOneToOne, Agrees, AreIn, IsTaken, behind_name, kind_of, sort_has_width, is_counter_sort}
use Rattle.occ_parse_rules.proofs.Facts.{is_none_none}

-- ---- rows of declarations

pub after_more : (ds es : List (Name × Kind)) (E : Environment) → after (ds ++ es) E ≡ after es (after ds E)
after_more [] es E = refl
after_more (d ∷ ds) es E = after_more ds es (with_name E d.0.0 (declared_kind d.1))

pub can_more : (ds es : List (Name × Kind)) (E : Environment) → can_declare_all ds E ≡ true → can_declare_all es (after ds E) ≡ true → can_declare_all (ds ++ es) E ≡ true
can_more [] es E h k = k
can_more (d ∷ ds) es E h k =
    let both = and_parts (can_declare E d.0.0 (width_of_kind d.1)) (can_declare_all ds (with_name E d.0.0 (declared_kind d.1))) h in
    and_from (can_declare E d.0.0 (width_of_kind d.1)) (can_declare_all (ds ++ es) (with_name E d.0.0 (declared_kind d.1))) both.0 (can_more ds es (with_name E d.0.0 (declared_kind d.1)) both.1 k)

one_kept : (x : ℕ) (k : Kind) (p : Tree) (E : Environment) → can_declare E x (width_of_kind k) ≡ true → types_kept p (with_name E x (declared_kind k)) ≡ true → types_kept (declaring x k p) E ≡ true
one_kept x (kind.Var width) p E h t = and_from (can_declare E x width) (types_kept p (with_name E x (kind.Var width))) h t
one_kept x (kind.Chan width mark) p E h t = and_from (can_declare E x width) (types_kept p (with_name E x (kind.Chan width None))) h t

pub declared_kept : (ds : List (Name × Kind)) (p : Tree) (E : Environment) → can_declare_all ds E ≡ true → types_kept p (after ds E) ≡ true → types_kept (declaring_all ds p) E ≡ true
declared_kept [] p E h t = t
declared_kept (d ∷ ds) p E h t =
    let both = and_parts (can_declare E d.0.0 (width_of_kind d.1)) (can_declare_all ds (with_name E d.0.0 (declared_kind d.1))) h in
    one_kept d.0.0 d.1 (declaring_all ds p) E both.0 (declared_kept ds p (with_name E d.0.0 (declared_kind d.1)) both.1 t)

-- ---- places

unfoldable pub is_at : Place → ℕ → Option ℕ → Bool
is_at p x k = x == p.name && same_element k p.element

unfoldable pub in_places : List Place → ℕ → Option ℕ → Bool
in_places ps x k = list_any (λ p. is_at p x k) ps

same_element_is : (k j : Option ℕ) → same_element k j ≡ true → k ≡ j
same_element_is None None h = refl
same_element_is (Some k) (Some j) h = ap Some (eqb-true k j h)
same_element_is None (Some j) h = false_not_true h
same_element_is (Some k) None h = false_not_true h

element_itself : (k : Option ℕ) → same_element k k ≡ true
element_itself None = refl
element_itself (Some k) = at_itself k

pub is_at_is : (p : Place) (x : ℕ) (k : Option ℕ) → is_at p x k ≡ true → (x ≡ p.name) × (k ≡ p.element)
unfolding is_at
is_at_is p x k h = let both = and_parts (x == p.name) (same_element k p.element) h in (eqb-true x p.name both.0, same_element_is k p.element both.1)

pub is_at_itself : (p : Place) → is_at p p.name p.element ≡ true
unfolding is_at
is_at_itself p = and_from (p.name == p.name) (same_element p.element p.element) (at_itself p.name) (element_itself p.element)

is_at_from : (p : Place) (x : ℕ) (k : Option ℕ) → x ≡ p.name → k ≡ p.element → is_at p x k ≡ true
unfolding is_at
is_at_from p x k h e = and_from (x == p.name) (same_element k p.element) (eq-eqb x p.name h) (subst (λ j. same_element j p.element ≡ true) (sym e) (element_itself p.element))

-- two known places have one number exactly where they are one
pub one_number : (D : Known) (N : Numbers) → IsOneToOne D N → (p : Place) (x : ℕ) (k : Option ℕ) → Has D p.name p.element → Has D x k → (N x k == N p.name p.element) ≡ is_at p x k
one_number D N u p x k d e = elim (cases_Bool (is_at p x k)) [
  | inl h ↦ let w = is_at_is p x k h in eq-eqb (N x k) (N p.name p.element) (subst (λ y. N y k ≡ N p.name p.element) (sym w.0) (ap (N p.name) w.1)) ∙ sym h
  | inr h ↦ ne_eqb (N x k) (N p.name p.element) (λ q. both_ways (is_at p x k) h (is_at_from p x k (u.name x k p.name p.element e d q) (u.element x k p.name p.element e d q))) ∙ sym h
]

unfoldable pub numbered : Numbers → Kind → List Place → List (Name × Kind)
numbered N k ps = map (λ p. (record { 0 = N p.name p.element }, k)) ps

after_at : (D : Known) (N : Numbers) → IsOneToOne D N → (k : Kind) (ps : List Place) (E : Environment) → AreIn D ps → (x : ℕ) (j : Option ℕ) → Has D x j
    → after (numbered N k ps) E (N x j) ≡ (if in_places ps x j then Some (declared_kind k) else E (N x j))
unfolding in_places numbered
after_at D N u k [] E h x j d = refl
after_at D N u k (p ∷ ps) E h x j d =
    after_at D N u k ps (with_name E (N p.name p.element) (declared_kind k)) h.1 x j d
    ∙ (ap (λ b. if list_any (λ q. is_at q x j) ps then Some (declared_kind k) else (if b then Some (declared_kind k) else E (N x j))) (one_number D N u p x j h.0 d)
    ∙ swap (list_any (λ q. is_at q x j) ps) (is_at p x j) (Some (declared_kind k)) (E (N x j)))
  where
    swap : {A : Type 0} (b c : Bool) (a e : A) → (if b then a else (if c then a else e)) ≡ (if c || b then a else e)
    swap true true a e = refl
    swap true false a e = refl
    swap false true a e = refl
    swap false false a e = refl

unfoldable pub are_apart : List Place → Bool
are_apart [] = true
are_apart (p ∷ ps) = not (in_places ps p.name p.element) && are_apart ps

AreFree : Numbers → Environment → List Place → Type 0
AreFree N E ps = AllByRecursion (λ p. E (N p.name p.element) ≡ None) ps

free_again : (D : Known) (N : Numbers) → IsOneToOne D N → (k : Kind) (p : Place) (ps : List Place) (E : Environment) → Has D p.name p.element → AreIn D ps
    → in_places ps p.name p.element ≡ false → AreFree N E ps → AreFree N (with_name E (N p.name p.element) k) ps
unfolding in_places AreFree
free_again D N u k p [] E d h a f = tt
free_again D N u k p (q ∷ ps) E d h a f =
    let parts = or_parts (is_at q p.name p.element) (list_any (λ r. is_at r p.name p.element) ps) a in (
      if_false (N q.name q.element == N p.name p.element) (Some k) (E (N q.name q.element))
          (one_number D N u p q.name q.element d h.0 ∙ turned parts.0) ∙ f.0,
      free_again D N u k p ps E d h.1 parts.1 f.1,
    )
  where
    turned : is_at q p.name p.element ≡ false → is_at p q.name q.element ≡ false
    turned e = false_from_ne_true (is_at p q.name q.element) (λ t. let w = is_at_is p q.name q.element t in both_ways (is_at q p.name p.element) e (is_at_from q p.name p.element (sym w.0) (sym w.1)))

can_numbered : (D : Known) (N : Numbers) → IsOneToOne D N → (k : Kind) (ps : List Place) (E : Environment) → AreIn D ps → are_apart ps ≡ true → AreFree N E ps → has_width k ≡ true
    → can_declare_all (numbered N k ps) E ≡ true
unfolding numbered are_apart AreFree
can_numbered D N u k [] E h a f w = refl
can_numbered D N u k (p ∷ ps) E h a f w =
    let parts = and_parts (not (in_places ps p.name p.element)) (are_apart ps) a in
    and_from (can_declare E (N p.name p.element) (width_of_kind k)) (can_declare_all (numbered N k ps) (with_name E (N p.name p.element) (declared_kind k)))
    (and_from (is_none (E (N p.name p.element))) (is_width (width_of_kind k)) (ap is_none f.0) w)
    (can_numbered D N u k ps (with_name E (N p.name p.element) (declared_kind k)) h.1 parts.1
    (free_again D N u (declared_kind k) p ps E h.0 h.1 (not-true (in_places ps p.name p.element) parts.0) f.1) w)

-- ---- what a declaration declares

same_bool : (a b : Bool) → (a ≡ true → b ≡ true) → (b ≡ true → a ≡ true) → a ≡ b
same_bool true b f g = sym (f refl)
same_bool false true f g = g refl
same_bool false false f g = refl

within_from : (x b n y k : ℕ) → in_places (elements_from x b n) y (Some k) ≡ true → (y ≡ x) × (b ≤ k) × (k < b + n)
unfolding in_places
within_from x b zero y k h = false_not_true h
within_from x b (suc n) y k h = elim (or_cases (is_at (record { name = x; element = Some b }) y (Some k)) (list_any (λ p. is_at p y (Some k)) (elements_from x (b + 1) n)) h) [
  | inl e ↦ let w = is_at_is (record { name = x; element = Some b }) y (Some k) e in let same : k ≡ b = some_is w.1 in (w.0, omega (arith, same), omega (arith, same))
  | inr e ↦ let w = within_from x (b + 1) n y k e in (w.0, omega (arith, w.1), omega (arith, w.2))
]

within_to : (x b n k : ℕ) → b ≤ k → k < b + n → in_places (elements_from x b n) x (Some k) ≡ true
unfolding in_places
within_to x b zero k h e = absurd (omega (arith, h, e))
within_to x b (suc n) k h e = elim (cases_eq k b) [
  | inl q ↦ or_left (is_at (record { name = x; element = Some b }) x (Some k)) (list_any (λ p. is_at p x (Some k)) (elements_from x (b + 1) n)) (is_at_from (record { name = x; element = Some b }) x (Some k) refl (ap Some q))
  | inr q ↦ or_right (is_at (record { name = x; element = Some b }) x (Some k)) (list_any (λ p. is_at p x (Some k)) (elements_from x (b + 1) n)) (within_to x (b + 1) n k (omega (arith, h, q)) (omega (arith, e)))
]

no_name_within : (x b n y : ℕ) → in_places (elements_from x b n) y None ≡ false
unfolding in_places is_at
no_name_within x b zero y = refl
no_name_within x b (suc n) y = or_from (y == x && false) (list_any (λ p. y == p.name && same_element None p.element) (elements_from x (b + 1) n)) (and_right (y == x) false refl) (no_name_within x (b + 1) n y)

tail : (b : Bool) → b ≡ ((b && true) || false)
tail true = refl
tail false = refl

no_tail : (b : Bool) → false ≡ ((b && false) || false)
no_tail true = refl
no_tail false = refl

or_end : (b : Bool) → b ≡ (b || false)
or_end true = refl
or_end false = refl

pub declares_places : (d : Declared) (x : ℕ) (k : Option ℕ) → declares d x k ≡ in_places (places d) x k
unfolding in_places is_at
declares_places (declared.Plain y) x None = tail (x == y.0)
declares_places (declared.Plain y) x (Some k) = no_tail (x == y.0)
declares_places (declared.Element y j) x None = no_tail (x == y.0)
declares_places (declared.Element y j) x (Some k) = or_end (x == y.0 && k == j)
declares_places (declared.Array y n) x None = sym (no_name_within y.0 0 n x)
declares_places (declared.Array y n) x (Some k) = same_bool (x == y.0 && nat_lt k n) (in_places (elements_from y.0 0 n) x (Some k))
    (λ h. let both = and_parts (x == y.0) (nat_lt k n) h in subst (λ z. in_places (elements_from y.0 0 n) z (Some k) ≡ true) (sym (eqb-true x y.0 both.0)) (within_to y.0 0 n k (omega arith) (omega (arith, ltb-true k n both.1))))
    (λ h. let w = within_from y.0 0 n x k h in and_from (x == y.0) (nat_lt k n) (eq-eqb x y.0 w.0) (lt-ltb k n (omega (arith, w.2))))

apart_from : (x b n : ℕ) → are_apart (elements_from x b n) ≡ true
unfolding are_apart
apart_from x b zero = refl
apart_from x b (suc n) = and_from (not (in_places (elements_from x (b + 1) n) x (Some b))) (are_apart (elements_from x (b + 1) n))
    (ap not (false_from_ne_true (in_places (elements_from x (b + 1) n) x (Some b)) (λ t. omega (arith, (within_from x (b + 1) n x b t).1)))) (apart_from x (b + 1) n)

pub places_apart : (d : Declared) → are_apart (places d) ≡ true
unfolding are_apart in_places
places_apart (declared.Plain x) = refl
places_apart (declared.Element x k) = refl
places_apart (declared.Array x n) = apart_from x.0 0 n

-- ---- one declaration, and a row of them

pub not_there : (o : Option Sort) → is_some o ≡ false → o ≡ None
not_there None e = refl
not_there (Some s) e = true_not_false e

free_from : (D : Known) (N : Numbers) (Γ : Sorts) (E : Environment) → Agrees D N Γ E → (ps : List Place) → AreIn D ps → list_any (is_there Γ) ps ≡ false → AreFree N E ps
unfolding AreFree
free_from D N Γ E a [] h n = tt
free_from D N Γ E a (p ∷ ps) h n =
    let parts = or_parts (is_there Γ p) (list_any (is_there Γ) ps) n in
    (a.agree p.name p.element h.0 ∙ ap kind_of (not_there (sort_at Γ p.name p.element) parts.0), free_from D N Γ E a ps h.1 parts.1)

unmarked_kind : (k : Kind) → is_unmarked k ≡ true → declared_kind k ≡ k
unmarked_kind (kind.Var width) h = refl
unmarked_kind (kind.Chan width mark) h = ap (kind.Chan width) (sym (is_none_none mark h))

pub kind_of_sort : (k : Kind) → kind_of (Some (sort_of k)) ≡ Some k
kind_of_sort (kind.Var width) = refl
kind_of_sort (kind.Chan width mark) = refl

pub sort_width : (k : Kind) → has_width k ≡ true → sort_has_width (sort_of k) ≡ true
sort_width (kind.Var width) h = h
sort_width (kind.Chan width mark) h = h

pub not_counter : (k : Kind) → is_counter_sort (sort_of k) ≡ false
not_counter (kind.Var width) = refl
not_counter (kind.Chan width mark) = refl

pub if_some : {A : Type 0} (b : Bool) (x y : Option A) (a : A) → (if b then x else y) ≡ Some a → ((b ≡ true) × (x ≡ Some a)) ⊎ ((b ≡ false) × (y ≡ Some a))
if_some true x y a h = inl (refl, h)
if_some false x y a h = inr (refl, h)

pub known_at : (D : Known) (ps : List Place) → AreIn D ps → (x : ℕ) (k : Option ℕ) → in_places ps x k ≡ true → Has D x k
unfolding in_places
known_at D [] h x k e = false_not_true e
known_at D (p ∷ ps) h x k e = elim (or_cases (is_at p x k) (list_any (λ q. is_at q x k) ps) e) [
  | inl t ↦ let w = is_at_is p x k t in subst (λ y. Has D y k) (sym w.0) (subst (λ j. Has D p.name j) (sym w.1) h.0)
  | inr t ↦ known_at D ps h.1 x k t
]

-- behind a declaration
pub entered : (D : Known) (N : Numbers) → IsOneToOne D N → (Γ : Sorts) (E : Environment) → Agrees D N Γ E → (k : Kind) (d : Declared) → AreIn D (places d)
    → has_width k ≡ true → is_unmarked k ≡ true → Agrees D N (entry_of k d ∷ Γ) (after (named N k d) E)
unfolding numbered
entered D N u Γ E a k d h w m = record {
  agree = λ x j known.
      after_at D N u k (places d) E h x j known
      ∙ (ap (λ b. if b then Some (declared_kind k) else E (N x j)) (sym (declares_places d x j))
      ∙ branch x j known (declares d x j));
  inside = λ x j s e. elim (if_some (declares d x j) (Some (sort_of k)) (sort_at Γ x j) s e) [
    | inl t ↦ known_at D (places d) h x j (sym (declares_places d x j) ∙ t.0)
    | inr t ↦ a.inside x j s t.1
  ];
  widths = λ x j s e. elim (if_some (declares d x j) (Some (sort_of k)) (sort_at Γ x j) s e) [
    | inl t ↦ subst (λ r. sort_has_width r ≡ true) (some_is t.1) (sort_width k w)
    | inr t ↦ a.widths x j s t.1
  ];
}
  where
    branch : (x : ℕ) (j : Option ℕ) → Has D x j → (b : Bool) → (if b then Some (declared_kind k) else E (N x j)) ≡ kind_of (if b then Some (sort_of k) else sort_at Γ x j)
    branch x j known true = ap Some (unmarked_kind k m) ∙ sym (kind_of_sort k)
    branch x j known false = a.agree x j known

pub can_enter : (D : Known) (N : Numbers) → IsOneToOne D N → (Γ : Sorts) (E : Environment) → Agrees D N Γ E → (k : Kind) (d : Declared) → AreIn D (places d)
    → list_any (is_there Γ) (places d) ≡ false → has_width k ≡ true → can_declare_all (named N k d) E ≡ true
unfolding numbered
can_enter D N u Γ E a k d h n w = can_numbered D N u k (places d) E h (places_apart d) (free_from D N Γ E a (places d) h n) w

pub in_first : (D : Known) (ps qs : List Place) → AreIn D (ps ++ qs) → AreIn D ps
in_first D [] qs h = tt
in_first D (p ∷ ps) qs h = (h.0, in_first D ps qs h.1)

pub in_rest : (D : Known) (ps qs : List Place) → AreIn D (ps ++ qs) → AreIn D qs
in_rest D [] qs h = h
in_rest D (p ∷ ps) qs h = in_rest D ps qs h.1

pub all_entered : (D : Known) (N : Numbers) → IsOneToOne D N → (k : Kind) (ds : List Declared) (Γ : Sorts) (E : Environment) → Agrees D N Γ E → AreIn D (flat_map places ds)
    → has_width k ≡ true → is_unmarked k ≡ true → redeclares_some Γ (entries_of k ds) ≡ false
    → Agrees D N (declared_in Γ (entries_of k ds)) (after (all_named N k ds) E) × (can_declare_all (all_named N k ds) E ≡ true)
all_entered D N u k [] Γ E a h w m n = (a, refl)
all_entered D N u k (d ∷ ds) Γ E a h w m n =
    let here = in_first D (places d) (flat_map places ds) h in
    let fresh = or_parts (list_any (is_there Γ) (places d)) (redeclares_some (entry_of k d ∷ Γ) (entries_of k ds)) n in
    let more = all_entered D N u k ds (entry_of k d ∷ Γ) (after (named N k d) E) (entered D N u Γ E a k d here w m) (in_rest D (places d) (flat_map places ds) h) w m fresh.1 in (
      subst (λ F. Agrees D N (declared_in (entry_of k d ∷ Γ) (entries_of k ds)) F) (sym (after_more (named N k d) (all_named N k ds) E)) more.0,
      can_more (named N k d) (all_named N k ds) E (can_enter D N u Γ E a k d here fresh.0 w) more.1,
    )

pub all_taken : (k : Kind) (ds : List Declared) (Γ : Sorts) (ρ : Indices) → IsTaken Γ ρ → IsTaken (declared_in Γ (entries_of k ds)) ρ
all_taken k [] Γ ρ t = t
all_taken k (d ∷ ds) Γ ρ t = all_taken k ds (entry_of k d ∷ Γ) ρ (behind_name (not_counter k) t)

-- a replicator's index is no name of the program
pub counted : (D : Known) (N : Numbers) (Γ : Sorts) (E : Environment) → Agrees D N Γ E → (times : Times) → AreIn D (record { name = times.index.0; element = None } ∷ [])
    → redeclares_some Γ (counter_of times ∷ []) ≡ false → Agrees D N (counter_of times ∷ Γ) E
counted D N Γ E a times h n = record {
  agree = λ x j known. elim (cases_Bool (declares (declared.Plain times.index) x j)) [
    | inl t ↦ a.agree x j known ∙ (ap kind_of (gone x j t) ∙ ap kind_of (sym (if_true (declares (declared.Plain times.index) x j) (Some (sort.Counter times.base times.count)) (sort_at Γ x j) t)))
    | inr t ↦ a.agree x j known ∙ ap kind_of (sym (if_false (declares (declared.Plain times.index) x j) (Some (sort.Counter times.base times.count)) (sort_at Γ x j) t))
  ];
  inside = λ x j s e. elim (if_some (declares (declared.Plain times.index) x j) (Some (sort.Counter times.base times.count)) (sort_at Γ x j) s e) [
    | inl t ↦ known_at D (places (declared.Plain times.index)) h x j (sym (declares_places (declared.Plain times.index) x j) ∙ t.0)
    | inr t ↦ a.inside x j s t.1
  ];
  widths = λ x j s e. elim (if_some (declares (declared.Plain times.index) x j) (Some (sort.Counter times.base times.count)) (sort_at Γ x j) s e) [
    | inl t ↦ subst (λ r. sort_has_width r ≡ true) (some_is t.1) refl
    | inr t ↦ a.widths x j s t.1
  ];
}
  where
    gone : (x : ℕ) (j : Option ℕ) → declares (declared.Plain times.index) x j ≡ true → sort_at Γ x j ≡ None
    gone x None t = ap (λ y. sort_at Γ y None) (eqb-true x times.index.0 t)
        ∙ not_there (sort_at Γ times.index.0 None) (or_parts (is_some (sort_at Γ times.index.0 None)) false (or_parts (is_some (sort_at Γ times.index.0 None) || false) false n).0).0
    gone x (Some k) t = false_not_true t
