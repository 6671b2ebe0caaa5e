-- A table of names has one number for each place that a text's lines declare.
use Rattle.std.proofs.Common.{◌≡◌, ℕ, zero, suc, ◌+◌, ◌^◌, ◌<◌, ◌≤◌, Bool, true, false, nat_lt, List, [], ◌∷◌, ◌++◌, length, get_or, Option, Some, None, refl, sym, ap, subst, ◌∙◌, arith, rules, ◌&&◌, slice_get, append_assoc, length-append, ⊎_elim, lit≤}
use Rattle.std.specs.Prelude.{decimal}
use Rattle.std.specs.List.{AllByRecursion, list_all, flat_map}
use Rattle.std.proofs.lemmas.Bool.{and_parts, and_from, ltb-true, cases_lt}
use Rattle.std.proofs.lemmas.Fmt.{decimal_injective}
use Rattle.std.proofs.lemmas.Option.{slice_get-get_or, get_or_from_slice_get}
use Rattle.std.proofs.Math.ListN.{get_or-append}
use Rattle.occ_syntax.specs.occ_base.Names.{place_of, with_text, IsDistinct}
use Rattle.occ_syntax.proofs.from_base.Naming.{naming, at_place, nowhere}
use Rattle.occ_parse_rules.specs.occ_lex.Spelling.{is_name, is_name_byte, is_letter}
use Rattle.occ_parse_rules.proofs.from_lex.Classes.{letter_name_byte}
use Rattle.occ_parse_rules.specs.occ_lex.Symbols.{Extends}
use Rattle.occ_parse_rules.proofs.from_lex.Interned.{extends_same, extends_trans, extends_text, longer}
use Rattle.occ_parse_rules.specs.occ_parse_forms.declared.form.Declared.{Declared}
use Rattle.occ_parse_rules.specs.occ_parse_forms.declared.form.Declared.TheVariants as declared
use Rattle.occ_parse_rules.specs.occ_parse_forms.declared.form.Param.{Param}
use Rattle.occ_parse_rules.specs.occ_parse_forms.Shape.{Shape, header, close, skip, stop, assign, receive, send, group, declare, condition, guard, nothing}
use Rattle.occ_parse_rules.specs.Forest.{Forest, no_line, and_line}
use Rattle.occ_parse_rules.specs.Places.{Place, places, elements_from}
use Rattle.occ_parse_rules.specs.Agreement.{Known, Has, IsOneToOne, declared_places, AreIn, AreKnown}
use Rattle.occ_parse_rules.specs.Passing.{declared_passes, param_passes, shape_passes}
use Rattle.occ_parse_unroll.specs.Elements.{with_place, with_places}
use Rattle.occ_parse_unroll.specs.Numbers.{element_text, number_in}
use Rattle.occ_parse.proofs.Texts.{is_plain, stays}
use Rattle.occ_parse.proofs.Small.{declared_small, shape_small}
use Rattle.occ_parse.proofs.Knowing.{EachLine}

abbrev pub Table : Type 0
Table = List (List ℕ)

-- ---- texts of elements

name_bytes : (s : List ℕ) → is_name s ≡ true → list_all is_name_byte s ≡ true
unfolding is_name
name_bytes [] h = refl
name_bytes (byte ∷ rest) h =
    let parts = and_parts (is_letter byte) (list_all is_name_byte rest) h in
    and_from (is_name_byte byte) (list_all is_name_byte rest) (letter_name_byte byte parts.0) parts.1

no_bracket : (a rest : List ℕ) → list_all is_name_byte (a ++ 91 ∷ rest) ≡ true → ⊥
no_bracket [] rest h = let bad : false ≡ true = (and_parts (is_name_byte 91) (list_all is_name_byte rest) h).0 in absurd cc
no_bracket (x ∷ a) rest h = no_bracket a rest (and_parts (is_name_byte x) (list_all is_name_byte (a ++ 91 ∷ rest)) h).1

element_text_is : (a : List ℕ) (k : ℕ) → element_text a k ≡ a ++ 91 ∷ (decimal k ++ 93 ∷ [])
element_text_is a k = append_assoc (a ++ 91 ∷ []) (decimal k) (93 ∷ []) ∙ append_assoc a (91 ∷ []) (decimal k ++ 93 ∷ [])

first_byte : {x y : ℕ} {xs ys : List ℕ} → x ∷ xs ≡ y ∷ ys → x ≡ y
first_byte e = cc

other_bytes : {x y : ℕ} {xs ys : List ℕ} → x ∷ xs ≡ y ∷ ys → xs ≡ ys
other_bytes e = cc

not_bracket : (y : ℕ) (b : List ℕ) → 91 ≡ y → list_all is_name_byte (y ∷ b) ≡ true → ⊥
not_bracket y b e h = no_bracket [] b (subst (λ z. list_all is_name_byte (z ∷ b) ≡ true) (sym e) h)

split_same : (a b p q : List ℕ) → list_all is_name_byte a ≡ true → list_all is_name_byte b ≡ true → a ++ 91 ∷ p ≡ b ++ 91 ∷ q → (a ≡ b) × (p ≡ q)
split_same [] [] p q h k e = (refl, other_bytes e)
split_same [] (y ∷ b) p q h k e = absurd (not_bracket y b (first_byte e) k)
split_same (x ∷ a) [] p q h k e = absurd (not_bracket x a (sym (first_byte e)) h)
split_same (x ∷ a) (y ∷ b) p q h k e =
    let rest = split_same a b p q (and_parts (is_name_byte x) (list_all is_name_byte a) h).1 (and_parts (is_name_byte y) (list_all is_name_byte b) k).1 (other_bytes e) in
    (ap (λ z. z ∷ a) (first_byte e) ∙ ap (λ zs. y ∷ zs) rest.0, rest.1)

no_more : (b : List ℕ) (z : ℕ) → [] ≡ b ++ z ∷ [] → ⊥
no_more b z e = absurd (omega (arith, ap length e, length-append b (z ∷ [])))

last_off : (a b : List ℕ) (z : ℕ) → a ++ z ∷ [] ≡ b ++ z ∷ [] → a ≡ b
last_off [] [] z e = refl
last_off [] (y ∷ b) z e = absurd (no_more b z (other_bytes e))
last_off (x ∷ a) [] z e = absurd (no_more a z (sym (other_bytes e)))
last_off (x ∷ a) (y ∷ b) z e = ap (λ w. w ∷ a) (first_byte e) ∙ ap (λ ws. y ∷ ws) (last_off a b z (other_bytes e))

below_64 : (k : ℕ) → nat_lt k 256 ≡ true → k < 2 ^ 64
below_64 k h = let low : k < 256 = ltb-true _ _ h in let most : 256 ≤ 2 ^ 64 = lit≤ tt in omega (arith, low, most)

one_element : (a b : List ℕ) (k j : ℕ) → is_name a ≡ true → is_name b ≡ true → nat_lt k 256 ≡ true → nat_lt j 256 ≡ true → element_text a k ≡ element_text b j → (a ≡ b) × (k ≡ j)
one_element a b k j h g m n e =
    let parts = split_same a b (decimal k ++ 93 ∷ []) (decimal j ++ 93 ∷ []) (name_bytes a h) (name_bytes b g) (sym (element_text_is a k) ∙ e ∙ element_text_is b j) in
    (parts.0, decimal_injective k j (below_64 k m) (below_64 j n) (last_off (decimal k) (decimal j) 93 parts.1))

not_a_name : (a : List ℕ) (k : ℕ) → is_name (element_text a k) ≡ true → ⊥
not_a_name a k h = no_bracket a (decimal k ++ 93 ∷ []) (subst (λ s. list_all is_name_byte s ≡ true) (element_text_is a k) (name_bytes (element_text a k) h))

-- ---- the places that a table knows

-- the number of an element's text
abbrev pub element_place : Table → ℕ → ℕ → ℕ
element_place t x k = place_of t (element_text (get_or t x []) k)

abbrev pub knows : Table → Known
knows t x None = is_plain t x
knows t x (Some k) = is_plain t x && (nat_lt k 256 && nat_lt (element_place t x k) (length t))

module _ (t : Table) (distinct : IsDistinct t) where
  plain_within : (x : ℕ) → is_plain t x ≡ true → x < length t
  plain_within x h = ltb-true _ _ (and_parts (nat_lt x (length t)) (is_name (get_or t x [])) h).0

  plain_name : (x : ℕ) → is_plain t x ≡ true → is_name (get_or t x []) ≡ true
  plain_name x h = (and_parts (nat_lt x (length t)) (is_name (get_or t x [])) h).1

  plain_text : (x : ℕ) → is_plain t x ≡ true → slice_get t x ≡ Some (get_or t x [])
  plain_text x h = slice_get-get_or t x [] (plain_within x h)

  record IsElement (x k : ℕ) : Type 0 where
    plain : is_plain t x ≡ true
    small : nat_lt k 256 ≡ true
    there : element_place t x k < length t

  is_element : (x k : ℕ) → Has (knows t) x (Some k) → IsElement x k
  is_element x k h =
      let parts = and_parts (is_plain t x) (nat_lt k 256 && nat_lt (element_place t x k) (length t)) h in
      let more = and_parts (nat_lt k 256) (nat_lt (element_place t x k) (length t)) parts.1 in
      record { plain = parts.0; small = more.0; there = ltb-true _ _ more.1 }

  no_name : (x y j : ℕ) → is_plain t x ≡ true → IsElement y j → x ≡ element_place t y j → ⊥
  no_name x y j h g e =
      let text = element_text (get_or t y []) j in
      let stands : slice_get t x ≡ Some text = ap (slice_get t) e ∙ at_place t text g.there in
      not_a_name (get_or t y []) j (ap is_name (sym (get_or_from_slice_get t x text [] stands)) ∙ plain_name x h)

  same_element : (x k y j : ℕ) → IsElement x k → IsElement y j → element_place t x k ≡ element_place t y j → (x ≡ y) × (k ≡ j)
  same_element x k y j h g e =
      let a = get_or t x [] in
      let b = get_or t y [] in
      let same : Some (element_text a k) ≡ Some (element_text b j) = sym (at_place t (element_text a k) h.there) ∙ ap (slice_get t) e ∙ at_place t (element_text b j) g.there in
      let parts = one_element a b k j (plain_name x h.plain) (plain_name y g.plain) h.small g.small cc in
      (distinct x y b (plain_text x h.plain ∙ ap (λ s. Some s) parts.0) (plain_text y g.plain), parts.1)

  places_apart : (x : ℕ) (k : Option ℕ) (y : ℕ) (j : Option ℕ) → Has (knows t) x k → Has (knows t) y j → number_in t x k ≡ number_in t y j → (x ≡ y) × (k ≡ j)
  places_apart x None y None h g e = (e, refl)
  places_apart x None y (Some j) h g e = absurd (no_name x y j h (is_element y j g) e)
  places_apart x (Some k) y None h g e = absurd (no_name y x k g (is_element x k h) (sym e))
  places_apart x (Some k) y (Some j) h g e =
      let parts = same_element x k y j (is_element x k h) (is_element y j g) e in (parts.0, ap (λ n. Some n) parts.1)

  pub one_to_one : IsOneToOne (knows t) (number_in t)
  one_to_one = record {
    name = λ x k y j h g e. (places_apart x k y j h g e).0;
    element = λ x k y j h g e. (places_apart x k y j h g e).1;
  }

-- ---- places that are brought in

place_extends : (t : Table) (x : ℕ) (k : Option ℕ) → Extends t (with_place t x k)
place_extends t x None = extends_same t
place_extends t x (Some k) = extends_text t (element_text (get_or t x []) k)

pub places_extend : (t : Table) (ps : List Place) → Extends t (with_places t ps)
places_extend t [] = extends_same t
places_extend t (p ∷ ps) =
    let next = with_place t p.name p.element in
    extends_trans t next (with_places next ps) (place_extends t p.name p.element) (places_extend next ps)

place_distinct : (t : Table) (x : ℕ) (k : Option ℕ) → IsDistinct t → IsDistinct (with_place t x k)
place_distinct t x None d = d
place_distinct t x (Some k) d = (naming t (element_text (get_or t x []) k)).distinct d

pub places_distinct : (t : Table) (ps : List Place) → IsDistinct t → IsDistinct (with_places t ps)
places_distinct t [] d = d
places_distinct t (p ∷ ps) d = places_distinct (with_place t p.name p.element) ps (place_distinct t p.name p.element d)

-- what stands somewhere has a place
has_place : (t : Table) (text : List ℕ) (i : ℕ) → slice_get t i ≡ Some text → place_of t text < length t
has_place t text i e =
    ⊎_elim (λ (h : place_of t text < length t). h) (λ (h : length t ≤ place_of t text). absurd (nowhere t text h i e)) (cases_lt (place_of t text) (length t))

abbrev pub HasElement : Table → ℕ → Option ℕ → Type 0
HasElement t x None = Unit {0}
HasElement t x (Some k) = element_place t x k < length t

abbrev pub HasPlace : Table → Place → Type 0
HasPlace t p = HasElement t p.name p.element

brought_in : (old t : Table) (x : ℕ) (k : Option ℕ) → x < length old → Extends (with_place old x k) t → HasElement t x k
brought_in old t x None h e = tt
brought_in old t x (Some k) h e =
    let text = element_text (get_or old x []) k in
    let next = with_text old text in
    let all : Extends old t = extends_trans old next t (extends_text old text) e in
    let same : get_or t x [] ≡ get_or old x [] = ap (λ ts. get_or ts x []) all.1 ∙ get_or-append old all.0 [] x h in
    let stands : slice_get t (place_of old text) ≡ Some text = stays next t (place_of old text) text e (naming old text).there in
    subst (λ s. place_of t (element_text s k) < length t) (sym same) (has_place t text (place_of old text) stands)

all_below_more : (n m : ℕ) (ps : List Place) → n ≤ m → AllByRecursion (λ p. p.name < n) ps → AllByRecursion (λ p. p.name < m) ps
all_below_more n m [] le h = tt
all_below_more n m (p ∷ ps) le h = (omega (arith, le, h.0), all_below_more n m ps le h.1)

pub all_brought_in : (old : Table) (ps : List Place) (t : Table) → AllByRecursion (λ p. p.name < length old) ps → Extends (with_places old ps) t → AllByRecursion (HasPlace t) ps
all_brought_in old [] t h e = tt
all_brought_in old (p ∷ ps) t h e =
    let next = with_place old p.name p.element in (
      brought_in old t p.name p.element h.0 (extends_trans next (with_places next ps) t (places_extend next ps) e),
      all_brought_in next ps t (all_below_more (length old) (length next) ps (longer old next (place_extends old p.name p.element)) h.1) e,
    )

-- ---- the places that lines declare

abbrev pub lines_places : Forest → List Place
lines_places no_line = []
lines_places (and_line number s below rest) = declared_places s ++ (lines_places below ++ lines_places rest)

all_front : {A : Type 0} (P : A → Type 0) (xs ys : List A) → AllByRecursion P (xs ++ ys) → AllByRecursion P xs
all_front P [] ys h = tt
all_front P (x ∷ xs) ys h = (h.0, all_front P xs ys h.1)

all_back : {A : Type 0} (P : A → Type 0) (xs ys : List A) → AllByRecursion P (xs ++ ys) → AllByRecursion P ys
all_back P [] ys h = h
all_back P (x ∷ xs) ys h = all_back P xs ys h.1

all_both : {A : Type 0} (P : A → Type 0) (xs ys : List A) → AllByRecursion P xs → AllByRecursion P ys → AllByRecursion P (xs ++ ys)
all_both P [] ys h k = k
all_both P (x ∷ xs) ys h k = (h.0, all_both P xs ys h.1 k)

abbrev pub small_at : Option ℕ → Bool
small_at None = true
small_at (Some k) = nat_lt k 256

module _ (test : ℕ → Bool) (R Q : Place → Type 0)
    (step : (x : ℕ) (k : Option ℕ) → test x ≡ true → small_at k ≡ true → R (record { name = x; element = k }) → Q (record { name = x; element = k })) where
  elements_all : (x k n : ℕ) → test x ≡ true → k + n ≤ 256 → AllByRecursion R (elements_from x k n) → AllByRecursion Q (elements_from x k n)
  elements_all x k zero h le r = tt
  elements_all x k (suc n) h le r =
      let low : k < 256 = omega (arith, le) in
      let small : nat_lt k 256 ≡ true = search rules in
      (step x (Some k) h small r.0, elements_all x (k + 1) n h (omega (arith, le)) r.1)

  places_all : (d : Declared) → declared_passes test d ≡ true → declared_small d ≡ true → AllByRecursion R (places d) → AllByRecursion Q (places d)
  places_all (declared.Plain x) h s r = (step x.0 None h refl r.0, tt)
  places_all (declared.Element x k) h s r = (step x.0 (Some k) h (and_parts (nat_lt k 256) true s).0 r.0, tt)
  places_all (declared.Array x n) h s r =
      let few : n < 256 = ltb-true _ _ s in
      elements_all x.0 0 n h (omega (arith, few)) r

  declares_all : (ds : List Declared) → list_all (declared_passes test) ds ≡ true → list_all declared_small ds ≡ true → AllByRecursion R (flat_map places ds) → AllByRecursion Q (flat_map places ds)
  declares_all [] h s r = tt
  declares_all (d ∷ ds) h s r =
      let passes = and_parts (declared_passes test d) (list_all (declared_passes test) ds) h in
      let smalls = and_parts (declared_small d) (list_all declared_small ds) s in
      all_both Q (places d) (flat_map places ds)
      (places_all d passes.0 smalls.0 (all_front R (places d) (flat_map places ds) r))
      (declares_all ds passes.1 smalls.1 (all_back R (places d) (flat_map places ds) r))

  params_all : (ps : List Param) → list_all (param_passes test) ps ≡ true → list_all (λ p. declared_small p.declared) ps ≡ true
      → AllByRecursion R (flat_map (λ p. places p.declared) ps) → AllByRecursion Q (flat_map (λ p. places p.declared) ps)
  params_all [] h s r = tt
  params_all (p ∷ ps) h s r =
      let passes = and_parts (param_passes test p) (list_all (param_passes test) ps) h in
      let smalls = and_parts (declared_small p.declared) (list_all (λ q. declared_small q.declared) ps) s in
      let here = places p.declared in
      let others = flat_map (λ q. places q.declared) ps in
      all_both Q here others
      (places_all p.declared (and_parts (declared_passes test p.declared) _ passes.0).0 smalls.0 (all_front R here others r))
      (params_all ps passes.1 smalls.1 (all_back R here others r))

  shape_all : (s : Shape) → shape_passes test s ≡ true → shape_small s ≡ true → AllByRecursion R (declared_places s) → AllByRecursion Q (declared_places s)
  shape_all (header name params) h s r = params_all params (and_parts (test name.0) (list_all (param_passes test) params) h).1 s r
  shape_all close h s r = tt
  shape_all skip h s r = tt
  shape_all stop h s r = tt
  shape_all (assign xs es) h s r = tt
  shape_all (receive c x) h s r = tt
  shape_all (send c e) h s r = tt
  shape_all (group g None) h s r = tt
  shape_all (group g (Some times)) h s r = (step times.index.0 None h refl r.0, tt)
  shape_all (declare k ds) h s r = declares_all ds (and_parts _ (list_all (declared_passes test) ds) h).1 s r
  shape_all (condition e) h s r = tt
  shape_all (guard e w) h s r = tt
  shape_all nothing h s r = tt

  pub forest_all : (f : Forest) → EachLine (λ s. shape_passes test s ≡ true) f → EachLine (λ s. shape_small s ≡ true) f → AllByRecursion R (lines_places f)
      → EachLine (λ s. AllByRecursion Q (declared_places s)) f
  forest_all no_line h s r = tt
  forest_all (and_line number sh below rest) h s r =
      let inner = all_back R (declared_places sh) (lines_places below ++ lines_places rest) r in (
        shape_all sh h.0 s.0 (all_front R (declared_places sh) (lines_places below ++ lines_places rest) r),
        (
          forest_all below h.1.0 s.1.0 (all_front R (lines_places below) (lines_places rest) inner),
          forest_all rest h.1.1 s.1.1 (all_back R (lines_places below) (lines_places rest) inner),
        ),
      )

together : (Q : Place → Type 0) (f : Forest) → EachLine (λ s. AllByRecursion Q (declared_places s)) f → AllByRecursion Q (lines_places f)
together Q no_line h = tt
together Q (and_line number s below rest) h =
    all_both Q (declared_places s) (lines_places below ++ lines_places rest) h.0 (all_both Q (lines_places below) (lines_places rest) (together Q below h.1.0) (together Q rest h.1.1))

all_at_all : (ps : List Place) → AllByRecursion (λ p. Unit {0}) ps
all_at_all [] = tt
all_at_all (p ∷ ps) = (tt, all_at_all ps)

-- names of lines are numbers of the table
pub places_below : (n : ℕ) (f : Forest) → EachLine (λ s. shape_passes (λ x. nat_lt x n) s ≡ true) f → EachLine (λ s. shape_small s ≡ true) f → AllByRecursion (λ p. p.name < n) (lines_places f)
places_below n f h s =
    together (λ p. p.name < n) f (forest_all (λ x. nat_lt x n) (λ p. Unit {0}) (λ p. p.name < n) (λ x k k1 k2 k3. ltb-true _ _ k1) f h s (all_at_all (lines_places f)))

pub known_step : (t : Table) (x : ℕ) (k : Option ℕ) → is_plain t x ≡ true → small_at k ≡ true → HasElement t x k → Has (knows t) x k
known_step t x None h s r = h
known_step t x (Some k) h s r =
    let there : nat_lt (element_place t x k) (length t) ≡ true = search rules in
    and_from (is_plain t x) (nat_lt k 256 && nat_lt (element_place t x k) (length t)) h (and_from (nat_lt k 256) (nat_lt (element_place t x k) (length t)) s there)

pub are_known : (D : Known) (f : Forest) → EachLine (λ s. AreIn D (declared_places s)) f → AreKnown D f
are_known D no_line h = tt
are_known D (and_line number s below rest) h = (h.0, (are_known D below h.1.0, are_known D rest h.1.1))

-- the table in which all places that lines declare were brought knows them
pub lines_known : (old : Table) (f : Forest) → EachLine (λ s. shape_passes (λ x. nat_lt x (length old)) s ≡ true) f
    → EachLine (λ s. shape_passes (is_plain (with_places old (lines_places f))) s ≡ true) f → EachLine (λ s. shape_small s ≡ true) f
    → AreKnown (knows (with_places old (lines_places f))) f
lines_known old f low h s =
    let t = with_places old (lines_places f) in
    let there : AllByRecursion (HasPlace t) (lines_places f) = all_brought_in old (lines_places f) t (places_below (length old) f low s) (extends_same t) in
    are_known (knows t) f (forest_all (is_plain t) (HasPlace t) (λ p. Has (knows t) p.name p.element) (known_step t) f h s there)
