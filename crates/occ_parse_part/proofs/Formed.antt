-- What is known of a part that is read.
use Rattle.std.proofs.Common.{◌≡◌, ℕ, zero, suc, ◌+◌, ◌<◌, ◌≤◌, ◌==◌, Bool, true, false, true≢false, cond, nat_lt, List, [], ◌∷◌, ◌++◌, length, Option, Some, None, refl, sym, ap, subst, ◌∙◌, arith, rules, ◌||◌, ⊎_elim}
use Rattle.std.specs.List.{AllByRecursion, list_all, list_any, flat_map}
use Rattle.std.proofs.lemmas.Bool.{and_from, eqb-true, ltb-true, cases_lt}
use Rattle.std.proofs.lemmas.Grind.{flat_map-append}
use Rattle.occ_syntax.specs.occ_base.declared.names.Name.{Name}
use Rattle.occ_syntax.specs.occ_base.Names.{IsDistinct}
use Rattle.occ_syntax.specs.View.{numbers as numbers_of}
use Rattle.occ_parse_forms.specs.occ_lex.declared.token.Line.{Line}
use Rattle.occ_parse_forms.specs.occ_lex.Placed.{IsLineOf as IsTextLine}
use Rattle.occ_parse_forms.specs.occ_lex.Symbols.{Extends, with_names_of_all}
use Rattle.occ_parse_forms.proofs.from_lex.Interned.{extends_eq, extends_same}
use Rattle.occ_parse.specs.occ_names.Once.{has, same_number, with_one, with_all}
use Rattle.occ_parse_forms.specs.declared.form.Declared.{Declared}
use Rattle.occ_parse_forms.specs.declared.form.Declared.TheVariants as declared
use Rattle.occ_parse_forms.specs.declared.form.Param.{Param}
use Rattle.occ_parse_forms.specs.Shape.{Shape, header, close, skip, stop, assign, receive, send, group, declare, condition, guard, nothing}
use Rattle.occ_parse_rules.specs.Forest.{Forest, no_line, and_line, Laid, lines_at}
use Rattle.occ_parse_rules.specs.Places.{Place, places, elements_from}
use Rattle.occ_parse_rules.specs.Agreement.{Has, declared_places, AreKnown}
use Rattle.occ_parse_rules.specs.Passing.{shape_passes}
use Rattle.occ_parse.specs.occ_parse_unroll.Elements.{with_element, with_places}
use Rattle.occ_parse.specs.occ_parse_unroll.Numbers.{number_in}
use Rattle.occ_parse.proofs.from_parse_unroll.Elements.{places_behind}
use Rattle.occ_parse.specs.declared.fault.ParseFault.{ParseFault}
use Rattle.occ_parse.proofs.Texts.{is_plain, plain_table}
use Rattle.occ_parse.proofs.Small.{shape_small}
use Rattle.occ_parse.proofs.Knowing.{EachLine, IsLineOf, each_map, each_of_lines, line_passes, line_small, lines_sound}
use Rattle.occ_parse.proofs.Places.{knows as in_table, HasElement, HasPlace, all_brought_in, are_known, forest_all, known_step, lines_places, one_to_one, places_extend, small_at}
use Rattle.occ_parse_part.specs.Arrays.{arrays_of, declared_array, line_arrays}
use Rattle.occ_parse_part.specs.Elements.{Elements, element_count, elements_in, no_elements, with_arrays}
use Rattle.occ_parse_part.proofs.Equal.{eqb-refl}
use Rattle.occ_parse_part.specs.Parts.{AreJudged, IsGood, IsWellLaid, is_element, is_itself, knows}
use Rattle.occ_parse_part.proofs.Known.{arrays_known, arrays_pass, lines_are_of, lines_pass_test, names_pass}
use Rattle.occ_parse_part.proofs.Laid.{part_placed}
use Rattle.occ_parse_part.proofs.Counted.{count_is}
use Rattle.occ_parse_part.proofs.Covered.{AreThere, Covers, IsRight, all_right, covers_all, is_some_element, right_numbered}

-- ---- lists in which each item stands once

module _ (P : ℕ → Type 0) where
  front : (xs ys : List ℕ) → AllByRecursion P (xs ++ ys) → AllByRecursion P xs
  front [] ys h = tt
  front (x ∷ xs) ys h = (h.0, front xs ys h.1)

  back : (xs ys : List ℕ) → AllByRecursion P (xs ++ ys) → AllByRecursion P ys
  back [] ys h = h
  back (x ∷ xs) ys h = back xs ys h.1

  one_front : (b : Bool) (fs : List ℕ) (y : ℕ) → AllByRecursion P (cond b fs (fs ++ y ∷ [])) → AllByRecursion P fs
  one_front true fs y h = h
  one_front false fs y h = front fs (y ∷ []) h

  there_at : (b : Bool) (x y : ℕ) (fs : List ℕ) → (y == x) ≡ b → (list_any (λ z. y == z) fs ≡ true → P y) → P x → (b || list_any (λ z. y == z) fs) ≡ true → P y
  there_at true x y fs e f p h = subst P (sym (eqb-true y x e)) p
  there_at false x y fs e f p h = f h

  is_there : (fs : List ℕ) (y : ℕ) → has same_number fs y ≡ true → AllByRecursion P fs → P y
  is_there [] y h a = absurd (true≢false (sym h))
  is_there (x ∷ fs) y h a = there_at (y == x) x y fs refl (λ k. is_there fs y k a.1) a.0 h

  one_last : (b : Bool) (fs : List ℕ) (y : ℕ) → has same_number fs y ≡ b → AllByRecursion P (cond b fs (fs ++ y ∷ [])) → P y
  one_last true fs y e h = is_there fs y e h
  one_last false fs y e h = (back fs (y ∷ []) h).0

  kept_front : (fs ys : List ℕ) → AllByRecursion P (with_all same_number fs ys) → AllByRecursion P fs
  kept_front fs [] h = h
  kept_front fs (y ∷ ys) h = one_front (has same_number fs y) fs y (kept_front (with_one same_number fs y) ys h)

  -- what holds of each item once holds of each
  once_all : (fs ys : List ℕ) → AllByRecursion P (with_all same_number fs ys) → AllByRecursion P ys
  once_all fs [] h = tt
  once_all fs (y ∷ ys) h =
      (one_last (has same_number fs y) fs y refl (kept_front (with_one same_number fs y) ys h), once_all (with_one same_number fs y) ys h)

  numbers_all : (xs : List Name) → AllByRecursion (λ (x : Name). P x.0) xs → AllByRecursion P (numbers_of xs)
  numbers_all [] h = tt
  numbers_all (x ∷ xs) h = (h.0, numbers_all xs h.1)

  -- ---- the places that lines declare

  abbrev At : ℕ → Option ℕ → Type 0
  At x None = Unit {0}
  At x (Some k) = P x

  abbrev IsAt : Place → Type 0
  IsAt p = At p.name p.element

  both_places : (ps qs : List Place) → AllByRecursion IsAt ps → AllByRecursion IsAt qs → AllByRecursion IsAt (ps ++ qs)
  both_places [] qs h g = g
  both_places (p ∷ ps) qs h g = (h.0, both_places ps qs h.1 g)

  elements_at : (x k n : ℕ) → P x → AllByRecursion IsAt (elements_from x k n)
  elements_at x k zero h = tt
  elements_at x k (suc n) h = (h, elements_at x (k + 1) n h)

  declared_at : (d : Declared) → AllByRecursion P (declared_array d) → AllByRecursion IsAt (places d)
  declared_at (declared.Plain x) h = (tt, tt)
  declared_at (declared.Element x k) h = (h.0, tt)
  declared_at (declared.Array x n) h = elements_at x.0 0 n h.0

  all_declared_at : (ds : List Declared) → AllByRecursion P (flat_map declared_array ds) → AllByRecursion IsAt (flat_map places ds)
  all_declared_at [] h = tt
  all_declared_at (d ∷ ds) h =
      both_places (places d) (flat_map places ds) (declared_at d (front (declared_array d) (flat_map declared_array ds) h))
      (all_declared_at ds (back (declared_array d) (flat_map declared_array ds) h))

  params_at : (ps : List Param) → AllByRecursion P (flat_map (λ (p : Param). declared_array p.declared) ps) → AllByRecursion IsAt (flat_map (λ (p : Param). places p.declared) ps)
  params_at [] h = tt
  params_at (p ∷ ps) h =
      let others = flat_map (λ (q : Param). declared_array q.declared) ps in
      both_places (places p.declared) (flat_map (λ (q : Param). places q.declared) ps) (declared_at p.declared (front (declared_array p.declared) others h))
      (params_at ps (back (declared_array p.declared) others h))

  shape_at : (s : Shape) → AllByRecursion P (line_arrays s) → AllByRecursion IsAt (declared_places s)
  shape_at (header name params) h = params_at params h
  shape_at close h = tt
  shape_at skip h = tt
  shape_at stop h = tt
  shape_at (assign xs es) h = tt
  shape_at (receive c x) h = tt
  shape_at (send c e) h = tt
  shape_at (group g None) h = tt
  shape_at (group g (Some times)) h = (tt, tt)
  shape_at (declare k ds) h = all_declared_at ds h
  shape_at (condition e) h = tt
  shape_at (guard e w) h = tt
  shape_at nothing h = tt

  abbrev arrays_in : Laid → List ℕ
  arrays_in line = line_arrays line.shape

  lines_at_all : (level : ℕ) (f : Forest) → AllByRecursion P (flat_map arrays_in (lines_at level f)) → AllByRecursion IsAt (lines_places f)
  lines_at_all level no_line h = tt
  lines_at_all level (and_line number s below rest) h =
      let inner = lines_at (level + 1) below in
      let others = lines_at level rest in
      let behind = back (line_arrays s) (flat_map (λ (l : Laid). line_arrays l.shape) (inner ++ others)) h in
      let split = subst (AllByRecursion P) (flat_map-append (λ (l : Laid). line_arrays l.shape) inner others) behind in
      both_places (declared_places s) (lines_places below ++ lines_places rest)
      (shape_at s (front (line_arrays s) (flat_map (λ (l : Laid). line_arrays l.shape) (inner ++ others)) h))
      (both_places (lines_places below) (lines_places rest)
      (lines_at_all (level + 1) below (front (flat_map (λ (l : Laid). line_arrays l.shape) inner) (flat_map (λ (l : Laid). line_arrays l.shape) others) split))
      (lines_at_all level rest (back (flat_map (λ (l : Laid). line_arrays l.shape) inner) (flat_map (λ (l : Laid). line_arrays l.shape) others) split)))

  arrays_at_all : (f : Forest) → AllByRecursion P (arrays_of (lines_at 1 f)) → AllByRecursion IsAt (lines_places f)
  arrays_at_all f h = lines_at_all 1 f (once_all [] (flat_map (λ (l : Laid). line_arrays l.shape) (lines_at 1 f)) h)

-- ---- the table

abbrev all_elements : List Name → List Place
all_elements arrays = flat_map (λ (x : Name). elements_from x.0 0 element_count) arrays

arrays_places : (t : List (List ℕ)) (arrays : List Name) → with_arrays t arrays ≡ with_places t (all_elements arrays)
arrays_places t [] = refl
arrays_places t (x ∷ arrays) =
    let first = elements_from x.0 0 element_count in
    arrays_places (with_places t first) arrays ∙ sym (places_behind with_element t first (all_elements arrays))

below_elements : (n x k m : ℕ) → x < n → AllByRecursion (λ (p : Place). p.name < n) (elements_from x k m)
below_elements n x k zero h = tt
below_elements n x k (suc m) h = (h, below_elements n x (k + 1) m h)

all_both : {A : Type 0} (P : A → Type 0) (xs ys : List A) → AllByRecursion P xs → AllByRecursion P ys → AllByRecursion P (xs ++ ys)
all_both P [] ys h g = g
all_both P (x ∷ xs) ys h g = (h.0, all_both P xs ys h.1 g)

all_back : {A : Type 0} (P : A → Type 0) (xs ys : List A) → AllByRecursion P (xs ++ ys) → AllByRecursion P ys
all_back P [] ys h = h
all_back P (x ∷ xs) ys h = all_back P xs ys h.1

all_front : {A : Type 0} (P : A → Type 0) (xs ys : List A) → AllByRecursion P (xs ++ ys) → AllByRecursion P xs
all_front P [] ys h = tt
all_front P (x ∷ xs) ys h = (h.0, all_front P xs ys h.1)

all_below : (n : ℕ) (arrays : List Name) → AllByRecursion (λ (x : Name). x.0 < n) arrays → AllByRecursion (λ (p : Place). p.name < n) (all_elements arrays)
all_below n [] h = tt
all_below n (x ∷ arrays) h =
    all_both (λ (p : Place). p.name < n) (elements_from x.0 0 element_count) (all_elements arrays) (below_elements n x.0 0 element_count h.0) (all_below n arrays h.1)

element_has : (t : List (List ℕ)) (x k m j : ℕ) → k ≤ j → j < k + m → AllByRecursion (HasPlace t) (elements_from x k m) → HasElement t x (Some j)
element_has t x k zero j a b h = absurd (omega (arith, a, b))
element_has t x k (suc m) j a b h = ⊎_elim
    (λ (l : k < j). element_has t x (k + 1) m j (omega (arith, l)) (omega (arith, b)) h.1)
    (λ (l : j ≤ k). let same : k ≡ j = omega (arith, l, a) in subst (λ i. HasElement t x (Some i)) same h.0)
    (cases_lt k j)

-- all elements of the arrays are in the table
there_all : (t : List (List ℕ)) (arrays : List Name) → AllByRecursion (λ (x : Name). is_plain t x.0 ≡ true) arrays → AllByRecursion (HasPlace t) (all_elements arrays)
    → AllByRecursion (λ (x : Name). AreThere t x.0) arrays
there_all t [] p h = tt
there_all t (x ∷ arrays) p h =
    let first = all_front (HasPlace t) (elements_from x.0 0 element_count) (all_elements arrays) h in (
      (λ j within.
          let small : nat_lt j 256 ≡ true = search rules in
          known_step t x.0 (Some j) p.0 small (element_has t x.0 0 element_count j (omega arith) (omega (arith, within, count_is)) first)),
      there_all t arrays p.1 (all_back (HasPlace t) (elements_from x.0 0 element_count) (all_elements arrays) h),
    )

-- ---- names of their own

abbrev Own : List (List ℕ) → Elements → ℕ → Type 0
Own t e x = Covers t e x × AreThere t x

module _ (t : List (List ℕ)) (distinct : IsDistinct t) (e : Elements) (right : (n : ℕ) → IsRight t e (e.named n) n) where
  itself : (x : ℕ) (d : Declared) → IsRight t e d x → is_plain t x ≡ true → is_itself d x ≡ true
  itself x (declared.Plain y) h p = ap (λ n. n == x) h ∙ eqb-refl x
  itself x (declared.Element y j) h p =
      let same : None ≡ Some j = (one_to_one t distinct).element x None y.0 (Some j) p h.2 (sym h.1) in absurd cc
  itself x (declared.Array y c) h p = absurd h

  element_of : (x k : ℕ) (d : Declared) → Has (in_table t) x (Some k) → IsRight t e d (number_in t x (Some k)) → is_some_element d ≡ true → is_element d x k ≡ true
  element_of x k (declared.Plain y) h r s = absurd cc
  element_of x k (declared.Element y j) h r s =
      let u = one_to_one t distinct in
      let name : y.0 ≡ x = u.name y.0 (Some j) x (Some k) r.2 h r.1 in
      let place : Some j ≡ Some k = u.element y.0 (Some j) x (Some k) r.2 h r.1 in
      let place_is : j ≡ k = cc in
      and_from (y.0 == x) (j == k) (ap (λ n. n == x) name ∙ eqb-refl x) (ap (λ n. n == k) place_is ∙ eqb-refl k)
  element_of x k (declared.Array y c) h r s = absurd cc

  own_step : (x : ℕ) (k : Option ℕ) → is_plain t x ≡ true → small_at k ≡ true → IsAt (Own t e) (record { name = x; element = k }) → Has (knows e) x k
  own_step x None p s o = itself x (e.named x) (right x) p
  own_step x (Some k) p s o =
      let within : k < 256 = ltb-true _ _ s in
      let n = o.0.number k within in
      ap (λ m. is_element (e.named m) x k) n ∙ element_of x k (e.named (number_in t x (Some k))) (o.1 k within) (right (number_in t x (Some k))) (o.0.element k within)

-- ---- the whole part

eq_step : (x : ℕ) (k : Option ℕ) (e : Elements) → e ≡ no_elements → IsAt (λ y. ⊥) (record { name = x; element = k }) → Has (knows e) x k
eq_step x None e is o = ap (λ (d : Elements). is_itself (d.named x) x) is ∙ eqb-refl x
eq_step x (Some k) e is o = absurd o

two_all : {A : Type 0} (P Q : A → Type 0) (xs : List A) → AllByRecursion P xs → AllByRecursion Q xs → AllByRecursion (λ x. P x × Q x) xs
two_all P Q [] h g = tt
two_all P Q (x ∷ xs) h g = ((h.0, g.0), two_all P Q xs h.1 g.1)

module _ (text : List ℕ) (old : List (List ℕ)) (lines : List Line) (laid : List Laid) (halt : Option ParseFault) (f : Forest) (t : List (List ℕ))
    (ok : AllByRecursion (IsTextLine text) lines) (judged : AreJudged text old lines laid halt) (well : IsWellLaid laid halt f) where
  abbrev base : List (List ℕ)
  base = with_names_of_all text old lines

  each : Extends base t → EachLine (IsLineOf t) f
  each grows = each_of_lines (IsLineOf t) 1 f (subst (AllByRecursion (λ (line : Laid). IsLineOf t line.shape)) (sym well.lines) (lines_are_of text old t lines laid halt ok grows judged))

  plain : Extends base t → EachLine (λ s. shape_passes (is_plain t) s ≡ true) f
  plain grows = each_map (IsLineOf t) (λ s. shape_passes (is_plain t) s ≡ true) (line_passes t (is_plain t) (plain_table t)) f (each grows)

  small : Extends base t → EachLine (λ s. shape_small s ≡ true) f
  small grows = each_map (IsLineOf t) (λ s. shape_small s ≡ true) (line_small t) f (each grows)

  module _ (arrays : List Name) (once : numbers_of arrays ≡ arrays_of laid) (table : t ≡ with_arrays base arrays) (e : Elements) (is : e ≡ elements_in t arrays) where
    brought : t ≡ with_places base (all_elements arrays)
    brought = table ∙ arrays_places base arrays

    grows : Extends base t
    grows = subst (Extends base) (sym brought) (places_extend base (all_elements arrays))

    theres : AllByRecursion (λ (x : Name). AreThere t x.0) arrays
    theres =
        let low = arrays_known text old base lines laid halt arrays ok (extends_same base) judged once in
        let has_all = all_brought_in base (all_elements arrays) t (all_below (length base) arrays low) (extends_eq (with_places base (all_elements arrays)) t brought) in
        let passes = lines_pass_test t (is_plain t) (plain_table t) laid (lines_are_of text old t lines laid halt ok grows judged) in
        there_all t arrays (names_pass (is_plain t) arrays (ap (list_all (is_plain t)) once ∙ arrays_pass (is_plain t) laid passes)) has_all

    right : (n : ℕ) → IsRight t e (e.named n) n
    right n = subst (λ (d : Elements). IsRight t d (d.named n) n) (sym is) (all_right t arrays theres n)

    owns : AllByRecursion (Own t e) (arrays_of (lines_at 1 f))
    owns =
        let covers : AllByRecursion (λ (x : Name). Covers t e x.0) arrays = subst (λ (d : Elements). AllByRecursion (λ (x : Name). Covers t d x.0) arrays) (sym is) (covers_all t no_elements arrays) in
        let all = numbers_all (λ x. Covers t e x × AreThere t x) arrays (two_all (λ (x : Name). Covers t e x.0) (λ (x : Name). AreThere t x.0) arrays covers theres) in
        subst (AllByRecursion (λ x. Covers t e x × AreThere t x)) (once ∙ ap arrays_of (sym well.lines)) all

    known : IsDistinct t → AreKnown (knows e) f
    known d =
        are_known (knows e) f
        (forest_all (is_plain t) (IsAt (Own t e)) (λ p. Has (knows e) p.name p.element) (own_step t d e right) f (plain grows) (small grows) (arrays_at_all (Own t e) f owns))

    good : AreKnown (knows e) f → IsGood f e
    good k = record {
      sound = lines_sound t f (each grows);
      placed = part_placed laid halt f well;
      known = k;
      numbered = λ n. right_numbered t e (e.named n) n (right n);
    }

  known_without : (e : Elements) → [] ≡ arrays_of laid → t ≡ base → e ≡ no_elements → AreKnown (knows e) f
  known_without e once table is =
      let grows : Extends base t = extends_eq base t table in
      let none : AllByRecursion (λ y. ⊥) (arrays_of (lines_at 1 f)) = subst (AllByRecursion (λ y. ⊥)) (once ∙ ap arrays_of (sym well.lines)) tt in
      are_known (knows e) f
      (forest_all (is_plain t) (IsAt (λ y. ⊥)) (λ p. Has (knows e) p.name p.element) (λ x k a b c. eq_step x k e is c) f (plain grows) (small grows) (arrays_at_all (λ y. ⊥) f none))

  pub good_part : (arrays : List Name) → numbers_of arrays ≡ arrays_of laid → t ≡ with_arrays (with_names_of_all text old lines) arrays → (e : Elements) → e ≡ elements_in t arrays
      → (0 < length arrays → IsDistinct t) → IsGood f e
  good_part [] once table e is d = good [] once table e is (known_without e once table is)
  good_part (x ∷ xs) once table e is d = good (x ∷ xs) once table e is (known (x ∷ xs) once table e is (d (omega arith)))
