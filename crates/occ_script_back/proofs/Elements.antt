-- What the names of a table are where the elements of some arrays are known.
use Rattle.std.proofs.Common.{◌≡◌, ℕ, zero, suc, ◌+◌, ◌<◌, ◌≤◌, ◌==◌, Bool, true, false, not, nat_lt, List, [], ◌∷◌, length, Option, None, Some, refl, ap, sym, ◌∙◌, subst, arith, ⊎_elim}
use Rattle.std.specs.Prelude.{if◌then◌else◌}
use Rattle.std.specs.List.{AllByRecursion}
use Rattle.std.proofs.lemmas.Bool.{and_parts, and_from, eqb-true, ltb-true, lt-ltb, cases_lt}
use Rattle.occ_script_write.specs.occ_base.declared.names.Name.{Name}
use Rattle.occ_script_write.specs.occ_base.Names.{IsDistinct}
use Rattle.occ_script_write.specs.occ_syntax.declared.scope.Kind.{Kind}
use Rattle.occ_script_write.proofs.from_lex.Printing.{spelled}
use Rattle.occ_script_write.specs.occ_lex.declared.token.TokenKind.TheVariants as token
use Rattle.occ_script_write.specs.occ_lex.Spelling.{is_name}
use Rattle.occ_script_write.specs.occ_lex.Symbols.{Extends}
use Rattle.occ_script_write.proofs.from_lex.Interned.{extends_same, extends_trans, longer}
use Rattle.occ_script_write.specs.occ_names.Once.{without, firsts, same_number, with_all}
use Rattle.occ_script_write.proofs.from_names.Listed.{numbers_tested, with_all-firsts}
use Rattle.occ_print_back.proofs.from_parse.Places.{HasElement, HasPlace, all_brought_in, known_step, knows, one_to_one, places_extend}
use Rattle.occ_print_back.proofs.from_parse.Texts.{is_plain}
use Rattle.occ_script_write.specs.occ_parse_forms.declared.form.Declared.{Declared}
use Rattle.occ_script_write.specs.occ_parse_forms.declared.form.Declared.TheVariants as declared
use Rattle.occ_script.specs.occ_parse_part.Arrays.{array_at}
use Rattle.occ_script.specs.occ_parse_part.Elements.{Elements, element_count, elements_in, no_elements, numbers, with_arrays}
use Rattle.occ_script.specs.occ_parse_part.Resolving.{scope_params}
use Rattle.occ_script.proofs.from_parse_part.Counted.{count_is}
use Rattle.occ_script.proofs.from_parse_part.Covered.{AreThere, Covers, IsRight, all_right, covers_all, is_some_element}
use Rattle.occ_print_back.specs.occ_parse_rules.Places.{Place, elements_from}
use Rattle.occ_print_back.specs.occ_parse_rules.Agreement.{Has}
use Rattle.occ_print_back.specs.occ_parse_unroll.Elements.{with_places}
use Rattle.occ_print_back.specs.occ_parse_unroll.Numbers.{number_in}
use Rattle.occ_script_write.specs.occ_print.Spelled.{name_text}
use Rattle.occ_print_back.specs.Placed.{IsPlace, IsTable}
use Rattle.occ_print_back.specs.Program.{params_said}
use Rattle.occ_print_back.specs.Said.{index_of, declared_of}
use Rattle.occ_print_back.specs.Scoped.{IsNumbered}
use Rattle.occ_print_back.proofs.Stable.{index_is, numbered}
use Rattle.occ_script_back.specs.Tables.{IsBase, IsGrown}
use Rattle.occ_script_back.proofs.Growing.{base_stays, bases_stay}

-- ---- what holds of each item of a list once holds of all

put_at : (Q : ℕ → Type 0) (x z : ℕ) (zs : List ℕ) (b : Bool) → (x == z) ≡ b → Q x → AllByRecursion Q (if not b then z ∷ without same_number x zs else without same_number x zs)
    → (AllByRecursion Q (without same_number x zs) → AllByRecursion Q zs) → Q z × AllByRecursion Q zs
put_at Q x z zs true e q h f = (subst Q (eqb-true x z e) q, f h)
put_at Q x z zs false e q h f = (h.0, f h.1)

put_back : (Q : ℕ → Type 0) (x : ℕ) → Q x → (zs : List ℕ) → AllByRecursion Q (without same_number x zs) → AllByRecursion Q zs
put_back Q x q [] h = tt
put_back Q x q (z ∷ zs) h = put_at Q x z zs (x == z) refl q h (put_back Q x q zs)

firsts_all : (Q : ℕ → Type 0) (xs : List ℕ) → AllByRecursion Q (firsts same_number xs) → AllByRecursion Q xs
firsts_all Q [] h = tt
firsts_all Q (x ∷ xs) h = (h.0, firsts_all Q xs (put_back Q x h.0 (firsts same_number xs) h.1))

pub once_all : (Q : ℕ → Type 0) (xs : List ℕ) → AllByRecursion Q (with_all same_number [] xs) → AllByRecursion Q xs
once_all Q xs h = firsts_all Q xs (subst (AllByRecursion Q) (with_all-firsts same_number numbers_tested xs) h)

-- ---- the elements are in the table

below_elements : (n x k m : ℕ) → x < n → AllByRecursion (λ (p : Place). p.name < n) (elements_from x k m)
below_elements n x k zero h = tt
below_elements n x k (suc m) h = (h, below_elements n x (k + 1) m h)

element_there : (t : List (List ℕ)) (x k m j : ℕ) → k ≤ j → j < k + m → AllByRecursion (HasPlace t) (elements_from x k m) → HasElement t x (Some j)
element_there t x k zero j a b h = absurd (omega (arith, a, b))
element_there t x k (suc m) j a b h = ⊎_elim
    (λ (l : k < j). element_there t x (k + 1) m j (omega (arith, l)) (omega (arith, b)) h.1)
    (λ (l : j ≤ k). let same : k ≡ j = omega (arith, l, a) in subst (λ i. HasElement t x (Some i)) same h.0)
    (cases_lt k j)

base_plain : (t : List (List ℕ)) (x : ℕ) → IsBase t x → is_plain t x ≡ true
base_plain t x h =
    and_from (nat_lt x (length t)) _ (lt-ltb _ _ h.there) (ap is_name (index_is t x h.there) ∙ spelled (name_text t x) token.Name h.kind)

arrays_extend : (names : List (List ℕ)) (arrays : List Name) → Extends names (with_arrays names arrays)
arrays_extend names [] = extends_same names
arrays_extend names (x ∷ arrays) =
    let first = elements_from x.0 0 element_count in
    extends_trans names (with_places names first) (with_arrays (with_places names first) arrays) (places_extend names first) (arrays_extend (with_places names first) arrays)

all_there : (names t : List (List ℕ)) (arrays : List Name) → AllByRecursion (λ (x : Name). IsBase names x.0) arrays → Extends (with_arrays names arrays) t
    → AllByRecursion (λ (x : Name). AreThere t x.0) arrays
all_there names t [] h e = tt
all_there names t (x ∷ arrays) h e =
    let first = elements_from x.0 0 element_count in
    let next = with_places names first in
    let whole : Extends next t = extends_trans next (with_arrays next arrays) t (arrays_extend next arrays) e in
    let grows : Extends names t = extends_trans names next t (places_extend names first) whole in
    let in_table = all_brought_in names first t (below_elements (length names) x.0 0 element_count h.0.there) whole in (
      (λ j l. known_step t x.0 (Some j) (base_plain t x.0 (base_stays names t grows x.0 h.0)) (lt-ltb _ _ l)
          (element_there t x.0 0 element_count j (omega arith) (omega (arith, l, count_is)) in_table)),
      all_there next t arrays (bases_stay names next (places_extend names first) arrays h.1) e,
    )

-- ---- names as places, as a part is read

abbrev pub place_seen : Declared → Place
place_seen (declared.Plain y) = record { name = y.0; element = None }
place_seen (declared.Element y j) = record { name = y.0; element = Some j }
place_seen (declared.Array y n) = record { name = y.0; element = None }

small_of : (t : List (List ℕ)) (y i : ℕ) → Has (knows t) y (Some i) → i < 256
small_of t y i h = ltb-true _ _ (and_parts (nat_lt i 256) _ (and_parts _ _ h).1).0

module _ (t : List (List ℕ)) (e : Elements) where
  number_at : (d : Declared) (x : ℕ) → IsRight t e d x → numbers e (place_seen d).name (place_seen d).element ≡ x
  number_at (declared.Plain y) x h = h
  number_at (declared.Element y j) x h = h.0
  number_at (declared.Array y n) x h = absurd h

  declared_at : (d : Declared) (x : ℕ) → IsRight t e d x → declared_of (place_seen d) ≡ d
  declared_at (declared.Plain y) x h = refl
  declared_at (declared.Element y j) x h = refl
  declared_at (declared.Array y n) x h = absurd h

  module _ (distinct : IsDistinct t) where
    same_place : (x y : ℕ) (k : Option ℕ) (d : Declared) → Has (knows t) y k → number_in t y k ≡ x → AllByRecursion (Covers t e) (array_at y (index_of k))
        → d ≡ e.named x → IsRight t e d x → place_seen d ≡ record { name = y; element = k }
    same_place x y None (declared.Plain z) there n c s r = ap (λ m. record { name = m; element = None }) (r ∙ sym n)
    same_place x y None (declared.Element z j) there n c s r =
        let bad : None ≡ Some j = (one_to_one t distinct).element y None z.0 (Some j) there r.2 (n ∙ sym r.1) in absurd cc
    same_place x y (Some i) (declared.Plain z) there n c s r =
        let bad : is_some_element (declared.Plain z) ≡ true = ap is_some_element (s ∙ ap e.named (sym n)) ∙ c.0.element i (small_of t y i there) in absurd cc
    same_place x y (Some i) (declared.Element z j) there n c s r =
        let u = one_to_one t distinct in
        let name : z.0 ≡ y = u.name z.0 (Some j) y (Some i) r.2 there (r.1 ∙ sym n) in
        let place : Some j ≡ Some i = u.element z.0 (Some j) y (Some i) r.2 there (r.1 ∙ sym n) in
        ap (λ m. record { name = m; element = Some j }) name ∙ ap (λ k. record { name = y; element = k }) place
    same_place x y k (declared.Array z m) there n c s r = absurd r

module _ (names : List (List ℕ)) (P : ℕ → Place) (table : IsTable names P) (arrays : List Name) (bases : AllByRecursion (λ (x : Name). IsBase names x.0) arrays)
    (Q : ℕ → Place) (grown : IsGrown names P (with_arrays names arrays) Q) where
  abbrev t : List (List ℕ)
  t = with_arrays names arrays

  abbrev e : Elements
  e = elements_in t arrays

  abbrev pub seen_place : ℕ → Place
  seen_place x = place_seen (e.named x)

  right : (n : ℕ) → IsRight t e (e.named n) n
  right = all_right t arrays (all_there names t arrays bases (extends_same t))

  pub covers : AllByRecursion (λ (x : Name). Covers t e x.0) arrays
  covers = covers_all t no_elements arrays

  pub seen_numbered : IsNumbered (length names) seen_place (numbers e)
  seen_numbered = λ x l. number_at t e (e.named x) x (right x)

  pub scope_seen : (scope : List (Name × Kind)) → scope_params e scope ≡ params_said seen_place scope
  scope_seen [] = refl
  scope_seen (s ∷ scope) =
      ap (λ d. record { declared = d; kind = s.1 } ∷ scope_params e scope) (sym (declared_at t e (e.named s.0.0) s.0.0 (right s.0.0)))
      ∙ ap (λ ps. record { declared = declared_of (seen_place s.0.0); kind = s.1 } ∷ ps) (scope_seen scope)

  base_of : (p : Place) (text : List ℕ) → IsPlace t p text → IsBase t p.name
  base_of p text h = record { there = h.there; kind = h.kind; short = h.short }

  has_at : (x y : ℕ) (k : Option ℕ) → x < length t → is_plain t y ≡ true → number_in t y k ≡ x → (text : List ℕ) → IsPlace t (record { name = y; element = k }) text → Has (knows t) y k
  has_at x y None l plain n text p = plain
  has_at x y (Some i) l plain n text p =
      let small : i < 256 = p.index in
      known_step t y (Some i) plain (lt-ltb _ _ small) (omega (arith, l, n))

  -- a name whose array is covered is seen as its place
  pub agrees : (x : ℕ) → x < length names → AllByRecursion (Covers t e) (array_at (P x).name (index_of (P x).element)) → seen_place x ≡ P x
  agrees x l c =
      let more : x < length t = omega (arith, l, longer names t grown.extends) in
      let place = grown.table.places x more in
      let here : number_in t (Q x).name (Q x).element ≡ x = numbered t Q grown.table x more in
      let there = has_at x (Q x).name (Q x).element more (base_plain t (Q x).name (base_of (Q x) (name_text t x) place)) here (name_text t x) place in
      let q = grown.same x l in
      same_place t e grown.table.distinct x (Q x).name (Q x).element (e.named x) there here
      (subst (λ (p : Place). AllByRecursion (Covers t e) (array_at p.name (index_of p.element))) (sym q) c) refl (right x)
      ∙ q
