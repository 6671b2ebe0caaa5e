-- The elements that a text brings into two tables: the same texts.
use Rattle.std.proofs.Common.{◌≡◌, ℕ, ◌<◌, ◌≤◌, List, [], ◌∷◌, length, get_or, Option, Some, None, slice_get, refl, sym, ap, subst, ◌∙◌, arith}
use Rattle.std.specs.List.{AllByRecursion}
use Rattle.std.specs.Prelude.{IfSome}
use Rattle.std.proofs.lemmas.Option.{get_or_from_slice_get, slice_get-get_or, slice_get_within}
use Rattle.std.proofs.Math.ListN.{get_or-append}
use Rattle.occ_nform.specs.occ_base.Names.{IsDistinct, place_of, with_text}
use Rattle.occ_nform.proofs.from_base.Naming.{naming}
use Rattle.occ_renamed.specs.occ_lex.Symbols.{Extends}
use Rattle.occ_renamed.proofs.from_lex.Interned.{extends_text, extends_trans, longer}
use Rattle.occ_renamed.proofs.from_parse.Texts.{stays}
use Rattle.occ_renamed.specs.Renamed.{places_renamed}
use Rattle.occ_renamed.specs.Standing.{IsNumberedSo}
use Rattle.occ_renamed.specs.occ_parse_rules.Places.{Place}
use Rattle.occ_renamed.specs.occ_parse_unroll.Elements.{with_place, with_places}
use Rattle.occ_renamed.specs.occ_parse_unroll.Numbers.{element_text, number_in}
use Rattle.occ_renamed.proofs.from_parse_unroll.Elements.{places_extend}
use Rattle.occ_read_renamed.specs.Readings.{IsRenumbering, StandIn}
use Rattle.occ_read_renamed.proofs.Numbers.{Table, stand_with}
use Rattle.occ_script_table.proofs.Below.{IsLow}

pub place_extends : (t : Table) (x : ℕ) (o : Option ℕ) → Extends t (with_place t x o)
place_extends t x o = places_extend t (record { name = x; element = o } ∷ [])

text_kept : (old new : Table) (x : ℕ) → Extends old new → x < length old → get_or new x [] ≡ get_or old x []
text_kept old new x e h = ap (λ ts. get_or ts x []) e.1 ∙ get_or-append old e.0 [] x h

-- names below n have their texts in the one table, and the same ones under their other numbers in the other
pub record AreAlike (f : ℕ → ℕ) (n : ℕ) (names other : Table) : Type 0 where
  pub long : n ≤ length names
  pub within : (x : ℕ) → x < n → f x < length other
  pub same : (x : ℕ) → x < n → get_or other (f x) [] ≡ get_or names x []

pub alike_from : (f : ℕ → ℕ) (names other : Table) → IsRenumbering f names other → AreAlike f (length names) names other
alike_from f names other r = record {
  long = omega arith;
  within = λ x h. slice_get_within other (f x) (get_or names x []) (r.texts x (get_or names x []) (slice_get-get_or names x [] h));
  same = λ x h. get_or_from_slice_get other (f x) (get_or names x []) [] (r.texts x (get_or names x []) (slice_get-get_or names x [] h));
}

alike_later : (f : ℕ → ℕ) (n : ℕ) (names other new new' : Table) → AreAlike f n names other → Extends names new → Extends other new' → AreAlike f n new new'
alike_later f n names other new new' a e k = record {
  long = omega (arith, a.long, longer names new e);
  within = λ x h. omega (arith, a.within x h, longer other new' k);
  same = λ x h. text_kept other new' (f x) k (a.within x h) ∙ (a.same x h ∙ sym (text_kept names new x e (omega (arith, h, a.long))));
}

place_stands : (f : ℕ → ℕ) (n : ℕ) (names other : Table) (x : ℕ) (o : Option ℕ) → AreAlike f n names other → IfSome o (λ k. x < n) → StandIn names other
    → StandIn (with_place names x o) (with_place other (f x) o)
place_stands f n names other x None a low s = s
place_stands f n names other x (Some k) a low s =
    subst (λ t. StandIn (with_text names (element_text (get_or names x []) k)) (with_text other t)) (ap (λ t. element_text t k) (sym (a.same x low)))
    (stand_with names other (element_text (get_or names x []) k) s)

pub places_stand : (f : ℕ → ℕ) (n : ℕ) (names other : Table) (ps : List Place) → AreAlike f n names other → AllByRecursion (IsLow n) ps → StandIn names other
    → StandIn (with_places names ps) (with_places other (places_renamed f ps))
places_stand f n names other [] a low s = s
places_stand f n names other (p ∷ ps) a low s =
    let next = with_place names p.name p.element in
    let next' = with_place other (f p.name) p.element in
    places_stand f n next next' ps (alike_later f n names other next next' a (place_extends names p.name p.element) (place_extends other (f p.name) p.element)) low.1
    (place_stands f n names other p.name p.element a low.0 s)

-- ---- numbers of elements

-- in a longer table stands the text of the element
abbrev Stands : Table → ℕ → Option ℕ → Type 0
Stands t x o = IfSome o (λ k. (j : ℕ) × (slice_get t j ≡ Some (element_text (get_or t x []) k)))

element_stands : (n : ℕ) (old t : Table) (x : ℕ) (o : Option ℕ) → n ≤ length old → IfSome o (λ k. x < n) → Extends (with_place old x o) t → Stands t x o
element_stands n old t x None long low e = tt
element_stands n old t x (Some k) long low e =
    let text = element_text (get_or old x []) k in
    let next = with_text old text in
    let grown = extends_trans old next t (extends_text old text) e in
    let same = text_kept old t x grown (omega (arith, long, low)) in
    (place_of old text, stays next t (place_of old text) text e (naming old text).there ∙ ap (λ s. Some (element_text s k)) (sym same))

element_numbered : (f : ℕ → ℕ) (n : ℕ) (t u : Table) → IsDistinct t → IsDistinct u → IsRenumbering f t u → AreAlike f n t u → (x : ℕ) (o : Option ℕ)
    → IfSome o (λ k. x < n) → Stands t x o → IsNumberedSo f (number_in t) (number_in u) (record { name = x; element = o })
element_numbered f n t u d e r a x None low s = refl
element_numbered f n t u d e r a x (Some k) low s =
    let text = element_text (get_or t x []) k in
    let there : slice_get u (f s.0) ≡ Some text = r.texts s.0 text s.1 in
    ap (λ z. place_of u (element_text z k)) (a.same x low)
    ∙ ((naming u text).again (f s.0) e there ∙ ap f (sym ((naming t text).again s.0 d s.1)))

pub places_numbered : (f : ℕ → ℕ) (n : ℕ) (old t u : Table) → IsDistinct t → IsDistinct u → IsRenumbering f t u → AreAlike f n t u → n ≤ length old
    → (ps : List Place) → AllByRecursion (IsLow n) ps → Extends (with_places old ps) t → AllByRecursion (IsNumberedSo f (number_in t) (number_in u)) ps
places_numbered f n old t u d e r a long [] low k = tt
places_numbered f n old t u d e r a long (p ∷ ps) low k =
    let next = with_place old p.name p.element in
    let more = place_extends old p.name p.element in (
      element_numbered f n t u d e r a p.name p.element low.0
          (element_stands n old t p.name p.element long low.0 (extends_trans next (with_places next ps) t (places_extend next ps) k)),
      places_numbered f n next t u d e r a (omega (arith, long, longer old next more)) ps low.1 k,
    )
