-- The names of a header's places: numbers of the table with texts that are names of parameters.
use Rattle.std.proofs.Common.{◌≡◌, ℕ, ◌+◌, ◌^◌, ◌<◌, ◌≤◌, true, eqb, nat_lt, nat_le, List, [], ◌∷◌, ◌++◌, length, get_or, slice_get, take, drop, Option, Some, None, refl, sym, ap, subst, ◌∙◌, arith, append_assoc, append-nil, lit≤}
use Rattle.std.specs.Prelude.{decimal, unwrap_or}
use Rattle.std.specs.List.{AllByRecursion, list_all, position_or_len}
use Rattle.std.proofs.lemmas.Bool.{and_parts, and_from, cond-true, cond-false, ltb-true, lt-ltb, le-ltb, le-leb}
use Rattle.std.proofs.lemmas.Option.{slice_get-get_or, slice_get_within, get_or_from_slice_get}
use Rattle.occ_nform.specs.occ_base.declared.names.Name.{Name}
use Rattle.occ_nform.proofs.from_base.Naming.{at_place}
use Rattle.occ_renamed.specs.occ_lex.declared.token.TokenKind.{TokenKind}
use Rattle.occ_renamed.specs.occ_lex.declared.token.TokenKind.TheVariants as kind
use Rattle.occ_renamed.specs.occ_lex.Spelling.{is_letter, is_name, is_name_byte, kind_of}
use Rattle.occ_renamed.proofs.from_lex.Classes.{letter_name_byte}
use Rattle.occ_renamed.proofs.from_lex.Printing.{spelled}
use Rattle.occ_renamed.specs.occ_lex.Symbols.{Extends}
use Rattle.occ_renamed.specs.occ_parse_forms.declared.form.Param.{Param}
use Rattle.occ_renamed.specs.occ_parse_forms.Shape.{header}
use Rattle.occ_renamed.specs.occ_parse_rules.Forest.{Forest, no_line, and_line}
use Rattle.occ_renamed.specs.occ_parse_rules.Places.{Place}
use Rattle.occ_renamed.specs.occ_parse_rules.Agreement.{Has}
use Rattle.occ_renamed.specs.occ_parse_rules.Passing.{param_passes}
use Rattle.occ_renamed.specs.occ_parse_unroll.Elements.{with_places, params_places}
use Rattle.occ_renamed.specs.occ_parse_unroll.Numbers.{element_text, number_in}
use Rattle.occ_renamed.proofs.from_parse.Places.{knows, small_at, HasElement, HasPlace, known_step, forest_all, all_brought_in, lines_places}
use Rattle.occ_renamed.proofs.from_parse.Small.{declared_small}
use Rattle.occ_renamed.proofs.from_parse.Texts.{is_plain as has_name, stays}
use Rattle.occ_nform.proofs.from_nform_table.WrittenWords.{lacks, is_not, class_lacks, before_back, cut_at}
use Rattle.occ_nform.proofs.from_nform_table.WrittenNumerals.{small_number_read}
use Rattle.occ_nform.specs.occ_nform_table.Lines.{is_name_kind, is_plain, is_place, closes, is_element, is_param_name, text_of}
use Rattle.occ_nform.specs.occ_nform_table.Words.{then_read, cut, small_number_of}
use Rattle.occ_read_renamed.proofs.Header.{Table, is_good}

-- ---- names of parameters

kind_named : (s : List ℕ) (k : Option TokenKind) → kind_of s ≡ k → is_name_kind k ≡ true → is_name s ≡ true
kind_named s (Some kind.Name) e h = spelled s kind.Name e
kind_named s (Some kind.Word) e h = absurd cc
kind_named s (Some kind.Numeral) e h = absurd cc
kind_named s (Some kind.Sign) e h = absurd cc
kind_named s None e h = absurd cc

plain_named : (s : List ℕ) → is_plain s ≡ true → is_name s ≡ true
unfolding is_plain
plain_named s h = kind_named s (kind_of s) refl (and_parts (nat_le (length s) 32) (is_name_kind (kind_of s)) h).1

name_bytes : (s : List ℕ) → is_name s ≡ true → list_all is_name_byte s ≡ true
unfolding is_name
name_bytes [] h = refl
name_bytes (byte ∷ rest) h =
    let parts = and_parts (is_letter byte) (list_all is_name_byte rest) h in
    and_from (is_name_byte byte) (list_all is_name_byte rest) (letter_name_byte byte parts.0) parts.1

plain_lacks : (s : List ℕ) → is_plain s ≡ true → lacks 91 s ≡ true
plain_lacks s h = class_lacks is_name_byte 91 refl s (name_bytes s (plain_named s h))

no_place : (byte : ℕ) (s : List ℕ) → lacks byte s ≡ true → position_or_len (λ b. eqb b byte) s ≡ length s
no_place byte [] h = refl
no_place byte (b ∷ s) h =
    let parts = and_parts (is_not byte b) (lacks byte s) h in
    cond-true _ (1 + position_or_len (λ c. eqb c byte) s) 0 parts.0 ∙ ap (λ n. 1 + n) (no_place byte s parts.1) ∙ omega arith

not_cut : (byte : ℕ) (s : List ℕ) → lacks byte s ≡ true → cut byte s ≡ None
unfolding cut
not_cut byte s h =
    let n = no_place byte s h in
    let none = cond-false (nat_lt (position_or_len (λ b. eqb b byte) s) (length s)) (Some (position_or_len (λ b. eqb b byte) s)) None (le-ltb _ _ (omega (arith, n))) in
    ap (λ o. then_read {B = List ℕ × List ℕ} o (λ i. Some (take i s, drop (i + 1) s))) none

plain_param : (s : List ℕ) → is_plain s ≡ true → is_param_name s ≡ true
unfolding is_param_name
plain_param s h = ap (λ o. is_element o s) (not_cut 91 s (plain_lacks s h)) ∙ h

closes_decimal : (k : ℕ) → k < 256 → closes (decimal k ++ 93 ∷ []) ≡ true
unfolding closes
closes_decimal k low =
    let most : 256 ≤ 2 ^ 32 = lit≤ tt in
    ap (λ o. is_place (then_read o small_number_of)) (before_back (decimal k) (93 ∷ []))
    ∙ ap is_place (small_number_read k (omega (arith, low, most))) ∙ le-leb k 255 (omega (arith, low))

element_text_is : (a : List ℕ) (k : ℕ) → element_text a k ≡ a ++ 91 ∷ (decimal k ++ 93 ∷ [])
element_text_is a k = append_assoc (a ++ 91 ∷ []) (decimal k) (93 ∷ []) ∙ append_assoc a (91 ∷ []) (decimal k ++ 93 ∷ [])

element_param : (a : List ℕ) (k : ℕ) → is_plain a ≡ true → k < 256 → is_param_name (element_text a k) ≡ true
unfolding is_param_name
element_param a k h low =
    let rest = decimal k ++ 93 ∷ [] in
    ap is_param_name (element_text_is a k)
    ∙ ap (λ o. is_element o (a ++ 91 ∷ rest)) (cut_at 91 a rest (plain_lacks a h))
    ∙ and_from (is_plain a) (closes rest) h (closes_decimal k low)

-- ---- places

-- the name of a number
abbrev pub numbered : ℕ → Name
numbered n = record { 0 = n }

-- the place has a number in the table, whose text is the name of a parameter
pub record Stands (t : Table) (p : Place) : Type 0 where
  pub within : number_in t p.name p.element < length t
  pub named : is_param_name (text_of t (numbered (number_in t p.name p.element))) ≡ true
  pub known : Has (knows t) p.name p.element

module _ (old t : Table) (e : Extends old t) where
  good_within : (x : ℕ) → is_good old x ≡ true → x < length old
  good_within x h = ltb-true _ _ (and_parts (nat_lt x (length old)) (is_plain (get_or old x [])) h).0

  good_plain : (x : ℕ) → is_good old x ≡ true → is_plain (get_or old x []) ≡ true
  good_plain x h = (and_parts (nat_lt x (length old)) (is_plain (get_or old x [])) h).1

  there : (x : ℕ) → is_good old x ≡ true → slice_get t x ≡ Some (get_or old x [])
  there x h = stays old t x (get_or old x []) e (slice_get-get_or old x [] (good_within x h))

  same_text : (x : ℕ) → is_good old x ≡ true → get_or t x [] ≡ get_or old x []
  same_text x h = get_or_from_slice_get t x (get_or old x []) [] (there x h)

  still_plain : (x : ℕ) → is_good old x ≡ true → is_plain (get_or t x []) ≡ true
  still_plain x h = ap is_plain (same_text x h) ∙ good_plain x h

  still_named : (x : ℕ) → is_good old x ≡ true → has_name t x ≡ true
  still_named x h =
      and_from (nat_lt x (length t)) (is_name (get_or t x [])) (lt-ltb _ _ (slice_get_within t x (get_or old x []) (there x h))) (plain_named (get_or t x []) (still_plain x h))

  place_stands : (x : ℕ) (k : Option ℕ) → is_good old x ≡ true → small_at k ≡ true → HasElement t x k → Stands t (record { name = x; element = k })
  place_stands x None h s r = record {
    within = slice_get_within t x (get_or old x []) (there x h);
    named = ap (λ (o : Option (List ℕ)). is_param_name (unwrap_or o [])) (there x h) ∙ plain_param (get_or old x []) (good_plain x h);
    known = known_step t x None (still_named x h) s r;
  }
  place_stands x (Some k) h s r =
      let text = element_text (get_or t x []) k in
      record {
        within = r;
        named = ap (λ (o : Option (List ℕ)). is_param_name (unwrap_or o [])) (at_place t text r) ∙ element_param (get_or t x []) k (still_plain x h) (ltb-true _ _ s);
        known = known_step t x (Some k) (still_named x h) s r;
      }

-- ---- the places of parameters

all_units : (ps : List Place) → AllByRecursion (λ p. Unit {0}) ps
all_units [] = tt
all_units (p ∷ ps) = (tt, all_units ps)

-- the header by itself
abbrev alone : Name → List Param → Forest
alone name params = and_line 0 (header name params) no_line no_line

module _ (old t : Table) (params : List Param) (named : list_all (param_passes (is_good old)) params ≡ true) (small : list_all (λ p. declared_small p.declared) params ≡ true)
    (name : Name) (first : is_good old name.0 ≡ true) (e : Extends (with_places old (params_places params)) t) (o : Extends old t) where
  below : AllByRecursion (λ p. p.name < length old) (params_places params)
  below = (forest_all (is_good old) (λ p. Unit {0}) (λ p. p.name < length old) (λ x k h s r. good_within old t o x h)
      (alone name params) (and_from (is_good old name.0) (list_all (param_passes (is_good old)) params) first named, (tt, tt)) (small, (tt, tt)) (all_units (lines_places (alone name params)))).0

  brought : AllByRecursion (HasPlace t) (params_places params)
  brought = all_brought_in old (params_places params) t below e

  pub all_stand : AllByRecursion (Stands t) (params_places params)
  all_stand = (forest_all (is_good old) (HasPlace t) (Stands t) (place_stands old t o)
      (alone name params) (and_from (is_good old name.0) (list_all (param_passes (is_good old)) params) first named, (tt, tt)) (small, (tt, tt))
      (subst (AllByRecursion (HasPlace t)) (sym (append-nil (params_places params))) brought)).0
