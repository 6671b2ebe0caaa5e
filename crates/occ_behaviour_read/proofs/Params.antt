-- The parameters of a table by their names and kinds, and as they are tested.
use Rattle.std.proofs.Common.{◌≡◌, ◌∙◌, ℕ, suc, ◌+◌, ◌<◌, ◌≤◌, Bool, true, false, leb, not, List, [], ◌∷◌, ◌++◌, length, map, slice_get, Option, None, Some, refl, sym, ap, subst, arith, append_assoc, length-append, ⊎_elim}
use Rattle.std.specs.Prelude.{codes, decimal}
use Rattle.std.specs.List.{list_all, list_any, AllByRecursion}
use Rattle.std.specs.Str.{bytes_eq}
use Rattle.std.proofs.lemmas.Bool.{and_from, and_parts, both_ways, cases_Bool, le-leb, leb-true, lt-ltb, not_from_false, or_cases}
use Rattle.std.proofs.lemmas.List.{map-append}
use Rattle.std.proofs.lemmas.Slice.Eq.{bytes_eq-Decides}
use Rattle.occ_syntax.specs.occ_base.Names.{IsDistinct}
use Rattle.occ_syntax.specs.occ_base.declared.names.Name.{Name}
use Rattle.occ_nform_read.proofs.from_lex.Classes.{letter_name_byte}
use Rattle.occ_nform_read.proofs.from_lex.Printing.{spelled}
use Rattle.occ_nform_read.specs.occ_lex.Spelling.{is_letter, is_name, is_name_byte, kind_of}
use Rattle.occ_nform_read.specs.occ_lex.declared.token.TokenKind.{TokenKind}
use Rattle.occ_nform_read.specs.occ_lex.declared.token.TokenKind.TheVariants as token
use Rattle.occ_syntax.specs.Counts.{bits_of_kind, bits_of_scope}
use Rattle.occ_syntax.specs.declared.scope.Kind.{Kind}
use Rattle.occ_syntax.specs.declared.scope.Kind.TheVariants.{Chan, Var}
use Rattle.occ_nform_read.specs.occ_nform_table.Lines.{AreNamed, HasWidth, HaveWidths, can_follow, closes, is_element, is_name_kind, is_param_name, is_place, is_plain, text_of}
use Rattle.occ_nform_read.specs.occ_nform_table.Tables.{IsInterface, are_params, is_marked}
use Rattle.occ_nform_read.specs.occ_nform_table.Words.{before, cut, small_number_of, then_read}
use Rattle.occ_nform_read.proofs.from_nform_table.TextNamed.{IsNamed, are_named}
use Rattle.occ_nform_read.proofs.from_nform_table.ReadNumerals.{small_inv}
use Rattle.occ_nform_read.proofs.from_nform_table.WrittenNumerals.{small_number_read}
use Rattle.occ_nform_read.proofs.from_nform_table.WrittenWords.{before_back, before_is, class_lacks, cut_at, cut_is, lacks}
use Rattle.occ_behaviour_read.proofs.BareTexts.{has_byte}
use Rattle.occ_behaviour_read.proofs.Headers.{get_middle, texts_of}
use Rattle.occ_behaviour_read.specs.Tables.{IsParam, IsParamKind, IsParamName, IsPlain, element, plain}

-- ---- names

name_kind : (k : Option TokenKind) → is_name_kind k ≡ true → k ≡ Some token.Name
name_kind (Some token.Name) h = refl
name_kind (Some token.Word) h = absurd (both_ways false refl h)
name_kind (Some token.Numeral) h = absurd (both_ways false refl h)
name_kind (Some token.Sign) h = absurd (both_ways false refl h)
name_kind None h = absurd (both_ways false refl h)

plain_from : (text : List ℕ) → is_plain text ≡ true → IsPlain text
unfolding is_plain
plain_from text h =
    let parts = and_parts (leb (length text) 32) (is_name_kind (kind_of text)) h in
    (leb-true (length text) 32 parts.0, name_kind (kind_of text) parts.1)

plain_to : (text : List ℕ) → IsPlain text → is_plain text ≡ true
unfolding is_plain
plain_to text h = and_from _ _ (le-leb (length text) 32 h.0) (ap is_name_kind h.1)

name_bytes : (text : List ℕ) → is_name text ≡ true → list_all is_name_byte text ≡ true
unfolding is_name
name_bytes [] h = refl
name_bytes (b ∷ text) h =
    let parts = and_parts (is_letter b) (list_all is_name_byte text) h in
    and_from (is_name_byte b) (list_all is_name_byte text) (letter_name_byte b parts.0) parts.1

no_bracket : (text : List ℕ) → IsPlain text → lacks 91 text ≡ true
no_bracket text h = class_lacks is_name_byte 91 refl text (name_bytes text (spelled text token.Name h.1))

element_is : (array numeral : List ℕ) → array ++ codes "[" ++ numeral ++ codes "]" ≡ array ++ 91 ∷ (numeral ++ 93 ∷ [])
element_is array numeral = append_assoc (array ++ codes "[") numeral (codes "]") ∙ append_assoc array (codes "[") (numeral ++ codes "]")

-- a name that is tested is one
pub name_from : (text : List ℕ) → is_param_name text ≡ true → IsParamName text
unfolding is_param_name closes
name_from text h = at (cut 91 text) refl h
  where
    by_number : (array front : List ℕ) → IsPlain array → text ≡ array ++ 91 ∷ (front ++ 93 ∷ []) → (o : Option ℕ) → small_number_of front ≡ o → is_place o ≡ true → IsParamName text
    by_number array front own e None f k = absurd (both_ways false refl k)
    by_number array front own e (Some n) f k =
        element array n own (leb-true n 255 k) (e ∙ ap (λ t. array ++ 91 ∷ (t ++ 93 ∷ [])) (small_inv front n f) ∙ sym (element_is array (decimal n)))

    by_end : (array rest : List ℕ) → IsPlain array → text ≡ array ++ 91 ∷ rest → (o : Option (List ℕ)) → before (93 ∷ []) rest ≡ o → is_place (then_read o small_number_of) ≡ true → IsParamName text
    by_end array rest own e None f k = absurd (both_ways false refl k)
    by_end array rest own e (Some front) f k =
        by_number array front own (e ∙ ap (λ t. array ++ 91 ∷ t) (before_is (93 ∷ []) rest front f)) (small_number_of front) refl k

    at : (o : Option (List ℕ × List ℕ)) → cut 91 text ≡ o → is_element o text ≡ true → IsParamName text
    at None e k = plain (plain_from text k)
    at (Some (array, rest)) e k =
        let parts = and_parts (is_plain array) (closes rest) k in
        by_end array rest (plain_from array parts.0) (cut_is 91 text array rest e) (before (93 ∷ []) rest) refl parts.1

-- a name is tested as one
pub name_to : (text : List ℕ) → IsParamName text → is_param_name text ≡ true
unfolding is_param_name closes
name_to text (plain own) = at (cut 91 text) refl
  where
    at : (o : Option (List ℕ × List ℕ)) → cut 91 text ≡ o → is_element o text ≡ true
    at None e = plain_to text own
    at (Some (front, rest)) e = absurd (both_ways (lacks 91 text) (ap (lacks 91) (cut_is 91 text front rest e) ∙ has_byte 91 front rest) (no_bracket text own))
name_to text (element array n own small e) =
    let rest : List ℕ = decimal n ++ 93 ∷ [] in
    let there : cut 91 text ≡ Some (array, rest) = ap (cut 91) (e ∙ element_is array (decimal n)) ∙ cut_at 91 array rest (no_bracket array own) in
    let closed : closes rest ≡ true =
    ap (λ o. is_place (then_read o small_number_of)) (before_back (decimal n) (93 ∷ [])) ∙ ap is_place (small_number_read n (omega (arith, small))) ∙ le-leb n 255 small in
    ap (λ o. is_element o text) there ∙ and_from (is_plain array) (closes rest) (plain_to array own) closed

-- ---- kinds

kind_from : (kind : Kind) → is_marked kind ≡ true → HasWidth kind → IsParamKind kind
kind_from (Var width) h w = w
kind_from (Chan width None) h w = absurd (both_ways false refl h)
kind_from (Chan width (Some dir)) h w = w

kind_marked : (kind : Kind) → IsParamKind kind → is_marked kind ≡ true
kind_marked (Var width) h = refl
kind_marked (Chan width None) h = absurd h
kind_marked (Chan width (Some dir)) h = refl

kind_wide : (kind : Kind) → IsParamKind kind → HasWidth kind
kind_wide (Var width) h = h
kind_wide (Chan width None) h = absurd h
kind_wide (Chan width (Some dir)) h = h

-- ---- parameters

params_from : (names : List (List ℕ)) (params : List (Name × Kind)) → AreNamed names params → HaveWidths params → AllByRecursion (IsNamed names) params → AllByRecursion (IsParam names) params
params_from names [] there wide named = tt
params_from names (p ∷ params) there wide named =
    ((there.0, name_from (text_of names p.0) named.0.0, kind_from p.1 named.0.1 wide.0), params_from names params there.1 wide.1 named.1)

-- parameters that are tested are ones
pub are_from : (names : List (List ℕ)) (params : List (Name × Kind)) → IsInterface names params → are_params names [] params ≡ true → AllByRecursion (IsParam names) params
are_from names params interface are = params_from names params interface.named interface.wide (are_named names [] params are)

named_to : (names : List (List ℕ)) (params : List (Name × Kind)) → AllByRecursion (IsParam names) params → AreNamed names params
named_to names [] h = tt
named_to names (p ∷ params) h = (h.0.0, named_to names params h.1)

wide_to : (names : List (List ℕ)) (params : List (Name × Kind)) → AllByRecursion (IsParam names) params → HaveWidths params
wide_to names [] h = tt
wide_to names (p ∷ params) h = (kind_wide p.1 h.0.2, wide_to names params h.1)

-- what reading needs of parameters
pub interface_to : (names : List (List ℕ)) (params : List (Name × Kind)) → AllByRecursion (IsParam names) params → length params ≤ 16 → bits_of_scope params ≤ 16 → IsInterface names params
interface_to names params h few bits = record { named = named_to names params h; wide = wide_to names params h; few = few; bits = bits }

-- the place of a text that is among others
record IsAt (texts : List (List ℕ)) (text : List ℕ) : Type 0 where
  place : ℕ
  low : place < length texts
  there : (later : List (List ℕ)) → slice_get (texts ++ later) place ≡ Some text

any_at : (f : Name × Kind → List ℕ) (front : List (Name × Kind)) (text : List ℕ) → list_any (λ q. bytes_eq text (f q)) front ≡ true → IsAt (map f front) text
any_at f [] text h = absurd (both_ways false refl h)
any_at f (q ∷ front) text h = ⊎_elim
    (λ (here : bytes_eq text (f q) ≡ true). record { place = 0; low = omega arith; there = λ later. ap Some (sym ((bytes_eq-Decides text (f q)).0 here)) })
    (λ (past : list_any (λ p. bytes_eq text (f p)) front ≡ true). let rest = any_at f front text past in record { place = suc rest.place; low = omega (arith, rest.low); there = λ later. rest.there later })
    (or_cases (bytes_eq text (f q)) (list_any (λ p. bytes_eq text (f p)) front) h)

bits-append : (front params : List (Name × Kind)) → bits_of_scope (front ++ params) ≡ bits_of_scope front + bits_of_scope params
bits-append [] params = omega arith
bits-append (p ∷ front) params = omega (arith, bits-append front params)

module _ (names : List (List ℕ)) (distinct : IsDistinct names) where
  can_so : (front : List (Name × Kind)) (p : Name × Kind) (params : List (Name × Kind)) → names ≡ texts_of names (front ++ p ∷ params) → length (front ++ p ∷ params) ≤ 16
      → bits_of_scope (front ++ p ∷ params) ≤ 16 → can_follow names front (text_of names p.0, p.1) ≡ true
  unfolding can_follow
  can_so front p params whole few bits =
      let f : Name × Kind → List ℕ = λ q. text_of names q.0 in
      let text : List ℕ = f p in
      let any : Bool = list_any (λ (q : Name × Kind). bytes_eq text (f q)) front in
      let parted : names ≡ map f front ++ text ∷ map f params = whole ∙ map-append f front (p ∷ params) in
      let size : length (map f front) ≡ length front = length_map f front in
      let own : slice_get names (length (map f front)) ≡ Some text = ap (λ (ns : List (List ℕ)). slice_get ns (length (map f front))) parted ∙ get_middle (map f front) text (map f params) in
      let free : not any ≡ true = ⊎_elim
      (λ (t : any ≡ true).
      let at = any_at f front text t in
      let same : at.place ≡ length (map f front) = distinct at.place (length (map f front)) text (ap (λ (ns : List (List ℕ)). slice_get ns at.place) parted ∙ at.there (text ∷ map f params)) own in
      absurd (omega (arith, same, at.low)))
      (λ o. not_from_false any o)
      (cases_Bool any) in
      and_from _ _ (and_from _ _ (lt-ltb (length front) 16 (omega (arith, few, length-append front (p ∷ params)))) free)
      (le-leb (bits_of_scope front + bits_of_kind p.1) 16 (omega (arith, bits, bits-append front (p ∷ params))))
    where
      length_map : (g : Name × Kind → List ℕ) (qs : List (Name × Kind)) → length (map g qs) ≡ length qs
      length_map g [] = refl
      length_map g (q ∷ qs) = ap suc (length_map g qs)

  are_behind : (front params : List (Name × Kind)) → names ≡ texts_of names (front ++ params) → length (front ++ params) ≤ 16 → bits_of_scope (front ++ params) ≤ 16 → AllByRecursion (IsParam names) params
      → are_params names front params ≡ true
  unfolding are_params
  are_behind front [] whole few bits h = refl
  are_behind front (p ∷ params) whole few bits h =
      let e : (front ++ p ∷ []) ++ params ≡ front ++ p ∷ params = append_assoc front (p ∷ []) params in
      and_from _ _ (and_from _ _ (and_from _ _ (name_to (text_of names p.0) h.0.1) (kind_marked p.1 h.0.2)) (can_so front p params whole few bits))
      (are_behind (front ++ p ∷ []) params (whole ∙ ap (texts_of names) (sym e)) (subst (λ (ps : List (Name × Kind)). length ps ≤ 16) (sym e) few)
      (subst (λ (ps : List (Name × Kind)). bits_of_scope ps ≤ 16) (sym e) bits) h.1)

  -- parameters are tested as ones
  pub are_to : (params : List (Name × Kind)) → names ≡ texts_of names params → length params ≤ 16 → bits_of_scope params ≤ 16 → AllByRecursion (IsParam names) params → are_params names [] params ≡ true
  are_to params whole few bits h = are_behind [] params whole few bits h
