-- A table of places grows by names of lines, and by elements of arrays.
use Rattle.std.proofs.Common.{◌≡◌, ℕ, ◌+◌, ◌<◌, ◌≤◌, Bool, true, false, cond, nat_lt, nat_le, List, [], ◌∷◌, length, length-append, slice_get, Option, Some, None, Ok, Err, refl, ap, sym, ◌∙◌, subst, arith, ⊎_elim}
use Rattle.std.specs.Prelude.{IfSome, IsTrue, if◌then◌else◌, is_ok, slice_index_or, unwrap_or}
use Rattle.std.specs.List.{AllByRecursion}
use Rattle.std.proofs.lemmas.Bool.{cases_lt, lt-ltb, ltb-false, ltb-true}
use Rattle.std.proofs.lemmas.Option.{slice_get_within}
use Rattle.occ_script_back.specs.occ_base.Names.{place_of, with_text}
use Rattle.occ_script_back.proofs.from_base.Naming.{naming, place-le, with_new, with_there}
use Rattle.occ_script_back.specs.occ_lex.declared.fault.LineFault.TheVariants as fault
use Rattle.occ_script_back.specs.occ_lex.declared.token.Line.{Line}
use Rattle.occ_script_back.specs.occ_lex.declared.token.Token.{Token}
use Rattle.occ_script_back.specs.occ_lex.declared.token.TokenKind.{TokenKind}
use Rattle.occ_script_back.specs.occ_lex.declared.token.TokenKind.TheVariants as token
use Rattle.occ_script_back.specs.occ_lex.Placed.{IsLineOf, IsTokenOf}
use Rattle.occ_script_back.specs.occ_lex.Spelling.{kind_of}
use Rattle.occ_script_back.specs.occ_lex.Token.{text_of}
use Rattle.occ_script_back.specs.occ_lex.Tokens.{judged}
use Rattle.occ_script_back.specs.occ_lex.Symbols.{Extends, names_with, with_names, with_names_of_all}
use Rattle.occ_script_back.proofs.from_lex.Interned.{extends_same, extends_text, longer}
use Rattle.occ_script_back.specs.occ_parse_rules.Places.{Place}
use Rattle.occ_script_back.specs.occ_parse_unroll.Elements.{with_place, with_places}
use Rattle.occ_script_back.specs.occ_parse_unroll.Numbers.{element_text}
use Rattle.occ_script_back.specs.occ_print.Spelled.{name_text}
use Rattle.occ_script_back.specs.occ_print_back.Placed.{IsPlace, IsTable, place_text}
use Rattle.occ_script_back.proofs.from_print_back.Stable.{element_is, index_is}
use Rattle.occ_script_back.specs.Tables.{Grows, IsBase}
use Rattle.occ_script_back.proofs.Growing.{base_stays, grown_both, text_stays}

-- ---- tables that grow

-- the table as it is
pub as_it_is : (names : List (List ℕ)) (P : ℕ → Place) → IsTable names P → Grows names P names
as_it_is names P table = (P, record { table = table; extends = extends_same names; same = λ x l. refl })

-- one growth behind another
pub one_behind : (names t u : List (List ℕ)) (P : ℕ → Place) → IsTable names P → Grows names P t
    → ((Q : ℕ → Place) → IsTable t Q → Extends names t → Grows t Q u) → Grows names P u
one_behind names t u P table first further =
    let rest = further first.0 first.1.table first.1.extends in
    (rest.0, grown_both names t u P first.0 rest.0 first.1 rest.1)

nothing_there : (i : ℕ) (text : List ℕ) → slice_get [] i ≡ Some text → ⊥
nothing_there i text e = let l : i < 0 = slice_get_within [] i text e in absurd (omega (arith, l))

-- the empty table
pub no_names : (P : ℕ → Place) → IsTable [] P
no_names P = record {
  distinct = λ i j text e f. absurd (nothing_there i text e);
  places = λ x l. absurd (omega (arith, l));
}

-- ---- one text more

-- what stands behind the names that were there
behind : (names : List (List ℕ)) (text : List ℕ) (x : ℕ) → x < length (with_text names text) → length names ≤ x → name_text (with_text names text) x ≡ text
behind names text x h g =
    let next = with_text names text in
    ⊎_elim
    (λ (l : place_of names text < length names). absurd (omega (arith, h, g, ap (λ (t : List (List ℕ)). length t) (with_there names text l))))
    (λ (r : length names ≤ place_of names text).
    let more : length next ≡ length names + 1 = ap (λ (t : List (List ℕ)). length t) (with_new names text r) ∙ length-append names (text ∷ []) in
    let here : x ≡ place_of names text = omega (arith, h, g, r, more, place-le names text) in
    ap (λ o. unwrap_or o []) (ap (slice_get next) here ∙ (naming names text).there))
    (cases_lt (place_of names text) (length names))

module _ (names : List (List ℕ)) (P : ℕ → Place) (table : IsTable names P) (text : List ℕ) (new : ℕ → Place)
    (fits : (x : ℕ) → x < length (with_text names text) → length names ≤ x → IsPlace (with_text names text) (new x) (name_text (with_text names text) x)) where
  abbrev next : List (List ℕ)
  next = with_text names text

  abbrev next_place : ℕ → Place
  next_place x = if nat_lt x (length names) then P x else new x

  extends : Extends names next
  extends = extends_text names text

  is_place : (x : ℕ) → x < length next → (b : Bool) → nat_lt x (length names) ≡ b → IsPlace next (if b then P x else new x) (name_text next x)
  is_place x h true e =
      let there : x < length names = ltb-true _ _ e in
      let p = table.places x there in
      let same = text_stays names next extends (P x).name p.there in record {
        there = omega (arith, p.there, longer names next extends);
        kind = ap kind_of same ∙ p.kind;
        short = ap (λ s. nat_le (length s) 32) same ∙ p.short;
        index = p.index;
        text_is = text_stays names next extends x there ∙ p.text_is ∙ ap (λ s. place_text s (P x).element) (sym same);
      }
  is_place x h false e = fits x h (ltb-false _ _ e)

  -- a table of places with a text that is a place in the longer table
  text_grown : Grows names P next
  text_grown = (
    next_place,
    record {
      table = record { distinct = (naming names text).distinct table.distinct; places = λ x h. is_place x h (nat_lt x (length names)) refl };
      extends = extends;
      same = λ x h. ap (λ b. if b then P x else new x) (lt-ltb _ _ h);
    },
  )

-- ---- the names of tokens and of lines

pub name_grown : (names : List (List ℕ)) (P : ℕ → Place) → IsTable names P → (text : List ℕ) → kind_of text ≡ Some token.Name → nat_le (length text) 32 ≡ true
    → Grows names P (with_text names text)
name_grown names P table text kind short =
    text_grown names P table text (λ x. record { name = x; element = None })
    (λ x h g. let same = behind names text x h g in record {
      there = h;
      kind = ap kind_of same ∙ kind;
      short = ap (λ s. nat_le (length s) 32) same ∙ short;
      index = tt;
      text_is = refl;
    })

if_ok : {A E : Type 0} (b : Bool) (x : A) (e : E) → is_ok (cond b (Ok x) (Err e)) ≡ true → b ≡ true
if_ok true x e h = refl
if_ok false x e h = absurd cc

text_grows : (names : List (List ℕ)) (P : ℕ → Place) → IsTable names P → (k : TokenKind) (s : List ℕ) → kind_of s ≡ Some k
    → IsTrue (is_ok (judged (Some k) s))
    → Grows names P (names_with names k s)
text_grows names P table token.Name s h good =
    name_grown names P table s h (if_ok (nat_le (length s) 32) (token.Name, length s) fault.Name good)
text_grows names P table token.Numeral s h good = as_it_is names P table
text_grows names P table token.Word s h good = as_it_is names P table
text_grows names P table token.Sign s h good = as_it_is names P table

tokens_grow : (names : List (List ℕ)) (P : ℕ → Place) → IsTable names P → (text : List ℕ) (tokens : List Token)
    → AllByRecursion (IsTokenOf text) tokens
    → Grows names P (with_names text names tokens)
tokens_grow names P table text [] h = as_it_is names P table
tokens_grow names P table text (t ∷ tokens) h =
    let next = names_with names t.kind (text_of t text) in
    one_behind names next (with_names text next tokens) P table (text_grows names P table t.kind (text_of t text) h.0.spelled h.0.good)
    (λ Q one e. tokens_grow next Q one text tokens h.1)

-- the names of lines of a text
pub lines_grow : (names : List (List ℕ)) (P : ℕ → Place) → IsTable names P → (text : List ℕ) (lines : List Line)
    → AllByRecursion (IsLineOf text) lines
    → Grows names P (with_names_of_all text names lines)
lines_grow names P table text [] h = as_it_is names P table
lines_grow names P table text (line ∷ lines) h =
    let next = with_names text names line.tokens in
    one_behind names next (with_names_of_all text next lines) P table (tokens_grow names P table text line.tokens h.0.tokens)
    (λ Q one e. lines_grow next Q one text lines h.1)

-- ---- elements of arrays

element_grown : (names : List (List ℕ)) (P : ℕ → Place) → IsTable names P → (y k : ℕ) → IsBase names y → k < 256
    → Grows names P (with_text names (element_text (slice_index_or names y []) k))
element_grown names P table y k base small =
    let text = element_text (slice_index_or names y []) k in
    let next = with_text names text in
    let element : Place = record { name = y; element = Some k } in
    let extends = extends_text names text in
    let same = text_stays names next extends y base.there in
    text_grown names P table text (λ x. element)
    (λ x h g. subst (IsPlace next element) (sym (behind names text x h g)) (record {
      there = omega (arith, base.there, longer names next extends);
      kind = ap kind_of same ∙ base.kind;
      short = ap (λ s. nat_le (length s) 32) same ∙ base.short;
      index = small;
      text_is = ap (λ s. element_text s k) (index_is names y base.there) ∙ element_is (name_text names y) k ∙ ap (λ s. place_text s (Some k)) (sym same);
    }))

-- an element of the first 256 of an array whose name is in the table
abbrev pub IsElementIn : List (List ℕ) → Place → Type 0
IsElementIn names p = IsBase names p.name × IfSome p.element (λ k. k < 256)

place_grows : (names : List (List ℕ)) (P : ℕ → Place) → IsTable names P → (y : ℕ) (k : Option ℕ) → IsBase names y → IfSome k (λ j. j < 256)
    → Grows names P (with_place names y k)
place_grows names P table y None base small = as_it_is names P table
place_grows names P table y (Some k) base small = element_grown names P table y k base small

elements_stay : (names t : List (List ℕ)) → Extends names t → (ps : List Place) → AllByRecursion (IsElementIn names) ps → AllByRecursion (IsElementIn t) ps
elements_stay names t e [] h = tt
elements_stay names t e (p ∷ ps) h = ((base_stays names t e p.name h.0.0, h.0.1), elements_stay names t e ps h.1)

-- the elements among places
pub places_grow : (names : List (List ℕ)) (P : ℕ → Place) → IsTable names P → (ps : List Place) → AllByRecursion (IsElementIn names) ps → Grows names P (with_places names ps)
places_grow names P table [] h = as_it_is names P table
places_grow names P table (p ∷ ps) h =
    let next = with_place names p.name p.element in
    one_behind names next (with_places next ps) P table (place_grows names P table p.name p.element h.0.0 h.0.1)
    (λ Q one e. places_grow next Q one ps (elements_stay names next e ps h.1))
