-- Numbers of names in tables that grow.
use Rattle.std.proofs.Common.{◌≡◌, ℕ, ◌+◌, ◌<◌, ◌≤◌, Bool, true, false, cond, not, List, [], ◌∷◌, ◌++◌, length, get_or, refl, sym, ap, subst, ◌∙◌, arith, ⊎_elim, slice_get, Some, Result, Ok, Err, IfOk, OnOk, length-append}
use Rattle.std.proofs.lemmas.Slice.Eq.{bytes_eq-Decides}
use Rattle.occ_syntax.specs.occ_base.declared.memory.Memory.{Memory}
use Rattle.occ_syntax.specs.occ_base.declared.names.Name.{Name}
use Rattle.std.specs.List.{position_or_len}
use Rattle.std.specs.Str.{bytes_eq}
use Rattle.std.proofs.lemmas.Bool.{cases_Bool, cases_lt}
use Rattle.std.proofs.Math.ListN.{get_or-append}
use Rattle.std.proofs.lemmas.Option.{get_or_from_slice_get}
use Rattle.occ_syntax.specs.occ_base.Names.{place_of, with_text}
use Rattle.occ_syntax.proofs.from_base.Naming.{with_there, with_new, place-le}
use Rattle.occ_parse_forms.specs.occ_lex.Symbols.{Extends}
use Rattle.occ_parse_forms.proofs.from_lex.Interned.{extends_trans, extends_text}
use Rattle.occ_parse_forms.specs.declared.form.Item.{Item}
use Rattle.occ_parse_forms.specs.declared.phrase.Index.{Index}
use Rattle.occ_parse_rules.specs.Places.{Indices, index_at, place_with, element_at}
use Rattle.occ_parse_rules.specs.Unrolled.{Numbers, number_of, item_number}
use Rattle.occ_parse_unroll.specs.Numbers.{element_text, number_in}

position_stays : {X : Type 0} (p : X → Bool) (xs more : List X) → position_or_len p xs < length xs → position_or_len p (xs ++ more) ≡ position_or_len p xs
position_stays p [] more h = absurd (omega arith)
position_stays p (x ∷ xs) more h = ⊎_elim
    (λ (t : p x ≡ true). ap (λ b. cond (not b) (1 + position_or_len p (xs ++ more)) 0) t ∙ sym (ap (λ b. cond (not b) (1 + position_or_len p xs) 0) t))
    (λ (t : p x ≡ false).
    let later : position_or_len p (x ∷ xs) ≡ 1 + position_or_len p xs = ap (λ b. cond (not b) (1 + position_or_len p xs) 0) t in
    let within : position_or_len p xs < length xs = omega (arith, later, h) in
    ap (λ b. cond (not b) (1 + position_or_len p (xs ++ more)) 0) t ∙ ap (λ n. 1 + n) (position_stays p xs more within) ∙ sym later)
    (cases_Bool (p x))

position_new : {X : Type 0} (p : X → Bool) (xs : List X) (y : X) → length xs ≤ position_or_len p xs → p y ≡ true → position_or_len p (xs ++ y ∷ []) ≡ position_or_len p xs
position_new p [] y h t = ap (λ b. cond (not b) 1 0) t
position_new p (x ∷ xs) y h t = ⊎_elim
    (λ (u : p x ≡ true).
    let first : position_or_len p (x ∷ xs) ≡ 0 = ap (λ b. cond (not b) (1 + position_or_len p xs) 0) u in
    absurd (omega (arith, first, h)))
    (λ (u : p x ≡ false).
    let later : position_or_len p (x ∷ xs) ≡ 1 + position_or_len p xs = ap (λ b. cond (not b) (1 + position_or_len p xs) 0) u in
    let beyond : length xs ≤ position_or_len p xs = omega (arith, later, h) in
    ap (λ b. cond (not b) (1 + position_or_len p (xs ++ y ∷ [])) 0) u ∙ ap (λ n. 1 + n) (position_new p xs y beyond t) ∙ sym later)
    (cases_Bool (p x))

place_within : (names : List (List ℕ)) (text : List ℕ) → place_of names text < length (with_text names text)
place_within names text = ⊎_elim
    (λ (h : place_of names text < length names). omega (arith, h, ap length (with_there names text h)))
    (λ (h : length names ≤ place_of names text). omega (arith, place-le names text, ap length (with_new names text h), length-append names (text ∷ [])))
    (cases_lt (place_of names text) (length names))

-- a text that is interned keeps its place
place_later : (old t : List (List ℕ)) (text : List ℕ) → Extends (with_text old text) t → place_of old text ≡ place_of t text
place_later old t text e =
    let now : place_of (with_text old text) text ≡ place_of old text = ⊎_elim
    (λ (h : place_of old text < length old). ap (λ ts. place_of ts text) (with_there old text h))
    (λ (h : length old ≤ place_of old text). ap (λ ts. place_of ts text) (with_new old text h) ∙ position_new (bytes_eq text) old text h ((bytes_eq-Decides text text).1 refl))
    (cases_lt (place_of old text) (length old)) in
    sym now ∙ sym (ap (λ ts. place_of ts text) e.1 ∙ position_stays (bytes_eq text) (with_text old text) e.0 (omega (arith, now, place_within old text)))

text_later : (old t : List (List ℕ)) (x : ℕ) (text : List ℕ) → Extends old t → x < length old → slice_get old x ≡ Some text → get_or t x [] ≡ text
text_later old t x text e h s = ap (λ ts. get_or ts x []) e.1 ∙ get_or-append old e.0 [] x h ∙ get_or_from_slice_get old x text [] s

-- an element that is interned has that number in every table that goes on from there
pub element_number : (old new : List (List ℕ)) (x k name : ℕ) (array text : List ℕ) → x < length old → slice_get old x ≡ Some array
    → text ≡ element_text array k → name ≡ place_of old text → new ≡ with_text old text
    → (t : List (List ℕ)) → Extends new t → name ≡ number_in t x (Some k)
element_number old new x k name array text h s e n w t f =
    let grows : Extends (with_text old text) t = subst (λ table. Extends table t) w f in
    let kept : get_or t x [] ≡ array = text_later old t x array (extends_trans old (with_text old text) t (extends_text old text) grows) h s in
    n ∙ place_later old t text grows ∙ ap (place_of t) (e ∙ ap (λ a. element_text a k) (sym kept))

pub element_ok : (old new : List (List ℕ)) (x k : ℕ) (array text : List ℕ) (r : Result Name Memory) → x < length old → slice_get old x ≡ Some array
    → text ≡ element_text array k → IfOk r (λ name. name.0 ≡ place_of old text) → OnOk r (new ≡ with_text old text)
    → IfOk r (λ name. (t : List (List ℕ)) → Extends new t → name.0 ≡ number_in t x (Some k))
element_ok old new x k array text (Ok name) h s e n w = element_number old new x k name.0 array text h s e n w
element_ok old new x k array text (Err memory) h s e n w = tt

item_at : (N : Numbers) (ρ : Indices) (item : Item) (index : Index) (k : ℕ) → item.index ≡ Some index → Some k ≡ index_at ρ index
    → N item.name.0 (Some k) ≡ item_number N ρ item
item_at N ρ item index k e d =
    sym (ap (λ o. number_of N (place_with ρ item.name.0 o)) e ∙ ap (λ p. number_of N (element_at item.name.0 p)) (sym d))

-- an element at the place that its index gives
pub item_ok : (N : List (List ℕ) → Numbers) (new : List (List ℕ)) (ρ : Indices) (item : Item) (index : Index) (k : ℕ) (r : Result Name Memory) → item.index ≡ Some index → Some k ≡ index_at ρ index
    → IfOk r (λ name. (t : List (List ℕ)) → Extends new t → name.0 ≡ N t item.name.0 (Some k))
    → IfOk r (λ name. (t : List (List ℕ)) → Extends new t → name.0 ≡ item_number (N t) ρ item)
item_ok N new ρ item index k (Ok name) e d h = λ t f. h t f ∙ item_at (N t) ρ item index k e d
item_ok N new ρ item index k (Err memory) e d h = tt
