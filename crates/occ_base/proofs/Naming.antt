use Rattle.std.proofs.Common.{◌≡◌, ℕ, ◌+◌, ◌<◌, ◌≤◌, Bool, true, false, cond, not, nat_lt, List, [], ◌∷◌, ◌++◌, length, map, get_or, refl, sym, ap, ◌∙◌, subst, arith, rules, slice_get, Some, None, length-append, inl, inr, ⊎_elim, ◌⊎◌, ◌||◌}
use Rattle.std.specs.List.{position_or_len, list_any}
use Rattle.std.specs.Str.{bytes_eq}
use Rattle.std.proofs.lemmas.List.Sums.{passes_at_first, fails_before_first, prefix_len-le-length}
use Rattle.std.proofs.lemmas.List.{get_or_push, length-map, map-append}
use Rattle.std.proofs.Math.ListN.{get_or-append}
use Rattle.std.proofs.lemmas.Option.{slice_get-get_or, slice_get_within, get_or_from_slice_get}
use Rattle.std.proofs.lemmas.Slice.Eq.{bytes_eq-Decides}
use Rattle.std.proofs.lemmas.Bool.{cases_Bool, cases_lt, le-ltb}
use Rattle.occ_base.specs.Names.{place_of, with_text, IsDistinct, IsNaming}

-- the first place in the texts is the first place among what has the texts
pub place-map : {X Y : Type 0} (p : Y → Bool) (f : X → Y) → (xs : List X) → position_or_len p (map f xs) ≡ position_or_len (λ x. p (f x)) xs
place-map p f [] = refl
place-map p f (x ∷ xs) = ap (λ n. cond (not (p (f x))) (1 + n) 0) (place-map p f xs)

pub place-le : (texts : List (List ℕ)) (text : List ℕ) → place_of texts text ≤ length texts
place-le texts text = prefix_len-le-length _ texts

-- what stands at the place of a text that is there
pub at_place : (texts : List (List ℕ)) (text : List ℕ) → place_of texts text < length texts → slice_get texts (place_of texts text) ≡ Some text
at_place texts text h =
    slice_get-get_or texts _ [] h ∙ ap Some (sym ((bytes_eq-Decides text _).0 (passes_at_first (bytes_eq text) texts [] h)))

-- what is nowhere has no place
pub nowhere : (texts : List (List ℕ)) (text : List ℕ) → length texts ≤ place_of texts text → (i : ℕ) → slice_get texts i ≡ Some text → ⊥
nowhere texts text h i e =
    let within : i < length texts = slice_get_within texts i text e in
    let below : i < place_of texts text = omega arith in
    let differs : bytes_eq text (get_or texts i []) ≡ false = fails_before_first (bytes_eq text) texts i [] below in
    let agrees : bytes_eq text (get_or texts i []) ≡ true = (bytes_eq-Decides text _).1 (sym (get_or_from_slice_get texts i text [] e)) in
    cc

pub with_there : (texts : List (List ℕ)) (text : List ℕ) → place_of texts text < length texts → with_text texts text ≡ texts
with_there texts text h =
    let t : nat_lt (place_of texts text) (length texts) ≡ true = search rules in
    ap (λ b. cond b texts (texts ++ text ∷ [])) t

pub with_new : (texts : List (List ℕ)) (text : List ℕ) → length texts ≤ place_of texts text → with_text texts text ≡ texts ++ text ∷ []
with_new texts text h = ap (λ b. cond b texts (texts ++ text ∷ [])) (le-ltb _ _ h)

get-front : (texts : List (List ℕ)) (text : List ℕ) (i : ℕ) → i < length texts → slice_get (texts ++ text ∷ []) i ≡ slice_get texts i
get-front texts text i h =
    let longer : i < length (texts ++ text ∷ []) = omega (arith, length-append texts (text ∷ [])) in
    slice_get-get_or _ i [] longer ∙ ap Some (get_or-append texts (text ∷ []) [] i h) ∙ sym (slice_get-get_or texts i [] h)

get-last : (texts : List (List ℕ)) (text : List ℕ) → slice_get (texts ++ text ∷ []) (length texts) ≡ Some text
get-last texts text =
    let longer : length texts < length (texts ++ text ∷ []) = omega (arith, length-append texts (text ∷ [])) in
    slice_get-get_or _ _ [] longer ∙ ap Some (get_or_push texts text [] (length texts) refl)

-- a place of the longer table is one of the old table, or the last
place_cases : (texts : List (List ℕ)) (text other : List ℕ) (i : ℕ) → slice_get (texts ++ text ∷ []) i ≡ Some other
    → (slice_get texts i ≡ Some other) ⊎ ((i ≡ length texts) × (other ≡ text))
place_cases texts text other i e =
    let within : i < length (texts ++ text ∷ []) = slice_get_within _ i other e in
    ⊎_elim (λ (h : i < length texts). inl (sym (get-front texts text i h) ∙ e))
    (λ (h : length texts ≤ i).
    let last : i ≡ length texts = omega (arith, length-append texts (text ∷ [])) in
    let named : Some other ≡ Some text = sym e ∙ ap (slice_get (texts ++ text ∷ [])) last ∙ get-last texts text in
    inr (last, cc))
    (cases_lt i (length texts))

-- a new text keeps each text single
pub distinct_push : (texts : List (List ℕ)) (text : List ℕ) → length texts ≤ place_of texts text → IsDistinct texts → IsDistinct (texts ++ text ∷ [])
distinct_push texts text new single i j other e f =
    ⊎_elim
    (λ (h : slice_get texts i ≡ Some other). ⊎_elim
    (λ (k : slice_get texts j ≡ Some other). single i j other h k)
    (λ (k : (j ≡ length texts) × (other ≡ text)). absurd (nowhere texts text new i (h ∙ ap Some k.1)))
    (place_cases texts text other j f))
    (λ (h : (i ≡ length texts) × (other ≡ text)). ⊎_elim
    (λ (k : slice_get texts j ≡ Some other). absurd (nowhere texts text new j (k ∙ ap Some h.1)))
    (λ (k : (j ≡ length texts) × (other ≡ text)). h.0 ∙ sym k.0)
    (place_cases texts text other j f))
    (place_cases texts text other i e)

is_there : (texts : List (List ℕ)) (text : List ℕ) (i : ℕ) → slice_get texts i ≡ Some text → place_of texts text < length texts
is_there texts text i e =
    ⊎_elim (λ (h : place_of texts text < length texts). h) (λ (h : length texts ≤ place_of texts text). absurd (nowhere texts text h i e)) (cases_lt (place_of texts text) (length texts))

pub naming : (texts : List (List ℕ)) (text : List ℕ) → IsNaming texts text
naming texts text =
    let last : length texts ≤ place_of texts text → place_of texts text ≡ length texts = λ h. omega (arith, place-le texts text) in
    record {
      there = ⊎_elim
          (λ (h : place_of texts text < length texts). ap (λ ts. slice_get ts (place_of texts text)) (with_there texts text h) ∙ at_place texts text h)
          (λ (h : length texts ≤ place_of texts text). ap (λ ts. slice_get ts (place_of texts text)) (with_new texts text h) ∙ ap (slice_get (texts ++ text ∷ [])) (last h) ∙ get-last texts text)
          (cases_lt (place_of texts text) (length texts));
      kept = λ i within. ⊎_elim
          (λ (h : place_of texts text < length texts). ap (λ ts. slice_get ts i) (with_there texts text h))
          (λ (h : length texts ≤ place_of texts text). ap (λ ts. slice_get ts i) (with_new texts text h) ∙ get-front texts text i within)
          (cases_lt (place_of texts text) (length texts));
      again = λ i single e. single _ i text (at_place texts text (is_there texts text i e)) e;
      same = λ i e. with_there texts text (is_there texts text i e);
      distinct = λ single. ⊎_elim
          (λ (h : place_of texts text < length texts). subst IsDistinct (sym (with_there texts text h)) single)
          (λ (h : length texts ≤ place_of texts text). subst IsDistinct (sym (with_new texts text h)) (distinct_push texts text h single))
          (cases_lt (place_of texts text) (length texts));
    }

-- what a search by a test of the texts behind the keys tells
module _ {X : Type 0} (f : X → List ℕ) (keys : List X) (text : List ℕ) where
  same_place : position_or_len (λ k. bytes_eq text (f k)) keys ≡ place_of (map f keys) text
  same_place = sym (place-map (bytes_eq text) f keys)

  same_length : length keys ≡ length (map f keys)
  same_length = sym (length-map keys f)

  pub key_found : (place : ℕ) → Some place ≡ cond (nat_lt (position_or_len (λ k. bytes_eq text (f k)) keys) (length keys)) (Some (position_or_len (λ k. bytes_eq text (f k)) keys)) None
      → (place ≡ place_of (map f keys) text) × (place_of (map f keys) text < length (map f keys))
  key_found place e = ⊎_elim
      (λ (h : position_or_len (λ k. bytes_eq text (f k)) keys < length keys).
      let t : nat_lt (position_or_len (λ k. bytes_eq text (f k)) keys) (length keys) ≡ true = search rules in
      let some : Some place ≡ Some (position_or_len (λ k. bytes_eq text (f k)) keys) = e ∙ ap (λ b. cond b (Some (position_or_len (λ k. bytes_eq text (f k)) keys)) None) t in
      let same : place ≡ position_or_len (λ k. bytes_eq text (f k)) keys = cc in
      (same ∙ same_place, omega (arith, h, same_place, same_length)))
      (λ (h : length keys ≤ position_or_len (λ k. bytes_eq text (f k)) keys).
      let none : Some place ≡ None = e ∙ ap (λ b. cond b (Some (position_or_len (λ k. bytes_eq text (f k)) keys)) None) (le-ltb _ _ h) in
      cc)
      (cases_lt (position_or_len (λ k. bytes_eq text (f k)) keys) (length keys))

  pub key_missing : None ≡ cond (nat_lt (position_or_len (λ k. bytes_eq text (f k)) keys) (length keys)) (Some (position_or_len (λ k. bytes_eq text (f k)) keys)) None
      → length (map f keys) ≤ place_of (map f keys) text
  key_missing e = ⊎_elim
      (λ (h : position_or_len (λ k. bytes_eq text (f k)) keys < length keys).
      let t : nat_lt (position_or_len (λ k. bytes_eq text (f k)) keys) (length keys) ≡ true = search rules in
      let some : None ≡ Some (position_or_len (λ k. bytes_eq text (f k)) keys) = e ∙ ap (λ b. cond b (Some (position_or_len (λ k. bytes_eq text (f k)) keys)) None) t in
      cc)
      (λ (h : length keys ≤ position_or_len (λ k. bytes_eq text (f k)) keys). omega (arith, h, same_place, same_length))
      (cases_lt (position_or_len (λ k. bytes_eq text (f k)) keys) (length keys))

  -- a search that passes by every key has found none
  any_none : (p : X → Bool) (xs : List X) → length xs ≤ position_or_len p xs → list_any p xs ≡ false
  any_none p [] h = refl
  any_none p (x ∷ xs) h = ⊎_elim
      (λ (t : p x ≡ true).
      let first : position_or_len p (x ∷ xs) ≡ 0 = ap (λ b. cond (not b) (1 + position_or_len p xs) 0) t in
      absurd (omega (arith, first, h)))
      (λ (t : p x ≡ false).
      let later : position_or_len p (x ∷ xs) ≡ 1 + position_or_len p xs = ap (λ b. cond (not b) (1 + position_or_len p xs) 0) t in
      let left : length xs ≤ position_or_len p xs = omega (arith, later, h) in
      ap (λ b. b || list_any p xs) t ∙ any_none p xs left)
      (cases_Bool (p x))

  -- a key that is put in, since the search found none
  pub key_pushed : (new : List X) (key : X) (place : ℕ) → f key ≡ text → length (map f keys) ≤ place_of (map f keys) text
      → new ≡ cond (list_any (λ k. bytes_eq (f key) (f k)) keys) keys (keys ++ key ∷ [])
      → place ≡ position_or_len (λ k. bytes_eq (f key) (f k)) keys
      → (map f new ≡ map f keys ++ text ∷ []) × (place ≡ place_of (map f keys) text)
  key_pushed new key place e missing put found =
      let far : length keys ≤ position_or_len (λ k. bytes_eq (f key) (f k)) keys = subst (λ t. length keys ≤ position_or_len (λ k. bytes_eq t (f k)) keys) (sym e) (omega (arith, missing, same_place, same_length)) in
      let none : list_any (λ k. bytes_eq (f key) (f k)) keys ≡ false = any_none _ keys far in (
        ap (map f) (put ∙ ap (λ b. cond b keys (keys ++ key ∷ [])) none) ∙ map-append f keys (key ∷ []) ∙ ap (λ t. map f keys ++ t ∷ []) e,
        found ∙ ap (λ t. position_or_len (λ k. bytes_eq t (f k)) keys) e ∙ same_place,
      )
