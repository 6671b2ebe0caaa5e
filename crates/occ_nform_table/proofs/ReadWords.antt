-- What was read determines the bytes: fronts and backs, the first of a byte, and words between single spaces.
use Rattle.std.proofs.Common.{◌≡◌, ℕ, ◌+◌, ◌-◌, ◌⊎◌, inl, inr, true, false, eqb, List, [], ◌∷◌, ◌++◌, length, get_or, take, drop, map, Option, Some, None, refl, sym, ap, subst, ◌∙◌, ⊎_elim}
use Rattle.std.specs.List.{position, flat_map, AllByRecursion}
use Rattle.std.specs.Str.{bytes_eq}
use Rattle.std.proofs.lemmas.Bool.{cases_Bool, cond-true, cond-false, eqb-true}
use Rattle.std.proofs.lemmas.List.{take-append-drop, drop_more}
use Rattle.std.proofs.lemmas.List.Quantifiers.{position-Some}
use Rattle.std.proofs.lemmas.Option.{none-some, same_Some, cond_some}
use Rattle.std.proofs.lemmas.Slice.Eq.{bytes_eq-Decides}
use Rattle.occ_lex.specs.Rows.{in_front}
use Rattle.occ_behaviour.specs.Texts.{spaced}
use Rattle.occ_nform_table.specs.Words.{then_read, or_else, behind, before, between, cut, words, items_of, each}

-- ---- one reading after another

pub then_inv : {A B : Type 0} (o : Option A) (next : A → Option B) (y : B) → then_read o next ≡ Some y → (x : A) × (o ≡ Some x) × (next x ≡ Some y)
then_inv None next y e = absurd (none-some y e)
then_inv (Some x) next y e = (x, refl, e)

pub or_inv : {A : Type 0} (o other : Option A) (y : A) → or_else o other ≡ Some y → (o ≡ Some y) ⊎ (other ≡ Some y)
or_inv None other y e = inr e
or_inv (Some x) other y e = inl e

-- ---- fronts and backs

pub bytes_same : (xs ys : List ℕ) → bytes_eq xs ys ≡ true → xs ≡ ys
bytes_same xs ys h = (bytes_eq-Decides xs ys).0 h

pub behind_inv : (front text rest : List ℕ) → behind front text ≡ Some rest → text ≡ front ++ rest
unfolding behind
behind_inv front text rest e =
    let parts = cond_some (bytes_eq (take (length front) text) front) (drop (length front) text) rest e in
    let same : take (length front) text ≡ front = bytes_same (take (length front) text) front parts.0 in
    sym (take-append-drop (length front) text) ∙ (λ i. same i ++ parts.1 i)

pub before_inv : (back text rest : List ℕ) → before back text ≡ Some rest → text ≡ rest ++ back
unfolding before
before_inv back text rest e =
    let parts = cond_some (bytes_eq (drop (length text - length back) text) back) (take (length text - length back) text) rest e in
    let same : drop (length text - length back) text ≡ back = bytes_same (drop (length text - length back) text) back parts.0 in
    sym (take-append-drop (length text - length back) text) ∙ (λ i. parts.1 i ++ same i)

pub between_inv : (front back text rest : List ℕ) → between front back text ≡ Some rest → text ≡ front ++ (rest ++ back)
unfolding between
between_inv front back text rest e =
    let inner = then_inv (behind front text) (before back) rest e in
    behind_inv front text inner.0 inner.1 ∙ ap (λ t. front ++ t) (before_inv back inner.0 rest inner.2)

pub cut_inv : (byte : ℕ) (text : List ℕ) (parts : List ℕ × List ℕ) → cut byte text ≡ Some parts → text ≡ parts.0 ++ byte ∷ parts.1
unfolding cut
cut_inv byte text parts e =
    let found = then_inv (position (λ b. eqb b byte) text) (λ i. Some (take i text, drop (i + 1) text)) parts e in
    let i : ℕ = found.0 in
    let at = position-Some (λ b. eqb b byte) text i 0 found.1 in
    let same : get_or text i 0 ≡ byte = eqb-true (get_or text i 0) byte at.1 in
    let split : text ≡ take i text ++ byte ∷ drop (i + 1) text = sym (take-append-drop i text) ∙ ap (λ t. take i text ++ t) (drop_more text i 0 at.0 ∙ ap (λ b. b ∷ drop (i + 1) text) same) in
    let are : (take i text, drop (i + 1) text) ≡ parts = same_Some (take i text, drop (i + 1) text) parts found.2 in
    split ∙ ap (λ (p : List ℕ × List ℕ). p.0 ++ byte ∷ p.1) are

-- ---- words between single spaces

words_nil : words [] ≡ [] ∷ []
unfolding words
words_nil = refl

words_space : (byte : ℕ) (text : List ℕ) → eqb byte 32 ≡ true → words (byte ∷ text) ≡ [] ∷ words text
unfolding words
words_space byte text h = cond-true (eqb byte 32) ([] ∷ words text) (in_front byte (words text)) h

words_more : (byte : ℕ) (text : List ℕ) → eqb byte 32 ≡ false → words (byte ∷ text) ≡ in_front byte (words text)
unfolding words
words_more byte text h = cond-false (eqb byte 32) ([] ∷ words text) (in_front byte (words text)) h

-- a text is its words with spaces between
record AreWords (text : List ℕ) : Type 0 where
  first : List ℕ
  others : List (List ℕ)
  are : words text ≡ first ∷ others
  joined : spaced (λ w. w) (first ∷ others) ≡ text

are_words : (text : List ℕ) → AreWords text
are_words [] = record { first = []; others = []; are = words_nil; joined = refl }
are_words (b ∷ text) =
    let rest : AreWords text = are_words text in
    ⊎_elim
    (λ (t : eqb b 32 ≡ true). record {
      first = [];
      others = rest.first ∷ rest.others;
      are = words_space b text t ∙ ap (λ ws. [] ∷ ws) rest.are;
      joined = ap (λ t. 32 ∷ t) rest.joined ∙ ap (λ c. c ∷ text) (sym (eqb-true b 32 t));
    })
    (λ (f : eqb b 32 ≡ false). record {
      first = b ∷ rest.first;
      others = rest.others;
      are = words_more b text f ∙ ap (in_front b) rest.are;
      joined = ap (λ t. b ∷ t) rest.joined;
    })
    (cases_Bool (eqb b 32))

joined_words : (text : List ℕ) → spaced (λ w. w) (words text) ≡ text
joined_words text = let all : AreWords text = are_words text in ap (spaced (λ w. w)) all.are ∙ all.joined

joined_items : (text : List ℕ) → spaced (λ w. w) (items_of text) ≡ text
joined_items [] = refl
joined_items (b ∷ text) = joined_words (b ∷ text)

tail_map : {X Y : Type 0} (f : X → Y) (written : Y → List ℕ) (xs : List X) → flat_map (λ y. 32 ∷ written y) (map f xs) ≡ flat_map (λ x. 32 ∷ written (f x)) xs
tail_map f written [] = refl
tail_map f written (x ∷ xs) = ap (λ t. (32 ∷ written (f x)) ++ t) (tail_map f written xs)

pub spaced_map : {X Y : Type 0} (f : X → Y) (written : Y → List ℕ) (xs : List X) → spaced written (map f xs) ≡ spaced (λ x. written (f x)) xs
spaced_map f written [] = refl
spaced_map f written (x ∷ xs) = ap (λ t. written (f x) ++ t) (tail_map f written xs)

-- ---- readings of words

-- what each word is read as determines the words
record AreRead {A : Type 0} (written : A → List ℕ) (P : A → Type 0) (ws : List (List ℕ)) (xs : List A) : Type 0 where
  are : ws ≡ map written xs
  each_is : AllByRecursion P xs

each_inv : {A : Type 0} (read : List ℕ → Option A) (written : A → List ℕ) (P : A → Type 0) → ((w : List ℕ) (x : A) → read w ≡ Some x → (w ≡ written x) × P x)
    → (ws : List (List ℕ)) (xs : List A) → each read ws ≡ Some xs → AreRead written P ws xs
unfolding each
each_inv read written P inv [] xs e = subst (AreRead written P []) (same_Some [] xs e) (record { are = refl; each_is = tt })
each_inv {A = A} read written P inv (w ∷ ws) xs e =
    let one = then_inv (read w) (λ x. then_read (each read ws) (λ xs. Some (x ∷ xs))) xs e in
    let two = then_inv (each read ws) (λ xs. Some (one.0 ∷ xs)) xs one.2 in
    let is = inv w one.0 one.1 in
    let rest : AreRead written P ws two.0 = each_inv read written P inv ws two.0 two.1 in
    let all : AreRead written P (w ∷ ws) (one.0 ∷ two.0) = record { are = (λ i. is.0 i ∷ rest.are i); each_is = (is.1, rest.each_is) } in
    subst (AreRead written P (w ∷ ws)) (same_Some (one.0 ∷ two.0) xs two.2) all

-- a list that is read item by item is written with single spaces between its items
pub items_inv : {A : Type 0} (read : List ℕ → Option A) (written : A → List ℕ) (P : A → Type 0) → ((w : List ℕ) (x : A) → read w ≡ Some x → (w ≡ written x) × P x)
    → (text : List ℕ) (xs : List A) → each read (items_of text) ≡ Some xs → (text ≡ spaced written xs) × AllByRecursion P xs
items_inv read written P inv text xs e =
    let all : AreRead written P (items_of text) xs = each_inv read written P inv (items_of text) xs e in
    (sym (joined_items text) ∙ ap (spaced (λ w. w)) all.are ∙ spaced_map written (λ w. w) xs, all.each_is)
