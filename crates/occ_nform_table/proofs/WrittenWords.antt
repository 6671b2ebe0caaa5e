-- Texts that are put together are taken apart again.
use Rattle.std.proofs.Common.{◌≡◌, ℕ, suc, ◌+◌, ◌-◌, ◌<◌, Bool, true, false, not, eqb, List, [], ◌∷◌, ◌++◌, length, get_or, take, drop, map, Option, None, Some, refl, sym, ap, ◌∙◌, arith, length-append, ⊎_elim}
use Rattle.std.specs.List.{list_all, flat_map, position, position_or_len, AllByRecursion}
use Rattle.std.specs.Str.{bytes_eq}
use Rattle.std.proofs.lemmas.Bool.{and_parts, and_from, cases_Bool, both_ways, cond-true, cond-false, eqb-true, ne_eqb, eq-eqb, lt-ltb, not-true, not_from_false, not_from_true}
use Rattle.std.proofs.lemmas.List.{append-nil, take-append-drop, drop_more}
use Rattle.std.proofs.lemmas.List.Quantifiers.{position-Some}
use Rattle.std.proofs.lemmas.List.Folds.{list_all-append}
use Rattle.std.proofs.lemmas.Slice.Eq.{bytes_eq-Decides}
use Rattle.std.proofs.Math.Seq.{take-append_seam, drop-append_seam}
use Rattle.occ_lex.specs.Rows.{in_front}
use Rattle.occ_behaviour.specs.Texts.{spaced}
use Rattle.occ_nform_table.specs.Words.{then_read, behind, before, between, cut, words, items_of, each}

-- ---- a byte that a text doesn't have

abbrev pub is_not : ℕ → ℕ → Bool
is_not byte b = not (eqb b byte)

abbrev pub lacks : ℕ → List ℕ → Bool
lacks byte text = list_all (is_not byte) text

pub lacks-append : (byte : ℕ) (front rest : List ℕ) → lacks byte front ≡ true → lacks byte rest ≡ true → lacks byte (front ++ rest) ≡ true
lacks-append byte front rest h k = list_all-append (is_not byte) front rest ∙ and_from (lacks byte front) (lacks byte rest) h k

pub all_weaker : (p q : ℕ → Bool) → ((b : ℕ) → p b ≡ true → q b ≡ true) → (text : List ℕ) → list_all p text ≡ true → list_all q text ≡ true
all_weaker p q weaker [] h = refl
all_weaker p q weaker (b ∷ text) h =
    let parts = and_parts (p b) (list_all p text) h in
    and_from (q b) (list_all q text) (weaker b parts.0) (all_weaker p q weaker text parts.1)

pub is_not_from : (byte b : ℕ) → (b ≡ byte → ⊥) → is_not byte b ≡ true
is_not_from byte b h = not_from_false (eqb b byte) (ne_eqb b byte h)

-- a text of a class has no byte outside it
pub class_lacks : (p : ℕ → Bool) (byte : ℕ) → p byte ≡ false → (text : List ℕ) → list_all p text ≡ true → lacks byte text ≡ true
class_lacks p byte out text h = all_weaker p (is_not byte) (λ b k. is_not_from byte b (λ e. both_ways (p byte) out (sym (ap p e) ∙ k))) text h

-- ---- fronts and backs

pub some_is : {A : Type 0} {x y : A} → Some x ≡ Some y → x ≡ y
some_is e = cc

pub none_is : {A : Type 0} {x : A} → None ≡ Some x → ⊥
none_is e = cc

pub behind_front : (front rest : List ℕ) → behind front (front ++ rest) ≡ Some rest
unfolding behind
behind_front front rest =
    cond-true _ (Some (drop (length front) (front ++ rest))) None ((bytes_eq-Decides _ front).1 (take-append_seam front rest)) ∙ ap Some (drop-append_seam front rest)

pub behind_is : (front text rest : List ℕ) → behind front text ≡ Some rest → text ≡ front ++ rest
unfolding behind
behind_is front text rest h = ⊎_elim
    (λ (t : bytes_eq (take (length front) text) front ≡ true).
    let same = (bytes_eq-Decides (take (length front) text) front).0 t in
    let rest_is : Some (drop (length front) text) ≡ Some rest = sym (cond-true _ (Some (drop (length front) text)) None t) ∙ h in
    sym (take-append-drop (length front) text) ∙ (λ i. same i ++ drop (length front) text) ∙ ap (λ r. front ++ r) (some_is rest_is))
    (λ (f : bytes_eq (take (length front) text) front ≡ false).
    let none : None ≡ Some rest = sym (cond-false _ (Some (drop (length front) text)) None f) ∙ h in
    absurd (none_is none))
    (cases_Bool (bytes_eq (take (length front) text) front))

pub before_is : (back text front : List ℕ) → before back text ≡ Some front → text ≡ front ++ back
unfolding before
before_is back text front h = ⊎_elim
    (λ (t : bytes_eq (drop (length text - length back) text) back ≡ true).
    let same = (bytes_eq-Decides (drop (length text - length back) text) back).0 t in
    let front_is : Some (take (length text - length back) text) ≡ Some front = sym (cond-true _ (Some (take (length text - length back) text)) None t) ∙ h in
    sym (take-append-drop (length text - length back) text) ∙ (λ i. take (length text - length back) text ++ same i) ∙ ap (λ f. f ++ back) (some_is front_is))
    (λ (f : bytes_eq (drop (length text - length back) text) back ≡ false).
    let none : None ≡ Some front = sym (cond-false _ (Some (take (length text - length back) text)) None f) ∙ h in
    absurd (none_is none))
    (cases_Bool (bytes_eq (drop (length text - length back) text) back))

pub before_back : (text back : List ℕ) → before back (text ++ back) ≡ Some text
unfolding before
before_back text back =
    let n : length (text ++ back) - length back ≡ length text = omega (arith, length-append text back) in
    let front : take (length (text ++ back) - length back) (text ++ back) ≡ text = ap (λ k. take k (text ++ back)) n ∙ take-append_seam text back in
    let rest : drop (length (text ++ back) - length back) (text ++ back) ≡ back = ap (λ k. drop k (text ++ back)) n ∙ drop-append_seam text back in
    cond-true _ (Some (take (length (text ++ back) - length back) (text ++ back))) None ((bytes_eq-Decides _ back).1 rest) ∙ ap Some front

pub between_parts : (front text back : List ℕ) → between front back (front ++ (text ++ back)) ≡ Some text
unfolding between
between_parts front text back = ap (λ o. then_read o (before back)) (behind_front front (text ++ back)) ∙ before_back text back

-- ---- cutting

position_lacks : (byte : ℕ) (front rest : List ℕ) → lacks byte front ≡ true → position_or_len (λ b. eqb b byte) (front ++ byte ∷ rest) ≡ length front
position_lacks byte [] rest h = cond-false _ (1 + position_or_len (λ b. eqb b byte) rest) 0 (not_from_true (eqb byte byte) (eq-eqb byte byte refl))
position_lacks byte (b ∷ front) rest h =
    let parts = and_parts (is_not byte b) (lacks byte front) h in
    cond-true _ (1 + position_or_len (λ b. eqb b byte) (front ++ byte ∷ rest)) 0 parts.0 ∙ ap (λ n. 1 + n) (position_lacks byte front rest parts.1) ∙ omega arith

pub position_at : (byte : ℕ) (front rest : List ℕ) → lacks byte front ≡ true → position (λ b. eqb b byte) (front ++ byte ∷ rest) ≡ Some (length front)
position_at byte front rest h =
    let n = position_lacks byte front rest h in
    cond-true _ (Some (position_or_len (λ b. eqb b byte) (front ++ byte ∷ rest))) None (lt-ltb _ _ (omega (arith, n, length-append front (byte ∷ rest)))) ∙ ap Some n

drop_past : (byte : ℕ) (front rest : List ℕ) → drop (length front + 1) (front ++ byte ∷ rest) ≡ rest
drop_past byte [] rest = refl
drop_past byte (b ∷ front) rest = let e : suc (length front) + 1 ≡ suc (length front + 1) = omega arith in ap (λ n. drop n (b ∷ (front ++ byte ∷ rest))) e ∙ drop_past byte front rest

pub cut_at : (byte : ℕ) (front rest : List ℕ) → lacks byte front ≡ true → cut byte (front ++ byte ∷ rest) ≡ Some (front, rest)
unfolding cut
cut_at byte front rest h =
    let text = front ++ byte ∷ rest in
    ap (λ o. then_read {B = List ℕ × List ℕ} o (λ i. Some (take i text, drop (i + 1) text))) (position_at byte front rest h)
    ∙ (λ i. Some (take-append_seam front (byte ∷ rest) i, drop_past byte front rest i))

pub cut_is : (byte : ℕ) (text front rest : List ℕ) → cut byte text ≡ Some (front, rest) → text ≡ front ++ byte ∷ rest
unfolding cut
cut_is byte text front rest h = at (position (λ b. eqb b byte) text) refl h
  where
    at : (o : Option ℕ) → position (λ b. eqb b byte) text ≡ o → then_read {B = List ℕ × List ℕ} o (λ i. Some (take i text, drop (i + 1) text)) ≡ Some (front, rest) → text ≡ front ++ byte ∷ rest
    at None e k = absurd (none_is k)
    at (Some i) e k =
        let found = position-Some (λ b. eqb b byte) text i 0 e in
        let front_is = ap (λ (p : List ℕ × List ℕ). p.0) (some_is k) in
        let rest_is = ap (λ (p : List ℕ × List ℕ). p.1) (some_is k) in
        sym (take-append-drop i text) ∙ ap (λ t. take i text ++ t) (drop_more text i 0 found.0)
        ∙ (λ j. front_is j ++ eqb-true (get_or text i 0) byte found.1 j ∷ rest_is j)

-- ---- words with single spaces between them

word_alone : (word : List ℕ) → lacks 32 word ≡ true → words word ≡ word ∷ []
unfolding words
word_alone [] h = refl
word_alone (b ∷ word) h =
    let parts = and_parts (is_not 32 b) (lacks 32 word) h in
    cond-false (eqb b 32) ([] ∷ words word) (in_front b (words word)) (not-true (eqb b 32) parts.0) ∙ ap (in_front b) (word_alone word parts.1)

word_then : (word rest : List ℕ) → lacks 32 word ≡ true → words (word ++ 32 ∷ rest) ≡ word ∷ words rest
unfolding words
word_then [] rest h = refl
word_then (b ∷ word) rest h =
    let parts = and_parts (is_not 32 b) (lacks 32 word) h in
    cond-false (eqb b 32) ([] ∷ words (word ++ 32 ∷ rest)) (in_front b (words (word ++ 32 ∷ rest))) (not-true (eqb b 32) parts.0) ∙ ap (in_front b) (word_then word rest parts.1)

module _ {X : Type 0} (written : X → List ℕ) where
  -- what is written has bytes, and no space
  abbrev pub IsWord : X → Type 0
  IsWord x = (0 < length (written x)) × (lacks 32 (written x) ≡ true)

  words_spaced : (word : List ℕ) (xs : List X) → lacks 32 word ≡ true → AllByRecursion IsWord xs → words (word ++ flat_map (λ y. 32 ∷ written y) xs) ≡ word ∷ map written xs
  words_spaced word [] h k = ap words (append-nil word) ∙ word_alone word h
  words_spaced word (x ∷ xs) h k = word_then word (written x ++ flat_map (λ y. 32 ∷ written y) xs) h ∙ ap (λ ws. word ∷ ws) (words_spaced (written x) xs k.0.1 k.1)

  items_some : (text : List ℕ) → 0 < length text → items_of text ≡ words text
  items_some [] h = absurd (omega (arith, h))
  items_some (b ∷ text) h = refl

  pub items_spaced : (xs : List X) → AllByRecursion IsWord xs → items_of (spaced written xs) ≡ map written xs
  items_spaced [] h = refl
  items_spaced (x ∷ xs) h =
      items_some (spaced written (x ∷ xs)) (omega (arith, length-append (written x) (flat_map (λ y. 32 ∷ written y) xs), h.0.0)) ∙ words_spaced (written x) xs h.0.1 h.1

  -- what is written reads back
  abbrev pub ReadsAs : {A : Type 0} → (List ℕ → Option A) → (X → A) → X → Type 0
  ReadsAs read view x = read (written x) ≡ Some (view x)

  each_written : {A : Type 0} (read : List ℕ → Option A) (view : X → A) (xs : List X) → AllByRecursion (ReadsAs read view) xs → each read (map written xs) ≡ Some (map view xs)
  unfolding each
  each_written read view [] h = refl
  each_written read view (x ∷ xs) h =
      ap (λ o. then_read o (λ y. then_read (each read (map written xs)) (λ ys. Some (y ∷ ys)))) h.0 ∙ ap (λ o. then_read o (λ ys. Some (view x ∷ ys))) (each_written read view xs h.1)

  pub each_spaced : {A : Type 0} (read : List ℕ → Option A) (view : X → A) (xs : List X) → AllByRecursion IsWord xs → AllByRecursion (ReadsAs read view) xs
      → each read (items_of (spaced written xs)) ≡ Some (map view xs)
  each_spaced read view xs h k = ap (each read) (items_spaced xs h) ∙ each_written read view xs k

  behind_lacks : (byte : ℕ) → is_not byte 32 ≡ true → (xs : List X) → AllByRecursion (λ x. lacks byte (written x) ≡ true) xs → lacks byte (flat_map (λ y. 32 ∷ written y) xs) ≡ true
  behind_lacks byte space [] h = refl
  behind_lacks byte space (x ∷ xs) h = and_from _ _ space (lacks-append byte (written x) _ h.0 (behind_lacks byte space xs h.1))

  pub spaced_lacks : (byte : ℕ) → is_not byte 32 ≡ true → (xs : List X) → AllByRecursion (λ x. lacks byte (written x) ≡ true) xs → lacks byte (spaced written xs) ≡ true
  spaced_lacks byte space [] h = refl
  spaced_lacks byte space (x ∷ xs) h = lacks-append byte (written x) _ h.0 (behind_lacks byte space xs h.1)

-- ---- all of a list

pub all_more : {X : Type 0} (P Q : X → Type 0) → ((x : X) → P x → Q x) → (xs : List X) → AllByRecursion P xs → AllByRecursion Q xs
all_more P Q more [] h = tt
all_more P Q more (x ∷ xs) h = (more x h.0, all_more P Q more xs h.1)

pub map_same : {X : Type 0} (xs : List X) → map (λ x. x) xs ≡ xs
map_same [] = refl
map_same (x ∷ xs) = ap (λ ys. x ∷ ys) (map_same xs)
