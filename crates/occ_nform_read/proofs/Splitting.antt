-- Words between spaces, and readings of one word after another.
use Rattle.std.proofs.Common.{◌≡◌, ℕ, zero, suc, ◌+◌, ◌<◌, true, false, eqb, List, [], ◌∷◌, ◌++◌, length, get_or, take, drop, Option, Some, None, refl, sym, ap, ◌∙◌, arith, append_assoc}
use Rattle.std.specs.List.{position}
use Rattle.std.proofs.lemmas.Bool.{cond-true, cond-false, eq-eqb, ne_eqb, eqb-true, eqb-false}
use Rattle.std.proofs.lemmas.List.{length-drop}
use Rattle.std.proofs.lemmas.List.Quantifiers.{position-Some}
use Rattle.occ_nform_table.specs.occ_lex.Rows.{in_front}
use Rattle.occ_nform_table.proofs.from_lex.RowLemmas.{position-None}
use Rattle.occ_nform_table.specs.Words.{then_read, cut, words, items_of, each}

words_space : (byte : ℕ) (text : List ℕ) → byte ≡ 32 → words (byte ∷ text) ≡ [] ∷ words text
unfolding words
words_space byte text h = cond-true (eqb byte 32) ([] ∷ words text) (in_front byte (words text)) (eq-eqb byte 32 h)

words_more : (byte : ℕ) (text : List ℕ) → (byte ≡ 32 → ⊥) → words (byte ∷ text) ≡ in_front byte (words text)
unfolding words
words_more byte text h = cond-false (eqb byte 32) ([] ∷ words text) (in_front byte (words text)) (ne_eqb byte 32 h)

words_nil : words [] ≡ [] ∷ []
unfolding words
words_nil = refl

-- the word up to a space
word_to : (text : List ℕ) (i : ℕ) → i < length text → get_or text i 0 ≡ 32 → ((k : ℕ) → k < i → get_or text k 0 ≡ 32 → ⊥) → words text ≡ take i text ∷ words (drop (suc i) text)
word_to [] i within space before = absurd (omega (arith, within))
word_to (byte ∷ text) zero within space before = words_space byte text space
word_to (byte ∷ text) (suc i) within space before =
    words_more byte text (before 0 (omega arith))
    ∙ ap (in_front byte) (word_to text i (omega (arith, within)) space (λ k below. before (suc k) (omega (arith, below))))

-- a text without spaces
word_whole : (text : List ℕ) → ((k : ℕ) → k < length text → get_or text k 0 ≡ 32 → ⊥) → words text ≡ text ∷ []
word_whole [] none = words_nil
word_whole (byte ∷ text) none =
    words_more byte text (none 0 (omega arith))
    ∙ ap (in_front byte) (word_whole text (λ k below. none (suc k) (omega (arith, below))))

pub cut_at : (byte : ℕ) (text : List ℕ) (i : ℕ) → position (λ b. eqb b byte) text ≡ Some i → cut byte text ≡ Some (take i text, drop (i + 1) text)
unfolding cut
cut_at byte text i h = ap (λ p. then_read p (λ i. Some (take i text, drop (i + 1) text))) h

pub cut_none : (byte : ℕ) (text : List ℕ) → position (λ b. eqb b byte) text ≡ None → cut byte text ≡ None
unfolding cut
cut_none byte text h = ap (λ p. then_read p (λ i. Some (take i text, drop (i + 1) text))) h

data Cutting (byte : ℕ) (text : List ℕ) : Type 0 where
  At : (i : ℕ) (e : position (λ b. eqb b byte) text ≡ Some i) → Cutting byte text
  Nowhere : (e : position (λ b. eqb b byte) text ≡ None) → Cutting byte text

cutting : (byte : ℕ) (text : List ℕ) (p : Option ℕ) → position (λ b. eqb b byte) text ≡ p → Cutting byte text
cutting byte text None e = Nowhere e
cutting byte text (Some i) e = At i e

parts_are : {X : Type 0} (a b : X) → Some a ≡ Some b → a ≡ b
parts_are a b e = cc

no_parts : {X : Type 0} (a : X) → Some a ≡ None → ⊥
no_parts a e = cc

pub words_cut : (text word rest : List ℕ) → cut 32 text ≡ Some (word, rest) → words text ≡ word ∷ words rest
words_cut text word rest h = from (cutting 32 text (position (λ b. eqb b 32) text) refl)
  where
    from : Cutting 32 text → words text ≡ word ∷ words rest
    from (Nowhere e) = absurd (no_parts (word, rest) (sym h ∙ cut_none 32 text e))
    from (At i e) =
        let found = position-Some (λ byte. eqb byte 32) text i 0 e in
        let is : (take i text, drop (i + 1) text) ≡ (word, rest) = parts_are (take i text, drop (i + 1) text) (word, rest) (sym (cut_at 32 text i e) ∙ h) in
        let one_more : suc i ≡ i + 1 = omega arith in
        word_to text i found.0 (eqb-true (get_or text i 0) 32 found.1) (λ k below. eqb-false (get_or text k 0) 32 (found.2 k below))
        ∙ ap (λ n. take i text ∷ words (drop n text)) one_more
        ∙ ap (λ (p : List ℕ × List ℕ). p.0 ∷ words p.1) is

pub words_none : (text : List ℕ) → cut 32 text ≡ None → words text ≡ text ∷ []
words_none text h = from (cutting 32 text (position (λ b. eqb b 32) text) refl)
  where
    from : Cutting 32 text → words text ≡ text ∷ []
    from (At i e) = absurd (no_parts (take i text, drop (i + 1) text) (sym (cut_at 32 text i e) ∙ h))
    from (Nowhere e) = word_whole text (λ k below. eqb-false (get_or text k 0) 32 (position-None (λ b. eqb b 32) text e k below))

-- ---- readings of one word after another

-- what was read before, and what is still read
abbrev pub with_items : {A : Type 0} → List A → Option (List A) → Option (List A)
with_items front read = then_read read (λ xs. Some (front ++ xs))

each_nil : {A : Type 0} (read : List ℕ → Option A) → each read [] ≡ Some []
unfolding each
each_nil read = refl

each_more : {A : Type 0} (read : List ℕ → Option A) (word : List ℕ) (others : List (List ℕ)) (x : A) → read word ≡ Some x → each read (word ∷ others) ≡ then_read (each read others) (λ xs. Some (x ∷ xs))
unfolding each
each_more read word others x h = ap (λ r. then_read r (λ x. then_read (each read others) (λ xs. Some (x ∷ xs)))) h

each_none : {A : Type 0} (read : List ℕ → Option A) (word : List ℕ) (others : List (List ℕ)) → read word ≡ None → each read (word ∷ others) ≡ None
unfolding each
each_none read word others h = ap (λ r. then_read r (λ x. then_read (each read others) (λ xs. Some (x ∷ xs)))) h

regroup : {A : Type 0} (front : List A) (x : A) (read : Option (List A)) → with_items front (then_read read (λ xs. Some (x ∷ xs))) ≡ with_items (front ++ x ∷ []) read
regroup front x None = refl
regroup front x (Some xs) = ap Some (sym (append_assoc front (x ∷ []) xs))

no_front : {A : Type 0} (read : Option (List A)) → with_items [] read ≡ read
no_front None = refl
no_front (Some xs) = refl

items_words : (text : List ℕ) → eqb (length text) 0 ≡ false → items_of text ≡ words text
items_words [] h = absurd (eqb-false 0 0 h refl)
items_words (b ∷ text) h = refl

pub each_empty : {A : Type 0} (read : List ℕ → Option A) (text : List ℕ) → eqb (length text) 0 ≡ true → Some [] ≡ each read (items_of text)
each_empty read [] h = sym (each_nil read)
each_empty read (b ∷ text) h = absurd (omega (arith, eqb-true (length (b ∷ text)) 0 h))

pub each_starts : {A : Type 0} (read : List ℕ → Option A) (text : List ℕ) → eqb (length text) 0 ≡ false → with_items [] (each read (words text)) ≡ each read (items_of text)
each_starts read text h = no_front (each read (words text)) ∙ ap (each read) (sym (items_words text h))

pub each_goes : {A : Type 0} (read : List ℕ → Option A) (front : List A) (text word rest : List ℕ) (x : A) (whole : Option (List A)) → cut 32 text ≡ Some (word, rest) → read word ≡ Some x
    → with_items front (each read (words text)) ≡ whole → with_items (front ++ x ∷ []) (each read (words rest)) ≡ whole
each_goes read front text word rest x whole h e so_far =
    sym (ap (λ ws. with_items front (each read ws)) (words_cut text word rest h) ∙ ap (with_items front) (each_more read word (words rest) x e) ∙ regroup front x (each read (words rest))) ∙ so_far

pub each_stops : {A : Type 0} (read : List ℕ → Option A) (front : List A) (text word rest : List ℕ) (whole : Option (List A)) → cut 32 text ≡ Some (word, rest) → read word ≡ None
    → with_items front (each read (words text)) ≡ whole → None ≡ whole
each_stops read front text word rest whole h e so_far =
    sym (ap (λ ws. with_items front (each read ws)) (words_cut text word rest h) ∙ ap (with_items front) (each_none read word (words rest) e)) ∙ so_far

pub each_last : {A : Type 0} (read : List ℕ → Option A) (front : List A) (text : List ℕ) (x : A) (whole : Option (List A)) → cut 32 text ≡ None → read text ≡ Some x
    → with_items front (each read (words text)) ≡ whole → Some (front ++ x ∷ []) ≡ whole
each_last read front text x whole h e so_far =
    sym (ap (λ ws. with_items front (each read ws)) (words_none text h) ∙ ap (with_items front) (each_more read text [] x e ∙ ap (λ r. then_read r (λ xs. Some (x ∷ xs))) (each_nil read))) ∙ so_far

pub each_fails : {A : Type 0} (read : List ℕ → Option A) (front : List A) (text : List ℕ) (whole : Option (List A)) → cut 32 text ≡ None → read text ≡ None
    → with_items front (each read (words text)) ≡ whole → None ≡ whole
each_fails read front text whole h e so_far =
    sym (ap (λ ws. with_items front (each read ws)) (words_none text h) ∙ ap (with_items front) (each_none read text [] e)) ∙ so_far

pub cut_shorter : (byte : ℕ) (text word rest : List ℕ) → cut byte text ≡ Some (word, rest) → length rest < length text
cut_shorter byte text word rest h = from (cutting byte text (position (λ b. eqb b byte) text) refl)
  where
    from : Cutting byte text → length rest < length text
    from (Nowhere e) = absurd (no_parts (word, rest) (sym h ∙ cut_none byte text e))
    from (At i e) =
        let found = position-Some (λ b. eqb b byte) text i 0 e in
        let is : (take i text, drop (i + 1) text) ≡ (word, rest) = parts_are (take i text, drop (i + 1) text) (word, rest) (sym (cut_at byte text i e) ∙ h) in
        let len : length (drop (i + 1) text) ≡ length rest = ap (λ (p : List ℕ × List ℕ). length p.1) is in
        omega (arith, found.0, len, length-drop (i + 1) text)
