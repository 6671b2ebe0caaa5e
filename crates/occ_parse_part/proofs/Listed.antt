-- Arrays that are noted one after the other.
use Rattle.std.proofs.Common.{◌≡◌, ℕ, ◌+◌, ◌<◌, ◌≤◌, List, [], ◌∷◌, ◌++◌, length, get_or, drop, refl, sym, ap, ◌∙◌, append_assoc}
use Rattle.std.specs.List.{flat_map}
use Rattle.std.proofs.lemmas.List.{drop_more, drop_all}
use Rattle.occ_parse.specs.occ_names.Once.{same_number, with_one, with_all}
use Rattle.occ_syntax.specs.declared.expr.Op.{Op}
use Rattle.occ_parse_forms.specs.declared.phrase.Phrase.{Phrase}
use Rattle.occ_parse_forms.specs.Shape.{Said, operation, said, all_said, shape}
use Rattle.occ_parse_rules.specs.Names.{items_in, items_in_all}
use Rattle.occ_parse_rules.specs.Forest.{Laid}
use Rattle.occ_parse.specs.occ_parse_layout.declared.placed.Placed.{Placed}
use Rattle.occ_parse.specs.occ_parse_layout.Layout.{laid_rows}
use Rattle.occ_parse_part.specs.Arrays.{item_array, line_arrays}

abbrev noted : List ℕ → List ℕ → List ℕ
noted xs ys = with_all same_number xs ys

noted-append : (fs xs ys : List ℕ) → noted fs (xs ++ ys) ≡ noted (noted fs xs) ys
noted-append fs [] ys = refl
noted-append fs (x ∷ xs) ys = noted-append (with_one same_number fs x) xs ys

flat-append : {A : Type 0} (f : A → List ℕ) (xs ys : List A) → flat_map f (xs ++ ys) ≡ flat_map f xs ++ flat_map f ys
flat-append f [] ys = refl
flat-append f (x ∷ xs) ys = ap (λ zs. f x ++ zs) (flat-append f xs ys) ∙ sym (append_assoc (f x) (flat_map f xs) (flat_map f ys))

-- one after the other
pub noted_both : {A : Type 0} (f : A → List ℕ) (xs ys : List A) (fs gs hs : List ℕ) → gs ≡ noted fs (flat_map f xs) → hs ≡ noted gs (flat_map f ys) → hs ≡ noted fs (flat_map f (xs ++ ys))
noted_both f xs ys fs gs hs e h =
    h ∙ ap (λ ks. noted ks (flat_map f ys)) e ∙ sym (noted-append fs (flat_map f xs) (flat_map f ys)) ∙ ap (noted fs) (sym (flat-append f xs ys))

-- an item of a list more
module _ {A : Type 0} (f : A → List ℕ) (xs : List A) (i : ℕ) where
  pub noted_more : (x z : A) (fs gs : List ℕ) → i < length xs → x ≡ get_or xs i z → gs ≡ noted fs (f x)
      → noted gs (flat_map f (drop (i + 1) xs)) ≡ noted fs (flat_map f (drop i xs))
  noted_more x z fs gs h e p =
      let rest = flat_map f (drop (i + 1) xs) in
      ap (λ ks. noted ks rest) (p ∙ ap (λ a. noted fs (f a)) e)
      ∙ sym (noted-append fs (f (get_or xs i z)) rest)
      ∙ sym (ap (λ ys. noted fs (flat_map f ys)) (drop_more xs i z h))

  pub noted_at : (z : A) (fs gs : List ℕ) → i < length xs → gs ≡ noted fs (f (get_or xs i z))
      → noted gs (flat_map f (drop (i + 1) xs)) ≡ noted fs (flat_map f (drop i xs))
  noted_at z fs gs h p = noted_more (get_or xs i z) z fs gs h refl p

  pub noted_done : (fs : List ℕ) → length xs ≤ i → noted fs (flat_map f (drop i xs)) ≡ fs
  noted_done fs h = ap (λ ys. noted fs (flat_map f ys)) (drop_all i xs h)

-- an expression of a list more
phrases_flat : (ps : List Phrase) → flat_map item_array (items_in_all (all_said ps)) ≡ flat_map (λ p. flat_map item_array (items_in (said p))) ps
phrases_flat [] = refl
phrases_flat (p ∷ ps) =
    flat-append item_array (items_in (said p)) (items_in_all (all_said ps)) ∙ ap (λ zs. flat_map item_array (items_in (said p)) ++ zs) (phrases_flat ps)

module _ (ps : List Phrase) (i : ℕ) where
  pub phrase_more : (p z : Phrase) (fs gs : List ℕ) → i < length ps → p ≡ get_or ps i z → gs ≡ noted fs (flat_map item_array (items_in (said p)))
      → noted gs (flat_map item_array (items_in_all (all_said (drop (i + 1) ps)))) ≡ noted fs (flat_map item_array (items_in_all (all_said (drop i ps))))
  phrase_more p z fs gs h e q =
      ap (noted gs) (phrases_flat (drop (i + 1) ps))
      ∙ noted_more (λ p. flat_map item_array (items_in (said p))) ps i p z fs gs h e q
      ∙ sym (ap (noted fs) (phrases_flat (drop i ps)))

  pub phrases_done : (fs : List ℕ) → length ps ≤ i → noted fs (flat_map item_array (items_in_all (all_said (drop i ps)))) ≡ fs
  phrases_done fs h = ap (λ qs. noted fs (flat_map item_array (items_in_all (all_said qs)))) (drop_all i ps h)

-- the arrays of lines, read off their forms
pub lines_flat : (rows : List Placed) → flat_map (λ (line : Laid). line_arrays line.shape) (laid_rows rows) ≡ flat_map (λ (p : Placed). line_arrays (shape p.form)) rows
lines_flat [] = refl
lines_flat (p ∷ rows) = ap (λ zs. line_arrays (shape p.form) ++ zs) (lines_flat rows)

-- the two operands of an operation
pub noted_two : (e l r l' r' : Said) (op : Op) (fs gs hs : List ℕ) → e ≡ operation op l r → l' ≡ l → r' ≡ r → gs ≡ noted fs (flat_map item_array (items_in l'))
    → hs ≡ noted gs (flat_map item_array (items_in r')) → hs ≡ noted fs (flat_map item_array (items_in e))
noted_two e l r l' r' op fs gs hs d a b g h =
    noted_both item_array (items_in l') (items_in r') fs gs hs g h
    ∙ ap (λ x. noted fs (flat_map item_array (items_in x ++ items_in r'))) a
    ∙ ap (λ x. noted fs (flat_map item_array (items_in l ++ items_in x))) b
    ∙ sym (ap (λ x. noted fs (flat_map item_array (items_in x))) d)
