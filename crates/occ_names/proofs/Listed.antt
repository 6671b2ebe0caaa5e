-- Items put into a set one after another are those of the list, each once.
use Rattle.std.proofs.Common.{◌≡◌, ◌==◌, Bool, true, false, true≢false, cond, not, ◌&&◌, ◌||◌, List, [], ◌∷◌, ◌++◌, filter, refl, sym, ap, ◌∙◌, append_assoc, append-nil, subst, eq-eqb}
use Rattle.std.proofs.lemmas.Bool.{eqb-true, and_parts, not-true}
use Rattle.std.proofs.lemmas.List.Folds.{list_any-append}
use Rattle.occ_syntax.specs.occ_base.declared.event.Dir.{Dir}
use Rattle.occ_syntax.specs.occ_base.declared.event.Dir.TheVariants.{Input, Output}
use Rattle.occ_syntax.specs.Scopes.{same_dir}
use Rattle.occ_names.specs.Once.{has, without, firsts, with_one, with_all, is_distinct, same_number}
use Rattle.occ_names.specs.Mentions.{same_end}

-- a test that holds exactly where two items are one
pub record IsTest {T : Type 0} (same : T → T → Bool) : Type 0 where
  pub tells : (x y : T) → same x y ≡ true → x ≡ y
  pub itself : (x : T) → same x x ≡ true

same_dir-tells : (d e : Dir) → same_dir d e ≡ true → d ≡ e
same_dir-tells Input Input h = refl
same_dir-tells Output Output h = refl
same_dir-tells Input Output h = cc
same_dir-tells Output Input h = cc

pub same_dir-itself : (d : Dir) → same_dir d d ≡ true
same_dir-itself Input = refl
same_dir-itself Output = refl

pub numbers_tested : IsTest same_number
numbers_tested = record { tells = λ x y h. eqb-true x y h; itself = λ x. eq-eqb x x refl }

pub ends_tested : IsTest same_end
ends_tested = record {
  tells = λ x y h. let both = and_parts (x.0 == y.0) (same_dir x.1 y.1) h in
      ap (λ n. (n, x.1)) (eqb-true _ _ both.0) ∙ ap (λ d. (y.0, d)) (same_dir-tells _ _ both.1);
  itself = λ x. ap (λ b. b && same_dir x.1 x.1) (eq-eqb x.0 x.0 refl) ∙ same_dir-itself x.1;
}

pub or_nothing : (a : Bool) → (a || false) ≡ a
or_nothing true = refl
or_nothing false = refl

filter_two_at : {T : Type 0} (p q r : Bool) (y : T) (us bs cs : List T) → (q && p) ≡ r → us ≡ cs → bs ≡ cs
    → cond q (cond p (y ∷ us) us) us ≡ cond r (y ∷ cs) cs
filter_two_at true true r y us bs cs e f g = ap (λ b. cond b (y ∷ us) us) e ∙ ap (λ zs. cond r (y ∷ zs) zs) f
filter_two_at false true r y us bs cs e f g = ap (λ b. cond b (y ∷ us) us) e ∙ ap (λ zs. cond r (y ∷ zs) zs) f
filter_two_at true false r y us bs cs e f g = ap (λ b. cond b (y ∷ us) us) e ∙ ap (λ zs. cond r (y ∷ zs) zs) f
filter_two_at false false r y us bs cs e f g = ap (λ b. cond b (y ∷ us) us) e ∙ ap (λ zs. cond r (y ∷ zs) zs) f

filter-cond : {T : Type 0} (p : T → Bool) (b : Bool) (y : T) (us : List T) → filter p (cond b (y ∷ us) us) ≡ cond b (cond (p y) (y ∷ filter p us) (filter p us)) (filter p us)
filter-cond p true y us = refl
filter-cond p false y us = refl

-- two filters are one
pub filter_two : {T : Type 0} (p q r : T → Bool) → ((y : T) → (q y && p y) ≡ r y) → (ys : List T) → filter p (filter q ys) ≡ filter r ys
filter_two p q r h [] = refl
filter_two p q r h (y ∷ ys) =
    filter-cond p (q y) y (filter q ys) ∙ filter_two_at (p y) (q y) (r y) y (filter p (filter q ys)) (filter p (filter q ys)) (filter r ys) (h y) (filter_two p q r h ys) (filter_two p q r h ys)

filter_all : {T : Type 0} (p : T → Bool) → ((y : T) → p y ≡ true) → (ys : List T) → filter p ys ≡ ys
filter_all p h [] = refl
filter_all p h (y ∷ ys) = ap (λ b. cond b (y ∷ filter p ys) (filter p ys)) (h y) ∙ ap (λ zs. y ∷ zs) (filter_all p h ys)

module _ {T : Type 0} (same : T → T → Bool) where
  with_all-append : (fs one rest : List T) → with_all same fs (one ++ rest) ≡ with_all same (with_all same fs one) rest
  with_all-append fs [] rest = refl
  with_all-append fs (x ∷ one) rest = with_all-append (with_one same fs x) one rest

  -- one item more, if there is one
  pub put_more : (fs gs one other whole rest all : List T) → gs ≡ with_all same fs one → one ≡ other → whole ≡ other ++ rest → with_all same fs whole ≡ all → with_all same gs rest ≡ all
  put_more fs gs one other whole rest all e f g h =
      ap (λ ks. with_all same ks rest) (e ∙ ap (with_all same fs) f) ∙ sym (with_all-append fs other rest) ∙ ap (with_all same fs) (sym g) ∙ h

  pub all_put : (fs rest all : List T) → rest ≡ [] → with_all same fs rest ≡ all → fs ≡ all
  all_put fs rest all e h = ap (with_all same fs) (sym e) ∙ h

module _ {T : Type 0} (same : T → T → Bool) (test : IsTest same) where
  swap_at : (x y : T) (b : Bool) → same x y ≡ b → same y x ≡ b
  swap_at x y true e = subst (λ z. same z x ≡ true) (test.tells x y e) (test.itself x)
  swap_at x y false e = swap_false x y e (same y x) refl
    where
      swap_false : (x y : T) → same x y ≡ false → (b : Bool) → same y x ≡ b → same y x ≡ false
      swap_false x y e false f = f
      swap_false x y e true f =
          let again : same x y ≡ true = subst (λ z. same z y ≡ true) (test.tells y x f) (test.itself y) in
          absurd (true≢false (sym again ∙ e))

  pub swap : (x y : T) → same x y ≡ same y x
  swap x y = sym (swap_at x y (same x y) refl)

  -- an item that is the same us one of the list is one of the list
  has_alike_at : (ks : List T) (x y : T) (b : Bool) → same x y ≡ b → has same ks x ≡ true → (not b && not (has same ks y)) ≡ not (has same ks y)
  has_alike_at ks x y true e h =
      let there : has same ks y ≡ true = subst (λ z. has same ks z ≡ true) (test.tells x y e) h in
      ap not (sym there)
  has_alike_at ks x y false e h = refl

  -- the items that aren't in a list with one more
  pub has_more_at : (ks : List T) (x y : T) → has same (ks ++ x ∷ []) y ≡ (has same ks y || same x y)
  has_more_at ks x y =
      list_any-append (λ z. same y z) ks (x ∷ []) ∙ ap (λ b. has same ks y || b) (or_nothing (same y x) ∙ swap y x)

  not_either : (a b : Bool) → (not b && not a) ≡ not (a || b)
  not_either true true = refl
  not_either true false = refl
  not_either false true = refl
  not_either false false = refl

  one_in : (ks : List T) (x : T) (rest : List T) (b : Bool) → has same ks x ≡ b
      → cond b ks (ks ++ x ∷ []) ++ filter (λ y. not (has same (cond b ks (ks ++ x ∷ [])) y)) rest
      ≡ ks ++ cond (not b) (x ∷ filter (λ y. not (has same ks y)) (without same x rest)) (filter (λ y. not (has same ks y)) (without same x rest))
  one_in ks x rest true e =
      ap (λ zs. ks ++ zs) (sym (filter_two (λ y. not (has same ks y)) (λ y. not (same x y)) (λ y. not (has same ks y)) (λ y. has_alike_at ks x y (same x y) refl e) rest))
  one_in ks x rest false e =
      append_assoc ks (x ∷ []) _
      ∙ ap (λ zs. ks ++ x ∷ zs)
      (sym (filter_two (λ y. not (has same ks y)) (λ y. not (same x y)) (λ y. not (has same (ks ++ x ∷ []) y))
      (λ y. not_either (has same ks y) (same x y) ∙ ap not (sym (has_more_at ks x y))) rest))

  pub with_all_is : (ks xs : List T) → with_all same ks xs ≡ ks ++ filter (λ y. not (has same ks y)) (firsts same xs)
  with_all_is ks [] = sym (append-nil ks)
  with_all_is ks (x ∷ xs) = with_all_is (with_one same ks x) xs ∙ one_in ks x (firsts same xs) (has same ks x) refl

  pub with_all-firsts : (xs : List T) → with_all same [] xs ≡ firsts same xs
  with_all-firsts xs = with_all_is [] xs ∙ filter_all (λ y. not (has same [] y)) (λ y. refl) (firsts same xs)

  -- taking out the items that are the same us one
  out_at : (a b c : Bool) (h : Bool) (z x : T) (rest : List T) → a ≡ same x z → has same rest x ≡ (not c && h) → (a ≡ true → b ≡ c)
      → has same (cond (not b) (z ∷ rest) rest) x ≡ (not c && (a || h))
  out_at true true c h z x rest e f g = f ∙ ap (λ d. not d && h) (sym (g refl)) ∙ ap (λ d. not d && true) (g refl)
  out_at true false c h z x rest e f g = ap (λ d. d || has same rest x) (sym e) ∙ ap (λ d. not d && true) (g refl)
  out_at false true c h z x rest e f g = f
  out_at false false c h z x rest e f g = ap (λ d. d || has same rest x) (sym e) ∙ f

  pub has_without : (y : T) (zs : List T) (x : T) → has same (without same y zs) x ≡ (not (same y x) && has same zs x)
  has_without y [] x = nothing (same y x)
    where
      nothing : (b : Bool) → false ≡ (not b && false)
      nothing true = refl
      nothing false = refl
  has_without y (z ∷ zs) x =
      out_at (same x z) (same y z) (same y x) (has same zs x) z x (without same y zs) refl (has_without y zs x)
      (λ e. ap (same y) (sym (test.tells x z e)))

  or_absorbs : (a b h : Bool) → a ≡ b → (a || (not b && h)) ≡ (a || h)
  or_absorbs true b h e = refl
  or_absorbs false b h e = ap (λ c. not c && h) (sym e)

  pub has_firsts : (xs : List T) (x : T) → has same (firsts same xs) x ≡ has same xs x
  has_firsts [] x = refl
  has_firsts (y ∷ xs) x =
      ap (λ b. same x y || b) (has_without y (firsts same xs) x)
      ∙ or_absorbs (same x y) (same y x) (has same (firsts same xs) x) (swap x y)
      ∙ ap (λ b. same x y || b) (has_firsts xs x)

  none_of_none : (b c : Bool) → c ≡ false → (not b && c) ≡ false
  none_of_none true c e = refl
  none_of_none false c e = e

  still_none : (b c h : Bool) → (c || h) ≡ false → h ≡ false
  still_none b true h e = cc
  still_none b false h e = e

  distinct_at : (b : Bool) (x : T) (rest : List T) → has same rest x ≡ false → is_distinct same rest ≡ true → is_distinct same (cond b (x ∷ rest) rest) ≡ true
  distinct_at true x rest e f = ap (λ d. not d && is_distinct same rest) e ∙ f
  distinct_at false x rest e f = f

  distinct_without : (y : T) (zs : List T) → is_distinct same zs ≡ true → is_distinct same (without same y zs) ≡ true
  distinct_without y [] e = refl
  distinct_without y (z ∷ zs) e =
      let both = and_parts (not (has same zs z)) (is_distinct same zs) e in
      distinct_at (not (same y z)) z (without same y zs)
      (has_without y zs z ∙ none_of_none (same y z) (has same zs z) (not-true _ both.0))
      (distinct_without y zs both.1)

  pub firsts_distinct : (xs : List T) → is_distinct same (firsts same xs) ≡ true
  firsts_distinct [] = refl
  firsts_distinct (x ∷ xs) =
      distinct_at true x (without same x (firsts same xs))
      (has_without x (firsts same xs) x ∙ ap (λ b. not b && has same (firsts same xs) x) (test.itself x))
      (distinct_without x (firsts same xs) (firsts_distinct xs))

  without_none_at : (b : Bool) (z : T) (zs ws : List T) → b ≡ false → ws ≡ zs → cond (not b) (z ∷ ws) ws ≡ z ∷ zs
  without_none_at b z zs ws e f = ap (λ d. cond (not d) (z ∷ ws) ws) e ∙ ap (λ vs. z ∷ vs) f

  first_no : (a b : Bool) → (a || b) ≡ false → a ≡ false
  first_no true b e = cc
  first_no false b e = refl

  without_none : (x : T) (zs : List T) → has same zs x ≡ false → without same x zs ≡ zs
  without_none x [] e = refl
  without_none x (z ∷ zs) e =
      without_none_at (same x z) z zs (without same x zs) (first_no _ _ e) (without_none x zs (still_none true (same x z) _ e))

  -- a list in which nothing stands twice
  pub firsts_same : (xs : List T) → is_distinct same xs ≡ true → firsts same xs ≡ xs
  firsts_same [] e = refl
  firsts_same (x ∷ xs) e =
      let both = and_parts (not (has same xs x)) (is_distinct same xs) e in
      ap (λ zs. x ∷ without same x zs) (firsts_same xs both.1) ∙ ap (λ zs. x ∷ zs) (without_none x xs (not-true _ both.0))
