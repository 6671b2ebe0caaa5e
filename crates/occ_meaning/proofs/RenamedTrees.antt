-- Renamed trees: renaming by two functions, renaming back, and types under other names.
-- ---- two functions that agree on the names that stand in a part
use Rattle.occ_syntax.specs.occ_base.declared.event.Dir.TheVariants.{Input, Output}
use Rattle.occ_syntax.specs.occ_base.declared.width.Width.{Width}
use Rattle.occ_syntax.specs.occ_base.declared.width.Width.TheVariants.{Bool as TruthValue}
use Rattle.occ_meaning.proofs.Facts.{at_itself}
use Rattle.occ_meaning.proofs.Renaming.{IsExchange, name_under, one_for_one, type_under}
use Rattle.occ_meaning.specs.Rename.{all_renamed, branches_renamed, cases_renamed, renamed, renamed_exp, renamed_exps, renamed_names, renamed_waiting, stands, stands_in_branches, stands_in_cases, stands_in_some, stands_in_waiting, under}
use Rattle.occ_syntax.specs.Names.{is_in, names, some_names}
use Rattle.occ_syntax.specs.Scopes.{Environment, allows, channel_kind, variable_kind, variable_width, with_name}
use Rattle.occ_syntax.specs.Tree.{Branches, Cases, Exp, Tree, Trees, Waiting, alt, and_branch, and_case, and_tree, assign, complement, connect, declare, input, negation, no_branch, no_case, no_tree, numeral, operation, output, par, ready, receive, select, send, seq, skip, stop, truth, variable}
use Rattle.occ_syntax.specs.Types.{agree, all_types_kept, branches_kept, can_declare, cases_kept, input_kept, is_condition, is_pair, is_width, output_kept, pairs_kept, type_of, types_kept, waiting_kept}
use Rattle.occ_syntax.specs.declared.scope.Kind.{Kind}
use Rattle.occ_syntax.specs.declared.scope.Kind.TheVariants.{Chan, Var}
use Rattle.std.proofs.Common.{Bool, List, None, Some, [], ap, is_none, not, refl, sym, true, ℕ, ◌&&◌, ◌==◌, ◌||◌, ◌∙◌, ◌∷◌, ◌≡◌}
use Rattle.std.proofs.lemmas.Bool.{or_left, or_right}

abbrev Agree : (ℕ → ℕ) → (ℕ → ℕ) → (ℕ → Bool) → Type 0
Agree f g has = (x : ℕ) → has x ≡ true → f x ≡ g x

agree_left : (f g : ℕ → ℕ) (u v : ℕ → Bool) → Agree f g (λ x. u x || v x) → Agree f g u
agree_left f g u v h x k = h x (or_left (u x) (v x) k)

agree_right : (f g : ℕ → ℕ) (u v : ℕ → Bool) → Agree f g (λ x. u x || v x) → Agree f g v
agree_right f g u v h x k = h x (or_right (u x) (v x) k)

agree_name : (f g : ℕ → ℕ) (y : ℕ) → Agree f g (λ x. x == y) → f y ≡ g y
agree_name f g y h = h y (at_itself y)

exps_both : {A B : Type 0} (k : A → B → Tree) (a c : A) (b d : B) → a ≡ c → b ≡ d → k a b ≡ k c d
exps_both k a c b d ha hb = ap (λ z. k z b) ha ∙ ap (λ z. k c z) hb

exp_agree : (f g : ℕ → ℕ) (e : Exp) → Agree f g (names e) → renamed_exp f e ≡ renamed_exp g e
exp_agree f g (variable y) h = ap variable (agree_name f g y h)
exp_agree f g (numeral bits value) h = refl
exp_agree f g (truth b) h = refl
exp_agree f g (negation e) h = ap negation (exp_agree f g e h)
exp_agree f g (complement e) h = ap complement (exp_agree f g e h)
exp_agree f g (operation op left right) h =
    ap (λ z. operation op z (renamed_exp f right)) (exp_agree f g left (agree_left f g (names left) (names right) h))
    ∙ ap (λ z. operation op (renamed_exp g left) z) (exp_agree f g right (agree_right f g (names left) (names right) h))

names_agree : (f g : ℕ → ℕ) (xs : List ℕ) → Agree f g (is_in xs) → renamed_names f xs ≡ renamed_names g xs
names_agree f g [] h = refl
names_agree f g (y ∷ xs) h = ap (λ z. z ∷ renamed_names f xs) (h y (or_left (y == y) (is_in xs y) (at_itself y))) ∙ ap (λ l. g y ∷ l) (names_agree f g xs (agree_right f g (λ x. x == y) (is_in xs) h))

exps_agree : (f g : ℕ → ℕ) (es : List Exp) → Agree f g (some_names es) → renamed_exps f es ≡ renamed_exps g es
exps_agree f g [] h = refl
exps_agree f g (e ∷ es) h = ap (λ z. z ∷ renamed_exps f es) (exp_agree f g e (agree_left f g (names e) (some_names es) h)) ∙ ap (λ l. renamed_exp g e ∷ l) (exps_agree f g es (agree_right f g (names e) (some_names es) h))

waiting_agree : (f g : ℕ → ℕ) (w : Waiting) → Agree f g (stands_in_waiting w) → renamed_waiting f w ≡ renamed_waiting g w
waiting_agree f g ready h = refl
waiting_agree f g (input c y) h =
    ap (λ n. input n (f y)) (h c (or_left (c == c) (c == y) (at_itself c))) ∙ ap (λ n. input (g c) n) (h y (or_right (y == c) (y == y) (at_itself y)))
waiting_agree f g (output c e) h =
    ap (λ n. output n (renamed_exp f e)) (h c (or_left (c == c) (names e c) (at_itself c))) ∙ ap (λ z. output (g c) z) (exp_agree f g e (agree_right f g (λ x. x == c) (names e) h))

mutual
  pub trees_agree : (p : Tree) (f g : ℕ → ℕ) → ((x : ℕ) → stands p x ≡ true → f x ≡ g x) → renamed p f ≡ renamed p g
  trees_agree skip f g h = refl
  trees_agree stop f g h = refl
  trees_agree (assign xs es) f g h =
      exps_both assign (renamed_names f xs) (renamed_names g xs) (renamed_exps f es) (renamed_exps g es) (names_agree f g xs (agree_left f g (is_in xs) (some_names es) h)) (exps_agree f g es (agree_right f g (is_in xs) (some_names es) h))
  trees_agree (receive c y) f g h = exps_both receive (f c) (g c) (f y) (g y) (h c (or_left (c == c) (c == y) (at_itself c))) (h y (or_right (y == c) (y == y) (at_itself y)))
  trees_agree (send c e) f g h =
      exps_both send (f c) (g c) (renamed_exp f e) (renamed_exp g e) (h c (or_left (c == c) (names e c) (at_itself c))) (exp_agree f g e (agree_right f g (λ x. x == c) (names e) h))
  trees_agree (seq ps) f g h = ap seq (all_agree ps f g h)
  trees_agree (par ps) f g h = ap par (all_agree ps f g h)
  trees_agree (select cs) f g h = ap select (cases_agree cs f g h)
  trees_agree (alt bs) f g h = ap alt (branches_agree bs f g h)
  trees_agree (declare y w p) f g h =
      exps_both (λ n q. declare n w q) (f y) (g y) (renamed p f) (renamed p g) (h y (or_left (y == y) (stands p y) (at_itself y))) (trees_agree p f g (λ x k. h x (or_right (x == y) (stands p x) k)))
  trees_agree (connect y w p) f g h =
      exps_both (λ n q. connect n w q) (f y) (g y) (renamed p f) (renamed p g) (h y (or_left (y == y) (stands p y) (at_itself y))) (trees_agree p f g (λ x k. h x (or_right (x == y) (stands p x) k)))

  all_agree : (ps : Trees) (f g : ℕ → ℕ) → ((x : ℕ) → stands_in_some ps x ≡ true → f x ≡ g x) → all_renamed ps f ≡ all_renamed ps g
  all_agree no_tree f g h = refl
  all_agree (and_tree p ps) f g h =
      ap (λ q. and_tree q (all_renamed ps f)) (trees_agree p f g (λ x k. h x (or_left (stands p x) (stands_in_some ps x) k)))
      ∙ ap (λ qs. and_tree (renamed p g) qs) (all_agree ps f g (λ x k. h x (or_right (stands p x) (stands_in_some ps x) k)))

  cases_agree : (cs : Cases) (f g : ℕ → ℕ) → ((x : ℕ) → stands_in_cases cs x ≡ true → f x ≡ g x) → cases_renamed cs f ≡ cases_renamed cs g
  cases_agree no_case f g h = refl
  cases_agree (and_case e p cs) f g h =
      ap (λ z. and_case z (renamed p f) (cases_renamed cs f)) (exp_agree f g e (λ x k. h x (or_left (names e x || stands p x) (stands_in_cases cs x) (or_left (names e x) (stands p x) k))))
      ∙ (ap (λ q. and_case (renamed_exp g e) q (cases_renamed cs f)) (trees_agree p f g (λ x k. h x (or_left (names e x || stands p x) (stands_in_cases cs x) (or_right (names e x) (stands p x) k))))
      ∙ ap (λ r. and_case (renamed_exp g e) (renamed p g) r) (cases_agree cs f g (λ x k. h x (or_right (names e x || stands p x) (stands_in_cases cs x) k))))

  branches_agree : (bs : Branches) (f g : ℕ → ℕ) → ((x : ℕ) → stands_in_branches bs x ≡ true → f x ≡ g x)
      → branches_renamed bs f ≡ branches_renamed bs g
  branches_agree no_branch f g h = refl
  branches_agree (and_branch e w p bs) f g h =
      ap (λ z. and_branch z (renamed_waiting f w) (renamed p f) (branches_renamed bs f))
      (exp_agree f g e (λ x k. h x (or_left ((names e x || stands_in_waiting w x) || stands p x) (stands_in_branches bs x) (or_left (names e x || stands_in_waiting w x) (stands p x) (or_left (names e x) (stands_in_waiting w x) k)))))
      ∙ (ap (λ z. and_branch (renamed_exp g e) z (renamed p f) (branches_renamed bs f))
      (waiting_agree f g w (λ x k. h x (or_left ((names e x || stands_in_waiting w x) || stands p x) (stands_in_branches bs x) (or_left (names e x || stands_in_waiting w x) (stands p x) (or_right (names e x) (stands_in_waiting w x) k)))))
      ∙ (ap (λ q. and_branch (renamed_exp g e) (renamed_waiting g w) q (branches_renamed bs f))
      (trees_agree p f g (λ x k. h x (or_left ((names e x || stands_in_waiting w x) || stands p x) (stands_in_branches bs x) (or_right (names e x || stands_in_waiting w x) (stands p x) k))))
      ∙ ap (λ r. and_branch (renamed_exp g e) (renamed_waiting g w) (renamed p g) r) (branches_agree bs f g (λ x k. h x (or_right ((names e x || stands_in_waiting w x) || stands p x) (stands_in_branches bs x) k)))))

-- ---- renaming by an exchange and back

exp_twice : (f : ℕ → ℕ) → IsExchange f → (e : Exp) → renamed_exp f (renamed_exp f e) ≡ e
exp_twice f inv (variable y) = ap variable (inv y)
exp_twice f inv (numeral bits value) = refl
exp_twice f inv (truth b) = refl
exp_twice f inv (negation e) = ap negation (exp_twice f inv e)
exp_twice f inv (complement e) = ap complement (exp_twice f inv e)
exp_twice f inv (operation op left right) = ap (λ z. operation op z (renamed_exp f (renamed_exp f right))) (exp_twice f inv left) ∙ ap (λ z. operation op left z) (exp_twice f inv right)

names_twice : (f : ℕ → ℕ) → IsExchange f → (xs : List ℕ) → renamed_names f (renamed_names f xs) ≡ xs
names_twice f inv [] = refl
names_twice f inv (y ∷ xs) = ap (λ z. z ∷ renamed_names f (renamed_names f xs)) (inv y) ∙ ap (λ l. y ∷ l) (names_twice f inv xs)

exps_twice : (f : ℕ → ℕ) → IsExchange f → (es : List Exp) → renamed_exps f (renamed_exps f es) ≡ es
exps_twice f inv [] = refl
exps_twice f inv (e ∷ es) = ap (λ z. z ∷ renamed_exps f (renamed_exps f es)) (exp_twice f inv e) ∙ ap (λ l. e ∷ l) (exps_twice f inv es)

waiting_twice : (f : ℕ → ℕ) → IsExchange f → (w : Waiting) → renamed_waiting f (renamed_waiting f w) ≡ w
waiting_twice f inv ready = refl
waiting_twice f inv (input c y) = ap (λ n. input n (f (f y))) (inv c) ∙ ap (λ n. input c n) (inv y)
waiting_twice f inv (output c e) = ap (λ n. output n (renamed_exp f (renamed_exp f e))) (inv c) ∙ ap (λ z. output c z) (exp_twice f inv e)

mutual
  pub tree_twice : (p : Tree) (f : ℕ → ℕ) → IsExchange f → renamed (renamed p f) f ≡ p
  tree_twice skip f inv = refl
  tree_twice stop f inv = refl
  tree_twice (assign xs es) f inv = exps_both assign (renamed_names f (renamed_names f xs)) xs (renamed_exps f (renamed_exps f es)) es (names_twice f inv xs) (exps_twice f inv es)
  tree_twice (receive c y) f inv = exps_both receive (f (f c)) c (f (f y)) y (inv c) (inv y)
  tree_twice (send c e) f inv = exps_both send (f (f c)) c (renamed_exp f (renamed_exp f e)) e (inv c) (exp_twice f inv e)
  tree_twice (seq ps) f inv = ap seq (all_twice ps f inv)
  tree_twice (par ps) f inv = ap par (all_twice ps f inv)
  tree_twice (select cs) f inv = ap select (cases_twice cs f inv)
  tree_twice (alt bs) f inv = ap alt (branches_twice bs f inv)
  tree_twice (declare y w p) f inv = exps_both (λ n q. declare n w q) (f (f y)) y (renamed (renamed p f) f) p (inv y) (tree_twice p f inv)
  tree_twice (connect y w p) f inv = exps_both (λ n q. connect n w q) (f (f y)) y (renamed (renamed p f) f) p (inv y) (tree_twice p f inv)

  all_twice : (ps : Trees) (f : ℕ → ℕ) → IsExchange f → all_renamed (all_renamed ps f) f ≡ ps
  all_twice no_tree f inv = refl
  all_twice (and_tree p ps) f inv = ap (λ q. and_tree q (all_renamed (all_renamed ps f) f)) (tree_twice p f inv) ∙ ap (λ qs. and_tree p qs) (all_twice ps f inv)

  cases_twice : (cs : Cases) (f : ℕ → ℕ) → IsExchange f → cases_renamed (cases_renamed cs f) f ≡ cs
  cases_twice no_case f inv = refl
  cases_twice (and_case e p cs) f inv =
      ap (λ z. and_case z (renamed (renamed p f) f) (cases_renamed (cases_renamed cs f) f)) (exp_twice f inv e)
      ∙ (ap (λ q. and_case e q (cases_renamed (cases_renamed cs f) f)) (tree_twice p f inv) ∙ ap (λ r. and_case e p r) (cases_twice cs f inv))

  branches_twice : (bs : Branches) (f : ℕ → ℕ) → IsExchange f → branches_renamed (branches_renamed bs f) f ≡ bs
  branches_twice no_branch f inv = refl
  branches_twice (and_branch e w p bs) f inv =
      ap (λ z. and_branch z (renamed_waiting f (renamed_waiting f w)) (renamed (renamed p f) f) (branches_renamed (branches_renamed bs f) f)) (exp_twice f inv e)
      ∙ (ap (λ z. and_branch e z (renamed (renamed p f) f) (branches_renamed (branches_renamed bs f) f)) (waiting_twice f inv w)
      ∙ (ap (λ q. and_branch e w q (branches_renamed (branches_renamed bs f) f)) (tree_twice p f inv) ∙ ap (λ r. and_branch e w p r) (branches_twice bs f inv)))

-- ---- renaming that changes no name

abbrev pub ChangesNone : (ℕ → ℕ) → Type 0
ChangesNone f = (n : ℕ) → f n ≡ n

exp_itself : (f : ℕ → ℕ) → ChangesNone f → (e : Exp) → renamed_exp f e ≡ e
exp_itself f inv (variable y) = ap variable (inv y)
exp_itself f inv (numeral bits value) = refl
exp_itself f inv (truth b) = refl
exp_itself f inv (negation e) = ap negation (exp_itself f inv e)
exp_itself f inv (complement e) = ap complement (exp_itself f inv e)
exp_itself f inv (operation op left right) = ap (λ z. operation op z (renamed_exp f right)) (exp_itself f inv left) ∙ ap (λ z. operation op left z) (exp_itself f inv right)

names_itself : (f : ℕ → ℕ) → ChangesNone f → (xs : List ℕ) → renamed_names f xs ≡ xs
names_itself f inv [] = refl
names_itself f inv (y ∷ xs) = ap (λ z. z ∷ renamed_names f xs) (inv y) ∙ ap (λ l. y ∷ l) (names_itself f inv xs)

exps_itself : (f : ℕ → ℕ) → ChangesNone f → (es : List Exp) → renamed_exps f es ≡ es
exps_itself f inv [] = refl
exps_itself f inv (e ∷ es) = ap (λ z. z ∷ renamed_exps f es) (exp_itself f inv e) ∙ ap (λ l. e ∷ l) (exps_itself f inv es)

waiting_itself : (f : ℕ → ℕ) → ChangesNone f → (w : Waiting) → renamed_waiting f w ≡ w
waiting_itself f inv ready = refl
waiting_itself f inv (input c y) = ap (λ n. input n (f y)) (inv c) ∙ ap (λ n. input c n) (inv y)
waiting_itself f inv (output c e) = ap (λ n. output n (renamed_exp f e)) (inv c) ∙ ap (λ z. output c z) (exp_itself f inv e)

mutual
  pub tree_itself : (p : Tree) (f : ℕ → ℕ) → ChangesNone f → renamed p f ≡ p
  tree_itself skip f inv = refl
  tree_itself stop f inv = refl
  tree_itself (assign xs es) f inv = exps_both assign (renamed_names f xs) xs (renamed_exps f es) es (names_itself f inv xs) (exps_itself f inv es)
  tree_itself (receive c y) f inv = exps_both receive (f c) c (f y) y (inv c) (inv y)
  tree_itself (send c e) f inv = exps_both send (f c) c (renamed_exp f e) e (inv c) (exp_itself f inv e)
  tree_itself (seq ps) f inv = ap seq (all_itself ps f inv)
  tree_itself (par ps) f inv = ap par (all_itself ps f inv)
  tree_itself (select cs) f inv = ap select (cases_itself cs f inv)
  tree_itself (alt bs) f inv = ap alt (branches_itself bs f inv)
  tree_itself (declare y w p) f inv = exps_both (λ n q. declare n w q) (f y) y (renamed p f) p (inv y) (tree_itself p f inv)
  tree_itself (connect y w p) f inv = exps_both (λ n q. connect n w q) (f y) y (renamed p f) p (inv y) (tree_itself p f inv)

  all_itself : (ps : Trees) (f : ℕ → ℕ) → ChangesNone f → all_renamed ps f ≡ ps
  all_itself no_tree f inv = refl
  all_itself (and_tree p ps) f inv = ap (λ q. and_tree q (all_renamed ps f)) (tree_itself p f inv) ∙ ap (λ qs. and_tree p qs) (all_itself ps f inv)

  cases_itself : (cs : Cases) (f : ℕ → ℕ) → ChangesNone f → cases_renamed cs f ≡ cs
  cases_itself no_case f inv = refl
  cases_itself (and_case e p cs) f inv =
      ap (λ z. and_case z (renamed p f) (cases_renamed cs f)) (exp_itself f inv e)
      ∙ (ap (λ q. and_case e q (cases_renamed cs f)) (tree_itself p f inv) ∙ ap (λ r. and_case e p r) (cases_itself cs f inv))

  branches_itself : (bs : Branches) (f : ℕ → ℕ) → ChangesNone f → branches_renamed bs f ≡ bs
  branches_itself no_branch f inv = refl
  branches_itself (and_branch e w p bs) f inv =
      ap (λ z. and_branch z (renamed_waiting f w) (renamed p f) (branches_renamed bs f)) (exp_itself f inv e)
      ∙ (ap (λ z. and_branch e z (renamed p f) (branches_renamed bs f)) (waiting_itself f inv w)
      ∙ (ap (λ q. and_branch e w q (branches_renamed bs f)) (tree_itself p f inv) ∙ ap (λ r. and_branch e w p r) (branches_itself bs f inv)))

-- ---- types

and_same : (a b c d : Bool) → a ≡ c → b ≡ d → (a && b) ≡ (c && d)
and_same a b c d ha hb = ap (λ z. z && b) ha ∙ ap (λ z. c && z) hb

or_same : (a b c d : Bool) → a ≡ c → b ≡ d → (a || b) ≡ (c || d)
or_same a b c d ha hb = ap (λ z. z || b) ha ∙ ap (λ z. c || z) hb

is_in_under : (f : ℕ → ℕ) → IsExchange f → (xs : List ℕ) (x : ℕ) → is_in (renamed_names f xs) (f x) ≡ is_in xs x
is_in_under f inv [] x = refl
is_in_under f inv (y ∷ xs) x = or_same (f x == f y) (is_in (renamed_names f xs) (f x)) (x == y) (is_in xs x) (one_for_one f inv x y) (is_in_under f inv xs x)

condition_under : (f : ℕ → ℕ) → IsExchange f → (Γ : Environment) (e : Exp) → is_condition (under f Γ) (renamed_exp f e) ≡ is_condition Γ e
condition_under f inv Γ e = ap (λ o. agree o (Some TruthValue)) (type_under f inv Γ e)

input_under : (f : ℕ → ℕ) → IsExchange f → (Γ : Environment) (c x : ℕ) → input_kept (under f Γ) (f c) (f x) ≡ input_kept Γ c x
input_under f inv Γ c x = ap (λ n. allows (Γ n) Input && agree (channel_kind (Γ n)) (variable_kind (Γ (f (f x))))) (inv c) ∙ ap (λ n. allows (Γ c) Input && agree (channel_kind (Γ c)) (variable_kind (Γ n))) (inv x)

output_under : (f : ℕ → ℕ) → IsExchange f → (Γ : Environment) (c : ℕ) (e : Exp) → output_kept (under f Γ) (f c) (renamed_exp f e) ≡ output_kept Γ c e
output_under f inv Γ c e = ap (λ n. allows (Γ n) Output && agree (channel_kind (Γ n)) (type_of (under f Γ) (renamed_exp f e))) (inv c) ∙ ap (λ o. allows (Γ c) Output && agree (channel_kind (Γ c)) o) (type_under f inv Γ e)

waiting_under : (f : ℕ → ℕ) → IsExchange f → (Γ : Environment) (w : Waiting) → waiting_kept (under f Γ) (renamed_waiting f w) ≡ waiting_kept Γ w
waiting_under f inv Γ ready = refl
waiting_under f inv Γ (input c x) = input_under f inv Γ c x
waiting_under f inv Γ (output c e) = output_under f inv Γ c e

pairs_under : (f : ℕ → ℕ) → IsExchange f → (Γ : Environment) (xs : List ℕ) (es : List Exp)
    → pairs_kept (under f Γ) (renamed_names f xs) (renamed_exps f es) ≡ pairs_kept Γ xs es
pairs_under f inv Γ [] [] = refl
pairs_under f inv Γ [] (e ∷ es) = refl
pairs_under f inv Γ (x ∷ xs) [] = refl
pairs_under f inv Γ (x ∷ xs) (e ∷ es) =
    let a = agree (variable_kind (Γ (f (f x)))) (type_of (under f Γ) (renamed_exp f e)) in
    let b = not (is_in (renamed_names f xs) (f x)) in
    and_same (a && b) (pairs_kept (under f Γ) (renamed_names f xs) (renamed_exps f es)) (agree (variable_width Γ x) (type_of Γ e) && not (is_in xs x)) (pairs_kept Γ xs es)
    (and_same a b (agree (variable_width Γ x) (type_of Γ e)) (not (is_in xs x))
    (ap (λ n. agree (variable_kind (Γ n)) (type_of (under f Γ) (renamed_exp f e))) (inv x) ∙ ap (λ o. agree (variable_width Γ x) o) (type_under f inv Γ e))
    (ap not (is_in_under f inv xs x)))
    (pairs_under f inv Γ xs es)

pair_under : (f : ℕ → ℕ) (xs : List ℕ) → is_pair (renamed_names f xs) ≡ is_pair xs
pair_under f [] = refl
pair_under f (x ∷ xs) = refl

declare_under : (f : ℕ → ℕ) → IsExchange f → (Γ : Environment) (x : ℕ) (w : Width) (kind : Kind) (p : Tree)
    → types_kept (renamed p f) (under f (with_name Γ x kind)) ≡ types_kept p (with_name Γ x kind)
    → (can_declare (under f Γ) (f x) w && types_kept (renamed p f) (with_name (under f Γ) (f x) kind)) ≡ (can_declare Γ x w && types_kept p (with_name Γ x kind))
declare_under f inv Γ x w kind p ih =
    and_same (can_declare (under f Γ) (f x) w) (types_kept (renamed p f) (with_name (under f Γ) (f x) kind)) (can_declare Γ x w) (types_kept p (with_name Γ x kind))
    (ap (λ n. is_none (Γ n) && is_width w) (inv x)) (ap (types_kept (renamed p f)) (sym (name_under f inv Γ x kind)) ∙ ih)

mutual
  pub types_under : (p : Tree) (f : ℕ → ℕ) → IsExchange f → (Γ : Environment) → types_kept (renamed p f) (under f Γ) ≡ types_kept p Γ
  types_under skip f inv Γ = refl
  types_under stop f inv Γ = refl
  types_under (assign xs es) f inv Γ = and_same (is_pair (renamed_names f xs)) (pairs_kept (under f Γ) (renamed_names f xs) (renamed_exps f es)) (is_pair xs) (pairs_kept Γ xs es) (pair_under f xs) (pairs_under f inv Γ xs es)
  types_under (receive c x) f inv Γ = input_under f inv Γ c x
  types_under (send c e) f inv Γ = output_under f inv Γ c e
  types_under (seq ps) f inv Γ = all_types_under ps f inv Γ
  types_under (par ps) f inv Γ = all_types_under ps f inv Γ
  types_under (select cs) f inv Γ = case_types_under cs f inv Γ
  types_under (alt bs) f inv Γ = branch_types_under bs f inv Γ
  types_under (declare x w p) f inv Γ = declare_under f inv Γ x w (Var w) p (types_under p f inv (with_name Γ x (Var w)))
  types_under (connect c w p) f inv Γ = declare_under f inv Γ c w (Chan w None) p (types_under p f inv (with_name Γ c (Chan w None)))

  all_types_under : (ps : Trees) (f : ℕ → ℕ) → IsExchange f → (Γ : Environment) → all_types_kept (all_renamed ps f) (under f Γ) ≡ all_types_kept ps Γ
  all_types_under no_tree f inv Γ = refl
  all_types_under (and_tree p ps) f inv Γ = and_same (types_kept (renamed p f) (under f Γ)) (all_types_kept (all_renamed ps f) (under f Γ)) (types_kept p Γ) (all_types_kept ps Γ) (types_under p f inv Γ) (all_types_under ps f inv Γ)

  case_types_under : (cs : Cases) (f : ℕ → ℕ) → IsExchange f → (Γ : Environment) → cases_kept (cases_renamed cs f) (under f Γ) ≡ cases_kept cs Γ
  case_types_under no_case f inv Γ = refl
  case_types_under (and_case e p cs) f inv Γ =
      and_same (is_condition (under f Γ) (renamed_exp f e) && types_kept (renamed p f) (under f Γ)) (cases_kept (cases_renamed cs f) (under f Γ)) (is_condition Γ e && types_kept p Γ) (cases_kept cs Γ)
      (and_same (is_condition (under f Γ) (renamed_exp f e)) (types_kept (renamed p f) (under f Γ)) (is_condition Γ e) (types_kept p Γ) (condition_under f inv Γ e) (types_under p f inv Γ))
      (case_types_under cs f inv Γ)

  branch_types_under : (bs : Branches) (f : ℕ → ℕ) → IsExchange f → (Γ : Environment)
      → branches_kept (branches_renamed bs f) (under f Γ) ≡ branches_kept bs Γ
  branch_types_under no_branch f inv Γ = refl
  branch_types_under (and_branch e w p bs) f inv Γ =
      and_same ((is_condition (under f Γ) (renamed_exp f e) && waiting_kept (under f Γ) (renamed_waiting f w)) && types_kept (renamed p f) (under f Γ)) (branches_kept (branches_renamed bs f) (under f Γ))
      ((is_condition Γ e && waiting_kept Γ w) && types_kept p Γ) (branches_kept bs Γ)
      (and_same (is_condition (under f Γ) (renamed_exp f e) && waiting_kept (under f Γ) (renamed_waiting f w)) (types_kept (renamed p f) (under f Γ)) (is_condition Γ e && waiting_kept Γ w) (types_kept p Γ)
      (and_same (is_condition (under f Γ) (renamed_exp f e)) (waiting_kept (under f Γ) (renamed_waiting f w)) (is_condition Γ e) (waiting_kept Γ w) (condition_under f inv Γ e) (waiting_under f inv Γ w))
      (types_under p f inv Γ))
      (branch_types_under bs f inv Γ)
