-- A number above all names of a part.
use Rattle.std.proofs.Common.{◌≡◌, ℕ, suc, ◌+◌, ◌<◌, ◌==◌, Bool, true, ◌||◌, List, [], ◌∷◌, arith, inl, inr}
use Rattle.std.proofs.lemmas.Bool.{eqb-true, or_cases}
use Rattle.occ_renamed.proofs.from_meaning.Facts.{false_not_true}
use Rattle.occ_renamed.specs.occ_meaning.Rename.{stands, stands_in_branches, stands_in_cases, stands_in_some, stands_in_waiting}
use Rattle.occ_nform.specs.occ_syntax.Names.{is_in, names, some_names}
use Rattle.occ_nform.specs.occ_syntax.Tree.{Branches, Cases, Exp, Tree, Trees, Waiting, alt, and_branch, and_case, and_tree, assign, complement, connect, declare, input, negation, no_branch, no_case, no_tree, numeral, operation, output, par, ready, receive, select, send, seq, skip, stop, truth, variable}

abbrev exp_top : Exp → ℕ
exp_top (variable x) = suc x
exp_top (numeral bits value) = 0
exp_top (truth b) = 0
exp_top (negation e) = exp_top e
exp_top (complement e) = exp_top e
exp_top (operation op left right) = exp_top left + exp_top right

abbrev names_top : List ℕ → ℕ
names_top [] = 0
names_top (x ∷ xs) = suc x + names_top xs

abbrev exps_top : List Exp → ℕ
exps_top [] = 0
exps_top (e ∷ es) = exp_top e + exps_top es

abbrev waiting_top : Waiting → ℕ
waiting_top ready = 0
waiting_top (input c x) = suc c + suc x
waiting_top (output c e) = suc c + exp_top e

abbrev mutual
  pub top : Tree → ℕ
  top skip = 0
  top stop = 0
  top (assign xs es) = names_top xs + exps_top es
  top (receive c x) = suc c + suc x
  top (send c e) = suc c + exp_top e
  top (seq ps) = trees_top ps
  top (par ps) = trees_top ps
  top (select cs) = cases_top cs
  top (alt bs) = branches_top bs
  top (declare x w p) = suc x + top p
  top (connect c w p) = suc c + top p

  trees_top : Trees → ℕ
  trees_top no_tree = 0
  trees_top (and_tree p ps) = top p + trees_top ps

  cases_top : Cases → ℕ
  cases_top no_case = 0
  cases_top (and_case e p cs) = exp_top e + top p + cases_top cs

  branches_top : Branches → ℕ
  branches_top no_branch = 0
  branches_top (and_branch e w p bs) = exp_top e + waiting_top w + top p + branches_top bs

-- one of two, each below its number
either : (x m n : ℕ) (a b : Bool) → (a || b) ≡ true → (a ≡ true → x < m) → (b ≡ true → x < n) → x < m + n
either x m n a b h f g = elim (or_cases a b h) [
  | inl k ↦ let l = f k in omega (arith, l)
  | inr k ↦ let l = g k in omega (arith, l)
]

is_name : (x y : ℕ) → (x == y) ≡ true → x < suc y
is_name x y h = omega (arith, eqb-true x y h)

exp_below : (e : Exp) (x : ℕ) → names e x ≡ true → x < exp_top e
exp_below (variable y) x h = is_name x y h
exp_below (numeral bits value) x h = false_not_true h
exp_below (truth b) x h = false_not_true h
exp_below (negation e) x h = exp_below e x h
exp_below (complement e) x h = exp_below e x h
exp_below (operation op left right) x h = either x (exp_top left) (exp_top right) (names left x) (names right x) h (exp_below left x) (exp_below right x)

names_below : (xs : List ℕ) (x : ℕ) → is_in xs x ≡ true → x < names_top xs
names_below [] x h = false_not_true h
names_below (y ∷ ys) x h = either x (suc y) (names_top ys) (x == y) (is_in ys x) h (is_name x y) (names_below ys x)

exps_below : (es : List Exp) (x : ℕ) → some_names es x ≡ true → x < exps_top es
exps_below [] x h = false_not_true h
exps_below (e ∷ es) x h = either x (exp_top e) (exps_top es) (names e x) (some_names es x) h (exp_below e x) (exps_below es x)

waiting_below : (w : Waiting) (x : ℕ) → stands_in_waiting w x ≡ true → x < waiting_top w
waiting_below ready x h = false_not_true h
waiting_below (input c y) x h = either x (suc c) (suc y) (x == c) (x == y) h (is_name x c) (is_name x y)
waiting_below (output c e) x h = either x (suc c) (exp_top e) (x == c) (names e x) h (is_name x c) (exp_below e x)

mutual
  pub below_top : (p : Tree) (x : ℕ) → stands p x ≡ true → x < top p
  below_top skip x h = false_not_true h
  below_top stop x h = false_not_true h
  below_top (assign xs es) x h = either x (names_top xs) (exps_top es) (is_in xs x) (some_names es x) h (names_below xs x) (exps_below es x)
  below_top (receive c y) x h = either x (suc c) (suc y) (x == c) (x == y) h (is_name x c) (is_name x y)
  below_top (send c e) x h = either x (suc c) (exp_top e) (x == c) (names e x) h (is_name x c) (exp_below e x)
  below_top (seq ps) x h = trees_below ps x h
  below_top (par ps) x h = trees_below ps x h
  below_top (select cs) x h = cases_below cs x h
  below_top (alt bs) x h = branches_below bs x h
  below_top (declare y w p) x h = either x (suc y) (top p) (x == y) (stands p x) h (is_name x y) (below_top p x)
  below_top (connect c w p) x h = either x (suc c) (top p) (x == c) (stands p x) h (is_name x c) (below_top p x)

  trees_below : (ps : Trees) (x : ℕ) → stands_in_some ps x ≡ true → x < trees_top ps
  trees_below no_tree x h = false_not_true h
  trees_below (and_tree p ps) x h = either x (top p) (trees_top ps) (stands p x) (stands_in_some ps x) h (below_top p x) (trees_below ps x)

  cases_below : (cs : Cases) (x : ℕ) → stands_in_cases cs x ≡ true → x < cases_top cs
  cases_below no_case x h = false_not_true h
  cases_below (and_case e p cs) x h =
      either x (exp_top e + top p) (cases_top cs) (names e x || stands p x) (stands_in_cases cs x) h
      (λ k. either x (exp_top e) (top p) (names e x) (stands p x) k (exp_below e x) (below_top p x)) (cases_below cs x)

  branches_below : (bs : Branches) (x : ℕ) → stands_in_branches bs x ≡ true → x < branches_top bs
  branches_below no_branch x h = false_not_true h
  branches_below (and_branch e w p bs) x h =
      either x (exp_top e + waiting_top w + top p) (branches_top bs) ((names e x || stands_in_waiting w x) || stands p x) (stands_in_branches bs x) h
      (λ k. either x (exp_top e + waiting_top w) (top p) (names e x || stands_in_waiting w x) (stands p x) k
      (λ j. either x (exp_top e) (waiting_top w) (names e x) (stands_in_waiting w x) j (exp_below e x) (waiting_below w x)) (below_top p x)) (branches_below bs x)
