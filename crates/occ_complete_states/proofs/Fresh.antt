-- Names that stand nowhere: there is one above all numbers of names in a part and a scope.
use Rattle.std.proofs.Common.{arith, ◌≡◌, ◌∙◌, ℕ, suc, ◌+◌, ◌≤◌, max, false, ◌||◌, cond, ◌==◌, List, [], ◌∷◌, Some, None, refl, ap}
use Rattle.std.proofs.lemmas.Bool.{ne_eqb, or_from}
use Rattle.occ_derive_laws.specs.occ_base.declared.names.Name.{Name}
use Rattle.occ_derive_laws.specs.occ_meaning.Rename.{stands, stands_in_branches, stands_in_cases, stands_in_some, stands_in_waiting}
use Rattle.occ_derive_laws.specs.occ_syntax.declared.scope.Kind.{Kind}
use Rattle.occ_derive_laws.specs.occ_syntax.Names.{is_in, names, some_names}
use Rattle.occ_derive_laws.specs.occ_syntax.Scopes.{environment}
use Rattle.occ_derive_laws.specs.occ_syntax.Tree.{Exp, variable, numeral, truth, negation, complement, operation, Waiting, ready, input, output, Tree, skip, stop, assign, receive, send, seq, par, select, alt, declare, connect, Trees, no_tree, and_tree, Cases, no_case, and_case, Branches, no_branch, and_branch}

other : (x y : ℕ) → suc y ≤ x → (x == y) ≡ false
other x y h = ne_eqb x y (λ e. omega (arith, h, e))

abbrev top_of_exp : Exp → ℕ
top_of_exp (variable x) = suc x
top_of_exp (numeral bits value) = 0
top_of_exp (truth b) = 0
top_of_exp (negation e) = top_of_exp e
top_of_exp (complement e) = top_of_exp e
top_of_exp (operation op left right) = max (top_of_exp left) (top_of_exp right)

abbrev top_of_exps : List Exp → ℕ
top_of_exps [] = 0
top_of_exps (e ∷ es) = max (top_of_exp e) (top_of_exps es)

abbrev top_of_names : List ℕ → ℕ
top_of_names [] = 0
top_of_names (x ∷ xs) = max (suc x) (top_of_names xs)

abbrev top_of_waiting : Waiting → ℕ
top_of_waiting ready = 0
top_of_waiting (input c x) = max (suc c) (suc x)
top_of_waiting (output c e) = max (suc c) (top_of_exp e)

-- a number above those of all names that stand in a part
abbrev mutual
  pub top_of : Tree → ℕ
  top_of skip = 0
  top_of stop = 0
  top_of (assign xs es) = max (top_of_names xs) (top_of_exps es)
  top_of (receive c x) = max (suc c) (suc x)
  top_of (send c e) = max (suc c) (top_of_exp e)
  top_of (seq ps) = top_of_all ps
  top_of (par ps) = top_of_all ps
  top_of (select cs) = top_of_cases cs
  top_of (alt gs) = top_of_branches gs
  top_of (declare x w p) = max (suc x) (top_of p)
  top_of (connect c w p) = max (suc c) (top_of p)

  pub top_of_all : Trees → ℕ
  top_of_all no_tree = 0
  top_of_all (and_tree p ps) = max (top_of p) (top_of_all ps)

  pub top_of_cases : Cases → ℕ
  top_of_cases no_case = 0
  top_of_cases (and_case b p cs) = max (top_of_exp b) (max (top_of p) (top_of_cases cs))

  pub top_of_branches : Branches → ℕ
  top_of_branches no_branch = 0
  top_of_branches (and_branch b w p gs) = max (top_of_exp b) (max (top_of_waiting w) (max (top_of p) (top_of_branches gs)))

exp_below : (e : Exp) (z : ℕ) → top_of_exp e ≤ z → names e z ≡ false
exp_below (variable x) z h = other z x h
exp_below (numeral bits value) z h = refl
exp_below (truth b) z h = refl
exp_below (negation e) z h = exp_below e z h
exp_below (complement e) z h = exp_below e z h
exp_below (operation op left right) z h = or_from (names left z) (names right z) (exp_below left z (omega (arith, h))) (exp_below right z (omega (arith, h)))

exps_below : (es : List Exp) (z : ℕ) → top_of_exps es ≤ z → some_names es z ≡ false
exps_below [] z h = refl
exps_below (e ∷ es) z h = or_from (names e z) (some_names es z) (exp_below e z (omega (arith, h))) (exps_below es z (omega (arith, h)))

names_below : (xs : List ℕ) (z : ℕ) → top_of_names xs ≤ z → is_in xs z ≡ false
names_below [] z h = refl
names_below (x ∷ xs) z h = or_from (z == x) (is_in xs z) (other z x (omega (arith, h))) (names_below xs z (omega (arith, h)))

waiting_below : (w : Waiting) (z : ℕ) → top_of_waiting w ≤ z → stands_in_waiting w z ≡ false
waiting_below ready z h = refl
waiting_below (input c x) z h = or_from (z == c) (z == x) (other z c (omega (arith, h))) (other z x (omega (arith, h)))
waiting_below (output c e) z h = or_from (z == c) (names e z) (other z c (omega (arith, h))) (exp_below e z (omega (arith, h)))

mutual
  pub stands_below : (p : Tree) (z : ℕ) → top_of p ≤ z → stands p z ≡ false
  stands_below skip z h = refl
  stands_below stop z h = refl
  stands_below (assign xs es) z h = or_from (is_in xs z) (some_names es z) (names_below xs z (omega (arith, h))) (exps_below es z (omega (arith, h)))
  stands_below (receive c x) z h = or_from (z == c) (z == x) (other z c (omega (arith, h))) (other z x (omega (arith, h)))
  stands_below (send c e) z h = or_from (z == c) (names e z) (other z c (omega (arith, h))) (exp_below e z (omega (arith, h)))
  stands_below (seq ps) z h = all_below ps z h
  stands_below (par ps) z h = all_below ps z h
  stands_below (select cs) z h = cases_below cs z h
  stands_below (alt gs) z h = branches_below gs z h
  stands_below (declare x w p) z h = or_from (z == x) (stands p z) (other z x (omega (arith, h))) (stands_below p z (omega (arith, h)))
  stands_below (connect c w p) z h = or_from (z == c) (stands p z) (other z c (omega (arith, h))) (stands_below p z (omega (arith, h)))

  all_below : (ps : Trees) (z : ℕ) → top_of_all ps ≤ z → stands_in_some ps z ≡ false
  all_below no_tree z h = refl
  all_below (and_tree p ps) z h = or_from (stands p z) (stands_in_some ps z) (stands_below p z (omega (arith, h))) (all_below ps z (omega (arith, h)))

  cases_below : (cs : Cases) (z : ℕ) → top_of_cases cs ≤ z → stands_in_cases cs z ≡ false
  cases_below no_case z h = refl
  cases_below (and_case b p cs) z h =
      or_from (names b z || stands p z) (stands_in_cases cs z)
      (or_from (names b z) (stands p z) (exp_below b z (omega (arith, h))) (stands_below p z (omega (arith, h)))) (cases_below cs z (omega (arith, h)))

  branches_below : (gs : Branches) (z : ℕ) → top_of_branches gs ≤ z → stands_in_branches gs z ≡ false
  branches_below no_branch z h = refl
  branches_below (and_branch b w p gs) z h =
      or_from ((names b z || stands_in_waiting w z) || stands p z) (stands_in_branches gs z)
      (or_from (names b z || stands_in_waiting w z) (stands p z)
      (or_from (names b z) (stands_in_waiting w z) (exp_below b z (omega (arith, h))) (waiting_below w z (omega (arith, h)))) (stands_below p z (omega (arith, h))))
      (branches_below gs z (omega (arith, h)))

-- ---- in scopes

abbrev pub top_of_scope : List (Name × Kind) → ℕ
top_of_scope [] = 0
top_of_scope (e ∷ es) = max (suc e.0.0) (top_of_scope es)

pub scope_below : (T : List (Name × Kind)) (z : ℕ) → top_of_scope T ≤ z → environment T z ≡ None
scope_below [] z h = refl
scope_below (e ∷ es) z h = ap (λ b. cond b (Some e.1) (environment es z)) (other z e.0.0 (omega (arith, h))) ∙ scope_below es z (omega (arith, h))

-- a name that stands nowhere in a part and is new in a scope
pub record IsFresh (T : List (Name × Kind)) (p : Tree) : Type 0 where
  pub name : ℕ
  pub nowhere : stands p name ≡ false
  pub new : environment T name ≡ None

pub fresh_name : (T : List (Name × Kind)) (p : Tree) → IsFresh T p
fresh_name T p = record {
  name = top_of p + top_of_scope T;
  nowhere = stands_below p (top_of p + top_of_scope T) (omega arith);
  new = scope_below T (top_of p + top_of_scope T) (omega arith);
}
