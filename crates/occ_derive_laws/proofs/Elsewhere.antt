-- Whether a part keeps types doesn't depend on a name that stands nowhere in it; so names may come into scope and leave it.
use Rattle.std.proofs.Common.{List, None, [], ap, false, is_none, not, refl, sym, true, ℕ, ◌&&◌, ◌==◌, ◌||◌, ◌∙◌, ◌∷◌, ◌≡◌}
use Rattle.std.proofs.lemmas.Bool.{not_from_false, or_from, or_parts}
use Rattle.occ_renamed.specs.occ_base.declared.event.Dir.TheVariants.{Input, Output}
use Rattle.occ_renamed.specs.occ_base.declared.width.Width.{Width}
use Rattle.occ_derive_moves.specs.Apart.{has_declared, some_branch_declares, some_case_declares, some_declare}
use Rattle.occ_renamed.proofs.from_meaning.Declared.{declared_off}
use Rattle.occ_renamed.proofs.from_meaning.Facts.{and_second, name_at, off_turned, or_four, or_three}
use Rattle.occ_renamed.proofs.from_meaning.InScope.{free_in_scope, stands_nowhere}
use Rattle.occ_renamed.proofs.from_meaning.OffNames.{agree_below}
use Rattle.occ_renamed.specs.occ_meaning.Foundation.{AgreeOff}
use Rattle.occ_renamed.specs.occ_meaning.Rename.{stands, stands_in_branches, stands_in_cases, stands_in_some, stands_in_waiting}
use Rattle.occ_renamed.specs.occ_syntax.declared.scope.Kind.{Kind}
use Rattle.occ_renamed.specs.occ_syntax.declared.scope.Kind.TheVariants.{Chan, Var}
use Rattle.occ_renamed.specs.occ_syntax.Names.{free, free_in_branches, free_in_cases, free_in_some, free_in_waiting, is_in, names, some_names}
use Rattle.occ_renamed.specs.occ_syntax.Scopes.{Environment, allows, channel_kind, variable_kind, with_name}
use Rattle.occ_renamed.specs.occ_syntax.Tree.{Branches, Cases, Exp, Tree, Trees, Waiting, alt, and_branch, and_case, and_tree, assign, complement, connect, declare, input, negation, no_branch, no_case, no_tree, numeral, operation, output, par, ready, receive, select, send, seq, skip, stop, truth, variable}
use Rattle.occ_renamed.specs.occ_syntax.Types.{agree, all_types_kept, branches_kept, can_declare, cases_kept, if_truth_value, if_word, is_condition, is_pair, is_width, pairs_kept, type_of, type_of_two, types_kept, waiting_kept}

-- ---- expressions and guards

pub type_elsewhere : (x : ℕ) (Γ Δ : Environment) → AgreeOff x Γ Δ → (e : Exp) → names e x ≡ false → type_of Γ e ≡ type_of Δ e
type_elsewhere x Γ Δ h (variable y) k = ap variable_kind (h y (off_turned x y k))
type_elsewhere x Γ Δ h (numeral bits value) k = refl
type_elsewhere x Γ Δ h (truth b) k = refl
type_elsewhere x Γ Δ h (negation e) k = ap if_truth_value (type_elsewhere x Γ Δ h e k)
type_elsewhere x Γ Δ h (complement e) k = ap if_word (type_elsewhere x Γ Δ h e k)
type_elsewhere x Γ Δ h (operation op left right) k =
    let j = or_parts (names left x) (names right x) k in λ i. type_of_two op (type_elsewhere x Γ Δ h left j.0 i) (type_elsewhere x Γ Δ h right j.1 i)

pub condition_elsewhere : (x : ℕ) (Γ Δ : Environment) → AgreeOff x Γ Δ → (e : Exp) → names e x ≡ false → is_condition Γ e ≡ is_condition Δ e
condition_elsewhere x Γ Δ h e k = ap (λ o. agree o (type_of Γ (truth true))) (type_elsewhere x Γ Δ h e k)

pub waiting_elsewhere : (x : ℕ) (Γ Δ : Environment) → AgreeOff x Γ Δ → (w : Waiting) → free_in_waiting w x ≡ false
    → waiting_kept Γ w ≡ waiting_kept Δ w
waiting_elsewhere x Γ Δ h ready k = refl
waiting_elsewhere x Γ Δ h (input c y) k =
    let j = or_parts (x == c) (x == y) k in
    let e = h c (off_turned x c j.0) in
    let f = h y (off_turned x y j.1) in λ i. allows (e i) Input && agree (channel_kind (e i)) (variable_kind (f i))
waiting_elsewhere x Γ Δ h (output c z) k =
    let j = or_parts (x == c) (names z x) k in
    let e = h c (off_turned x c j.0) in λ i. allows (e i) Output && agree (channel_kind (e i)) (type_elsewhere x Γ Δ h z j.1 i)

pub pairs_elsewhere : (x : ℕ) (Γ Δ : Environment) → AgreeOff x Γ Δ → (xs : List ℕ) (es : List Exp) → is_in xs x ≡ false
    → some_names es x ≡ false → pairs_kept Γ xs es ≡ pairs_kept Δ xs es
pairs_elsewhere x Γ Δ h [] [] k l = refl
pairs_elsewhere x Γ Δ h (y ∷ xs) (e ∷ es) k l =
    let j = or_parts (x == y) (is_in xs x) k in
    let m = or_parts (names e x) (some_names es x) l in
    let f = h y (off_turned x y j.0) in
    λ i. agree (variable_kind (f i)) (type_elsewhere x Γ Δ h e m.0 i) && not (is_in xs y) && pairs_elsewhere x Γ Δ h xs es j.1 m.1 i
pairs_elsewhere x Γ Δ h [] (e ∷ es) k l = refl
pairs_elsewhere x Γ Δ h (y ∷ xs) [] k l = refl

declare_elsewhere : (x : ℕ) (Γ Δ : Environment) → AgreeOff x Γ Δ → (y : ℕ) (w : Width) → (x == y) ≡ false
    → can_declare Γ y w ≡ can_declare Δ y w
declare_elsewhere x Γ Δ h y w k = ap (λ o. is_none o && is_width w) (h y (off_turned x y k))

waiting_stands : (w : Waiting) (x : ℕ) → stands_in_waiting w x ≡ false → free_in_waiting w x ≡ false
waiting_stands ready x h = refl
waiting_stands (input c y) x h = h
waiting_stands (output c e) x h = h

-- ---- parts

mutual
  pub types_elsewhere : (p : Tree) (x : ℕ) (Γ Δ : Environment) → AgreeOff x Γ Δ → stands p x ≡ false → types_kept p Γ ≡ types_kept p Δ
  types_elsewhere skip x Γ Δ h k = refl
  types_elsewhere stop x Γ Δ h k = refl
  types_elsewhere (assign xs es) x Γ Δ h k =
      let j = or_parts (is_in xs x) (some_names es x) k in ap (λ b. is_pair xs && b) (pairs_elsewhere x Γ Δ h xs es j.0 j.1)
  types_elsewhere (receive c y) x Γ Δ h k = waiting_elsewhere x Γ Δ h (input c y) k
  types_elsewhere (send c e) x Γ Δ h k = waiting_elsewhere x Γ Δ h (output c e) k
  types_elsewhere (seq ps) x Γ Δ h k = all_elsewhere ps x Γ Δ h k
  types_elsewhere (par ps) x Γ Δ h k = all_elsewhere ps x Γ Δ h k
  types_elsewhere (select cs) x Γ Δ h k = cases_elsewhere cs x Γ Δ h k
  types_elsewhere (alt gs) x Γ Δ h k = branches_elsewhere gs x Γ Δ h k
  types_elsewhere (declare y w p) x Γ Δ h k =
      let m = or_parts (x == y) (stands p x) k in
      let e = types_elsewhere p x (with_name Γ y (Var w)) (with_name Δ y (Var w)) (agree_below x y Γ Δ (Var w) h) m.1 in
      λ i. declare_elsewhere x Γ Δ h y w m.0 i && e i
  types_elsewhere (connect y w p) x Γ Δ h k =
      let m = or_parts (x == y) (stands p x) k in
      let e = types_elsewhere p x (with_name Γ y (Chan w None)) (with_name Δ y (Chan w None)) (agree_below x y Γ Δ (Chan w None) h) m.1 in
      λ i. declare_elsewhere x Γ Δ h y w m.0 i && e i

  pub all_elsewhere : (ps : Trees) (x : ℕ) (Γ Δ : Environment) → AgreeOff x Γ Δ → stands_in_some ps x ≡ false
      → all_types_kept ps Γ ≡ all_types_kept ps Δ
  all_elsewhere no_tree x Γ Δ h k = refl
  all_elsewhere (and_tree p ps) x Γ Δ h k =
      let j = or_parts (stands p x) (stands_in_some ps x) k in λ i. types_elsewhere p x Γ Δ h j.0 i && all_elsewhere ps x Γ Δ h j.1 i

  cases_elsewhere : (cs : Cases) (x : ℕ) (Γ Δ : Environment) → AgreeOff x Γ Δ → stands_in_cases cs x ≡ false → cases_kept cs Γ ≡ cases_kept cs Δ
  cases_elsewhere no_case x Γ Δ h k = refl
  cases_elsewhere (and_case e p cs) x Γ Δ h k =
      let j = or_three (names e x) (stands p x) (stands_in_cases cs x) k in
      λ i. condition_elsewhere x Γ Δ h e j.0 i && types_elsewhere p x Γ Δ h j.1 i && cases_elsewhere cs x Γ Δ h j.2 i

  branches_elsewhere : (gs : Branches) (x : ℕ) (Γ Δ : Environment) → AgreeOff x Γ Δ → stands_in_branches gs x ≡ false
      → branches_kept gs Γ ≡ branches_kept gs Δ
  branches_elsewhere no_branch x Γ Δ h k = refl
  branches_elsewhere (and_branch e w p gs) x Γ Δ h k =
      let j = or_four (names e x) (stands_in_waiting w x) (stands p x) (stands_in_branches gs x) k in
      λ i. condition_elsewhere x Γ Δ h e j.0 i && waiting_elsewhere x Γ Δ h w (waiting_stands w x j.1) i && types_elsewhere p x Γ Δ h j.2 i && branches_elsewhere gs x Γ Δ h j.3 i

-- ---- what is neither free nor declared stands nowhere

-- a name that isn't declared there and not free round it isn't free within
free_below : (x y : ℕ) (p : Tree) → (not (x == y) && free p x) ≡ false → (x == y) ≡ false → free p x ≡ false
free_below x y p k off = and_second (not (x == y)) (free p x) k (not_from_false (x == y) off)

waiting_free : (w : Waiting) (x : ℕ) → free_in_waiting w x ≡ false → stands_in_waiting w x ≡ false
waiting_free ready x h = refl
waiting_free (input c y) x h = h
waiting_free (output c e) x h = h

mutual
  pub stands_not : (p : Tree) (x : ℕ) → free p x ≡ false → has_declared p x ≡ false → stands p x ≡ false
  stands_not skip x f d = refl
  stands_not stop x f d = refl
  stands_not (assign xs es) x f d = f
  stands_not (receive c y) x f d = f
  stands_not (send c e) x f d = f
  stands_not (seq ps) x f d = none_stand ps x f d
  stands_not (par ps) x f d = none_stand ps x f d
  stands_not (select cs) x f d = no_case_stands cs x f d
  stands_not (alt gs) x f d = no_branch_stands gs x f d
  stands_not (declare y w p) x f d =
      let k = or_parts (x == y) (has_declared p x) d in or_from (x == y) (stands p x) k.0 (stands_not p x (free_below x y p f k.0) k.1)
  stands_not (connect y w p) x f d =
      let k = or_parts (x == y) (has_declared p x) d in or_from (x == y) (stands p x) k.0 (stands_not p x (free_below x y p f k.0) k.1)

  pub none_stand : (ps : Trees) (x : ℕ) → free_in_some ps x ≡ false → some_declare ps x ≡ false → stands_in_some ps x ≡ false
  none_stand no_tree x f d = refl
  none_stand (and_tree p ps) x f d =
      let j = or_parts (free p x) (free_in_some ps x) f in
      let k = or_parts (has_declared p x) (some_declare ps x) d in
      or_from (stands p x) (stands_in_some ps x) (stands_not p x j.0 k.0) (none_stand ps x j.1 k.1)

  no_case_stands : (cs : Cases) (x : ℕ) → free_in_cases cs x ≡ false → some_case_declares cs x ≡ false → stands_in_cases cs x ≡ false
  no_case_stands no_case x f d = refl
  no_case_stands (and_case e p cs) x f d =
      let j = or_three (names e x) (free p x) (free_in_cases cs x) f in
      let k = or_parts (has_declared p x) (some_case_declares cs x) d in
      or_from (names e x || stands p x) (stands_in_cases cs x) (or_from (names e x) (stands p x) j.0 (stands_not p x j.1 k.0)) (no_case_stands cs x j.2 k.1)

  no_branch_stands : (gs : Branches) (x : ℕ) → free_in_branches gs x ≡ false → some_branch_declares gs x ≡ false → stands_in_branches gs x ≡ false
  no_branch_stands no_branch x f d = refl
  no_branch_stands (and_branch e w p gs) x f d =
      let j = or_four (names e x) (free_in_waiting w x) (free p x) (free_in_branches gs x) f in
      let k = or_parts (has_declared p x) (some_branch_declares gs x) d in
      or_from ((names e x || stands_in_waiting w x) || stands p x) (stands_in_branches gs x)
      (or_from (names e x || stands_in_waiting w x) (stands p x) (or_from (names e x) (stands_in_waiting w x) j.0 (waiting_free w x j.1)) (stands_not p x j.2 k.0))
      (no_branch_stands gs x j.3 k.1)

-- ---- into scope and out of it

-- a name that isn't in scope, and that a part doesn't declare, may come into its scope
pub into_scope : (p : Tree) (Γ : Environment) (x : ℕ) (kind : Kind) → Γ x ≡ None → has_declared p x ≡ false → types_kept p Γ ≡ true
    → types_kept p (with_name Γ x kind) ≡ true
into_scope p Γ x kind new d t =
    sym (types_elsewhere p x Γ (with_name Γ x kind) (declared_off Γ x kind) (stands_not p x (free_in_scope p Γ t x new) d)) ∙ t

-- a name that isn't free in a part may leave its scope
pub out_of_scope : (p : Tree) (Γ : Environment) (x : ℕ) (kind : Kind) → free p x ≡ false → types_kept p (with_name Γ x kind) ≡ true
    → types_kept p Γ ≡ true
out_of_scope p Γ x kind f t =
    types_elsewhere p x Γ (with_name Γ x kind) (declared_off Γ x kind) (stands_nowhere p (with_name Γ x kind) t x (ap is_none (name_at Γ x kind)) f) ∙ t
