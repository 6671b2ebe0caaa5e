-- Whether a part keeps types doesn't depend on a name that it neither has free nor declares.
use Rattle.std.proofs.Common.{List, None, [], ap, false, is_none, not, refl, sym, true, ℕ, ◌&&◌, ◌==◌, ◌∙◌, ◌∷◌, ◌≡◌}
use Rattle.std.proofs.lemmas.Bool.{not_from_false, or_parts}
use Rattle.occ_syntax.specs.occ_base.declared.event.Dir.TheVariants.{Input, Output}
use Rattle.occ_syntax.specs.occ_base.declared.width.Width.{Width}
use Rattle.occ_meaning.proofs.Declared.{declared_off}
use Rattle.occ_meaning.proofs.Facts.{and_second, off_turned, or_four, or_three}
use Rattle.occ_meaning.proofs.InScope.{free_in_scope}
use Rattle.occ_meaning.proofs.OffNames.{agree_below}
use Rattle.occ_meaning.specs.Foundation.{AgreeOff}
use Rattle.occ_syntax.specs.Names.{free, free_in_branches, free_in_cases, free_in_some, free_in_waiting, is_in, names, some_names}
use Rattle.occ_syntax.specs.Scopes.{Environment, allows, channel_kind, variable_kind, with_name}
use Rattle.occ_syntax.specs.Tree.{Branches, Cases, Exp, Tree, Trees, Waiting, alt, and_branch, and_case, and_tree, assign, complement, connect, declare, input, negation, no_branch, no_case, no_tree, numeral, operation, output, par, ready, receive, select, send, seq, skip, stop, truth, variable}
use Rattle.occ_syntax.specs.Types.{agree, all_types_kept, branches_kept, can_declare, cases_kept, if_truth_value, if_word, is_pair, is_width, pairs_kept, type_of, type_of_two, types_kept, waiting_kept}
use Rattle.occ_syntax.specs.declared.scope.Kind.{Kind}
use Rattle.occ_syntax.specs.declared.scope.Kind.TheVariants.{Chan, Var}
use Rattle.occ_norm_arrange.specs.Declares.{branches_declare, cases_declare, declares, some_declare}

-- ---- expressions and guards

type_elsewhere : (x : ℕ) (Γ Δ : Environment) → AgreeOff x Γ Δ → (e : Exp) → names e x ≡ false → type_of Γ e ≡ type_of Δ e
type_elsewhere x Γ Δ h (variable y) k = ap variable_kind (h y (off_turned x y k))
type_elsewhere x Γ Δ h (numeral bits value) k = refl
type_elsewhere x Γ Δ h (truth b) k = refl
type_elsewhere x Γ Δ h (negation e) k = ap if_truth_value (type_elsewhere x Γ Δ h e k)
type_elsewhere x Γ Δ h (complement e) k = ap if_word (type_elsewhere x Γ Δ h e k)
type_elsewhere x Γ Δ h (operation op left right) k =
    let j = or_parts (names left x) (names right x) k in λ i. type_of_two op (type_elsewhere x Γ Δ h left j.0 i) (type_elsewhere x Γ Δ h right j.1 i)

waiting_elsewhere : (x : ℕ) (Γ Δ : Environment) → AgreeOff x Γ Δ → (w : Waiting) → free_in_waiting w x ≡ false → waiting_kept Γ w ≡ waiting_kept Δ w
waiting_elsewhere x Γ Δ h ready k = refl
waiting_elsewhere x Γ Δ h (input c y) k =
    let j = or_parts (x == c) (x == y) k in
    let e = h c (off_turned x c j.0) in
    let f = h y (off_turned x y j.1) in λ i. allows (e i) Input && agree (channel_kind (e i)) (variable_kind (f i))
waiting_elsewhere x Γ Δ h (output c z) k =
    let j = or_parts (x == c) (names z x) k in
    let e = h c (off_turned x c j.0) in λ i. allows (e i) Output && agree (channel_kind (e i)) (type_elsewhere x Γ Δ h z j.1 i)

pairs_elsewhere : (x : ℕ) (Γ Δ : Environment) → AgreeOff x Γ Δ → (xs : List ℕ) (es : List Exp) → is_in xs x ≡ false → some_names es x ≡ false → pairs_kept Γ xs es ≡ pairs_kept Δ xs es
pairs_elsewhere x Γ Δ h [] [] k l = refl
pairs_elsewhere x Γ Δ h (y ∷ xs) (e ∷ es) k l =
    let j = or_parts (x == y) (is_in xs x) k in
    let m = or_parts (names e x) (some_names es x) l in
    let f = h y (off_turned x y j.0) in
    λ i. agree (variable_kind (f i)) (type_elsewhere x Γ Δ h e m.0 i) && not (is_in xs y) && pairs_elsewhere x Γ Δ h xs es j.1 m.1 i
pairs_elsewhere x Γ Δ h [] (e ∷ es) k l = refl
pairs_elsewhere x Γ Δ h (y ∷ xs) [] k l = refl

declare_elsewhere : (x : ℕ) (Γ Δ : Environment) → AgreeOff x Γ Δ → (y : ℕ) (w : Width) → (x == y) ≡ false → can_declare Γ y w ≡ can_declare Δ y w
declare_elsewhere x Γ Δ h y w k = ap (λ o. is_none o && is_width w) (h y (off_turned x y k))

-- ---- parts

-- a name that isn't declared there and not free round it isn't free within
free_below : (x y : ℕ) (p : Tree) → (not (x == y) && free p x) ≡ false → (x == y) ≡ false → free p x ≡ false
free_below x y p k off = and_second (not (x == y)) (free p x) k (not_from_false (x == y) off)

mutual
  types_elsewhere : (p : Tree) (x : ℕ) (Γ Δ : Environment) → AgreeOff x Γ Δ → free p x ≡ false → declares p x ≡ false → types_kept p Γ ≡ types_kept p Δ
  types_elsewhere skip x Γ Δ h k l = refl
  types_elsewhere stop x Γ Δ h k l = refl
  types_elsewhere (assign xs es) x Γ Δ h k l =
      let j = or_parts (is_in xs x) (some_names es x) k in ap (λ b. is_pair xs && b) (pairs_elsewhere x Γ Δ h xs es j.0 j.1)
  types_elsewhere (receive c y) x Γ Δ h k l = waiting_elsewhere x Γ Δ h (input c y) k
  types_elsewhere (send c e) x Γ Δ h k l = waiting_elsewhere x Γ Δ h (output c e) k
  types_elsewhere (seq ps) x Γ Δ h k l = all_elsewhere ps x Γ Δ h k l
  types_elsewhere (par ps) x Γ Δ h k l = all_elsewhere ps x Γ Δ h k l
  types_elsewhere (select cs) x Γ Δ h k l = cases_elsewhere cs x Γ Δ h k l
  types_elsewhere (alt bs) x Γ Δ h k l = branches_elsewhere bs x Γ Δ h k l
  types_elsewhere (declare y w p) x Γ Δ h k l =
      let m = or_parts (x == y) (declares p x) l in
      let e = types_elsewhere p x (with_name Γ y (Var w)) (with_name Δ y (Var w)) (agree_below x y Γ Δ (Var w) h) (free_below x y p k m.0) m.1 in
      λ i. declare_elsewhere x Γ Δ h y w m.0 i && e i
  types_elsewhere (connect y w p) x Γ Δ h k l =
      let m = or_parts (x == y) (declares p x) l in
      let e = types_elsewhere p x (with_name Γ y (Chan w None)) (with_name Δ y (Chan w None)) (agree_below x y Γ Δ (Chan w None) h) (free_below x y p k m.0) m.1 in
      λ i. declare_elsewhere x Γ Δ h y w m.0 i && e i

  all_elsewhere : (ps : Trees) (x : ℕ) (Γ Δ : Environment) → AgreeOff x Γ Δ → free_in_some ps x ≡ false → some_declare ps x ≡ false → all_types_kept ps Γ ≡ all_types_kept ps Δ
  all_elsewhere no_tree x Γ Δ h k l = refl
  all_elsewhere (and_tree p ps) x Γ Δ h k l =
      let j = or_parts (free p x) (free_in_some ps x) k in
      let m = or_parts (declares p x) (some_declare ps x) l in λ i. types_elsewhere p x Γ Δ h j.0 m.0 i && all_elsewhere ps x Γ Δ h j.1 m.1 i

  cases_elsewhere : (cs : Cases) (x : ℕ) (Γ Δ : Environment) → AgreeOff x Γ Δ → free_in_cases cs x ≡ false → cases_declare cs x ≡ false → cases_kept cs Γ ≡ cases_kept cs Δ
  cases_elsewhere no_case x Γ Δ h k l = refl
  cases_elsewhere (and_case e p cs) x Γ Δ h k l =
      let j = or_three (names e x) (free p x) (free_in_cases cs x) k in
      let m = or_parts (declares p x) (cases_declare cs x) l in
      let f = ap (λ o. agree o (type_of Γ (truth true))) (type_elsewhere x Γ Δ h e j.0) in
      λ i. f i && types_elsewhere p x Γ Δ h j.1 m.0 i && cases_elsewhere cs x Γ Δ h j.2 m.1 i

  branches_elsewhere : (bs : Branches) (x : ℕ) (Γ Δ : Environment) → AgreeOff x Γ Δ → free_in_branches bs x ≡ false → branches_declare bs x ≡ false → branches_kept bs Γ ≡ branches_kept bs Δ
  branches_elsewhere no_branch x Γ Δ h k l = refl
  branches_elsewhere (and_branch e w p bs) x Γ Δ h k l =
      let j = or_four (names e x) (free_in_waiting w x) (free p x) (free_in_branches bs x) k in
      let m = or_parts (declares p x) (branches_declare bs x) l in
      let f = ap (λ o. agree o (type_of Γ (truth true))) (type_elsewhere x Γ Δ h e j.0) in
      λ i. f i && waiting_elsewhere x Γ Δ h w j.1 i && types_elsewhere p x Γ Δ h j.2 m.0 i && branches_elsewhere bs x Γ Δ h j.3 m.1 i

-- parts that keep types keep them where one more name is in scope that none of them declares
pub types_beside : (ps : Trees) (Γ : Environment) (x : ℕ) (k : Kind) → Γ x ≡ None → some_declare ps x ≡ false → all_types_kept ps Γ ≡ true → all_types_kept ps (with_name Γ x k) ≡ true
types_beside ps Γ x k none l h = sym (all_elsewhere ps x Γ (with_name Γ x k) (declared_off Γ x k) (free_in_scope (par ps) Γ h x none) l) ∙ h
