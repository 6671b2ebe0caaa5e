-- The sets of states round some parts of a SEQ in a row.
use Rattle.std.proofs.Common.{◌≡◌, ◌+◌, ◌<◌, ◌≤◌, ◌∙◌, ℕ, List, get_or, length, take, drop, refl, sym, ap, subst, arith}
use Rattle.std.proofs.lemmas.List.{get_or-drop, get_or-take, length-drop, length-take-le}
use Rattle.occ_syntax.specs.occ_base.declared.names.Name.{Name}
use Rattle.occ_syntax.specs.occ_base.declared.width.Width.{Width}
use Rattle.occ_compare.specs.occ_dd.declared.set.SetId.{SetId}
use Rattle.occ_compare.specs.occ_dd.declared.store.Store.{Store}
use Rattle.occ_syntax.specs.Tree.{seq}
use Rattle.occ_syntax.specs.View.{tree, trees}
use Rattle.occ_syntax.specs.declared.proc.Proc.{Proc, Skip}
use Rattle.occ_syntax.specs.declared.scope.Kind.{Kind}
use Rattle.occ_norm_alt.specs.occ_norm_frame.Placed.{IsFrame}
use Rattle.occ_norm_par.specs.States.{AreBetween, AreStates, EndsIn, set_at}
use Rattle.occ_norm_par.proofs.Reaching.{seq_ends}

-- some elements in a row
at_between : {A : Type 0} (xs : List A) (i j k : ℕ) (d : A) → i + k < j → get_or (drop i (take j xs)) k d ≡ get_or xs (i + k) d
at_between xs i j k d h = get_or-drop i (take j xs) k d ∙ get_or-take j xs (i + k) d h

length_between : {A : Type 0} (xs : List A) (i j : ℕ) → i ≤ j → j ≤ length xs → length (drop i (take j xs)) + i ≡ j
length_between xs i j h k =
    let left = length-drop i (take j xs) in
    let front = length-take-le j xs k in
    omega (arith, left, front, h)

module _ (s : Store) (vars : List (Name × Kind)) (layout : List (Name × Width × ℕ)) (n : ℕ) (from : SetId) (ps : List Proc) (sets : List SetId) (is : AreBetween s vars layout n from ps sets)
    (i j : ℕ) (lt : i ≤ j) (le : j ≤ length ps) where
  abbrev parts : List Proc
  parts = drop i (take j ps)

  abbrev among : List SetId
  among = drop i (take (j + 1) sets)

  many : length parts + i ≡ j
  many = length_between ps i j lt le

  round : length among + i ≡ j + 1
  round = let count = is.count in length_between sets i (j + 1) (omega (arith, lt)) (omega (arith, count, le))

  there : (k : ℕ) → i + k < j + 1 → set_at among k ≡ set_at sets (i + k)
  there k h = at_between sets i (j + 1) k (record { 0 = 0 }) h

  step : (k : ℕ) → k < length parts → EndsIn s vars layout (tree (get_or parts k Skip)) (set_at among k) (set_at among (k + 1))
  step k h =
      let p = many in
      let next : i + (k + 1) ≡ i + k + 1 = omega arith in
      subst (λ q. EndsIn s vars layout (tree q) (set_at among k) (set_at among (k + 1))) (sym (at_between ps i j k Skip (omega (arith, h, p))))
      (subst (λ a. EndsIn s vars layout (tree (get_or ps (i + k) Skip)) a (set_at among (k + 1))) (sym (there k (omega (arith, h, p))))
      (subst (λ b. EndsIn s vars layout (tree (get_or ps (i + k) Skip)) (set_at sets (i + k)) b) (sym (there (k + 1) (omega (arith, h, p)) ∙ ap (λ m. set_at sets m) next))
      (is.ends (i + k) (omega (arith, h, p, le)))))

  some : AreBetween s vars layout n (set_at sets i) parts among
  some =
      let p = many in
      let r = round in
      let count = is.count in
      let here : i + 0 ≡ i = omega arith in
      record {
        count = omega (arith, p, r);
        first = there 0 (omega (arith, lt)) ∙ ap (λ m. set_at sets m) here;
        states = λ k h. subst (AreStates s n) (sym (there k (omega (arith, h, r)))) (is.states (i + k) (omega (arith, h, r, count, le)));
        ends = step;
      }

  -- from the states in front of the first of them they end in those behind the last alone
  pub run_ends : IsFrame vars layout n → EndsIn s vars layout (seq (trees (drop i (take j ps)))) (set_at sets i) (set_at sets j)
  run_ends frame =
      let p = many in
      let last : i + length parts ≡ j = omega (arith, p) in
      subst (λ b. EndsIn s vars layout (seq (trees parts)) (set_at sets i) b) (there (length parts) (omega (arith, p)) ∙ ap (λ m. set_at sets m) last)
      (seq_ends s vars layout n frame (seq (trees parts)) parts among (set_at sets i) refl some)
