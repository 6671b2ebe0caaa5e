-- A well-typed part names what is in scope, and declares none of it again.
use Rattle.occ_syntax.specs.occ_base.declared.event.Dir.{Dir}
use Rattle.occ_syntax.specs.occ_base.declared.event.Dir.TheVariants.{Input, Output}
use Rattle.occ_syntax.specs.occ_base.declared.width.Width.{Width}
use Rattle.occ_meaning.proofs.Facts.{allowed_not_none, and_four, and_second, and_three, clash, name_off, or_four, or_three}
use Rattle.occ_meaning.proofs.Typing.{condition_in_scope, input_types, names_in_scope, output_types, pairs_in_scope, variable_in_scope}
use Rattle.occ_meaning.specs.Rename.{stands, stands_in_branches, stands_in_cases, stands_in_some, stands_in_waiting}
use Rattle.occ_syntax.specs.Names.{free, free_in_branches, free_in_cases, free_in_some, free_in_waiting, is_in, names, some_names}
use Rattle.occ_syntax.specs.Scopes.{Environment, allows, channel_width, variable_kind, variable_width, with_name}
use Rattle.occ_syntax.specs.Tree.{Branches, Cases, Tree, Trees, Waiting, alt, and_branch, and_case, and_tree, assign, connect, declare, input, no_branch, no_case, no_tree, output, par, ready, receive, select, send, seq, skip, stop}
use Rattle.occ_syntax.specs.Types.{agree, all_types_kept, branches_kept, can_declare, cases_kept, is_condition, is_pair, is_width, pairs_kept, types_kept, waiting_kept}
use Rattle.occ_syntax.specs.declared.scope.Kind.{Kind}
use Rattle.occ_syntax.specs.declared.scope.Kind.TheVariants.{Chan, Var}
use Rattle.std.proofs.Common.{Bool, None, ap, false, is_none, not, refl, subst, sym, true, ℕ, ◌&&◌, ◌==◌, ◌||◌, ◌∙◌, ◌≡◌}
use Rattle.std.proofs.lemmas.Bool.{and_parts, and_right, eqb-true, false_from_ne_true, not_from_false, or_from, or_parts}

under_in : (a b : Bool) → (a ≡ false → b ≡ false) → (not a && b) ≡ false
under_in true b h = refl
under_in false b h = h refl

no_variable : (Γ : Environment) (x : ℕ) → Γ x ≡ None → variable_width Γ x ≡ None
no_variable Γ x h = ap variable_kind h

not_allowed : (Γ : Environment) (x c : ℕ) (d : Dir) → Γ x ≡ None → allows (Γ c) d ≡ true → (x == c) ≡ false
not_allowed Γ x c d h k = false_from_ne_true (x == c) (λ e. allowed_not_none (Γ c) d k (ap Γ (sym (eqb-true x c e)) ∙ h))

still_none : (Γ : Environment) (x y : ℕ) (kind : Kind) → Γ x ≡ None → (x == y) ≡ false → with_name Γ y kind x ≡ None
still_none Γ x y kind h off = name_off Γ y kind x off ∙ h

waiting_names_in_scope : (Γ : Environment) (x : ℕ) → Γ x ≡ None → (w : Waiting) → waiting_kept Γ w ≡ true → free_in_waiting w x ≡ false
waiting_names_in_scope Γ x k ready h = refl
waiting_names_in_scope Γ x k (input c y) h =
    let j = input_types Γ c y h in
    or_from (x == c) (x == y) (not_allowed Γ x c Input k j.0) (variable_in_scope Γ x y (channel_width Γ c) (and_parts (allows (Γ c) Input) (agree (channel_width Γ c) (variable_width Γ y)) h).1 (no_variable Γ x k))
waiting_names_in_scope Γ x k (output c e) h =
    let j = output_types Γ c e h in or_from (x == c) (names e x) (not_allowed Γ x c Output k j.0) (names_in_scope Γ x (no_variable Γ x k) e j.1.0 j.1.2)

mutual
  pub free_in_scope : (p : Tree) (Γ : Environment) → types_kept p Γ ≡ true → (x : ℕ) → Γ x ≡ None → free p x ≡ false
  free_in_scope skip Γ h x k = refl
  free_in_scope stop Γ h x k = refl
  free_in_scope (assign xs es) Γ h x k =
      let j = pairs_in_scope Γ x (no_variable Γ x k) xs es (and_parts (is_pair xs) (pairs_kept Γ xs es) h).1 in or_from (is_in xs x) (some_names es x) j.0 j.1
  free_in_scope (receive c y) Γ h x k = waiting_names_in_scope Γ x k (input c y) h
  free_in_scope (send c e) Γ h x k = waiting_names_in_scope Γ x k (output c e) h
  free_in_scope (seq ps) Γ h x k = some_in_scope ps Γ h x k
  free_in_scope (par ps) Γ h x k = some_in_scope ps Γ h x k
  free_in_scope (select cs) Γ h x k = cases_in_scope cs Γ h x k
  free_in_scope (alt bs) Γ h x k = branches_in_scope bs Γ h x k
  free_in_scope (declare y w p) Γ h x k = under_in (x == y) (free p x)
      (λ off. free_in_scope p (with_name Γ y (Var w)) (and_parts (can_declare Γ y w) (types_kept p (with_name Γ y (Var w))) h).1 x (still_none Γ x y (Var w) k off))
  free_in_scope (connect y w p) Γ h x k = under_in (x == y) (free p x)
      (λ off. free_in_scope p (with_name Γ y (Chan w None)) (and_parts (can_declare Γ y w) (types_kept p (with_name Γ y (Chan w None))) h).1 x (still_none Γ x y (Chan w None) k off))

  some_in_scope : (ps : Trees) (Γ : Environment) → all_types_kept ps Γ ≡ true → (x : ℕ) → Γ x ≡ None → free_in_some ps x ≡ false
  some_in_scope no_tree Γ h x k = refl
  some_in_scope (and_tree p ps) Γ h x k =
      let j = and_parts (types_kept p Γ) (all_types_kept ps Γ) h in or_from (free p x) (free_in_some ps x) (free_in_scope p Γ j.0 x k) (some_in_scope ps Γ j.1 x k)

  cases_in_scope : (cs : Cases) (Γ : Environment) → cases_kept cs Γ ≡ true → (x : ℕ) → Γ x ≡ None → free_in_cases cs x ≡ false
  cases_in_scope no_case Γ h x k = refl
  cases_in_scope (and_case e p cs) Γ h x k =
      let j = and_three (is_condition Γ e) (types_kept p Γ) (cases_kept cs Γ) h in
      or_from (names e x || free p x) (free_in_cases cs x) (or_from (names e x) (free p x) (condition_in_scope Γ x (no_variable Γ x k) e j.0) (free_in_scope p Γ j.1 x k)) (cases_in_scope cs Γ j.2 x k)

  branches_in_scope : (bs : Branches) (Γ : Environment) → branches_kept bs Γ ≡ true → (x : ℕ) → Γ x ≡ None → free_in_branches bs x ≡ false
  branches_in_scope no_branch Γ h x k = refl
  branches_in_scope (and_branch e w p bs) Γ h x k =
      let j = and_four (is_condition Γ e) (waiting_kept Γ w) (types_kept p Γ) (branches_kept bs Γ) h in
      or_from ((names e x || free_in_waiting w x) || free p x) (free_in_branches bs x)
      (or_from (names e x || free_in_waiting w x) (free p x) (or_from (names e x) (free_in_waiting w x) (condition_in_scope Γ x (no_variable Γ x k) e j.0) (waiting_names_in_scope Γ x k w j.1)) (free_in_scope p Γ j.2 x k))
      (branches_in_scope bs Γ j.3 x k)

-- ---- what is in scope and not free stands nowhere

waiting_stands : (w : Waiting) (x : ℕ) → free_in_waiting w x ≡ false → stands_in_waiting w x ≡ false
waiting_stands ready x h = refl
waiting_stands (input c y) x h = h
waiting_stands (output c e) x h = h

declared_apart : (Γ : Environment) (x y : ℕ) (w : Width) → can_declare Γ y w ≡ true → is_none (Γ x) ≡ false → (x == y) ≡ false
declared_apart Γ x y w h k = false_from_ne_true (x == y) (λ e. (let P : ℕ → Type 0 = λ n. is_none (Γ n) ≡ false in clash (is_none (Γ y)) (and_parts (is_none (Γ y)) (is_width w) h).0 (subst P (eqb-true x y e) k)))

still_there : (Γ : Environment) (x y : ℕ) (kind : Kind) → is_none (Γ x) ≡ false → (x == y) ≡ false → is_none (with_name Γ y kind x) ≡ false
still_there Γ x y kind h off = ap is_none (name_off Γ y kind x off) ∙ h

mutual
  pub stands_nowhere : (p : Tree) (Γ : Environment) → types_kept p Γ ≡ true → (x : ℕ) → is_none (Γ x) ≡ false → free p x ≡ false → stands p x ≡ false
  stands_nowhere skip Γ h x k i = refl
  stands_nowhere stop Γ h x k i = refl
  stands_nowhere (assign xs es) Γ h x k i = i
  stands_nowhere (receive c y) Γ h x k i = i
  stands_nowhere (send c e) Γ h x k i = i
  stands_nowhere (seq ps) Γ h x k i = none_stands ps Γ h x k i
  stands_nowhere (par ps) Γ h x k i = none_stands ps Γ h x k i
  stands_nowhere (select cs) Γ h x k i = cases_stand cs Γ h x k i
  stands_nowhere (alt bs) Γ h x k i = branches_stand bs Γ h x k i
  stands_nowhere (declare y w p) Γ h x k i =
      let j = and_parts (can_declare Γ y w) (types_kept p (with_name Γ y (Var w))) h in
      let off = declared_apart Γ x y w j.0 k in
      or_from (x == y) (stands p x) off (stands_nowhere p (with_name Γ y (Var w)) j.1 x (still_there Γ x y (Var w) k off) (and_second (not (x == y)) (free p x) i (not_from_false (x == y) off)))
  stands_nowhere (connect y w p) Γ h x k i =
      let j = and_parts (can_declare Γ y w) (types_kept p (with_name Γ y (Chan w None))) h in
      let off = declared_apart Γ x y w j.0 k in
      or_from (x == y) (stands p x) off (stands_nowhere p (with_name Γ y (Chan w None)) j.1 x (still_there Γ x y (Chan w None) k off) (and_second (not (x == y)) (free p x) i (not_from_false (x == y) off)))

  none_stands : (ps : Trees) (Γ : Environment) → all_types_kept ps Γ ≡ true → (x : ℕ) → is_none (Γ x) ≡ false → free_in_some ps x ≡ false
      → stands_in_some ps x ≡ false
  none_stands no_tree Γ h x k i = refl
  none_stands (and_tree p ps) Γ h x k i =
      let j = and_parts (types_kept p Γ) (all_types_kept ps Γ) h in let l = or_parts (free p x) (free_in_some ps x) i in
      or_from (stands p x) (stands_in_some ps x) (stands_nowhere p Γ j.0 x k l.0) (none_stands ps Γ j.1 x k l.1)

  cases_stand : (cs : Cases) (Γ : Environment) → cases_kept cs Γ ≡ true → (x : ℕ) → is_none (Γ x) ≡ false → free_in_cases cs x ≡ false
      → stands_in_cases cs x ≡ false
  cases_stand no_case Γ h x k i = refl
  cases_stand (and_case e p cs) Γ h x k i =
      let j = and_three (is_condition Γ e) (types_kept p Γ) (cases_kept cs Γ) h in let l = or_three (names e x) (free p x) (free_in_cases cs x) i in
      or_from (names e x || stands p x) (stands_in_cases cs x) (or_from (names e x) (stands p x) l.0 (stands_nowhere p Γ j.1 x k l.1)) (cases_stand cs Γ j.2 x k l.2)

  branches_stand : (bs : Branches) (Γ : Environment) → branches_kept bs Γ ≡ true → (x : ℕ) → is_none (Γ x) ≡ false
      → free_in_branches bs x ≡ false → stands_in_branches bs x ≡ false
  branches_stand no_branch Γ h x k i = refl
  branches_stand (and_branch e w p bs) Γ h x k i =
      let j = and_four (is_condition Γ e) (waiting_kept Γ w) (types_kept p Γ) (branches_kept bs Γ) h in
      let l = or_four (names e x) (free_in_waiting w x) (free p x) (free_in_branches bs x) i in
      or_from ((names e x || stands_in_waiting w x) || stands p x) (stands_in_branches bs x)
      (or_from (names e x || stands_in_waiting w x) (stands p x) (or_from (names e x) (stands_in_waiting w x) l.0 (waiting_stands w x l.1)) (stands_nowhere p Γ j.2 x k l.2))
      (branches_stand bs Γ j.3 x k l.3)

-- ---- what stands nowhere isn't free

nowhere_waiting : (w : Waiting) (x : ℕ) → stands_in_waiting w x ≡ false → free_in_waiting w x ≡ false
nowhere_waiting ready x h = refl
nowhere_waiting (input c y) x h = h
nowhere_waiting (output c e) x h = h

mutual
  pub nowhere_free : (p : Tree) (x : ℕ) → stands p x ≡ false → free p x ≡ false
  nowhere_free skip x h = refl
  nowhere_free stop x h = refl
  nowhere_free (assign xs es) x h = h
  nowhere_free (receive c y) x h = h
  nowhere_free (send c e) x h = h
  nowhere_free (seq ps) x h = nowhere_some ps x h
  nowhere_free (par ps) x h = nowhere_some ps x h
  nowhere_free (select cs) x h = nowhere_cases cs x h
  nowhere_free (alt bs) x h = nowhere_branches bs x h
  nowhere_free (declare y w p) x h = and_right (not (x == y)) (free p x) (nowhere_free p x (or_parts (x == y) (stands p x) h).1)
  nowhere_free (connect y w p) x h = and_right (not (x == y)) (free p x) (nowhere_free p x (or_parts (x == y) (stands p x) h).1)

  nowhere_some : (ps : Trees) (x : ℕ) → stands_in_some ps x ≡ false → free_in_some ps x ≡ false
  nowhere_some no_tree x h = refl
  nowhere_some (and_tree p ps) x h = let k = or_parts (stands p x) (stands_in_some ps x) h in or_from (free p x) (free_in_some ps x) (nowhere_free p x k.0) (nowhere_some ps x k.1)

  nowhere_cases : (cs : Cases) (x : ℕ) → stands_in_cases cs x ≡ false → free_in_cases cs x ≡ false
  nowhere_cases no_case x h = refl
  nowhere_cases (and_case e p cs) x h =
      let k = or_three (names e x) (stands p x) (stands_in_cases cs x) h in or_from (names e x || free p x) (free_in_cases cs x) (or_from (names e x) (free p x) k.0 (nowhere_free p x k.1)) (nowhere_cases cs x k.2)

  nowhere_branches : (bs : Branches) (x : ℕ) → stands_in_branches bs x ≡ false → free_in_branches bs x ≡ false
  nowhere_branches no_branch x h = refl
  nowhere_branches (and_branch e w p bs) x h =
      let k = or_four (names e x) (stands_in_waiting w x) (stands p x) (stands_in_branches bs x) h in
      or_from ((names e x || free_in_waiting w x) || free p x) (free_in_branches bs x)
      (or_from (names e x || free_in_waiting w x) (free p x) (or_from (names e x) (free_in_waiting w x) k.0 (nowhere_waiting w x k.1)) (nowhere_free p x k.2))
      (nowhere_branches bs x k.3)
