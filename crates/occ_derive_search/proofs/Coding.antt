-- Each process that keeps types has a code, and so has each row of steps.
use Rattle.std.proofs.Common.{◌≡◌, ℕ, suc, zero, true, List, [], ◌∷◌, ◌++◌, None, Some, refl, ap, sym, subst, ◌∙◌, append_assoc}
use Rattle.std.proofs.lemmas.Bool.{and_parts}
use Rattle.std.proofs.lemmas.List.{append-nil}
use Rattle.std.specs.Prelude.{◌==◌, ◌&&◌, not}
use Rattle.std.specs.List.{list_any}
use Rattle.occ_syntax.specs.occ_base.declared.event.Dir.TheVariants.{Output}
use Rattle.occ_derive_search.proofs.Leading.{Leads, at_once, by, then_on}
use Rattle.occ_derive_search.specs.Longer.{longer_row, more_branches, more_cases, more_trees}
use Rattle.occ_derive_search.specs.Piles.{Held, and_exp, and_made, and_part, and_wait, begun, where_true, width_of}
use Rattle.occ_derive_search.specs.declared.instruction.Instruction.TheVariants as instruction
use Rattle.occ_derive_search.proofs.Typed.{IsThere, agree_first, agree_second, left_there, numeral_small, right_there, truth_there, width_small, word_there}
use Rattle.occ_syntax.specs.declared.scope.Kind.TheVariants.{Chan, Var}
use Rattle.occ_syntax.specs.Scopes.{Environment, allows, channel_width, variable_width, with_name}
use Rattle.occ_syntax.specs.Tree.{Branches, Cases, Exp, Tree, Trees, Waiting, alt, and_branch, and_case, and_tree, assign, complement, connect, declare, input, negation, no_branch, no_case, no_tree, numeral, operation, output, par, ready, receive, select, send, seq, skip, stop, truth, variable}
use Rattle.occ_syntax.specs.Types.{agree, all_types_kept, branches_kept, can_declare, cases_kept, is_condition, is_pair, is_width, pairs_kept, type_of, types_kept, waiting_kept}
use Rattle.std.specs.Option.{is_none}

-- ---- numbers

count : (n k : ℕ) (s : Held) → Leads (record s { number = 0; kept = k }) (record s { number = n; kept = k })
count zero k s = at_once _
count (suc n) k s = then_on (count n k s) (by instruction.More _ _ refl)

-- from the beginning the machine counts to any number
pub counted : (n : ℕ) (s : Held) → Leads (begun s) (record s { number = n; kept = 0 })
counted n s = count n 0 s

-- both numbers
both_counted : (k n : ℕ) (s : Held) → Leads (begun s) (record s { number = n; kept = k })
both_counted k n s = then_on (count k 0 s) (then_on (by instruction.Keep _ (record s { number = 0; kept = k }) refl) (count n k s))

-- ---- expressions

coded_exp : (Γ : Environment) (e : Exp) → IsThere (type_of Γ e) → (s : Held) → Leads (begun s) (begun (and_exp e s))
coded_exp Γ (variable x) t s = then_on (counted x s) (by instruction.Variable _ _ refl)
coded_exp Γ (numeral bits value) t s =
    then_on (both_counted bits value s) (by instruction.Word _ _ (ap (λ b. where_true b (Some (begun (and_exp (numeral bits value) s)))) (numeral_small bits value t)))
coded_exp Γ (truth b) t s = by (instruction.Truth b) _ _ refl
coded_exp Γ (negation e) t s = then_on (coded_exp Γ e (truth_there (type_of Γ e) t) s) (by instruction.Not _ _ refl)
coded_exp Γ (complement e) t s = then_on (coded_exp Γ e (word_there (type_of Γ e) t) s) (by instruction.Flip _ _ refl)
coded_exp Γ (operation op left right) t s =
    then_on (coded_exp Γ left (left_there op (type_of Γ left) (type_of Γ right) t) s)
    (then_on (coded_exp Γ right (right_there op (type_of Γ left) (type_of Γ right) t) (and_exp left s)) (by (instruction.Two op) _ _ refl))

coded_wait : (Γ : Environment) (w : Waiting) → waiting_kept Γ w ≡ true → (s : Held) → Leads (begun s) (begun (and_wait w s))
coded_wait Γ ready h s = by instruction.Ready _ _ refl
coded_wait Γ (input c x) h s = then_on (both_counted c x s) (by instruction.Get _ _ refl)
coded_wait Γ (output c e) h s =
    let t = agree_second (channel_width Γ c) (type_of Γ e) (and_parts (allows (Γ c) Output) _ h).1 in
    then_on (coded_exp Γ e t s) (then_on (counted c (and_exp e s)) (by instruction.Put _ _ refl))

-- ---- lists of parts, item by item

abbrev joined_trees : Trees → Trees → Trees
joined_trees qs no_tree = qs
joined_trees qs (and_tree p ps) = joined_trees (more_trees qs p) ps

abbrev joined_cases : Cases → Cases → Cases
joined_cases ds no_case = ds
joined_cases ds (and_case e p cs) = joined_cases (more_cases ds e p) cs

abbrev joined_branches : Branches → Branches → Branches
joined_branches ds no_branch = ds
joined_branches ds (and_branch e w p bs) = joined_branches (more_branches ds e w p) bs

first_tree : (q : Tree) (qs ps : Trees) → joined_trees (and_tree q qs) ps ≡ and_tree q (joined_trees qs ps)
first_tree q qs no_tree = refl
first_tree q qs (and_tree p ps) = first_tree q (more_trees qs p) ps

all_trees : (ps : Trees) → joined_trees no_tree ps ≡ ps
all_trees no_tree = refl
all_trees (and_tree p ps) = first_tree p no_tree ps ∙ ap (and_tree p) (all_trees ps)

first_case : (f : Exp) (q : Tree) (ds cs : Cases) → joined_cases (and_case f q ds) cs ≡ and_case f q (joined_cases ds cs)
first_case f q ds no_case = refl
first_case f q ds (and_case e p cs) = first_case f q (more_cases ds e p) cs

all_cases : (cs : Cases) → joined_cases no_case cs ≡ cs
all_cases no_case = refl
all_cases (and_case e p cs) = first_case e p no_case cs ∙ ap (and_case e p) (all_cases cs)

first_branch : (f : Exp) (v : Waiting) (q : Tree) (ds bs : Branches) → joined_branches (and_branch f v q ds) bs ≡ and_branch f v q (joined_branches ds bs)
first_branch f v q ds no_branch = refl
first_branch f v q ds (and_branch e w p bs) = first_branch f v q (more_branches ds e w p) bs

all_branches : (bs : Branches) → joined_branches no_branch bs ≡ bs
all_branches no_branch = refl
all_branches (and_branch e w p bs) = first_branch e w p no_branch bs ∙ ap (and_branch e w p) (all_branches bs)

-- ---- parts

ends_with : (p q : Tree) (s : Held) → p ≡ q → Leads (begun s) (begun (and_part p s)) → Leads (begun s) (begun (and_part q s))
ends_with p q s e h = let P : Tree → Type 0 = λ r. Leads (begun s) (begun (and_part r s)) in subst P e h

coded_pairs : (Γ : Environment) (xs : List ℕ) (es : List Exp) → pairs_kept Γ xs es ≡ true → (ys : List ℕ) (fs : List Exp) (s : Held)
    → Leads (begun s) (begun (and_part (assign ys fs) s)) → Leads (begun s) (begun (and_part (assign (ys ++ xs) (fs ++ es)) s))
coded_pairs Γ [] [] h ys fs s so_far =
    ends_with (assign ys fs) (assign (ys ++ []) (fs ++ [])) s (ap (λ zs. assign zs fs) (sym (append-nil ys)) ∙ ap (assign (ys ++ [])) (sym (append-nil fs))) so_far
coded_pairs Γ (x ∷ xs) (e ∷ es) h ys fs s so_far =
    let a = and_parts (agree (variable_width Γ x) (type_of Γ e) && not (list_any (λ y. x == y) xs)) (pairs_kept Γ xs es) h in
    let b = and_parts (agree (variable_width Γ x) (type_of Γ e)) (not (list_any (λ y. x == y) xs)) a.0 in
    let t = agree_second (variable_width Γ x) (type_of Γ e) b.0 in
    let one : Leads (begun s) (begun (and_part (assign (ys ++ x ∷ []) (fs ++ e ∷ [])) s)) =
    then_on so_far (then_on (coded_exp Γ e t (and_part (assign ys fs) s))
    (then_on (counted x (and_exp e (and_part (assign ys fs) s))) (by instruction.AndPair _ _ refl))) in
    ends_with (assign ((ys ++ x ∷ []) ++ xs) ((fs ++ e ∷ []) ++ es)) (assign (ys ++ x ∷ xs) (fs ++ e ∷ es)) s
    (ap (λ zs. assign zs ((fs ++ e ∷ []) ++ es)) (append_assoc ys (x ∷ []) xs) ∙ ap (assign (ys ++ x ∷ xs)) (append_assoc fs (e ∷ []) es))
    (coded_pairs Γ xs es a.1 (ys ++ x ∷ []) (fs ++ e ∷ []) s one)
coded_pairs Γ [] (e ∷ es) h ys fs s so_far = cc
coded_pairs Γ (x ∷ xs) [] h ys fs s so_far = cc

mutual
  -- a process that keeps types has a code
  pub coded_part : (p : Tree) (Γ : Environment) → types_kept p Γ ≡ true → (s : Held) → Leads (begun s) (begun (and_part p s))
  coded_part skip Γ h s = by instruction.Skip _ _ refl
  coded_part stop Γ h s = by instruction.Stop _ _ refl
  coded_part (assign xs es) Γ h s =
      coded_pairs Γ xs es (and_parts (is_pair xs) (pairs_kept Γ xs es) h).1 [] [] s (by instruction.Assign _ _ refl)
  coded_part (receive c x) Γ h s = then_on (both_counted c x s) (by instruction.Input _ _ refl)
  coded_part (send c e) Γ h s =
      let t = agree_second (channel_width Γ c) (type_of Γ e) (and_parts (allows (Γ c) Output) _ h).1 in
      then_on (coded_exp Γ e t s) (then_on (counted c (and_exp e s)) (by instruction.Output _ _ refl))
  coded_part (seq ps) Γ h s =
      ends_with (seq (joined_trees no_tree ps)) (seq ps) s (ap seq (all_trees ps)) (coded_row ps Γ h seq (λ qs p. refl) no_tree s (by instruction.Seq _ _ refl))
  coded_part (par ps) Γ h s =
      ends_with (par (joined_trees no_tree ps)) (par ps) s (ap par (all_trees ps)) (coded_row ps Γ h par (λ qs p. refl) no_tree s (by instruction.Par _ _ refl))
  coded_part (select cs) Γ h s =
      ends_with (select (joined_cases no_case cs)) (select cs) s (ap select (all_cases cs)) (coded_cases cs Γ h no_case s (by instruction.If _ _ refl))
  coded_part (alt bs) Γ h s =
      ends_with (alt (joined_branches no_branch bs)) (alt bs) s (ap alt (all_branches bs)) (coded_branches bs Γ h no_branch s (by instruction.Alt _ _ refl))
  coded_part (declare x w p) Γ h s =
      let b = and_parts (can_declare Γ x w) (types_kept p (with_name Γ x (Var w))) h in
      let n = width_small w (and_parts (is_none (Γ x)) (is_width w) b.0).1 in
      ends_with (declare x (width_of n.bits) p) (declare x w p) s (ap (λ v. declare x v p) n.is)
      (then_on (coded_part p (with_name Γ x (Var w)) b.1 s) (then_on (both_counted n.bits x (and_part p s))
      (by instruction.Var _ _ (ap (λ b. where_true b (Some (begun (and_part (declare x (width_of n.bits) p) s)))) n.small))))
  coded_part (connect x w p) Γ h s =
      let b = and_parts (can_declare Γ x w) (types_kept p (with_name Γ x (Chan w None))) h in
      let n = width_small w (and_parts (is_none (Γ x)) (is_width w) b.0).1 in
      ends_with (connect x (width_of n.bits) p) (connect x w p) s (ap (λ v. connect x v p) n.is)
      (then_on (coded_part p (with_name Γ x (Chan w None)) b.1 s) (then_on (both_counted n.bits x (and_part p s))
      (by instruction.Chan _ _ (ap (λ b. where_true b (Some (begun (and_part (connect x (width_of n.bits) p) s)))) n.small))))

  coded_row : (ps : Trees) (Γ : Environment) → all_types_kept ps Γ ≡ true → (f : Trees → Tree) → ((qs : Trees) (p : Tree) → longer_row (f qs) p ≡ Some (f (more_trees qs p)))
      → (qs : Trees) (s : Held) → Leads (begun s) (begun (and_part (f qs) s)) → Leads (begun s) (begun (and_part (f (joined_trees qs ps)) s))
  coded_row no_tree Γ h f longer qs s so_far = so_far
  coded_row (and_tree p ps) Γ h f longer qs s so_far =
      let b = and_parts (types_kept p Γ) (all_types_kept ps Γ) h in
      coded_row ps Γ b.1 f longer (more_trees qs p) s
      (then_on so_far (then_on (coded_part p Γ b.0 (and_part (f qs) s)) (by instruction.AndPart _ _ (ap (λ o. and_made o (begun s)) (longer qs p)))))

  coded_cases : (cs : Cases) (Γ : Environment) → cases_kept cs Γ ≡ true → (ds : Cases) (s : Held)
      → Leads (begun s) (begun (and_part (select ds) s)) → Leads (begun s) (begun (and_part (select (joined_cases ds cs)) s))
  coded_cases no_case Γ h ds s so_far = so_far
  coded_cases (and_case e p cs) Γ h ds s so_far =
      let a = and_parts (is_condition Γ e && types_kept p Γ) (cases_kept cs Γ) h in
      let b = and_parts (is_condition Γ e) (types_kept p Γ) a.0 in
      coded_cases cs Γ a.1 (more_cases ds e p) s
      (then_on so_far (then_on (coded_exp Γ e (agree_first (type_of Γ e) _ b.0) (and_part (select ds) s))
      (then_on (coded_part p Γ b.1 (and_exp e (and_part (select ds) s))) (by instruction.AndChoice _ _ refl))))

  coded_branches : (bs : Branches) (Γ : Environment) → branches_kept bs Γ ≡ true → (ds : Branches) (s : Held)
      → Leads (begun s) (begun (and_part (alt ds) s)) → Leads (begun s) (begun (and_part (alt (joined_branches ds bs)) s))
  coded_branches no_branch Γ h ds s so_far = so_far
  coded_branches (and_branch e w p bs) Γ h ds s so_far =
      let a = and_parts (is_condition Γ e && waiting_kept Γ w && types_kept p Γ) (branches_kept bs Γ) h in
      let b = and_parts (is_condition Γ e && waiting_kept Γ w) (types_kept p Γ) a.0 in
      let c = and_parts (is_condition Γ e) (waiting_kept Γ w) b.0 in
      coded_branches bs Γ a.1 (more_branches ds e w p) s
      (then_on so_far (then_on (coded_exp Γ e (agree_first (type_of Γ e) _ c.0) (and_part (alt ds) s))
      (then_on (coded_wait Γ w c.1 (and_exp e (and_part (alt ds) s)))
      (then_on (coded_part p Γ b.1 (and_wait w (and_exp e (and_part (alt ds) s)))) (by instruction.AndBranch _ _ refl)))))
