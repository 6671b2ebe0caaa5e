-- Two ways in which the numbers of names are places give one forest, where they agree on the names of a part.
use Rattle.std.proofs.Common.{◌≡◌, ℕ, ◌<◌, ◌+◌, Bool, true, false, not, ◌&&◌, ◌||◌, List, [], ◌∷◌, ◌++◌, map, Option, None, Some, refl, ap, ◌∙◌, subst}
use Rattle.std.specs.Prelude.{if◌then◌else◌}
use Rattle.std.specs.List.{AllByRecursion, flat_map}
use Rattle.occ_script_write.specs.occ_syntax.declared.scope.Kind.{Kind}
use Rattle.occ_script_write.specs.occ_syntax.declared.scope.Kind.TheVariants as sort
use Rattle.occ_script_write.specs.occ_syntax.Tree.{Exp, variable, numeral, truth, negation, complement, operation, Waiting, ready, input, output, Tree, skip, stop, assign, receive, send, seq, par, select, alt, declare, connect, Trees, no_tree, and_tree, Cases, no_case, and_case, Branches, no_branch, and_branch}
use Rattle.occ_script_write.specs.occ_parse_forms.declared.form.Group.TheVariants as word
use Rattle.occ_script_write.specs.occ_parse_forms.declared.form.Item.{Item}
use Rattle.occ_script_write.specs.occ_parse_forms.Shape as line
use Rattle.occ_script.specs.occ_parse_part.Arrays.{item_array, declared_array, line_arrays}
use Rattle.occ_print_back.specs.occ_parse_rules.Forest.{Laid, Forest, no_line, and_line, lines_at}
use Rattle.occ_print_back.specs.occ_parse_rules.Names.{items_in, items_in_all, items_of_waiting}
use Rattle.occ_print_back.specs.occ_parse_rules.Places.{Place}
use Rattle.occ_script_write.specs.occ_print.Known.{ExpIsKnown, WaitingIsKnown, PartIsKnown, PartsAreKnown, CasesAreKnown, BranchesAreKnown}
use Rattle.occ_script_write.specs.occ_print.Symbols.{compares_numerals, is_true, is_ready}
use Rattle.occ_print_back.specs.Forest.{height, part_forest, parts_forest, cases_forest, branches_forest}
use Rattle.occ_print_back.specs.Said.{item_of, declared_at, declared_of, said, whole_said, assign_shape, receive_shape, send_shape, bare_guard, waited_for, guard_shape, declaration_shape}
use Rattle.occ_print_back.proofs.Laying.{own_lines, lines_rest}
use Rattle.occ_print_back.proofs.Standing.{not_ready}

pub front_of : {A : Type 0} (R : A → Type 0) (xs ys : List A) → AllByRecursion R (xs ++ ys) → AllByRecursion R xs
front_of R [] ys h = tt
front_of R (x ∷ xs) ys h = (h.0, front_of R xs ys h.1)

pub back_of : {A : Type 0} (R : A → Type 0) (xs ys : List A) → AllByRecursion R (xs ++ ys) → AllByRecursion R ys
back_of R [] ys h = h
back_of R (x ∷ xs) ys h = back_of R xs ys h.1

module _ (Q : ℕ → Type 0) where
  -- the arrays of items and of lines are covered
  abbrev pub ItemIn : Item → Type 0
  ItemIn i = AllByRecursion Q (item_array i)

  abbrev pub LineIn : Laid → Type 0
  LineIn l = AllByRecursion Q (line_arrays l.shape)

  apart : {A : Type 0} (f : A → List ℕ) (xs : List A) → AllByRecursion Q (flat_map f xs) → AllByRecursion (λ x. AllByRecursion Q (f x)) xs
  apart f [] h = tt
  apart f (x ∷ xs) h = (front_of Q (f x) (flat_map f xs) h, apart f xs (back_of Q (f x) (flat_map f xs) h))

  pub lines_apart : (ls : List Laid) → AllByRecursion Q (flat_map (λ (l : Laid). line_arrays l.shape) ls) → AllByRecursion LineIn ls
  lines_apart ls h = apart (λ (l : Laid). line_arrays l.shape) ls h

  module _ (count : ℕ) (P R : ℕ → Place) (agree : (x : ℕ) → x < count → ItemIn (item_of (P x)) → R x ≡ P x) where
    abbrev AreIn : List Item → Type 0
    AreIn items = AllByRecursion ItemIn items

    exp_same : (wide : Bool) (e : Exp) → ExpIsKnown count e → AreIn (items_in (said P wide e)) → said R wide e ≡ said P wide e
    exp_same wide (variable x) k h = ap (λ (p : Place). line.item (item_of p)) (agree x k h.0)
    exp_same wide (numeral bits v) k h = refl
    exp_same wide (truth b) k h = refl
    exp_same wide (negation e) k h = ap line.negation (exp_same wide e k h)
    exp_same wide (complement e) k h = ap line.complement (exp_same wide e k h)
    exp_same wide (operation o left right) k h =
        let w = wide || compares_numerals o left right in
        let l = items_in (said P w left) in
        let r = items_in (said P w right) in
        ap (λ d. line.operation o d (said R w right)) (exp_same w left k.0 (front_of ItemIn l r h)) ∙ ap (line.operation o (said P w left)) (exp_same w right k.1 (back_of ItemIn l r h))

    items_same : (xs : List ℕ) → AllByRecursion (λ (x : ℕ). x < count) xs → AreIn (map (λ x. item_of (P x)) xs) → map (λ x. item_of (R x)) xs ≡ map (λ x. item_of (P x)) xs
    items_same [] k h = refl
    items_same (x ∷ xs) k h =
        ap (λ (p : Place). item_of p ∷ map (λ y. item_of (R y)) xs) (agree x k.0 h.0) ∙ ap (λ is. item_of (P x) ∷ is) (items_same xs k.1 h.1)

    exps_same : (es : List Exp) → AllByRecursion (ExpIsKnown count) es → AreIn (items_in_all (map (whole_said P) es)) → map (whole_said R) es ≡ map (whole_said P) es
    exps_same [] k h = refl
    exps_same (e ∷ es) k h =
        let l = items_in (whole_said P e) in
        let r = items_in_all (map (whole_said P) es) in
        ap (λ d. d ∷ map (whole_said R) es) (exp_same false e k.0 (front_of ItemIn l r h)) ∙ ap (λ ds. whole_said P e ∷ ds) (exps_same es k.1 (back_of ItemIn l r h))

    assign_same : (xs : List ℕ) (es : List Exp) → AllByRecursion (λ (x : ℕ). x < count) xs → AllByRecursion (ExpIsKnown count) es
        → AreIn (map (λ x. item_of (P x)) xs ++ items_in_all (map (whole_said P) es)) → assign_shape R xs es ≡ assign_shape P xs es
    assign_same xs es k j h =
        let l = map (λ x. item_of (P x)) xs in
        let r = items_in_all (map (whole_said P) es) in
        ap (λ is. line.assign is (map (whole_said R) es)) (items_same xs k (front_of ItemIn l r h)) ∙ ap (line.assign l) (exps_same es j (back_of ItemIn l r h))

    receive_same : (c x : ℕ) → c < count → x < count → AreIn (item_of (P c) ∷ item_of (P x) ∷ []) → receive_shape R c x ≡ receive_shape P c x
    receive_same c x k j h =
        ap (λ (p : Place). line.receive (item_of p) (item_of (R x))) (agree c k h.0) ∙ ap (λ (p : Place). line.receive (item_of (P c)) (item_of p)) (agree x j h.1.0)

    send_same : (c : ℕ) (e : Exp) → c < count → ExpIsKnown count e → AreIn (item_of (P c) ∷ items_in (whole_said P e)) → send_shape R c e ≡ send_shape P c e
    send_same c e k j h = ap (λ (p : Place). line.send (item_of p) (whole_said R e)) (agree c k h.0) ∙ ap (line.send (item_of (P c))) (exp_same false e j h.1)

    waited_same : (w : Waiting) → WaitingIsKnown count w → AreIn (items_of_waiting (waited_for P w)) → waited_for R w ≡ waited_for P w
    waited_same ready k h = refl
    waited_same (input c x) k h =
        ap (λ (p : Place). line.input (item_of p) (item_of (R x))) (agree c k.0 h.0) ∙ ap (λ (p : Place). line.input (item_of (P c)) (item_of p)) (agree x k.1 h.1.0)
    waited_same (output c e) k h = ap (λ (p : Place). line.output (item_of p) (whole_said R e)) (agree c k.0 h.0) ∙ ap (line.output (item_of (P c))) (exp_same false e k.1 h.1)

    bare_same : (e : Exp) (w : Waiting) → (is_true e && not (is_ready w)) ≡ true → WaitingIsKnown count w → AllByRecursion Q (line_arrays (bare_guard P w)) → bare_guard R w ≡ bare_guard P w
    bare_same e ready b k h = absurd (not_ready e b)
    bare_same e (input c x) b k h = receive_same c x k.0 k.1 (apart item_array (item_of (P c) ∷ item_of (P x) ∷ []) h)
    bare_same e (output c v) b k h = send_same c v k.0 k.1 (apart item_array (item_of (P c) ∷ items_in (whole_said P v)) h)

    guard_at : (e : Exp) (w : Waiting) (b : Bool) → (is_true e && not (is_ready w)) ≡ b → ExpIsKnown count e → WaitingIsKnown count w
        → AllByRecursion Q (line_arrays (if b then bare_guard P w else line.guard (whole_said P e) (waited_for P w)))
        → (if b then bare_guard R w else line.guard (whole_said R e) (waited_for R w)) ≡ (if b then bare_guard P w else line.guard (whole_said P e) (waited_for P w))
    guard_at e w true f k j h = bare_same e w f j h
    guard_at e w false f k j h =
        let l = items_in (whole_said P e) in
        let r = items_of_waiting (waited_for P w) in
        let all = apart item_array (l ++ r) h in
        ap (λ d. line.guard d (waited_for R w)) (exp_same false e k (front_of ItemIn l r all)) ∙ ap (line.guard (whole_said P e)) (waited_same w j (back_of ItemIn l r all))

    guard_same : (e : Exp) (w : Waiting) → ExpIsKnown count e → WaitingIsKnown count w → AllByRecursion Q (line_arrays (guard_shape P e w)) → guard_shape R e w ≡ guard_shape P e w
    guard_same e w k j h = guard_at e w (is_true e && not (is_ready w)) refl k j h

    declared_in : (y : ℕ) (k : Option ℕ) → AllByRecursion Q (declared_array (declared_at y k) ++ []) → ItemIn (item_of (record { name = y; element = k }))
    declared_in y None h = tt
    declared_in y (Some k) h = h

    declaration_same : (x : ℕ) (k : Kind) → x < count → AllByRecursion Q (line_arrays (declaration_shape P x k)) → declaration_shape R x k ≡ declaration_shape P x k
    declaration_same x k l h = ap (λ (p : Place). line.declare k (declared_of p ∷ [])) (agree x l (declared_in (P x).name (P x).element h))

    -- the lines below a line, and those behind
    below_in : (level : ℕ) (below rest : Forest) → AllByRecursion LineIn (lines_at (level + 1) below ++ lines_at level rest) → AllByRecursion LineIn (lines_at (level + 1) below)
    below_in level below rest h = front_of LineIn (lines_at (level + 1) below) (lines_at level rest) h

    rest_in : (level : ℕ) (below rest : Forest) → AllByRecursion LineIn (lines_at (level + 1) below ++ lines_at level rest) → AllByRecursion LineIn (lines_at level rest)
    rest_in level below rest h = back_of LineIn (lines_at (level + 1) below) (lines_at level rest) h

    mutual
      pub part_same : (level n : ℕ) (p : Tree) (rest : Forest) → PartIsKnown count p → AllByRecursion LineIn (lines_at level (part_forest P n p rest)) → part_forest R n p rest ≡ part_forest P n p rest
      part_same level n skip rest k h = refl
      part_same level n stop rest k h = refl
      part_same level n (assign xs es) rest k h =
          ap (λ s. and_line n s no_line rest) (assign_same xs es k.0 k.1 (apart item_array (map (λ x. item_of (P x)) xs ++ items_in_all (map (whole_said P) es)) h.0))
      part_same level n (receive c x) rest k h = ap (λ s. and_line n s no_line rest) (receive_same c x k.0 k.1 (apart item_array (item_of (P c) ∷ item_of (P x) ∷ []) h.0))
      part_same level n (send c e) rest k h = ap (λ s. and_line n s no_line rest) (send_same c e k.0 k.1 (apart item_array (item_of (P c) ∷ items_in (whole_said P e)) h.0))
      part_same level n (seq ps) rest k h = ap (λ f. and_line n (line.group word.Seq None) f rest) (parts_same (level + 1) (n + 1) ps k (below_in level (parts_forest P (n + 1) ps) rest h.1))
      part_same level n (par ps) rest k h = ap (λ f. and_line n (line.group word.Par None) f rest) (parts_same (level + 1) (n + 1) ps k (below_in level (parts_forest P (n + 1) ps) rest h.1))
      part_same level n (select cs) rest k h = ap (λ f. and_line n (line.group word.If None) f rest) (cases_same (level + 1) (n + 1) cs k (below_in level (cases_forest P (n + 1) cs) rest h.1))
      part_same level n (alt bs) rest k h = ap (λ f. and_line n (line.group word.Alt None) f rest) (branches_same (level + 1) (n + 1) bs k (below_in level (branches_forest P (n + 1) bs) rest h.1))
      part_same level n (declare x w p) rest k h =
          ap (λ s. and_line n s no_line (part_forest R (n + 1) p rest)) (declaration_same x (sort.Var w) k.0 h.0)
          ∙ ap (and_line n (declaration_shape P x (sort.Var w)) no_line) (part_same level (n + 1) p rest k.1 h.1)
      part_same level n (connect c w p) rest k h =
          ap (λ s. and_line n s no_line (part_forest R (n + 1) p rest)) (declaration_same c (sort.Chan w None) k.0 h.0)
          ∙ ap (and_line n (declaration_shape P c (sort.Chan w None)) no_line) (part_same level (n + 1) p rest k.1 h.1)

      parts_same : (level n : ℕ) (ps : Trees) → PartsAreKnown count ps → AllByRecursion LineIn (lines_at level (parts_forest P n ps)) → parts_forest R n ps ≡ parts_forest P n ps
      parts_same level n no_tree k h = refl
      parts_same level n (and_tree p ps) k h =
          let others = parts_forest P (n + height p) ps in
          let behind = back_of LineIn (own_lines P level n p) (lines_at level others) (subst (AllByRecursion LineIn) (lines_rest P level n p others) h) in
          ap (part_forest R n p) (parts_same level (n + height p) ps k.1 behind) ∙ part_same level n p others k.0 h

      cases_same : (level n : ℕ) (cs : Cases) → CasesAreKnown count cs → AllByRecursion LineIn (lines_at level (cases_forest P n cs)) → cases_forest R n cs ≡ cases_forest P n cs
      cases_same level n no_case k h = refl
      cases_same level n (and_case e p cs) k h =
          let below = part_forest P (n + 1) p no_line in
          let others = cases_forest P (n + 1 + height p) cs in
          ap (λ d. and_line n (line.condition d) (part_forest R (n + 1) p no_line) (cases_forest R (n + 1 + height p) cs)) (exp_same false e k.0 (apart item_array (items_in (whole_said P e)) h.0))
          ∙ ap (λ f. and_line n (line.condition (whole_said P e)) f (cases_forest R (n + 1 + height p) cs)) (part_same (level + 1) (n + 1) p no_line k.1 (below_in level below others h.1))
          ∙ ap (and_line n (line.condition (whole_said P e)) below) (cases_same level (n + 1 + height p) cs k.2 (rest_in level below others h.1))

      branches_same : (level n : ℕ) (bs : Branches) → BranchesAreKnown count bs → AllByRecursion LineIn (lines_at level (branches_forest P n bs)) → branches_forest R n bs ≡ branches_forest P n bs
      branches_same level n no_branch k h = refl
      branches_same level n (and_branch e w p bs) k h =
          let below = part_forest P (n + 1) p no_line in
          let others = branches_forest P (n + 1 + height p) bs in
          ap (λ s. and_line n s (part_forest R (n + 1) p no_line) (branches_forest R (n + 1 + height p) bs)) (guard_same e w k.0 k.1 h.0)
          ∙ ap (λ f. and_line n (guard_shape P e w) f (branches_forest R (n + 1 + height p) bs)) (part_same (level + 1) (n + 1) p no_line k.2 (below_in level below others h.1))
          ∙ ap (and_line n (guard_shape P e w) below) (branches_same level (n + 1 + height p) bs k.3 (rest_in level below others h.1))
