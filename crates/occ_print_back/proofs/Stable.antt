-- The elements that a printed program speaks of are in the table already.
use Rattle.std.proofs.Common.{◌≡◌, ℕ, ◌<◌, ◌+◌, Bool, true, false, not, ◌&&◌, ◌||◌, List, [], ◌∷◌, ◌++◌, length, map, Option, None, Some, refl, ap, sym, ◌∙◌, arith, append_assoc}
use Rattle.std.specs.Prelude.{if◌then◌else◌, decimal, codes, slice_index_or, unwrap_or}
use Rattle.std.specs.List.{AllByRecursion}
use Rattle.std.proofs.lemmas.Option.{slice_get-get_or}
use Rattle.occ_print.specs.occ_base.declared.names.Name.{Name}
use Rattle.occ_print.specs.occ_base.Names.{place_of}
use Rattle.occ_print.proofs.from_base.Naming.{with_there}
use Rattle.occ_print.specs.occ_syntax.declared.scope.Kind.{Kind}
use Rattle.occ_print.specs.occ_syntax.declared.scope.Kind.TheVariants as kind
use Rattle.occ_print.specs.occ_syntax.Tree.{Exp, variable, numeral, truth, negation, complement, operation, Waiting, ready, input, output, Tree, skip, stop, assign, receive, send, seq, par, select, alt, declare, connect, Trees, no_tree, and_tree, Cases, no_case, and_case, Branches, no_branch, and_branch}
use Rattle.occ_print.specs.occ_parse_forms.Shape.{Said, Shape}
use Rattle.occ_print.specs.occ_parse_forms.Shape as line
use Rattle.occ_parse.specs.occ_parse_rules.declared.sort.Sort.{Sort}
use Rattle.occ_parse.specs.occ_parse_rules.declared.sort.Sort.TheVariants as sort
use Rattle.occ_parse.specs.occ_parse_rules.Forest.{Forest, no_line}
use Rattle.occ_parse.specs.occ_parse_rules.Places.{Place, Sorts, Indices, places, entry_of}
use Rattle.occ_parse.specs.occ_parse_rules.Types.{sort_here}
use Rattle.occ_parse.specs.occ_parse_unroll.Numbers.{element_text, number_in}
use Rattle.occ_parse.specs.occ_parse_unroll.Elements.{with_place, with_places, params_places, item_places, items_places, operand_places, places_in, values_places, waiting_places, branch_places, Elements, elements, program_places, with_elements}
use Rattle.occ_print.specs.Symbols.{compares_numerals, is_true, is_ready}
use Rattle.occ_print.specs.Known.{ExpIsKnown, WaitingIsKnown, PartIsKnown, PartsAreKnown, CasesAreKnown, BranchesAreKnown}
use Rattle.occ_print.specs.Spelled.{name_text}
use Rattle.occ_print.proofs.Lists.{all-append}
use Rattle.occ_print_back.specs.Said.{item_of, declared_at, declared_of, said, whole_said, bare_guard, waited_for, guard_shape}
use Rattle.occ_print_back.specs.Forest.{height, part_forest, parts_forest, cases_forest, branches_forest}
use Rattle.occ_print_back.specs.Scoped.{IsNumbered}
use Rattle.occ_print_back.specs.Placed.{place_text, IsTable}
use Rattle.occ_print_back.specs.Program.{params_said, body_forest, header_scope}
use Rattle.occ_print_back.proofs.Standing.{not_ready}
use Rattle.occ_print_back.proofs.Tokens.{place_back}

-- ---- the numbers of places

pub element_is : (base : List ℕ) (k : ℕ) → element_text base k ≡ place_text base (Some k)
element_is base k =
    append_assoc (base ++ codes "[") (decimal k) (codes "]") ∙ append_assoc base (codes "[") (decimal k ++ codes "]")

pub index_is : (names : List (List ℕ)) (y : ℕ) → y < length names → slice_index_or names y [] ≡ name_text names y
index_is names y h = sym (ap (λ o. unwrap_or o []) (slice_get-get_or names y [] h))

module _ (names : List (List ℕ)) (P : ℕ → Place) (table : IsTable names P) where
  -- the text of a number, from its place
  number_at : (x y : ℕ) (k : Option ℕ) → x < length names → y < length names → name_text names x ≡ place_text (name_text names y) k → number_in names y k ≡ x
  number_at x y None h l e = sym (place_back names table.distinct y l) ∙ ap (place_of names) (sym e) ∙ place_back names table.distinct x h
  number_at x y (Some k) h l e =
      ap (λ t. place_of names (element_text t k)) (index_is names y l) ∙ ap (place_of names) (element_is (name_text names y) k ∙ sym e) ∙ place_back names table.distinct x h

  pub numbered : IsNumbered (length names) P (number_in names)
  numbered = λ x h. let p = table.places x h in number_at x (P x).name (P x).element h p.there p.text_is

  -- ---- places that leave the table as it is

  abbrev IsStable : Place → Type 0
  IsStable p = with_place names p.name p.element ≡ names

  abbrev pub AreStable : List Place → Type 0
  AreStable ps = AllByRecursion IsStable ps

  both : (xs ys : List Place) → AreStable xs → AreStable ys → AreStable (xs ++ ys)
  both xs ys h k = all-append IsStable xs ys h k

  stable_places : (ps : List Place) → AreStable ps → with_places names ps ≡ names
  stable_places [] h = refl
  stable_places (p ∷ ps) h = ap (λ t. with_places t ps) h.0 ∙ stable_places ps h.1

  stable_at : (x y : ℕ) (k : Option ℕ) → x < length names → y < length names → name_text names x ≡ place_text (name_text names y) k → with_place names y k ≡ names
  stable_at x y None h l e = refl
  stable_at x y (Some k) h l e =
      with_there names (element_text (slice_index_or names y []) k) (omega (arith, h, number_at x y (Some k) h l e))

  stable : (x : ℕ) → x < length names → IsStable (P x)
  stable x h = let p = table.places x h in stable_at x (P x).name (P x).element h p.there p.text_is

  item_stable : (ρ : Indices) (y : ℕ) (k : Option ℕ) → with_place names y k ≡ names → AreStable (item_places ρ (item_of (record { name = y; element = k })))
  item_stable ρ y None h = (h, tt)
  item_stable ρ y (Some k) h = (h, tt)

  item_at : (ρ : Indices) (p : Place) → IsStable p → AreStable (item_places ρ (item_of p))
  item_at ρ p h = item_stable ρ p.name p.element h

  places_stable : (y : ℕ) (k : Option ℕ) → with_place names y k ≡ names → AreStable (places (declared_at y k))
  places_stable y None h = (h, tt)
  places_stable y (Some k) h = (h, tt)

  operand_stable : (o : Option Sort) (ps : List Place) → AreStable ps → AreStable (operand_places o ps)
  operand_stable (Some (sort.Counter b n)) ps h = tt
  operand_stable (Some (sort.Variable w)) ps h = h
  operand_stable (Some (sort.Channel w m)) ps h = h
  operand_stable None ps h = h

  numeral_stable : (Γ : Sorts) (ρ : Indices) (wide : Bool) (bits v : ℕ) → AreStable (places_in Γ ρ (said P wide (numeral bits v)))
  numeral_stable Γ ρ false bits v = tt
  numeral_stable Γ ρ true bits v = tt

  exp_stable : (Γ : Sorts) (ρ : Indices) (wide : Bool) (e : Exp) → ExpIsKnown (length names) e → AreStable (places_in Γ ρ (said P wide e))
  exp_stable Γ ρ wide (variable x) h = operand_stable (sort_here Γ ρ (item_of (P x))) (item_places ρ (item_of (P x))) (item_at ρ (P x) (stable x h))
  exp_stable Γ ρ wide (numeral bits v) h = numeral_stable Γ ρ wide bits v
  exp_stable Γ ρ wide (truth b) h = tt
  exp_stable Γ ρ wide (negation e) h = exp_stable Γ ρ wide e h
  exp_stable Γ ρ wide (complement e) h = exp_stable Γ ρ wide e h
  exp_stable Γ ρ wide (operation o left right) h =
      let w = wide || compares_numerals o left right in
      both (places_in Γ ρ (said P w left)) (places_in Γ ρ (said P w right)) (exp_stable Γ ρ w left h.0) (exp_stable Γ ρ w right h.1)

  left_stable : (ρ : Indices) (xs : List ℕ) → AllByRecursion (λ (x : ℕ). x < length names) xs → AreStable (items_places ρ (map (λ x. item_of (P x)) xs))
  left_stable ρ [] h = tt
  left_stable ρ (x ∷ xs) h = both (item_places ρ (item_of (P x))) (items_places ρ (map (λ y. item_of (P y)) xs)) (item_at ρ (P x) (stable x h.0)) (left_stable ρ xs h.1)

  values_stable : (Γ : Sorts) (ρ : Indices) (xs : List ℕ) (es : List Exp) → AllByRecursion (ExpIsKnown (length names)) es
      → AreStable (values_places Γ ρ (map (λ x. item_of (P x)) xs) (map (whole_said P) es))
  values_stable Γ ρ [] es h = tt
  values_stable Γ ρ (x ∷ xs) [] h = tt
  values_stable Γ ρ (x ∷ xs) (e ∷ es) h =
      both (places_in Γ ρ (whole_said P e)) (values_places Γ ρ (map (λ y. item_of (P y)) xs) (map (whole_said P) es)) (exp_stable Γ ρ false e h.0) (values_stable Γ ρ xs es h.1)

  pair_stable : (ρ : Indices) (c x : ℕ) → c < length names → x < length names → AreStable (item_places ρ (item_of (P c)) ++ item_places ρ (item_of (P x)))
  pair_stable ρ c x h k = both (item_places ρ (item_of (P c))) (item_places ρ (item_of (P x))) (item_at ρ (P c) (stable c h)) (item_at ρ (P x) (stable x k))

  sent_stable : (Γ : Sorts) (ρ : Indices) (c : ℕ) (e : Exp) → c < length names → ExpIsKnown (length names) e → AreStable (item_places ρ (item_of (P c)) ++ places_in Γ ρ (whole_said P e))
  sent_stable Γ ρ c e h k = both (item_places ρ (item_of (P c))) (places_in Γ ρ (whole_said P e)) (item_at ρ (P c) (stable c h)) (exp_stable Γ ρ false e k)

  waiting_stable : (Γ : Sorts) (ρ : Indices) (w : Waiting) → WaitingIsKnown (length names) w → AreStable (waiting_places Γ ρ (waited_for P w))
  waiting_stable Γ ρ ready h = tt
  waiting_stable Γ ρ (input c x) h = pair_stable ρ c x h.0 h.1
  waiting_stable Γ ρ (output c e) h = sent_stable Γ ρ c e h.0 h.1

  bare_stable : (Γ : Sorts) (ρ : Indices) (e : Exp) (w : Waiting) (below : Elements) → (is_true e && not (is_ready w)) ≡ true → WaitingIsKnown (length names) w
      → AreStable (below.first Γ ρ) → AreStable (branch_places (bare_guard P w) below Γ ρ)
  bare_stable Γ ρ e ready below b h k = absurd (not_ready e b)
  bare_stable Γ ρ e (input c x) below b h k = both (item_places ρ (item_of (P c)) ++ item_places ρ (item_of (P x))) (below.first Γ ρ) (pair_stable ρ c x h.0 h.1) k
  bare_stable Γ ρ e (output c v) below b h k = both (item_places ρ (item_of (P c)) ++ places_in Γ ρ (whole_said P v)) (below.first Γ ρ) (sent_stable Γ ρ c v h.0 h.1) k

  guard_stable : (Γ : Sorts) (ρ : Indices) (e : Exp) (w : Waiting) (below : Elements) (b : Bool) → (is_true e && not (is_ready w)) ≡ b → ExpIsKnown (length names) e → WaitingIsKnown (length names) w
      → AreStable (below.first Γ ρ) → AreStable (branch_places (if b then bare_guard P w else line.guard (whole_said P e) (waited_for P w)) below Γ ρ)
  guard_stable Γ ρ e w below true b h k l = bare_stable Γ ρ e w below b k l
  guard_stable Γ ρ e w below false b h k l =
      both (places_in Γ ρ (whole_said P e) ++ waiting_places Γ ρ (waited_for P w)) (below.first Γ ρ)
      (both (places_in Γ ρ (whole_said P e)) (waiting_places Γ ρ (waited_for P w)) (exp_stable Γ ρ false e h) (waiting_stable Γ ρ w k)) l

  declared_stable : (x : ℕ) → x < length names → AreStable (places (declared_of (P x)) ++ [])
  declared_stable x h = both (places (declared_of (P x))) [] (places_stable (P x).name (P x).element (stable x h)) tt

  mutual
    part_stable : (Γ outer : Sorts) (ρ : Indices) (n : ℕ) (p : Tree) (rest : Forest) → PartIsKnown (length names) p → AreStable ((elements rest).parts outer outer ρ)
        → AreStable ((elements (part_forest P n p rest)).parts outer Γ ρ)
    part_stable Γ outer ρ n skip rest h k = k
    part_stable Γ outer ρ n stop rest h k = k
    part_stable Γ outer ρ n (assign xs es) rest h k =
        let left = items_places ρ (map (λ x. item_of (P x)) xs) in
        let right = values_places Γ ρ (map (λ x. item_of (P x)) xs) (map (whole_said P) es) in
        both (left ++ right) ((elements rest).parts outer outer ρ) (both left right (left_stable ρ xs h.0) (values_stable Γ ρ xs es h.1)) k
    part_stable Γ outer ρ n (receive c x) rest h k =
        both (item_places ρ (item_of (P c)) ++ item_places ρ (item_of (P x))) ((elements rest).parts outer outer ρ) (pair_stable ρ c x h.0 h.1) k
    part_stable Γ outer ρ n (send c e) rest h k =
        both (item_places ρ (item_of (P c)) ++ places_in Γ ρ (whole_said P e)) ((elements rest).parts outer outer ρ) (sent_stable Γ ρ c e h.0 h.1) k
    part_stable Γ outer ρ n (seq ps) rest h k = both ((elements (parts_forest P (n + 1) ps)).parts Γ Γ ρ) ((elements rest).parts outer outer ρ) (parts_stable Γ ρ (n + 1) ps h) k
    part_stable Γ outer ρ n (par ps) rest h k = both ((elements (parts_forest P (n + 1) ps)).parts Γ Γ ρ) ((elements rest).parts outer outer ρ) (parts_stable Γ ρ (n + 1) ps h) k
    part_stable Γ outer ρ n (select cs) rest h k = both ((elements (cases_forest P (n + 1) cs)).cases Γ ρ) ((elements rest).parts outer outer ρ) (cases_stable Γ ρ (n + 1) cs h) k
    part_stable Γ outer ρ n (alt bs) rest h k = both ((elements (branches_forest P (n + 1) bs)).branches Γ ρ) ((elements rest).parts outer outer ρ) (branches_stable Γ ρ (n + 1) bs h) k
    part_stable Γ outer ρ n (declare x w p) rest h k =
        let Δ = entry_of (kind.Var w) (declared_of (P x)) ∷ Γ in
        both (places (declared_of (P x)) ++ []) ((elements (part_forest P (n + 1) p rest)).parts outer Δ ρ) (declared_stable x h.0) (part_stable Δ outer ρ (n + 1) p rest h.1 k)
    part_stable Γ outer ρ n (connect c w p) rest h k =
        let Δ = entry_of (kind.Chan w None) (declared_of (P c)) ∷ Γ in
        both (places (declared_of (P c)) ++ []) ((elements (part_forest P (n + 1) p rest)).parts outer Δ ρ) (declared_stable c h.0) (part_stable Δ outer ρ (n + 1) p rest h.1 k)

    first_stable : (Γ : Sorts) (ρ : Indices) (n : ℕ) (p : Tree) → PartIsKnown (length names) p → AreStable ((elements (part_forest P n p no_line)).first Γ ρ)
    first_stable Γ ρ n skip h = tt
    first_stable Γ ρ n stop h = tt
    first_stable Γ ρ n (assign xs es) h =
        both (items_places ρ (map (λ x. item_of (P x)) xs)) (values_places Γ ρ (map (λ x. item_of (P x)) xs) (map (whole_said P) es)) (left_stable ρ xs h.0) (values_stable Γ ρ xs es h.1)
    first_stable Γ ρ n (receive c x) h = pair_stable ρ c x h.0 h.1
    first_stable Γ ρ n (send c e) h = sent_stable Γ ρ c e h.0 h.1
    first_stable Γ ρ n (seq ps) h = parts_stable Γ ρ (n + 1) ps h
    first_stable Γ ρ n (par ps) h = parts_stable Γ ρ (n + 1) ps h
    first_stable Γ ρ n (select cs) h = cases_stable Γ ρ (n + 1) cs h
    first_stable Γ ρ n (alt bs) h = branches_stable Γ ρ (n + 1) bs h
    first_stable Γ ρ n (declare x w p) h =
        let Δ = entry_of (kind.Var w) (declared_of (P x)) ∷ Γ in
        both (places (declared_of (P x)) ++ []) ((elements (part_forest P (n + 1) p no_line)).first Δ ρ) (declared_stable x h.0) (first_stable Δ ρ (n + 1) p h.1)
    first_stable Γ ρ n (connect c w p) h =
        let Δ = entry_of (kind.Chan w None) (declared_of (P c)) ∷ Γ in
        both (places (declared_of (P c)) ++ []) ((elements (part_forest P (n + 1) p no_line)).first Δ ρ) (declared_stable c h.0) (first_stable Δ ρ (n + 1) p h.1)

    parts_stable : (Γ : Sorts) (ρ : Indices) (n : ℕ) (ps : Trees) → PartsAreKnown (length names) ps → AreStable ((elements (parts_forest P n ps)).parts Γ Γ ρ)
    parts_stable Γ ρ n no_tree h = tt
    parts_stable Γ ρ n (and_tree p ps) h = part_stable Γ Γ ρ n p (parts_forest P (n + height p) ps) h.0 (parts_stable Γ ρ (n + height p) ps h.1)

    cases_stable : (Γ : Sorts) (ρ : Indices) (n : ℕ) (cs : Cases) → CasesAreKnown (length names) cs → AreStable ((elements (cases_forest P n cs)).cases Γ ρ)
    cases_stable Γ ρ n no_case h = tt
    cases_stable Γ ρ n (and_case e p cs) h =
        let front = places_in Γ ρ (whole_said P e) in
        let below = (elements (part_forest P (n + 1) p no_line)).first Γ ρ in
        both (front ++ below) ((elements (cases_forest P (n + 1 + height p) cs)).cases Γ ρ) (both front below (exp_stable Γ ρ false e h.0) (first_stable Γ ρ (n + 1) p h.1))
        (cases_stable Γ ρ (n + 1 + height p) cs h.2)

    branches_stable : (Γ : Sorts) (ρ : Indices) (n : ℕ) (bs : Branches) → BranchesAreKnown (length names) bs → AreStable ((elements (branches_forest P n bs)).branches Γ ρ)
    branches_stable Γ ρ n no_branch h = tt
    branches_stable Γ ρ n (and_branch e w p bs) h =
        let below = elements (part_forest P (n + 1) p no_line) in
        both (branch_places (guard_shape P e w) below Γ ρ) ((elements (branches_forest P (n + 1 + height p) bs)).branches Γ ρ)
        (guard_stable Γ ρ e w below (is_true e && not (is_ready w)) refl h.0 h.1 (first_stable Γ ρ (n + 1) p h.2)) (branches_stable Γ ρ (n + 1 + height p) bs h.3)

  params_stable : (ps : List (Name × Kind)) → AllByRecursion (λ (p : Name × Kind). p.0.0 < length names) ps → AreStable (params_places (params_said P ps))
  params_stable [] h = tt
  params_stable (p ∷ ps) h =
      both (places (declared_of (P p.0.0))) (params_places (params_said P ps)) (places_stable (P p.0.0).name (P p.0.0).element (stable p.0.0 h.0)) (params_stable ps h.1)

  pub table_stays : (number : ℕ) (ps : List (Name × Kind)) (body : Tree) → AllByRecursion (λ (p : Name × Kind). p.0.0 < length names) ps → PartIsKnown (length names) body
      → with_elements names (params_said P ps) (body_forest P number body) ≡ names
  table_stays number ps body h k =
      stable_places (program_places (params_said P ps) (body_forest P number body))
      (both (params_places (params_said P ps)) ((elements (body_forest P number body)).first (header_scope P ps) (λ i. 0)) (params_stable ps h)
      (first_stable (header_scope P ps) (λ i. 0) (number + 1) body k))
