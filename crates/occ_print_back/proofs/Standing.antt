-- The lines of a printed part stand for that part.
use Rattle.std.proofs.Common.{◌≡◌, ℕ, ◌<◌, ◌+◌, Bool, true, false, not, ◌&&◌, eqb, List, [], ◌∷◌, ◌++◌, map, Option, None, Some, refl, ap, sym, ◌∙◌}
use Rattle.std.specs.Prelude.{unwrap_or, if◌then◌else◌}
use Rattle.std.specs.List.{AllByRecursion, flat_map}
use Rattle.std.proofs.lemmas.Bool.{and_parts, eqb-true, eq-eqb, false_from_ne_true}
use Rattle.occ_print.specs.occ_base.declared.names.Name.{Name}
use Rattle.occ_print.specs.occ_base.declared.width.Width.{Width}
use Rattle.occ_print.specs.occ_base.declared.width.Width.TheVariants.{Bool as TruthValue}
use Rattle.occ_print.specs.occ_syntax.declared.scope.Kind.{Kind}
use Rattle.occ_print.specs.occ_syntax.declared.scope.Kind.TheVariants as kind
use Rattle.occ_print.specs.occ_syntax.Scopes.{Environment, with_name, channel_kind, variable_width, channel_width, allows}
use Rattle.occ_print.specs.occ_base.declared.event.Dir.TheVariants as dir
use Rattle.occ_print.specs.occ_syntax.Declarations.{declaring, declaring_all}
use Rattle.occ_print.specs.occ_syntax.Tree.{Exp, variable, numeral, truth, negation, complement, operation, Waiting, ready, input, output, Tree, skip, stop, assign, receive, send, seq, par, select, alt, declare, connect, Trees, no_tree, and_tree, Cases, no_case, and_case, Branches, no_branch, and_branch}
use Rattle.occ_print.specs.occ_syntax.Types.{type_of, agree, is_condition, output_kept, waiting_kept, pairs_kept, is_pair, can_declare, types_kept, all_types_kept, cases_kept, branches_kept}
use Rattle.occ_print.specs.occ_parse_forms.Shape.{Said, Shape}
use Rattle.occ_print.specs.occ_parse_forms.Shape as line
use Rattle.occ_parse.specs.occ_parse_rules.Forest.{Forest, no_line}
use Rattle.occ_parse.specs.occ_parse_rules.Places.{Place, Sorts, Indices, declares, sort_at, sort_of, entry_of}
use Rattle.occ_parse.specs.occ_parse_rules.Types.{variable_sort, channel_sort, variable_here, channel_here}
use Rattle.occ_parse.specs.occ_parse_rules.Unrolled.{Numbers, Lines, named, item_number, expression, condition, value, values, waited, branch_line, unrolled, slot as slot_tree, first_tree as first_of}
use Rattle.occ_print.specs.Symbols.{is_true, is_ready}
use Rattle.occ_print.specs.Known.{ExpIsKnown, WaitingIsKnown, PartIsKnown, PartsAreKnown, CasesAreKnown, BranchesAreKnown}
use Rattle.occ_print_back.specs.Said.{item_of, declared_at, declared_of, whole_said, bare_guard, waited_for, guard_shape}
use Rattle.occ_print_back.specs.Forest.{height, part_forest, parts_forest, cases_forest, branches_forest}
use Rattle.occ_print_back.specs.Scoped.{IsNumbered, IsScope, sort_in}
use Rattle.occ_print_back.proofs.Widths.{item_back, sort_back, variable_back, expression_back}
use Rattle.occ_print.proofs.from_syntax.Widths.{same_widths}

-- ---- a declaration more

eqb-refl : (n : ℕ) → eqb n n ≡ true
eqb-refl n = eq-eqb n n refl

-- a place is declared by the declaration of one exactly where it is that one
declares_itself : (x : ℕ) (k : Option ℕ) → declares (declared_at x k) x k ≡ true
declares_itself x None = eqb-refl x
declares_itself x (Some k) = ap (λ t. t && eqb k k) (eqb-refl x) ∙ eqb-refl k

declares_names : (x : ℕ) (k : Option ℕ) (y : ℕ) (j : Option ℕ) → declares (declared_at x k) y j ≡ true → (y ≡ x) × (j ≡ k)
declares_names x None y None h = (eqb-true y x h, refl)
declares_names x None y (Some j) h = absurd (cc)
declares_names x (Some k) y None h = absurd (cc)
declares_names x (Some k) y (Some j) h =
    let parts = and_parts (eqb y x) (eqb j k) h in
    (eqb-true y x parts.0, ap Some (eqb-true j k parts.1))

module _ (count : ℕ) (P : ℕ → Place) (N : Numbers) (numbered : IsNumbered count P N) where
  declares_is : (x y : ℕ) → x < count → y < count → (b : Bool) → eqb y x ≡ b → declares (declared_of (P x)) (P y).name (P y).element ≡ b
  declares_is x y h k true e =
      let f : y ≡ x = eqb-true y x e in
      ap (λ z. declares (declared_of (P x)) (P z).name (P z).element) f ∙ declares_itself (P x).name (P x).element
  declares_is x y h k false e = false_from_ne_true _ (λ d.
      let p = declares_names (P x).name (P x).element (P y).name (P y).element d in
      let f : y ≡ x = sym (numbered y k) ∙ ap (λ n. N n (P y).element) p.0 ∙ ap (λ j. N (P x).name j) p.1 ∙ numbered x h in
      let g : eqb y x ≡ true = ap (λ z. eqb z x) f ∙ eqb-refl x in
      absurd (cc))

  scope_at : (E : Environment) (Γ : Sorts) (x : ℕ) (k : Kind) → x < count → IsScope count P E Γ → (y : ℕ) → y < count → (b : Bool) → eqb y x ≡ b
      → sort_at (entry_of k (declared_of (P x)) ∷ Γ) (P y).name (P y).element ≡ sort_in (with_name E x k y)
  scope_at E Γ x k h scope y l true e =
      ap (λ t. if t then Some (sort_of k) else sort_at Γ (P y).name (P y).element) (declares_is x y h l true e) ∙ ap (λ t. sort_in (if t then Some k else E y)) (sym e)
  scope_at E Γ x k h scope y l false e =
      ap (λ t. if t then Some (sort_of k) else sort_at Γ (P y).name (P y).element) (declares_is x y h l false e) ∙ scope y l ∙ ap (λ t. sort_in (if t then Some k else E y)) (sym e)

  pub scope_more : (E : Environment) (Γ : Sorts) (x : ℕ) (k : Kind) → x < count → IsScope count P E Γ
      → IsScope count P (with_name E x k) (entry_of k (declared_of (P x)) ∷ Γ)
  scope_more E Γ x k h scope = λ y l. scope_at E Γ x k h scope y l (eqb y x) refl

  pub named_is : (x : ℕ) (k : Kind) (y : ℕ) (j : Option ℕ) → N y j ≡ x → named N k (declared_at y j) ≡ (record { 0 = x }, k) ∷ []
  named_is x k y None e = ap (λ n. (record { 0 = n }, k) ∷ []) e
  named_is x k y (Some j) e = ap (λ n. (record { 0 = n }, k) ∷ []) e

  pub all_named_is : (x : ℕ) (k : Kind) → x < count → flat_map (named N k) (declared_of (P x) ∷ []) ≡ (record { 0 = x }, k) ∷ []
  all_named_is x k h = ap (λ t. t ++ []) (named_is x k (P x).name (P x).element (numbered x h))

-- ---- values

pub agree_is : (a b : Option Width) → agree a b ≡ true → (w : Width) × (a ≡ Some w) × (b ≡ Some w)
agree_is (Some a) (Some b) h = (b, ap Some (same_widths a b h), refl)
agree_is (Some a) None h = absurd (cc)
agree_is None b h = absurd (cc)

pub channel_sort_is : (k : Option Kind) (w : Width) → channel_kind k ≡ Some w → channel_sort (sort_in k) ≡ Some w
channel_sort_is None w e = absurd (cc)
channel_sort_is (Some (kind.Var v)) w e = absurd (cc)
channel_sort_is (Some (kind.Chan v d)) w e = e

-- a declaration round what waits for its process
pub declaring_last : (ds : List (Name × Kind)) (x : ℕ) (k : Kind) (p : Tree) → declaring_all (ds ++ (record { 0 = x }, k) ∷ []) p ≡ declaring_all ds (declaring x k p)
declaring_last [] x k p = refl
declaring_last (d ∷ ds) x k p = ap (declaring d.0.0 d.1) (declaring_last ds x k p)

-- a condition that is left out is TRUE
left_out_is : (e : Exp) (w : Waiting) → (is_true e && not (is_ready w)) ≡ true → e ≡ truth true
left_out_is (truth true) w h = refl
left_out_is (truth false) w h = absurd (cc)
left_out_is (variable x) w h = absurd (cc)
left_out_is (numeral bits v) w h = absurd (cc)
left_out_is (negation e) w h = absurd (cc)
left_out_is (complement e) w h = absurd (cc)
left_out_is (operation o l r) w h = absurd (cc)

pub not_ready : (e : Exp) → (is_true e && not (is_ready ready)) ≡ true → ⊥
not_ready (truth true) h = absurd (cc)
not_ready (truth false) h = absurd (cc)
not_ready (variable x) h = absurd (cc)
not_ready (numeral bits v) h = absurd (cc)
not_ready (negation e) h = absurd (cc)
not_ready (complement e) h = absurd (cc)
not_ready (operation o l r) h = absurd (cc)

module _ (count : ℕ) (P : ℕ → Place) (N : Numbers) (numbered : IsNumbered count P N) where
  value_back : (E : Environment) (Γ : Sorts) (scope : IsScope count P E Γ) (ρ : Indices) (e : Exp) (width : Option Width) (w : Width)
      → ExpIsKnown count e → width ≡ Some w → type_of E e ≡ Some w → value N Γ ρ width (whole_said P e) ≡ e
  value_back E Γ scope ρ e width w h f g =
      ap (λ u. expression N Γ ρ (whole_said P e) (unwrap_or u TruthValue)) f ∙ expression_back count P N numbered E Γ scope ρ false e w h g

  names_back : (E : Environment) (Γ : Sorts) (scope : IsScope count P E Γ) (ρ : Indices) (xs : List ℕ) → AllByRecursion (λ (x : ℕ). x < count) xs
      → map (item_number N ρ) (map (λ x. item_of (P x)) xs) ≡ xs
  names_back E Γ scope ρ [] h = refl
  names_back E Γ scope ρ (x ∷ xs) h =
      ap (λ n. n ∷ map (item_number N ρ) (map (λ y. item_of (P y)) xs)) (item_back count P N numbered E Γ scope ρ x h.0) ∙ ap (λ ns. x ∷ ns) (names_back E Γ scope ρ xs h.1)

  variable_here_is : (E : Environment) (Γ : Sorts) (scope : IsScope count P E Γ) (ρ : Indices) (x : ℕ) (w : Width) → x < count → variable_width E x ≡ Some w
      → variable_here Γ ρ (item_of (P x)) ≡ Some w
  variable_here_is E Γ scope ρ x w h e = ap variable_sort (variable_back count P N numbered E Γ scope ρ x w h e)

  channel_here_is : (E : Environment) (Γ : Sorts) (scope : IsScope count P E Γ) (ρ : Indices) (c : ℕ) (w : Width) → c < count → channel_width E c ≡ Some w
      → channel_here Γ ρ (item_of (P c)) ≡ Some w
  channel_here_is E Γ scope ρ c w h e = ap channel_sort (sort_back count P N numbered E Γ scope ρ c h) ∙ channel_sort_is (E c) w e

  values_back : (E : Environment) (Γ : Sorts) (scope : IsScope count P E Γ) (ρ : Indices) (xs : List ℕ) (es : List Exp)
      → AllByRecursion (λ (x : ℕ). x < count) xs → AllByRecursion (ExpIsKnown count) es → pairs_kept E xs es ≡ true
      → values N Γ ρ (map (λ x. item_of (P x)) xs) (map (whole_said P) es) ≡ es
  values_back E Γ scope ρ [] [] h k t = refl
  values_back E Γ scope ρ [] (e ∷ es) h k t = absurd (cc)
  values_back E Γ scope ρ (x ∷ xs) [] h k t = absurd (cc)
  values_back E Γ scope ρ (x ∷ xs) (e ∷ es) h k t =
      let front = and_parts _ (pairs_kept E xs es) t in
      let first = and_parts (agree (variable_width E x) (type_of E e)) _ front.0 in
      let a = agree_is (variable_width E x) (type_of E e) first.0 in
      ap (λ v. v ∷ values N Γ ρ (map (λ y. item_of (P y)) xs) (map (whole_said P) es))
      (value_back E Γ scope ρ e (variable_here Γ ρ (item_of (P x))) a.0 k.0 (variable_here_is E Γ scope ρ x a.0 h.0 a.1) a.2)
      ∙ ap (λ vs. e ∷ vs) (values_back E Γ scope ρ xs es h.1 k.1 front.1)

  sent_back : (E : Environment) (Γ : Sorts) (scope : IsScope count P E Γ) (ρ : Indices) (c : ℕ) (e : Exp) → c < count → ExpIsKnown count e → output_kept E c e ≡ true
      → value N Γ ρ (channel_here Γ ρ (item_of (P c))) (whole_said P e) ≡ e
  sent_back E Γ scope ρ c e h k t =
      let a = agree_is (channel_width E c) (type_of E e) (and_parts (allows (E c) dir.Output) _ t).1 in
      value_back E Γ scope ρ e (channel_here Γ ρ (item_of (P c))) a.0 k (channel_here_is E Γ scope ρ c a.0 h a.1) a.2

  waited_back : (E : Environment) (Γ : Sorts) (scope : IsScope count P E Γ) (ρ : Indices) (w : Waiting) → WaitingIsKnown count w → waiting_kept E w ≡ true
      → waited N Γ ρ (waited_for P w) ≡ w
  waited_back E Γ scope ρ ready h t = refl
  waited_back E Γ scope ρ (input c x) h t =
      ap (λ n. input n (item_number N ρ (item_of (P x)))) (item_back count P N numbered E Γ scope ρ c h.0) ∙ ap (input c) (item_back count P N numbered E Γ scope ρ x h.1)
  waited_back E Γ scope ρ (output c e) h t =
      ap (λ n. output n (value N Γ ρ (channel_here Γ ρ (item_of (P c))) (whole_said P e))) (item_back count P N numbered E Γ scope ρ c h.0)
      ∙ ap (output c) (sent_back E Γ scope ρ c e h.0 h.1 t)

  condition_back : (E : Environment) (Γ : Sorts) (scope : IsScope count P E Γ) (ρ : Indices) (e : Exp) → ExpIsKnown count e → is_condition E e ≡ true
      → condition N Γ ρ (whole_said P e) ≡ e
  condition_back E Γ scope ρ e h t =
      let a = agree_is (type_of E e) (Some TruthValue) t in
      expression_back count P N numbered E Γ scope ρ false e TruthValue h (a.1 ∙ sym a.2)

  -- ---- lines

  branch_bare : (E : Environment) (Γ : Sorts) (scope : IsScope count P E Γ) (ρ : Indices) (e : Exp) (w : Waiting) (below rest : Lines)
      → WaitingIsKnown count w → waiting_kept E w ≡ true → (is_true e && not (is_ready w)) ≡ true
      → branch_line N (bare_guard P w) below rest Γ ρ ≡ and_branch e w (slot_tree below Γ ρ) (rest.branches Γ ρ)
  branch_bare E Γ scope ρ e ready below rest h t c = absurd (not_ready e c)
  branch_bare E Γ scope ρ e (input c x) below rest h t f =
      ap (λ v. and_branch (truth true) v (slot_tree below Γ ρ) (rest.branches Γ ρ)) (waited_back E Γ scope ρ (input c x) h t)
      ∙ ap (λ d. and_branch d (input c x) (slot_tree below Γ ρ) (rest.branches Γ ρ)) (sym (left_out_is e (input c x) f))
  branch_bare E Γ scope ρ e (output c v) below rest h t f =
      ap (λ u. and_branch (truth true) u (slot_tree below Γ ρ) (rest.branches Γ ρ)) (waited_back E Γ scope ρ (output c v) h t)
      ∙ ap (λ d. and_branch d (output c v) (slot_tree below Γ ρ) (rest.branches Γ ρ)) (sym (left_out_is e (output c v) f))

  branch_back : (E : Environment) (Γ : Sorts) (scope : IsScope count P E Γ) (ρ : Indices) (e : Exp) (w : Waiting) (below rest : Lines)
      → ExpIsKnown count e → WaitingIsKnown count w → is_condition E e ≡ true → waiting_kept E w ≡ true → (b : Bool) → (is_true e && not (is_ready w)) ≡ b
      → branch_line N (guard_shape P e w) below rest Γ ρ ≡ and_branch e w (slot_tree below Γ ρ) (rest.branches Γ ρ)
  branch_back E Γ scope ρ e w below rest h k c t true f =
      ap (λ b. branch_line N (if b then bare_guard P w else line.guard (whole_said P e) (waited_for P w)) below rest Γ ρ) f ∙ branch_bare E Γ scope ρ e w below rest k t f
  branch_back E Γ scope ρ e w below rest h k c t false f =
      ap (λ b. branch_line N (if b then bare_guard P w else line.guard (whole_said P e) (waited_for P w)) below rest Γ ρ) f
      ∙ ap (λ d. and_branch d (waited N Γ ρ (waited_for P w)) (slot_tree below Γ ρ) (rest.branches Γ ρ)) (condition_back E Γ scope ρ e h c)
      ∙ ap (λ u. and_branch e u (slot_tree below Γ ρ) (rest.branches Γ ρ)) (waited_back E Γ scope ρ w k t)

  mutual
    pub part_back : (E : Environment) (Γ : Sorts) (scope : IsScope count P E Γ) (ρ : Indices) (n : ℕ) (p : Tree) (rest : Forest) (outer : Sorts) (ds : List (Name × Kind))
        → PartIsKnown count p → types_kept p E ≡ true
        → (unrolled N (part_forest P n p rest)).parts outer Γ ds ρ ≡ and_tree (declaring_all ds p) ((unrolled N rest).parts outer outer [] ρ)
    part_back E Γ scope ρ n skip rest outer ds h t = refl
    part_back E Γ scope ρ n stop rest outer ds h t = refl
    part_back E Γ scope ρ n (assign xs es) rest outer ds h t =
        let kept = (and_parts (is_pair xs) (pairs_kept E xs es) t).1 in
        ap (λ ys. and_tree (declaring_all ds (assign ys (values N Γ ρ (map (λ x. item_of (P x)) xs) (map (whole_said P) es)))) ((unrolled N rest).parts outer outer [] ρ))
        (names_back E Γ scope ρ xs h.0)
        ∙ ap (λ vs. and_tree (declaring_all ds (assign xs vs)) ((unrolled N rest).parts outer outer [] ρ)) (values_back E Γ scope ρ xs es h.0 h.1 kept)
    part_back E Γ scope ρ n (receive c x) rest outer ds h t =
        ap (λ k. and_tree (declaring_all ds (receive k (item_number N ρ (item_of (P x))))) ((unrolled N rest).parts outer outer [] ρ)) (item_back count P N numbered E Γ scope ρ c h.0)
        ∙ ap (λ k. and_tree (declaring_all ds (receive c k)) ((unrolled N rest).parts outer outer [] ρ)) (item_back count P N numbered E Γ scope ρ x h.1)
    part_back E Γ scope ρ n (send c e) rest outer ds h t =
        ap (λ k. and_tree (declaring_all ds (send k (value N Γ ρ (channel_here Γ ρ (item_of (P c))) (whole_said P e)))) ((unrolled N rest).parts outer outer [] ρ))
        (item_back count P N numbered E Γ scope ρ c h.0)
        ∙ ap (λ v. and_tree (declaring_all ds (send c v)) ((unrolled N rest).parts outer outer [] ρ)) (sent_back E Γ scope ρ c e h.0 h.1 t)
    part_back E Γ scope ρ n (seq ps) rest outer ds h t =
        ap (λ qs. and_tree (declaring_all ds (seq qs)) ((unrolled N rest).parts outer outer [] ρ)) (parts_back E Γ scope ρ (n + 1) ps h t)
    part_back E Γ scope ρ n (par ps) rest outer ds h t =
        ap (λ qs. and_tree (declaring_all ds (par qs)) ((unrolled N rest).parts outer outer [] ρ)) (parts_back E Γ scope ρ (n + 1) ps h t)
    part_back E Γ scope ρ n (select cs) rest outer ds h t =
        ap (λ qs. and_tree (declaring_all ds (select qs)) ((unrolled N rest).parts outer outer [] ρ)) (cases_back E Γ scope ρ (n + 1) cs h t)
    part_back E Γ scope ρ n (alt bs) rest outer ds h t =
        ap (λ qs. and_tree (declaring_all ds (alt qs)) ((unrolled N rest).parts outer outer [] ρ)) (branches_back E Γ scope ρ (n + 1) bs h t)
    part_back E Γ scope ρ n (declare x w p) rest outer ds h t =
        let k = kind.Var w in
        ap (λ names. (unrolled N (part_forest P (n + 1) p rest)).parts outer (entry_of k (declared_of (P x)) ∷ Γ) (ds ++ names) ρ) (all_named_is count P N numbered x k h.0)
        ∙ part_back (with_name E x k) (entry_of k (declared_of (P x)) ∷ Γ) (scope_more count P N numbered E Γ x k h.0 scope) ρ (n + 1) p rest outer (ds ++ (record { 0 = x }, k) ∷ []) h.1
        (and_parts (can_declare E x w) _ t).1
        ∙ ap (λ q. and_tree q ((unrolled N rest).parts outer outer [] ρ)) (declaring_last ds x k p)
    part_back E Γ scope ρ n (connect c w p) rest outer ds h t =
        let k = kind.Chan w None in
        ap (λ names. (unrolled N (part_forest P (n + 1) p rest)).parts outer (entry_of k (declared_of (P c)) ∷ Γ) (ds ++ names) ρ) (all_named_is count P N numbered c k h.0)
        ∙ part_back (with_name E c k) (entry_of k (declared_of (P c)) ∷ Γ) (scope_more count P N numbered E Γ c k h.0 scope) ρ (n + 1) p rest outer (ds ++ (record { 0 = c }, k) ∷ []) h.1
        (and_parts (can_declare E c w) _ t).1
        ∙ ap (λ q. and_tree q ((unrolled N rest).parts outer outer [] ρ)) (declaring_last ds c k p)

    pub parts_back : (E : Environment) (Γ : Sorts) (scope : IsScope count P E Γ) (ρ : Indices) (n : ℕ) (ps : Trees) → PartsAreKnown count ps → all_types_kept ps E ≡ true
        → (unrolled N (parts_forest P n ps)).parts Γ Γ [] ρ ≡ ps
    parts_back E Γ scope ρ n no_tree h t = refl
    parts_back E Γ scope ρ n (and_tree p ps) h t =
        let parts = and_parts (types_kept p E) (all_types_kept ps E) t in
        part_back E Γ scope ρ n p (parts_forest P (n + height p) ps) Γ [] h.0 parts.0 ∙ ap (and_tree p) (parts_back E Γ scope ρ (n + height p) ps h.1 parts.1)

    pub cases_back : (E : Environment) (Γ : Sorts) (scope : IsScope count P E Γ) (ρ : Indices) (n : ℕ) (cs : Cases) → CasesAreKnown count cs → cases_kept cs E ≡ true
        → (unrolled N (cases_forest P n cs)).cases Γ ρ ≡ cs
    cases_back E Γ scope ρ n no_case h t = refl
    cases_back E Γ scope ρ n (and_case e p cs) h t =
        let front = and_parts _ (cases_kept cs E) t in
        let first = and_parts (is_condition E e) (types_kept p E) front.0 in
        let others = (unrolled N (cases_forest P (n + 1 + height p) cs)).cases Γ ρ in
        ap (λ d. and_case d (slot_tree (unrolled N (part_forest P (n + 1) p no_line)) Γ ρ) others) (condition_back E Γ scope ρ e h.0 first.0)
        ∙ ap (λ q. and_case e (first_of q) others) (part_back E Γ scope ρ (n + 1) p no_line Γ [] h.1 first.1)
        ∙ ap (and_case e p) (cases_back E Γ scope ρ (n + 1 + height p) cs h.2 front.1)

    pub branches_back : (E : Environment) (Γ : Sorts) (scope : IsScope count P E Γ) (ρ : Indices) (n : ℕ) (bs : Branches) → BranchesAreKnown count bs → branches_kept bs E ≡ true
        → (unrolled N (branches_forest P n bs)).branches Γ ρ ≡ bs
    branches_back E Γ scope ρ n no_branch h t = refl
    branches_back E Γ scope ρ n (and_branch e w p bs) h t =
        let front = and_parts _ (branches_kept bs E) t in
        let second = and_parts _ (types_kept p E) front.0 in
        let first = and_parts (is_condition E e) (waiting_kept E w) second.0 in
        let below = unrolled N (part_forest P (n + 1) p no_line) in
        let rest = unrolled N (branches_forest P (n + 1 + height p) bs) in
        branch_back E Γ scope ρ e w below rest h.0 h.1 first.0 first.1 (is_true e && not (is_ready w)) refl
        ∙ ap (λ q. and_branch e w (first_of q) (rest.branches Γ ρ)) (part_back E Γ scope ρ (n + 1) p no_line Γ [] h.2 second.1)
        ∙ ap (and_branch e w p) (branches_back E Γ scope ρ (n + 1 + height p) bs h.3 front.1)
