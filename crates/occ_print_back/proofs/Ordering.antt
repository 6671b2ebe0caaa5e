-- The lines of a printed program have no fault of names, types or directions.
use Rattle.std.proofs.Common.{◌≡◌, ℕ, ◌<◌, ◌+◌, Bool, true, false, not, ◌&&◌, ◌||◌, eqb, List, [], ◌∷◌, map, Option, None, Some, refl, ap, sym, ◌∙◌}
use Rattle.std.specs.Prelude.{if◌then◌else◌, is_none, is_some}
use Rattle.std.specs.List.{AllByRecursion, list_any}
use Rattle.std.proofs.lemmas.Bool.{and_parts, or_parts, not-true, eqb-true, eq-eqb, false_from_ne_true}
use Rattle.occ_print.specs.occ_base.declared.event.Dir.{Dir}
use Rattle.occ_print.specs.occ_base.declared.event.Dir.TheVariants as dir
use Rattle.occ_print.specs.occ_base.declared.names.Name.{Name}
use Rattle.occ_print.specs.occ_base.declared.width.Width.{Width}
use Rattle.occ_print.specs.occ_base.declared.width.Width.TheVariants.{Bool as TruthValue, Word}
use Rattle.occ_print.specs.occ_syntax.declared.scope.Kind.{Kind}
use Rattle.occ_print.specs.occ_syntax.declared.scope.Kind.TheVariants as kind
use Rattle.occ_print.specs.occ_syntax.Scopes.{Environment, environment, with_name, variable_width, channel_width, allows}
use Rattle.occ_print.specs.occ_syntax.Tree.{Exp, variable, numeral, truth, negation, complement, operation, Waiting, ready, input, output, Tree, skip, stop, assign, receive, send, seq, par, select, alt, declare, connect, Trees, no_tree, and_tree, Cases, no_case, and_case, Branches, no_branch, and_branch}
use Rattle.occ_print.specs.occ_syntax.Types.{type_of, agree, is_condition, input_kept, output_kept, waiting_kept, pairs_kept, is_pair, can_declare, width_of_kind, scope_kept, types_kept, all_types_kept, cases_kept, branches_kept, if_truth_value, if_word}
use Rattle.occ_print.specs.occ_parse_forms.declared.form.Group.{Group}
use Rattle.occ_print.specs.occ_parse_forms.declared.form.Group.TheVariants as word
use Rattle.occ_print.specs.occ_parse_forms.declared.form.Item.{Item}
use Rattle.occ_print.specs.occ_parse_forms.Shape.{Shape}
use Rattle.occ_print.specs.occ_parse_forms.Shape as line
use Rattle.occ_parse.specs.occ_parse_rules.declared.fault.NameFault.TheVariants as name
use Rattle.occ_parse.specs.occ_parse_rules.declared.fault.TypeFault.TheVariants as type
use Rattle.occ_parse.specs.occ_parse_rules.declared.sort.Sort.TheVariants as sort
use Rattle.occ_parse.specs.occ_parse_rules.Forest.{Forest, no_line, and_line}
use Rattle.occ_parse.specs.occ_parse_rules.Judging.{or_else, on_line, inside, behind, first_fault}
use Rattle.occ_parse.specs.occ_parse_rules.Names.{items_in, items_in_all, items_of_waiting, uses, left_items, index_counts, is_outside, same_element, same_place, may_meet, some_meet, is_there, redeclares_some, redeclares, name_fault}
use Rattle.occ_parse.specs.occ_parse_rules.Places.{Place, Sorts, Indices, places, sort_at, sort_of, entry_of, param_entries, for_some, place_at}
use Rattle.occ_parse.specs.occ_parse_rules.Types.{value_clashes, variable_here, channel_here, pairs_clash, widths_differ, waiting_clashes, line_clashes, has_untyped, waiting_untyped, line_untyped, type_fault, is_against, waiting_against, line_against, direction_fault, sort_here, variable_sort, channel_sort}
use Rattle.occ_parse.specs.occ_parse_rules.Unrolled.{Numbers}
use Rattle.occ_print.specs.Symbols.{compares_numerals, is_true, is_ready}
use Rattle.occ_print.specs.Known.{ExpIsKnown, WaitingIsKnown, PartIsKnown, PartsAreKnown, CasesAreKnown, BranchesAreKnown}
use Rattle.occ_print_back.specs.Said.{item_of, declared_at, declared_of, said, whole_said, bare_guard, waited_for, guard_shape, assign_shape, receive_shape, send_shape, declaration_shape}
use Rattle.occ_print_back.specs.Forest.{height, part_forest, parts_forest, cases_forest, branches_forest}
use Rattle.occ_print_back.specs.Scoped.{IsNumbered, IsScope, sort_in}
use Rattle.occ_print_back.specs.Program.{params_said, header_scope, body_forest, program_forest}
use Rattle.occ_print_back.proofs.Widths.{operands_of, variable_sort_is, variable_back, sort_back}
use Rattle.occ_print_back.proofs.Standing.{agree_is, channel_sort_is, not_ready, scope_more}
use Rattle.occ_print_back.proofs.Programs.{header_scoped}
use Rattle.occ_print_back.proofs.Clashing.{never, exp_clashes, exp_typed, IsItem, item_at, AreItems, items-append, none_undeclared, none_outside, none_lost}
use Rattle.occ_print.proofs.from_syntax.Widths.{same_as_itself}

-- ---- what is asked of a line

pub record Facts (Γ : Sorts) (s : Shape) : Type 0 where
  pub items : AreItems Γ (uses s)
  pub fresh : redeclares Γ s ≡ false
  pub apart : some_meet Γ (left_items s) ≡ false
  pub agreeing : (ρ : Indices) → line_clashes Γ ρ s ≡ false
  pub typed : (ρ : Indices) → line_untyped Γ ρ s ≡ false
  pub directed : (ρ : Indices) → line_against Γ ρ s ≡ false

pub name_ok : (Γ : Sorts) (s : Shape) → Facts Γ s → name_fault Γ s ≡ None
name_ok Γ s f =
    ap (λ b. if b then Some name.Undeclared else (if redeclares Γ s then Some name.Redeclared else (if list_any (is_outside Γ) (uses s) || some_meet Γ (left_items s) then Some name.Index else None)))
    (none_undeclared Γ (uses s) f.items)
    ∙ ap (λ b. if b then Some name.Redeclared else (if list_any (is_outside Γ) (uses s) || some_meet Γ (left_items s) then Some name.Index else None)) f.fresh
    ∙ ap (λ b. if b || some_meet Γ (left_items s) then Some name.Index else None) (none_outside Γ (uses s) f.items)
    ∙ ap (λ b. if b then Some name.Index else None) f.apart

pub type_ok : (Γ : Sorts) (s : Shape) → Facts Γ s → type_fault Γ s ≡ None
type_ok Γ s f =
    ap (λ b. if b || for_some Γ (λ ρ. line_clashes Γ ρ s) then Some type.TypeClash else (if for_some Γ (λ ρ. line_untyped Γ ρ s) then Some type.NoType else None)) (none_lost Γ (uses s) f.items)
    ∙ ap (λ b. if b then Some type.TypeClash else (if for_some Γ (λ ρ. line_untyped Γ ρ s) then Some type.NoType else None)) (never Γ (λ ρ. line_clashes Γ ρ s) f.agreeing)
    ∙ ap (λ b. if b then Some type.NoType else None) (never Γ (λ ρ. line_untyped Γ ρ s) f.typed)

pub direction_ok : (Γ : Sorts) (s : Shape) → Facts Γ s → direction_fault Γ s ≡ None
direction_ok Γ s f = ap (λ b. if b then Some tt else None) (never Γ (λ ρ. line_against Γ ρ s) f.directed)

-- ---- lines

some_of : (o : Option Kind) (d : Dir) → allows o d ≡ true → (k : Kind) × (o ≡ Some k)
some_of None d h = absurd (cc)
some_of (Some k) d h = (k, refl)

not_against : (o : Option Kind) (d : Dir) → allows o d ≡ true → is_against d (sort_in o) ≡ false
not_against None d h = absurd (cc)
not_against (Some (kind.Var w)) d h = absurd (cc)
not_against (Some (kind.Chan w None)) d h = refl
not_against (Some (kind.Chan w (Some mark))) d h = ap not h

none_some : (o : Option Kind) → is_none o ≡ true → is_some (sort_in o) ≡ false
none_some None h = refl
none_some (Some k) h = absurd (cc)

same_is : (j k : Option ℕ) → same_element j k ≡ true → j ≡ k
same_is None None h = refl
same_is (Some j) (Some k) h = ap Some (eqb-true j k h)
same_is None (Some k) h = absurd (cc)
same_is (Some j) None h = absurd (cc)

place_at_is : (ρ : Indices) (y : ℕ) (j : Option ℕ) → place_at ρ (item_of (record { name = y; element = j })) ≡ Some (record { name = y; element = j })
place_at_is ρ y None = refl
place_at_is ρ y (Some k) = refl

and-nothing : (b : Bool) → (b && false) ≡ false
and-nothing true = refl
and-nothing false = refl

truth_typed : (t : Option Width) (w : Width) → if_truth_value t ≡ Some w → t ≡ Some TruthValue
truth_typed (Some TruthValue) w h = refl
truth_typed (Some (Word b)) w h = absurd (cc)
truth_typed None w h = absurd (cc)

word_typed : (t : Option Width) (w : Width) → if_word t ≡ Some w → t ≡ Some w
word_typed (Some (Word b)) w h = h
word_typed (Some TruthValue) w h = absurd (cc)
word_typed None w h = absurd (cc)

module _ (count : ℕ) (P : ℕ → Place) (N : Numbers) (numbered : IsNumbered count P N) where
  -- two variables are two places
  never_same : (x y : ℕ) → x < count → y < count → eqb x y ≡ false → (ρ : Indices) → same_place (place_at ρ (item_of (P x))) (place_at ρ (item_of (P y))) ≡ false
  never_same x y h k d ρ = false_from_ne_true _ (λ t.
      let e : same_place (Some (P x)) (Some (P y)) ≡ true = ap (λ p. same_place p (Some (P y))) (sym (place_at_is ρ (P x).name (P x).element)) ∙ ap (same_place (place_at ρ (item_of (P x)))) (sym (place_at_is ρ (P y).name (P y).element)) ∙ t in
      let parts = and_parts (eqb (P x).name (P y).name) (same_element (P x).element (P y).element) e in
      let n : (P x).name ≡ (P y).name = eqb-true _ _ parts.0 in
      let j : (P x).element ≡ (P y).element = same_is (P x).element (P y).element parts.1 in
      let g : x ≡ y = sym (numbered x h) ∙ ap (λ m. N m (P x).element) n ∙ ap (λ i. N (P y).name i) j ∙ numbered y k in
      let u : eqb x y ≡ true = eq-eqb x y g in
      absurd (cc))

  meet_never : (Γ : Sorts) (x y : ℕ) → x < count → y < count → eqb x y ≡ false → may_meet Γ (item_of (P x)) (item_of (P y)) ≡ false
  meet_never Γ x y h k d =
      ap (λ b. (index_counts Γ (item_of (P x)).index && index_counts Γ (item_of (P y)).index) && b) (never Γ (λ ρ. same_place (place_at ρ (item_of (P x))) (place_at ρ (item_of (P y)))) (never_same x y h k d))
      ∙ and-nothing (index_counts Γ (item_of (P x)).index && index_counts Γ (item_of (P y)).index)

  abbrev items_of : List ℕ → List Item
  items_of xs = map (λ x. item_of (P x)) xs

  meets_none : (Γ : Sorts) (x : ℕ) → x < count → (ys : List ℕ) → AllByRecursion (λ (y : ℕ). y < count) ys → list_any (λ y. eqb x y) ys ≡ false
      → list_any (may_meet Γ (item_of (P x))) (items_of ys) ≡ false
  meets_none Γ x h [] k l = refl
  meets_none Γ x h (y ∷ ys) k l =
      let parts = or_parts (eqb x y) (list_any (λ z. eqb x z) ys) l in
      ap (λ b. b || list_any (may_meet Γ (item_of (P x))) (items_of ys)) (meet_never Γ x y h k.0 parts.0) ∙ meets_none Γ x h ys k.1 parts.1

  module _ (E : Environment) (Γ : Sorts) (scope : IsScope count P E Γ) where
    variable_item : (x : ℕ) (w : Width) → x < count → variable_width E x ≡ Some w → IsItem Γ (item_of (P x))
    variable_item x w h e = item_at Γ (P x) (sort.Variable w) (scope x h ∙ variable_sort_is (E x) w e)

    kind_item : (x : ℕ) (k : Kind) → x < count → E x ≡ Some k → IsItem Γ (item_of (P x))
    kind_item x k h e = item_at Γ (P x) (sort_of k) (scope x h ∙ ap sort_in e)

    numeral_items : (wide : Bool) (bits v : ℕ) → AreItems Γ (items_in (said P wide (numeral bits v)))
    numeral_items false bits v = tt
    numeral_items true bits v = tt

    exp_items : (wide : Bool) (e : Exp) (w : Width) → ExpIsKnown count e → type_of E e ≡ Some w → AreItems Γ (items_in (said P wide e))
    exp_items wide (variable x) w h k = (variable_item x w h k, tt)
    exp_items wide (numeral bits v) w h k = numeral_items wide bits v
    exp_items wide (truth b) w h k = tt
    exp_items wide (negation e) w h k = exp_items wide e TruthValue h (truth_typed (type_of E e) w k)
    exp_items wide (complement e) w h k = exp_items wide e w h (word_typed (type_of E e) w k)
    exp_items wide (operation o left right) w h k =
        let p = operands_of o (type_of E left) (type_of E right) w k in
        let v = wide || compares_numerals o left right in
        items-append Γ (items_in (said P v left)) (items_in (said P v right)) (exp_items v left p.width h.0 p.left_is) (exp_items v right p.width h.1 p.right_is)

    -- the parts of an assignment
    left_are : (xs : List ℕ) (es : List Exp) → AllByRecursion (λ (x : ℕ). x < count) xs → pairs_kept E xs es ≡ true → AreItems Γ (items_of xs)
    left_are [] es h t = tt
    left_are (x ∷ xs) [] h t = absurd (cc)
    left_are (x ∷ xs) (e ∷ es) h t =
        let front = and_parts _ (pairs_kept E xs es) t in
        let a = agree_is (variable_width E x) (type_of E e) (and_parts (agree (variable_width E x) (type_of E e)) _ front.0).0 in
        (variable_item x a.0 h.0 a.1, left_are xs es h.1 front.1)

    right_are : (xs : List ℕ) (es : List Exp) → AllByRecursion (ExpIsKnown count) es → pairs_kept E xs es ≡ true → AreItems Γ (items_in_all (map (whole_said P) es))
    right_are xs [] h t = tt
    right_are [] (e ∷ es) h t = absurd (cc)
    right_are (x ∷ xs) (e ∷ es) h t =
        let front = and_parts _ (pairs_kept E xs es) t in
        let a = agree_is (variable_width E x) (type_of E e) (and_parts (agree (variable_width E x) (type_of E e)) _ front.0).0 in
        items-append Γ (items_in (whole_said P e)) (items_in_all (map (whole_said P) es)) (exp_items false e a.0 h.0 a.2) (right_are xs es h.1 front.1)

    left_apart : (xs : List ℕ) (es : List Exp) → AllByRecursion (λ (x : ℕ). x < count) xs → pairs_kept E xs es ≡ true → some_meet Γ (items_of xs) ≡ false
    left_apart [] es h t = refl
    left_apart (x ∷ xs) [] h t = absurd (cc)
    left_apart (x ∷ xs) (e ∷ es) h t =
        let front = and_parts _ (pairs_kept E xs es) t in
        let one = not-true _ (and_parts (agree (variable_width E x) (type_of E e)) _ front.0).1 in
        ap (λ b. b || some_meet Γ (items_of xs)) (meets_none Γ x h.0 xs h.1 one) ∙ left_apart xs es h.1 front.1

    pairs_agree : (ρ : Indices) (xs : List ℕ) (es : List Exp) → AllByRecursion (λ (x : ℕ). x < count) xs → AllByRecursion (ExpIsKnown count) es → pairs_kept E xs es ≡ true
        → pairs_clash Γ ρ (items_of xs) (map (whole_said P) es) ≡ false
    pairs_agree ρ [] es h k t = refl
    pairs_agree ρ (x ∷ xs) [] h k t = refl
    pairs_agree ρ (x ∷ xs) (e ∷ es) h k t =
        let front = and_parts _ (pairs_kept E xs es) t in
        let a = agree_is (variable_width E x) (type_of E e) (and_parts (agree (variable_width E x) (type_of E e)) _ front.0).0 in
        let v : variable_here Γ ρ (item_of (P x)) ≡ Some a.0 = ap variable_sort (variable_back count P N numbered E Γ scope ρ x a.0 h.0 a.1) in
        ap (λ w. value_clashes Γ ρ w (whole_said P e) || pairs_clash Γ ρ (items_of xs) (map (whole_said P) es)) v
        ∙ ap (λ b. b || pairs_clash Γ ρ (items_of xs) (map (whole_said P) es)) (exp_clashes count P N numbered E Γ scope ρ false e a.0 k.0 a.2)
        ∙ pairs_agree ρ xs es h.1 k.1 front.1

    values_typed : (ρ : Indices) (xs : List ℕ) (es : List Exp) → AllByRecursion (ExpIsKnown count) es → pairs_kept E xs es ≡ true → list_any (has_untyped Γ ρ) (map (whole_said P) es) ≡ false
    values_typed ρ xs [] h t = refl
    values_typed ρ [] (e ∷ es) h t = absurd (cc)
    values_typed ρ (x ∷ xs) (e ∷ es) h t =
        let front = and_parts _ (pairs_kept E xs es) t in
        let a = agree_is (variable_width E x) (type_of E e) (and_parts (agree (variable_width E x) (type_of E e)) _ front.0).0 in
        ap (λ b. b || list_any (has_untyped Γ ρ) (map (whole_said P) es)) (exp_typed count P N numbered E Γ scope ρ false e a.0 h.0 a.2) ∙ values_typed ρ xs es h.1 front.1

    assign_facts : (xs : List ℕ) (es : List Exp) → AllByRecursion (λ (x : ℕ). x < count) xs → AllByRecursion (ExpIsKnown count) es → pairs_kept E xs es ≡ true
        → Facts Γ (assign_shape P xs es)
    assign_facts xs es h k t = record {
      items = items-append Γ (items_of xs) (items_in_all (map (whole_said P) es)) (left_are xs es h t) (right_are xs es k t);
      fresh = refl;
      apart = left_apart xs es h t;
      agreeing = λ ρ. pairs_agree ρ xs es h k t;
      typed = λ ρ. values_typed ρ xs es k t;
      directed = λ ρ. refl;
    }

    -- what a guard waits for
    pub record Waits (w : Waiting) : Type 0 where
      pub items : AreItems Γ (items_of_waiting (waited_for P w))
      pub agreeing : (ρ : Indices) → waiting_clashes Γ ρ (waited_for P w) ≡ false
      pub typed : (ρ : Indices) → waiting_untyped Γ ρ (waited_for P w) ≡ false
      pub directed : (ρ : Indices) → waiting_against Γ ρ (waited_for P w) ≡ false

    against_never : (d : Dir) (c : ℕ) → c < count → allows (E c) d ≡ true → (ρ : Indices) → is_against d (sort_here Γ ρ (item_of (P c))) ≡ false
    against_never d c h t ρ = ap (is_against d) (sort_back count P N numbered E Γ scope ρ c h) ∙ not_against (E c) d t

    input_waits : (c x : ℕ) → c < count → x < count → input_kept E c x ≡ true → Waits (input c x)
    input_waits c x h k t =
        let parts = and_parts (allows (E c) dir.Input) (agree (channel_width E c) (variable_width E x)) t in
        let a = agree_is (channel_width E c) (variable_width E x) parts.1 in
        let m = some_of (E c) dir.Input parts.0 in
        record {
          items = (kind_item c m.0 h m.1, (variable_item x a.0 k a.2, tt));
          agreeing = λ ρ.
              let c_is : channel_here Γ ρ (item_of (P c)) ≡ Some a.0 = ap channel_sort (sort_back count P N numbered E Γ scope ρ c h) ∙ channel_sort_is (E c) a.0 a.1 in
              let x_is : variable_here Γ ρ (item_of (P x)) ≡ Some a.0 = ap variable_sort (variable_back count P N numbered E Γ scope ρ x a.0 k a.2) in
              ap (λ u. widths_differ u (variable_here Γ ρ (item_of (P x)))) c_is ∙ ap (widths_differ (Some a.0)) x_is ∙ ap not (same_as_itself a.0);
          typed = λ ρ. refl;
          directed = λ ρ. against_never dir.Input c h parts.0 ρ;
        }

    output_waits : (c : ℕ) (e : Exp) → c < count → ExpIsKnown count e → output_kept E c e ≡ true → Waits (output c e)
    output_waits c e h k t =
        let parts = and_parts (allows (E c) dir.Output) (agree (channel_width E c) (type_of E e)) t in
        let a = agree_is (channel_width E c) (type_of E e) parts.1 in
        let m = some_of (E c) dir.Output parts.0 in
        record {
          items = (kind_item c m.0 h m.1, exp_items false e a.0 k a.2);
          agreeing = λ ρ.
              let c_is : channel_here Γ ρ (item_of (P c)) ≡ Some a.0 = ap channel_sort (sort_back count P N numbered E Γ scope ρ c h) ∙ channel_sort_is (E c) a.0 a.1 in
              ap (λ u. value_clashes Γ ρ u (whole_said P e)) c_is ∙ exp_clashes count P N numbered E Γ scope ρ false e a.0 k a.2;
          typed = λ ρ. exp_typed count P N numbered E Γ scope ρ false e a.0 k a.2;
          directed = λ ρ. against_never dir.Output c h parts.0 ρ;
        }

    waits : (w : Waiting) → WaitingIsKnown count w → waiting_kept E w ≡ true → Waits w
    waits ready h t = record { items = tt; agreeing = λ ρ. refl; typed = λ ρ. refl; directed = λ ρ. refl }
    waits (input c x) h t = input_waits c x h.0 h.1 t
    waits (output c e) h t = output_waits c e h.0 h.1 t

    receive_facts : (c x : ℕ) → c < count → x < count → input_kept E c x ≡ true → Facts Γ (receive_shape P c x)
    receive_facts c x h k t =
        let w = input_waits c x h k t in
        record { items = w.items; fresh = refl; apart = refl; agreeing = w.agreeing; typed = λ ρ. refl; directed = w.directed }

    send_facts : (c : ℕ) (e : Exp) → c < count → ExpIsKnown count e → output_kept E c e ≡ true → Facts Γ (send_shape P c e)
    send_facts c e h k t =
        let w = output_waits c e h k t in
        record { items = w.items; fresh = refl; apart = refl; agreeing = w.agreeing; typed = w.typed; directed = w.directed }

    condition_facts : (e : Exp) → ExpIsKnown count e → is_condition E e ≡ true → Facts Γ (line.condition (whole_said P e))
    condition_facts e h t =
        let a = agree_is (type_of E e) (Some TruthValue) t in
        let k : type_of E e ≡ Some TruthValue = a.1 ∙ sym a.2 in
        record {
          items = exp_items false e TruthValue h k;
          fresh = refl;
          apart = refl;
          agreeing = λ ρ. exp_clashes count P N numbered E Γ scope ρ false e TruthValue h k;
          typed = λ ρ. exp_typed count P N numbered E Γ scope ρ false e TruthValue h k;
          directed = λ ρ. refl;
        }

    guarded_facts : (e : Exp) (w : Waiting) → ExpIsKnown count e → is_condition E e ≡ true → Waits w → Facts Γ (line.guard (whole_said P e) (waited_for P w))
    guarded_facts e w h t v =
        let c = condition_facts e h t in
        record {
          items = items-append Γ (items_in (whole_said P e)) (items_of_waiting (waited_for P w)) c.items v.items;
          fresh = refl;
          apart = refl;
          agreeing = λ ρ. ap (λ b. b || waiting_clashes Γ ρ (waited_for P w)) (c.agreeing ρ) ∙ v.agreeing ρ;
          typed = λ ρ. ap (λ b. b || waiting_untyped Γ ρ (waited_for P w)) (c.typed ρ) ∙ v.typed ρ;
          directed = v.directed;
        }

    bare_facts : (e : Exp) (w : Waiting) → (is_true e && not (is_ready w)) ≡ true → WaitingIsKnown count w → waiting_kept E w ≡ true → Facts Γ (bare_guard P w)
    bare_facts e ready b h t = absurd (not_ready e b)
    bare_facts e (input c x) b h t = receive_facts c x h.0 h.1 t
    bare_facts e (output c v) b h t = send_facts c v h.0 h.1 t

    guard_facts_at : (e : Exp) (w : Waiting) (b : Bool) → (is_true e && not (is_ready w)) ≡ b → ExpIsKnown count e → is_condition E e ≡ true → WaitingIsKnown count w → waiting_kept E w ≡ true
        → Facts Γ (if b then bare_guard P w else line.guard (whole_said P e) (waited_for P w))
    guard_facts_at e w true b h t k u = bare_facts e w b k u
    guard_facts_at e w false b h t k u = guarded_facts e w h t (waits w k u)

    pub guard_facts : (e : Exp) (w : Waiting) → ExpIsKnown count e → is_condition E e ≡ true → WaitingIsKnown count w → waiting_kept E w ≡ true → Facts Γ (guard_shape P e w)
    guard_facts e w h t k u = guard_facts_at e w (is_true e && not (is_ready w)) refl h t k u

    there_at : (y : ℕ) (j : Option ℕ) → is_some (sort_at Γ y j) ≡ false → (list_any (is_there Γ) (places (declared_at y j)) || false) ≡ false
    there_at y None h = ap (λ b. (b || false) || false) h
    there_at y (Some k) h = ap (λ b. (b || false) || false) h

    fresh_at : (x : ℕ) → x < count → is_none (E x) ≡ true → is_some (sort_at Γ (P x).name (P x).element) ≡ false
    fresh_at x h e = ap is_some (scope x h) ∙ none_some (E x) e

    declaration_facts : (x : ℕ) (k : Kind) → x < count → is_none (E x) ≡ true → Facts Γ (declaration_shape P x k)
    declaration_facts x k h e = record {
      items = tt;
      fresh = there_at (P x).name (P x).element (fresh_at x h e);
      apart = refl;
      agreeing = λ ρ. refl;
      typed = λ ρ. refl;
      directed = λ ρ. refl;
    }

-- ---- all lines, for any judgement that finds no fault where these facts hold

three : {F : Type 0} (n : ℕ) (a : Option F) (b c : Option (ℕ × F)) → a ≡ None → b ≡ None → c ≡ None → or_else (on_line n a) (or_else b c) ≡ None
three n a b c e f g = ap (λ x. or_else (on_line n x) (or_else b c)) e ∙ ap (λ x. or_else x c) f ∙ g

plain_facts : (Γ : Sorts) → Facts Γ line.skip
plain_facts Γ = record { items = tt; fresh = refl; apart = refl; agreeing = λ ρ. refl; typed = λ ρ. refl; directed = λ ρ. refl }

stop_facts : (Γ : Sorts) → Facts Γ line.stop
stop_facts Γ = record { items = tt; fresh = refl; apart = refl; agreeing = λ ρ. refl; typed = λ ρ. refl; directed = λ ρ. refl }

close_facts : (Γ : Sorts) → Facts Γ line.close
close_facts Γ = record { items = tt; fresh = refl; apart = refl; agreeing = λ ρ. refl; typed = λ ρ. refl; directed = λ ρ. refl }

group_facts : (Γ : Sorts) (g : Group) → Facts Γ (line.group g None)
group_facts Γ g = record { items = tt; fresh = refl; apart = refl; agreeing = λ ρ. refl; typed = λ ρ. refl; directed = λ ρ. refl }

bare_inside : (P : ℕ → Place) (Γ : Sorts) (w : Waiting) → inside Γ (bare_guard P w) ≡ Γ
bare_inside P Γ ready = refl
bare_inside P Γ (input c x) = refl
bare_inside P Γ (output c e) = refl

bare_behind : (P : ℕ → Place) (Γ : Sorts) (w : Waiting) → behind Γ Γ (bare_guard P w) ≡ Γ
bare_behind P Γ ready = refl
bare_behind P Γ (input c x) = refl
bare_behind P Γ (output c e) = refl

inside_at : (P : ℕ → Place) (Γ : Sorts) (e : Exp) (w : Waiting) (b : Bool) → inside Γ (if b then bare_guard P w else line.guard (whole_said P e) (waited_for P w)) ≡ Γ
inside_at P Γ e w true = bare_inside P Γ w
inside_at P Γ e w false = refl

behind_at : (P : ℕ → Place) (Γ : Sorts) (e : Exp) (w : Waiting) (b : Bool) → behind Γ Γ (if b then bare_guard P w else line.guard (whole_said P e) (waited_for P w)) ≡ Γ
behind_at P Γ e w true = bare_behind P Γ w
behind_at P Γ e w false = refl

module _ {F : Type 0} (J : Sorts → Shape → Option F) (ok : (Γ : Sorts) (s : Shape) → Facts Γ s → J Γ s ≡ None) (count : ℕ) (P : ℕ → Place) (N : Numbers) (numbered : IsNumbered count P N) where
  mutual
    pub part_order : (E : Environment) (Γ : Sorts) (scope : IsScope count P E Γ) (n : ℕ) (p : Tree) (rest : Forest) (outer : Sorts) → PartIsKnown count p → types_kept p E ≡ true
        → first_fault J outer outer rest ≡ None → first_fault J outer Γ (part_forest P n p rest) ≡ None
    part_order E Γ scope n skip rest outer h t k = three n (J Γ line.skip) None (first_fault J outer outer rest) (ok Γ line.skip (plain_facts Γ)) refl k
    part_order E Γ scope n stop rest outer h t k = three n (J Γ line.stop) None (first_fault J outer outer rest) (ok Γ line.stop (stop_facts Γ)) refl k
    part_order E Γ scope n (assign xs es) rest outer h t k =
        three n (J Γ (assign_shape P xs es)) None (first_fault J outer outer rest)
        (ok Γ (assign_shape P xs es) (assign_facts count P N numbered E Γ scope xs es h.0 h.1 (and_parts (is_pair xs) (pairs_kept E xs es) t).1)) refl k
    part_order E Γ scope n (receive c x) rest outer h t k =
        three n (J Γ (receive_shape P c x)) None (first_fault J outer outer rest) (ok Γ (receive_shape P c x) (receive_facts count P N numbered E Γ scope c x h.0 h.1 t)) refl k
    part_order E Γ scope n (send c e) rest outer h t k =
        three n (J Γ (send_shape P c e)) None (first_fault J outer outer rest) (ok Γ (send_shape P c e) (send_facts count P N numbered E Γ scope c e h.0 h.1 t)) refl k
    part_order E Γ scope n (seq ps) rest outer h t k =
        three n (J Γ (line.group word.Seq None)) (first_fault J Γ Γ (parts_forest P (n + 1) ps)) (first_fault J outer outer rest)
        (ok Γ (line.group word.Seq None) (group_facts Γ word.Seq)) (parts_order E Γ scope (n + 1) ps h t) k
    part_order E Γ scope n (par ps) rest outer h t k =
        three n (J Γ (line.group word.Par None)) (first_fault J Γ Γ (parts_forest P (n + 1) ps)) (first_fault J outer outer rest)
        (ok Γ (line.group word.Par None) (group_facts Γ word.Par)) (parts_order E Γ scope (n + 1) ps h t) k
    part_order E Γ scope n (select cs) rest outer h t k =
        three n (J Γ (line.group word.If None)) (first_fault J Γ Γ (cases_forest P (n + 1) cs)) (first_fault J outer outer rest)
        (ok Γ (line.group word.If None) (group_facts Γ word.If)) (cases_order E Γ scope (n + 1) cs h t) k
    part_order E Γ scope n (alt bs) rest outer h t k =
        three n (J Γ (line.group word.Alt None)) (first_fault J Γ Γ (branches_forest P (n + 1) bs)) (first_fault J outer outer rest)
        (ok Γ (line.group word.Alt None) (group_facts Γ word.Alt)) (branches_order E Γ scope (n + 1) bs h t) k
    part_order E Γ scope n (declare x w p) rest outer h t k =
        let d = kind.Var w in
        let parts = and_parts (can_declare E x w) (types_kept p (with_name E x d)) t in
        three n (J Γ (declaration_shape P x d)) None (first_fault J outer (entry_of d (declared_of (P x)) ∷ Γ) (part_forest P (n + 1) p rest))
        (ok Γ (declaration_shape P x d) (declaration_facts count P N numbered E Γ scope x d h.0 (and_parts (is_none (E x)) _ parts.0).0)) refl
        (part_order (with_name E x d) (entry_of d (declared_of (P x)) ∷ Γ) (scope_more count P N numbered E Γ x d h.0 scope) (n + 1) p rest outer h.1 parts.1 k)
    part_order E Γ scope n (connect c w p) rest outer h t k =
        let d = kind.Chan w None in
        let parts = and_parts (can_declare E c w) (types_kept p (with_name E c d)) t in
        three n (J Γ (declaration_shape P c d)) None (first_fault J outer (entry_of d (declared_of (P c)) ∷ Γ) (part_forest P (n + 1) p rest))
        (ok Γ (declaration_shape P c d) (declaration_facts count P N numbered E Γ scope c d h.0 (and_parts (is_none (E c)) _ parts.0).0)) refl
        (part_order (with_name E c d) (entry_of d (declared_of (P c)) ∷ Γ) (scope_more count P N numbered E Γ c d h.0 scope) (n + 1) p rest outer h.1 parts.1 k)

    parts_order : (E : Environment) (Γ : Sorts) (scope : IsScope count P E Γ) (n : ℕ) (ps : Trees) → PartsAreKnown count ps → all_types_kept ps E ≡ true
        → first_fault J Γ Γ (parts_forest P n ps) ≡ None
    parts_order E Γ scope n no_tree h t = refl
    parts_order E Γ scope n (and_tree p ps) h t =
        let parts = and_parts (types_kept p E) (all_types_kept ps E) t in
        part_order E Γ scope n p (parts_forest P (n + height p) ps) Γ h.0 parts.0 (parts_order E Γ scope (n + height p) ps h.1 parts.1)

    cases_order : (E : Environment) (Γ : Sorts) (scope : IsScope count P E Γ) (n : ℕ) (cs : Cases) → CasesAreKnown count cs → cases_kept cs E ≡ true
        → first_fault J Γ Γ (cases_forest P n cs) ≡ None
    cases_order E Γ scope n no_case h t = refl
    cases_order E Γ scope n (and_case e p cs) h t =
        let front = and_parts _ (cases_kept cs E) t in
        let first = and_parts (is_condition E e) (types_kept p E) front.0 in
        three n (J Γ (line.condition (whole_said P e))) (first_fault J Γ Γ (part_forest P (n + 1) p no_line)) (first_fault J Γ Γ (cases_forest P (n + 1 + height p) cs))
        (ok Γ (line.condition (whole_said P e)) (condition_facts count P N numbered E Γ scope e h.0 first.0))
        (part_order E Γ scope (n + 1) p no_line Γ h.1 first.1 refl) (cases_order E Γ scope (n + 1 + height p) cs h.2 front.1)

    branches_order : (E : Environment) (Γ : Sorts) (scope : IsScope count P E Γ) (n : ℕ) (bs : Branches) → BranchesAreKnown count bs → branches_kept bs E ≡ true
        → first_fault J Γ Γ (branches_forest P n bs) ≡ None
    branches_order E Γ scope n no_branch h t = refl
    branches_order E Γ scope n (and_branch e w p bs) h t =
        let front = and_parts _ (branches_kept bs E) t in
        let second = and_parts _ (types_kept p E) front.0 in
        let first = and_parts (is_condition E e) (waiting_kept E w) second.0 in
        let s = guard_shape P e w in
        let b = is_true e && not (is_ready w) in
        let below = part_forest P (n + 1) p no_line in
        let others = branches_forest P (n + 1 + height p) bs in
        ap (λ Δ. or_else (on_line n (J Γ s)) (or_else (first_fault J Δ Δ below) (first_fault J Γ (behind Γ Γ s) others))) (inside_at P Γ e w b)
        ∙ ap (λ Δ. or_else (on_line n (J Γ s)) (or_else (first_fault J Γ Γ below) (first_fault J Γ Δ others))) (behind_at P Γ e w b)
        ∙ three n (J Γ s) (first_fault J Γ Γ below) (first_fault J Γ Γ others) (ok Γ s (guard_facts count P N numbered E Γ scope e w h.0 first.0 h.1 first.1))
        (part_order E Γ scope (n + 1) p no_line Γ h.2 second.1 refl) (branches_order E Γ scope (n + 1 + height p) bs h.3 front.1)

-- ---- the header

absent : (x y : ℕ) (k : Kind) (e : Option Kind) (b : Bool) → eqb x y ≡ b → (if b then Some k else e) ≡ None → (eqb x y ≡ false) × (e ≡ None)
absent x y k e true h f = absurd (cc)
absent x y k e false h f = (h, f)

others_differ : (x : ℕ) (ps : List (Name × Kind)) → environment ps x ≡ None → AllByRecursion (λ (p : Name × Kind). eqb x p.0.0 ≡ false) ps
others_differ x [] h = tt
others_differ x (p ∷ ps) h =
    let a = absent x p.0.0 p.1 (environment ps x) (eqb x p.0.0) refl h in
    (a.0, others_differ x ps a.1)

eqb-other : (x y : ℕ) → eqb x y ≡ false → eqb y x ≡ false
eqb-other x y h = false_from_ne_true _ (λ t.
    let e : x ≡ y = sym (eqb-true y x t) in
    let u : eqb x y ≡ true = eq-eqb x y e in
    absurd (cc))

still_fresh : (E : Environment) (x : ℕ) (k : Kind) (ps : List (Name × Kind)) → AllByRecursion (λ (p : Name × Kind). eqb x p.0.0 ≡ false) ps
    → AllByRecursion (λ (p : Name × Kind). is_none (E p.0.0) ≡ true) ps → AllByRecursion (λ (p : Name × Kind). is_none (with_name E x k p.0.0) ≡ true) ps
still_fresh E x k [] d h = tt
still_fresh E x k (p ∷ ps) d h = (ap (λ b. is_none (if b then Some k else E p.0.0)) (eqb-other x p.0.0 d.0) ∙ h.0, still_fresh E x k ps d.1 h.1)

absent_is : (o : Option Kind) → is_none o ≡ true → o ≡ None
absent_is None h = refl
absent_is (Some k) h = absurd (cc)

abbrev nowhere : Environment
nowhere x = None

all_absent : (ps : List (Name × Kind)) → AllByRecursion (λ (p : Name × Kind). is_none (nowhere p.0.0) ≡ true) ps
all_absent [] = tt
all_absent (p ∷ ps) = (refl, all_absent ps)

or-nothing : (b c : Bool) → (b || false) ≡ false → (b || c) ≡ c
or-nothing true c h = absurd (cc)
or-nothing false c h = refl

module _ (count : ℕ) (P : ℕ → Place) (N : Numbers) (numbered : IsNumbered count P N) where
  params_fresh : (E : Environment) (Γ : Sorts) (scope : IsScope count P E Γ) (ps : List (Name × Kind)) → AllByRecursion (λ (p : Name × Kind). p.0.0 < count) ps → scope_kept ps ≡ true
      → AllByRecursion (λ (p : Name × Kind). is_none (E p.0.0) ≡ true) ps → redeclares_some Γ (param_entries (params_said P ps)) ≡ false
  params_fresh E Γ scope [] h t a = refl
  params_fresh E Γ scope (p ∷ ps) h t a =
      let parts = and_parts (can_declare (environment ps) p.0.0 (width_of_kind p.1)) (scope_kept ps) t in
      let fresh : environment ps p.0.0 ≡ None = absent_is _ (and_parts (is_none (environment ps p.0.0)) _ parts.0).0 in
      let entry = entry_of p.1 (declared_of (P p.0.0)) in
      let here = there_at count P N numbered E Γ scope (P p.0.0).name (P p.0.0).element (fresh_at count P N numbered E Γ scope p.0.0 h.0 a.0) in
      or-nothing (list_any (is_there Γ) (places (declared_of (P p.0.0)))) (redeclares_some (entry ∷ Γ) (param_entries (params_said P ps))) here
      ∙ params_fresh (with_name E p.0.0 p.1) (entry ∷ Γ) (scope_more count P N numbered E Γ p.0.0 p.1 h.0 scope) ps h.1 parts.1 (still_fresh E p.0.0 p.1 ps (others_differ p.0.0 ps fresh) a.1)

  header_facts : (name : Name) (ps : List (Name × Kind)) → AllByRecursion (λ (p : Name × Kind). p.0.0 < count) ps → scope_kept ps ≡ true → Facts [] (line.header name (params_said P ps))
  header_facts name ps h t = record {
    items = tt;
    fresh = params_fresh nowhere [] (λ x k. refl) ps h t (all_absent ps);
    apart = refl;
    agreeing = λ ρ. refl;
    typed = λ ρ. refl;
    directed = λ ρ. refl;
  }

  pub program_order : {F : Type 0} (J : Sorts → Shape → Option F) → ((Γ : Sorts) (s : Shape) → Facts Γ s → J Γ s ≡ None) → (n name : ℕ) (ps : List (Name × Kind)) (body : Tree)
      → AllByRecursion (λ (p : Name × Kind). p.0.0 < count) ps → PartIsKnown count body → scope_kept ps ≡ true → types_kept body (environment ps) ≡ true
      → first_fault J [] [] (program_forest P n name ps body) ≡ None
  program_order J ok n name ps body h k s t =
      let header = line.header (record { 0 = (P name).name }) (params_said P ps) in
      let scope = header_scoped count P N numbered ps s h in
      three n (J [] header) (first_fault J (header_scope P ps) (header_scope P ps) (body_forest P n body))
      (first_fault J [] [] (and_line (n + 1 + height body) line.close no_line no_line))
      (ok [] header (header_facts (record { 0 = (P name).name }) ps h s))
      (part_order J ok count P N numbered (environment ps) (header_scope P ps) scope (n + 1) body no_line (header_scope P ps) k t refl)
      (three (n + 1 + height body) (J [] line.close) None None (ok [] line.close (close_facts [])) refl refl)
