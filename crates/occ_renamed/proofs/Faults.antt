-- Lines under other names have the faults that they had.
use Rattle.std.proofs.Common.{◌≡◌, ℕ, ◌+◌, ◌*◌, Bool, true, false, not, ◌&&◌, ◌||◌, nat_lt, if◌then◌else◌, List, [], ◌∷◌, ◌++◌, map, length, Option, Some, None, is_none, is_some, refl, sym, ap, ap₂, ◌∙◌}
use Rattle.std.specs.List.{flat_map, list_any}
use Rattle.std.proofs.lemmas.List.{length-map, map-append}
use Rattle.occ_replay_rules.specs.occ_base.declared.event.Dir.TheVariants as dir
use Rattle.occ_replay_rules.specs.occ_base.declared.width.Width.{Width}
use Rattle.occ_replay_rules.specs.occ_base.declared.width.Width.TheVariants.{Bool as TruthValue}
use Rattle.occ_replay_rules.specs.occ_syntax.declared.scope.Kind.{Kind}
use Rattle.occ_replay_rules.specs.occ_parse_forms.declared.form.Declared.{Declared}
use Rattle.occ_replay_rules.specs.occ_parse_forms.declared.form.Declared.TheVariants as declared
use Rattle.occ_replay_rules.specs.occ_parse_forms.declared.form.Item.{Item}
use Rattle.occ_replay_rules.specs.occ_parse_forms.declared.form.Param.{Param}
use Rattle.occ_replay_rules.specs.occ_parse_forms.declared.phrase.Index.{Index}
use Rattle.occ_replay_rules.specs.occ_parse_forms.declared.phrase.Index.TheVariants as index
use Rattle.occ_replay_rules.specs.occ_parse_forms.Shape.{Said, Shape, Waiting}
use Rattle.occ_replay_rules.specs.occ_parse_forms.Shape as line
use Rattle.occ_renamed.specs.Renamed.{all_declared_renamed, all_said_renamed, declared_renamed, entry_renamed, forest_renamed, index_renamed, indexed_renamed, item_renamed, items_renamed, params_renamed, place_renamed, said_renamed, shape_renamed, sorts_renamed, waits_renamed}
use Rattle.occ_renamed.specs.Standing.{IsOneForOne}
use Rattle.occ_renamed.proofs.Elements.{params_places_renamed, places_of_renamed}
use Rattle.occ_renamed.proofs.Scopes.{HaveSame, channel_same, declared_scope, found_renamed, found_sort, index_same, is_none_renamed, item_place, named_counts, own_same, params_scope, sort_here_same, sort_renamed, variable_same}
use Rattle.occ_replay_rules.specs.occ_parse_rules.declared.fault.NameFault.TheVariants as name
use Rattle.occ_replay_rules.specs.occ_parse_rules.declared.fault.TypeFault.TheVariants as type
use Rattle.occ_replay_rules.specs.occ_parse_rules.declared.sort.Entry.{Entry}
use Rattle.occ_replay_rules.specs.occ_parse_rules.declared.sort.Sort.{Sort}
use Rattle.occ_replay_rules.specs.occ_parse_rules.declared.sort.Sort.TheVariants as sort
use Rattle.occ_replay_rules.specs.occ_parse_rules.Forest.{Forest, no_line, and_line}
use Rattle.occ_replay_rules.specs.occ_parse_rules.Judging.{behind, first_fault, inside, on_line, or_else}
use Rattle.occ_replay_rules.specs.occ_parse_rules.Limits.{bits_fault, bits_in_scope, bits_of_sort, copied_lines, count_fault, has_copies, is_long}
use Rattle.occ_replay_rules.specs.occ_parse_rules.Names.{index_counts, index_name, is_outside, is_there, is_undeclared, is_undeclared_at, items_in, items_in_all, items_of_waiting, left_items, may_meet, name_fault, name_missing, redeclares, redeclares_some, same_element, same_place, some_meet, uses}
use Rattle.occ_replay_rules.specs.occ_parse_rules.Places.{Indices, Place, Sorts, counter_of, declared_in, declares_some, entries_of, for_some, for_some_from, param_entries, place_at, places, sort_of, sort_of_place, taken_by, values_of, has_elements, with_index}
use Rattle.occ_replay_rules.specs.occ_parse_rules.Types.{asks, channel_here, clashes, class, compares, direction_fault, has_lost, has_untyped, if_asked, is_against, is_truth_value, line_against, line_clashes, line_untyped, or_width, own, pairs_clash, refuses, sort_clashes, type_fault, value_clashes, variable_here, waiting_against, waiting_clashes, waiting_untyped, widths_differ}

-- ---- lists

any_so : {A : Type 0} (R : A → A) (p q : A → Bool) → ((x : A) → p (R x) ≡ q x) → (xs : List A) → list_any p (map R xs) ≡ list_any q xs
any_so R p q h [] = refl
any_so R p q h (x ∷ xs) = ap₂ (λ b c. b || c) (h x) (any_so R p q h xs)

any_same : {A : Type 0} (p q : A → Bool) → ((x : A) → p x ≡ q x) → (xs : List A) → list_any p xs ≡ list_any q xs
any_same p q h [] = refl
any_same p q h (x ∷ xs) = ap₂ (λ b c. b || c) (h x) (any_same p q h xs)

module _ (f : ℕ → ℕ) (one : IsOneForOne f) where
  -- ---- values of indices

  abbrev AreAlike : (Indices → Bool) → (Indices → Bool) → Type 0
  AreAlike test other = (ρ σ : Indices) → HaveSame f ρ σ → other σ ≡ test ρ

  taken_same : (d : Declared) (s : Sort) (test other : Indices → Bool) → AreAlike test other → AreAlike (taken_by d s test) (taken_by (declared_renamed f d) s other)
  taken_same (declared.Plain i) (sort.Counter b n) test other h ρ σ v =
      any_same (λ u. other (with_index σ (f i.0) u)) (λ u. test (with_index ρ i.0 u)) (λ u. h (with_index ρ i.0 u) (with_index σ (f i.0) u) (index_same f one ρ σ v i.0 u)) (values_of b n)
  taken_same (declared.Plain i) (sort.Variable width) test other h ρ σ v = h ρ σ v
  taken_same (declared.Plain i) (sort.Channel width mark) test other h ρ σ v = h ρ σ v
  taken_same (declared.Element i k) s test other h ρ σ v = h ρ σ v
  taken_same (declared.Array i n) s test other h ρ σ v = h ρ σ v

  some_from : (Γ : Sorts) (test other : Indices → Bool) → AreAlike test other → AreAlike (for_some_from Γ test) (for_some_from (sorts_renamed f Γ) other)
  some_from [] test other h ρ σ v = h ρ σ v
  some_from (entry ∷ Γ) test other h ρ σ v =
      some_from Γ (taken_by entry.declared entry.sort test) (taken_by (declared_renamed f entry.declared) entry.sort other) (taken_same entry.declared entry.sort test other h) ρ σ v

  some_same : (Γ : Sorts) (test other : Indices → Bool) → AreAlike test other → for_some (sorts_renamed f Γ) other ≡ for_some Γ test
  some_same Γ test other h = some_from Γ test other h (λ i. 0) (λ i. 0) (λ x. refl)

  -- ---- the items of a line

  items_in_so : (e : Said) → items_in (said_renamed f e) ≡ items_renamed f (items_in e)
  items_in_so (line.item i) = refl
  items_in_so (line.numeral value) = refl
  items_in_so (line.typed value width) = refl
  items_in_so (line.truth b) = refl
  items_in_so (line.negation e) = items_in_so e
  items_in_so (line.complement e) = items_in_so e
  items_in_so (line.operation op left right) = ap₂ ◌++◌ (items_in_so left) (items_in_so right) ∙ sym (map-append (item_renamed f) (items_in left) (items_in right))

  items_all_so : (es : List Said) → items_in_all (all_said_renamed f es) ≡ items_renamed f (items_in_all es)
  items_all_so [] = refl
  items_all_so (e ∷ es) = ap₂ ◌++◌ (items_in_so e) (items_all_so es) ∙ sym (map-append (item_renamed f) (items_in e) (items_in_all es))

  items_waiting_so : (w : Waiting) → items_of_waiting (waits_renamed f w) ≡ items_renamed f (items_of_waiting w)
  items_waiting_so line.ready = refl
  items_waiting_so (line.input c x) = refl
  items_waiting_so (line.output c e) = ap (λ is. item_renamed f c ∷ is) (items_in_so e)

  uses_so : (s : Shape) → uses (shape_renamed f s) ≡ items_renamed f (uses s)
  uses_so (line.header n params) = refl
  uses_so line.close = refl
  uses_so line.skip = refl
  uses_so line.stop = refl
  uses_so (line.assign xs es) = ap (λ is. items_renamed f xs ++ is) (items_all_so es) ∙ sym (map-append (item_renamed f) xs (items_in_all es))
  uses_so (line.receive c x) = refl
  uses_so (line.send c e) = ap (λ is. item_renamed f c ∷ is) (items_in_so e)
  uses_so (line.group g times) = refl
  uses_so (line.declare kind ds) = refl
  uses_so (line.condition e) = items_in_so e
  uses_so (line.guard e w) = ap₂ ◌++◌ (items_in_so e) (items_waiting_so w) ∙ sym (map-append (item_renamed f) (items_in e) (items_of_waiting w))
  uses_so line.nothing = refl

  left_so : (s : Shape) → left_items (shape_renamed f s) ≡ items_renamed f (left_items s)
  left_so (line.header n params) = refl
  left_so line.close = refl
  left_so line.skip = refl
  left_so line.stop = refl
  left_so (line.assign xs es) = refl
  left_so (line.receive c x) = refl
  left_so (line.send c e) = refl
  left_so (line.group g times) = refl
  left_so (line.declare kind ds) = refl
  left_so (line.condition e) = refl
  left_so (line.guard e w) = refl
  left_so line.nothing = refl

  -- ---- names

  some_declared : (d : Declared) (x : ℕ) → declares_some (declared_renamed f d) (f x) ≡ declares_some d x
  some_declared (declared.Plain y) x = refl
  some_declared (declared.Element y j) x = one x y.0
  some_declared (declared.Array y n) x = ap (λ b. b && nat_lt 0 n) (one x y.0)

  elements_same : (Γ : Sorts) (x : ℕ) → has_elements (sorts_renamed f Γ) (f x) ≡ has_elements Γ x
  elements_same Γ x = any_so (entry_renamed f) _ _ (λ (entry : Entry). some_declared entry.declared x) Γ

  missing_same : (Γ : Sorts) (i : Index) → name_missing (sorts_renamed f Γ) (index_name (index_renamed f i)) ≡ name_missing Γ (index_name i)
  missing_same Γ (index.Number k) = refl
  missing_same Γ (index.Name i) = ap (λ o. is_none o) (sort_renamed f one Γ i.0 None)
  missing_same Γ (index.Plus i k) = ap (λ o. is_none o) (sort_renamed f one Γ i.0 None)
  missing_same Γ (index.Minus i k) = ap (λ o. is_none o) (sort_renamed f one Γ i.0 None)

  undeclared_at : (Γ : Sorts) (x : ℕ) (i : Option Index) → is_undeclared_at (sorts_renamed f Γ) (f x) (indexed_renamed f i) ≡ is_undeclared_at Γ x i
  undeclared_at Γ x None = ap (λ o. is_none o) (sort_renamed f one Γ x None)
  undeclared_at Γ x (Some i) = ap₂ (λ b c. not b || c) (elements_same Γ x) (missing_same Γ i)

  place_sort : (Γ : Sorts) (i : Item) → AreAlike (λ ρ. is_none (sort_of_place Γ (place_at ρ i))) (λ σ. is_none (sort_of_place (sorts_renamed f Γ) (place_at σ (item_renamed f i))))
  place_sort Γ i ρ σ v = ap (λ o. is_none (sort_of_place (sorts_renamed f Γ) o)) (item_place f one ρ σ v i) ∙ ap (λ o. is_none o) (found_sort f one Γ (place_at ρ i))

  outside_same : (Γ : Sorts) (i : Item) → is_outside (sorts_renamed f Γ) (item_renamed f i) ≡ is_outside Γ i
  outside_same Γ i = ap₂ (λ b c. b && c) (named_counts f one Γ i.index) (some_same Γ _ _ (place_sort Γ i))

  place_same : (o p : Option Place) → same_place (found_renamed f o) (found_renamed f p) ≡ same_place o p
  place_same None p = refl
  place_same (Some p) None = refl
  place_same (Some p) (Some q) = ap (λ b. b && same_element p.element q.element) (one p.name q.name)

  meet_same : (Γ : Sorts) (i j : Item) → may_meet (sorts_renamed f Γ) (item_renamed f i) (item_renamed f j) ≡ may_meet Γ i j
  meet_same Γ i j =
      ap₂ (λ b c. b && c) (ap₂ (λ b c. b && c) (named_counts f one Γ i.index) (named_counts f one Γ j.index))
      (some_same Γ (λ ρ. same_place (place_at ρ i) (place_at ρ j)) (λ σ. same_place (place_at σ (item_renamed f i)) (place_at σ (item_renamed f j)))
      (λ ρ σ v. ap₂ same_place (item_place f one ρ σ v i) (item_place f one ρ σ v j) ∙ place_same (place_at ρ i) (place_at ρ j)))

  all_meet : (Γ : Sorts) (is : List Item) → some_meet (sorts_renamed f Γ) (items_renamed f is) ≡ some_meet Γ is
  all_meet Γ [] = refl
  all_meet Γ (i ∷ is) = ap₂ (λ b c. b || c) (any_so (item_renamed f) _ _ (meet_same Γ i) is) (all_meet Γ is)

  entries_so : (k : Kind) (ds : List Declared) → entries_of k (all_declared_renamed f ds) ≡ sorts_renamed f (entries_of k ds)
  entries_so k [] = refl
  entries_so k (d ∷ ds) = ap (λ es. record { declared = declared_renamed f d; sort = sort_of k } ∷ es) (entries_so k ds)

  param_entries_so : (ps : List Param) → param_entries (params_renamed f ps) ≡ sorts_renamed f (param_entries ps)
  param_entries_so [] = refl
  param_entries_so (p ∷ ps) = ap (λ es. record { declared = declared_renamed f p.declared; sort = sort_of p.kind } ∷ es) (param_entries_so ps)

  there_same : (Γ : Sorts) (d : Declared) → list_any (is_there (sorts_renamed f Γ)) (places (declared_renamed f d)) ≡ list_any (is_there Γ) (places d)
  there_same Γ d =
      ap (list_any (is_there (sorts_renamed f Γ))) (places_of_renamed f one d)
      ∙ any_so (place_renamed f) _ _ (λ (p : Place). ap (λ o. is_some o) (sort_renamed f one Γ p.name p.element)) (places d)

  again_same : (Γ entries : Sorts) → redeclares_some (sorts_renamed f Γ) (sorts_renamed f entries) ≡ redeclares_some Γ entries
  again_same Γ [] = refl
  again_same Γ (entry ∷ entries) = ap₂ (λ b c. b || c) (there_same Γ entry.declared) (again_same (entry ∷ Γ) entries)

  redeclares_same : (Γ : Sorts) (s : Shape) → redeclares (sorts_renamed f Γ) (shape_renamed f s) ≡ redeclares Γ s
  redeclares_same Γ (line.header n params) = ap (redeclares_some (sorts_renamed f Γ)) (param_entries_so params) ∙ again_same Γ (param_entries params)
  redeclares_same Γ line.close = refl
  redeclares_same Γ line.skip = refl
  redeclares_same Γ line.stop = refl
  redeclares_same Γ (line.assign xs es) = refl
  redeclares_same Γ (line.receive c x) = refl
  redeclares_same Γ (line.send c e) = refl
  redeclares_same Γ (line.group g None) = refl
  redeclares_same Γ (line.group g (Some times)) = again_same Γ (counter_of times ∷ [])
  redeclares_same Γ (line.declare kind ds) = ap (redeclares_some (sorts_renamed f Γ)) (entries_so kind ds) ∙ again_same Γ (entries_of kind ds)
  redeclares_same Γ (line.condition e) = refl
  redeclares_same Γ (line.guard e w) = refl
  redeclares_same Γ line.nothing = refl

  name_same : (Γ : Sorts) (s : Shape) → name_fault (sorts_renamed f Γ) (shape_renamed f s) ≡ name_fault Γ s
  name_same Γ s =
      let first = ap (list_any (is_undeclared (sorts_renamed f Γ))) (uses_so s) ∙ any_so (item_renamed f) _ _ (λ (i : Item). undeclared_at Γ i.name.0 i.index) (uses s) in
      let second = redeclares_same Γ s in
      let third = ap (list_any (is_outside (sorts_renamed f Γ))) (uses_so s) ∙ any_so (item_renamed f) _ _ (outside_same Γ) (uses s) in
      let fourth = ap (some_meet (sorts_renamed f Γ)) (left_so s) ∙ all_meet Γ (left_items s) in
      λ i. if first i then Some name.Undeclared else (if second i then Some name.Redeclared else (if third i || fourth i then Some name.Index else None))

  -- ---- types

  asked_same : (o : Option Width) (test other : Width → Bool) → ((w : Width) → other w ≡ test w) → if_asked o other ≡ if_asked o test
  asked_same None test other h = refl
  asked_same (Some w) test other h = h w

  module _ (ρ σ : Indices) (v : HaveSame f ρ σ) (Γ : Sorts) where
    abbrev Γ' : Sorts
    Γ' = sorts_renamed f Γ

    clashes_same : (e : Said) (w : Width) → clashes Γ' σ (said_renamed f e) w ≡ clashes Γ ρ e w
    clashes_same (line.item i) w = ap (sort_clashes w) (sort_here_same f one ρ σ v Γ i)
    clashes_same (line.numeral value) w = refl
    clashes_same (line.typed value width) w = refl
    clashes_same (line.truth b) w = refl
    clashes_same (line.negation e) w = ap (λ b. not (is_truth_value w) || b) (clashes_same e TruthValue)
    clashes_same (line.complement e) w = ap (λ b. is_truth_value w || b) (clashes_same e w)
    clashes_same (line.operation op left right) w =
        let L = said_renamed f left in
        let R = said_renamed f right in
        let operands = or_width (own Γ ρ left) (own Γ ρ right) in
        ap₂ (λ l r. let o = or_width l r in refuses (class op) w o || (if_asked (asks (class op) w o) (clashes Γ' σ L) || if_asked (asks (class op) w o) (clashes Γ' σ R)))
        (own_same f one ρ σ v Γ left) (own_same f one ρ σ v Γ right)
        ∙ ap₂ (λ b c. refuses (class op) w operands || (b || c))
        (asked_same (asks (class op) w operands) (clashes Γ ρ left) (clashes Γ' σ L) (clashes_same left))
        (asked_same (asks (class op) w operands) (clashes Γ ρ right) (clashes Γ' σ R) (clashes_same right))

    untyped_same : (e : Said) → has_untyped Γ' σ (said_renamed f e) ≡ has_untyped Γ ρ e
    untyped_same (line.item i) = refl
    untyped_same (line.numeral value) = refl
    untyped_same (line.typed value width) = refl
    untyped_same (line.truth b) = refl
    untyped_same (line.negation e) = untyped_same e
    untyped_same (line.complement e) = untyped_same e
    untyped_same (line.operation op left right) =
        let l = own_same f one ρ σ v Γ left in
        let r = own_same f one ρ σ v Γ right in
        let b = untyped_same left in
        let c = untyped_same right in
        λ i. (compares (class op) && is_none (or_width (l i) (r i))) || (b i || c i)

    value_same : (o : Option Width) (e : Said) → value_clashes Γ' σ o (said_renamed f e) ≡ value_clashes Γ ρ o e
    value_same None e = refl
    value_same (Some w) e = clashes_same e w

    pairs_same : (xs : List Item) (es : List Said) → pairs_clash Γ' σ (items_renamed f xs) (all_said_renamed f es) ≡ pairs_clash Γ ρ xs es
    pairs_same [] es = refl
    pairs_same (x ∷ xs) [] = refl
    pairs_same (x ∷ xs) (e ∷ es) =
        ap₂ (λ b c. b || c) (ap (λ o. value_clashes Γ' σ o (said_renamed f e)) (variable_same f one ρ σ v Γ x) ∙ value_same (variable_here Γ ρ x) e) (pairs_same xs es)

    waiting_same : (w : Waiting) → waiting_clashes Γ' σ (waits_renamed f w) ≡ waiting_clashes Γ ρ w
    waiting_same line.ready = refl
    waiting_same (line.input c x) = ap₂ widths_differ (channel_same f one ρ σ v Γ c) (variable_same f one ρ σ v Γ x)
    waiting_same (line.output c e) = ap (λ o. value_clashes Γ' σ o (said_renamed f e)) (channel_same f one ρ σ v Γ c) ∙ value_same (channel_here Γ ρ c) e

    line_clashes_same : (s : Shape) → line_clashes Γ' σ (shape_renamed f s) ≡ line_clashes Γ ρ s
    line_clashes_same (line.header n params) = refl
    line_clashes_same line.close = refl
    line_clashes_same line.skip = refl
    line_clashes_same line.stop = refl
    line_clashes_same (line.assign xs es) = pairs_same xs es
    line_clashes_same (line.receive c x) = waiting_same (line.input c x)
    line_clashes_same (line.send c e) = waiting_same (line.output c e)
    line_clashes_same (line.group g times) = refl
    line_clashes_same (line.declare kind ds) = refl
    line_clashes_same (line.condition e) = clashes_same e TruthValue
    line_clashes_same (line.guard e w) = ap₂ (λ b c. b || c) (clashes_same e TruthValue) (waiting_same w)
    line_clashes_same line.nothing = refl

    waiting_untyped_same : (w : Waiting) → waiting_untyped Γ' σ (waits_renamed f w) ≡ waiting_untyped Γ ρ w
    waiting_untyped_same line.ready = refl
    waiting_untyped_same (line.input c x) = refl
    waiting_untyped_same (line.output c e) = untyped_same e

    line_untyped_same : (s : Shape) → line_untyped Γ' σ (shape_renamed f s) ≡ line_untyped Γ ρ s
    line_untyped_same (line.header n params) = refl
    line_untyped_same line.close = refl
    line_untyped_same line.skip = refl
    line_untyped_same line.stop = refl
    line_untyped_same (line.assign xs es) = any_so (said_renamed f) _ _ untyped_same es
    line_untyped_same (line.receive c x) = refl
    line_untyped_same (line.send c e) = untyped_same e
    line_untyped_same (line.group g times) = refl
    line_untyped_same (line.declare kind ds) = refl
    line_untyped_same (line.condition e) = untyped_same e
    line_untyped_same (line.guard e w) = ap₂ (λ b c. b || c) (untyped_same e) (waiting_untyped_same w)
    line_untyped_same line.nothing = refl

    waiting_against_same : (w : Waiting) → waiting_against Γ' σ (waits_renamed f w) ≡ waiting_against Γ ρ w
    waiting_against_same line.ready = refl
    waiting_against_same (line.input c x) = ap (is_against dir.Input) (sort_here_same f one ρ σ v Γ c)
    waiting_against_same (line.output c e) = ap (is_against dir.Output) (sort_here_same f one ρ σ v Γ c)

    line_against_same : (s : Shape) → line_against Γ' σ (shape_renamed f s) ≡ line_against Γ ρ s
    line_against_same (line.header n params) = refl
    line_against_same line.close = refl
    line_against_same line.skip = refl
    line_against_same line.stop = refl
    line_against_same (line.assign xs es) = refl
    line_against_same (line.receive c x) = waiting_against_same (line.input c x)
    line_against_same (line.send c e) = waiting_against_same (line.output c e)
    line_against_same (line.group g times) = refl
    line_against_same (line.declare kind ds) = refl
    line_against_same (line.condition e) = refl
    line_against_same (line.guard e w) = waiting_against_same w
    line_against_same line.nothing = refl

  lost_same : (Γ : Sorts) (s : Shape) → has_lost (sorts_renamed f Γ) (shape_renamed f s) ≡ has_lost Γ s
  lost_same Γ s =
      ap (list_any (λ i. not (is_none i.index || index_counts (sorts_renamed f Γ) i.index))) (uses_so s)
      ∙ any_so (item_renamed f) _ _ (λ (i : Item). ap₂ (λ b c. not (b || c)) (is_none_renamed f one i.index) (named_counts f one Γ i.index)) (uses s)

  type_same : (Γ : Sorts) (s : Shape) → type_fault (sorts_renamed f Γ) (shape_renamed f s) ≡ type_fault Γ s
  type_same Γ s =
      let lost = lost_same Γ s in
      let clash = some_same Γ (λ ρ. line_clashes Γ ρ s) (λ σ. line_clashes (sorts_renamed f Γ) σ (shape_renamed f s)) (λ ρ σ v. line_clashes_same ρ σ v Γ s) in
      let untyped = some_same Γ (λ ρ. line_untyped Γ ρ s) (λ σ. line_untyped (sorts_renamed f Γ) σ (shape_renamed f s)) (λ ρ σ v. line_untyped_same ρ σ v Γ s) in
      λ i. if lost i || clash i then Some type.TypeClash else (if untyped i then Some type.NoType else None)

  direction_same : (Γ : Sorts) (s : Shape) → direction_fault (sorts_renamed f Γ) (shape_renamed f s) ≡ direction_fault Γ s
  direction_same Γ s =
      let against = some_same Γ (λ ρ. line_against Γ ρ s) (λ σ. line_against (sorts_renamed f Γ) σ (shape_renamed f s)) (λ ρ σ v. line_against_same ρ σ v Γ s) in
      λ i. if against i then Some tt else None

  -- ---- limits

  long_same : (d : Declared) → is_long (declared_renamed f d) ≡ is_long d
  long_same (declared.Plain x) = refl
  long_same (declared.Element x k) = refl
  long_same (declared.Array x n) = refl

  count_same : (Γ : Sorts) (s : Shape) → count_fault (sorts_renamed f Γ) (shape_renamed f s) ≡ count_fault Γ s
  count_same Γ (line.header n params) = refl
  count_same Γ line.close = refl
  count_same Γ line.skip = refl
  count_same Γ line.stop = refl
  count_same Γ (line.assign xs es) = refl
  count_same Γ (line.receive c x) = refl
  count_same Γ (line.send c e) = refl
  count_same Γ (line.group g None) = refl
  count_same Γ (line.group g (Some times)) = refl
  count_same Γ (line.declare kind ds) = ap (λ b. if b then Some tt else None) (any_so (declared_renamed f) is_long is_long long_same ds)
  count_same Γ (line.condition e) = refl
  count_same Γ (line.guard e w) = refl
  count_same Γ line.nothing = refl

  pub scope_bits : (Γ : Sorts) → bits_in_scope (sorts_renamed f Γ) ≡ bits_in_scope Γ
  scope_bits [] = refl
  scope_bits (entry ∷ Γ) =
      ap₂ (λ m n. m * bits_of_sort entry.sort + n) (ap (λ (ps : List Place). length ps) (places_of_renamed f one entry.declared) ∙ length-map (places entry.declared) (place_renamed f)) (scope_bits Γ)

  bits_same : (Γ : Sorts) (s : Shape) → bits_fault (sorts_renamed f Γ) (shape_renamed f s) ≡ bits_fault Γ s
  bits_same Γ (line.header n params) = refl
  bits_same Γ line.close = refl
  bits_same Γ line.skip = refl
  bits_same Γ line.stop = refl
  bits_same Γ (line.assign xs es) = refl
  bits_same Γ (line.receive c x) = refl
  bits_same Γ (line.send c e) = refl
  bits_same Γ (line.group g times) = refl
  bits_same Γ (line.declare kind ds) =
      ap (λ n. if nat_lt 24 n then Some tt else None)
      (ap (λ Δ. bits_in_scope Δ) (declared_scope f Γ kind ds) ∙ scope_bits (declared_in Γ (entries_of kind ds)))
  bits_same Γ (line.condition e) = refl
  bits_same Γ (line.guard e w) = refl
  bits_same Γ line.nothing = refl

  copies_same : (s : Shape) → has_copies (shape_renamed f s) ≡ has_copies s
  copies_same (line.header n params) = refl
  copies_same line.close = refl
  copies_same line.skip = refl
  copies_same line.stop = refl
  copies_same (line.assign xs es) = refl
  copies_same (line.receive c x) = refl
  copies_same (line.send c e) = refl
  copies_same (line.group g None) = refl
  copies_same (line.group g (Some times)) = refl
  copies_same (line.declare kind ds) = refl
  copies_same (line.condition e) = refl
  copies_same (line.guard e w) = refl
  copies_same line.nothing = refl

  chosen : (b : Bool) (g : Forest) → (if b then forest_renamed f g else no_line) ≡ forest_renamed f (if b then g else no_line)
  chosen true g = refl
  chosen false g = refl

  pub copied_so : (g : Forest) → copied_lines (forest_renamed f g) ≡ forest_renamed f (copied_lines g)
  copied_so no_line = refl
  copied_so (and_line number s below rest) =
      ap₂ (and_line number (shape_renamed f s))
      (ap₂ (λ b g. if b then g else no_line) (copies_same s) (copied_so below) ∙ chosen (has_copies s) (copied_lines below)) (copied_so rest)

  pub as_many_parameters : (ps : List Param) → length (flat_map (λ p. places p.declared) (params_renamed f ps)) ≡ length (flat_map (λ p. places p.declared) ps)
  as_many_parameters ps = ap (λ (us : List Place). length us) (params_places_renamed f one ps) ∙ length-map (flat_map (λ p. places p.declared) ps) (place_renamed f)

  -- ---- the first fault of lines

  inside_same : (Γ : Sorts) (s : Shape) → inside (sorts_renamed f Γ) (shape_renamed f s) ≡ sorts_renamed f (inside Γ s)
  inside_same Γ (line.header n params) = params_scope f Γ params
  inside_same Γ line.close = refl
  inside_same Γ line.skip = refl
  inside_same Γ line.stop = refl
  inside_same Γ (line.assign xs es) = refl
  inside_same Γ (line.receive c x) = refl
  inside_same Γ (line.send c e) = refl
  inside_same Γ (line.group g None) = refl
  inside_same Γ (line.group g (Some times)) = refl
  inside_same Γ (line.declare kind ds) = refl
  inside_same Γ (line.condition e) = refl
  inside_same Γ (line.guard e w) = refl
  inside_same Γ line.nothing = refl

  behind_same : (outer Γ : Sorts) (s : Shape) → behind (sorts_renamed f outer) (sorts_renamed f Γ) (shape_renamed f s) ≡ sorts_renamed f (behind outer Γ s)
  behind_same outer Γ (line.header n params) = refl
  behind_same outer Γ line.close = refl
  behind_same outer Γ line.skip = refl
  behind_same outer Γ line.stop = refl
  behind_same outer Γ (line.assign xs es) = refl
  behind_same outer Γ (line.receive c x) = refl
  behind_same outer Γ (line.send c e) = refl
  behind_same outer Γ (line.group g times) = refl
  behind_same outer Γ (line.declare kind ds) = declared_scope f Γ kind ds
  behind_same outer Γ (line.condition e) = refl
  behind_same outer Γ (line.guard e w) = refl
  behind_same outer Γ line.nothing = refl

  fault_same : {F : Type 0} (judge : Sorts → Shape → Option F) → ((Γ : Sorts) (s : Shape) → judge (sorts_renamed f Γ) (shape_renamed f s) ≡ judge Γ s)
      → (outer Γ : Sorts) (g : Forest) → first_fault judge (sorts_renamed f outer) (sorts_renamed f Γ) (forest_renamed f g) ≡ first_fault judge outer Γ g
  fault_same judge h outer Γ no_line = refl
  fault_same judge h outer Γ (and_line number s below rest) =
      let here = ap (on_line number) (h Γ s) in
      let under = ap (λ Δ. first_fault judge Δ Δ (forest_renamed f below)) (inside_same Γ s) ∙ fault_same judge h (inside Γ s) (inside Γ s) below in
      let next = ap (λ Δ. first_fault judge (sorts_renamed f outer) Δ (forest_renamed f rest)) (behind_same outer Γ s) ∙ fault_same judge h outer (behind outer Γ s) rest in
      λ i. or_else (here i) (or_else (under i) (next i))

  pub names_same : (outer Γ : Sorts) (g : Forest) → first_fault name_fault (sorts_renamed f outer) (sorts_renamed f Γ) (forest_renamed f g) ≡ first_fault name_fault outer Γ g
  names_same = fault_same name_fault name_same

  pub types_same : (outer Γ : Sorts) (g : Forest) → first_fault type_fault (sorts_renamed f outer) (sorts_renamed f Γ) (forest_renamed f g) ≡ first_fault type_fault outer Γ g
  types_same = fault_same type_fault type_same

  pub directions_same : (outer Γ : Sorts) (g : Forest) → first_fault direction_fault (sorts_renamed f outer) (sorts_renamed f Γ) (forest_renamed f g) ≡ first_fault direction_fault outer Γ g
  directions_same = fault_same direction_fault direction_same

  pub counts_same : (outer Γ : Sorts) (g : Forest) → first_fault count_fault (sorts_renamed f outer) (sorts_renamed f Γ) (forest_renamed f g) ≡ first_fault count_fault outer Γ g
  counts_same = fault_same count_fault count_same

  pub all_bits_same : (outer Γ : Sorts) (g : Forest) → first_fault bits_fault (sorts_renamed f outer) (sorts_renamed f Γ) (forest_renamed f g) ≡ first_fault bits_fault outer Γ g
  all_bits_same = fault_same bits_fault bits_same
