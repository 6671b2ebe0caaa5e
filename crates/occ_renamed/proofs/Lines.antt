-- Lines in order, under other names, stand for the same program under other names.
use Rattle.std.proofs.Common.{◌≡◌, ℕ, ◌==◌, true, false, not, ◌&&◌, List, [], ◌∷◌, ◌++◌, map, min, Option, Some, None, is_some, unwrap_or, refl, ap, ap₂, subst, ◌∙◌}
use Rattle.std.specs.List.{AllByRecursion, list_any}
use Rattle.std.specs.Prelude.{option_to_list}
use Rattle.std.proofs.lemmas.Bool.{and_parts, or_left, or_right}
use Rattle.occ_replay_rules.specs.occ_base.declared.names.Name.{Name}
use Rattle.occ_replay_rules.specs.occ_base.declared.width.Width.{Width}
use Rattle.occ_replay_rules.specs.occ_base.declared.width.Width.TheVariants.{Bool as TruthValue}
use Rattle.occ_replay_rules.specs.occ_base.Width.{bits_of}
use Rattle.occ_replay_rules.proofs.from_meaning.Facts.{at_itself, false_not_true}
use Rattle.occ_replay_rules.specs.occ_meaning.Rename.{all_renamed, branches_renamed, cases_renamed, renamed, renamed_exp, renamed_exps, renamed_names, renamed_waiting}
use Rattle.occ_replay_rules.specs.occ_parse_forms.declared.form.Declared.{Declared}
use Rattle.occ_replay_rules.specs.occ_parse_forms.declared.form.Group.{Group}
use Rattle.occ_replay_rules.specs.occ_parse_forms.declared.form.Group.TheVariants as word
use Rattle.occ_replay_rules.specs.occ_parse_forms.declared.form.Item.{Item}
use Rattle.occ_replay_rules.specs.occ_parse_forms.declared.form.Param.{Param}
use Rattle.occ_replay_rules.specs.occ_parse_forms.declared.form.Times.{Times}
use Rattle.occ_replay_rules.specs.occ_parse_forms.Shape.{Said, Shape}
use Rattle.occ_replay_rules.specs.occ_parse_forms.Shape as line
use Rattle.occ_renamed.specs.Renamed.{all_declared_renamed, all_said_renamed, declared_renamed, forest_renamed, item_renamed, items_renamed, kinds_renamed, params_renamed, said_renamed, shape_renamed, sorts_renamed, times_renamed, waits_renamed}
use Rattle.occ_renamed.specs.Standing.{IsNumbered, IsNumberedSo, IsOneForOne}
use Rattle.occ_renamed.proofs.Elements.{places_of_renamed}
use Rattle.occ_replay_rules.proofs.from_parse_rules.Declared.{all_taken, not_counter}
use Rattle.occ_replay_rules.proofs.from_parse_rules.Kept.{behind_is, here as this, next, some_value, under}
use Rattle.occ_renamed.proofs.Here.{AreHere, here_back, here_front, items_here}
use Rattle.occ_renamed.proofs.Scopes.{HaveSame, channel_same, declared_scope, found_renamed, index_same, item_place, own_same, params_scope, sort_here_same, variable_same}
use Rattle.occ_replay_rules.specs.occ_parse_rules.declared.sort.Sort.{Sort}
use Rattle.occ_replay_rules.specs.occ_parse_rules.declared.sort.Sort.TheVariants as sort
use Rattle.occ_replay_rules.specs.occ_parse_rules.Forest.{Forest, no_line, and_line}
use Rattle.occ_replay_rules.specs.occ_parse_rules.Judging.{inside}
use Rattle.occ_replay_rules.specs.occ_parse_rules.Names.{items_in, items_in_all, items_of_waiting}
use Rattle.occ_replay_rules.specs.occ_parse_rules.Places.{Indices, Place, Sorts, counter_of, declared_in, entries_of, entry_of, numbers_from, param_entries, place_at, places, with_index}
use Rattle.occ_replay_rules.specs.occ_parse_rules.Types.{asks, channel_here, class, or_width, own, sort_here, variable_here}
use Rattle.occ_replay_rules.specs.occ_parse_rules.Unrolled.{Lines, Numbers, all_named, as_parts, branch_line, branches_then, case_line, cases_then, condition, construct, copied, copies, expression, first_tree, item_exp, item_number, named, nested_branches, nested_cases, number_of, params_named, part_line, process, slot, slot_process, trees_then, unrolled, value, values, waited}
use Rattle.occ_replay_rules.specs.occ_parse_rules.Agreement.{IsTaken, at_first, behind_index, behind_name}
use Rattle.occ_replay_rules.specs.occ_parse_rules.InOrder.{AreInOrder, IsInOrder}
use Rattle.occ_replay_rules.specs.occ_parse_rules.Programs.{param_scope}
use Rattle.occ_replay_rules.specs.occ_parse_rules.Sound.{are_options, are_placed, is_declare, options_below}
use Rattle.occ_replay_rules.specs.occ_parse_unroll.Elements.{all_places, as_slots, branch_places, case_places, construct_places, copied_places, elements, first_places, item_places, items_places, nested_branches_places, nested_cases_places, operand_places, params_places, parts_places, places_in, process_places, values_places, waiting_places}
use Rattle.occ_replay_rules.specs.occ_syntax.declared.scope.Kind.{Kind}
use Rattle.occ_replay_rules.specs.occ_syntax.declared.scope.Kind.TheVariants as kind
use Rattle.occ_replay_rules.specs.occ_syntax.Declarations.{declaring, declaring_all}
use Rattle.occ_replay_rules.specs.occ_syntax.Tree.{Branches, Cases, Exp, Tree, Trees, Waiting, alt, and_branch, and_case, and_tree, assign, complement, input, negation, no_branch, no_case, no_tree, numeral, operation, output, par, receive, select, send, seq, truth, variable}

front_of : {A : Type 0} (R : A → Type 0) (xs ys : List A) → AllByRecursion R (xs ++ ys) → AllByRecursion R xs
front_of R [] ys h = tt
front_of R (x ∷ xs) ys h = (h.0, front_of R xs ys h.1)

back_of : {A : Type 0} (R : A → Type 0) (xs ys : List A) → AllByRecursion R (xs ++ ys) → AllByRecursion R ys
back_of R [] ys h = h
back_of R (x ∷ xs) ys h = back_of R xs ys h.1

-- ---- lists of parts under other names

trees_joined : (f : ℕ → ℕ) (a b : Trees) → trees_then (all_renamed a f) (all_renamed b f) ≡ all_renamed (trees_then a b) f
trees_joined f no_tree b = refl
trees_joined f (and_tree p ps) b = ap (and_tree (renamed p f)) (trees_joined f ps b)

cases_joined : (f : ℕ → ℕ) (a b : Cases) → cases_then (cases_renamed a f) (cases_renamed b f) ≡ cases_renamed (cases_then a b) f
cases_joined f no_case b = refl
cases_joined f (and_case e p cs) b = ap (and_case (renamed_exp f e) (renamed p f)) (cases_joined f cs b)

branches_joined : (f : ℕ → ℕ) (a b : Branches) → branches_then (branches_renamed a f) (branches_renamed b f) ≡ branches_renamed (branches_then a b) f
branches_joined f no_branch b = refl
branches_joined f (and_branch e w p bs) b = ap (and_branch (renamed_exp f e) (renamed_waiting f w) (renamed p f)) (branches_joined f bs b)

declaring_renamed : (f : ℕ → ℕ) (x : ℕ) (k : Kind) (p : Tree) → declaring (f x) k (renamed p f) ≡ renamed (declaring x k p) f
declaring_renamed f x (kind.Var width) p = refl
declaring_renamed f x (kind.Chan width mark) p = refl

within_renamed : (f : ℕ → ℕ) (ds : List (Name × Kind)) (p : Tree) → declaring_all (kinds_renamed f ds) (renamed p f) ≡ renamed (declaring_all ds p) f
within_renamed f [] p = refl
within_renamed f (d ∷ ds) p = ap (declaring (f d.0.0) d.1) (within_renamed f ds p) ∙ declaring_renamed f d.0.0 d.1 (declaring_all ds p)

kinds_joined : (f : ℕ → ℕ) (ds es : List (Name × Kind)) → kinds_renamed f ds ++ kinds_renamed f es ≡ kinds_renamed f (ds ++ es)
kinds_joined f [] es = refl
kinds_joined f (d ∷ ds) es = ap (λ r. (record { 0 = f d.0.0 }, d.1) ∷ r) (kinds_joined f ds es)

taken_entries : (Γ : Sorts) (ρ : Indices) → IsTaken Γ ρ → (ps : List Param) → IsTaken (declared_in Γ (param_entries ps)) ρ
taken_entries Γ ρ t [] = t
taken_entries Γ ρ t (p ∷ ps) = taken_entries (entry_of p.kind p.declared ∷ Γ) ρ (behind_name (not_counter p.kind) t) ps

module _ (f : ℕ → ℕ) (one : IsOneForOne f) (N M : Numbers) where
  abbrev So : List Place → Type 0
  So ps = AllByRecursion (IsNumberedSo f N M) ps

  front : (ps qs : List Place) → So (ps ++ qs) → So ps
  front ps qs h = front_of (IsNumberedSo f N M) ps qs h

  back : (ps qs : List Place) → So (ps ++ qs) → So qs
  back ps qs h = back_of (IsNumberedSo f N M) ps qs h

  -- ---- what stands on a line

  module _ (ρ σ : Indices) (v : HaveSame f ρ σ) where
    found_number : (o : Option Place) → is_some o ≡ true → So (option_to_list o) → number_of M (found_renamed f o) ≡ f (number_of N o)
    found_number None h s = false_not_true h
    found_number (Some p) h s = s.0

    item_so : (i : Item) → is_some (place_at ρ i) ≡ true → So (item_places ρ i) → item_number M σ (item_renamed f i) ≡ f (item_number N ρ i)
    item_so i h s = ap (number_of M) (item_place f one ρ σ v i) ∙ found_number (place_at ρ i) h s

    items_so : (is : List Item) → AreHere ρ is → So (items_places ρ is) → map (item_number M σ) (items_renamed f is) ≡ renamed_names f (map (item_number N ρ) is)
    items_so [] h s = refl
    items_so (i ∷ is) h s =
        ap₂ ◌∷◌ (item_so i h.0 (front (item_places ρ i) (items_places ρ is) s)) (items_so is h.1 (back (item_places ρ i) (items_places ρ is) s))

    item_exp_so : (o : Option Sort) (i : Item) (w : Width) → is_some (place_at ρ i) ≡ true → So (operand_places o (item_places ρ i))
        → item_exp o (σ (f i.name.0)) (item_number M σ (item_renamed f i)) w ≡ renamed_exp f (item_exp o (ρ i.name.0) (item_number N ρ i) w)
    item_exp_so (Some (sort.Counter b n)) i w h s = ap (λ u. numeral (bits_of w) (min u 255)) (v i.name.0)
    item_exp_so (Some (sort.Variable width)) i w h s = ap variable (item_so i h s)
    item_exp_so (Some (sort.Channel width mark)) i w h s = ap variable (item_so i h s)
    item_exp_so None i w h s = ap variable (item_so i h s)

    said_so : (Γ : Sorts) (e : Said) (w : Width) → AreHere ρ (items_in e) → So (places_in Γ ρ e)
        → expression M (sorts_renamed f Γ) σ (said_renamed f e) w ≡ renamed_exp f (expression N Γ ρ e w)
    said_so Γ (line.item i) w h s =
        ap (λ o. item_exp o (σ (f i.name.0)) (item_number M σ (item_renamed f i)) w) (sort_here_same f one ρ σ v Γ i)
        ∙ item_exp_so (sort_here Γ ρ i) i w h.0 s
    said_so Γ (line.numeral n) w h s = refl
    said_so Γ (line.typed n width) w h s = refl
    said_so Γ (line.truth b) w h s = refl
    said_so Γ (line.negation e) w h s = ap negation (said_so Γ e TruthValue h s)
    said_so Γ (line.complement e) w h s = ap complement (said_so Γ e w h s)
    said_so Γ (line.operation op left right) w h s =
        let operands = unwrap_or (asks (class op) w (or_width (own Γ ρ left) (own Γ ρ right))) w in
        let L = said_renamed f left in
        let R = said_renamed f right in
        let Γ' = sorts_renamed f Γ in
        ap₂ (λ l r. let o = unwrap_or (asks (class op) w (or_width l r)) w in operation op (expression M Γ' σ L o) (expression M Γ' σ R o))
        (own_same f one ρ σ v Γ left) (own_same f one ρ σ v Γ right)
        ∙ ap₂ (operation op)
        (said_so Γ left operands (here_front ρ (items_in left) (items_in right) h) (front (places_in Γ ρ left) (places_in Γ ρ right) s))
        (said_so Γ right operands (here_back ρ (items_in left) (items_in right) h) (back (places_in Γ ρ left) (places_in Γ ρ right) s))

    value_so : (Γ : Sorts) (e : Said) (a b : Option Width) → b ≡ a → AreHere ρ (items_in e) → So (places_in Γ ρ e)
        → value M (sorts_renamed f Γ) σ b (said_renamed f e) ≡ renamed_exp f (value N Γ ρ a e)
    value_so Γ e a b k h s = ap (λ o. value M (sorts_renamed f Γ) σ o (said_renamed f e)) k ∙ said_so Γ e (unwrap_or a TruthValue) h s

    values_so : (Γ : Sorts) (xs : List Item) (es : List Said) → AreHere ρ (items_in_all es) → So (values_places Γ ρ xs es)
        → values M (sorts_renamed f Γ) σ (items_renamed f xs) (all_said_renamed f es) ≡ renamed_exps f (values N Γ ρ xs es)
    values_so Γ [] es h s = refl
    values_so Γ (x ∷ xs) [] h s = refl
    values_so Γ (x ∷ xs) (e ∷ es) h s =
        ap₂ ◌∷◌
        (value_so Γ e (variable_here Γ ρ x) (variable_here (sorts_renamed f Γ) σ (item_renamed f x)) (variable_same f one ρ σ v Γ x)
        (here_front ρ (items_in e) (items_in_all es) h) (front (places_in Γ ρ e) (values_places Γ ρ xs es) s))
        (values_so Γ xs es (here_back ρ (items_in e) (items_in_all es) h) (back (places_in Γ ρ e) (values_places Γ ρ xs es) s))

    sent_so : (Γ : Sorts) (c : Item) (e : Said) → AreHere ρ (c ∷ items_in e) → So (item_places ρ c ++ places_in Γ ρ e)
        → (item_number M σ (item_renamed f c) ≡ f (item_number N ρ c))
        × (value M (sorts_renamed f Γ) σ (channel_here (sorts_renamed f Γ) σ (item_renamed f c)) (said_renamed f e) ≡ renamed_exp f (value N Γ ρ (channel_here Γ ρ c) e))
    sent_so Γ c e h s = (
      item_so c h.0 (front (item_places ρ c) (places_in Γ ρ e) s),
      value_so Γ e (channel_here Γ ρ c) (channel_here (sorts_renamed f Γ) σ (item_renamed f c)) (channel_same f one ρ σ v Γ c) h.1 (back (item_places ρ c) (places_in Γ ρ e) s),
    )

    waited_so : (Γ : Sorts) (w : line.Waiting) → AreHere ρ (items_of_waiting w) → So (waiting_places Γ ρ w)
        → waited M (sorts_renamed f Γ) σ (waits_renamed f w) ≡ renamed_waiting f (waited N Γ ρ w)
    waited_so Γ line.ready h s = refl
    waited_so Γ (line.input c x) h s =
        ap₂ input (item_so c h.0 (front (item_places ρ c) (item_places ρ x) s)) (item_so x h.1.0 (back (item_places ρ c) (item_places ρ x) s))
    waited_so Γ (line.output c e) h s = let k = sent_so Γ c e h s in ap₂ output k.0 k.1

  -- ---- declarations

  each_so : (k : Kind) (ps : List Place) → So ps
      → map {B = Name × Kind} (λ (p : Place). (record { 0 = M p.name p.element }, k)) (map (λ (p : Place). record { name = f p.name; element = p.element }) ps)
      ≡ kinds_renamed f (map {B = Name × Kind} (λ (p : Place). (record { 0 = N p.name p.element }, k)) ps)
  each_so k [] s = refl
  each_so k (p ∷ ps) s = λ i. (record { 0 = s.0 i }, k) ∷ each_so k ps s.1 i

  named_so : (k : Kind) (d : Declared) → So (places d) → named M k (declared_renamed f d) ≡ kinds_renamed f (named N k d)
  named_so k d s = ap (λ ps. map {B = Name × Kind} (λ (p : Place). (record { 0 = M p.name p.element }, k)) ps) (places_of_renamed f one d) ∙ each_so k (places d) s

  declared_so : (k : Kind) (ds : List Declared) → So (all_places ds) → all_named M k (all_declared_renamed f ds) ≡ kinds_renamed f (all_named N k ds)
  declared_so k [] s = refl
  declared_so k (d ∷ ds) s =
      ap₂ ◌++◌ (named_so k d (front (places d) (all_places ds) s)) (declared_so k ds (back (places d) (all_places ds) s)) ∙ kinds_joined f (named N k d) (all_named N k ds)

  pub params_so : (ps : List Param) → So (params_places ps) → params_named M (params_renamed f ps) ≡ kinds_renamed f (params_named N ps)
  params_so [] s = refl
  params_so (p ∷ ps) s =
      ap₂ ◌++◌ (named_so p.kind p.declared (front (places p.declared) (params_places ps) s)) (params_so ps (back (places p.declared) (params_places ps) s))
      ∙ kinds_joined f (named N p.kind p.declared) (params_named N ps)

  -- ---- lines one below another

  record AreSo (g : Forest) : Type 0 where
    parts : (outer Γ : Sorts) (w : List (Name × Kind)) (ρ σ : Indices) → HaveSame f ρ σ → AreInOrder outer Γ g → IsTaken outer ρ → IsTaken Γ ρ
        → So ((elements g).parts outer Γ ρ)
        → (unrolled M (forest_renamed f g)).parts (sorts_renamed f outer) (sorts_renamed f Γ) (kinds_renamed f w) σ ≡ all_renamed ((unrolled N g).parts outer Γ w ρ) f
    first : (outer Γ : Sorts) (w : List (Name × Kind)) (ρ σ : Indices) → HaveSame f ρ σ → AreInOrder outer Γ g → IsTaken Γ ρ → So ((elements g).first Γ ρ)
        → first_tree ((unrolled M (forest_renamed f g)).parts (sorts_renamed f outer) (sorts_renamed f Γ) (kinds_renamed f w) σ)
        ≡ renamed (first_tree ((unrolled N g).parts outer Γ w ρ)) f
    cases : (Γ : Sorts) (ρ σ : Indices) → HaveSame f ρ σ → are_options g ≡ true → AreInOrder Γ Γ g → IsTaken Γ ρ → So ((elements g).cases Γ ρ)
        → (unrolled M (forest_renamed f g)).cases (sorts_renamed f Γ) σ ≡ cases_renamed ((unrolled N g).cases Γ ρ) f
    branches : (Γ : Sorts) (ρ σ : Indices) → HaveSame f ρ σ → are_options g ≡ true → AreInOrder Γ Γ g → IsTaken Γ ρ → So ((elements g).branches Γ ρ)
        → (unrolled M (forest_renamed f g)).branches (sorts_renamed f Γ) σ ≡ branches_renamed ((unrolled N g).branches Γ ρ) f

  -- copies of lines, of which each is so
  module _ {A : Type 0} (join : A → A → A) (none : A) (R : A → A) (none_so : none ≡ R none) (joined : (a b : A) → join (R a) (R b) ≡ R (join a b))
      (below : Forest) (copy other : Sorts → Indices → A) (ps : Sorts → Indices → List Place)
      (so : (Γ : Sorts) (ρ σ : Indices) → HaveSame f ρ σ → AreInOrder Γ Γ below → IsTaken Γ ρ → So (ps Γ ρ) → other (sorts_renamed f Γ) σ ≡ R (copy Γ ρ)) where
    copies_so : (times : Times) (Γ : Sorts) (ρ σ : Indices) → HaveSame f ρ σ → AreInOrder (counter_of times ∷ Γ) (counter_of times ∷ Γ) below → IsTaken Γ ρ
        → (vs : List ℕ) → ((u : ℕ) → list_any (λ x. u == x) vs ≡ true → list_any (λ x. u == x) (numbers_from times.base times.count) ≡ true)
        → So (copies (λ us ws. us ++ ws) [] times Γ ρ ps vs)
        → copies join none (record { index = record { 0 = f times.index.0 }; base = times.base; count = times.count }) (sorts_renamed f Γ) σ other vs
        ≡ R (copies join none times Γ ρ copy vs)
    copies_so times Γ ρ σ h o t [] m s = none_so
    copies_so times Γ ρ σ h o t (v ∷ vs) m s =
        let Δ = counter_of times ∷ Γ in
        let inner = with_index ρ times.index.0 v in
        let outer = with_index σ (f times.index.0) v in
        let others = copies (λ us ws. us ++ ws) [] times Γ ρ ps vs in
        let here = m v (or_left (v == v) (list_any (λ x. v == x) vs) (at_itself v)) in
        ap₂ join
        (so Δ inner outer (index_same f one ρ σ h times.index.0 v) o (behind_index times v (some_value v times.base times.count here) t) (front (ps Δ inner) others s))
        (copies_so times Γ ρ σ h o t vs (λ u k. m u (or_right (u == v) (list_any (λ x. u == x) vs) k)) (back (ps Δ inner) others s))
        ∙ joined (copy Δ inner) (copies join none times Γ ρ copy vs)

    copied_so : (g : Group) (times : Option Times) (Γ : Sorts) (ρ σ : Indices) → HaveSame f ρ σ
        → AreInOrder (inside Γ (line.group g times)) (inside Γ (line.group g times)) below → IsTaken Γ ρ → So (copied_places times Γ ρ ps)
        → copied join none (times_renamed f times) (sorts_renamed f Γ) σ other ≡ R (copied join none times Γ ρ copy)
    copied_so g None Γ ρ σ h o t s = so Γ ρ σ h o t s
    copied_so g (Some times) Γ ρ σ h o t s = copies_so times Γ ρ σ h o t (numbers_from times.base times.count) (λ u k. k) s

  module _ (below : Forest) (B : AreSo below) where
    abbrev old : Lines
    old = unrolled N below

    abbrev new : Lines
    new = unrolled M (forest_renamed f below)

    slot_so : (Γ : Sorts) (ρ σ : Indices) → HaveSame f ρ σ → AreInOrder Γ Γ below → IsTaken Γ ρ → So ((elements below).first Γ ρ)
        → slot new (sorts_renamed f Γ) σ ≡ renamed (slot old Γ ρ) f
    slot_so Γ ρ σ h o t s = B.first Γ Γ [] ρ σ h o t s

    slots_so : (Γ : Sorts) (ρ σ : Indices) → HaveSame f ρ σ → AreInOrder Γ Γ below → IsTaken Γ ρ → So (as_slots (elements below) Γ ρ)
        → as_parts new (sorts_renamed f Γ) σ ≡ all_renamed (as_parts old Γ ρ) f
    slots_so Γ ρ σ h o t s = B.parts Γ Γ [] ρ σ h o t t s

    module _ (times : Option Times) (Γ : Sorts) (ρ σ : Indices) (h : HaveSame f ρ σ) (t : IsTaken Γ ρ) where
      slots_copied : (g : Group) → AreInOrder (inside Γ (line.group g times)) (inside Γ (line.group g times)) below
          → So (copied_places times Γ ρ (as_slots (elements below)))
          → copied trees_then no_tree (times_renamed f times) (sorts_renamed f Γ) σ (as_parts new) ≡ all_renamed (copied trees_then no_tree times Γ ρ (as_parts old)) f
      slots_copied g o s =
          copied_so trees_then no_tree (λ ps. all_renamed ps f) refl (trees_joined f) below (as_parts old) (as_parts new) (as_slots (elements below)) slots_so g times Γ ρ σ h o t s

      cases_copied : (g : Group) → are_options below ≡ true → AreInOrder (inside Γ (line.group g times)) (inside Γ (line.group g times)) below
          → So (copied_places times Γ ρ (elements below).cases)
          → copied cases_then no_case (times_renamed f times) (sorts_renamed f Γ) σ new.cases ≡ cases_renamed (copied cases_then no_case times Γ ρ old.cases) f
      cases_copied g p o s =
          copied_so cases_then no_case (λ cs. cases_renamed cs f) refl (cases_joined f) below old.cases new.cases (elements below).cases
          (λ Δ τ υ k l m n. B.cases Δ τ υ k p l m n) g times Γ ρ σ h o t s

      branches_copied : (g : Group) → are_options below ≡ true → AreInOrder (inside Γ (line.group g times)) (inside Γ (line.group g times)) below
          → So (copied_places times Γ ρ (elements below).branches)
          → copied branches_then no_branch (times_renamed f times) (sorts_renamed f Γ) σ new.branches ≡ branches_renamed (copied branches_then no_branch times Γ ρ old.branches) f
      branches_copied g p o s =
          copied_so branches_then no_branch (λ bs. branches_renamed bs f) refl (branches_joined f) below old.branches new.branches (elements below).branches
          (λ Δ τ υ k l m n. B.branches Δ τ υ k p l m n) g times Γ ρ σ h o t s

      construct_so : (g : Group) → options_below (line.group g times) below ≡ true
          → AreInOrder (inside Γ (line.group g times)) (inside Γ (line.group g times)) below → So (construct_places g times (elements below) Γ ρ)
          → construct g (times_renamed f times) new (sorts_renamed f Γ) σ ≡ renamed (construct g times old Γ ρ) f
      construct_so word.Seq p o s = ap seq (slots_copied word.Seq o s)
      construct_so word.Par p o s = ap par (slots_copied word.Par o s)
      construct_so word.If p o s = ap select (cases_copied word.If p o s)
      construct_so word.Alt p o s = ap alt (branches_copied word.Alt p o s)

      nested_cases_so : (g : Group) → options_below (line.group g times) below ≡ true
          → AreInOrder (inside Γ (line.group g times)) (inside Γ (line.group g times)) below → So (nested_cases_places g times (elements below) Γ ρ)
          → nested_cases g (times_renamed f times) new (sorts_renamed f Γ) σ ≡ cases_renamed (nested_cases g times old Γ ρ) f
      nested_cases_so word.Seq p o s = refl
      nested_cases_so word.Par p o s = refl
      nested_cases_so word.If p o s = cases_copied word.If p o s
      nested_cases_so word.Alt p o s = refl

      nested_branches_so : (g : Group) → options_below (line.group g times) below ≡ true
          → AreInOrder (inside Γ (line.group g times)) (inside Γ (line.group g times)) below → So (nested_branches_places g times (elements below) Γ ρ)
          → nested_branches g (times_renamed f times) new (sorts_renamed f Γ) σ ≡ branches_renamed (nested_branches g times old Γ ρ) f
      nested_branches_so word.Seq p o s = refl
      nested_branches_so word.Par p o s = refl
      nested_branches_so word.If p o s = refl
      nested_branches_so word.Alt p o s = branches_copied word.Alt p o s

    process_so : (s : Shape) (Γ : Sorts) (ρ σ : Indices) → HaveSame f ρ σ → IsTaken Γ ρ → options_below s below ≡ true → IsInOrder Γ s
        → AreInOrder (inside Γ s) (inside Γ s) below → So (process_places s (elements below) Γ ρ)
        → process M (shape_renamed f s) new (sorts_renamed f Γ) σ ≡ renamed (process N s old Γ ρ) f
    process_so (line.header name params) Γ ρ σ h t p i o s = refl
    process_so line.close Γ ρ σ h t p i o s = refl
    process_so line.skip Γ ρ σ h t p i o s = refl
    process_so line.stop Γ ρ σ h t p i o s = refl
    process_so (line.assign xs es) Γ ρ σ h t p i o s =
        let here = items_here Γ ρ (line.assign xs es) t i in
        ap₂ assign (items_so ρ σ h xs (here_front ρ xs (items_in_all es) here) (front (items_places ρ xs) (values_places Γ ρ xs es) s))
        (values_so ρ σ h Γ xs es (here_back ρ xs (items_in_all es) here) (back (items_places ρ xs) (values_places Γ ρ xs es) s))
    process_so (line.receive c x) Γ ρ σ h t p i o s =
        let here = items_here Γ ρ (line.receive c x) t i in
        ap₂ receive (item_so ρ σ h c here.0 (front (item_places ρ c) (item_places ρ x) s)) (item_so ρ σ h x here.1.0 (back (item_places ρ c) (item_places ρ x) s))
    process_so (line.send c e) Γ ρ σ h t p i o s = let k = sent_so ρ σ h Γ c e (items_here Γ ρ (line.send c e) t i) s in ap₂ send k.0 k.1
    process_so (line.group g times) Γ ρ σ h t p i o s = construct_so times Γ ρ σ h t g p o s
    process_so (line.declare k ds) Γ ρ σ h t p i o s = refl
    process_so (line.condition e) Γ ρ σ h t p i o s = refl
    process_so (line.guard e w) Γ ρ σ h t p i o s = refl
    process_so line.nothing Γ ρ σ h t p i o s = refl

    -- the process of a line behind declarations
    governed_so : (s : Shape) (Γ : Sorts) (w : List (Name × Kind)) (ρ σ : Indices) → HaveSame f ρ σ → IsTaken Γ ρ → options_below s below ≡ true → IsInOrder Γ s
        → AreInOrder (inside Γ s) (inside Γ s) below → So (process_places s (elements below) Γ ρ)
        → declaring_all (kinds_renamed f w) (process M (shape_renamed f s) new (sorts_renamed f Γ) σ) ≡ renamed (declaring_all w (process N s old Γ ρ)) f
    governed_so s Γ w ρ σ h t p i o so =
        ap (declaring_all (kinds_renamed f w)) (process_so s Γ ρ σ h t p i o so) ∙ within_renamed f w (process N s old Γ ρ)

    module _ (rest : Forest) (R : AreSo rest) (n : ℕ) where
      abbrev old_rest : Lines
      old_rest = unrolled N rest

      abbrev new_rest : Lines
      new_rest = unrolled M (forest_renamed f rest)

      next_options : (s : Shape) (Γ : Sorts) → is_declare s ≡ false → AreInOrder Γ Γ (and_line n s below rest) → AreInOrder Γ Γ rest
      next_options s Γ d o = subst (λ Δ. AreInOrder Γ Δ rest) (behind_is s Γ Γ d) (next Γ Γ n s below rest o)

      begun_so : (s : Shape) (outer Γ : Sorts) (w : List (Name × Kind)) (ρ σ : Indices) → HaveSame f ρ σ → is_declare s ≡ false → options_below s below ≡ true
          → AreInOrder outer Γ (and_line n s below rest) → IsTaken outer ρ → IsTaken Γ ρ → So (process_places s (elements below) Γ ρ ++ (elements rest).parts outer outer ρ)
          → and_tree (declaring_all (kinds_renamed f w) (process M (shape_renamed f s) new (sorts_renamed f Γ) σ)) (new_rest.parts (sorts_renamed f outer) (sorts_renamed f outer) [] σ)
          ≡ all_renamed (and_tree (declaring_all w (process N s old Γ ρ)) (old_rest.parts outer outer [] ρ)) f
      begun_so s outer Γ w ρ σ h d p o tq t so =
          ap₂ and_tree
          (governed_so s Γ w ρ σ h t p (this outer Γ n s below rest o) (under outer Γ n s below rest o)
          (front (process_places s (elements below) Γ ρ) ((elements rest).parts outer outer ρ) so))
          (R.parts outer outer [] ρ σ h (subst (λ Δ. AreInOrder outer Δ rest) (behind_is s outer Γ d) (next outer Γ n s below rest o)) tq tq
          (back (process_places s (elements below) Γ ρ) ((elements rest).parts outer outer ρ) so))

      abbrev PartSo : Shape → Type 0
      PartSo s = (outer Γ : Sorts) (w : List (Name × Kind)) (ρ σ : Indices) → HaveSame f ρ σ → options_below s below ≡ true
          → AreInOrder outer Γ (and_line n s below rest) → IsTaken outer ρ → IsTaken Γ ρ → So (parts_places s (elements below) (elements rest) outer Γ ρ)
          → part_line M (shape_renamed f s) new new_rest (sorts_renamed f outer) (sorts_renamed f Γ) (kinds_renamed f w) σ ≡ all_renamed (part_line N s old old_rest outer Γ w ρ) f

      part_so : (s : Shape) → PartSo s
      unfolding is_declare
      part_so (line.declare k ds) outer Γ w ρ σ h p o tq t so =
          let Δ = declared_in Γ (entries_of k ds) in
          ap₂ (λ Ω z. new_rest.parts (sorts_renamed f outer) Ω (kinds_renamed f w ++ z) σ) (declared_scope f Γ k ds)
          (declared_so k ds (front (all_places ds) ((elements rest).parts outer Δ ρ) so))
          ∙ (ap (λ z. new_rest.parts (sorts_renamed f outer) (sorts_renamed f Δ) z σ) (kinds_joined f w (all_named N k ds))
          ∙ R.parts outer Δ (w ++ all_named N k ds) ρ σ h (next outer Γ n (line.declare k ds) below rest o) tq (all_taken k ds Γ ρ t)
          (back (all_places ds) ((elements rest).parts outer Δ ρ) so))
      part_so (line.header name params) outer Γ w ρ σ h p o tq t so = begun_so (line.header name params) outer Γ w ρ σ h refl p o tq t so
      part_so line.close outer Γ w ρ σ h p o tq t so = begun_so line.close outer Γ w ρ σ h refl p o tq t so
      part_so line.skip outer Γ w ρ σ h p o tq t so = begun_so line.skip outer Γ w ρ σ h refl p o tq t so
      part_so line.stop outer Γ w ρ σ h p o tq t so = begun_so line.stop outer Γ w ρ σ h refl p o tq t so
      part_so (line.assign xs es) outer Γ w ρ σ h p o tq t so = begun_so (line.assign xs es) outer Γ w ρ σ h refl p o tq t so
      part_so (line.receive c x) outer Γ w ρ σ h p o tq t so = begun_so (line.receive c x) outer Γ w ρ σ h refl p o tq t so
      part_so (line.send c e) outer Γ w ρ σ h p o tq t so = begun_so (line.send c e) outer Γ w ρ σ h refl p o tq t so
      part_so (line.group g times) outer Γ w ρ σ h p o tq t so = begun_so (line.group g times) outer Γ w ρ σ h refl p o tq t so
      part_so (line.condition e) outer Γ w ρ σ h p o tq t so = begun_so (line.condition e) outer Γ w ρ σ h refl p o tq t so
      part_so (line.guard e wait) outer Γ w ρ σ h p o tq t so = begun_so (line.guard e wait) outer Γ w ρ σ h refl p o tq t so
      part_so line.nothing outer Γ w ρ σ h p o tq t so = begun_so line.nothing outer Γ w ρ σ h refl p o tq t so

      -- the first slot alone
      abbrev FirstSo : Shape → Type 0
      FirstSo s = (outer Γ : Sorts) (w : List (Name × Kind)) (ρ σ : Indices) → HaveSame f ρ σ → options_below s below ≡ true
          → AreInOrder outer Γ (and_line n s below rest) → IsTaken Γ ρ → So (first_places s (elements below) (elements rest) Γ ρ)
          → first_tree (part_line M (shape_renamed f s) new new_rest (sorts_renamed f outer) (sorts_renamed f Γ) (kinds_renamed f w) σ)
          ≡ renamed (first_tree (part_line N s old old_rest outer Γ w ρ)) f

      alone_so : (s : Shape) (outer Γ : Sorts) (w : List (Name × Kind)) (ρ σ : Indices) → HaveSame f ρ σ → options_below s below ≡ true
          → AreInOrder outer Γ (and_line n s below rest) → IsTaken Γ ρ → So (process_places s (elements below) Γ ρ)
          → declaring_all (kinds_renamed f w) (process M (shape_renamed f s) new (sorts_renamed f Γ) σ) ≡ renamed (declaring_all w (process N s old Γ ρ)) f
      alone_so s outer Γ w ρ σ h p o t so = governed_so s Γ w ρ σ h t p (this outer Γ n s below rest o) (under outer Γ n s below rest o) so

      first_so : (s : Shape) → FirstSo s
      first_so (line.declare k ds) outer Γ w ρ σ h p o t so =
          let Δ = declared_in Γ (entries_of k ds) in
          ap₂ (λ Ω z. first_tree (new_rest.parts (sorts_renamed f outer) Ω (kinds_renamed f w ++ z) σ)) (declared_scope f Γ k ds)
          (declared_so k ds (front (all_places ds) ((elements rest).first Δ ρ) so))
          ∙ (ap (λ z. first_tree (new_rest.parts (sorts_renamed f outer) (sorts_renamed f Δ) z σ)) (kinds_joined f w (all_named N k ds))
          ∙ R.first outer Δ (w ++ all_named N k ds) ρ σ h (next outer Γ n (line.declare k ds) below rest o) (all_taken k ds Γ ρ t)
          (back (all_places ds) ((elements rest).first Δ ρ) so))
      first_so (line.header name params) outer Γ w ρ σ h p o t so = alone_so (line.header name params) outer Γ w ρ σ h p o t so
      first_so line.close outer Γ w ρ σ h p o t so = alone_so line.close outer Γ w ρ σ h p o t so
      first_so line.skip outer Γ w ρ σ h p o t so = alone_so line.skip outer Γ w ρ σ h p o t so
      first_so line.stop outer Γ w ρ σ h p o t so = alone_so line.stop outer Γ w ρ σ h p o t so
      first_so (line.assign xs es) outer Γ w ρ σ h p o t so = alone_so (line.assign xs es) outer Γ w ρ σ h p o t so
      first_so (line.receive c x) outer Γ w ρ σ h p o t so = alone_so (line.receive c x) outer Γ w ρ σ h p o t so
      first_so (line.send c e) outer Γ w ρ σ h p o t so = alone_so (line.send c e) outer Γ w ρ σ h p o t so
      first_so (line.group g times) outer Γ w ρ σ h p o t so = alone_so (line.group g times) outer Γ w ρ σ h p o t so
      first_so (line.condition e) outer Γ w ρ σ h p o t so = alone_so (line.condition e) outer Γ w ρ σ h p o t so
      first_so (line.guard e wait) outer Γ w ρ σ h p o t so = alone_so (line.guard e wait) outer Γ w ρ σ h p o t so
      first_so line.nothing outer Γ w ρ σ h p o t so = alone_so line.nothing outer Γ w ρ σ h p o t so

      -- choices
      abbrev CasesSo : Shape → Type 0
      CasesSo s = (Γ : Sorts) (ρ σ : Indices) → HaveSame f ρ σ → options_below s below ≡ true → are_options (and_line n s below rest) ≡ true
          → AreInOrder Γ Γ (and_line n s below rest) → IsTaken Γ ρ → So (case_places s (elements below) Γ ρ ++ (elements rest).cases Γ ρ)
          → case_line M (shape_renamed f s) new new_rest (sorts_renamed f Γ) σ ≡ cases_renamed (case_line N s old old_rest Γ ρ) f

      rest_cases : (s : Shape) → is_declare s ≡ false → (Γ : Sorts) (ρ σ : Indices) → HaveSame f ρ σ → are_options (and_line n s below rest) ≡ true
          → AreInOrder Γ Γ (and_line n s below rest) → IsTaken Γ ρ → So ((elements rest).cases Γ ρ)
          → new_rest.cases (sorts_renamed f Γ) σ ≡ cases_renamed (old_rest.cases Γ ρ) f
      rest_cases s d Γ ρ σ h q o t so = R.cases Γ ρ σ h (and_parts (not (is_declare s)) (are_options rest) q).1 (next_options s Γ d o) t so

      cases_so : (s : Shape) → CasesSo s
      unfolding is_declare
      cases_so (line.condition e) Γ ρ σ h p q o t so =
          let s = line.condition e in
          let here = places_in Γ ρ e in
          let E = (elements below).first Γ ρ in
          let both = front (here ++ E) ((elements rest).cases Γ ρ) so in
          let c = said_so ρ σ h Γ e TruthValue (items_here Γ ρ s t (this Γ Γ n s below rest o)) (front here E both) in
          let k = slot_so Γ ρ σ h (under Γ Γ n s below rest o) t (back here E both) in
          let r = rest_cases s refl Γ ρ σ h q o t (back (here ++ E) ((elements rest).cases Γ ρ) so) in
          λ i. and_case (c i) (k i) (r i)
      cases_so (line.group g times) Γ ρ σ h p q o t so =
          let s = line.group g times in
          let here = nested_cases_places g times (elements below) Γ ρ in
          ap₂ cases_then (nested_cases_so times Γ ρ σ h t g p (under Γ Γ n s below rest o) (front here ((elements rest).cases Γ ρ) so))
          (rest_cases s refl Γ ρ σ h q o t (back here ((elements rest).cases Γ ρ) so))
          ∙ cases_joined f (nested_cases g times old Γ ρ) (old_rest.cases Γ ρ)
      cases_so (line.declare k ds) Γ ρ σ h p q o t so = false_not_true q
      cases_so (line.header name params) Γ ρ σ h p q o t so = rest_cases (line.header name params) refl Γ ρ σ h q o t so
      cases_so line.close Γ ρ σ h p q o t so = rest_cases line.close refl Γ ρ σ h q o t so
      cases_so line.skip Γ ρ σ h p q o t so = rest_cases line.skip refl Γ ρ σ h q o t so
      cases_so line.stop Γ ρ σ h p q o t so = rest_cases line.stop refl Γ ρ σ h q o t so
      cases_so (line.assign xs es) Γ ρ σ h p q o t so = rest_cases (line.assign xs es) refl Γ ρ σ h q o t so
      cases_so (line.receive c x) Γ ρ σ h p q o t so = rest_cases (line.receive c x) refl Γ ρ σ h q o t so
      cases_so (line.send c e) Γ ρ σ h p q o t so = rest_cases (line.send c e) refl Γ ρ σ h q o t so
      cases_so (line.guard e w) Γ ρ σ h p q o t so = rest_cases (line.guard e w) refl Γ ρ σ h q o t so
      cases_so line.nothing Γ ρ σ h p q o t so = rest_cases line.nothing refl Γ ρ σ h q o t so

      -- alternatives
      abbrev BranchesSo : Shape → Type 0
      BranchesSo s = (Γ : Sorts) (ρ σ : Indices) → HaveSame f ρ σ → options_below s below ≡ true → are_options (and_line n s below rest) ≡ true
          → AreInOrder Γ Γ (and_line n s below rest) → IsTaken Γ ρ → So (branch_places s (elements below) Γ ρ ++ (elements rest).branches Γ ρ)
          → branch_line M (shape_renamed f s) new new_rest (sorts_renamed f Γ) σ ≡ branches_renamed (branch_line N s old old_rest Γ ρ) f

      rest_branches : (s : Shape) → is_declare s ≡ false → (Γ : Sorts) (ρ σ : Indices) → HaveSame f ρ σ → are_options (and_line n s below rest) ≡ true
          → AreInOrder Γ Γ (and_line n s below rest) → IsTaken Γ ρ → So ((elements rest).branches Γ ρ)
          → new_rest.branches (sorts_renamed f Γ) σ ≡ branches_renamed (old_rest.branches Γ ρ) f
      rest_branches s d Γ ρ σ h q o t so = R.branches Γ ρ σ h (and_parts (not (is_declare s)) (are_options rest) q).1 (next_options s Γ d o) t so

      -- a guard with its process
      guarded_so : (s : Shape) → is_declare s ≡ false → (b c : Exp) (v u : Waiting) (here : List Place) (Γ : Sorts) (ρ σ : Indices) → HaveSame f ρ σ
          → inside Γ s ≡ Γ → are_options (and_line n s below rest) ≡ true → AreInOrder Γ Γ (and_line n s below rest) → IsTaken Γ ρ
          → So ((here ++ (elements below).first Γ ρ) ++ (elements rest).branches Γ ρ) → (So here → c ≡ renamed_exp f b) → (So here → u ≡ renamed_waiting f v)
          → and_branch c u (slot new (sorts_renamed f Γ) σ) (new_rest.branches (sorts_renamed f Γ) σ)
          ≡ branches_renamed (and_branch b v (slot old Γ ρ) (old_rest.branches Γ ρ)) f
      guarded_so s d b c v u here Γ ρ σ h e q o t so x y =
          let E = (elements below).first Γ ρ in
          let both = front (here ++ E) ((elements rest).branches Γ ρ) so in
          let own = front here E both in
          let k = slot_so Γ ρ σ h (subst (λ Δ. AreInOrder Δ Δ below) e (under Γ Γ n s below rest o)) t (back here E both) in
          let r = rest_branches s d Γ ρ σ h q o t (back (here ++ E) ((elements rest).branches Γ ρ) so) in
          λ i. and_branch (x own i) (y own i) (k i) (r i)

      branches_so : (s : Shape) → BranchesSo s
      unfolding is_declare
      branches_so (line.receive c x) Γ ρ σ h p q o t so =
          let s = line.receive c x in
          let w = line.input c x in
          guarded_so s refl (truth true) (truth true) (waited N Γ ρ w) (waited M (sorts_renamed f Γ) σ (waits_renamed f w)) (waiting_places Γ ρ w) Γ ρ σ h refl q o t so
          (λ k. refl) (λ k. waited_so ρ σ h Γ w (items_here Γ ρ s t (this Γ Γ n s below rest o)) k)
      branches_so (line.send c e) Γ ρ σ h p q o t so =
          let s = line.send c e in
          let w = line.output c e in
          guarded_so s refl (truth true) (truth true) (waited N Γ ρ w) (waited M (sorts_renamed f Γ) σ (waits_renamed f w)) (waiting_places Γ ρ w) Γ ρ σ h refl q o t so
          (λ k. refl) (λ k. waited_so ρ σ h Γ w (items_here Γ ρ s t (this Γ Γ n s below rest o)) k)
      branches_so (line.guard e w) Γ ρ σ h p q o t so =
          let s = line.guard e w in
          let all = items_here Γ ρ s t (this Γ Γ n s below rest o) in
          guarded_so s refl (condition N Γ ρ e) (condition M (sorts_renamed f Γ) σ (said_renamed f e)) (waited N Γ ρ w) (waited M (sorts_renamed f Γ) σ (waits_renamed f w))
          (places_in Γ ρ e ++ waiting_places Γ ρ w) Γ ρ σ h refl q o t so
          (λ k. said_so ρ σ h Γ e TruthValue (here_front ρ (items_in e) (items_of_waiting w) all) (front (places_in Γ ρ e) (waiting_places Γ ρ w) k))
          (λ k. waited_so ρ σ h Γ w (here_back ρ (items_in e) (items_of_waiting w) all) (back (places_in Γ ρ e) (waiting_places Γ ρ w) k))
      branches_so (line.group g times) Γ ρ σ h p q o t so =
          let s = line.group g times in
          let here = nested_branches_places g times (elements below) Γ ρ in
          ap₂ branches_then (nested_branches_so times Γ ρ σ h t g p (under Γ Γ n s below rest o) (front here ((elements rest).branches Γ ρ) so))
          (rest_branches s refl Γ ρ σ h q o t (back here ((elements rest).branches Γ ρ) so))
          ∙ branches_joined f (nested_branches g times old Γ ρ) (old_rest.branches Γ ρ)
      branches_so (line.declare k ds) Γ ρ σ h p q o t so = false_not_true q
      branches_so (line.header name params) Γ ρ σ h p q o t so = rest_branches (line.header name params) refl Γ ρ σ h q o t so
      branches_so line.close Γ ρ σ h p q o t so = rest_branches line.close refl Γ ρ σ h q o t so
      branches_so line.skip Γ ρ σ h p q o t so = rest_branches line.skip refl Γ ρ σ h q o t so
      branches_so line.stop Γ ρ σ h p q o t so = rest_branches line.stop refl Γ ρ σ h q o t so
      branches_so (line.assign xs es) Γ ρ σ h p q o t so = rest_branches (line.assign xs es) refl Γ ρ σ h q o t so
      branches_so (line.condition e) Γ ρ σ h p q o t so = rest_branches (line.condition e) refl Γ ρ σ h q o t so
      branches_so line.nothing Γ ρ σ h p q o t so = rest_branches line.nothing refl Γ ρ σ h q o t so

      all_so : (s : Shape) → options_below s below ≡ true → AreSo (and_line n s below rest)
      all_so s p = record {
        parts = λ outer Γ w ρ σ h o tq t so. part_so s outer Γ w ρ σ h p o tq t so;
        first = λ outer Γ w ρ σ h o t so. first_so s outer Γ w ρ σ h p o t so;
        cases = λ Γ ρ σ h q o t so. cases_so s Γ ρ σ h p q o t so;
        branches = λ Γ ρ σ h q o t so. branches_so s Γ ρ σ h p q o t so;
      }

  lines_so : (g : Forest) → are_placed g ≡ true → AreSo g
  lines_so no_line p = record {
    parts = λ outer Γ w ρ σ h o tq t so. refl;
    first = λ outer Γ w ρ σ h o t so. refl;
    cases = λ Γ ρ σ h q o t so. refl;
    branches = λ Γ ρ σ h q o t so. refl;
  }
  lines_so (and_line n s below rest) p =
      let one_by = and_parts (options_below s below) (are_placed below && are_placed rest) p in
      let both = and_parts (are_placed below) (are_placed rest) one_by.1 in
      all_so below (lines_so below both.0) rest (lines_so rest both.1) n s one_by.0

  pub program_so : (ps : List Param) (below : Forest) → IsNumbered f N M ps below
      → slot_process M (param_scope (params_renamed f ps)) (forest_renamed f below) ≡ renamed (slot_process N (param_scope ps) below) f
  program_so ps below h =
      let Γ = param_scope ps in
      let t = taken_entries [] (λ i. 0) at_first ps in
      let inner = back (params_places ps) ((elements below).first Γ (λ i. 0)) h.places in
      ap (λ Δ. slot_process M Δ (forest_renamed f below)) (params_scope f [] ps)
      ∙ (lines_so below h.placed).first Γ Γ [] (λ i. 0) (λ i. 0) (λ x. refl) h.lines t inner

  pub program_params : (ps : List Param) (below : Forest) → IsNumbered f N M ps below → params_named M (params_renamed f ps) ≡ kinds_renamed f (params_named N ps)
  program_params ps below h = params_so ps (front (params_places ps) ((elements below).first (param_scope ps) (λ i. 0)) h.places)
