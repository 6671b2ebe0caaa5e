-- The elements that lines bring into the table of names, step by step.
use Rattle.std.proofs.Common.{◌≡◌, ℕ, zero, suc, ◌+◌, ◌-◌, ◌*◌, ◌<◌, ◌≤◌, min, true, false, List, [], ◌∷◌, ◌++◌, length, get_or, drop, Option, Some, None, Result, Ok, Err, OnOk, OnErr, slice_get, refl, sym, ap, subst, ◌∙◌, arith, ⊎_elim, ◌⊎◌, inl, inr}
use Rattle.std.specs.Prelude.{option_to_list}
use Rattle.std.specs.List.{flat_map}
use Rattle.std.proofs.lemmas.Bool.{cases_lt}
use Rattle.std.proofs.lemmas.Option.{get_or_from_slice_get}
use Rattle.occ_syntax.specs.occ_base.declared.memory.Memory.{Memory}
use Rattle.occ_syntax.specs.occ_base.declared.names.Name.{Name}
use Rattle.occ_syntax.specs.occ_base.Names.{with_text}
use Rattle.std.proofs.lemmas.List.{drop_more, drop_all}
use Rattle.occ_parse_forms.specs.occ_lex.Symbols.{Extends}
use Rattle.occ_parse_forms.proofs.from_lex.Interned.{extends_same, extends_eq, extends_trans, extends_text}
use Rattle.occ_syntax.specs.declared.expr.Op.{Op}
use Rattle.occ_parse_forms.specs.declared.form.Declared.{Declared}
use Rattle.occ_parse_forms.specs.declared.form.Group.TheVariants as word
use Rattle.occ_parse_forms.specs.declared.form.Item.{Item}
use Rattle.occ_parse_forms.specs.declared.form.Times.{Times}
use Rattle.occ_parse_forms.specs.declared.phrase.Index.{Index}
use Rattle.occ_parse_forms.specs.declared.phrase.Phrase.{Phrase}
use Rattle.occ_parse_forms.specs.Shape.{Said, Shape, said, all_said}
use Rattle.occ_parse_forms.specs.Shape as line
use Rattle.occ_parse_rules.specs.Forest.{Forest, no_line, and_line}
use Rattle.occ_parse_rules.specs.Places.{Place, Sorts, Indices, elements_from, declared_in, entries_of, counter_of, numbers_from, with_index, index_at, place_with, element_at}
use Rattle.occ_parse_rules.specs.Unrolled.{copies, times_of}
use Rattle.occ_parse_unroll.specs.declared.values.Present.{Present}
use Rattle.occ_parse_unroll.specs.Elements.{brought, brought_one, with_place, with_places, all_places, item_places, places_in, values_places, guard_places, Elements, copied_places, process_places, parts_places, first_places, case_places, branch_places, elements}
use Rattle.occ_parse_unroll.specs.Numbers.{element_text}
use Rattle.occ_parse_unroll.specs.Present.{values_of, present}
use Rattle.occ_parse_unroll.specs.Reading.{is_declaration, is_condition, is_guard, begins}
use Rattle.occ_parse_unroll.specs.Sizes.{Sizes, case_size, branch_size, sizes}

abbrev Table : Type 0
Table = List (List ℕ)

-- what an element brings into a table
abbrev Rule : Type 0
Rule = Table → ℕ → ℕ → Table

-- ---- tables and places

place_extends : (t : Table) (x : ℕ) (k : Option ℕ) → Extends t (with_place t x k)
place_extends t x None = extends_same t
place_extends t x (Some k) = extends_text t (element_text (get_or t x []) k)

-- a table goes on where places are brought in
pub places_extend : (t : Table) (ps : List Place) → Extends t (with_places t ps)
places_extend t [] = extends_same t
places_extend t (p ∷ ps) =
    let next = with_place t p.name p.element in
    extends_trans t next (with_places next ps) (place_extends t p.name p.element) (places_extend next ps)

-- places are brought in one list behind the other
pub places_behind : (rule : Rule) (t : Table) (ps qs : List Place) → brought rule t (ps ++ qs) ≡ brought rule (brought rule t ps) qs
places_behind rule t [] qs = refl
places_behind rule t (p ∷ ps) qs = places_behind rule (brought_one rule t p.name p.element) ps qs

pub two_steps : (rule : Rule) (t u v : Table) (ps qs : List Place) → u ≡ brought rule t ps → v ≡ brought rule u qs → v ≡ brought rule t (ps ++ qs)
two_steps rule t u v ps qs e f = f ∙ ap (λ w. brought rule w qs) e ∙ sym (places_behind rule t ps qs)

-- what comes first is in, so that the rest is left
first_step : (rule : Rule) (t u total : Table) (ps qs : List Place) → u ≡ brought rule t ps → brought rule t (ps ++ qs) ≡ total → brought rule u qs ≡ total
first_step rule t u total ps qs e h = ap (λ w. brought rule w qs) e ∙ sym (places_behind rule t ps qs) ∙ h

-- ---- items

pub item_name_table : (rule : Rule) (t : Table) (ρ : Indices) (item : Item) → item.index ≡ None → t ≡ brought rule t (item_places ρ item)
item_name_table rule t ρ item e = sym (ap (λ o. brought rule t (option_to_list (place_with ρ item.name.0 o))) e)

pub item_below_table : (rule : Rule) (t : Table) (ρ : Indices) (item : Item) (index : Index) → item.index ≡ Some index → None ≡ index_at ρ index → t ≡ brought rule t (item_places ρ item)
item_below_table rule t ρ item index e d =
    sym (ap (λ o. brought rule t (option_to_list (place_with ρ item.name.0 o))) e ∙ ap (λ p. brought rule t (option_to_list (element_at item.name.0 p))) (sym d))

pub item_element_table : (rule : Rule) (t u : Table) (ρ : Indices) (item : Item) (index : Index) (k : ℕ) → item.index ≡ Some index → Some k ≡ index_at ρ index
    → u ≡ brought_one rule t item.name.0 (Some k) → u ≡ brought rule t (item_places ρ item)
item_element_table rule t u ρ item index k e d h =
    h ∙ sym (ap (λ o. brought rule t (option_to_list (place_with ρ item.name.0 o))) e ∙ ap (λ p. brought rule t (option_to_list (element_at item.name.0 p))) (sym d))

-- ---- lists, one by one

module _ (rule : Rule) {X : Type 0} (f : X → List Place) where
  pub one_more : (xs : List X) (i : ℕ) (z : X) (t u : Table) → i < length xs → u ≡ brought rule t (f (get_or xs i z))
      → brought rule u (flat_map f (drop (i + 1) xs)) ≡ brought rule t (flat_map f (drop i xs))
  one_more xs i z t u h e =
      let rest = flat_map f (drop (i + 1) xs) in
      ap (λ w. brought rule w rest) e
      ∙ sym (places_behind rule t (f (get_or xs i z)) rest)
      ∙ sym (ap (λ ys. brought rule t (flat_map f ys)) (drop_more xs i z h))

pub one_element_more : (rule : Rule) (x k n m : ℕ) (t u : Table) → n ≡ m + 1 → u ≡ brought_one rule t x (Some k)
    → brought rule u (elements_from x (k + 1) m) ≡ brought rule t (elements_from x k n)
one_element_more rule x k n m t u h e =
    let two : n ≡ suc m = omega arith in
    ap (λ w. brought rule w (elements_from x (k + 1) m)) e ∙ sym (ap (λ c. brought rule t (elements_from x k c)) two)

some_item : (xs : List Item) (i : ℕ) → i < length xs → Item
some_item [] i h = absurd (omega arith)
some_item (x ∷ xs) i h = x

pub one_value_more : (rule : Rule) (Γ : Sorts) (ρ : Indices) (left : List Item) (right : List Phrase) (i : ℕ) (phrase : Phrase) (t u : Table)
    → i < length left → i < length right → phrase ≡ get_or right i phrase → u ≡ brought rule t (places_in Γ ρ (said phrase))
    → brought rule u (values_places Γ ρ (drop (i + 1) left) (all_said (drop (i + 1) right))) ≡ brought rule t (values_places Γ ρ (drop i left) (all_said (drop i right)))
one_value_more rule Γ ρ left right i phrase t u hl hr p e =
    let z = some_item left i hl in
    let rest = values_places Γ ρ (drop (i + 1) left) (all_said (drop (i + 1) right)) in
    ap (λ w. brought rule w rest) e
    ∙ sym (places_behind rule t (places_in Γ ρ (said phrase)) rest)
    ∙ ap (λ r. brought rule t (places_in Γ ρ (said r) ++ rest)) p
    ∙ sym (ap (λ xs. brought rule t (values_places Γ ρ xs (all_said (drop i right)))) (drop_more left i z hl)
    ∙ ap (λ es. brought rule t (values_places Γ ρ (get_or left i z ∷ drop (i + 1) left) (all_said es))) (drop_more right i phrase hr))

no_values : (Γ : Sorts) (ρ : Indices) (xs : List Item) → values_places Γ ρ xs [] ≡ []
no_values Γ ρ [] = refl
no_values Γ ρ (x ∷ xs) = refl

pub no_value_left : (rule : Rule) (Γ : Sorts) (ρ : Indices) (left : List Item) (right : List Phrase) (i : ℕ) (t : Table) → min (length left) (length right) ≤ i
    → brought rule t (values_places Γ ρ (drop i left) (all_said (drop i right))) ≡ t
no_value_left rule Γ ρ left right i t h = ⊎_elim
    (λ (l : i < length left).
    let r : length right ≤ i = omega arith in
    ap (λ es. brought rule t (values_places Γ ρ (drop i left) (all_said es))) (drop_all i right r) ∙ ap (brought rule t) (no_values Γ ρ (drop i left)))
    (λ (l : length left ≤ i). ap (λ xs. brought rule t (values_places Γ ρ xs (all_said (drop i right)))) (drop_all i left l))
    (cases_lt i (length left))

-- ---- an operation

pub operation_table : (rule : Rule) (t u v : Table) (Γ : Sorts) (ρ : Indices) (e : Said) (op : Op) (l r l' r' : Said) → e ≡ line.operation op l r → l' ≡ l → r' ≡ r
    → u ≡ brought rule t (places_in Γ ρ l') → v ≡ brought rule u (places_in Γ ρ r') → v ≡ brought rule t (places_in Γ ρ e)
operation_table rule t u v Γ ρ e op l r l' r' d p q h g =
    two_steps rule t u v (places_in Γ ρ l') (places_in Γ ρ r') h g
    ∙ ap (λ x. brought rule t (places_in Γ ρ x ++ places_in Γ ρ r')) p
    ∙ ap (λ x. brought rule t (places_in Γ ρ l ++ places_in Γ ρ x)) q
    ∙ sym (ap (λ x. brought rule t (places_in Γ ρ x)) d)

-- ---- a line

-- a line that isn't a declaration begins a process
parts_other : (s : Shape) (below rest : Elements) (outer Γ : Sorts) (ρ : Indices) → is_declaration s ≡ false → parts_places s below rest outer Γ ρ ≡ process_places s below Γ ρ ++ rest.parts outer outer ρ
parts_other (line.header name params) below rest outer Γ ρ h = refl
parts_other line.close below rest outer Γ ρ h = refl
parts_other line.skip below rest outer Γ ρ h = refl
parts_other line.stop below rest outer Γ ρ h = refl
parts_other (line.assign xs es) below rest outer Γ ρ h = refl
parts_other (line.receive c x) below rest outer Γ ρ h = refl
parts_other (line.send c e) below rest outer Γ ρ h = refl
parts_other (line.group g times) below rest outer Γ ρ h = refl
parts_other (line.declare kind ds) below rest outer Γ ρ h = cc
parts_other (line.condition e) below rest outer Γ ρ h = refl
parts_other (line.guard e w) below rest outer Γ ρ h = refl
parts_other line.nothing below rest outer Γ ρ h = refl

no_case_places : (s : Shape) (below : Elements) (Γ : Sorts) (ρ : Indices) → is_condition s ≡ false → begins word.If s ≡ false → case_places s below Γ ρ ≡ []
no_case_places (line.header name params) below Γ ρ h b = refl
no_case_places line.close below Γ ρ h b = refl
no_case_places line.skip below Γ ρ h b = refl
no_case_places line.stop below Γ ρ h b = refl
no_case_places (line.assign xs es) below Γ ρ h b = refl
no_case_places (line.receive c x) below Γ ρ h b = refl
no_case_places (line.send c e) below Γ ρ h b = refl
no_case_places (line.group word.Seq times) below Γ ρ h b = refl
no_case_places (line.group word.Par times) below Γ ρ h b = refl
no_case_places (line.group word.If times) below Γ ρ h b = cc
no_case_places (line.group word.Alt times) below Γ ρ h b = refl
no_case_places (line.declare kind ds) below Γ ρ h b = refl
no_case_places (line.condition e) below Γ ρ h b = cc
no_case_places (line.guard e w) below Γ ρ h b = refl
no_case_places line.nothing below Γ ρ h b = refl

no_branch_places : (s : Shape) (below : Elements) (Γ : Sorts) (ρ : Indices) → is_guard s ≡ false → begins word.Alt s ≡ false → branch_places s below Γ ρ ≡ []
no_branch_places (line.header name params) below Γ ρ h b = refl
no_branch_places line.close below Γ ρ h b = refl
no_branch_places line.skip below Γ ρ h b = refl
no_branch_places line.stop below Γ ρ h b = refl
no_branch_places (line.assign xs es) below Γ ρ h b = refl
no_branch_places (line.receive c x) below Γ ρ h b = cc
no_branch_places (line.send c e) below Γ ρ h b = cc
no_branch_places (line.group word.Seq times) below Γ ρ h b = refl
no_branch_places (line.group word.Par times) below Γ ρ h b = refl
no_branch_places (line.group word.If times) below Γ ρ h b = refl
no_branch_places (line.group word.Alt times) below Γ ρ h b = cc
no_branch_places (line.declare kind ds) below Γ ρ h b = refl
no_branch_places (line.condition e) below Γ ρ h b = refl
no_branch_places (line.guard e w) below Γ ρ h b = cc
no_branch_places line.nothing below Γ ρ h b = refl

guarded_places : (s : Shape) (below : Elements) (Γ : Sorts) (ρ : Indices) → is_guard s ≡ true → branch_places s below Γ ρ ≡ guard_places Γ ρ s ++ below.first Γ ρ
guarded_places (line.header name params) below Γ ρ h = cc
guarded_places line.close below Γ ρ h = cc
guarded_places line.skip below Γ ρ h = cc
guarded_places line.stop below Γ ρ h = cc
guarded_places (line.assign xs es) below Γ ρ h = cc
guarded_places (line.receive c x) below Γ ρ h = refl
guarded_places (line.send c e) below Γ ρ h = refl
guarded_places (line.group g times) below Γ ρ h = cc
guarded_places (line.declare kind ds) below Γ ρ h = cc
guarded_places (line.condition e) below Γ ρ h = cc
guarded_places (line.guard e w) below Γ ρ h = refl
guarded_places line.nothing below Γ ρ h = cc

-- a condition and its slot; a guard and its slot; a nested IF; a nested ALT; a line that gives nothing
module _ (rule : Rule) (t : Table) (s : Shape) (below : Elements) (Γ : Sorts) (ρ : Indices) where
  pub condition_table : (u v : Table) (e : Said) → s ≡ line.condition e → u ≡ brought rule t (places_in Γ ρ e) → v ≡ brought rule u (below.first Γ ρ) → v ≡ brought rule t (case_places s below Γ ρ)
  condition_table u v e d h g = two_steps rule t u v (places_in Γ ρ e) (below.first Γ ρ) h g ∙ sym (ap (λ s'. brought rule t (case_places s' below Γ ρ)) d)

  pub guard_table : (u v : Table) → is_guard s ≡ true → u ≡ brought rule t (guard_places Γ ρ s) → v ≡ brought rule u (below.first Γ ρ) → v ≡ brought rule t (branch_places s below Γ ρ)
  guard_table u v d h g = two_steps rule t u v (guard_places Γ ρ s) (below.first Γ ρ) h g ∙ sym (ap (brought rule t) (guarded_places s below Γ ρ d))

  pub nested_if_table : (u : Table) (times : Option Times) → s ≡ line.group word.If times → u ≡ brought rule t (copied_places times Γ ρ below.cases) → u ≡ brought rule t (case_places s below Γ ρ)
  nested_if_table u times d h = h ∙ sym (ap (λ s'. brought rule t (case_places s' below Γ ρ)) d)

  pub nested_alt_table : (u : Table) (times : Option Times) → s ≡ line.group word.Alt times → u ≡ brought rule t (copied_places times Γ ρ below.branches) → u ≡ brought rule t (branch_places s below Γ ρ)
  nested_alt_table u times d h = h ∙ sym (ap (λ s'. brought rule t (branch_places s' below Γ ρ)) d)

  pub no_case_table : is_condition s ≡ false → begins word.If s ≡ false → t ≡ brought rule t (case_places s below Γ ρ)
  no_case_table c b = sym (ap (brought rule t) (no_case_places s below Γ ρ c b))

  pub no_branch_table : is_guard s ≡ false → begins word.Alt s ≡ false → t ≡ brought rule t (branch_places s below Γ ρ)
  no_branch_table c b = sym (ap (brought rule t) (no_branch_places s below Γ ρ c b))

-- ---- one line more

module _ (rule : Rule) (f : Forest) (number : ℕ) (s : Shape) (below rest : Forest) (e : f ≡ and_line number s below rest) where
  pub first_behind : (kind : _) (ds : List Declared) (Γ Δ : Sorts) (ρ : Indices) (t u total : Table) → s ≡ line.declare kind ds
      → Δ ≡ declared_in Γ (entries_of kind ds) → u ≡ brought rule t (all_places ds)
      → brought rule t ((elements f).first Γ ρ) ≡ total → brought rule u ((elements rest).first Δ ρ) ≡ total
  first_behind kind ds Γ Δ ρ t u total d p h g =
      ap (λ Θ. brought rule u ((elements rest).first Θ ρ)) p
      ∙ first_step rule t u total (all_places ds) ((elements rest).first (declared_in Γ (entries_of kind ds)) ρ) h
      (sym (ap (λ g'. brought rule t ((elements g').first Γ ρ)) e ∙ ap (λ s'. brought rule t (first_places s' (elements below) (elements rest) Γ ρ)) d) ∙ g)

  pub slots_behind : (kind : _) (ds : List Declared) (outer Γ Δ : Sorts) (ρ : Indices) (t u total : Table) → s ≡ line.declare kind ds
      → Δ ≡ declared_in Γ (entries_of kind ds) → u ≡ brought rule t (all_places ds)
      → brought rule t ((elements f).parts outer Γ ρ) ≡ total → brought rule u ((elements rest).parts outer Δ ρ) ≡ total
  slots_behind kind ds outer Γ Δ ρ t u total d p h g =
      ap (λ Θ. brought rule u ((elements rest).parts outer Θ ρ)) p
      ∙ first_step rule t u total (all_places ds) ((elements rest).parts outer (declared_in Γ (entries_of kind ds)) ρ) h
      (sym (ap (λ g'. brought rule t ((elements g').parts outer Γ ρ)) e ∙ ap (λ s'. brought rule t (parts_places s' (elements below) (elements rest) outer Γ ρ)) d) ∙ g)

  pub slots_here : (outer Γ Δ : Sorts) (us vs : List Present) (t u total : Table) → is_declaration s ≡ false → us ≡ vs → Δ ≡ outer
      → u ≡ brought rule t (process_places s (elements below) Γ (values_of us))
      → brought rule t ((elements f).parts outer Γ (values_of vs)) ≡ total → brought rule u ((elements rest).parts outer Δ (values_of vs)) ≡ total
  slots_here outer Γ Δ us vs t u total d v p h g =
      let ρ = values_of vs in
      ap (λ Θ. brought rule u ((elements rest).parts outer Θ ρ)) p
      ∙ first_step rule t u total (process_places s (elements below) Γ ρ) ((elements rest).parts outer outer ρ)
      (h ∙ ap (λ ws. brought rule t (process_places s (elements below) Γ (values_of ws))) v)
      (sym (ap (λ g'. brought rule t ((elements g').parts outer Γ ρ)) e ∙ ap (brought rule t) (parts_other s (elements below) (elements rest) outer Γ ρ d)) ∙ g)

  pub case_more : (Γ Γ' : Sorts) (us us' : List Present) (t u total : Table) → Γ' ≡ Γ → us' ≡ us
      → u ≡ brought rule t (case_places s (elements below) Γ' (values_of us'))
      → brought rule t ((elements f).cases Γ (values_of us)) ≡ total → brought rule u ((elements rest).cases Γ (values_of us)) ≡ total
  case_more Γ Γ' us us' t u total g v h total-is =
      first_step rule t u total (case_places s (elements below) Γ (values_of us)) ((elements rest).cases Γ (values_of us))
      (h ∙ ap (λ Θ. brought rule t (case_places s (elements below) Θ (values_of us'))) g ∙ ap (λ ws. brought rule t (case_places s (elements below) Γ (values_of ws))) v)
      (sym (ap (λ g'. brought rule t ((elements g').cases Γ (values_of us))) e) ∙ total-is)

  pub branch_more : (Γ Γ' : Sorts) (us us' : List Present) (t u total : Table) → Γ' ≡ Γ → us' ≡ us
      → u ≡ brought rule t (branch_places s (elements below) Γ' (values_of us'))
      → brought rule t ((elements f).branches Γ (values_of us)) ≡ total → brought rule u ((elements rest).branches Γ (values_of us)) ≡ total
  branch_more Γ Γ' us us' t u total g v h total-is =
      first_step rule t u total (branch_places s (elements below) Γ (values_of us)) ((elements rest).branches Γ (values_of us))
      (h ∙ ap (λ Θ. brought rule t (branch_places s (elements below) Θ (values_of us'))) g ∙ ap (λ ws. brought rule t (branch_places s (elements below) Γ (values_of ws))) v)
      (sym (ap (λ g'. brought rule t ((elements g').branches Γ (values_of us))) e) ∙ total-is)

-- ---- one copy more

abbrev pub copies_places : Times → Sorts → Indices → (Sorts → Indices → List Place) → List ℕ → List Place
copies_places times Γ ρ one vs = copies (λ ps qs. ps ++ qs) [] times Γ ρ one vs

pub copy_table : (rule : Rule) (times : Times) (Γ Γ' Δ : Sorts) (us us' vs : List Present) (copy : ℕ) (one : Sorts → Indices → List Place) (t u total : Table)
    → Γ' ≡ Γ → us' ≡ us → Δ ≡ counter_of times ∷ Γ' → vs ≡ present times copy ∷ us' → copy < times.count
    → u ≡ brought rule t (one Δ (values_of vs))
    → brought rule t (copies_places times Γ (values_of us) one (numbers_from (times.base + copy) (times.count - copy))) ≡ total
    → brought rule u (copies_places times Γ (values_of us) one (numbers_from (times.base + (copy + 1)) (times.count - (copy + 1)))) ≡ total
copy_table rule times Γ Γ' Δ us us' vs copy one t u total g u' d v lt h total-is =
    let v0 = times.base + copy in
    let left = times.count - (copy + 1) in
    let more : times.count - copy ≡ suc left = omega arith in
    let next : times.base + (copy + 1) ≡ v0 + 1 = omega arith in
    let here = one (counter_of times ∷ Γ) (with_index (values_of us) times.index.0 v0) in
    let others = copies_places times Γ (values_of us) one (numbers_from (v0 + 1) left) in
    let entered : one Δ (values_of vs) ≡ here =
    ap (λ Θ. one Θ (values_of vs)) (d ∙ ap (λ Θ. counter_of times ∷ Θ) g)
    ∙ ap (λ ws. one (counter_of times ∷ Γ) (values_of ws)) (v ∙ ap (λ ws. present times copy ∷ ws) u') in
    ap (λ m. brought rule u (copies_places times Γ (values_of us) one (numbers_from m left))) next
    ∙ first_step rule t u total here others (h ∙ ap (brought rule t) entered)
    (sym (ap (λ n. brought rule t (copies_places times Γ (values_of us) one (numbers_from v0 n))) more) ∙ total-is)

-- behind the last one
pub copies_last : (rule : Rule) (times : Times) (Γ : Sorts) (ρ : Indices) (one : Sorts → Indices → List Place) (t u : Table) (copy : ℕ) (wanted : Option Times) → wanted ≡ Some times → times.count ≤ copy
    → brought rule u (copies_places times Γ ρ one (numbers_from (times.base + copy) (times.count - copy))) ≡ brought rule t (copied_places (Some times) Γ ρ one)
    → u ≡ brought rule t (copied_places wanted Γ ρ one)
copies_last rule times Γ ρ one t u copy wanted w h total-is =
    let n : times.count - copy ≡ 0 = omega arith in
    sym (ap (λ m. brought rule u (copies_places times Γ ρ one (numbers_from (times.base + copy) m))) n)
    ∙ total-is
    ∙ sym (ap (λ o. brought rule t (copied_places o Γ ρ one)) w)

-- ---- lines that stand for nothing bring nothing in

all_nothing : (times : Times) (Γ : Sorts) (ρ : Indices) (one : Sorts → Indices → List Place) (vs : List ℕ) → ((Δ : Sorts) (σ : Indices) → one Δ σ ≡ []) → copies_places times Γ ρ one vs ≡ []
all_nothing times Γ ρ one [] h = refl
all_nothing times Γ ρ one (v ∷ vs) h =
    ap (λ ps. ps ++ copies_places times Γ ρ one vs) (h (counter_of times ∷ Γ) (with_index ρ times.index.0 v)) ∙ all_nothing times Γ ρ one vs h

nought : (n m : ℕ) → n * m ≡ 0 → (n ≡ 0) ⊎ (m ≡ 0)
nought zero m h = inl refl
nought (suc n) m h = inr (grind (arith, h))

copied_nothing : (times : Option Times) (n : ℕ) (one : Sorts → Indices → List Place) → times_of times * n ≡ 0 → (n ≡ 0 → (Δ : Sorts) (σ : Indices) → one Δ σ ≡ [])
    → (Γ : Sorts) (ρ : Indices) → copied_places times Γ ρ one ≡ []
copied_nothing None n one z h Γ ρ = h (omega (arith, z)) Γ ρ
copied_nothing (Some times) n one z h Γ ρ = ⊎_elim
    (λ (c : times.count ≡ 0). ap (λ m. copies_places times Γ ρ one (numbers_from times.base m)) c)
    (λ (c : n ≡ 0). all_nothing times Γ ρ one (numbers_from times.base times.count) (h c))
    (nought times.count n z)

both_nothing : (ps qs : List Place) → ps ≡ [] → qs ≡ [] → ps ++ qs ≡ []
both_nothing ps qs p q = ap (λ xs. xs ++ qs) p ∙ q

case_nothing : (s : Shape) (below : Elements) (size : Sizes) → (size.cases ≡ 0 → (Δ : Sorts) (σ : Indices) → below.cases Δ σ ≡ []) → case_size s size ≡ 0
    → (Γ : Sorts) (ρ : Indices) → case_places s below Γ ρ ≡ []
case_nothing (line.header name params) below size h z Γ ρ = refl
case_nothing line.close below size h z Γ ρ = refl
case_nothing line.skip below size h z Γ ρ = refl
case_nothing line.stop below size h z Γ ρ = refl
case_nothing (line.assign xs es) below size h z Γ ρ = refl
case_nothing (line.receive c x) below size h z Γ ρ = refl
case_nothing (line.send c e) below size h z Γ ρ = refl
case_nothing (line.group word.Seq times) below size h z Γ ρ = refl
case_nothing (line.group word.Par times) below size h z Γ ρ = refl
case_nothing (line.group word.If times) below size h z Γ ρ = copied_nothing times size.cases below.cases z h Γ ρ
case_nothing (line.group word.Alt times) below size h z Γ ρ = refl
case_nothing (line.declare kind ds) below size h z Γ ρ = refl
case_nothing (line.condition e) below size h z Γ ρ = absurd (omega (arith, z))
case_nothing (line.guard e w) below size h z Γ ρ = refl
case_nothing line.nothing below size h z Γ ρ = refl

branch_nothing : (s : Shape) (below : Elements) (size : Sizes) → (size.branches ≡ 0 → (Δ : Sorts) (σ : Indices) → below.branches Δ σ ≡ []) → branch_size s size ≡ 0
    → (Γ : Sorts) (ρ : Indices) → branch_places s below Γ ρ ≡ []
branch_nothing (line.header name params) below size h z Γ ρ = refl
branch_nothing line.close below size h z Γ ρ = refl
branch_nothing line.skip below size h z Γ ρ = refl
branch_nothing line.stop below size h z Γ ρ = refl
branch_nothing (line.assign xs es) below size h z Γ ρ = refl
branch_nothing (line.receive c x) below size h z Γ ρ = absurd (omega (arith, z))
branch_nothing (line.send c e) below size h z Γ ρ = absurd (omega (arith, z))
branch_nothing (line.group word.Seq times) below size h z Γ ρ = refl
branch_nothing (line.group word.Par times) below size h z Γ ρ = refl
branch_nothing (line.group word.If times) below size h z Γ ρ = refl
branch_nothing (line.group word.Alt times) below size h z Γ ρ = copied_nothing times size.branches below.branches z h Γ ρ
branch_nothing (line.declare kind ds) below size h z Γ ρ = refl
branch_nothing (line.condition e) below size h z Γ ρ = refl
branch_nothing (line.guard e w) below size h z Γ ρ = absurd (omega (arith, z))
branch_nothing line.nothing below size h z Γ ρ = refl

cases_nothing : (f : Forest) → (sizes f).cases ≡ 0 → (Γ : Sorts) (ρ : Indices) → (elements f).cases Γ ρ ≡ []
cases_nothing no_line h Γ ρ = refl
cases_nothing (and_line number s below rest) h Γ ρ =
    let a : case_size s (sizes below) ≡ 0 = omega (arith, h) in
    let b : (sizes rest).cases ≡ 0 = omega (arith, h) in
    both_nothing _ _ (case_nothing s (elements below) (sizes below) (cases_nothing below) a Γ ρ) (cases_nothing rest b Γ ρ)

branches_nothing : (f : Forest) → (sizes f).branches ≡ 0 → (Γ : Sorts) (ρ : Indices) → (elements f).branches Γ ρ ≡ []
branches_nothing no_line h Γ ρ = refl
branches_nothing (and_line number s below rest) h Γ ρ =
    let a : branch_size s (sizes below) ≡ 0 = omega (arith, h) in
    let b : (sizes rest).branches ≡ 0 = omega (arith, h) in
    both_nothing _ _ (branch_nothing s (elements below) (sizes below) (branches_nothing below) a Γ ρ) (branches_nothing rest b Γ ρ)

times_nought : (n : ℕ) → n * 0 ≡ 0
times_nought n = grind arith

pub no_case_copies : (rule : Rule) (t : Table) (f : Forest) (times : Option Times) (Γ : Sorts) (ρ : Indices) → (sizes f).cases ≡ 0 → t ≡ brought rule t (copied_places times Γ ρ (elements f).cases)
no_case_copies rule t f times Γ ρ h = sym (ap (brought rule t) (copied_nothing times 0 (elements f).cases (times_nought (times_of times)) (λ z. cases_nothing f h) Γ ρ))

pub no_branch_copies : (rule : Rule) (t : Table) (f : Forest) (times : Option Times) (Γ : Sorts) (ρ : Indices) → (sizes f).branches ≡ 0 → t ≡ brought rule t (copied_places times Γ ρ (elements f).branches)
no_branch_copies rule t f times Γ ρ h = sym (ap (brought rule t) (copied_nothing times 0 (elements f).branches (times_nought (times_of times)) (λ z. branches_nothing f h) Γ ρ))

-- ---- an element that is interned

pub element_table : (old new : Table) (x k : ℕ) (array text : List ℕ) → x < length old → slice_get old x ≡ Some array → text ≡ element_text array k → new ≡ with_text old text → new ≡ with_place old x (Some k)
element_table old new x k array text h s e n = n ∙ ap (with_text old) (e ∙ ap (λ a. element_text a k) (sym (get_or_from_slice_get old x array [] s)))

-- interned or not, the table goes on
pub interned_extends : (old new : Table) (text : List ℕ) (r : Result Name Memory) → OnOk r (new ≡ with_text old text) → OnErr r (new ≡ old) → Extends old new
interned_extends old new text (Ok name) n e = subst (Extends old) (sym n) (extends_text old text)
interned_extends old new text (Err memory) n e = extends_eq old new e
