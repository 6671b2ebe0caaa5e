-- The places that lines in order speak of, at each of their copies.
use Rattle.std.proofs.Common.{◌≡◌, Bool, true, ◌&&◌, List, [], ◌∷◌, ◌++◌, Option, Some, None, refl, ℕ}
use Rattle.std.specs.List.{AllByRecursion, list_all}
use Rattle.std.proofs.lemmas.Bool.{and_parts}
use Rattle.occ_script_back.proofs.from_meaning.Facts.{false_not_true}
use Rattle.occ_script_back.proofs.from_parse.Knowing.{EachLine}
use Rattle.occ_script_back.proofs.from_parse.Small.{shape_small}
use Rattle.occ_script_back.specs.occ_parse_forms.declared.form.Group.{Group}
use Rattle.occ_script_back.specs.occ_parse_forms.declared.form.Group.TheVariants as word
use Rattle.occ_script_back.specs.occ_parse_forms.declared.form.Times.{Times}
use Rattle.occ_script_back.specs.occ_parse_forms.Shape.{Shape}
use Rattle.occ_script_back.specs.occ_parse_forms.Shape as line
use Rattle.occ_script_back.specs.occ_parse_rules.Forest.{Forest, no_line, and_line}
use Rattle.occ_script_back.specs.occ_parse_rules.Judging.{behind, first_fault, inside, on_line, or_else}
use Rattle.occ_script_back.specs.occ_parse_rules.Names.{name_fault}
use Rattle.occ_script_back.specs.occ_parse_rules.Places.{Place, Sorts, Indices, counter_of, declared_in, entries_of, numbers_from, values_of, with_index}
use Rattle.occ_script_back.specs.occ_parse_rules.Types.{type_fault}
use Rattle.occ_script_back.specs.occ_parse_rules.Unrolled.{copies}
use Rattle.occ_script_back.specs.occ_parse_rules.Passing.{declared_passes, shape_passes, times_passes}
use Rattle.occ_script_back.specs.occ_parse_rules.Sound.{are_options, are_placed, is_declare, options_below}
use Rattle.occ_script_back.specs.occ_parse_unroll.Elements.{all_places, as_slots, branch_places, case_places, construct_places, copied_places, elements, first_places, nested_branches_places, nested_cases_places, parts_places, places_in, process_places, waiting_places}
use Rattle.occ_script_back.specs.occ_syntax.Types.{is_width, width_of_kind}
use Rattle.occ_script_table.proofs.Scoped.{AllDeclaredFit, AllFit, Among, IsFit, at_value, behind_declared, both_fit, copies_among, declared_fit, declared_from}
use Rattle.occ_script_table.proofs.Used.{LineInOrder, assigned_fit, guard_fits, said_fits, used, waiting_fits}

-- ---- lines in order

-- each line is in order in its scope
abbrev pub InOrder : Sorts → Sorts → Forest → Type 0
InOrder outer Γ no_line = Unit {0}
InOrder outer Γ (and_line n s below rest) = LineInOrder Γ s × (InOrder (inside Γ s) (inside Γ s) below × InOrder outer (behind outer Γ s) rest)

-- where neither of two faults is there, the first isn't
pub first_none : {F : Type 0} (a b : Option F) → or_else a b ≡ None → a ≡ None
first_none None b h = refl
first_none (Some f) b h = absurd cc

-- nor the second
pub second_none : {F : Type 0} (a b : Option F) → or_else a b ≡ None → b ≡ None
second_none None b h = h
second_none (Some f) b h = absurd cc

none_on : {F : Type 0} (n : ℕ) (a : Option F) → on_line n a ≡ None → a ≡ None
none_on n None h = refl
none_on n (Some f) h = absurd cc

module _ {F : Type 0} (judge : Sorts → Shape → Option F) (outer Γ : Sorts) (n : ℕ) (s : Shape) (below rest : Forest)
    (h : first_fault judge outer Γ (and_line n s below rest) ≡ None) where
  line_none : judge Γ s ≡ None
  line_none = none_on n (judge Γ s) (first_none (on_line n (judge Γ s)) _ h)

  below_none : first_fault judge (inside Γ s) (inside Γ s) below ≡ None
  below_none = first_none (first_fault judge (inside Γ s) (inside Γ s) below) _ (second_none (on_line n (judge Γ s)) _ h)

  rest_none : first_fault judge outer (behind outer Γ s) rest ≡ None
  rest_none = second_none (first_fault judge (inside Γ s) (inside Γ s) below) _ (second_none (on_line n (judge Γ s)) _ h)

-- lines without a fault of names or types are in order, each in its scope
pub in_order : (outer Γ : Sorts) (f : Forest) → first_fault name_fault outer Γ f ≡ None → first_fault type_fault outer Γ f ≡ None → InOrder outer Γ f
in_order outer Γ no_line h k = tt
in_order outer Γ (and_line n s below rest) h k = (
  (line_none name_fault outer Γ n s below rest h, line_none type_fault outer Γ n s below rest k),
  (
    in_order (inside Γ s) (inside Γ s) below (below_none name_fault outer Γ n s below rest h) (below_none type_fault outer Γ n s below rest k),
    in_order outer (behind outer Γ s) rest (rest_none name_fault outer Γ n s below rest h) (rest_none type_fault outer Γ n s below rest k),
  ),
)

-- ---- what a line declares

module _ (test : ℕ → Bool) where
  -- what a line declares fits, and so does the index of its replicator
  abbrev pub LineFits : Shape → Type 0
  LineFits (line.declare kind ds) = AllDeclaredFit test ds
  LineFits (line.group g times) = times_passes test times ≡ true
  LineFits other = Unit {0}

  line_fits : (s : Shape) → shape_passes test s ≡ true → shape_small s ≡ true → LineFits s
  line_fits (line.header name params) h k = tt
  line_fits line.close h k = tt
  line_fits line.skip h k = tt
  line_fits line.stop h k = tt
  line_fits (line.assign xs es) h k = tt
  line_fits (line.receive c x) h k = tt
  line_fits (line.send c e) h k = tt
  line_fits (line.group g times) h k = h
  line_fits (line.declare kind ds) h k = declared_from test ds (and_parts (is_width (width_of_kind kind)) (list_all (declared_passes test) ds) h).1 k
  line_fits (line.condition e) h k = tt
  line_fits (line.guard e w) h k = tt
  line_fits line.nothing h k = tt

  -- ---- the places of lines one below another

  pub record Fit (f : Forest) : Type 0 where
    pub parts : (outer Γ : Sorts) (ρ : Indices) → InOrder outer Γ f → IsFit test outer ρ → IsFit test Γ ρ → AllFit test ((elements f).parts outer Γ ρ)
    pub first : (outer Γ : Sorts) (ρ : Indices) → InOrder outer Γ f → IsFit test Γ ρ → AllFit test ((elements f).first Γ ρ)
    pub cases : (Γ : Sorts) (ρ : Indices) → are_options f ≡ true → InOrder Γ Γ f → IsFit test Γ ρ → AllFit test ((elements f).cases Γ ρ)
    pub branches : (Γ : Sorts) (ρ : Indices) → are_options f ≡ true → InOrder Γ Γ f → IsFit test Γ ρ → AllFit test ((elements f).branches Γ ρ)

  -- what the lines below one give in each scope in which they are in order
  abbrev pub Copies : Forest → (Sorts → Indices → List Place) → Type 0
  Copies below copy = (Δ : Sorts) (σ : Indices) → InOrder Δ Δ below → IsFit test Δ σ → AllFit test (copy Δ σ)

  copies_fit : (times : Times) (Γ : Sorts) (ρ : Indices) (copy : Sorts → Indices → List Place) (vs : List ℕ)
      → ((v : ℕ) → Among (values_of times.base times.count) v → AllFit test (copy (counter_of times ∷ Γ) (with_index ρ times.index.0 v)))
      → AllByRecursion (Among (values_of times.base times.count)) vs → AllFit test (copies (λ ps qs. ps ++ qs) [] times Γ ρ copy vs)
  copies_fit times Γ ρ copy [] f h = tt
  copies_fit times Γ ρ copy (v ∷ vs) f h =
      both_fit test (copy (counter_of times ∷ Γ) (with_index ρ times.index.0 v)) (copies (λ ps qs. ps ++ qs) [] times Γ ρ copy vs) (f v h.0) (copies_fit times Γ ρ copy vs f h.1)

  copied_fit : (g : Group) (times : Option Times) (below : Forest) (Γ : Sorts) (ρ : Indices) (copy : Sorts → Indices → List Place) → times_passes test times ≡ true
      → InOrder (inside Γ (line.group g times)) (inside Γ (line.group g times)) below → IsFit test Γ ρ → Copies below copy → AllFit test (copied_places times Γ ρ copy)
  copied_fit g None below Γ ρ copy h i t f = f Γ ρ i t
  copied_fit g (Some times) below Γ ρ copy h i t f =
      copies_fit times Γ ρ copy (numbers_from times.base times.count)
      (λ v among. f (counter_of times ∷ Γ) (with_index ρ times.index.0 v) i (at_value test times Γ ρ v h among t)) (copies_among times.base times.count)

  construct_fits : (g : Group) (times : Option Times) (below : Forest) (Γ : Sorts) (ρ : Indices) → times_passes test times ≡ true → options_below (line.group g times) below ≡ true
      → InOrder (inside Γ (line.group g times)) (inside Γ (line.group g times)) below → IsFit test Γ ρ → Fit below → AllFit test (construct_places g times (elements below) Γ ρ)
  construct_fits word.Seq times below Γ ρ h o i t f = copied_fit word.Seq times below Γ ρ (as_slots (elements below)) h i t (λ Δ σ j u. f.parts Δ Δ σ j u u)
  construct_fits word.Par times below Γ ρ h o i t f = copied_fit word.Par times below Γ ρ (as_slots (elements below)) h i t (λ Δ σ j u. f.parts Δ Δ σ j u u)
  construct_fits word.If times below Γ ρ h o i t f = copied_fit word.If times below Γ ρ (elements below).cases h i t (λ Δ σ j u. f.cases Δ σ o j u)
  construct_fits word.Alt times below Γ ρ h o i t f = copied_fit word.Alt times below Γ ρ (elements below).branches h i t (λ Δ σ j u. f.branches Δ σ o j u)

  process_fits : (s : Shape) (below : Forest) (Γ : Sorts) (ρ : Indices) → LineFits s → options_below s below ≡ true → LineInOrder Γ s → InOrder (inside Γ s) (inside Γ s) below
      → IsFit test Γ ρ → Fit below → AllFit test (process_places s (elements below) Γ ρ)
  process_fits (line.header name params) below Γ ρ l o j i t f = tt
  process_fits line.close below Γ ρ l o j i t f = tt
  process_fits line.skip below Γ ρ l o j i t f = tt
  process_fits line.stop below Γ ρ l o j i t f = tt
  process_fits (line.assign xs es) below Γ ρ l o j i t f = assigned_fit test Γ ρ t xs es (used test Γ ρ t (line.assign xs es) j)
  process_fits (line.receive c x) below Γ ρ l o j i t f = waiting_fits test Γ ρ t (line.input c x) (used test Γ ρ t (line.receive c x) j)
  process_fits (line.send c e) below Γ ρ l o j i t f = waiting_fits test Γ ρ t (line.output c e) (used test Γ ρ t (line.send c e) j)
  process_fits (line.group g times) below Γ ρ l o j i t f = construct_fits g times below Γ ρ l o i t f
  process_fits (line.declare kind ds) below Γ ρ l o j i t f = tt
  process_fits (line.condition e) below Γ ρ l o j i t f = tt
  process_fits (line.guard e w) below Γ ρ l o j i t f = tt
  process_fits line.nothing below Γ ρ l o j i t f = tt

  -- ---- one line, with those below it and those behind it

  -- a line whose own declarations fit, and below which options stand where they have to
  pub record IsGood (s : Shape) (below rest : Forest) : Type 0 where
    pub fits : LineFits s
    pub options : options_below s below ≡ true
    pub under : Fit below
    pub later : Fit rest

  -- a process, and what stands behind it in the outer scope
  begun : (s : Shape) (below rest : Forest) → IsGood s below rest → (outer Γ : Sorts) (ρ : Indices) → LineInOrder Γ s → InOrder (inside Γ s) (inside Γ s) below
      → InOrder outer outer rest → IsFit test outer ρ → IsFit test Γ ρ → AllFit test (process_places s (elements below) Γ ρ ++ (elements rest).parts outer outer ρ)
  begun s below rest g outer Γ ρ j i k u t =
      both_fit test (process_places s (elements below) Γ ρ) ((elements rest).parts outer outer ρ) (process_fits s below Γ ρ g.fits g.options j i t g.under) (g.later.parts outer outer ρ k u u)

  parts_fit : (n : ℕ) (s : Shape) (below rest : Forest) → IsGood s below rest → (outer Γ : Sorts) (ρ : Indices) → InOrder outer Γ (and_line n s below rest) → IsFit test outer ρ → IsFit test Γ ρ
      → AllFit test (parts_places s (elements below) (elements rest) outer Γ ρ)
  parts_fit n (line.header name params) below rest g outer Γ ρ i u t = begun (line.header name params) below rest g outer Γ ρ i.0 i.1.0 i.1.1 u t
  parts_fit n line.close below rest g outer Γ ρ i u t = begun line.close below rest g outer Γ ρ i.0 i.1.0 i.1.1 u t
  parts_fit n line.skip below rest g outer Γ ρ i u t = begun line.skip below rest g outer Γ ρ i.0 i.1.0 i.1.1 u t
  parts_fit n line.stop below rest g outer Γ ρ i u t = begun line.stop below rest g outer Γ ρ i.0 i.1.0 i.1.1 u t
  parts_fit n (line.assign xs es) below rest g outer Γ ρ i u t = begun (line.assign xs es) below rest g outer Γ ρ i.0 i.1.0 i.1.1 u t
  parts_fit n (line.receive c x) below rest g outer Γ ρ i u t = begun (line.receive c x) below rest g outer Γ ρ i.0 i.1.0 i.1.1 u t
  parts_fit n (line.send c e) below rest g outer Γ ρ i u t = begun (line.send c e) below rest g outer Γ ρ i.0 i.1.0 i.1.1 u t
  parts_fit n (line.group w times) below rest g outer Γ ρ i u t = begun (line.group w times) below rest g outer Γ ρ i.0 i.1.0 i.1.1 u t
  parts_fit n (line.declare kind ds) below rest g outer Γ ρ i u t =
      both_fit test (all_places ds) ((elements rest).parts outer (declared_in Γ (entries_of kind ds)) ρ) (declared_fit test ds g.fits)
      (g.later.parts outer (declared_in Γ (entries_of kind ds)) ρ i.1.1 u (behind_declared test kind ds Γ ρ g.fits t))
  parts_fit n (line.condition e) below rest g outer Γ ρ i u t = begun (line.condition e) below rest g outer Γ ρ i.0 i.1.0 i.1.1 u t
  parts_fit n (line.guard e w) below rest g outer Γ ρ i u t = begun (line.guard e w) below rest g outer Γ ρ i.0 i.1.0 i.1.1 u t
  parts_fit n line.nothing below rest g outer Γ ρ i u t = begun line.nothing below rest g outer Γ ρ i.0 i.1.0 i.1.1 u t

  first_fits : (n : ℕ) (s : Shape) (below rest : Forest) → IsGood s below rest → (outer Γ : Sorts) (ρ : Indices) → InOrder outer Γ (and_line n s below rest) → IsFit test Γ ρ
      → AllFit test (first_places s (elements below) (elements rest) Γ ρ)
  first_fits n (line.header name params) below rest g outer Γ ρ i t = process_fits (line.header name params) below Γ ρ g.fits g.options i.0 i.1.0 t g.under
  first_fits n line.close below rest g outer Γ ρ i t = process_fits line.close below Γ ρ g.fits g.options i.0 i.1.0 t g.under
  first_fits n line.skip below rest g outer Γ ρ i t = process_fits line.skip below Γ ρ g.fits g.options i.0 i.1.0 t g.under
  first_fits n line.stop below rest g outer Γ ρ i t = process_fits line.stop below Γ ρ g.fits g.options i.0 i.1.0 t g.under
  first_fits n (line.assign xs es) below rest g outer Γ ρ i t = process_fits (line.assign xs es) below Γ ρ g.fits g.options i.0 i.1.0 t g.under
  first_fits n (line.receive c x) below rest g outer Γ ρ i t = process_fits (line.receive c x) below Γ ρ g.fits g.options i.0 i.1.0 t g.under
  first_fits n (line.send c e) below rest g outer Γ ρ i t = process_fits (line.send c e) below Γ ρ g.fits g.options i.0 i.1.0 t g.under
  first_fits n (line.group w times) below rest g outer Γ ρ i t = process_fits (line.group w times) below Γ ρ g.fits g.options i.0 i.1.0 t g.under
  first_fits n (line.declare kind ds) below rest g outer Γ ρ i t =
      both_fit test (all_places ds) ((elements rest).first (declared_in Γ (entries_of kind ds)) ρ) (declared_fit test ds g.fits)
      (g.later.first outer (declared_in Γ (entries_of kind ds)) ρ i.1.1 (behind_declared test kind ds Γ ρ g.fits t))
  first_fits n (line.condition e) below rest g outer Γ ρ i t = process_fits (line.condition e) below Γ ρ g.fits g.options i.0 i.1.0 t g.under
  first_fits n (line.guard e w) below rest g outer Γ ρ i t = process_fits (line.guard e w) below Γ ρ g.fits g.options i.0 i.1.0 t g.under
  first_fits n line.nothing below rest g outer Γ ρ i t = process_fits line.nothing below Γ ρ g.fits g.options i.0 i.1.0 t g.under

  nested_cases_fit : (w : Group) (times : Option Times) (below rest : Forest) → IsGood (line.group w times) below rest → (Γ : Sorts) (ρ : Indices)
      → InOrder (inside Γ (line.group w times)) (inside Γ (line.group w times)) below → IsFit test Γ ρ → AllFit test (nested_cases_places w times (elements below) Γ ρ)
  nested_cases_fit word.Seq times below rest g Γ ρ i t = tt
  nested_cases_fit word.Par times below rest g Γ ρ i t = tt
  nested_cases_fit word.If times below rest g Γ ρ i t = copied_fit word.If times below Γ ρ (elements below).cases g.fits i t (λ Δ σ j u. g.under.cases Δ σ g.options j u)
  nested_cases_fit word.Alt times below rest g Γ ρ i t = tt

  cases_fit : (n : ℕ) (s : Shape) (below rest : Forest) → IsGood s below rest → (Γ : Sorts) (ρ : Indices) → are_options (and_line n s below rest) ≡ true
      → InOrder Γ Γ (and_line n s below rest) → IsFit test Γ ρ → AllFit test (case_places s (elements below) Γ ρ ++ (elements rest).cases Γ ρ)
  unfolding is_declare
  cases_fit n (line.header name params) below rest g Γ ρ o i t = g.later.cases Γ ρ o i.1.1 t
  cases_fit n line.close below rest g Γ ρ o i t = g.later.cases Γ ρ o i.1.1 t
  cases_fit n line.skip below rest g Γ ρ o i t = g.later.cases Γ ρ o i.1.1 t
  cases_fit n line.stop below rest g Γ ρ o i t = g.later.cases Γ ρ o i.1.1 t
  cases_fit n (line.assign xs es) below rest g Γ ρ o i t = g.later.cases Γ ρ o i.1.1 t
  cases_fit n (line.receive c x) below rest g Γ ρ o i t = g.later.cases Γ ρ o i.1.1 t
  cases_fit n (line.send c e) below rest g Γ ρ o i t = g.later.cases Γ ρ o i.1.1 t
  cases_fit n (line.group w times) below rest g Γ ρ o i t =
      both_fit test (nested_cases_places w times (elements below) Γ ρ) ((elements rest).cases Γ ρ) (nested_cases_fit w times below rest g Γ ρ i.1.0 t) (g.later.cases Γ ρ o i.1.1 t)
  cases_fit n (line.declare kind ds) below rest g Γ ρ o i t = false_not_true o
  cases_fit n (line.condition e) below rest g Γ ρ o i t =
      both_fit test (places_in Γ ρ e ++ (elements below).first Γ ρ) ((elements rest).cases Γ ρ)
      (both_fit test (places_in Γ ρ e) ((elements below).first Γ ρ) (said_fits test Γ ρ t e (used test Γ ρ t (line.condition e) i.0)) (g.under.first Γ Γ ρ i.1.0 t))
      (g.later.cases Γ ρ o i.1.1 t)
  cases_fit n (line.guard e w) below rest g Γ ρ o i t = g.later.cases Γ ρ o i.1.1 t
  cases_fit n line.nothing below rest g Γ ρ o i t = g.later.cases Γ ρ o i.1.1 t

  nested_branches_fit : (w : Group) (times : Option Times) (below rest : Forest) → IsGood (line.group w times) below rest → (Γ : Sorts) (ρ : Indices)
      → InOrder (inside Γ (line.group w times)) (inside Γ (line.group w times)) below → IsFit test Γ ρ → AllFit test (nested_branches_places w times (elements below) Γ ρ)
  nested_branches_fit word.Seq times below rest g Γ ρ i t = tt
  nested_branches_fit word.Par times below rest g Γ ρ i t = tt
  nested_branches_fit word.If times below rest g Γ ρ i t = tt
  nested_branches_fit word.Alt times below rest g Γ ρ i t = copied_fit word.Alt times below Γ ρ (elements below).branches g.fits i t (λ Δ σ j u. g.under.branches Δ σ g.options j u)

  -- a guard, the process below it and the alternatives behind it
  guarded : (below rest : Forest) → Fit below → Fit rest → (Γ : Sorts) (ρ : Indices) (ps : List Place) → AllFit test ps → are_options rest ≡ true → InOrder Γ Γ below → InOrder Γ Γ rest → IsFit test Γ ρ
      → AllFit test ((ps ++ (elements below).first Γ ρ) ++ (elements rest).branches Γ ρ)
  guarded below rest f r Γ ρ ps h o i k t =
      both_fit test (ps ++ (elements below).first Γ ρ) ((elements rest).branches Γ ρ) (both_fit test ps ((elements below).first Γ ρ) h (f.first Γ Γ ρ i t)) (r.branches Γ ρ o k t)

  branches_fit : (n : ℕ) (s : Shape) (below rest : Forest) → IsGood s below rest → (Γ : Sorts) (ρ : Indices) → are_options (and_line n s below rest) ≡ true
      → InOrder Γ Γ (and_line n s below rest) → IsFit test Γ ρ → AllFit test (branch_places s (elements below) Γ ρ ++ (elements rest).branches Γ ρ)
  unfolding is_declare
  branches_fit n (line.header name params) below rest g Γ ρ o i t = g.later.branches Γ ρ o i.1.1 t
  branches_fit n line.close below rest g Γ ρ o i t = g.later.branches Γ ρ o i.1.1 t
  branches_fit n line.skip below rest g Γ ρ o i t = g.later.branches Γ ρ o i.1.1 t
  branches_fit n line.stop below rest g Γ ρ o i t = g.later.branches Γ ρ o i.1.1 t
  branches_fit n (line.assign xs es) below rest g Γ ρ o i t = g.later.branches Γ ρ o i.1.1 t
  branches_fit n (line.receive c x) below rest g Γ ρ o i t =
      guarded below rest g.under g.later Γ ρ (waiting_places Γ ρ (line.input c x)) (waiting_fits test Γ ρ t (line.input c x) (used test Γ ρ t (line.receive c x) i.0)) o i.1.0 i.1.1 t
  branches_fit n (line.send c e) below rest g Γ ρ o i t =
      guarded below rest g.under g.later Γ ρ (waiting_places Γ ρ (line.output c e)) (waiting_fits test Γ ρ t (line.output c e) (used test Γ ρ t (line.send c e) i.0)) o i.1.0 i.1.1 t
  branches_fit n (line.group w times) below rest g Γ ρ o i t =
      both_fit test (nested_branches_places w times (elements below) Γ ρ) ((elements rest).branches Γ ρ) (nested_branches_fit w times below rest g Γ ρ i.1.0 t) (g.later.branches Γ ρ o i.1.1 t)
  branches_fit n (line.declare kind ds) below rest g Γ ρ o i t = false_not_true o
  branches_fit n (line.condition e) below rest g Γ ρ o i t = g.later.branches Γ ρ o i.1.1 t
  branches_fit n (line.guard e w) below rest g Γ ρ o i t =
      guarded below rest g.under g.later Γ ρ (places_in Γ ρ e ++ waiting_places Γ ρ w) (guard_fits test Γ ρ t e w (used test Γ ρ t (line.guard e w) i.0)) o i.1.0 i.1.1 t
  branches_fit n line.nothing below rest g Γ ρ o i t = g.later.branches Γ ρ o i.1.1 t

  -- ---- all lines

  -- lines whose names pass, and whose numerals are small, give places that fit in each scope in which they are in order
  pub lines_fit : (f : Forest) → EachLine (λ s. shape_passes test s ≡ true) f → EachLine (λ s. shape_small s ≡ true) f → are_placed f ≡ true → Fit f
  lines_fit no_line h k p = record { parts = λ outer Γ ρ i u t. tt; first = λ outer Γ ρ i t. tt; cases = λ Γ ρ o i t. tt; branches = λ Γ ρ o i t. tt }
  lines_fit (and_line n s below rest) h k p =
      let one = and_parts (options_below s below) (are_placed below && are_placed rest) p in
      let two = and_parts (are_placed below) (are_placed rest) one.1 in
      let good : IsGood s below rest = record {
        fits = line_fits s h.0 k.0;
        options = one.0;
        under = lines_fit below h.1.0 k.1.0 two.0;
        later = lines_fit rest h.1.1 k.1.1 two.1;
      } in
      record { parts = parts_fit n s below rest good; first = first_fits n s below rest good; cases = cases_fit n s below rest good; branches = branches_fit n s below rest good }
