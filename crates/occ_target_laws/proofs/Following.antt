-- What follows an event of a branch.
use Rattle.std.proofs.Common.{◌≡◌, ℕ, zero, suc, ◌+◌, ◌<◌, ◌^◌, ◌==◌, Bool, true, false, if◌then◌else◌, List, [], ◌∷◌, length, Option, None, Some, refl, sym, ap, ◌∙◌, subst, inl, inr, ◌⊎◌, arith}
use Rattle.std.proofs.lemmas.Bool.{cases_Bool, eqb-true, eq-eqb, ltb-true, lt-ltb}
use Rattle.std.proofs.Math.Nat.{add-zero}
use Rattle.occ_target.specs.occ_base.declared.event.Dir.{Dir}
use Rattle.occ_target.specs.occ_base.declared.event.Dir.TheVariants.{Input, Output}
use Rattle.occ_target.specs.occ_base.declared.event.Event.{Event}
use Rattle.occ_target.specs.occ_base.declared.width.Width.{Width}
use Rattle.occ_target.specs.occ_base.declared.width.Width.TheVariants.{Bool as Truth, Word}
use Rattle.occ_target.specs.occ_base.Width.{bits_of}
use Rattle.occ_target.specs.occ_syntax.declared.scope.Kind.TheVariants.{Chan}
use Rattle.occ_target.specs.occ_syntax.Eval.{eval, is_true, one_if}
use Rattle.occ_target.specs.occ_syntax.Meaning.{After, Outcome, meaning}
use Rattle.occ_target.specs.occ_syntax.Scopes.{Environment, Trace, Values, channel_width, environment, has_width, with_value}
use Rattle.occ_target.specs.occ_syntax.Tree.{Exp, Tree, Waiting, Cases, ready, input, output, select, no_case, and_case}
use Rattle.occ_target.proofs.from_meaning.Facts.{value_at}
use Rattle.occ_target.proofs.from_meaning.Settled.{chosen_first, chosen_second, first_of, second_of}
use Rattle.occ_target.specs.occ_nform_table.Lines.{rank}
use Rattle.occ_target.specs.Rows.{is_input, part_at, variable_of}
use Rattle.occ_target.specs.States.{constant, is_at}
use Rattle.occ_target_laws.specs.Shapes.{Header, IsReceived, IsSent, Leads, event, numbered, place}

-- ---- constants and tests

pub constant_value : (Γ : Environment) (s : Values) (w : Width) (v : ℕ) → v < 2 ^ bits_of w → eval Γ (constant w v) s ≡ v
constant_value Γ s Truth zero h = refl
constant_value Γ s Truth (suc zero) h = refl
constant_value Γ s Truth (suc (suc v)) h = absurd (omega (arith, h))
constant_value Γ s (Word bits) v h = refl

pub one_if_is : (b : Bool) → (one_if b == 1) ≡ b
one_if_is true = refl
one_if_is false = refl

pub test_tells : (Γ : Environment) (s : Values) (x : ℕ) (w : Width) (v : ℕ) → v < 2 ^ bits_of w → is_true Γ (is_at x w v) s ≡ (s x == v)
test_tells Γ s x w v h = one_if_is (s x == eval Γ (constant w v) s) ∙ ap (λ n. s x == n) (constant_value Γ s w v h)

-- ---- numbered choices

-- the choice whose condition alone is true is taken
pub numbered_does : (Γ : Environment) (s : Values) (test : ℕ → Exp) (k : ℕ) (parts : List Tree) (m : ℕ) → m < length parts → is_true Γ (test (k + m)) s ≡ true
    → ((j : ℕ) → j < length parts → is_true Γ (test (k + j)) s ≡ true → j ≡ m) → (t : Trace) (o : Outcome)
    → ((meaning (select (numbered test k parts))).does Γ s t o → (meaning (part_at parts m)).does Γ s t o)
    × ((meaning (part_at parts m)).does Γ s t o → (meaning (select (numbered test k parts))).does Γ s t o)
numbered_does Γ s test k [] m l there only t o = absurd (omega (arith, l))
numbered_does Γ s test k (p ∷ parts) zero l there only t o =
    let here : is_true Γ (test k) s ≡ true = ap (λ n. is_true Γ (test n) s) (sym (add-zero k)) ∙ there in
    (first_of (is_true Γ (test k) s) _ _ here, chosen_first (is_true Γ (test k) s) _ _ here)
numbered_does Γ s test k (p ∷ parts) (suc m) l there only t o =
    let moved : (j : ℕ) → k + suc j ≡ k + 1 + j = λ j. omega arith in
    let rest = numbered_does Γ s test (k + 1) parts m (omega (arith, l)) (ap (λ n. is_true Γ (test n) s) (sym (moved m)) ∙ there)
    (λ j lt e. less (only (suc j) (omega (arith, lt)) (ap (λ n. is_true Γ (test n) s) (moved j) ∙ e))) t o in
    let here : is_true Γ (test k) s ≡ false = not_first (cases_Bool (is_true Γ (test k) s)) in
    (λ d. rest.0 (second_of (is_true Γ (test k) s) _ _ here d), λ d. chosen_second (is_true Γ (test k) s) _ _ here (rest.1 d))
  where
    less : {j : ℕ} → suc j ≡ suc m → j ≡ m
    less {j} e = omega (arith, e)

    not_first : (is_true Γ (test k) s ≡ true) ⊎ (is_true Γ (test k) s ≡ false) → is_true Γ (test k) s ≡ false
    not_first (inl e) = absurd (let z : 0 ≡ suc m = only zero (omega arith) (ap (λ n. is_true Γ (test n) s) (add-zero k) ∙ e) in omega (arith, z))
    not_first (inr e) = e

-- the choice of a value
chosen_value : (Γ : Environment) (s : Values) (x : ℕ) (w : Width) (parts : List Tree) (v : ℕ) → length parts ≡ 2 ^ bits_of w → v < 2 ^ bits_of w → s x ≡ v
    → (t : Trace) (o : Outcome)
    → ((meaning (select (numbered (is_at x w) 0 parts))).does Γ s t o → (meaning (part_at parts v)).does Γ s t o)
    × ((meaning (part_at parts v)).does Γ s t o → (meaning (select (numbered (is_at x w) 0 parts))).does Γ s t o)
chosen_value Γ s x w parts v count below is t o =
    numbered_does Γ s (is_at x w) 0 parts v (omega (arith, count, below))
    (ap (λ n. is_true Γ (is_at x w n) s) (omega arith) ∙ test_tells Γ s x w v below ∙ eq-eqb (s x) v is)
    (λ j l e. sym (eqb-true (s x) j (sym (test_tells Γ s x w j (omega (arith, l, count))) ∙ ap (λ n. is_true Γ (is_at x w n) s) (omega arith) ∙ e)) ∙ is) t o

case_clash : {e : Exp} {p : Tree} {cs : Cases} → no_case ≡ and_case e p cs → ⊥
case_clash h = cc

same_part : {e f : Exp} {p q : Tree} {cs ds : Cases} → and_case e p cs ≡ and_case f q ds → p ≡ q
same_part h = cc

same_rest : {e f : Exp} {p q : Tree} {cs ds : Cases} → and_case e p cs ≡ and_case f q ds → cs ≡ ds
same_rest h = cc

pub same_cases : {cs ds : Cases} → select cs ≡ select ds → cs ≡ ds
same_cases h = cc

pub numbered_parts : (f g : ℕ → Exp) (k : ℕ) (ps qs : List Tree) → numbered f k ps ≡ numbered g k qs → ps ≡ qs
numbered_parts f g k [] [] h = refl
numbered_parts f g k [] (q ∷ qs) h = absurd (case_clash h)
numbered_parts f g k (p ∷ ps) [] h = absurd (case_clash (sym h))
numbered_parts f g k (p ∷ ps) (q ∷ qs) h =
    let one : p ≡ q = same_part h in
    let rest = numbered_parts f g (k + 1) ps qs (same_rest h) in
    λ i. one i ∷ rest i

-- ---- guards

no_output : {c : ℕ} {z : Exp} → ready ≡ output c z → ⊥
no_output h = cc

no_input : {c x : ℕ} → ready ≡ input c x → ⊥
no_input h = cc

pub two_ways : {A : Type 0} {d : Dir} → d ≡ Output → d ≡ Input → A
two_ways h k = absurd (clash (sym h ∙ k))
  where
    clash : Output ≡ Input → ⊥
    clash e = cc

abbrev guard_of : Waiting × Tree → Waiting
guard_of b = b.0

abbrev behind : Waiting × Tree → Tree
behind b = b.1

pub unready : (h : Header) (b : Waiting × Tree) (e : Event) (q : Tree) → Leads h b e q → b.0 ≡ ready → ⊥
unready h b e q (inl k) r = no_output (sym r ∙ ap guard_of k.branch)
unready h b e q (inr k) r = no_input (sym r ∙ ap guard_of k.branch)

-- what follows an event of a branch is one process
pub one_lead : (h : Header) (b : Waiting × Tree) (e : Event) (p q : Tree) → Leads h b e p → Leads h b e q → p ≡ q
one_lead h b e p q (inl k) (inl j) = ap behind (sym k.branch ∙ j.branch)
one_lead h b e p q (inl k) (inr j) = two_ways k.dir j.dir
one_lead h b e p q (inr k) (inl j) = two_ways j.dir k.dir
one_lead h b e p q (inr k) (inr j) =
    let same : k.parts ≡ j.parts = numbered_parts _ _ 0 k.parts j.parts (same_cases (ap behind (sym k.branch ∙ j.branch))) in
    k.next ∙ ap (λ ps. part_at ps e.value) same ∙ sym j.next

-- the place of an event's branch: the inputs from a channel have that of the first of them
abbrev pub entry : Event → Event
entry e = record { chan = e.chan; dir = e.dir; value = if is_input e.dir then 0 else e.value }

pub leads_place : (h : Header) (b : Waiting × Tree) (e : Event) (q : Tree) → Leads h b e q → place h b ≡ rank h.params (entry e)
leads_place h b e q (inl k) =
    let value : eval (λ x. None) (constant k.width e.value) (λ x. 0) ≡ (if is_input e.dir then 0 else e.value) =
    constant_value (λ x. None) (λ x. 0) k.width e.value k.value ∙ sym (ap (λ d. if is_input d then 0 else e.value) k.dir) in
    ap (place h) k.branch ∙ (λ i. rank h.params (record { chan = e.chan; dir = sym k.dir i; value = value i }))
leads_place h b e q (inr k) =
    let value : 0 ≡ (if is_input e.dir then 0 else e.value) = sym (ap (λ d. if is_input d then 0 else e.value) k.dir) in
    ap (place h) k.branch ∙ (λ i. rank h.params (record { chan = e.chan; dir = sym k.dir i; value = value i }))

-- ---- the events of a branch

-- the environment has the channels of the header
abbrev pub HasChannels : Header → Environment → Type 0
HasChannels h Γ = (c : ℕ) (w : Width) (d : Option Dir) → environment h.params c ≡ Some (Chan w d) → channel_width Γ c ≡ Some w

module _ (h : Header) (Γ : Environment) (channels : HasChannels h Γ) where
  sent_event : (s : Values) (w : Width) (e : Event) → e.dir ≡ Output → e.value < 2 ^ bits_of w
      → record { chan = record { 0 = e.chan.0 }; dir = Output; value = eval Γ (constant w e.value) s } ≡ e
  sent_event s w e dir below = λ i. record { chan = e.chan; dir = sym dir i; value = constant_value Γ s w e.value below i }

  abbrev pub Onward : Waiting × Tree → Event → Values → Type 0
  Onward b e u = (q : Tree) × Leads h b e q × ((t : Trace) (o : Outcome) → (meaning b.1).does Γ u t o → (meaning q).does Γ u t o)

  after_sent : (b : Waiting × Tree) (f : Event) (p : Tree) → IsSent h b f p → (s : Values) (e : Event) (u : Values) → After Γ s b.0 e u → Onward b e u
  after_sent b f p k s e u after =
      let a : After Γ s (output f.chan.0 (constant k.width f.value)) e u = subst (λ (x : Waiting × Tree). After Γ s x.0 e u) k.branch after in
      let same : e ≡ f = a.0 ∙ sent_event s k.width f k.dir k.value in
      (p, inl (subst (λ (g : Event). IsSent h b g p) (sym same) k), λ t o d. subst (λ (x : Waiting × Tree). (meaning x.1).does Γ u t o) k.branch d)

  after_received : (b : Waiting × Tree) (f : Event) (p : Tree) → IsReceived h b f p → (s : Values) (e : Event) (u : Values) → After Γ s b.0 e u → Onward b e u
  after_received b f p k s e u after =
      let x : ℕ = variable_of h.inputs k.width in
      let a : After Γ s (input f.chan.0 x) e u = subst (λ (y : Waiting × Tree). After Γ s y.0 e u) k.branch after in
      let v : ℕ = a.0 in
      let below : v < 2 ^ bits_of k.width = ltb-true v (2 ^ bits_of k.width) (subst (λ o. has_width o v ≡ true) (channels f.chan.0 k.width (Some Input) k.channel) a.1) in
      let lead : IsReceived h b (event f.chan.0 Input v) (part_at k.parts v) =
      record { width = k.width; parts = k.parts; dir = refl; channel = k.channel; value = below; count = k.count; branch = k.branch; next = refl } in (
        part_at k.parts v,
        inr (subst (λ (g : Event). IsReceived h b g (part_at k.parts v)) (sym a.2) lead),
        λ t o d. (chosen_value Γ u x k.width k.parts v k.count below (ap (λ r. r x) a.3 ∙ value_at s x v) t o).0
            (subst (λ (y : Waiting × Tree). (meaning y.1).does Γ u t o) k.branch d),
      )

  -- what a branch comes to by an event
  pub after_lead : (b : Waiting × Tree) (f : Event) (p : Tree) → Leads h b f p → (s : Values) (e : Event) (u : Values) → After Γ s b.0 e u → Onward b e u
  after_lead b f p (inl k) s e u after = after_sent b f p k s e u after
  after_lead b f p (inr k) s e u after = after_received b f p k s e u after

  -- from each state the branch takes part in the event
  pub lead_after : (b : Waiting × Tree) (e : Event) (q : Tree) → Leads h b e q → (s : Values)
      → (u : Values) × After Γ s b.0 e u × ((t : Trace) (o : Outcome) → (meaning q).does Γ u t o → (meaning b.1).does Γ u t o)
  lead_after b e q (inl k) s = (
    s,
    subst (λ (x : Waiting × Tree). After Γ s x.0 e s) (sym k.branch) (sym (sent_event s k.width e k.dir k.value), refl),
    λ t o d. subst (λ (x : Waiting × Tree). (meaning x.1).does Γ s t o) (sym k.branch) d,
  )
  lead_after b e q (inr k) s =
      let x : ℕ = variable_of h.inputs k.width in
      let u : Values = with_value s x e.value in
      let is : e ≡ event e.chan.0 Input e.value = λ i. record { chan = e.chan; dir = k.dir i; value = e.value } in
      let fits : has_width (channel_width Γ e.chan.0) e.value ≡ true =
      subst (λ o. has_width o e.value ≡ true) (sym (channels e.chan.0 k.width (Some Input) k.channel)) (lt-ltb e.value (2 ^ bits_of k.width) k.value) in (
        u,
        subst (λ (y : Waiting × Tree). After Γ s y.0 e u) (sym k.branch) (e.value, fits, is, refl),
        λ t o d. subst (λ (y : Waiting × Tree). (meaning y.1).does Γ u t o) (sym k.branch)
            ((chosen_value Γ u x k.width k.parts e.value k.count k.value (value_at s x e.value) t o).1 (subst (λ (p : Tree). (meaning p).does Γ u t o) k.next d)),
      )
