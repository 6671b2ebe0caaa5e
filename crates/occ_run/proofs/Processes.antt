-- What stands at a number among the steps of a process that isn't begun.
use Rattle.std.proofs.Common.{◌≡◌, ◌==◌, ◌&&◌, ◌+◌, ◌-◌, ◌^◌, ◌<◌, ◌≤◌, ◌++◌, nat_le, nat_lt, ℕ, Bool, true, false, None, Some, Option, List, [], ◌∷◌, map, length, get_or, take, drop, if◌then◌else◌, refl, ap, sym, subst, ◌∙◌, slice_get, Result, IfOk, arith}
use Rattle.std.proofs.lemmas.List.{map-append}
use Rattle.std.proofs.lemmas.List.Elements.{filter-append}
use Rattle.std.proofs.lemmas.List.FromFn.{get_or-map-range_with_len, length-map-range_with_len}
use Rattle.std.proofs.lemmas.Option.{slice_get-get_or}
use Rattle.std.specs.List.{range_with_len}
use Rattle.std.proofs.lemmas.Bool.{and_parts}
use Rattle.std.proofs.lemmas.Bool.Decides.{nat_tests}
use Rattle.occ_syntax.specs.occ_base.declared.event.Event.{Event}
use Rattle.occ_run_steps.proofs.from_meaning.Facts.{at_itself, event_itself, same_events}
use Rattle.occ_syntax.specs.Scopes.{same_event}
use Rattle.occ_syntax.specs.occ_base.Width.{bits_of}
use Rattle.occ_syntax.specs.occ_base.declared.event.Dir.TheVariants.{Input}
use Rattle.occ_syntax.specs.occ_base.declared.names.Name.{Name}
use Rattle.occ_syntax.specs.occ_base.declared.width.Width.{Width}
use Rattle.occ_syntax.specs.Eval.{is_true}
use Rattle.occ_syntax.specs.Scopes.{Environment, Values}
use Rattle.occ_syntax.specs.Tree.{Exp, Tree, assign, declare}
use Rattle.occ_syntax.specs.Types.{branches_kept, is_condition, types_kept, waiting_kept}
use Rattle.occ_syntax.specs.View.{branches, exp, tree, waiting}
use Rattle.occ_syntax.specs.declared.expr.Guard.{Guard}
use Rattle.occ_syntax.specs.declared.expr.Wait.{Wait}
use Rattle.occ_syntax.specs.declared.proc.Proc.{Proc}
use Rattle.occ_run_steps.proofs.from_meaning.Facts.{and_four}
use Rattle.occ_run_steps.specs.Control.{Control, done, unbegun, local}
use Rattle.occ_run_steps.specs.Step.{Step, leaving, step}
use Rattle.occ_run_steps.specs.Steps.{assignments, branch_steps, guard_steps, process_steps, values_of}
use Rattle.occ_run.specs.declared.effect.Offer.{Offer}
use Rattle.occ_run.specs.declared.found.Found.{Found}
use Rattle.occ_run.specs.declared.found.Found.TheVariants.{Step as Here, Past}
use Rattle.occ_run.specs.Effects.{Effect, leaf, off_all}
use Rattle.occ_run.specs.Founds.{IsAt, IsOver, asked, asks, input_of, inputs, inputs_from, leaves}
use Rattle.occ_syntax.specs.occ_base.declared.memory.Memory.{Memory}
use Rattle.occ_run.proofs.Bodies.{on_ok}
use Rattle.occ_run.proofs.Fronts.{front_is}
use Rattle.occ_run.proofs.Lists.{map_after}
use Rattle.occ_run.proofs.Founds.{all_pass, at_behind, at_front, at_same, none_pass, same_channel}
use Rattle.occ_run.proofs.MeetingPairs.{and_true, one_from}

-- ---- numbers

-- the step of a number among those of the numbers in a row from another
get_number : {A : Type 0} (f : ℕ → A) (first size n : ℕ) → n < size → slice_get (map f (range_with_len first size)) n ≡ Some (f (first + n))
get_number f first size n h =
    let count = length-map-range_with_len f first size in
    slice_get-get_or (map f (range_with_len first size)) n (f 0) (omega (arith, h, count)) ∙ ap Some (get_or-map-range_with_len f first size n (first + n) (f 0) h refl)

-- the only step of a list, found elsewhere
one_is : (k : Step Effect) (ks : List (Step Effect)) (n : ℕ) → slice_get ks n ≡ Some k → (r : Found) → IsAt (k ∷ []) 0 r → IsAt ks n r
one_is k ks n e (Here x) h = e ∙ h
one_is k ks n e (Past m) h = absurd (omega (arith, h))

-- ---- one step

module _ (cs : List (Name × Width)) (o : Option Event) (n : ℕ) where
  one_asked : (k : Step Effect) (v : Option Event) (b : Bool) → k.event ≡ v → asks cs o v ≡ b → asked cs o (k ∷ []) ≡ (if b then k ∷ [] else [])
  one_asked k v b e h = ap (λ (c : Bool). if c then k ∷ [] else []) (ap (asks cs o) e ∙ h)

  pub one_missed : (k : Step Effect) (v : Option Event) → k.event ≡ v → asks cs o v ≡ false → length (asked cs o (k ∷ [])) + n ≡ n
  one_missed k v e h = let count = ap length (one_asked k v false e h) in omega (arith, count)

  pub one_behind : (k : Step Effect) (v : Option Event) → k.event ≡ v → asks cs o v ≡ true → 0 < n → length (asked cs o (k ∷ [])) + (n - 1) ≡ n
  one_behind k v e h some = let count = ap length (one_asked k v true e h) in omega (arith, count, some)

  pub one_first : (k : Step Effect) (v : Option Event) → k.event ≡ v → asks cs o v ≡ true → n ≡ 0 → slice_get (asked cs o (k ∷ [])) n ≡ Some k
  one_first k v e h z = ap (slice_get (asked cs o (k ∷ []))) z ∙ ap (λ ks. slice_get ks 0) (one_asked k v true e h)

  -- the number is behind the only step
  pub one_past : (k : Step Effect) (ks : List (Step Effect)) (r : Option ℕ) (more : ℕ) → ks ≡ k ∷ [] → r ≡ Some more → IsOver (asked cs o (k ∷ [])) n k r → IsAt (asked cs o ks) n (Past more)
  one_past k ks r more e f h =
      let P : Option ℕ → Type 0 = λ x. IsOver (asked cs o (k ∷ [])) n k x in
      at_same (asked cs o (k ∷ [])) (asked cs o ks) n (Past more) (ap (asked cs o) e) (subst P f h)

  -- or is its number
  pub one_here : (k l : Step Effect) (ks : List (Step Effect)) (v : Option ℕ) (r : Result Found Memory) → ks ≡ k ∷ [] → v ≡ None → l ≡ k → IsOver (asked cs o (k ∷ [])) n k v
      → IfOk r (IsAt (l ∷ []) 0) → IfOk r (IsAt (asked cs o ks) n)
  one_here k l ks v r e f same h found =
      let P : Option ℕ → Type 0 = λ x. IsOver (asked cs o (k ∷ [])) n k x in
      let there : slice_get (asked cs o (k ∷ [])) n ≡ Some k = subst P f h in
      on_ok r (one_is l (asked cs o ks) n (ap (λ xs. slice_get (asked cs o xs) n) e ∙ there ∙ ap Some (sym same))) found

-- ---- inputs

abbrev pub input_at : Name → ℕ → Event
input_at chan v = record { chan = chan; dir = Input; value = v }

module _ (cs : List (Name × Width)) (chan : Name) (x : ℕ) (D : Effect) (size : ℕ) where
  -- whether an input is hidden doesn't hang on its value
  hidden_at : (u v : ℕ) → off_all cs (Some (input_at chan u)) ≡ off_all cs (Some (input_at chan v))
  hidden_at u v = same_channel cs (input_at chan u) (input_at chan v) refl

  -- all are asked for, or none
  pub inputs_all : asks cs None (Some (input_at chan 0)) ≡ true → asked cs None (inputs chan x D size) ≡ inputs_from chan x D 0 size
  inputs_all h = all_pass (λ k. asks cs None k.event) (input_of chan x D) (λ v. hidden_at v 0 ∙ h) (range_with_len 0 size)

  pub inputs_none : asks cs None (Some (input_at chan 0)) ≡ false → asked cs None (inputs chan x D size) ≡ inputs_from chan x D 0 0
  inputs_none h = none_pass (λ k. asks cs None k.event) (input_of chan x D) (λ v. hidden_at v 0 ∙ h) (range_with_len 0 size)

  -- one event is asked for, and isn't an input of these
  missed : (e : Event) (v : ℕ) (b : Bool) → same_event e (input_at chan v) ≡ b → asks cs (Some e) (Some (input_at chan e.value)) ≡ false → b && off_all cs (Some (input_at chan v)) ≡ false
  missed e v true h off =
      let it : e ≡ input_at chan v = same_events e (input_at chan v) h in
      sym (ap (λ a. a && off_all cs (Some (input_at chan v))) (ap (λ f. same_event e f) (sym it) ∙ event_itself e))
      ∙ ap (λ u. same_event e (input_at chan u) && off_all cs (Some (input_at chan u))) (sym (ap (λ (f : Event). f.value) it)) ∙ off
  missed e v false h off = refl

  pub input_missed : (e : Event) → asks cs (Some e) (Some (input_at chan e.value)) ≡ false → asked cs (Some e) (inputs chan x D size) ≡ inputs_from chan x D 0 0
  input_missed e off = none_pass (λ k. asks cs (Some e) k.event) (input_of chan x D) (λ v. missed e v (same_event e (input_at chan v)) refl off) (range_with_len 0 size)

  -- it is an input on this channel
  at_value : (e : Event) → asks cs (Some e) (Some (input_at chan e.value)) ≡ true → (v : ℕ) → asks cs (Some e) (Some (input_at chan v)) ≡ (e.value == v)
  at_value e on v =
      let both = and_parts (same_event e (input_at chan e.value)) (off_all cs (Some (input_at chan e.value))) on in
      let it : e ≡ input_at chan e.value = same_events e (input_at chan e.value) both.0 in
      ap (λ (f : Event). same_event f (input_at chan v) && off_all cs (Some (input_at chan v))) it
      ∙ ap (λ (b : Bool). ((b && true) && (e.value == v)) && off_all cs (Some (input_at chan v))) (at_itself chan.0)
      ∙ ap (λ (b : Bool). (e.value == v) && b) (hidden_at v e.value ∙ both.1) ∙ and_true (e.value == v)

  pub input_asked : (e : Event) → asks cs (Some e) (Some (input_at chan e.value)) ≡ true → e.value < size → asked cs (Some e) (inputs chan x D size) ≡ inputs_from chan x D e.value 1
  input_asked e on h =
      let below : nat_le 0 e.value && nat_lt e.value (0 + size) ≡ true = grind (arith, nat_tests) in
      one_from e.value (λ k. asks cs (Some e) k.event) (input_of chan x D) (at_value e on) 0 size ∙ ap (λ (b : Bool). if b then input_of chan x D e.value ∷ [] else []) below

  pub input_above : (e : Event) → asks cs (Some e) (Some (input_at chan e.value)) ≡ true → size ≤ e.value → asked cs (Some e) (inputs chan x D size) ≡ inputs_from chan x D 0 0
  input_above e on h =
      let above : nat_le 0 e.value && nat_lt e.value (0 + size) ≡ false = grind (arith, nat_tests) in
      one_from e.value (λ k. asks cs (Some e) k.event) (input_of chan x D) (at_value e on) 0 size ∙ ap (λ (b : Bool). if b then input_of chan x D e.value ∷ [] else []) above

-- what stands among inputs of which those are asked for
module _ (cs : List (Name × Width)) (o : Option Event) (chan : Name) (x : ℕ) (D : Effect) (size first count n : ℕ)
    (those : asked cs o (inputs chan x D size) ≡ inputs_from chan x D first count) where
  pub inputs_past : count ≤ n → IsAt (asked cs o (inputs chan x D size)) n (Past (n - count))
  inputs_past h =
      let numbers = length-map-range_with_len (input_of chan x D) first count in
      let past : length (inputs_from chan x D first count) + (n - count) ≡ n = omega (arith, h, numbers) in
      at_same (inputs_from chan x D first count) (asked cs o (inputs chan x D size)) n (Past (n - count)) those past

  pub input_here : n < count → (es : List (ℕ × ℕ)) → es ≡ (x, first + n) ∷ [] → (r : Result Found Memory)
      → IfOk r (IsAt (step (Some (input_at chan (first + n))) es D ∷ []) 0) → IfOk r (IsAt (asked cs o (inputs chan x D size)) n)
  input_here h es g r k =
      let f : ℕ → Step Effect = input_of chan x D in
      let one : Step Effect = step (Some (input_at chan (first + n))) es D in
      let same : f (first + n) ≡ one = ap (λ xs. step (Some (input_at chan (first + n))) xs D) (sym g) in
      let at : slice_get (asked cs o (inputs chan x D size)) n ≡ Some one = ap (λ ks. slice_get ks n) those ∙ get_number f first count n h ∙ ap Some same in
      on_ok r (one_is one (asked cs o (inputs chan x D size)) n at) k

-- the inputs of a guard are those of the values of its channel
pub inputs_found : (cs : List (Name × Width)) (o : Option Event) (chan : Name) (x : ℕ) (v : Option Width) (w : Width) (size n : ℕ) (p : Tree) (C : Control) (r : Result Found Memory)
    → v ≡ Some w → size ≡ 2 ^ bits_of w → C ≡ unbegun p → IfOk r (IsAt (asked cs o (inputs chan x (leaf C) size)) n)
    → IfOk r (IsAt (asked cs o (leaves (map (λ u. step (Some (input_at chan u)) ((x, u) ∷ []) (unbegun p)) (values_of v)))) n)
inputs_found cs o chan x v w size n p C r e f g h =
    let F : ℕ → Step Control = λ u. step (Some (input_at chan u)) ((x, u) ∷ []) (unbegun p) in
    let G : ℕ → Step Effect = input_of chan x (leaf (unbegun p)) in
    let same : leaves (map F (values_of v)) ≡ inputs chan x (leaf C) size =
    ap (λ q. leaves (map F (values_of q))) e ∙ map_after (leaving leaf) F G (λ u. refl) (range_with_len 0 (2 ^ bits_of w))
    ∙ ap (inputs chan x (leaf (unbegun p))) (sym f) ∙ ap (λ E. inputs chan x (leaf E) size) (sym g) in
    on_ok r (λ found k. at_same (asked cs o (inputs chan x (leaf C) size)) (asked cs o (leaves (map F (values_of v)))) n found (ap (asked cs o) same) k) h

-- ---- the steps by which a variable begins, which aren't seen

module _ (cs : List (Name × Width)) (o : Option Event) (f : ℕ → Step Control) (unseen : (v : ℕ) → (f v).event ≡ None) (size count n : ℕ) (e : size ≡ count) where
  abbrev values : List (Step Effect)
  values = leaves (map f (range_with_len 0 count))

  values_are : values ≡ map (λ v. leaving leaf (f v)) (range_with_len 0 count)
  values_are = map_after (leaving leaf) f (λ v. leaving leaf (f v)) (λ v. refl) (range_with_len 0 count)

  pub values_missed : asks cs o None ≡ false → IsAt (asked cs o values) n (Past n)
  values_missed h =
      let none : 0 + n ≡ n = omega arith in
      at_same [] (asked cs o values) n (Past n)
      (ap (asked cs o) values_are ∙ none_pass (λ k. asks cs o k.event) (λ v. leaving leaf (f v)) (λ v. ap (asks cs o) (unseen v) ∙ h) (range_with_len 0 count)) none

  values_asked : asks cs o None ≡ true → asked cs o values ≡ map (λ v. leaving leaf (f v)) (range_with_len 0 count)
  values_asked h = ap (asked cs o) values_are ∙ all_pass (λ k. asks cs o k.event) (λ v. leaving leaf (f v)) (λ v. ap (asks cs o) (unseen v) ∙ h) (range_with_len 0 count)

  pub values_past : asks cs o None ≡ true → size ≤ n → IsAt (asked cs o values) n (Past (n - size))
  values_past h past =
      let numbers = ap length (values_asked h) ∙ length-map-range_with_len (λ v. leaving leaf (f v)) 0 count in
      omega (arith, e, past, numbers)

  pub value_here : (k : Step Effect) (r : Result Found Memory) → asks cs o None ≡ true → n < size → k ≡ leaving leaf (f n) → IfOk r (IsAt (k ∷ []) 0) → IfOk r (IsAt (asked cs o values) n)
  value_here k r h below g found =
      let there : n < count = omega (arith, e, below) in
      let number : 0 + n ≡ n = omega arith in
      let at : slice_get (asked cs o values) n ≡ Some k =
      ap (λ ks. slice_get ks n) (values_asked h) ∙ get_number (λ v. leaving leaf (f v)) 0 count n there ∙ ap (λ v. Some (leaving leaf (f v))) number ∙ ap Some (sym g) in
      on_ok r (one_is k (asked cs o values) n at) found

-- ---- guards in turn

module _ (Γ : Environment) (s : Values) (cs : List (Name × Width)) (o : Option Event) (bs : List (Guard × Proc)) (d : Guard × Proc) (some : 0 < length bs) (is : d ≡ get_or bs 0 d) (n : ℕ) where
  abbrev those_of : List (Guard × Proc) → List (Step Effect)
  those_of cases = asked cs o (leaves (branch_steps Γ s (branches cases)))

  -- the steps of the first guard, and then of the others
  guard_in_front : is_true Γ (exp d.0.condition) s ≡ true
      → those_of bs ≡ asked cs o (leaves (guard_steps Γ s (waiting d.0.wait) (tree d.1))) ++ those_of (take (length bs - 1) (drop 1 bs))
  guard_in_front t =
      let p : Step Effect → Bool = λ k. asks cs o k.event in
      let ks = guard_steps Γ s (waiting d.0.wait) (tree d.1) in
      let ls = branch_steps Γ s (branches (take (length bs - 1) (drop 1 bs))) in
      ap those_of (front_is bs d some is) ∙ ap (λ (b : Bool). asked cs o (leaves ((if b then ks else []) ++ ls))) t
      ∙ ap (asked cs o) (map-append (leaving leaf) ks ls) ∙ filter-append p (leaves ks) (leaves ls)

  module _ (w : Wait) (q : Proc) (same : w ≡ d.0.wait) (part : q ≡ d.1) where
    abbrev steps_of : List (Step Effect)
    steps_of = asked cs o (leaves (guard_steps Γ s (waiting w) (tree q)))

    seen_in_front : is_true Γ (exp d.0.condition) s ≡ true → those_of bs ≡ steps_of ++ those_of (take (length bs - 1) (drop 1 bs))
    seen_in_front t =
        let ls = those_of (take (length bs - 1) (drop 1 bs)) in
        guard_in_front t ∙ sym (ap (λ v. asked cs o (leaves (guard_steps Γ s (waiting v) (tree q))) ++ ls) same
        ∙ ap (λ p. asked cs o (leaves (guard_steps Γ s (waiting d.0.wait) (tree p))) ++ ls) part)

    -- a step of the first guard
    pub branch_here : is_true Γ (exp d.0.condition) s ≡ true → (r : Found) (x : Offer) → r ≡ Here x → IsAt steps_of n r → IsAt (those_of bs) n (Here x)
    branch_here t r x e h =
        let ls = those_of (take (length bs - 1) (drop 1 bs)) in
        let P : Found → Type 0 = λ f. IsAt steps_of n f in
        at_same (steps_of ++ ls) (those_of bs) n (Here x) (seen_in_front t) (at_front steps_of ls n x (subst P e h))

    -- past its steps stand those of the others
    pub branch_behind : is_true Γ (exp d.0.condition) s ≡ true → (f : Found) (m : ℕ) → f ≡ Past m → IsAt steps_of n f → (r : Found)
        → IsAt (those_of (take (length bs - 1) (drop 1 bs))) m r → IsAt (those_of bs) n r
    branch_behind t f m e h r k =
        let ls = those_of (take (length bs - 1) (drop 1 bs)) in
        let P : Found → Type 0 = λ g. IsAt steps_of n g in
        at_same (steps_of ++ ls) (those_of bs) n r (seen_in_front t) (at_behind steps_of ls n m (subst P e h) r k)

  -- where its condition is false, it has none
  pub branch_over : is_true Γ (exp d.0.condition) s ≡ false → (r : Found) → IsAt (those_of (take (length bs - 1) (drop 1 bs))) n r → IsAt (those_of bs) n r
  branch_over f r h =
      let ks = guard_steps Γ s (waiting d.0.wait) (tree d.1) in
      let ls = branch_steps Γ s (branches (take (length bs - 1) (drop 1 bs))) in
      at_same (those_of (take (length bs - 1) (drop 1 bs))) (those_of bs) n r (ap those_of (front_is bs d some is) ∙ ap (λ (b : Bool). asked cs o (leaves ((if b then ks else []) ++ ls))) f) h

-- the other guards are typed
pub others_kept : (Γ : Environment) (bs : List (Guard × Proc)) (d : Guard × Proc) → 0 < length bs → d ≡ get_or bs 0 d → branches_kept (branches bs) Γ ≡ true
    → branches_kept (branches (take (length bs - 1) (drop 1 bs))) Γ ≡ true
others_kept Γ bs d some is h =
    (and_four (is_condition Γ (exp d.0.condition)) (waiting_kept Γ (waiting d.0.wait)) (types_kept (tree d.1) Γ) (branches_kept (branches (take (length bs - 1) (drop 1 bs))) Γ)
    (sym (ap (λ cases. branches_kept (branches cases) Γ) (front_is bs d some is)) ∙ h)).3

-- ---- a process

module _ (Γ : Environment) (s : Values) (cs : List (Name × Width)) (o : Option Event) (p : Tree) (n : ℕ) where
  -- the steps by which the variable of a VAR begins
  pub begins_found : (x : ℕ) (w : Width) (q t : Tree) (r : Result Found Memory) → p ≡ declare x w q → t ≡ q
      → IfOk r (IsAt (asked cs o (leaves (map (λ v. step None [] (local x w v (unbegun t))) (values_of (Some w))))) n) → IfOk r (IsAt (asked cs o (leaves (process_steps Γ s p))) n)
  begins_found x w q t r e g h =
      let P : Tree → Type 0 = λ u. IfOk r (IsAt (asked cs o (leaves (process_steps Γ s u))) n) in
      subst P (sym (e ∙ ap (declare x w) (sym g))) h

  -- the one of an assignment, or a number behind it
  assigned : (xs : List ℕ) (es : List Exp) → p ≡ assign xs es → leaves (process_steps Γ s p) ≡ step None (assignments Γ s xs es) (leaf done) ∷ []
  assigned xs es e = ap (λ u. leaves (process_steps Γ s u)) e

  module _ (over : Option ℕ) (is_over : (k : Step Effect) → k.event ≡ None → IsOver (asked cs o (k ∷ [])) n k over) (xs : List ℕ) (es : List Exp) (e : p ≡ assign xs es) where
    pub assign_past : (more : ℕ) → over ≡ Some more → IsAt (asked cs o (leaves (process_steps Γ s p))) n (Past more)
    assign_past more f =
        let k : Step Effect = step None (assignments Γ s xs es) (leaf done) in
        one_past cs o n k (leaves (process_steps Γ s p)) over more (assigned xs es e) f (is_over k refl)

    pub assign_here : (changes : List (ℕ × ℕ)) (r : Result Found Memory) → over ≡ None → changes ≡ assignments Γ s xs es
        → IfOk r (IsAt (step None changes (leaf done) ∷ []) 0) → IfOk r (IsAt (asked cs o (leaves (process_steps Γ s p))) n)
    assign_here changes r f g h =
        let k : Step Effect = step None (assignments Γ s xs es) (leaf done) in
        one_here cs o n k (step None changes (leaf done)) (leaves (process_steps Γ s p)) over r (assigned xs es e) f (ap (λ ds. step None ds (leaf done)) g) (is_over k refl) h
