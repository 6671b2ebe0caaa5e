-- What each step of a control tree that keeps the rules keeps: it leaves no more than the tree, which keeps the rules too,
-- it changes written variables alone, to values of their widths, and it shows an event in scope; an output changes nothing.
use Rattle.occ_meaning.specs.occ_base.Event.{counterpart, other_direction}
use Rattle.occ_meaning.specs.occ_base.declared.event.Dir.{Dir}
use Rattle.occ_meaning.specs.occ_base.declared.event.Dir.TheVariants.{Input, Output}
use Rattle.occ_meaning.specs.occ_base.declared.event.Event.{Event}
use Rattle.occ_meaning.specs.occ_base.declared.width.Width.{Width}
use Rattle.occ_meaning.specs.occ_base.Width.{bits_of}
use Rattle.occ_meaning.proofs.Facts.{and_four, at_itself, clash, false_not_true, if_true, name_at, name_off, none_not_some, same_events, some_is, value_off}
use Rattle.occ_meaning.proofs.Frame.{not_and, some_written_in_scope, still_no_variable, no_variable_at, written_in_scope}
use Rattle.occ_meaning.proofs.States.{assigned_state, connected_state, declared_state, fresh_name, unconnected_state, undeclared_state, value_state}
use Rattle.occ_meaning.proofs.Typing.{eval_below, input_types, output_types}
use Rattle.occ_run_steps.proofs.Changes.{changed_at, changed_off}
use Rattle.occ_run_steps.proofs.KeptSettled.{done_kept, first_kept, kept_after, kept_and, kept_channel, kept_local, rest_kept}
use Rattle.occ_run_steps.proofs.Less.{Less, apart_less, done_less, less_after, less_both, less_channel, less_itself, less_local, less_through}
use Rattle.occ_run_steps.proofs.Lists.{Is, Meeting, filtered_is, first, is_either, is_left, is_mapped, is_right, later, mapped_is, meeting_is, range_is}
use Rattle.occ_run_steps.specs.Control.{Control, Controls, after, and_control, both, channel, done, local, no_control, unbegun}
use Rattle.occ_run_steps.specs.Kept.{Kept, all_types_held, some_write, types_held, writes}
use Rattle.occ_run_steps.specs.Step.{Step, answers, changed, changes_but, is_off, leaving, meetings, off, step}
use Rattle.occ_run_steps.specs.Steps.{alone_steps, assignments, branch_steps, guard_steps, pair_steps, process_steps, steps, steps_with, values_of, within}
use Rattle.occ_meaning.specs.occ_syntax.Eval.{eval, is_true}
use Rattle.occ_meaning.specs.occ_syntax.Meaning.{assigned}
use Rattle.occ_meaning.specs.occ_syntax.Names.{free, free_in_branches, free_in_waiting, end_in_branches, end_in_waiting, is_in, names, uses_end, written, written_in_branches, written_in_some, written_in_waiting}
use Rattle.occ_meaning.specs.occ_syntax.Scopes.{Environment, IsState, Values, channel_kind, channel_width, has_width, in_scope, variable_kind, variable_width, with_name, with_value}
use Rattle.occ_meaning.specs.occ_syntax.Tree.{Branches, Exp, Tree, Trees, Waiting, alt, and_branch, assign, connect, declare, input, no_branch, output, par, ready, receive, select, send, seq, skip, stop}
use Rattle.occ_meaning.specs.occ_syntax.Types.{all_types_kept, branches_kept, can_declare, input_kept, is_condition, is_pair, output_kept, pairs_kept, types_kept, waiting_kept}
use Rattle.occ_meaning.specs.occ_syntax.declared.scope.Kind.{Kind}
use Rattle.occ_meaning.specs.occ_syntax.declared.scope.Kind.TheVariants.{Chan, Var}
use Rattle.std.proofs.Common.{Bool, List, None, Option, Some, [], ap, append-nil, arith, false, if◌then◌else◌, inl, inr, map, nat_lt, not, refl, subst, sym, true, ℕ, ◌&&◌, ◌++◌, ◌<◌, ◌==◌, ◌^◌, ◌||◌, ◌∙◌, ◌∷◌, ◌≡◌, ◌⊎◌}
use Rattle.std.proofs.lemmas.Bool.{and_from, and_parts, false_from_ne_true, lt-ltb, ltb-true, not-true, not_from_false, or_from, or_left, or_right}
use Rattle.std.proofs.lemmas.Bool.Decides.{eqb_tells}
use Rattle.std.specs.List.{filter}
use mathlib.Core.Path.{fun_ext}

-- each changed variable is one of these
abbrev pub ChangesOnly : (ℕ → Bool) → List (ℕ × ℕ) → Type 0
ChangesOnly P [] = Unit {0}
ChangesOnly P (c ∷ cs) = (P c.0 ≡ true) × ChangesOnly P cs

only_more : (P Q : ℕ → Bool) (cs : List (ℕ × ℕ)) → ((x : ℕ) → P x ≡ true → Q x ≡ true) → ChangesOnly P cs → ChangesOnly Q cs
only_more P Q [] imp h = tt
only_more P Q (c ∷ cs) imp h = (imp c.0 h.0, only_more P Q cs imp h.1)

only_joined : (P : ℕ → Bool) (cs ds : List (ℕ × ℕ)) → ChangesOnly P cs → ChangesOnly P ds → ChangesOnly P (cs ++ ds)
only_joined P [] ds h k = k
only_joined P (c ∷ cs) ds h k = (h.0, only_joined P cs ds h.1 k)

only_but : (P : ℕ → Bool) (x : ℕ) (cs : List (ℕ × ℕ)) → ChangesOnly P cs → ChangesOnly (λ y. not (y == x) && P y) (changes_but x cs)
only_but P x [] h = tt
only_but P x (c ∷ cs) h = by_name (c.0 == x) refl (only_but P x cs h.1)
  where
    by_name : (b : Bool) → (c.0 == x) ≡ b → ChangesOnly (λ y. not (y == x) && P y) (changes_but x cs)
        → ChangesOnly (λ y. not (y == x) && P y) (if not b then c ∷ changes_but x cs else changes_but x cs)
    by_name true e k = k
    by_name false e k = (and_from (not (c.0 == x)) (P c.0) (ap not e) h.0, k)

-- ---- what a step keeps

-- what a step leaves names no more and keeps the rules; it changes written variables to values of their widths; its event is in scope; an output changes nothing
pub record StepKeeps (Γ : Environment) (s : Values) (C : Control) (v : Option Event) (cs : List (ℕ × ℕ)) (D : Control) : Type 0 where
  pub less : Less D C
  pub kept : Kept Γ D
  pub only : ChangesOnly (writes C) cs
  pub state : IsState Γ (changed cs s)
  pub scope : (e : Event) → v ≡ Some e → in_scope Γ e ≡ true
  pub unchanged : (e : Event) → v ≡ Some e → e.dir ≡ Output → cs ≡ []

-- a step of a part of a tree keeps what a step of the tree keeps
pub keeps_more : (Γ : Environment) (s : Values) (B C : Control) (v : Option Event) (cs : List (ℕ × ℕ)) (D : Control) → Less B C
    → StepKeeps Γ s B v cs D → StepKeeps Γ s C v cs D
keeps_more Γ s B C v cs D h k = record {
  less = less_through D B C k.less h;
  kept = k.kept;
  only = only_more (writes B) (writes C) cs h.writing k.only;
  state = k.state;
  scope = k.scope;
  unchanged = k.unchanged;
}

-- ---- processes

-- the changes of an assignment make its values
pub assigned_is : (Γ : Environment) (s : Values) (xs : List ℕ) (es : List Exp) → changed (assignments Γ s xs es) s ≡ assigned xs es Γ s
assigned_is Γ s [] es = refl
assigned_is Γ s (x ∷ xs) [] = refl
assigned_is Γ s (x ∷ xs) (e ∷ es) = ap (λ r. with_value r x (eval Γ e s)) (assigned_is Γ s xs es)

assigned_only : (Γ : Environment) (s : Values) (xs : List ℕ) (es : List Exp) → ChangesOnly (is_in xs) (assignments Γ s xs es)
assigned_only Γ s [] es = tt
assigned_only Γ s (x ∷ xs) [] = tt
assigned_only Γ s (x ∷ xs) (e ∷ es) =
    (or_left (x == x) (is_in xs x) (at_itself x), only_more (is_in xs) (is_in (x ∷ xs)) (assignments Γ s xs es) (λ y h. or_right (y == x) (is_in xs y) h) (assigned_only Γ s xs es))

assign_keeps : (Γ : Environment) (s : Values) (xs : List ℕ) (es : List Exp) → types_kept (assign xs es) Γ ≡ true → IsState Γ s
    → StepKeeps Γ s (unbegun (assign xs es)) None (assignments Γ s xs es) done
assign_keeps Γ s xs es t state = record {
  less = done_less (unbegun (assign xs es));
  kept = done_kept Γ;
  only = assigned_only Γ s xs es;
  state = let P : Values → Type 0 = λ r. IsState Γ r in subst P (sym (assigned_is Γ s xs es)) (assigned_state Γ s state xs es (and_parts (is_pair xs) (pairs_kept Γ xs es) t).1);
  scope = λ e i. none_not_some i;
  unchanged = λ e i. none_not_some i;
}

part_less : (e : Exp) (w : Waiting) (p : Tree) (bs : Branches) → Less (unbegun p) (unbegun (alt (and_branch e w p bs)))
part_less e w p bs = record {
  names = λ x i. or_left ((names e x || free_in_waiting w x) || free p x) (free_in_branches bs x) (or_right (names e x || free_in_waiting w x) (free p x) i);
  writing = λ x i. or_left (written_in_waiting w x || written p x) (written_in_branches bs x) (or_right (written_in_waiting w x) (written p x) i);
  using = λ c d i. or_left (end_in_waiting w c d || uses_end p c d) (end_in_branches bs c d) (or_right (end_in_waiting w c d) (uses_end p c d) i);
}

rest_less : (e : Exp) (w : Waiting) (p : Tree) (bs : Branches) → Less (unbegun (alt bs)) (unbegun (alt (and_branch e w p bs)))
rest_less e w p bs = record {
  names = λ x i. or_right ((names e x || free_in_waiting w x) || free p x) (free_in_branches bs x) i;
  writing = λ x i. or_right (written_in_waiting w x || written p x) (written_in_branches bs x) i;
  using = λ c d i. or_right (end_in_waiting w c d || uses_end p c d) (end_in_branches bs c d) i;
}

-- each value of the list has the width
pub has_value : (o : Option Width) (v : ℕ) → Is v (values_of o) → has_width o v ≡ true
has_value (Some w) v i = lt-ltb v (2 ^ bits_of w) (let h = range_is 0 (2 ^ bits_of w) v i in omega arith)
has_value None v i = elim i [ ]

abbrev KeepsAt : Environment → Values → Control → Step Control → Type 0
KeepsAt Γ s C k = StepKeeps Γ s C k.event k.changes k.next

in_width : (o : Option Width) (w : Width) (v : ℕ) → o ≡ Some w → v < 2 ^ bits_of w → has_width o v ≡ true
in_width o w v e lt = let P : Option Width → Type 0 = λ z. has_width z v ≡ true in subst P (sym e) (lt-ltb v (2 ^ bits_of w) lt)

-- a value of the width is below its bound
pub width_in : (o : Option Width) (w : Width) (v : ℕ) → o ≡ Some w → has_width o v ≡ true → v < 2 ^ bits_of w
width_in o w v e h = let P : Option Width → Type 0 = λ z. has_width z v ≡ true in ltb-true v (2 ^ bits_of w) (subst P e h)

input_not_output : {B : Type 0} → Input ≡ Output → B
input_not_output h = absurd (cc)

output_keeps : (Γ : Environment) (s : Values) (b : Exp) (c : ℕ) (z : Exp) (p : Tree) (bs : Branches) → IsState Γ s → output_kept Γ c z ≡ true → Kept Γ (unbegun p)
    → StepKeeps Γ s (unbegun (alt (and_branch b (output c z) p bs))) (Some (record { chan = record { 0 = c }; dir = Output; value = eval Γ z s })) [] (unbegun p)
output_keeps Γ s b c z p bs state t kept = record {
  less = part_less b (output c z) p bs;
  kept = kept;
  only = tt;
  state = state;
  scope = λ e i.
      let j = output_types Γ c z t in
      let P : Event → Type 0 = λ f. in_scope Γ f ≡ true in
      subst P (some_is i) (in_width (channel_width Γ c) j.1.0 (eval Γ z s) j.1.1 (eval_below Γ s state z j.1.0 j.1.2));
  unchanged = λ e i d. refl;
}

input_keeps : (Γ : Environment) (s : Values) (b : Exp) (c x v : ℕ) (p : Tree) (bs : Branches) → IsState Γ s → input_kept Γ c x ≡ true → Kept Γ (unbegun p)
    → has_width (channel_width Γ c) v ≡ true
    → StepKeeps Γ s (unbegun (alt (and_branch b (input c x) p bs))) (Some (record { chan = record { 0 = c }; dir = Input; value = v })) ((x, v) ∷ []) (unbegun p)
input_keeps Γ s b c x v p bs state t kept fits = record {
  less = part_less b (input c x) p bs;
  kept = kept;
  only = (or_left ((x == x) || written p x) (written_in_branches bs x) (or_left (x == x) (written p x) (at_itself x)), tt);
  state = value_state Γ s x v state (λ w h.
      let j = input_types Γ c x t in
      width_in (channel_width Γ c) w v (j.1.1 ∙ (sym j.1.2 ∙ h)) fits);
  scope = λ e i. let P : Event → Type 0 = λ f. in_scope Γ f ≡ true in subst P (some_is i) fits;
  unchanged = λ e i d. input_not_output (ap (λ f. f.dir) (some_is i) ∙ d);
}

guard_keeps : (Γ : Environment) (s : Values) (b : Exp) (w : Waiting) (p : Tree) (bs : Branches) → IsState Γ s → waiting_kept Γ w ≡ true → Kept Γ (unbegun p)
    → (k : Step Control) → Is k (guard_steps Γ s w p) → KeepsAt Γ s (unbegun (alt (and_branch b w p bs))) k
guard_keeps Γ s b ready p bs state t kept k first = record {
  less = part_less b ready p bs;
  kept = kept;
  only = tt;
  state = state;
  scope = λ e i. none_not_some i;
  unchanged = λ e i d. refl;
}
guard_keeps Γ s b ready p bs state t kept k (later i) = elim i [ ]
guard_keeps Γ s b (output c z) p bs state t kept k first = output_keeps Γ s b c z p bs state t kept
guard_keeps Γ s b (output c z) p bs state t kept k (later i) = elim i [ ]
guard_keeps Γ s b (input c x) p bs state t kept k i =
    let F : ℕ → Step Control = λ v. step (Some (record { chan = record { 0 = c }; dir = Input; value = v })) ((x, v) ∷ []) (unbegun p) in
    let m = mapped_is F k (values_of (channel_width Γ c)) i in
    let P : Step Control → Type 0 = λ j. KeepsAt Γ s (unbegun (alt (and_branch b (input c x) p bs))) j in
    subst P (sym m.2) (input_keeps Γ s b c x m.0 p bs state t kept (has_value (channel_width Γ c) m.0 m.1))

enabled : (b : Bool) (ks : List (Step Control)) (k : Step Control) → Is k (if b then ks else []) → Is k ks
enabled true ks k i = i
enabled false ks k i = elim i [ ]

branches_keep : (Γ : Environment) (s : Values) (bs : Branches) → IsState Γ s → Kept Γ (unbegun (alt bs)) → (k : Step Control) → Is k (branch_steps Γ s bs)
    → KeepsAt Γ s (unbegun (alt bs)) k
branches_keep Γ s no_branch state kept k i = elim i [ ]
branches_keep Γ s (and_branch e w p bs) state kept k i =
    let j = and_four (is_condition Γ e) (waiting_kept Γ w) (types_kept p Γ) (branches_kept bs Γ) kept.types in
    elim (is_either k (if is_true Γ e s then guard_steps Γ s w p else []) (branch_steps Γ s bs) i) [
      | inl h ↦ guard_keeps Γ s e w p bs state j.1 (record { types = j.2; usage = kept.usage.0 }) k (enabled (is_true Γ e s) (guard_steps Γ s w p) k h)
      | inr h ↦ keeps_more Γ s (unbegun (alt bs)) (unbegun (alt (and_branch e w p bs))) k.event k.changes k.next (rest_less e w p bs)
          (branches_keep Γ s bs state (record { types = j.3; usage = kept.usage.1 }) k h)
    ]

begin_keeps : (Γ : Environment) (s : Values) (x : ℕ) (w : Width) (v : ℕ) (p : Tree) → IsState Γ s → Kept Γ (unbegun (declare x w p)) → v < 2 ^ bits_of w
    → StepKeeps Γ s (unbegun (declare x w p)) None [] (local x w v (unbegun p))
begin_keeps Γ s x w v p state kept lt =
    let j = and_parts (can_declare Γ x w) (types_kept p (with_name Γ x (Var w))) kept.types in
    record {
      less = record { names = λ y h. h; writing = λ y h. h; using = λ c d h. h };
      kept = kept_local Γ x w v (unbegun p) (and_from (can_declare Γ x w) (nat_lt v (2 ^ bits_of w)) j.0 (lt-ltb v (2 ^ bits_of w) lt)) (record { types = j.1; usage = kept.usage });
      only = tt;
      state = state;
      scope = λ e i. none_not_some i;
      unchanged = λ e i d. refl;
    }

process_keeps : (Γ : Environment) (s : Values) (p : Tree) → Kept Γ (unbegun p) → IsState Γ s → (k : Step Control) → Is k (process_steps Γ s p)
    → KeepsAt Γ s (unbegun p) k
process_keeps Γ s skip kept state k i = elim i [ ]
process_keeps Γ s stop kept state k i = elim i [ ]
process_keeps Γ s (assign xs es) kept state k first = assign_keeps Γ s xs es kept.types state
process_keeps Γ s (assign xs es) kept state k (later i) = elim i [ ]
process_keeps Γ s (receive c x) kept state k i = elim i [ ]
process_keeps Γ s (send c e) kept state k i = elim i [ ]
process_keeps Γ s (seq ps) kept state k i = elim i [ ]
process_keeps Γ s (par ps) kept state k i = elim i [ ]
process_keeps Γ s (select cs) kept state k i = elim i [ ]
process_keeps Γ s (alt bs) kept state k i = branches_keep Γ s bs state kept k i
process_keeps Γ s (declare x w p) kept state k i =
    let F : ℕ → Step Control = λ v. step None [] (local x w v (unbegun p)) in
    let m = mapped_is F k (values_of (Some w)) i in
    let P : Step Control → Type 0 = λ j. KeepsAt Γ s (unbegun (declare x w p)) j in
    subst P (sym m.2) (begin_keeps Γ s x w m.0 p state kept (width_in (Some w) w m.0 refl (has_value (Some w) m.0 m.1)))
process_keeps Γ s (connect c w p) kept state k i = elim i [ ]

-- ---- one operator at a time

after_keeps : (Γ : Environment) (s : Values) (C : Control) (ps : Trees) (v : Option Event) (cs : List (ℕ × ℕ)) (D : Control) → Kept Γ (after C ps)
    → StepKeeps Γ s C v cs D → StepKeeps Γ s (after C ps) v cs (after D ps)
after_keeps Γ s C ps v cs D kept k = record {
  less = less_after D C ps k.less;
  kept = kept_after Γ D ps k.kept (and_parts (types_held C Γ) (all_types_kept ps Γ) kept.types).1 kept.usage.1;
  only = only_more (writes C) (writes (after C ps)) cs (λ x h. or_left (writes C x) (written_in_some ps x) h) k.only;
  state = k.state;
  scope = k.scope;
  unchanged = k.unchanged;
}

-- the values outside: those inside, with the outer value put back
outer_values : (cs : List (ℕ × ℕ)) (s : Values) (x v : ℕ) → with_value (changed cs (with_value s x v)) x (s x) ≡ changed (changes_but x cs) s
outer_values cs s x v = fun_ext (λ y. elim (eqb_tells y x) [
  | inl k ↦ if_true (y == x) (s x) (changed cs (with_value s x v) y) k.0 ∙ (sym (changed_at cs s x) ∙ ap (changed (changes_but x cs) s) (sym k.1))
  | inr k ↦ value_off (changed cs (with_value s x v)) x (s x) y k.0 ∙ sym (changed_off cs s x v y k.0)
])

scope_below : (Γ : Environment) (x : ℕ) (kind : Kind) (e : Event) → (e.chan.0 == x) ≡ false → in_scope (with_name Γ x kind) e ≡ true → in_scope Γ e ≡ true
scope_below Γ x kind e off h =
    let P : Option Kind → Type 0 = λ o. has_width (channel_kind o) e.value ≡ true in subst P (name_off Γ x kind e.chan.0 off) h

not_on_variable : (Γ : Environment) (x : ℕ) (w : Width) (e : Event) → in_scope (with_name Γ x (Var w)) e ≡ true → (e.chan.0 == x) ≡ false
not_on_variable Γ x w e h = false_from_ne_true (e.chan.0 == x) (λ i.
    let P : Option Kind → Type 0 = λ o. has_width (channel_kind o) e.value ≡ true in
    false_not_true (subst P (if_true (e.chan.0 == x) (Some (Var w)) (Γ e.chan.0) i) h))

local_keeps : (Γ : Environment) (s : Values) (x : ℕ) (w : Width) (v : ℕ) (C : Control) (u : Option Event) (cs : List (ℕ × ℕ)) (D : Control)
    → Kept Γ (local x w v C) → IsState Γ s → StepKeeps (with_name Γ x (Var w)) (with_value s x v) C u cs D
    → StepKeeps Γ s (local x w v C) u (changes_but x cs) (local x w (changed cs (with_value s x v) x) D)
local_keeps Γ s x w v C u cs D kept state k =
    let n : ℕ = changed cs (with_value s x v) x in
    let t = and_parts (can_declare Γ x w && nat_lt v (2 ^ bits_of w)) (types_held C (with_name Γ x (Var w))) kept.types in
    let fresh = (and_parts (can_declare Γ x w) (nat_lt v (2 ^ bits_of w)) t.0).0 in
    let lt : n < 2 ^ bits_of w = k.state x w (ap variable_kind (name_at Γ x (Var w))) in
    record {
      less = less_local D C x w n v k.less;
      kept = kept_local Γ x w n D (and_from (can_declare Γ x w) (nat_lt n (2 ^ bits_of w)) fresh (lt-ltb n (2 ^ bits_of w) lt)) k.kept;
      only = only_but (writes C) x cs k.only;
      state = let P : Values → Type 0 = λ r. IsState Γ r in subst P (outer_values cs s x v) (undeclared_state Γ s (changed cs (with_value s x v)) x w state k.state);
      scope = λ e i. let j = k.scope e i in scope_below Γ x (Var w) e (not_on_variable Γ x w e j) j;
      unchanged = λ e i d. ap (changes_but x) (k.unchanged e i d);
    }

mutual
  unwritten : (C : Control) (Θ : Environment) → types_held C Θ ≡ true → (x : ℕ) → variable_width Θ x ≡ None → writes C x ≡ false
  unwritten done Θ h x k = refl
  unwritten (unbegun p) Θ h x k = written_in_scope p Θ h x k
  unwritten (after C ps) Θ h x k = let j = and_parts (types_held C Θ) (all_types_kept ps Θ) h in
      or_from (writes C x) (written_in_some ps x) (unwritten C Θ j.0 x k) (some_written_in_scope ps Θ j.1 x k)
  unwritten (both Cs) Θ h x k = all_unwritten Cs Θ h x k
  unwritten (local y w v C) Θ h x k =
      let j = (and_parts (can_declare Θ y w && nat_lt v (2 ^ bits_of w)) (types_held C (with_name Θ y (Var w))) h).1 in
      not_and (x == y) (writes C x) (λ off. unwritten C (with_name Θ y (Var w)) j x (still_no_variable Θ x y (Var w) k off))
  unwritten (channel y w C) Θ h x k =
      let j = (and_parts (can_declare Θ y w) (types_held C (with_name Θ y (Chan w None))) h).1 in
      not_and (x == y) (writes C x) (λ off. unwritten C (with_name Θ y (Chan w None)) j x (still_no_variable Θ x y (Chan w None) k off))

  all_unwritten : (Cs : Controls) (Θ : Environment) → all_types_held Cs Θ ≡ true → (x : ℕ) → variable_width Θ x ≡ None → some_write Cs x ≡ false
  all_unwritten no_control Θ h x k = refl
  all_unwritten (and_control C Cs) Θ h x k = let j = and_parts (types_held C Θ) (all_types_held Cs Θ) h in
      or_from (writes C x) (some_write Cs x) (unwritten C Θ j.0 x k) (all_unwritten Cs Θ j.1 x k)

off_event : (c : ℕ) (v : Option Event) (e : Event) → off c v ≡ true → v ≡ Some e → (e.chan.0 == c) ≡ false
off_event c v e h i = let P : Option Event → Type 0 = λ u. off c u ≡ true in not-true (e.chan.0 == c) (subst P i h)

channel_keeps : (Γ : Environment) (s : Values) (c : ℕ) (w : Width) (C : Control) (v : Option Event) (cs : List (ℕ × ℕ)) (D : Control)
    → Kept Γ (channel c w C) → off c v ≡ true → StepKeeps (with_name Γ c (Chan w None)) s C v cs D → StepKeeps Γ s (channel c w C) v cs (channel c w D)
channel_keeps Γ s c w C v cs D kept apart k =
    let Δ : Environment = with_name Γ c (Chan w None) in
    let t = and_parts (can_declare Γ c w) (types_held C Δ) kept.types in
    record {
      less = less_channel D C c w k.less;
      kept = kept_channel Γ c w D t.0 k.kept;
      only = only_more (writes C) (writes (channel c w C)) cs (λ x h. and_from (not (x == c)) (writes C x)
          (not_from_false (x == c) (false_from_ne_true (x == c) (λ i. clash (writes C x) h (unwritten C Δ t.1 x (no_variable_at Γ x c w i))))) h) k.only;
      state = unconnected_state Γ (changed cs s) c w (fresh_name Γ c w t.0) k.state;
      scope = λ e i. scope_below Γ c (Chan w None) e (off_event c v e apart i) (k.scope e i);
      unchanged = k.unchanged;
    }

first_keeps : (Γ : Environment) (s : Values) (C : Control) (Cs : Controls) (v : Option Event) (cs : List (ℕ × ℕ)) (D : Control) → Kept Γ (both (and_control C Cs))
    → StepKeeps Γ s C v cs D → StepKeeps Γ s (both (and_control C Cs)) v cs (both (and_control D Cs))
first_keeps Γ s C Cs v cs D kept k = record {
  less = less_both D C Cs Cs k.less (less_itself (both Cs));
  kept = kept_and Γ D Cs k.kept (rest_kept Γ C Cs kept) (apart_less D C (both Cs) (both Cs) k.less (less_itself (both Cs)) kept.usage.1.0);
  only = only_more (writes C) (writes (both (and_control C Cs))) cs (λ x h. or_left (writes C x) (some_write Cs x) h) k.only;
  state = k.state;
  scope = k.scope;
  unchanged = k.unchanged;
}

later_keeps : (Γ : Environment) (s : Values) (C : Control) (Cs : Controls) (v : Option Event) (cs : List (ℕ × ℕ)) (Ds : Controls) → Kept Γ (both (and_control C Cs))
    → StepKeeps Γ s (both Cs) v cs (both Ds) → StepKeeps Γ s (both (and_control C Cs)) v cs (both (and_control C Ds))
later_keeps Γ s C Cs v cs Ds kept k = record {
  less = less_both C C Ds Cs (less_itself C) k.less;
  kept = kept_and Γ C Ds (first_kept Γ C Cs kept) k.kept (apart_less C C (both Ds) (both Cs) (less_itself C) k.less kept.usage.1.0);
  only = only_more (some_write Cs) (writes (both (and_control C Cs))) cs (λ x h. or_right (writes C x) (some_write Cs x) h) k.only;
  state = k.state;
  scope = k.scope;
  unchanged = k.unchanged;
}

-- of two steps that meet one is an output
pub one_unchanged : (Γ : Environment) (s : Values) (C B : Control) (u v : Option Event) (cs ds : List (ℕ × ℕ)) (D E : Control) → StepKeeps Γ s C u cs D
    → StepKeeps Γ s B v ds E → answers u v ≡ true → (cs ≡ []) ⊎ (ds ≡ [])
one_unchanged Γ s C B None v cs ds D E k l h = false_not_true h
one_unchanged Γ s C B (Some e) None cs ds D E k l h = false_not_true h
one_unchanged Γ s C B (Some e) (Some f) cs ds D E k l h = by_direction e.dir refl
  where
    by_direction : (d : Dir) → e.dir ≡ d → (cs ≡ []) ⊎ (ds ≡ [])
    by_direction Output i = inl (k.unchanged e refl i)
    by_direction Input i = inr (l.unchanged f refl (ap (λ z. z.dir) (same_events f (counterpart e) h) ∙ ap other_direction i))

joint_state : (Γ : Environment) (s : Values) (cs ds : List (ℕ × ℕ)) → IsState Γ (changed cs s) → IsState Γ (changed ds s) → (cs ≡ []) ⊎ (ds ≡ [])
    → IsState Γ (changed (cs ++ ds) s)
joint_state Γ s cs ds h k one = let P : List (ℕ × ℕ) → Type 0 = λ es. IsState Γ (changed es s) in elim one [
  | inl e ↦ subst P (sym (ap (λ es. es ++ ds) e)) k
  | inr e ↦ subst P (sym (ap (λ es. cs ++ es) e ∙ append-nil cs)) h
]

pair_keeps : (Γ : Environment) (s : Values) (C : Control) (Cs : Controls) (u v : Option Event) (cs ds : List (ℕ × ℕ)) (D : Control) (Ds : Controls)
    → Kept Γ (both (and_control C Cs)) → StepKeeps Γ s C u cs D → StepKeeps Γ s (both Cs) v ds (both Ds) → answers u v ≡ true
    → StepKeeps Γ s (both (and_control C Cs)) None (cs ++ ds) (both (and_control D Ds))
pair_keeps Γ s C Cs u v cs ds D Ds kept k l h = record {
  less = less_both D C Ds Cs k.less l.less;
  kept = kept_and Γ D Ds k.kept l.kept (apart_less D C (both Ds) (both Cs) k.less l.less kept.usage.1.0);
  only = only_joined (writes (both (and_control C Cs))) cs ds
      (only_more (writes C) (writes (both (and_control C Cs))) cs (λ x i. or_left (writes C x) (some_write Cs x) i) k.only)
      (only_more (some_write Cs) (writes (both (and_control C Cs))) ds (λ x i. or_right (writes C x) (some_write Cs x) i) l.only);
  state = joint_state Γ s cs ds k.state l.state (one_unchanged Γ s C (both Cs) u v cs ds D (both Ds) k l h);
  scope = λ e i. none_not_some i;
  unchanged = λ e i d. none_not_some i;
}

-- ---- all steps

-- a pair of the first tree with a later one: a step of the first and one of the later ones alone
pub with_is : (Γ : Environment) (s : Values) (ks : List (Step Control)) (Cs : Controls) (j : Step (Control × Controls)) → Is j (steps_with Γ s ks Cs)
    → Meeting j ks (alone_steps Γ s Cs)
with_is Γ s ks no_control j i = elim i [ ]
with_is Γ s ks (and_control D Ds) j i =
    let F : Control × Control → Control × Controls = λ m. (m.0, and_control m.1 Ds) in
    let G : Control × Controls → Control × Controls = λ m. (m.0, and_control D m.1) in
    let H : Control → Controls = λ E. and_control E Ds in
    let L : Controls → Controls = λ Es. and_control D Es in
    elim (is_either j (map (leaving F) (meetings ks (steps Γ s D))) (map (leaving G) (steps_with Γ s ks Ds)) i) [
      | inl h ↦ (let m = mapped_is (leaving F) j (meetings ks (steps Γ s D)) h in
          let q = meeting_is m.0 ks (steps Γ s D) m.1 in
          record {
            one = q.one;
            other = leaving H q.other;
            of_one = q.of_one;
            of_other = is_left (leaving H q.other) (map (leaving H) (steps Γ s D)) (map (leaving L) (alone_steps Γ s Ds)) (is_mapped (leaving H) q.other (steps Γ s D) q.of_other);
            meets = q.meets;
            both = m.2 ∙ ap (leaving F) q.both;
          })
      | inr h ↦ (let m = mapped_is (leaving G) j (steps_with Γ s ks Ds) h in
          let q = with_is Γ s ks Ds m.0 m.1 in
          record {
            one = q.one;
            other = leaving L q.other;
            of_one = q.of_one;
            of_other = is_right (leaving L q.other) (map (leaving H) (steps Γ s D)) (map (leaving L) (alone_steps Γ s Ds)) (is_mapped (leaving L) q.other (alone_steps Γ s Ds) q.of_other);
            meets = q.meets;
            both = m.2 ∙ ap (leaving G) q.both;
          })
    ]

mutual
  -- each step of a tree that keeps the rules
  pub step_keeps : (Γ : Environment) (s : Values) (C : Control) → Kept Γ C → IsState Γ s → (k : Step Control) → Is k (steps Γ s C) → KeepsAt Γ s C k
  step_keeps Γ s done kept state k i = elim i [ ]
  step_keeps Γ s (unbegun p) kept state k i = process_keeps Γ s p kept state k i
  step_keeps Γ s (after C ps) kept state k i =
      let F : Control → Control = λ D. after D ps in
      let m = mapped_is (leaving F) k (steps Γ s C) i in
      let P : Step Control → Type 0 = λ j. KeepsAt Γ s (after C ps) j in
      let t = and_parts (types_held C Γ) (all_types_kept ps Γ) kept.types in
      subst P (sym m.2) (after_keeps Γ s C ps m.0.event m.0.changes m.0.next kept (step_keeps Γ s C (record { types = t.0; usage = kept.usage.0 }) state m.0 m.1))
  step_keeps Γ s (both Cs) kept state k i =
      let m = mapped_is (leaving both) k (alone_steps Γ s Cs ++ pair_steps Γ s Cs) i in
      let P : Step Control → Type 0 = λ j. KeepsAt Γ s (both Cs) j in
      subst P (sym m.2) (elim (is_either m.0 (alone_steps Γ s Cs) (pair_steps Γ s Cs) m.1) [
        | inl h ↦ alone_keeps Γ s Cs kept state m.0 h
        | inr h ↦ pairs_keep Γ s Cs kept state m.0 h
      ])
  step_keeps Γ s (local x w v C) kept state k i =
      let Δ : Environment = with_name Γ x (Var w) in
      let r : Values = with_value s x v in
      let m = mapped_is (within x w r) k (steps Δ r C) i in
      let P : Step Control → Type 0 = λ j. KeepsAt Γ s (local x w v C) j in
      let t = and_parts (can_declare Γ x w && nat_lt v (2 ^ bits_of w)) (types_held C Δ) kept.types in
      let lt : v < 2 ^ bits_of w = ltb-true v (2 ^ bits_of w) (and_parts (can_declare Γ x w) (nat_lt v (2 ^ bits_of w)) t.0).1 in
      subst P (sym m.2) (local_keeps Γ s x w v C m.0.event m.0.changes m.0.next kept state
      (step_keeps Δ r C (record { types = t.1; usage = kept.usage }) (declared_state Γ s x w v lt state) m.0 m.1))
  step_keeps Γ s (channel c w C) kept state k i =
      let Δ : Environment = with_name Γ c (Chan w None) in
      let F : Control → Control = channel c w in
      let m = mapped_is (leaving F) k (filter (is_off c) (steps Δ s C)) i in
      let f = filtered_is (is_off c) m.0 (steps Δ s C) m.1 in
      let P : Step Control → Type 0 = λ j. KeepsAt Γ s (channel c w C) j in
      let t = and_parts (can_declare Γ c w) (types_held C Δ) kept.types in
      subst P (sym m.2) (channel_keeps Γ s c w C m.0.event m.0.changes m.0.next kept f.1
      (step_keeps Δ s C (record { types = t.1; usage = kept.usage }) (connected_state Γ s c w state) m.0 f.0))

  -- each step of one of trees at once
  pub alone_keeps : (Γ : Environment) (s : Values) (Cs : Controls) → Kept Γ (both Cs) → IsState Γ s → (k : Step Controls) → Is k (alone_steps Γ s Cs)
      → StepKeeps Γ s (both Cs) k.event k.changes (both k.next)
  alone_keeps Γ s no_control kept state k i = elim i [ ]
  alone_keeps Γ s (and_control C Cs) kept state k i =
      let F : Control → Controls = λ D. and_control D Cs in
      let G : Controls → Controls = λ Ds. and_control C Ds in
      let P : Step Controls → Type 0 = λ j. StepKeeps Γ s (both (and_control C Cs)) j.event j.changes (both j.next) in
      elim (is_either k (map (leaving F) (steps Γ s C)) (map (leaving G) (alone_steps Γ s Cs)) i) [
        | inl h ↦ (let m = mapped_is (leaving F) k (steps Γ s C) h in
            subst P (sym m.2) (first_keeps Γ s C Cs m.0.event m.0.changes m.0.next kept (step_keeps Γ s C (first_kept Γ C Cs kept) state m.0 m.1)))
        | inr h ↦ (let m = mapped_is (leaving G) k (alone_steps Γ s Cs) h in
            subst P (sym m.2) (later_keeps Γ s C Cs m.0.event m.0.changes m.0.next kept (alone_keeps Γ s Cs (rest_kept Γ C Cs kept) state m.0 m.1)))
      ]

  -- each two steps that meet
  pub pairs_keep : (Γ : Environment) (s : Values) (Cs : Controls) → Kept Γ (both Cs) → IsState Γ s → (k : Step Controls) → Is k (pair_steps Γ s Cs)
      → StepKeeps Γ s (both Cs) k.event k.changes (both k.next)
  pairs_keep Γ s no_control kept state k i = elim i [ ]
  pairs_keep Γ s (and_control C Cs) kept state k i =
      let F : Control × Controls → Controls = λ m. and_control m.0 m.1 in
      let G : Controls → Controls = λ Ds. and_control C Ds in
      let P : Step Controls → Type 0 = λ j. StepKeeps Γ s (both (and_control C Cs)) j.event j.changes (both j.next) in
      elim (is_either k (map (leaving F) (steps_with Γ s (steps Γ s C) Cs)) (map (leaving G) (pair_steps Γ s Cs)) i) [
        | inl h ↦ (let m = mapped_is (leaving F) k (steps_with Γ s (steps Γ s C) Cs) h in
            let q = with_is Γ s (steps Γ s C) Cs m.0 m.1 in
            subst P (sym (m.2 ∙ ap (leaving F) q.both)) (pair_keeps Γ s C Cs q.one.event q.other.event q.one.changes q.other.changes q.one.next q.other.next kept
            (step_keeps Γ s C (first_kept Γ C Cs kept) state q.one q.of_one) (alone_keeps Γ s Cs (rest_kept Γ C Cs kept) state q.other q.of_other) q.meets))
        | inr h ↦ (let m = mapped_is (leaving G) k (pair_steps Γ s Cs) h in
            subst P (sym m.2) (later_keeps Γ s C Cs m.0.event m.0.changes m.0.next kept (pairs_keep Γ s Cs (rest_kept Γ C Cs kept) state m.0 m.1)))
      ]
