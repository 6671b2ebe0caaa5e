-- A variable that isn't written keeps its value.
use Rattle.occ_syntax.specs.occ_base.declared.event.Dir.TheVariants.{Input}
use Rattle.occ_syntax.specs.occ_base.declared.event.Event.{Event}
use Rattle.occ_syntax.specs.occ_base.declared.width.Width.{Width}
use Rattle.occ_meaning.proofs.Facts.{and_four, and_second, and_three, either, if_false, if_true, name_off, or_three, value_off}
use Rattle.occ_meaning.proofs.Typing.{pairs_in_scope, variable_in_scope}
use Rattle.occ_syntax.specs.Eval.{eval, is_true}
use Rattle.occ_syntax.specs.Meaning.{After, Alternates, Combines, Followed, Guards, Meaning, Outcome, Stopped, Taken, Together, WithChannel, WithVariable, alternatives, and_guard, assigned, at_event, at_once, at_ready, at_the_same_time, beside, beside_all, both_ended, chosen, ended, first_choice, followed, guards, in_second, in_turn, meaning, never, no_guard, over_channel, over_variable, taken, together}
use Rattle.occ_syntax.specs.Names.{is_in, written, written_in_branches, written_in_cases, written_in_some, written_in_waiting}
use Rattle.occ_syntax.specs.Scopes.{Environment, Trace, Values, allows, channel_width, variable_kind, variable_width, with_name, with_value}
use Rattle.occ_syntax.specs.Tree.{Branches, Cases, Exp, Tree, Trees, Waiting, alt, and_branch, and_case, and_tree, assign, connect, declare, input, no_branch, no_case, no_tree, output, par, ready, receive, select, send, seq, skip, stop, truth}
use Rattle.occ_syntax.specs.Types.{agree, all_types_kept, branches_kept, can_declare, cases_kept, is_condition, is_pair, pairs_kept, types_kept, waiting_kept}
use Rattle.occ_syntax.specs.declared.scope.Kind.{Kind}
use Rattle.occ_syntax.specs.declared.scope.Kind.TheVariants.{Chan, Var}
use Rattle.std.proofs.Common.{Bool, List, None, Some, [], ap, false, if◌then◌else◌, inl, inr, not, refl, subst, sym, true, ℕ, ◌&&◌, ◌==◌, ◌||◌, ◌∙◌, ◌∷◌, ◌≡◌}
use Rattle.std.proofs.lemmas.Bool.{and_parts, cases_Bool, not_from_false, or_from, or_parts}
use Rattle.std.proofs.lemmas.Bool.Decides.{eqb_tells}

pub not_and : (a b : Bool) → (a ≡ false → b ≡ false) → (not a && b) ≡ false
not_and true b h = refl
not_and false b h = h refl

-- ---- what is no variable in scope isn't written

written_in_waiting_scope : (Γ : Environment) (x : ℕ) → variable_width Γ x ≡ None → (w : Waiting) → waiting_kept Γ w ≡ true
    → written_in_waiting w x ≡ false
written_in_waiting_scope Γ x k ready h = refl
written_in_waiting_scope Γ x k (input c y) h = variable_in_scope Γ x y (channel_width Γ c) (and_parts (allows (Γ c) Input) (agree (channel_width Γ c) (variable_width Γ y)) h).1 k
written_in_waiting_scope Γ x k (output c e) h = refl

pub still_no_variable : (Γ : Environment) (x y : ℕ) (kind : Kind) → variable_width Γ x ≡ None → (x == y) ≡ false
    → variable_width (with_name Γ y kind) x ≡ None
still_no_variable Γ x y kind k h = ap variable_kind (name_off Γ y kind x h) ∙ k

pub no_variable_at : (Γ : Environment) (x c : ℕ) (w : Width) → (x == c) ≡ true → variable_width (with_name Γ c (Chan w None)) x ≡ None
no_variable_at Γ x c w h = ap variable_kind (if_true (x == c) (Some (Chan w None)) (Γ x) h)

mutual
  pub written_in_scope : (p : Tree) (Γ : Environment) → types_kept p Γ ≡ true → (x : ℕ) → variable_width Γ x ≡ None → written p x ≡ false
  written_in_scope skip Γ h x k = refl
  written_in_scope stop Γ h x k = refl
  written_in_scope (assign xs es) Γ h x k = (pairs_in_scope Γ x k xs es (and_parts (is_pair xs) (pairs_kept Γ xs es) h).1).0
  written_in_scope (receive c y) Γ h x k = written_in_waiting_scope Γ x k (input c y) h
  written_in_scope (send c e) Γ h x k = refl
  written_in_scope (seq ps) Γ h x k = some_written_in_scope ps Γ h x k
  written_in_scope (par ps) Γ h x k = some_written_in_scope ps Γ h x k
  written_in_scope (select cs) Γ h x k = cases_written_in_scope cs Γ h x k
  written_in_scope (alt bs) Γ h x k = branches_written_in_scope bs Γ h x k
  written_in_scope (declare y w p) Γ h x k = not_and (x == y) (written p x)
      (λ off. written_in_scope p (with_name Γ y (Var w)) (and_parts (can_declare Γ y w) (types_kept p (with_name Γ y (Var w))) h).1 x (still_no_variable Γ x y (Var w) k off))
  written_in_scope (connect y w p) Γ h x k = not_and (x == y) (written p x)
      (λ off. written_in_scope p (with_name Γ y (Chan w None)) (and_parts (can_declare Γ y w) (types_kept p (with_name Γ y (Chan w None))) h).1 x (still_no_variable Γ x y (Chan w None) k off))

  pub some_written_in_scope : (ps : Trees) (Γ : Environment) → all_types_kept ps Γ ≡ true → (x : ℕ) → variable_width Γ x ≡ None
      → written_in_some ps x ≡ false
  some_written_in_scope no_tree Γ h x k = refl
  some_written_in_scope (and_tree p ps) Γ h x k =
      let j = and_parts (types_kept p Γ) (all_types_kept ps Γ) h in or_from (written p x) (written_in_some ps x) (written_in_scope p Γ j.0 x k) (some_written_in_scope ps Γ j.1 x k)

  pub cases_written_in_scope : (cs : Cases) (Γ : Environment) → cases_kept cs Γ ≡ true → (x : ℕ) → variable_width Γ x ≡ None
      → written_in_cases cs x ≡ false
  cases_written_in_scope no_case Γ h x k = refl
  cases_written_in_scope (and_case e p cs) Γ h x k =
      let j = and_three (is_condition Γ e) (types_kept p Γ) (cases_kept cs Γ) h in or_from (written p x) (written_in_cases cs x) (written_in_scope p Γ j.1 x k) (cases_written_in_scope cs Γ j.2 x k)

  pub branches_written_in_scope : (bs : Branches) (Γ : Environment) → branches_kept bs Γ ≡ true → (x : ℕ) → variable_width Γ x ≡ None
      → written_in_branches bs x ≡ false
  branches_written_in_scope no_branch Γ h x k = refl
  branches_written_in_scope (and_branch e w p bs) Γ h x k =
      let j = and_four (is_condition Γ e) (waiting_kept Γ w) (types_kept p Γ) (branches_kept bs Γ) h in
      or_from (written_in_waiting w x || written p x) (written_in_branches bs x)
      (or_from (written_in_waiting w x) (written p x) (written_in_waiting_scope Γ x k w j.1) (written_in_scope p Γ j.2 x k))
      (branches_written_in_scope bs Γ j.3 x k)

-- ---- one operator at a time

pub record KeepsValue (x : ℕ) (m : Meaning) : Type 0 where
  pub value : (Γ : Environment) (s : Values) (t : Trace) (s' : Values) → m.does Γ s t (ended s') → s' x ≡ s x

pub record KeepValue (x : ℕ) (g : Guards) : Type 0 where
  pub value : (Γ : Environment) (s : Values) (t : Trace) (s' : Values) → g.goes Γ s t (ended s') → s' x ≡ s x

end_is : {s s' : Values} → ended s' ≡ ended s → s' ≡ s
end_is h = cc

skip_value : (x : ℕ) → KeepsValue x (at_once (λ Γ s. s))
skip_value x = record { value = λ Γ s t s' d. ap (λ r. r x) (end_is d.1) }

stop_end : (s s' : Values) (x : ℕ) (t : Trace) → Stopped t (ended s') → s' x ≡ s x
stop_end s s' x t d = elim d [ ]

stop_value : (x : ℕ) → KeepsValue x never
stop_value x = record { value = λ Γ s t s' d. stop_end s s' x t d }

pub assigned_off : (Γ : Environment) (s : Values) (x : ℕ) (xs : List ℕ) (es : List Exp) → is_in xs x ≡ false → assigned xs es Γ s x ≡ s x
assigned_off Γ s x [] es h = refl
assigned_off Γ s x (y ∷ xs) [] h = refl
assigned_off Γ s x (y ∷ xs) (e ∷ es) h =
    let k = or_parts (x == y) (is_in xs x) h in value_off (assigned xs es Γ s) y (eval Γ e s) x k.0 ∙ assigned_off Γ s x xs es k.1

assign_value : (x : ℕ) (xs : List ℕ) (es : List Exp) → is_in xs x ≡ false → KeepsValue x (at_once (assigned xs es))
assign_value x xs es h = record { value = λ Γ s t s' d. ap (λ r. r x) (end_is d.1) ∙ assigned_off Γ s x xs es h }

followed_end : (x : ℕ) (m n : Meaning) → KeepsValue x m → KeepsValue x n → (Γ : Environment) (s : Values) (t : Trace) (s' : Values)
    → Followed m n Γ s t (ended s') → s' x ≡ s x
followed_end x m n hm hn Γ s t s' (in_second t1 t2 s1 e d1 d2) = hn.value Γ s1 t2 s' d2 ∙ hm.value Γ s t1 s1 d1

pub followed_value : (x : ℕ) (m n : Meaning) → KeepsValue x m → KeepsValue x n → KeepsValue x (followed m n)
followed_value x m n hm hn = record { value = followed_end x m n hm hn }

chosen_value : (x : ℕ) (e : Exp) (m n : Meaning) → KeepsValue x m → KeepsValue x n → KeepsValue x (chosen e m n)
chosen_value x e m n hm hn = record { value = λ Γ s t s' d. either (is_true Γ e s) (λ h. hm.value Γ s t s' h) (λ h. hn.value Γ s t s' h) d }

after_value : (Γ : Environment) (s : Values) (x : ℕ) (w : Waiting) (e : Event) (u : Values) → written_in_waiting w x ≡ false
    → After Γ s w e u → u x ≡ s x
after_value Γ s x ready e u h a = absurd a
after_value Γ s x (input c y) e u h a = ap (λ r. r x) a.3 ∙ value_off s y a.0 x h
after_value Γ s x (output c z) e u h a = ap (λ r. r x) a.1

taken_value : (Γ : Environment) (s : Values) (x : ℕ) (w : Waiting) (t : Trace) (u : Values) (a : Trace) → written_in_waiting w x ≡ false
    → Taken Γ s w t u a → u x ≡ s x
taken_value Γ s x w t u a h at_ready = refl
taken_value Γ s x w t u a h (at_event {w = b} {e = e} {u = r} k) = after_value Γ s x b e r h k

no_guard_value : (x : ℕ) → KeepValue x no_guard
no_guard_value x = record { value = λ Γ s t s' d. absurd d }

and_guard_value : (x : ℕ) (e : Exp) (w : Waiting) (m : Meaning) (g : Guards) → written_in_waiting w x ≡ false → KeepsValue x m
    → KeepValue x g → KeepValue x (and_guard e w m g)
and_guard_value x e w m g h hm hg = record {
  value = λ Γ s t s' d.
      elim d [ inl k ↦ hm.value Γ k.1.0 k.1.1 s' k.1.3 ∙ taken_value Γ s x w t k.1.0 k.1.1 h k.1.2 | inr k ↦ hg.value Γ s t s' k ];
}

alternates_end : (x : ℕ) (g : Guards) → KeepValue x g → (Γ : Environment) (s : Values) (t : Trace) (s' : Values)
    → Alternates g Γ s t (ended s') → s' x ≡ s x
alternates_end x g hg Γ s t s' (taken d) = hg.value Γ s t s' d

alternatives_value : (x : ℕ) (g : Guards) → KeepValue x g → KeepsValue x (alternatives g)
alternatives_value x g hg = record { value = alternates_end x g hg }

if_one : (b : Bool) (a c d : ℕ) → a ≡ d → c ≡ d → (if b then a else c) ≡ d
if_one true a c d h k = h
if_one false a c d h k = k

combined_value : (Γ : Environment) (s : Values) (x : ℕ) (o1 o2 : Outcome) (s' : Values) → ((s1 : Values) → o1 ≡ ended s1 → s1 x ≡ s x)
    → ((s2 : Values) → o2 ≡ ended s2 → s2 x ≡ s x) → Combines Γ s o1 o2 (ended s') → s' x ≡ s x
combined_value Γ s x o1 o2 s' first second (both_ended {s1 = a} {s2 = b} {s' = r} e) = ap (λ q. q x) e ∙ if_one (a x == s x) (b x) (a x) (s x) (second b refl) (first a refl)

together_end : (x : ℕ) (m n : Meaning) → KeepsValue x m → KeepsValue x n → (Γ : Environment) (s : Values) (t : Trace) (s' : Values)
    → Together m n Γ s t (ended s') → s' x ≡ s x
together_end x m n hm hn Γ s t s' (together t1 t2 o1 o2 woven c d1 d2) =
    combined_value Γ s x o1 o2 s'
    (λ s1 e. hm.value Γ s t1 s1 (let P : Outcome → Type 0 = λ o. m.does Γ s t1 o in subst P e d1))
    (λ s2 e. hn.value Γ s t2 s2 (let P : Outcome → Type 0 = λ o. n.does Γ s t2 o in subst P e d2)) c

pub beside_value : (x : ℕ) (m n : Meaning) → KeepsValue x m → KeepsValue x n → KeepsValue x (beside m n)
beside_value x m n hm hn = record { value = together_end x m n hm hn }

beside_all_value : (x : ℕ) (ps : Trees) (m n : Meaning) → KeepsValue x m → KeepsValue x n → KeepsValue x (beside_all ps m n)
beside_all_value x no_tree m n hm hn = hm
beside_all_value x (and_tree p ps) m n hm hn = beside_value x m n hm hn

variable_end : (x y : ℕ) (w : Width) (m : Meaning) → ((x == y) ≡ false → KeepsValue x m)
    → (Γ : Environment) (s : Values) (t : Trace) (s' : Values) → WithVariable y w m Γ s t (ended s') → s' x ≡ s x
variable_end x y w m hm Γ s t s' (WithVariable.at_end v s1 lt e d) =
    ap (λ r. r x) e ∙ elim (eqb_tells x y) [
      | inl k ↦ if_true (x == y) (s y) (s1 x) k.0 ∙ ap s (sym k.1)
      | inr k ↦ if_false (x == y) (s y) (s1 x) k.0 ∙ ((hm k.0).value (with_name Γ y (Var w)) (with_value s y v) t s1 d ∙ value_off s y v x k.0)
    ]

variable_value : (x y : ℕ) (w : Width) (m : Meaning) → ((x == y) ≡ false → KeepsValue x m) → KeepsValue x (over_variable y w m)
variable_value x y w m hm = record { value = variable_end x y w m hm }

channel_end : (x c : ℕ) (w : Width) (m : Meaning) → KeepsValue x m → (Γ : Environment) (s : Values) (t : Trace) (s' : Values)
    → WithChannel c w m Γ s t (ended s') → s' x ≡ s x
channel_end x c w m hm Γ s t s' (WithChannel.at_end silent d) = hm.value (with_name Γ c (Chan w None)) s t s' d

channel_value : (x c : ℕ) (w : Width) (m : Meaning) → KeepsValue x m → KeepsValue x (over_channel c w m)
channel_value x c w m hm = record { value = channel_end x c w m hm }

guard_alone : (x : ℕ) (w : Waiting) → written_in_waiting w x ≡ false
    → KeepsValue x (alternatives (and_guard (truth true) w (at_once (λ Γ s. s)) no_guard))
guard_alone x w h = alternatives_value x (and_guard (truth true) w (at_once (λ Γ s. s)) no_guard) (and_guard_value x (truth true) w (at_once (λ Γ s. s)) no_guard h (skip_value x) (no_guard_value x))

-- under a channel of that name nothing is written either
unwritten_below : (p : Tree) (Γ : Environment) (x c : ℕ) (w : Width) → types_kept p (with_name Γ c (Chan w None)) ≡ true
    → (not (x == c) && written p x) ≡ false → written p x ≡ false
unwritten_below p Γ x c w h k = elim (cases_Bool (x == c)) [
  | inl e ↦ written_in_scope p (with_name Γ c (Chan w None)) h x (no_variable_at Γ x c w e)
  | inr e ↦ and_second (not (x == c)) (written p x) k (not_from_false (x == c) e)
]

-- ---- the whole language

mutual
  pub part_value : (p : Tree) (Γ : Environment) → types_kept p Γ ≡ true → (x : ℕ) → written p x ≡ false → KeepsValue x (meaning p)
  part_value skip Γ h x k = skip_value x
  part_value stop Γ h x k = stop_value x
  part_value (assign xs es) Γ h x k = assign_value x xs es k
  part_value (receive c y) Γ h x k = guard_alone x (input c y) k
  part_value (send c e) Γ h x k = guard_alone x (output c e) refl
  part_value (seq ps) Γ h x k = turn_value ps Γ h x k
  part_value (par ps) Γ h x k = parallel_value ps Γ h x k
  part_value (select cs) Γ h x k = cases_value cs Γ h x k
  part_value (alt bs) Γ h x k = alternatives_value x (guards bs) (branches_value bs Γ h x k)
  part_value (declare y w p) Γ h x k = variable_value x y w (meaning p)
      (λ off. part_value p (with_name Γ y (Var w)) (and_parts (can_declare Γ y w) (types_kept p (with_name Γ y (Var w))) h).1 x (and_second (not (x == y)) (written p x) k (not_from_false (x == y) off)))
  part_value (connect c w p) Γ h x k =
      let j = (and_parts (can_declare Γ c w) (types_kept p (with_name Γ c (Chan w None))) h).1 in
      channel_value x c w (meaning p) (part_value p (with_name Γ c (Chan w None)) j x (unwritten_below p Γ x c w j k))

  pub turn_value : (ps : Trees) (Γ : Environment) → all_types_kept ps Γ ≡ true → (x : ℕ) → written_in_some ps x ≡ false → KeepsValue x (in_turn ps)
  turn_value no_tree Γ h x k = skip_value x
  turn_value (and_tree p ps) Γ h x k =
      let j = and_parts (types_kept p Γ) (all_types_kept ps Γ) h in let i = or_parts (written p x) (written_in_some ps x) k in
      followed_value x (meaning p) (in_turn ps) (part_value p Γ j.0 x i.0) (turn_value ps Γ j.1 x i.1)

  pub parallel_value : (ps : Trees) (Γ : Environment) → all_types_kept ps Γ ≡ true → (x : ℕ) → written_in_some ps x ≡ false
      → KeepsValue x (at_the_same_time ps)
  parallel_value no_tree Γ h x k = skip_value x
  parallel_value (and_tree p ps) Γ h x k =
      let j = and_parts (types_kept p Γ) (all_types_kept ps Γ) h in let i = or_parts (written p x) (written_in_some ps x) k in
      beside_all_value x ps (meaning p) (at_the_same_time ps) (part_value p Γ j.0 x i.0) (parallel_value ps Γ j.1 x i.1)

  pub cases_value : (cs : Cases) (Γ : Environment) → cases_kept cs Γ ≡ true → (x : ℕ) → written_in_cases cs x ≡ false → KeepsValue x (first_choice cs)
  cases_value no_case Γ h x k = stop_value x
  cases_value (and_case e p cs) Γ h x k =
      let j = and_three (is_condition Γ e) (types_kept p Γ) (cases_kept cs Γ) h in let i = or_parts (written p x) (written_in_cases cs x) k in
      chosen_value x e (meaning p) (first_choice cs) (part_value p Γ j.1 x i.0) (cases_value cs Γ j.2 x i.1)

  pub branches_value : (bs : Branches) (Γ : Environment) → branches_kept bs Γ ≡ true → (x : ℕ) → written_in_branches bs x ≡ false
      → KeepValue x (guards bs)
  branches_value no_branch Γ h x k = no_guard_value x
  branches_value (and_branch e w p bs) Γ h x k =
      let j = and_four (is_condition Γ e) (waiting_kept Γ w) (types_kept p Γ) (branches_kept bs Γ) h in
      let i = or_three (written_in_waiting w x) (written p x) (written_in_branches bs x) k in
      and_guard_value x e w (meaning p) (guards bs) i.0 (part_value p Γ j.2 x i.1) (branches_value bs Γ j.3 x i.2)
