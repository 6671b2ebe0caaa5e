-- A declared channel goes into each branch of an ALT whose guard isn't on it; a branch on it does nothing.
use Rattle.occ_law.specs.occ_base.declared.event.Event.{Event}
use Rattle.occ_law.specs.occ_base.declared.width.Width.{Width}
use Rattle.occ_law.specs.Scope.{ChanAlt, chan_alt, is_on, without_channel}
use Rattle.occ_law_sound.proofs.IntoChoices.{channel_no_variable}
use Rattle.occ_law_sound.proofs.Opened.{closed_channel, inside_channel, opened_channel}
use Rattle.occ_law.proofs.from_meaning.Declared.{declared_off}
use Rattle.occ_law.proofs.from_meaning.Facts.{and_four, both, clash, same_turned}
use Rattle.occ_law.proofs.from_meaning.OffNames.{after_moves, agree_turned, same_truth}
use Rattle.occ_law.proofs.from_meaning.Typing.{condition_in_scope, names_in_scope, output_types, variable_in_scope}
use Rattle.occ_law.proofs.from_meaning.Settled.{chosen_first, chosen_second}
use Rattle.occ_law.proofs.from_meaning.AtState.{same_at}
use Rattle.occ_law.specs.occ_syntax.Eval.{is_true}
use Rattle.occ_law.specs.occ_syntax.Meaning.{After, Alternates, IsQuiet, Outcome, Taken, WithChannel, alternatives, at_event, at_ready, ended, guards, is_silent, meaning, off_channel, refusing, stable, taken}
use Rattle.occ_law.specs.occ_syntax.Names.{free_in_waiting, names}
use Rattle.occ_law.specs.occ_syntax.Same.{SAME}
use Rattle.occ_law.specs.occ_syntax.Scopes.{Environment, EventSet, Trace, Values, allows, channel_width, variable_width, with_name}
use Rattle.occ_law.specs.occ_syntax.Tree.{Branches, Exp, Tree, Waiting, alt, and_branch, connect, input, no_branch, output, ready}
use Rattle.occ_law.specs.occ_syntax.Types.{agree, branches_kept, can_declare, is_condition, types_kept, waiting_kept}
use Rattle.occ_law.specs.occ_syntax.declared.scope.Kind.TheVariants.{Chan}
use Rattle.occ_law.specs.occ_base.declared.event.Dir.TheVariants.{Input}
use Rattle.std.proofs.Common.{Bool, List, MatchBool, None, [], ap, false, if◌then◌else◌, inl, inr, not, refl, subst, sym, true, ℕ, ◌&&◌, ◌==◌, ◌∙◌, ◌≡◌, ◌⊎◌}
use Rattle.std.proofs.lemmas.Bool.{and_from, and_parts, cases_Bool, not-true, or_from}

-- ---- guards on the channel and off it

-- the scope of the channel
abbrev Inner : Environment → ℕ → Width → Environment
Inner Γ c w = with_name Γ c (Chan w None)

-- a guard that keeps its types and isn't on the channel doesn't have its name
off_guard : (Γ : Environment) (c : ℕ) (w : Width) (g : Waiting) → waiting_kept (Inner Γ c w) g ≡ true → is_on g c ≡ false → free_in_waiting g c ≡ false
off_guard Γ c w ready t h = refl
off_guard Γ c w (input d x) t h =
    let Δ : Environment = Inner Γ c w in
    or_from (c == d) (c == x) h
    (variable_in_scope Δ c x (channel_width Δ d) (and_parts (allows (Δ d) Input) (agree (channel_width Δ d) (variable_width Δ x)) t).1 (channel_no_variable Γ c w))
off_guard Γ c w (output d e) t h =
    let Δ : Environment = Inner Γ c w in
    let j = output_types Δ d e t in
    or_from (c == d) (names e c) h (names_in_scope Δ c (channel_no_variable Γ c w) e j.1.0 j.1.2)

-- whether the events of a guard are on the channel
on_channel : (Γ : Environment) (s : Values) (c : ℕ) (g : Waiting) (e : Event) (u : Values) → After Γ s g e u → (e.chan.0 == c) ≡ is_on g c
on_channel Γ s c ready e u a = absurd a
on_channel Γ s c (input d x) e u a = ap (λ z. z.chan.0 == c) a.2 ∙ same_turned d c
on_channel Γ s c (output d z) e u a = ap (λ v. v.chan.0 == c) a.0 ∙ same_turned d c

inner_after : (Γ : Environment) (s : Values) (c : ℕ) (w : Width) (g : Waiting) → free_in_waiting g c ≡ false → (e : Event) (u : Values)
    → After Γ s g e u → After (Inner Γ c w) s g e u
inner_after Γ s c w g h e u a = after_moves c Γ (Inner Γ c w) s (declared_off Γ c (Chan w None)) g h e u a

outer_after : (Γ : Environment) (s : Values) (c : ℕ) (w : Width) (g : Waiting) → free_in_waiting g c ≡ false → (e : Event) (u : Values)
    → After (Inner Γ c w) s g e u → After Γ s g e u
outer_after Γ s c w g h e u a = after_moves c (Inner Γ c w) Γ s (agree_turned c Γ (Inner Γ c w) (declared_off Γ c (Chan w None))) g h e u a

outer_truth : (Γ : Environment) (s : Values) (c : ℕ) (w : Width) (b : Exp) → is_condition (Inner Γ c w) b ≡ true → is_true (Inner Γ c w) b s ≡ is_true Γ b s
outer_truth Γ s c w b t =
    sym (same_truth c Γ (Inner Γ c w) s (declared_off Γ c (Chan w None)) b (condition_in_scope (Inner Γ c w) c (channel_no_variable Γ c w) b t))

-- ---- refusals

-- an event off the channel is in a set where it is in its part off the channel
not_off : (b d : Bool) → b ≡ false → (not b && d) ≡ false → d ≡ false
not_off true d h k = clash true refl h
not_off false d h k = k

on_none : (b d : Bool) → b ≡ true → (not b && d) ≡ false
on_none true d h = refl
on_none false d h = clash false h refl

none_in : (b d : Bool) → d ≡ false → (not b && d) ≡ false
none_in true d h = refl
none_in false d h = h

refused_outside : (Γ : Environment) (s : Values) (c : ℕ) (w : Width) (gs : Branches) → branches_kept gs (Inner Γ c w) ≡ true → (X : EventSet)
    → (guards gs).refuses (Inner Γ c w) s (off_channel c X) → (guards (without_channel c w gs)).refuses Γ s X
refused_outside Γ s c w no_branch t X d = d
refused_outside Γ s c w (and_branch b g p gs) t X d =
    let Δ : Environment = Inner Γ c w in
    let j = and_four (is_condition Δ b) (waiting_kept Δ g) (types_kept p Δ) (branches_kept gs Δ) t in
    outside_by Γ s c w b g p gs X (is_on g c) refl (outer_truth Γ s c w b j.0) j.1 d.0 (refused_outside Γ s c w gs j.3 X d.1)
  where
    outside_by : (Γ : Environment) (s : Values) (c : ℕ) (w : Width) (b : Exp) (g : Waiting) (p : Tree) (gs : Branches) (X : EventSet) (v : Bool) → is_on g c ≡ v
        → is_true (Inner Γ c w) b s ≡ is_true Γ b s → waiting_kept (Inner Γ c w) g ≡ true
        → MatchBool (is_true (Inner Γ c w) b s) (IsQuiet (Inner Γ c w) s g (off_channel c X)) (Unit {0})
        → (guards (without_channel c w gs)).refuses Γ s X
        → (guards (if v then without_channel c w gs else and_branch b g (connect c w p) (without_channel c w gs))).refuses Γ s X
    outside_by Γ s c w b g p gs X true h same kept q rest = rest
    outside_by Γ s c w b g p gs X false h same kept q rest =
        let P : Bool → Type 0 = λ z. MatchBool z (IsQuiet Γ s g X) (Unit {0}) in (
          subst P same (both (is_true (Inner Γ c w) b s) (λ k. record {
            not_ready = k.not_ready;
            refused = λ e u a. not_off (e.chan.0 == c) (X e) (on_channel Γ s c g e u a ∙ h) (k.refused e u (inner_after Γ s c w g (off_guard Γ c w g kept h) e u a));
          }) (λ k. k) q),
          rest,
        )

-- a guard on the channel has no event off it, and isn't SKIP
on_quiet : (Δ : Environment) (s : Values) (c : ℕ) (g : Waiting) (X : EventSet) → is_on g c ≡ true → IsQuiet Δ s g (off_channel c X)
on_quiet Δ s c g X h = record {
  not_ready = λ i. clash (is_on g c) h (ap (λ v. is_on v c) i);
  refused = λ e u a. on_none (e.chan.0 == c) (X e) (on_channel Δ s c g e u a ∙ h);
}

refused_inside : (Γ : Environment) (s : Values) (c : ℕ) (w : Width) (gs : Branches) → branches_kept gs (Inner Γ c w) ≡ true → (X : EventSet)
    → (guards (without_channel c w gs)).refuses Γ s X → (guards gs).refuses (Inner Γ c w) s (off_channel c X)
refused_inside Γ s c w no_branch t X d = d
refused_inside Γ s c w (and_branch b g p gs) t X d =
    let Δ : Environment = Inner Γ c w in
    let j = and_four (is_condition Δ b) (waiting_kept Δ g) (types_kept p Δ) (branches_kept gs Δ) t in
    inside_by Γ s c w b g p gs X (is_on g c) refl (outer_truth Γ s c w b j.0) j.1 (refused_inside Γ s c w gs j.3 X) d
  where
    inside_by : (Γ : Environment) (s : Values) (c : ℕ) (w : Width) (b : Exp) (g : Waiting) (p : Tree) (gs : Branches) (X : EventSet) (v : Bool) → is_on g c ≡ v
        → is_true (Inner Γ c w) b s ≡ is_true Γ b s → waiting_kept (Inner Γ c w) g ≡ true
        → ((guards (without_channel c w gs)).refuses Γ s X → (guards gs).refuses (Inner Γ c w) s (off_channel c X))
        → (guards (if v then without_channel c w gs else and_branch b g (connect c w p) (without_channel c w gs))).refuses Γ s X
        → (guards (and_branch b g p gs)).refuses (Inner Γ c w) s (off_channel c X)
    inside_by Γ s c w b g p gs X true h same kept rest d = (
      elim (cases_Bool (is_true (Inner Γ c w) b s)) [
        | inl i ↦ chosen_first (is_true (Inner Γ c w) b s) (IsQuiet (Inner Γ c w) s g (off_channel c X)) (Unit {0}) i (on_quiet (Inner Γ c w) s c g X h)
        | inr i ↦ chosen_second (is_true (Inner Γ c w) b s) (IsQuiet (Inner Γ c w) s g (off_channel c X)) (Unit {0}) i tt
      ],
      rest d,
    )
    inside_by Γ s c w b g p gs X false h same kept rest d =
        let P : Bool → Type 0 = λ z. MatchBool z (IsQuiet (Inner Γ c w) s g (off_channel c X)) (Unit {0}) in (
          subst P (sym same) (both (is_true Γ b s) (λ k. record {
            not_ready = k.not_ready;
            refused = λ e u a. none_in (e.chan.0 == c) (X e) (k.refused e u (outer_after Γ s c w g (off_guard Γ c w g kept h) e u a));
          }) (λ k. k) d.0),
          rest d.1,
        )

-- ---- a guard taken

-- what is left of a silent trace is silent, and a guard on the channel isn't taken in one
rest_silent : (Γ : Environment) (s : Values) (c : ℕ) (g : Waiting) (t : Trace) (u : Values) (a : Trace) → Taken Γ s g t u a → is_silent c t ≡ true → is_silent c a ≡ true
rest_silent Γ s c g t u a at_ready h = h
rest_silent Γ s c g t u a (at_event {w = z} {e = e} {u = q} {t = b} i) h = (and_parts (not (e.chan.0 == c)) (is_silent c b) h).1

not_taken_on : (S : Type 0) (Γ : Environment) (s : Values) (c : ℕ) (g : Waiting) (t : Trace) (u : Values) (a : Trace) → is_on g c ≡ true → Taken Γ s g t u a
    → is_silent c t ≡ true → S
not_taken_on S Γ s c g t u a k at_ready h = clash false k refl
not_taken_on S Γ s c g t u a k (at_event {w = z} {e = e} {u = q} {t = b} i) h =
    let j = and_parts (not (e.chan.0 == c)) (is_silent c b) h in clash (e.chan.0 == c) (on_channel Γ s c z e q i ∙ k) (not-true (e.chan.0 == c) j.0)

whole_silent : (Γ : Environment) (s : Values) (c : ℕ) (g : Waiting) (t : Trace) (u : Values) (a : Trace) → is_on g c ≡ false → Taken Γ s g t u a
    → is_silent c a ≡ true → is_silent c t ≡ true
whole_silent Γ s c g t u a k at_ready h = h
whole_silent Γ s c g t u a k (at_event {w = z} {e = e} {u = q} {t = b} i) h =
    and_from (not (e.chan.0 == c)) (is_silent c b) (ap not (on_channel Γ s c z e q i ∙ k)) h

taken_along : (Γ Δ : Environment) (s : Values) (g : Waiting) → ((e : Event) (u : Values) → After Γ s g e u → After Δ s g e u)
    → (t : Trace) (u : Values) (a : Trace) → Taken Γ s g t u a → Taken Δ s g t u a
taken_along Γ Δ s g h t u a at_ready = at_ready
taken_along Γ Δ s g h t u a (at_event {w = z} {e = e} {u = q} i) = at_event (h e q i)

-- ---- the whole list

goes_outside : (Γ : Environment) (s : Values) (c : ℕ) (w : Width) (gs : Branches) → branches_kept gs (Inner Γ c w) ≡ true → (t : Trace) (o : Outcome)
    → is_silent c t ≡ true → (guards gs).goes (Inner Γ c w) s t (inside_channel c o) → (guards (without_channel c w gs)).goes Γ s t o
goes_outside Γ s c w no_branch k t o silent d = absurd d
goes_outside Γ s c w (and_branch b g p gs) k t o silent d =
    let Δ : Environment = Inner Γ c w in
    let j = and_four (is_condition Δ b) (waiting_kept Δ g) (types_kept p Δ) (branches_kept gs Δ) k in
    outside_by Γ s c w b g p gs t o (is_on g c) refl (outer_truth Γ s c w b j.0) j.1 silent (goes_outside Γ s c w gs j.3 t o silent) d
  where
    outside_by : (Γ : Environment) (s : Values) (c : ℕ) (w : Width) (b : Exp) (g : Waiting) (p : Tree) (gs : Branches) (t : Trace) (o : Outcome) (v : Bool) → is_on g c ≡ v
        → is_true (Inner Γ c w) b s ≡ is_true Γ b s → waiting_kept (Inner Γ c w) g ≡ true → is_silent c t ≡ true
        → ((guards gs).goes (Inner Γ c w) s t (inside_channel c o) → (guards (without_channel c w gs)).goes Γ s t o)
        → (guards (and_branch b g p gs)).goes (Inner Γ c w) s t (inside_channel c o)
        → (guards (if v then without_channel c w gs else and_branch b g (connect c w p) (without_channel c w gs))).goes Γ s t o
    outside_by Γ s c w b g p gs t o true h same kept silent rest d = elim d [
      | inl i ↦ not_taken_on ((guards (without_channel c w gs)).goes Γ s t o) (Inner Γ c w) s c g t i.1.0 i.1.1 h i.1.2 silent
      | inr i ↦ rest i
    ]
    outside_by Γ s c w b g p gs t o false h same kept silent rest d = elim d [
      | inl i ↦ inl (
        sym same ∙ i.0,
        (
          i.1.0,
          i.1.1,
          taken_along (Inner Γ c w) Γ s g (outer_after Γ s c w g (off_guard Γ c w g kept h)) t i.1.0 i.1.1 i.1.2,
          closed_channel c w (meaning p) Γ i.1.0 i.1.1 o (rest_silent (Inner Γ c w) s c g t i.1.0 i.1.1 i.1.2 silent) i.1.3,
        ),
      )
      | inr i ↦ inr (rest i)
    ]

-- what the branches do in the scope of the channel
record GoesInside (Γ : Environment) (s : Values) (c : ℕ) (w : Width) (gs : Branches) (t : Trace) (o : Outcome) : Type 0 where
  silent : is_silent c t ≡ true
  inside : (guards gs).goes (Inner Γ c w) s t (inside_channel c o)

goes_inside : (Γ : Environment) (s : Values) (c : ℕ) (w : Width) (gs : Branches) → branches_kept gs (Inner Γ c w) ≡ true → (t : Trace) (o : Outcome)
    → (guards (without_channel c w gs)).goes Γ s t o → GoesInside Γ s c w gs t o
goes_inside Γ s c w no_branch k t o d = absurd d
goes_inside Γ s c w (and_branch b g p gs) k t o d =
    let Δ : Environment = Inner Γ c w in
    let j = and_four (is_condition Δ b) (waiting_kept Δ g) (types_kept p Δ) (branches_kept gs Δ) k in
    inside_by Γ s c w b g p gs t o (is_on g c) refl (outer_truth Γ s c w b j.0) j.1 (goes_inside Γ s c w gs j.3 t o) d
  where
    later : (Γ : Environment) (s : Values) (c : ℕ) (w : Width) (b : Exp) (g : Waiting) (p : Tree) (gs : Branches) (t : Trace) (o : Outcome)
        → GoesInside Γ s c w gs t o → GoesInside Γ s c w (and_branch b g p gs) t o
    later Γ s c w b g p gs t o i = record { silent = i.silent; inside = inr i.inside }

    inside_by : (Γ : Environment) (s : Values) (c : ℕ) (w : Width) (b : Exp) (g : Waiting) (p : Tree) (gs : Branches) (t : Trace) (o : Outcome) (v : Bool) → is_on g c ≡ v
        → is_true (Inner Γ c w) b s ≡ is_true Γ b s → waiting_kept (Inner Γ c w) g ≡ true
        → ((guards (without_channel c w gs)).goes Γ s t o → GoesInside Γ s c w gs t o)
        → (guards (if v then without_channel c w gs else and_branch b g (connect c w p) (without_channel c w gs))).goes Γ s t o
        → GoesInside Γ s c w (and_branch b g p gs) t o
    inside_by Γ s c w b g p gs t o true h same kept rest d = later Γ s c w b g p gs t o (rest d)
    inside_by Γ s c w b g p gs t o false h same kept rest d = elim d [
      | inl i ↦ (let q = opened_channel c w (meaning p) Γ i.1.0 i.1.1 o i.1.3 in record {
        silent = whole_silent Γ s c g t i.1.0 i.1.1 h i.1.2 q.silent;
        inside = inl (same ∙ i.0, (i.1.0, i.1.1, taken_along Γ (Inner Γ c w) s g (inner_after Γ s c w g (off_guard Γ c w g kept h)) t i.1.0 i.1.1 i.1.2, q.inside));
      })
      | inr i ↦ later Γ s c w b g p gs t o (rest i)
    ]

-- ---- the ALT

-- an ALT that is stable refuses a set at once
stable_parts : (Δ : Environment) (s : Values) (gs : Branches) (t : Trace) (Y : EventSet) → Alternates (guards gs) Δ s t (refusing Y)
    → ((t ≡ []) × (guards gs).refuses Δ s Y) ⊎ (guards gs).goes Δ s t (refusing Y)
stable_parts Δ s gs t Y (stable d) = inl (refl, d)
stable_parts Δ s gs t Y (taken d) = inr d

ended_goes : (Δ : Environment) (s : Values) (gs : Branches) (t : Trace) (r : Values) → Alternates (guards gs) Δ s t (ended r) → (guards gs).goes Δ s t (ended r)
ended_goes Δ s gs t r (taken d) = d

channel_outside : (Γ : Environment) (s : Values) (c : ℕ) (w : Width) (gs : Branches) → branches_kept gs (Inner Γ c w) ≡ true → (t : Trace) (o : Outcome)
    → is_silent c t ≡ true → Alternates (guards gs) (Inner Γ c w) s t (inside_channel c o) → Alternates (guards (without_channel c w gs)) Γ s t o
channel_outside Γ s c w gs k t (ended r) silent d = taken (goes_outside Γ s c w gs k t (ended r) silent (ended_goes (Inner Γ c w) s gs t r d))
channel_outside Γ s c w gs k t (refusing X) silent d = elim (stable_parts (Inner Γ c w) s gs t (off_channel c X) d) [
  | inl i ↦ (let P : Trace → Type 0 = λ z. Alternates (guards (without_channel c w gs)) Γ s z (refusing X) in
      subst P (sym i.0) (stable (refused_outside Γ s c w gs k X i.1)))
  | inr i ↦ taken (goes_outside Γ s c w gs k t (refusing X) silent i)
]

channel_inside : (Γ : Environment) (s : Values) (c : ℕ) (w : Width) (gs : Branches) → branches_kept gs (Inner Γ c w) ≡ true → (t : Trace) (o : Outcome)
    → Alternates (guards (without_channel c w gs)) Γ s t o → WithChannel c w (alternatives (guards gs)) Γ s t o
channel_inside Γ s c w gs k t o (stable {X = X} d) = closed_channel c w (alternatives (guards gs)) Γ s [] (refusing X) refl (stable (refused_inside Γ s c w gs k X d))
channel_inside Γ s c w gs k t o (taken d) =
    let q = goes_inside Γ s c w gs k t o d in closed_channel c w (alternatives (guards gs)) Γ s t o q.silent (taken q.inside)

pub chan_alt_sound : (Γ : Environment) (ks : List ℕ) (l r : Tree) → types_kept l Γ ≡ true → ChanAlt ks l r → SAME Γ l r
chan_alt_sound Γ ks l r t (chan_alt c w gs) =
    let k = (and_parts (can_declare Γ c w) (branches_kept gs (Inner Γ c w)) t).1 in
    same_at Γ (connect c w (alt gs)) (alt (without_channel c w gs)) (λ s state. record {
      forth = λ u o d. (let q = opened_channel c w (alternatives (guards gs)) Γ s u o d in channel_outside Γ s c w gs k u o q.silent q.inside);
      back = channel_inside Γ s c w gs k;
    })
