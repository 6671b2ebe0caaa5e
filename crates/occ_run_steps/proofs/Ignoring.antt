-- A control tree ignores a variable that isn't free in it, and keeps its value.
use Rattle.occ_meaning.specs.occ_base.declared.width.Width.{Width}
use Rattle.occ_meaning.proofs.Facts.{and_second, if_false, if_true, off_turned, value_at, value_off}
use Rattle.occ_meaning.proofs.Frame.{KeepsValue, beside_value, followed_value, no_variable_at, part_value, still_no_variable, turn_value, written_in_scope, some_written_in_scope}
use Rattle.occ_meaning.proofs.Free.{none_written, not_written}
use Rattle.occ_meaning.proofs.OffValues.{Ignores, Unless, beside_ignores, channel_ignores, followed_ignores, part_ignores, swap_values, turn_ignores, value_again}
use Rattle.occ_meaning.specs.Foundation.{with_result}
use Rattle.occ_run_steps.specs.Controlled.{Holding, all_controlled, controlled, holding}
use Rattle.occ_run_steps.specs.Control.{Control, Controls, after, and_control, both, channel, done, local, no_control, unbegun}
use Rattle.occ_run_steps.specs.Kept.{all_types_held, names_free, some_name_free, types_held}
use Rattle.occ_meaning.specs.occ_syntax.Meaning.{Meaning, Outcome, WithChannel, at_once, ended, in_turn, meaning, over_channel, refusing}
use Rattle.occ_meaning.specs.occ_syntax.Names.{free, free_in_some}
use Rattle.occ_meaning.specs.occ_syntax.Scopes.{Environment, Trace, Values, with_name, with_value}
use Rattle.occ_meaning.specs.occ_syntax.Types.{all_types_kept, can_declare, types_kept}
use Rattle.occ_meaning.specs.occ_syntax.Tree.{Tree, Trees}
use Rattle.occ_meaning.specs.occ_syntax.declared.scope.Kind.{Kind}
use Rattle.occ_meaning.specs.occ_syntax.declared.scope.Kind.TheVariants.{Chan, Var}
use Rattle.occ_meaning.specs.occ_base.Width.{bits_of}
use Rattle.std.proofs.Common.{Bool, None, ap, false, nat_lt, inl, inr, not, subst, sym, true, ℕ, ◌&&◌, ◌==◌, ◌^◌, ◌||◌, ◌∙◌, ◌≡◌}
use Rattle.std.proofs.lemmas.Bool.{and_parts, cases_Bool, not_from_false, or_parts}
use Rattle.std.proofs.lemmas.Bool.Decides.{eqb_tells}

-- ---- where a name is no variable of a part

unless_parts : (Γ : Environment) (x : ℕ) (a b : Bool) → Unless Γ x (a || b) → Unless Γ x a × Unless Γ x b
unless_parts Γ x a b h = elim h [ inl k ↦ (inl (or_parts a b k).0, inl (or_parts a b k).1) | inr k ↦ (inr k, inr k) ]

unless_below : (Γ : Environment) (x y : ℕ) (kind : Kind) (b : Bool) → (x == y) ≡ false → Unless Γ x (not (x == y) && b) → Unless (with_name Γ y kind) x b
unless_below Γ x y kind b off h = elim h [ inl k ↦ inl (and_second (not (x == y)) b k (not_from_false (x == y) off)) | inr k ↦ inr (still_no_variable Γ x y kind k off) ]

unless_channel : (Γ : Environment) (x c : ℕ) (w : Width) (b : Bool) → Unless Γ x (not (x == c) && b) → Unless (with_name Γ c (Chan w None)) x b
unless_channel Γ x c w b h = elim (cases_Bool (x == c)) [ inl e ↦ inr (no_variable_at Γ x c w e) | inr e ↦ unless_below Γ x c (Chan w None) b e h ]

-- ---- a variable that holds a value

held_itself : (x : ℕ) (w : Width) (u : ℕ) (m : Meaning) (Γ : Environment) (s : Values) (v : ℕ) (t : Trace) (o : Outcome)
    → Holding x w u m Γ s t o → Holding x w u m Γ (with_value s x v) t (with_result x v o)
held_itself x w u m Γ s v t o (Holding.at_end {s' = r} s1 e d) =
    let P : Values → Type 0 = λ q. m.does (with_name Γ x (Var w)) q t (ended s1) in
    Holding.at_end s1 (ap (λ q. with_value q x v) e ∙ (value_again s1 x (s x) v ∙ ap (λ n. with_value s1 x n) (sym (value_at s x v)))) (subst P (sym (value_again s x v u)) d)
held_itself x w u m Γ s v t o (Holding.at_rest {X = X} d) =
    let P : Values → Type 0 = λ q. m.does (with_name Γ x (Var w)) q t (refusing X) in
    Holding.at_rest (subst P (sym (value_again s x v u)) d)

held_other : (x y : ℕ) (w : Width) (u : ℕ) (m : Meaning) → (x == y) ≡ false → Ignores x m
    → (Γ : Environment) (s : Values) (v : ℕ) (t : Trace) (o : Outcome) → Holding y w u m Γ s t o
    → Holding y w u m Γ (with_value s x v) t (with_result x v o)
held_other x y w u m off hm Γ s v t o (Holding.at_end {s' = r} s1 e d) =
    let P : Values → Type 0 = λ q. m.does (with_name Γ y (Var w)) q t (ended (with_value s1 x v)) in
    Holding.at_end (with_value s1 x v)
    (ap (λ q. with_value q x v) e ∙ (sym (swap_values s1 x v y (s y) off) ∙ ap (λ n. with_value (with_value s1 x v) y n) (sym (value_off s x v y (off_turned x y off)))))
    (subst P (sym (swap_values s x v y u off)) (hm.ignored (with_name Γ y (Var w)) (with_value s y u) v t (ended s1) d))
held_other x y w u m off hm Γ s v t o (Holding.at_rest {X = X} d) =
    let P : Values → Type 0 = λ q. m.does (with_name Γ y (Var w)) q t (refusing X) in
    Holding.at_rest (subst P (sym (swap_values s x v y u off)) (hm.ignored (with_name Γ y (Var w)) (with_value s y u) v t (refusing X) d))

-- a variable that holds a value is ignored with all else that the inside ignores
holding_ignores : (x y : ℕ) (w : Width) (u : ℕ) (m : Meaning) → ((x == y) ≡ false → Ignores x m) → Ignores x (holding y w u m)
holding_ignores x y w u m hm = elim (eqb_tells x y) [
  | inl e ↦ (let P : ℕ → Type 0 = λ z. Ignores x (holding z w u m) in subst P e.1 (record { ignored = held_itself x w u m }))
  | inr e ↦ record { ignored = held_other x y w u m e.0 (hm e.0) }
]

held_end : (x y : ℕ) (w : Width) (u : ℕ) (m : Meaning) → ((x == y) ≡ false → KeepsValue x m)
    → (Γ : Environment) (s : Values) (t : Trace) (s' : Values) → Holding y w u m Γ s t (ended s') → s' x ≡ s x
held_end x y w u m hm Γ s t s' (Holding.at_end s1 e d) =
    ap (λ r. r x) e ∙ elim (eqb_tells x y) [
      | inl k ↦ if_true (x == y) (s y) (s1 x) k.0 ∙ ap s (sym k.1)
      | inr k ↦ if_false (x == y) (s y) (s1 x) k.0 ∙ ((hm k.0).value (with_name Γ y (Var w)) (with_value s y u) t s1 d ∙ value_off s y u x k.0)
    ]

-- and so it is kept
holding_value : (x y : ℕ) (w : Width) (u : ℕ) (m : Meaning) → ((x == y) ≡ false → KeepsValue x m) → KeepsValue x (holding y w u m)
holding_value x y w u m hm = record { value = held_end x y w u m hm }

channel_end : (x c : ℕ) (w : Width) (m : Meaning) → KeepsValue x m → (Γ : Environment) (s : Values) (t : Trace) (s' : Values)
    → WithChannel c w m Γ s t (ended s') → s' x ≡ s x
channel_end x c w m hm Γ s t s' (WithChannel.at_end silent d) = hm.value (with_name Γ c (Chan w None)) s t s' d

-- a channel keeps what the inside keeps
channel_value : (x c : ℕ) (w : Width) (m : Meaning) → KeepsValue x m → KeepsValue x (over_channel c w m)
channel_value x c w m hm = record { value = channel_end x c w m hm }

skip_ignores : (x : ℕ) → Ignores x (at_once (λ Γ s. s))
skip_ignores x = record { ignored = λ Γ s v t o d. (d.0, ap (with_result x v) d.1) }

skip_value : (x : ℕ) → KeepsValue x (at_once (λ Γ s. s))
skip_value x = record { value = λ Γ s t s' d. ap (λ r. r x) (ended_is d.1) }
  where
    ended_is : {a b : Values} → ended a ≡ ended b → a ≡ b
    ended_is h = cc

-- ---- control trees

-- a part keeps the value of what is no variable of it
part_keeps : (p : Tree) (Θ : Environment) → types_kept p Θ ≡ true → (x : ℕ) → Unless Θ x (free p x) → KeepsValue x (meaning p)
part_keeps p Θ h x k = part_value p Θ h x (elim k [ inl i ↦ not_written p x i | inr i ↦ written_in_scope p Θ h x i ])

-- and so do parts in turn
turn_keeps : (ps : Trees) (Θ : Environment) → all_types_kept ps Θ ≡ true → (x : ℕ) → Unless Θ x (free_in_some ps x) → KeepsValue x (in_turn ps)
turn_keeps ps Θ h x k = turn_value ps Θ h x (elim k [ inl i ↦ none_written ps x i | inr i ↦ some_written_in_scope ps Θ h x i ])

mutual
  -- a control tree ignores and keeps what is no variable of it
  pub control_ignores : (C : Control) (Θ : Environment) → types_held C Θ ≡ true → (x : ℕ) → Unless Θ x (names_free C x)
      → Ignores x (controlled C) × KeepsValue x (controlled C)
  control_ignores done Θ h x k = (skip_ignores x, skip_value x)
  control_ignores (unbegun p) Θ h x k = (part_ignores p Θ h x k, part_keeps p Θ h x k)
  control_ignores (after C ps) Θ h x k =
      let j = and_parts (types_held C Θ) (all_types_kept ps Θ) h in
      let i = unless_parts Θ x (names_free C x) (free_in_some ps x) k in
      let r = control_ignores C Θ j.0 x i.0 in
      (followed_ignores x (controlled C) (in_turn ps) r.0 (turn_ignores ps Θ j.1 x i.1), followed_value x (controlled C) (in_turn ps) r.1 (turn_keeps ps Θ j.1 x i.1))
  control_ignores (both Cs) Θ h x k = all_ignore Cs Θ h x k
  control_ignores (local y w v C) Θ h x k =
      let Δ : Environment = with_name Θ y (Var w) in
      let j = (and_parts (can_declare Θ y w && nat_lt v (2 ^ bits_of w)) (types_held C Δ) h).1 in (
        holding_ignores x y w v (controlled C) (λ off. (control_ignores C Δ j x (unless_below Θ x y (Var w) (names_free C x) off k)).0),
        holding_value x y w v (controlled C) (λ off. (control_ignores C Δ j x (unless_below Θ x y (Var w) (names_free C x) off k)).1),
      )
  control_ignores (channel c w C) Θ h x k =
      let Δ : Environment = with_name Θ c (Chan w None) in
      let j = (and_parts (can_declare Θ c w) (types_held C Δ) h).1 in
      let r = control_ignores C Δ j x (unless_channel Θ x c w (names_free C x) k) in
      (channel_ignores x c w (controlled C) r.0, channel_value x c w (controlled C) r.1)

  -- and so do trees at once
  pub all_ignore : (Cs : Controls) (Θ : Environment) → all_types_held Cs Θ ≡ true → (x : ℕ) → Unless Θ x (some_name_free Cs x)
      → Ignores x (all_controlled Cs) × KeepsValue x (all_controlled Cs)
  all_ignore no_control Θ h x k = (skip_ignores x, skip_value x)
  all_ignore (and_control C Cs) Θ h x k =
      let j = and_parts (types_held C Θ) (all_types_held Cs Θ) h in
      let i = unless_parts Θ x (names_free C x) (some_name_free Cs x) k in
      let r = control_ignores C Θ j.0 x i.0 in
      let q = all_ignore Cs Θ j.1 x i.1 in
      (beside_ignores x (controlled C) (all_controlled Cs) r.0 q.0, beside_value x (controlled C) (all_controlled Cs) r.1 q.1)
