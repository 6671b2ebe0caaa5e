-- Declarations that aren't used, that change places, and that move past parts which don't have the name.
-- ---- one operator in another
use Rattle.occ_syntax.specs.occ_base.Width.{bits_of}
use Rattle.occ_syntax.specs.occ_base.declared.event.Dir.{Dir}
use Rattle.occ_syntax.specs.occ_base.declared.event.Event.{Event}
use Rattle.occ_syntax.specs.occ_base.declared.width.Width.{Width}
use Rattle.occ_meaning.proofs.Beside.{Gives, done, same_by, shrink}
use Rattle.occ_meaning.proofs.Ends.{part_uses}
use Rattle.occ_meaning.proofs.Facts.{clash, name_off, off_turned, value_off}
use Rattle.occ_meaning.proofs.Frame.{KeepsValue, part_value}
use Rattle.occ_meaning.proofs.Free.{no_end, not_written}
use Rattle.occ_meaning.proofs.OffNames.{Moves, agree_turned, part_moves}
use Rattle.occ_meaning.proofs.OffValues.{Ignores, part_ignores, swap_values, value_again, value_back}
use Rattle.occ_meaning.proofs.Redeclared.{silent_unused}
use Rattle.occ_meaning.proofs.Refusals.{Extends, part_more, part_shrinks}
use Rattle.occ_meaning.specs.Foundation.{AgreeOff, with_result}
use Rattle.occ_syntax.specs.Meaning.{Meaning, Outcome, WithChannel, WithVariable, ended, is_silent, meaning, off_channel, over_channel, over_variable, refusing}
use Rattle.occ_syntax.specs.Names.{free, uses_end}
use Rattle.occ_syntax.specs.Same.{SAME}
use Rattle.occ_syntax.specs.Scopes.{Environment, EventSet, Trace, Values, with_name, with_value}
use Rattle.occ_syntax.specs.Tree.{Tree, connect, declare, skip}
use Rattle.occ_syntax.specs.Types.{types_kept}
use Rattle.occ_syntax.specs.declared.scope.Kind.{Kind}
use Rattle.occ_syntax.specs.declared.scope.Kind.TheVariants.{Chan, Var}
use Rattle.std.proofs.Common.{Bool, None, Option, Some, ap, false, if◌then◌else◌, inl, inr, not, refl, subst, sym, true, ℕ, ◌&&◌, ◌<◌, ◌==◌, ◌^◌, ◌∙◌, ◌≡◌}
use Rattle.std.proofs.lemmas.Bool.{and_from, and_parts, eq-eqb, eqb-true, not_from_false}
use Rattle.std.proofs.lemmas.Bool.Decides.{eqb_tells}
use Rattle.std.proofs.lemmas.Nat.{pow_pos}
use mathlib.Core.Path.{fun_ext}

variable_gives_at : (Γ : Environment) (x : ℕ) (w : Width) (m n : Meaning) → Gives (with_name Γ x (Var w)) m n
    → (s : Values) (t : Trace) (o : Outcome) → WithVariable x w m Γ s t o → WithVariable x w n Γ s t o
variable_gives_at Γ x w m n h s t o (WithVariable.at_end v s1 lt e d) = WithVariable.at_end v s1 lt e (h.gives (with_value s x v) t (ended s1) d)
variable_gives_at Γ x w m n h s t o (WithVariable.at_rest {X = X} v lt d) = WithVariable.at_rest v lt (h.gives (with_value s x v) t (refusing X) d)

pub variable_gives : (Γ : Environment) (x : ℕ) (w : Width) (m n : Meaning) → Gives (with_name Γ x (Var w)) m n
    → Gives Γ (over_variable x w m) (over_variable x w n)
variable_gives Γ x w m n h = record { gives = variable_gives_at Γ x w m n h }

channel_gives_at : (Γ : Environment) (c : ℕ) (w : Width) (m n : Meaning) → Gives (with_name Γ c (Chan w None)) m n
    → (s : Values) (t : Trace) (o : Outcome) → WithChannel c w m Γ s t o → WithChannel c w n Γ s t o
channel_gives_at Γ c w m n h s t o (WithChannel.at_end {s1 = r} silent d) = WithChannel.at_end silent (h.gives s t (ended r) d)
channel_gives_at Γ c w m n h s t o (WithChannel.at_rest {X = X} silent d) = WithChannel.at_rest silent (h.gives s t (refusing (off_channel c X)) d)

pub channel_gives : (Γ : Environment) (c : ℕ) (w : Width) (m n : Meaning) → Gives (with_name Γ c (Chan w None)) m n
    → Gives Γ (over_channel c w m) (over_channel c w n)
channel_gives Γ c w m n h = record { gives = channel_gives_at Γ c w m n h }

-- ---- a part that doesn't have the name

-- what such a part does in the scope of the name, it does outside, and the other way round
pub record Foreign (x : ℕ) (m : Meaning) : Type 0 where
  pub ignores : Ignores x m
  pub keeps : KeepsValue x m
  pub moves : (Γ Δ : Environment) → AgreeOff x Γ Δ → Moves Γ Δ m

pub foreign_part : (p : Tree) (Θ : Environment) → types_kept p Θ ≡ true → (x : ℕ) → free p x ≡ false → Foreign x (meaning p)
foreign_part p Θ t x h = record { ignores = part_ignores p Θ t x (inl h); keeps = part_value p Θ t x (not_written p x h); moves = λ Γ Δ off. part_moves p Θ t x h Γ Δ off }

pub foreign_skip : (x : ℕ) → Foreign x done
foreign_skip x = foreign_part skip (λ y. None) refl x refl

pub declared_off : (Γ : Environment) (x : ℕ) (kind : Kind) → AgreeOff x Γ (with_name Γ x kind)
declared_off Γ x kind y off = sym (name_off Γ x kind y off)

value_returned : (s : Values) (x v : ℕ) → with_value (with_value s x v) x (s x) ≡ s
value_returned s x v = value_again s x v (s x) ∙ value_back s x

-- out of the scope, back to the outer values
pub foreign_out : (x : ℕ) (m : Meaning) → Foreign x m → (Γ : Environment) (kind : Kind) (s : Values) (v : ℕ) (t : Trace) (o : Outcome)
    → m.does (with_name Γ x kind) (with_value s x v) t o → m.does Γ s t (with_result x (s x) o)
foreign_out x m h Γ kind s v t o d =
    let P : Values → Type 0 = λ r. m.does Γ r t (with_result x (s x) o) in
    subst P (value_returned s x v) (h.ignores.ignored Γ (with_value s x v) (s x) t o ((h.moves (with_name Γ x kind) Γ (agree_turned x Γ (with_name Γ x kind) (declared_off Γ x kind))).moved (with_value s x v) t o d))

pub foreign_in : (x : ℕ) (m : Meaning) → Foreign x m → (Γ : Environment) (kind : Kind) (s : Values) (v : ℕ) (t : Trace) (o : Outcome)
    → m.does Γ s t o → m.does (with_name Γ x kind) (with_value s x v) t (with_result x v o)
foreign_in x m h Γ kind s v t o d = h.ignores.ignored (with_name Γ x kind) s v t o ((h.moves Γ (with_name Γ x kind) (declared_off Γ x kind)).moved s t o d)

end_kept : (x : ℕ) (m : Meaning) → Foreign x m → (Γ : Environment) (s : Values) (t : Trace) (s' : Values) → m.does Γ s t (ended s')
    → with_value s' x (s x) ≡ s'
end_kept x m h Γ s t s' d = ap (λ n. with_value s' x n) (sym (h.keeps.value Γ s t s' d)) ∙ value_back s' x

-- ---- a variable that isn't used

unused_out : (x : ℕ) (w : Width) (m : Meaning) → Foreign x m → (Γ : Environment) (s : Values) (t : Trace) (o : Outcome)
    → WithVariable x w m Γ s t o → m.does Γ s t o
unused_out x w m h Γ s t o (WithVariable.at_end v s1 lt e d) =
    let P : Values → Type 0 = λ r. m.does Γ s t (ended r) in subst P (sym e) (foreign_out x m h Γ (Var w) s v t (ended s1) d)
unused_out x w m h Γ s t o (WithVariable.at_rest {X = X} v lt d) = foreign_out x m h Γ (Var w) s v t (refusing X) d

unused_in : (x : ℕ) (w : Width) (m : Meaning) → Foreign x m → (Γ : Environment) (s : Values) (t : Trace) (o : Outcome) → m.does Γ s t o
    → WithVariable x w m Γ s t o
unused_in x w m h Γ s t (ended r) d =
    WithVariable.at_end 0 (with_value r x 0) (pow_pos (bits_of w)) (sym (value_again r x 0 (s x) ∙ end_kept x m h Γ s t r d)) (foreign_in x m h Γ (Var w) s 0 t (ended r) d)
unused_in x w m h Γ s t (refusing X) d = WithVariable.at_rest 0 (pow_pos (bits_of w)) (foreign_in x m h Γ (Var w) s 0 t (refusing X) d)

pub variable_unused : (Γ : Environment) (x : ℕ) (w : Width) (p : Tree) (Θ : Environment) → types_kept p Θ ≡ true → free p x ≡ false
    → SAME Γ (declare x w p) p
variable_unused Γ x w p Θ t h =
    let f = foreign_part p Θ t x h in
    same_by Γ (declare x w p) p (record { gives = unused_out x w (meaning p) f Γ }) (record { gives = unused_in x w (meaning p) f Γ })

-- ---- a channel that isn't used

adds_channel : (c : ℕ) (u : ℕ → Dir → Bool) → ((d : Dir) → u c d ≡ false) → (X : EventSet) → Extends u (off_channel c X) X
adds_channel c u unused X e h = elim (eqb_tells e.chan.0 c) [
  | inl k ↦ inr (let P : ℕ → Type 0 = λ n. u n e.dir ≡ false in subst P (sym k.1) (unused e.dir))
  | inr k ↦ inl (and_from (not (e.chan.0 == c)) (X e) (not_from_false (e.chan.0 == c) k.0) h)
]

less_channel : (c : ℕ) (X : EventSet) (e : Event) → off_channel c X e ≡ true → X e ≡ true
less_channel c X e h = (and_parts (not (e.chan.0 == c)) (X e) h).1

channel_out : (c : ℕ) (w : Width) (p : Tree) (Θ : Environment) → types_kept p Θ ≡ true → free p c ≡ false
    → (Γ : Environment) (s : Values) (t : Trace) (o : Outcome) → WithChannel c w (meaning p) Γ s t o → (meaning p).does Γ s t o
channel_out c w p Θ t h Γ s r o (WithChannel.at_end {s1 = u} silent d) =
    (part_moves p Θ t c h (with_name Γ c (Chan w None)) Γ (agree_turned c Γ (with_name Γ c (Chan w None)) (declared_off Γ c (Chan w None)))).moved s r (ended u) d
channel_out c w p Θ t h Γ s r o (WithChannel.at_rest {X = X} silent d) =
    (part_more p Θ t).more Γ s r (off_channel c X) X (adds_channel c (uses_end p) (λ i. no_end p c i h) X)
    ((part_moves p Θ t c h (with_name Γ c (Chan w None)) Γ (agree_turned c Γ (with_name Γ c (Chan w None)) (declared_off Γ c (Chan w None)))).moved s r (refusing (off_channel c X)) d)

channel_in : (c : ℕ) (w : Width) (p : Tree) (Θ : Environment) → types_kept p Θ ≡ true → free p c ≡ false
    → (Γ : Environment) (s : Values) (t : Trace) (o : Outcome) → (meaning p).does Γ s t o → WithChannel c w (meaning p) Γ s t o
channel_in c w p Θ t h Γ s r (ended u) d =
    WithChannel.at_end (silent_unused c (uses_end p) (λ i. no_end p c i h) r ((part_uses p Θ t).on_ends Γ s r (ended u) d))
    ((part_moves p Θ t c h Γ (with_name Γ c (Chan w None)) (declared_off Γ c (Chan w None))).moved s r (ended u) d)
channel_in c w p Θ t h Γ s r (refusing X) d =
    WithChannel.at_rest (silent_unused c (uses_end p) (λ i. no_end p c i h) r ((part_uses p Θ t).on_ends Γ s r (refusing X) d))
    (shrink (meaning p) (part_shrinks p) (with_name Γ c (Chan w None)) s r X (off_channel c X) (less_channel c X)
    ((part_moves p Θ t c h Γ (with_name Γ c (Chan w None)) (declared_off Γ c (Chan w None))).moved s r (refusing X) d))

pub channel_unused : (Γ : Environment) (c : ℕ) (w : Width) (p : Tree) (Θ : Environment) → types_kept p Θ ≡ true → free p c ≡ false
    → SAME Γ (connect c w p) p
channel_unused Γ c w p Θ t h = same_by Γ (connect c w p) p (record { gives = channel_out c w p Θ t h Γ }) (record { gives = channel_in c w p Θ t h Γ })

-- ---- two declarations change places

swap_kinds : (p q : Bool) (a v c : Option Kind) → (p ≡ true → q ≡ true → ⊥)
    → (if p then a else if q then v else c) ≡ (if q then v else if p then a else c)
swap_kinds true true a v c no_both = absurd (no_both refl refl)
swap_kinds true false a v c no_both = refl
swap_kinds false true a v c no_both = refl
swap_kinds false false a v c no_both = refl

pub swap_names : (Γ : Environment) (x y : ℕ) (k l : Kind) → (x == y) ≡ false → with_name (with_name Γ x k) y l ≡ with_name (with_name Γ y l) x k
swap_names Γ x y k l off = fun_ext (λ z. swap_kinds (z == y) (z == x) (Some l) (Some k) (Γ z) (λ h i. clash (x == y) (eq-eqb x y (sym (eqb-true z x i) ∙ eqb-true z y h)) off))

module _ (x y : ℕ) (off : (x == y) ≡ false) (w v : Width) (m : Meaning) (Γ : Environment) where
  variables_inner : (s : Values) (a : ℕ) → a < 2 ^ bits_of w → (t : Trace) (o : Outcome)
      → WithVariable y v m (with_name Γ x (Var w)) (with_value s x a) t o
      → WithVariable y v (over_variable x w m) Γ s t (with_result x (s x) o)
  variables_inner s a lt t o (WithVariable.at_end {s' = r} b s2 lb e d) =
      let P : Environment → Type 0 = λ Ψ. m.does Ψ (with_value (with_value s x a) y b) t (ended s2) in
      let Q : Values → Type 0 = λ q. m.does (with_name (with_name Γ y (Var v)) x (Var w)) q t (ended s2) in
      let ends_in : with_value r x (s x) ≡ with_value (with_value s2 x (with_value s y b x)) y (s y) =
      (ap (λ q. with_value q x (s x)) e ∙ ap (λ n. with_value (with_value s2 y n) x (s x)) (value_off s x a y (off_turned x y off)))
      ∙ (swap_values s2 y (s y) x (s x) (off_turned x y off) ∙ ap (λ n. with_value (with_value s2 x n) y (s y)) (sym (value_off s y b x off))) in
      WithVariable.at_end b (with_value s2 x (with_value s y b x)) lb ends_in
      (WithVariable.at_end a s2 lt refl (subst Q (swap_values s x a y b off) (subst P (swap_names Γ x y (Var w) (Var v) off) d)))
  variables_inner s a lt t o (WithVariable.at_rest {X = X} b lb d) =
      let P : Environment → Type 0 = λ Ψ. m.does Ψ (with_value (with_value s x a) y b) t (refusing X) in
      let Q : Values → Type 0 = λ q. m.does (with_name (with_name Γ y (Var v)) x (Var w)) q t (refusing X) in
      WithVariable.at_rest b lb (WithVariable.at_rest a lt (subst Q (swap_values s x a y b off) (subst P (swap_names Γ x y (Var w) (Var v) off) d)))

  variables_swap : (s : Values) (t : Trace) (o : Outcome) → WithVariable x w (over_variable y v m) Γ s t o
      → WithVariable y v (over_variable x w m) Γ s t o
  variables_swap s t o (WithVariable.at_end {s' = r} a s1 lt e d) =
      let P : Values → Type 0 = λ q. WithVariable y v (over_variable x w m) Γ s t (ended q) in subst P (sym e) (variables_inner s a lt t (ended s1) d)
  variables_swap s t o (WithVariable.at_rest {X = X} a lt d) = variables_inner s a lt t (refusing X) d

  -- a variable outside a channel, and inside
  into_channel : (s : Values) (a : ℕ) → a < 2 ^ bits_of w → (t : Trace) (o : Outcome)
      → WithChannel y v m (with_name Γ x (Var w)) (with_value s x a) t o
      → WithChannel y v (over_variable x w m) Γ s t (with_result x (s x) o)
  into_channel s a lt t o (WithChannel.at_end {s1 = r} silent d) =
      let P : Environment → Type 0 = λ Ψ. m.does Ψ (with_value s x a) t (ended r) in
      WithChannel.at_end silent (WithVariable.at_end a r lt refl (subst P (swap_names Γ x y (Var w) (Chan v None) off) d))
  into_channel s a lt t o (WithChannel.at_rest {X = X} silent d) =
      let P : Environment → Type 0 = λ Ψ. m.does Ψ (with_value s x a) t (refusing (off_channel y X)) in
      WithChannel.at_rest silent (WithVariable.at_rest a lt (subst P (swap_names Γ x y (Var w) (Chan v None) off) d))

  variable_into_channel : (s : Values) (t : Trace) (o : Outcome) → WithVariable x w (over_channel y v m) Γ s t o
      → WithChannel y v (over_variable x w m) Γ s t o
  variable_into_channel s t o (WithVariable.at_end a s1 lt e d) =
      let P : Values → Type 0 = λ q. WithChannel y v (over_variable x w m) Γ s t (ended q) in subst P (sym e) (into_channel s a lt t (ended s1) d)
  variable_into_channel s t o (WithVariable.at_rest {X = X} a lt d) = into_channel s a lt t (refusing X) d

  ended_out : (s : Values) (t : Trace) (r : Values) → is_silent y t ≡ true → WithVariable x w m (with_name Γ y (Chan v None)) s t (ended r)
      → WithVariable x w (over_channel y v m) Γ s t (ended r)
  ended_out s t r silent (WithVariable.at_end a s1 lt e d) =
      let P : Environment → Type 0 = λ Ψ. m.does Ψ (with_value s x a) t (ended s1) in
      WithVariable.at_end a s1 lt e (WithChannel.at_end silent (subst P (sym (swap_names Γ x y (Var w) (Chan v None) off)) d))

  resting_out : (s : Values) (t : Trace) (X Y : EventSet) → Y ≡ off_channel y X → is_silent y t ≡ true
      → WithVariable x w m (with_name Γ y (Chan v None)) s t (refusing Y) → WithVariable x w (over_channel y v m) Γ s t (refusing X)
  resting_out s t X Y is silent (WithVariable.at_rest a lt d) =
      let P : Environment → Type 0 = λ Ψ. m.does Ψ (with_value s x a) t (refusing (off_channel y X)) in
      let Q : EventSet → Type 0 = λ Z. m.does (with_name (with_name Γ y (Chan v None)) x (Var w)) (with_value s x a) t (refusing Z) in
      WithVariable.at_rest a lt (WithChannel.at_rest silent (subst P (sym (swap_names Γ x y (Var w) (Chan v None) off)) (subst Q is d)))

  channel_into_variable : (s : Values) (t : Trace) (o : Outcome) → WithChannel y v (over_variable x w m) Γ s t o
      → WithVariable x w (over_channel y v m) Γ s t o
  channel_into_variable s t o (WithChannel.at_end {s1 = r} silent d) = ended_out s t r silent d
  channel_into_variable s t o (WithChannel.at_rest {X = X} silent d) = resting_out s t X (off_channel y X) refl silent d

  -- two channels
  off_both : (X : EventSet) → off_channel y (off_channel x X) ≡ off_channel x (off_channel y X)
  off_both X = fun_ext (λ e. swap_tests (not (e.chan.0 == y)) (not (e.chan.0 == x)) (X e))
    where
      swap_tests : (a b c : Bool) → (a && (b && c)) ≡ (b && (a && c))
      swap_tests true true c = refl
      swap_tests true false c = refl
      swap_tests false true c = refl
      swap_tests false false c = refl

  channel_ended : (s : Values) (t : Trace) (r : Values) → is_silent x t ≡ true
      → WithChannel y v m (with_name Γ x (Chan w None)) s t (ended r) → WithChannel y v (over_channel x w m) Γ s t (ended r)
  channel_ended s t r silent (WithChannel.at_end other d) =
      let P : Environment → Type 0 = λ Ψ. m.does Ψ s t (ended r) in WithChannel.at_end other (WithChannel.at_end silent (subst P (swap_names Γ x y (Chan w None) (Chan v None) off) d))

  channel_resting : (s : Values) (t : Trace) (X Y : EventSet) → Y ≡ off_channel x X → is_silent x t ≡ true
      → WithChannel y v m (with_name Γ x (Chan w None)) s t (refusing Y) → WithChannel y v (over_channel x w m) Γ s t (refusing X)
  channel_resting s t X Y is silent (WithChannel.at_rest other d) =
      let P : Environment → Type 0 = λ Ψ. m.does Ψ s t (refusing (off_channel x (off_channel y X))) in
      let Q : EventSet → Type 0 = λ Z. m.does (with_name (with_name Γ x (Chan w None)) y (Chan v None)) s t (refusing Z) in
      WithChannel.at_rest other (WithChannel.at_rest silent (subst P (swap_names Γ x y (Chan w None) (Chan v None) off) (subst Q (ap (off_channel y) is ∙ off_both X) d)))

  channels_swap : (s : Values) (t : Trace) (o : Outcome) → WithChannel x w (over_channel y v m) Γ s t o → WithChannel y v (over_channel x w m) Γ s t o
  channels_swap s t o (WithChannel.at_end {s1 = r} silent d) = channel_ended s t r silent d
  channels_swap s t o (WithChannel.at_rest {X = X} silent d) = channel_resting s t X (off_channel x X) refl silent d

pub variables_swapped : (Γ : Environment) (x y : ℕ) (w v : Width) (p : Tree) → (x == y) ≡ false
    → SAME Γ (declare x w (declare y v p)) (declare y v (declare x w p))
variables_swapped Γ x y w v p off =
    same_by Γ (declare x w (declare y v p)) (declare y v (declare x w p)) (record { gives = λ s t o d. variables_swap x y off w v (meaning p) Γ s t o d }) (record { gives = λ s t o d. variables_swap y x (off_turned x y off) v w (meaning p) Γ s t o d })

pub channels_swapped : (Γ : Environment) (c b : ℕ) (w v : Width) (p : Tree) → (c == b) ≡ false
    → SAME Γ (connect c w (connect b v p)) (connect b v (connect c w p))
channels_swapped Γ c b w v p off =
    same_by Γ (connect c w (connect b v p)) (connect b v (connect c w p)) (record { gives = λ s t o d. channels_swap c b off w v (meaning p) Γ s t o d }) (record { gives = λ s t o d. channels_swap b c (off_turned c b off) v w (meaning p) Γ s t o d })

pub variable_and_channel_swapped : (Γ : Environment) (x c : ℕ) (w v : Width) (p : Tree) → (x == c) ≡ false
    → SAME Γ (declare x w (connect c v p)) (connect c v (declare x w p))
variable_and_channel_swapped Γ x c w v p off =
    same_by Γ (declare x w (connect c v p)) (connect c v (declare x w p)) (record { gives = λ s t o d. variable_into_channel x c off w v (meaning p) Γ s t o d }) (record { gives = λ s t o d. channel_into_variable x c off w v (meaning p) Γ s t o d })
