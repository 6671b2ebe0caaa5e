-- Declarations and SEQ: a declaration moves past a part that doesn't have its name, and a channel is declared for each part.
use Rattle.occ_syntax.specs.occ_base.Width.{bits_of}
use Rattle.occ_syntax.specs.occ_base.declared.width.Width.{Width}
use Rattle.occ_meaning.proofs.Beside.{Gives, done, gives_itself, gives_through, same_by}
use Rattle.occ_meaning.proofs.Declared.{Foreign, declared_off, foreign_in, foreign_out, foreign_part, foreign_skip}
use Rattle.occ_meaning.proofs.Facts.{value_at}
use Rattle.occ_meaning.proofs.OffNames.{agree_turned}
use Rattle.occ_meaning.proofs.OffValues.{value_again, value_back}
use Rattle.occ_meaning.proofs.Sequence.{followed_gives}
use Rattle.occ_meaning.specs.Foundation.{with_result}
use Rattle.occ_syntax.specs.Meaning.{Followed, Meaning, Outcome, WithChannel, WithVariable, ended, followed, in_first, in_second, is_silent, meaning, off_channel, over_channel, over_variable, refusing}
use Rattle.occ_syntax.specs.Names.{free}
use Rattle.occ_syntax.specs.Same.{SAME}
use Rattle.occ_syntax.specs.Scopes.{Environment, EventSet, Trace, Values, with_name, with_value}
use Rattle.occ_syntax.specs.Tree.{Tree, and_tree, connect, declare, no_tree, seq}
use Rattle.occ_syntax.specs.Types.{types_kept}
use Rattle.occ_syntax.specs.declared.scope.Kind.TheVariants.{Chan, Var}
use Rattle.std.proofs.Common.{None, [], ap, false, not, refl, subst, sym, true, ℕ, ◌++◌, ◌<◌, ◌==◌, ◌^◌, ◌∙◌, ◌∷◌, ◌≡◌}
use Rattle.std.proofs.lemmas.Bool.{and_from, and_parts, or_from}
use Rattle.std.proofs.lemmas.Nat.{pow_pos}

module _ (x : ℕ) (w : Width) (m n : Meaning) (Γ : Environment) where
  -- ---- past the first part

  first_out : Foreign x m → (s : Values) (v : ℕ) → v < 2 ^ bits_of w → (t : Trace) (o : Outcome)
      → Followed m n (with_name Γ x (Var w)) (with_value s x v) t o → Followed m (over_variable x w n) Γ s t (with_result x (s x) o)
  first_out h s v lt t o (in_first {X = X} d) = in_first (foreign_out x m h Γ (Var w) s v t (refusing X) d)
  first_out h s v lt t o (in_second t1 t2 s2 e d1 d2) =
      in_second t1 t2 (with_value s2 x (s x)) e (foreign_out x m h Γ (Var w) s v t1 (ended s2) d1) (go_on s2 t2 o (h.keeps.value (with_name Γ x (Var w)) (with_value s x v) t1 s2 d1 ∙ value_at s x v) d2)
    where
      go_on : (s2 : Values) (t2 : Trace) (o : Outcome) → s2 x ≡ v → n.does (with_name Γ x (Var w)) s2 t2 o
          → WithVariable x w n Γ (with_value s2 x (s x)) t2 (with_result x (s x) o)
      go_on s2 t2 (ended r) kept d =
          let P : Values → Type 0 = λ q. n.does (with_name Γ x (Var w)) q t2 (ended r) in
          WithVariable.at_end v r lt (ap (λ k. with_value r x k) (sym (value_at s2 x (s x)))) (subst P (sym (value_again s2 x (s x) v ∙ (ap (λ k. with_value s2 x k) (sym kept) ∙ value_back s2 x))) d)
      go_on s2 t2 (refusing X) kept d =
          let P : Values → Type 0 = λ q. n.does (with_name Γ x (Var w)) q t2 (refusing X) in
          WithVariable.at_rest v lt (subst P (sym (value_again s2 x (s x) v ∙ (ap (λ k. with_value s2 x k) (sym kept) ∙ value_back s2 x))) d)

  past_first_out : Foreign x m → (s : Values) (t : Trace) (o : Outcome) → WithVariable x w (followed m n) Γ s t o
      → Followed m (over_variable x w n) Γ s t o
  past_first_out h s t o (WithVariable.at_end v s1 lt e d) = let P : Values → Type 0 = λ q. Followed m (over_variable x w n) Γ s t (ended q) in subst P (sym e) (first_out h s v lt t (ended s1) d)
  past_first_out h s t o (WithVariable.at_rest {X = X} v lt d) = first_out h s v lt t (refusing X) d

  second_in : Foreign x m → (s s2 : Values) (t t1 t2 : Trace) (o : Outcome) → t ≡ t1 ++ t2 → m.does Γ s t1 (ended s2)
      → WithVariable x w n Γ s2 t2 o → WithVariable x w (followed m n) Γ s t o
  second_in h s s2 t t1 t2 o e d1 (WithVariable.at_end v s1 lt i d2) =
      WithVariable.at_end v s1 lt (i ∙ ap (λ k. with_value s1 x k) (h.keeps.value Γ s t1 s2 d1)) (in_second t1 t2 (with_value s2 x v) e (foreign_in x m h Γ (Var w) s v t1 (ended s2) d1) d2)
  second_in h s s2 t t1 t2 o e d1 (WithVariable.at_rest v lt d2) = WithVariable.at_rest v lt (in_second t1 t2 (with_value s2 x v) e (foreign_in x m h Γ (Var w) s v t1 (ended s2) d1) d2)

  past_first_in : Foreign x m → (s : Values) (t : Trace) (o : Outcome) → Followed m (over_variable x w n) Γ s t o
      → WithVariable x w (followed m n) Γ s t o
  past_first_in h s t o (in_first {X = X} d) = WithVariable.at_rest 0 (pow_pos (bits_of w)) (in_first (foreign_in x m h Γ (Var w) s 0 t (refusing X) d))
  past_first_in h s t o (in_second t1 t2 s2 e d1 d2) = second_in h s s2 t t1 t2 o e d1 d2

  -- ---- past the second part

  last_out : Foreign x n → (s : Values) (v : ℕ) → v < 2 ^ bits_of w → (t : Trace) (o : Outcome)
      → Followed m n (with_name Γ x (Var w)) (with_value s x v) t o → Followed (over_variable x w m) n Γ s t (with_result x (s x) o)
  last_out h s v lt t o (in_first d) = in_first (WithVariable.at_rest v lt d)
  last_out h s v lt t o (in_second t1 t2 s2 e d1 d2) =
      let outer : n.does Γ (with_value s2 x (s x)) t2 (with_result x (s x) o) =
      h.ignores.ignored Γ s2 (s x) t2 o ((h.moves (with_name Γ x (Var w)) Γ (agree_turned x Γ (with_name Γ x (Var w)) (declared_off Γ x (Var w)))).moved s2 t2 o d2) in
      in_second t1 t2 (with_value s2 x (s x)) e (WithVariable.at_end v s2 lt refl d1) outer

  past_last_out : Foreign x n → (s : Values) (t : Trace) (o : Outcome) → WithVariable x w (followed m n) Γ s t o
      → Followed (over_variable x w m) n Γ s t o
  past_last_out h s t o (WithVariable.at_end v s1 lt e d) = let P : Values → Type 0 = λ q. Followed (over_variable x w m) n Γ s t (ended q) in subst P (sym e) (last_out h s v lt t (ended s1) d)
  past_last_out h s t o (WithVariable.at_rest {X = X} v lt d) = last_out h s v lt t (refusing X) d

  inner_rest : (s : Values) (t : Trace) (X : EventSet) → WithVariable x w m Γ s t (refusing X) → WithVariable x w (followed m n) Γ s t (refusing X)
  inner_rest s t X (WithVariable.at_rest v lt d) = WithVariable.at_rest v lt (in_first d)

  inner_end : Foreign x n → (s r : Values) (t t1 t2 : Trace) (o : Outcome) → t ≡ t1 ++ t2 → WithVariable x w m Γ s t1 (ended r)
      → n.does Γ r t2 o → WithVariable x w (followed m n) Γ s t o
  inner_end h s r t t1 t2 o e (WithVariable.at_end v s2 lt i d1) d2 = by_outcome o d2
    where
      start : with_value r x (s2 x) ≡ s2
      start = ap (λ q. with_value q x (s2 x)) i ∙ (value_again s2 x (s x) (s2 x) ∙ value_back s2 x)

      inside : (o : Outcome) → n.does Γ r t2 o → n.does (with_name Γ x (Var w)) s2 t2 (with_result x (s2 x) o)
      inside o d = let P : Values → Type 0 = λ q. n.does (with_name Γ x (Var w)) q t2 (with_result x (s2 x) o) in subst P start (foreign_in x n h Γ (Var w) r (s2 x) t2 o d)

      outer_value : r x ≡ s x
      outer_value = ap (λ q. q x) i ∙ value_at s2 x (s x)

      by_outcome : (o : Outcome) → n.does Γ r t2 o → WithVariable x w (followed m n) Γ s t o
      by_outcome (ended u) d =
          WithVariable.at_end v (with_value u x (s2 x)) lt
          (sym (value_again u x (s2 x) (s x) ∙ (ap (λ k. with_value u x k) (sym (h.keeps.value Γ r t2 u d ∙ outer_value)) ∙ value_back u x)))
          (in_second t1 t2 s2 e d1 (inside (ended u) d))
      by_outcome (refusing X) d = WithVariable.at_rest v lt (in_second t1 t2 s2 e d1 (inside (refusing X) d))

  past_last_in : Foreign x n → (s : Values) (t : Trace) (o : Outcome) → Followed (over_variable x w m) n Γ s t o
      → WithVariable x w (followed m n) Γ s t o
  past_last_in h s t o (in_first {X = X} d) = inner_rest s t X d
  past_last_in h s t o (in_second t1 t2 r e d1 d2) = inner_end h s r t t1 t2 o e d1 d2

  -- ---- a channel for each part

  silent_split : (t1 t2 : Trace) → is_silent x (t1 ++ t2) ≡ true → (is_silent x t1 ≡ true) × (is_silent x t2 ≡ true)
  silent_split [] t2 h = (refl, h)
  silent_split (e ∷ t1) t2 h =
      let k = and_parts (not (e.chan.0 == x)) (is_silent x (t1 ++ t2)) h in let j = silent_split t1 t2 k.1 in (and_from (not (e.chan.0 == x)) (is_silent x t1) k.0 j.0, j.1)

  silent_both : (t1 t2 : Trace) → is_silent x t1 ≡ true → is_silent x t2 ≡ true → is_silent x (t1 ++ t2) ≡ true
  silent_both [] t2 h k = k
  silent_both (e ∷ t1) t2 h k = let j = and_parts (not (e.chan.0 == x)) (is_silent x t1) h in and_from (not (e.chan.0 == x)) (is_silent x (t1 ++ t2)) j.0 (silent_both t1 t2 j.1 k)

  silent_at : (t r : Trace) → t ≡ r → is_silent x t ≡ true → is_silent x r ≡ true
  silent_at t r e h = ap (is_silent x) (sym e) ∙ h

  each_ended : (s : Values) (t : Trace) (r : Values) → is_silent x t ≡ true → Followed m n (with_name Γ x (Chan w None)) s t (ended r)
      → Followed (over_channel x w m) (over_channel x w n) Γ s t (ended r)
  each_ended s t r silent (in_second t1 t2 s1 e d1 d2) =
      let k = silent_split t1 t2 (silent_at t (t1 ++ t2) e silent) in in_second t1 t2 s1 e (WithChannel.at_end k.0 d1) (WithChannel.at_end k.1 d2)

  each_resting : (s : Values) (t : Trace) (X Y : EventSet) → Y ≡ off_channel x X → is_silent x t ≡ true
      → Followed m n (with_name Γ x (Chan w None)) s t (refusing Y) → Followed (over_channel x w m) (over_channel x w n) Γ s t (refusing X)
  each_resting s t X Y is silent (in_first d) = let P : EventSet → Type 0 = λ Z. m.does (with_name Γ x (Chan w None)) s t (refusing Z) in in_first (WithChannel.at_rest silent (subst P is d))
  each_resting s t X Y is silent (in_second t1 t2 s1 e d1 d2) =
      let k = silent_split t1 t2 (silent_at t (t1 ++ t2) e silent) in
      let P : EventSet → Type 0 = λ Z. n.does (with_name Γ x (Chan w None)) s1 t2 (refusing Z) in
      in_second t1 t2 s1 e (WithChannel.at_end k.0 d1) (WithChannel.at_rest k.1 (subst P is d2))

  to_each : (s : Values) (t : Trace) (o : Outcome) → WithChannel x w (followed m n) Γ s t o
      → Followed (over_channel x w m) (over_channel x w n) Γ s t o
  to_each s t o (WithChannel.at_end {s1 = r} silent d) = each_ended s t r silent d
  to_each s t o (WithChannel.at_rest {X = X} silent d) = each_resting s t X (off_channel x X) refl silent d

  one_rest : (s : Values) (t : Trace) (X : EventSet) → WithChannel x w m Γ s t (refusing X) → WithChannel x w (followed m n) Γ s t (refusing X)
  one_rest s t X (WithChannel.at_rest silent d) = WithChannel.at_rest silent (in_first d)

  two_in_turn : (s s1 : Values) (t t1 t2 : Trace) (o : Outcome) → t ≡ t1 ++ t2 → WithChannel x w m Γ s t1 (ended s1)
      → WithChannel x w n Γ s1 t2 o → WithChannel x w (followed m n) Γ s t o
  two_in_turn s s1 t t1 t2 o e (WithChannel.at_end silent d1) (WithChannel.at_end other d2) = WithChannel.at_end (silent_at (t1 ++ t2) t (sym e) (silent_both t1 t2 silent other)) (in_second t1 t2 s1 e d1 d2)
  two_in_turn s s1 t t1 t2 o e (WithChannel.at_end silent d1) (WithChannel.at_rest other d2) = WithChannel.at_rest (silent_at (t1 ++ t2) t (sym e) (silent_both t1 t2 silent other)) (in_second t1 t2 s1 e d1 d2)

  from_each : (s : Values) (t : Trace) (o : Outcome) → Followed (over_channel x w m) (over_channel x w n) Γ s t o
      → WithChannel x w (followed m n) Γ s t o
  from_each s t o (in_first {X = X} d) = one_rest s t X d
  from_each s t o (in_second t1 t2 s1 e d1 d2) = two_in_turn s s1 t t1 t2 o e d1 d2

-- ---- over two parts

pub variable_past_first : (Γ : Environment) (x : ℕ) (w : Width) (p q : Tree) (Θ : Environment) → types_kept p Θ ≡ true → free p x ≡ false
    → SAME Γ (declare x w (seq (and_tree p (and_tree q no_tree)))) (seq (and_tree p (and_tree (declare x w q) no_tree)))
variable_past_first Γ x w p q Θ t h =
    let f = foreign_part p Θ t x h in
    let m = meaning p in
    let n = meaning q in
    let k = foreign_skip x in
    same_by Γ (declare x w (seq (and_tree p (and_tree q no_tree)))) (seq (and_tree p (and_tree (declare x w q) no_tree)))
    (gives_through Γ (over_variable x w (followed m (followed n done))) (followed m (over_variable x w (followed n done))) (followed m (followed (over_variable x w n) done))
    (record { gives = λ s r o d. past_first_out x w m (followed n done) Γ f s r o d })
    (followed_gives Γ m m (over_variable x w (followed n done)) (followed (over_variable x w n) done) (gives_itself Γ m) (record { gives = λ s r o d. past_last_out x w n done Γ k s r o d })))
    (gives_through Γ (followed m (followed (over_variable x w n) done)) (followed m (over_variable x w (followed n done))) (over_variable x w (followed m (followed n done)))
    (followed_gives Γ m m (followed (over_variable x w n) done) (over_variable x w (followed n done)) (gives_itself Γ m) (record { gives = λ s r o d. past_last_in x w n done Γ k s r o d }))
    (record { gives = λ s r o d. past_first_in x w m (followed n done) Γ f s r o d }))

foreign_then_skip : (x : ℕ) (q : Tree) (Θ : Environment) → types_kept q Θ ≡ true → free q x ≡ false → Foreign x (followed (meaning q) done)
foreign_then_skip x q Θ t h = foreign_part (seq (and_tree q no_tree)) Θ (and_from (types_kept q Θ) true t refl) x (or_from (free q x) false h refl)

pub variable_past_last : (Γ : Environment) (x : ℕ) (w : Width) (p q : Tree) (Θ : Environment) → types_kept q Θ ≡ true → free q x ≡ false
    → SAME Γ (declare x w (seq (and_tree p (and_tree q no_tree)))) (seq (and_tree (declare x w p) (and_tree q no_tree)))
variable_past_last Γ x w p q Θ t h =
    let f = foreign_then_skip x q Θ t h in
    same_by Γ (declare x w (seq (and_tree p (and_tree q no_tree)))) (seq (and_tree (declare x w p) (and_tree q no_tree)))
    (record { gives = λ s r o d. past_last_out x w (meaning p) (followed (meaning q) done) Γ f s r o d })
    (record { gives = λ s r o d. past_last_in x w (meaning p) (followed (meaning q) done) Γ f s r o d })

skip_closed : (Γ : Environment) (c : ℕ) (w : Width) → Gives Γ done (over_channel c w done)
skip_closed Γ c w = record { gives = λ s t o d. closed s t o d.0 d.1 }
  where
    closed : (s : Values) (t : Trace) (o : Outcome) → t ≡ [] → o ≡ ended s → WithChannel c w done Γ s t o
    closed s t o i j =
        let P : Trace → Type 0 = λ r. WithChannel c w done Γ s r o in
        let Q : Outcome → Type 0 = λ r. WithChannel c w done Γ s [] r in
        subst P (sym i) (subst Q (sym j) (WithChannel.at_end refl (refl, refl)))

skip_opened_at : (c : ℕ) (w : Width) (Γ : Environment) (s : Values) (t : Trace) (o : Outcome) → WithChannel c w done Γ s t o → done.does Γ s t o
skip_opened_at c w Γ s t o (WithChannel.at_end silent d) = d
skip_opened_at c w Γ s t o (WithChannel.at_rest silent d) = no_such_end d.1
  where
    no_such_end : {A : Type 0} {r : Values} {X : EventSet} → refusing X ≡ ended r → A
    no_such_end h = absurd (cc)

pub channel_for_each : (Γ : Environment) (c : ℕ) (w : Width) (p q : Tree)
    → SAME Γ (connect c w (seq (and_tree p (and_tree q no_tree)))) (seq (and_tree (connect c w p) (and_tree (connect c w q) no_tree)))
channel_for_each Γ c w p q =
    let m = meaning p in
    let n = meaning q in
    let cm = over_channel c w m in
    let cn = over_channel c w n in
    same_by Γ (connect c w (seq (and_tree p (and_tree q no_tree)))) (seq (and_tree (connect c w p) (and_tree (connect c w q) no_tree)))
    (gives_through Γ (over_channel c w (followed m (followed n done))) (followed cm (over_channel c w (followed n done))) (followed cm (followed cn done))
    (record { gives = λ s r o d. to_each c w m (followed n done) Γ s r o d })
    (followed_gives Γ cm cm (over_channel c w (followed n done)) (followed cn done) (gives_itself Γ cm)
    (gives_through Γ (over_channel c w (followed n done)) (followed cn (over_channel c w done)) (followed cn done)
    (record { gives = λ s r o d. to_each c w n done Γ s r o d })
    (followed_gives Γ cn cn (over_channel c w done) done (gives_itself Γ cn) (record { gives = skip_opened_at c w Γ })))))
    (gives_through Γ (followed cm (followed cn done)) (followed cm (over_channel c w (followed n done))) (over_channel c w (followed m (followed n done)))
    (followed_gives Γ cm cm (followed cn done) (over_channel c w (followed n done)) (gives_itself Γ cm)
    (gives_through Γ (followed cn done) (followed cn (over_channel c w done)) (over_channel c w (followed n done))
    (followed_gives Γ cn cn done (over_channel c w done) (gives_itself Γ cn) (skip_closed Γ c w))
    (record { gives = λ s r o d. from_each c w n done Γ s r o d })))
    (record { gives = λ s r o d. from_each c w m (followed n done) Γ s r o d }))
