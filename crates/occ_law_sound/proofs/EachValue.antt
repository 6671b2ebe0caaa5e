-- A declared variable begins with any of its values: the choice among them may be written out.
use Rattle.occ_law.specs.occ_base.Width.{bits_of}
use Rattle.occ_law.specs.occ_base.declared.width.Width.{Width}
use Rattle.occ_law.specs.occ_base.declared.width.Width.TheVariants.{Bool as TruthValue, Word}
use Rattle.occ_law.specs.Scope.{VarAny, each_value, values_of, var_any, words_from}
use Rattle.occ_law_sound.proofs.Opened.{closed, closed_as, opened}
use Rattle.occ_law.proofs.from_meaning.Members.{Among, first_branch, later_branch}
use Rattle.occ_law.proofs.from_meaning.OffValues.{value_again}
use Rattle.occ_law.specs.occ_meaning.Foundation.{with_result}
use Rattle.occ_law.specs.occ_meaning.Parallel.{two}
use Rattle.occ_law.proofs.from_meaning.AtState.{assigned_then, same_at}
use Rattle.occ_law.proofs.from_meaning.Covering.{CoversEach, alt_covered, by_skip, covers_and, covers_none, covers_ready, not_stable}
use Rattle.occ_law.specs.occ_syntax.Eval.{eval}
use Rattle.occ_law.specs.occ_syntax.Meaning.{Outcome, WithVariable, meaning, over_variable, refusing}
use Rattle.occ_law.specs.occ_syntax.Same.{SAME}
use Rattle.occ_law.specs.occ_syntax.Scopes.{Environment, Trace, Values, with_name, with_value}
use Rattle.occ_law.specs.occ_syntax.Tree.{Branches, Exp, Tree, alt, assign, declare, numeral, ready, seq, truth}
use Rattle.occ_law.specs.occ_syntax.declared.scope.Kind.TheVariants.{Var}
use Rattle.std.proofs.Common.{List, [], ap, arith, false, inl, inr, subst, suc, sym, true, zero, ℕ, ◌+◌, ◌<◌, ◌^◌, ◌∙◌, ◌∷◌, ◌≡◌, ◌≤◌, ◌≢◌}
use Rattle.std.proofs.lemmas.Bool.Decides.{eqb_tells}
use Rattle.std.proofs.lemmas.Nat.{pow_pos}

-- the process of the branch for an expression
abbrev begun : ℕ → Width → Tree → Exp → Tree
begun x w p e = declare x w (seq (two (assign (x ∷ []) (e ∷ [])) p))

-- there is a branch whose expression has that value
record ValueAmong (x : ℕ) (w : Width) (p : Tree) (v : ℕ) (bs : Branches) : Type 0 where
  expression : Exp
  evaluates : (Γ : Environment) (s : Values) → eval Γ expression s ≡ v
  among_them : Among (truth true) ready (begun x w p expression) bs

word_among : (x : ℕ) (w : Width) (p : Tree) (bits u n v : ℕ) → u ≤ v → v < u + n → ValueAmong x w p v (each_value x w p (words_from bits u n))
word_among x w p bits u zero v h k = absurd (omega arith)
word_among x w p bits u (suc n) v h k = elim (eqb_tells u v) [
  | inl e ↦ record { expression = numeral bits u; evaluates = λ Γ s. e.1; among_them = first_branch }
  | inr e ↦ (let ne : u ≢ v = e.1 in
      let j = word_among x w p bits (u + 1) n v (omega arith) (omega arith) in
      record { expression = j.expression; evaluates = j.evaluates; among_them = later_branch j.among_them })
]

value_among : (x : ℕ) (w : Width) (p : Tree) (v : ℕ) → v < 2 ^ bits_of w → ValueAmong x w p v (each_value x w p (values_of w))
value_among x TruthValue p v h = elim (eqb_tells v 0) [
  | inl e ↦ record { expression = truth false; evaluates = λ Γ s. sym e.1; among_them = first_branch }
  | inr e ↦ (let ne : v ≢ 0 = e.1 in
      let one : 1 ≡ v = omega arith in
      record { expression = truth true; evaluates = λ Γ s. one; among_them = later_branch first_branch })
]
value_among x (Word bits) p v h = word_among x (Word bits) p bits 0 (2 ^ bits) v (omega arith) (omega arith)

-- what the part does with one value, the choice among all values does
chosen_value : (Γ : Environment) (s : Values) (x : ℕ) (w : Width) (p : Tree) (bs : Branches) (v : ℕ) → ValueAmong x w p v bs
    → (t : Trace) (i : Outcome) → (meaning p).does (with_name Γ x (Var w)) (with_value s x v) t i → (meaning (alt bs)).does Γ s t (with_result x (s x) i)
chosen_value Γ s x w p bs v k t i d =
    let Δ : Environment = with_name Γ x (Var w) in
    let r : Values = with_value s x 0 in
    let e : Exp = k.expression in
    let same : with_value s x v ≡ with_value r x (eval Δ e r) = ap (λ n. with_value s x n) (sym (k.evaluates Δ r)) ∙ sym (value_again s x 0 (eval Δ e r)) in
    let P : Values → Type 0 = λ q. (meaning p).does Δ q t i in
    by_skip Γ s (begun x w p e) bs k.among_them t (with_result x (s x) i)
    (closed x w (meaning (seq (two (assign (x ∷ []) (e ∷ [])) p))) Γ s t 0 (pow_pos (bits_of w)) i ((assigned_then Δ r (x ∷ []) (e ∷ []) p).back t i (subst P same d)))

value_forth : (Γ : Environment) (s : Values) (x : ℕ) (w : Width) (p : Tree) (t : Trace) (o : Outcome) → WithVariable x w (meaning p) Γ s t o
    → (meaning (alt (each_value x w p (values_of w)))).does Γ s t o
value_forth Γ s x w p t o d =
    let k = opened x w (meaning p) Γ s t o d in
    let P : Outcome → Type 0 = λ i. (meaning (alt (each_value x w p (values_of w)))).does Γ s t i in
    subst P k.outer (chosen_value Γ s x w p (each_value x w p (values_of w)) k.value (value_among x w p k.value k.below) t k.inner k.inside)

-- ---- and back

-- a part that begins with a value of the width does what it does under the declaration
begun_does : (Γ : Environment) (s : Values) (x : ℕ) (w : Width) (p : Tree) (e : Exp) → ((Δ : Environment) (r : Values) → eval Δ e r < 2 ^ bits_of w)
    → (t : Trace) (o : Outcome) → (meaning (begun x w p e)).does Γ s t o → WithVariable x w (meaning p) Γ s t o
begun_does Γ s x w p e h t o d =
    let Δ : Environment = with_name Γ x (Var w) in
    let k = opened x w (meaning (seq (two (assign (x ∷ []) (e ∷ [])) p))) Γ s t o d in
    let r : Values = with_value s x k.value in
    let P : Values → Type 0 = λ q. (meaning p).does Δ q t k.inner in
    closed_as x w (meaning p) Γ s t o (record {
      value = eval Δ e r;
      below = h Δ r;
      inner = k.inner;
      outer = k.outer;
      inside = subst P (value_again s x k.value (eval Δ e r)) ((assigned_then Δ r (x ∷ []) (e ∷ []) p).forth t k.inner k.inside);
    })

covers_value : (Γ : Environment) (s : Values) (x : ℕ) (w : Width) (p : Tree) (e : Exp) (vs : List Exp) → ((Δ : Environment) (r : Values) → eval Δ e r < 2 ^ bits_of w)
    → CoversEach Γ s (over_variable x w (meaning p)) (each_value x w p vs) → CoversEach Γ s (over_variable x w (meaning p)) (each_value x w p (e ∷ vs))
covers_value Γ s x w p e vs h k =
    covers_and Γ s (over_variable x w (meaning p)) (truth true) ready (begun x w p e) (each_value x w p vs)
    (covers_ready Γ s (over_variable x w (meaning p)) (truth true) (begun x w p e) (begun_does Γ s x w p e h)) k

covers_words : (Γ : Environment) (s : Values) (x : ℕ) (w : Width) (p : Tree) (bits u n : ℕ) → u + n ≤ 2 ^ bits_of w
    → CoversEach Γ s (over_variable x w (meaning p)) (each_value x w p (words_from bits u n))
covers_words Γ s x w p bits u zero h = covers_none Γ s (over_variable x w (meaning p))
covers_words Γ s x w p bits u (suc n) h =
    covers_value Γ s x w p (numeral bits u) (words_from bits (u + 1) n) (λ Δ r. omega arith) (covers_words Γ s x w p bits (u + 1) n (omega arith))

covers_values : (Γ : Environment) (s : Values) (x : ℕ) (w : Width) (p : Tree) → CoversEach Γ s (over_variable x w (meaning p)) (each_value x w p (values_of w))
covers_values Γ s x TruthValue p =
    covers_value Γ s x TruthValue p (truth false) (truth true ∷ []) (λ Δ r. omega arith)
    (covers_value Γ s x TruthValue p (truth true) [] (λ Δ r. omega arith) (covers_none Γ s (over_variable x TruthValue (meaning p))))
covers_values Γ s x (Word bits) p = covers_words Γ s x (Word bits) p bits 0 (2 ^ bits) (omega arith)

value_back : (Γ : Environment) (s : Values) (x : ℕ) (w : Width) (p : Tree) (t : Trace) (o : Outcome)
    → (meaning (alt (each_value x w p (values_of w)))).does Γ s t o → WithVariable x w (meaning p) Γ s t o
value_back Γ s x w p =
    let bs : Branches = each_value x w p (values_of w) in
    let k = value_among x w p 0 (pow_pos (bits_of w)) in
    alt_covered Γ s bs (over_variable x w (meaning p)) (λ X d. not_stable Γ s (WithVariable x w (meaning p) Γ s [] (refusing X)) (begun x w p k.expression) bs k.among_them X d)
    (covers_values Γ s x w p)

pub var_any_sound : (Γ : Environment) (ks : List ℕ) (l r : Tree) → VarAny ks l r → SAME Γ l r
var_any_sound Γ ks l r (var_any x w p) = same_at Γ (declare x w p) (alt (each_value x w p (values_of w))) (λ s state.
    record { forth = value_forth Γ s x w p; back = value_back Γ s x w p })
