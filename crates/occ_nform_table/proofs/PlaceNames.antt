-- The state at a place, and the line of its row.
use Rattle.std.proofs.Common.{◌≡◌, ℕ, ◌+◌, ◌*◌, ◌/◌, ◌%◌, ◌^◌, ◌<◌, ◌≤◌, true, false, cond, eqb, List, [], ◌∷◌, ◌++◌, length, None, Some, refl, ap, subst, ◌∙◌, arith, append_assoc}
use Rattle.std.specs.Prelude.{decimal, codes}
use Rattle.std.specs.List.{AllByRecursion}
use Rattle.std.proofs.lemmas.Bool.{and_from, cond-true, lt-ltb, eq-eqb}
use Rattle.std.proofs.lemmas.Nat.{div-add-mod', pow_pos, pow-add}
use Rattle.std.proofs.Math.Nat.{mod-eq_of_lt, mod-lt, div-lt_iff_lt-mul}
use Rattle.occ_lex.specs.occ_base.declared.names.Name.{Name}
use Rattle.occ_lex.specs.occ_base.Width.{bits_of}
use Rattle.occ_syntax.specs.declared.scope.Kind.{Kind}
use Rattle.occ_syntax.specs.declared.scope.Kind.TheVariants.{Var, Chan}
use Rattle.occ_syntax.specs.Counts.{bits_of_scope}
use Rattle.occ_behaviour.specs.States.{is_state}
use Rattle.occ_behaviour.specs.Texts.{spaced, state_text}
use Rattle.occ_lex.specs.Spelling.{is_digit}
use Rattle.occ_nform_table.specs.Words.{then_read, behind, between, cut, number_of}
use Rattle.occ_nform_table.specs.Lines.{HaveWidths, state_of, below, state_place, row_of_state}
use Rattle.occ_nform_table.specs.Reading.{Lines, kept, states_in}
use Rattle.occ_nform_table.specs.Texts.{state_at_place, states_text}
use Rattle.occ_nform_table.proofs.WrittenWords.{is_not, lacks, lacks-append, behind_front, between_parts, cut_at}
use Rattle.occ_nform_table.proofs.WrittenNumerals.{decimal_lacks, number_read}
use Rattle.occ_nform_table.proofs.Lines.{IsLine, joined}
use Rattle.occ_nform_table.proofs.WrittenStates.{value_text, state_reads, state_lacks}

no_more_bits : (b k : ℕ) → k < 2 ^ (0 + b) → k < 2 ^ b
no_more_bits b k h = let e : 0 + b ≡ b = omega arith in subst (λ c. k < 2 ^ c) e h

-- the quotient by a power of two is below the rest of the bits
quotient_below : (w b k : ℕ) → k < 2 ^ (w + b) → k / 2 ^ b < 2 ^ w
quotient_below w b k h = (div-lt_iff_lt-mul {k = 2 ^ b} {x = k} {y = 2 ^ w} (pow_pos b)).1 (subst (λ p. k < p) (pow-add 2 w b) h)

pub place_is_state : (params : List (Name × Kind)) (k : ℕ) → is_state params (state_at_place params k) ≡ true
place_is_state [] k = refl
place_is_state ((name, Chan width dir) ∷ params) k = place_is_state params k
place_is_state ((name, Var width) ∷ params) k =
    and_from _ _ (and_from _ _ (eq-eqb name.0 name.0 refl) (lt-ltb _ _ (mod-lt (k / 2 ^ bits_of_scope params) (pow_pos (bits_of width))))) (place_is_state params (k % 2 ^ bits_of_scope params))

pub place_there : (params : List (Name × Kind)) (k : ℕ) → k < 2 ^ bits_of_scope params → state_place params (state_at_place params k) ≡ k
place_there [] k h = omega (arith, h)
place_there ((name, Chan width dir) ∷ params) k h = place_there params k (no_more_bits (bits_of_scope params) k h)
place_there ((name, Var width) ∷ params) k h =
    let p = 2 ^ bits_of_scope params in
    let high : k / p % 2 ^ bits_of width ≡ k / p = mod-eq_of_lt (quotient_below (bits_of width) (bits_of_scope params) k h) in
    let low : state_place params (state_at_place params (k % p)) ≡ k % p = place_there params (k % p) (mod-lt k (pow_pos (bits_of_scope params))) in
    (λ i. high i * p + low i) ∙ div-add-mod' k p

abbrev pub state_line : List (Name × Kind) → ℕ → ℕ → List ℕ
state_line params k n = codes "STATE " ++ state_text (state_at_place params k) ++ codes " " ++ decimal n ++ codes "\n"

abbrev pub state_lines : List (Name × Kind) → ℕ → List ℕ → Lines
state_lines params k [] = []
state_lines params k (n ∷ states) = state_line params k n ∷ state_lines params (k + 1) states

pub states_joined : (params : List (Name × Kind)) (k : ℕ) (states : List ℕ) → states_text params k states ≡ joined (state_lines params k states)
unfolding states_text
states_joined params k [] = refl
states_joined params k (n ∷ states) = ap (λ t. state_line params k n ++ t) (states_joined params (k + 1) states)

module _ (params : List (Name × Kind)) (wide : HaveWidths params) (count : ℕ) (most : count ≤ 10 ^ 64) where
  quiet : (byte k : ℕ) → is_digit byte ≡ false → is_not byte 32 ≡ true → lacks byte (spaced value_text (state_at_place params k)) ≡ true
  quiet byte k out space = state_lacks params wide byte out space (state_at_place params k) (place_is_state params k)

  state_line_reads : (k n : ℕ) → k < 2 ^ bits_of_scope params → n < count → row_of_state params count k (state_line params k n) ≡ Some n
  unfolding row_of_state
  state_line_reads k n h g =
      let state = state_at_place params k in
      let values = spaced value_text state in
      let digits = decimal n in
      let number = λ (numeral : List ℕ). then_read (number_of numeral) (below count) in
      let placed = λ (rest : List ℕ) (s : List (Name × ℕ)). cond (eqb (state_place params s) k) (then_read (behind (codes " ") rest) number) None in
      let parted = λ (parts : List ℕ × List ℕ). then_read (state_of params parts.0) (placed parts.1) in
      let inner = λ (text : List ℕ). then_read (cut 93 text) parted in
      ap (λ t. then_read (between (codes "STATE [") (codes "\n") (codes "STATE [" ++ (t ++ codes "\n"))) inner) (append_assoc (values ++ codes "]") (codes " ") digits ∙ append_assoc values (codes "]") (32 ∷ digits))
      ∙ ap (λ o. then_read o inner) (between_parts (codes "STATE [") (values ++ 93 ∷ 32 ∷ digits) (codes "\n"))
      ∙ ap (λ o. then_read o parted) (cut_at 93 values (32 ∷ digits) (quiet 93 k refl refl))
      ∙ ap (λ o. then_read o (placed (32 ∷ digits))) (state_reads params wide state (place_is_state params k))
      ∙ cond-true _ (then_read (behind (codes " ") (32 ∷ digits)) number) None (eq-eqb _ k (place_there params k h))
      ∙ ap (λ o. then_read o number) (behind_front (codes " ") digits)
      ∙ ap (λ o. then_read o (below count)) (number_read n (omega (arith, g, most)))
      ∙ cond-true _ (Some n) None (lt-ltb n count g)

  state_is_line : (k n : ℕ) → n < count → IsLine (state_line params k n)
  state_is_line k n h = record {
    body = codes "STATE " ++ state_text (state_at_place params k) ++ codes " " ++ decimal n;
    whole = refl;
    quiet = lacks-append 10 (codes "STATE " ++ state_text (state_at_place params k) ++ codes " ") (decimal n)
        (lacks-append 10 (codes "STATE " ++ state_text (state_at_place params k)) (codes " ")
        (lacks-append 10 (codes "STATE [") (spaced value_text (state_at_place params k) ++ codes "]") refl (lacks-append 10 (spaced value_text (state_at_place params k)) (codes "]") (quiet 10 k refl refl) refl)) refl)
        (decimal_lacks 10 refl n (omega (arith, h, most)));
  }

  pub states_are_lines : (k : ℕ) (states : List ℕ) → AllByRecursion (λ n. n < count) states → AllByRecursion IsLine (state_lines params k states)
  states_are_lines k [] h = tt
  states_are_lines k (n ∷ states) h = (state_is_line k n h.0, states_are_lines (k + 1) states h.1)

  pub states_read : (k : ℕ) (states : List ℕ) → k + length states ≤ 2 ^ bits_of_scope params → AllByRecursion (λ n. n < count) states → states_in params count k (state_lines params k states) ≡ (states, [])
  unfolding states_in
  states_read k [] fits h = refl
  states_read k (n ∷ states) fits h =
      ap (λ o. kept o (states_in params count (k + 1) (state_lines params (k + 1) states)) ([], state_lines params k (n ∷ states))) (state_line_reads k n (omega (arith, fits)) h.0)
      ∙ ap (λ (t : List ℕ × Lines). (n ∷ t.0, t.1)) (states_read (k + 1) states (omega (arith, fits)) h.1)
