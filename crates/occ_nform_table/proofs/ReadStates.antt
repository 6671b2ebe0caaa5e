-- What a state is read as determines its text, and so do END lines, ROW lines and the lines of initial states.
use Rattle.std.proofs.Common.{◌≡◌, ℕ, ◌+◌, ◌*◌, ◌/◌, ◌%◌, ◌^◌, ◌<◌, ◌≤◌, Bool, true, false, cond, eqb, ltb, List, [], ◌∷◌, ◌++◌, map, Option, Some, None, refl, sym, ap, subst, ◌∙◌, arith, append_assoc, codes, pow-add, mod-eq_of_lt}
use Rattle.std.specs.Prelude.{decimal}
use Rattle.std.proofs.Math.Arith.{digits_lt, digits_div, digits_mod}
use Rattle.std.proofs.lemmas.Bool.{and_from, eq-eqb, lt-ltb, ltb-true, eqb-true}
use Rattle.std.proofs.lemmas.Option.{none-some, same_Some, cond_some}
use Rattle.occ_lex.specs.occ_base.declared.names.Name.{Name}
use Rattle.occ_lex.specs.occ_base.declared.width.Width.{Width}
use Rattle.occ_lex.specs.occ_base.Width.{bits_of}
use Rattle.occ_syntax.specs.declared.scope.Kind.{Kind}
use Rattle.occ_syntax.specs.declared.scope.Kind.TheVariants.{Var, Chan}
use Rattle.occ_syntax.specs.Counts.{bits_of_scope}
use Rattle.occ_behaviour.specs.States.{is_state}
use Rattle.occ_behaviour.specs.Texts.{spaced, state_text}
use Rattle.occ_nform_table.specs.Words.{then_read, between, behind, cut, each, items_of, number_of, small_number_of}
use Rattle.occ_nform_table.specs.Lines.{fitting, paired, state_of, state_place, end_of, is_row, is_number, row_of_state, below}
use Rattle.occ_nform_table.specs.Texts.{state_at_place}
use Rattle.occ_nform_table.proofs.ReadWords.{then_inv, between_inv, behind_inv, cut_inv, items_inv, spaced_map}
use Rattle.occ_nform_table.proofs.ReadNumerals.{number_inv, small_inv}

-- ---- states

-- the state that values are read as
pub record IsPaired (params : List (Name × Kind)) (ns : List ℕ) (s : List (Name × ℕ)) : Type 0 where
  pub values : ns ≡ map (λ (v : Name × ℕ). v.1) s
  pub state : is_state params s ≡ true
  pub place : state_place params s < 2 ^ bits_of_scope params
  pub back : state_at_place params (state_place params s) ≡ s

-- one more variable in front
with_value : (name : Name) (w : Width) (params : List (Name × Kind)) (v : ℕ) (vs : List ℕ) (s : List (Name × ℕ)) → v < 2 ^ bits_of w → IsPaired params vs s
    → IsPaired ((name, Var w) ∷ params) (v ∷ vs) ((name, v) ∷ s)
with_value name w params v vs s fits rest =
    let k : ℕ = state_place params s in
    let low : k < 2 ^ bits_of_scope params = rest.place in
    let quotient : (v * 2 ^ bits_of_scope params + k) / 2 ^ bits_of_scope params ≡ v = digits_div v low in
    let left : (v * 2 ^ bits_of_scope params + k) % 2 ^ bits_of_scope params ≡ k = digits_mod v low in
    let own : (v * 2 ^ bits_of_scope params + k) / 2 ^ bits_of_scope params % 2 ^ bits_of w ≡ v = ap (λ q. q % 2 ^ bits_of w) quotient ∙ mod-eq_of_lt fits in
    record {
      values = ap (λ ns. v ∷ ns) rest.values;
      state = and_from _ _ (and_from _ _ (eq-eqb name.0 name.0 refl) (lt-ltb v (2 ^ bits_of w) fits)) rest.state;
      place = subst (λ m. v * 2 ^ bits_of_scope params + k < m) (sym (pow-add 2 (bits_of w) (bits_of_scope params))) (digits_lt fits low);
      back = (λ i. (name, own i) ∷ (ap (state_at_place params) left ∙ rest.back) i);
    }

paired_inv : (params : List (Name × Kind)) (ns : List ℕ) (s : List (Name × ℕ)) → paired params ns ≡ Some s → IsPaired params ns s
unfolding paired
paired_inv [] [] s e = subst (IsPaired [] []) (same_Some [] s e) (record { values = refl; state = refl; place = omega arith; back = refl })
paired_inv [] (v ∷ vs) s e = absurd (none-some s e)
paired_inv ((name, Chan w d) ∷ params) ns s e =
    let rest : IsPaired params ns s = paired_inv params ns s e in
    let same : 0 + bits_of_scope params ≡ bits_of_scope params = omega arith in
    record { values = rest.values; state = rest.state; place = subst (λ b. state_place params s < 2 ^ b) (sym same) rest.place; back = rest.back }
paired_inv ((name, Var w) ∷ params) [] s e = absurd (none-some s e)
paired_inv ((name, Var w) ∷ params) (v ∷ vs) s e =
    let one = then_inv (fitting w v) (λ value. then_read (paired params vs) (λ state. Some ((name, value) ∷ state))) s e in
    let two = then_inv (paired params vs) (λ state. Some ((name, one.0) ∷ state)) s one.2 in
    let fit = cond_some (ltb v (2 ^ bits_of w)) v one.0 one.1 in
    let all : IsPaired ((name, Var w) ∷ params) (v ∷ vs) ((name, v) ∷ two.0) = with_value name w params v vs two.0 (ltb-true v (2 ^ bits_of w) fit.0) (paired_inv params vs two.0 two.1) in
    subst (IsPaired ((name, Var w) ∷ params) (v ∷ vs)) (ap (λ n. (name, n) ∷ two.0) fit.1 ∙ same_Some ((name, one.0) ∷ two.0) s two.2) all

-- the values of a state as they are written
abbrev pub values_text : List (Name × ℕ) → List ℕ
values_text s = spaced (λ v. decimal v.1) s

pub record IsStateRead (params : List (Name × Kind)) (text : List ℕ) (s : List (Name × ℕ)) : Type 0 where
  pub written : text ≡ values_text s
  pub state : is_state params s ≡ true
  pub place : state_place params s < 2 ^ bits_of_scope params
  pub back : state_at_place params (state_place params s) ≡ s

pub state_inv : (params : List (Name × Kind)) (text : List ℕ) (s : List (Name × ℕ)) → state_of params text ≡ Some s → IsStateRead params text s
unfolding state_of
state_inv params text s e =
    let one = then_inv (each small_number_of (items_of text)) (paired params) s e in
    let is : IsPaired params one.0 s = paired_inv params one.0 s one.2 in
    let items = items_inv small_number_of decimal (λ n. Unit {0}) (λ w n h. (small_inv w n h, tt)) text one.0 one.1 in
    record {
      written = items.0 ∙ ap (spaced decimal) is.values ∙ spaced_map (λ (v : Name × ℕ). v.1) decimal s;
      state = is.state;
      place = is.place;
      back = is.back;
    }

-- ---- lines

abbrev pub end_text : List (Name × ℕ) → List ℕ
end_text s = codes "END " ++ state_text s ++ codes "\n"

pub end_inv : (params : List (Name × Kind)) (line : List ℕ) (s : List (Name × ℕ)) → end_of params line ≡ Some s → (line ≡ end_text s) × (is_state params s ≡ true)
unfolding end_of
end_inv params line s e =
    let one = then_inv (between (codes "END [") (codes "]\n") line) (state_of params) s e in
    let is : IsStateRead params one.0 s = state_inv params one.0 s one.2 in (
      between_inv (codes "END [") (codes "]\n") line one.0 one.1
          ∙ ap (λ t. codes "END [" ++ (t ++ codes "]\n")) is.written
          ∙ ap (λ t. codes "END [" ++ t) (sym (append_assoc (values_text s) (codes "]") (codes "\n"))),
      is.state,
    )

abbrev pub row_line : ℕ → List ℕ
row_line n = codes "ROW " ++ decimal n ++ codes "\n"

number_there : (n : ℕ) (o : Option ℕ) → is_number n o ≡ true → o ≡ Some n
number_there n None e = cc
number_there n (Some m) e = ap Some (eqb-true m n e)

pub row_inv : (n : ℕ) (line : List ℕ) → is_row n line ≡ true → n < 2 ^ 64 → line ≡ row_line n
unfolding is_row
row_inv n line e small =
    let one = then_inv (between (codes "ROW ") (codes "\n") line) number_of n (number_there n (then_read (between (codes "ROW ") (codes "\n") line) number_of) e) in
    between_inv (codes "ROW ") (codes "\n") line one.0 one.1 ∙ ap (λ t. codes "ROW " ++ (t ++ codes "\n")) (number_inv one.0 n one.2 small)

-- the line of an initial state
abbrev pub state_line : List (Name × Kind) → ℕ → ℕ → List ℕ
state_line params k m = codes "STATE " ++ state_text (state_at_place params k) ++ codes " " ++ decimal m ++ codes "\n"

-- a row below n, where a number is read
pub below_inv : (n row m : ℕ) → below n row ≡ Some m → (row ≡ m) × (m < n)
below_inv n row m e =
    let parts = cond_some (ltb row n) row m e in
    (parts.1, subst (λ r. r < n) parts.1 (ltb-true row n parts.0))

state_line_is : (params : List (Name × Kind)) (k m : ℕ) (line mid values numeral : List ℕ) → line ≡ codes "STATE [" ++ (mid ++ codes "\n") → mid ≡ values ++ 93 ∷ (codes " " ++ numeral)
    → values ≡ values_text (state_at_place params k) → numeral ≡ decimal m → line ≡ state_line params k m
state_line_is params k m line mid values numeral whole split are is =
    let s : List ℕ = values_text (state_at_place params k) in
    whole ∙ ap (λ t. codes "STATE [" ++ (t ++ codes "\n")) (split ∙ (λ i. are i ++ 93 ∷ (codes " " ++ is i)))
    ∙ ap (λ t. codes "STATE [" ++ t) (sym (ap (λ t. t ++ decimal m ++ codes "\n") (append_assoc s (codes "]") (codes " ")) ∙ ap (λ t. t ++ codes "\n") (append_assoc s (codes "] ") (decimal m))))

pub state_line_inv : (params : List (Name × Kind)) (n k m : ℕ) (line : List ℕ) → n ≤ 2 ^ 64 → row_of_state params n k line ≡ Some m
    → (line ≡ state_line params k m) × (m < n) × (k < 2 ^ bits_of_scope params)
unfolding row_of_state
state_line_inv params n k m line few e =
    let one = then_inv (between (codes "STATE [") (codes "\n") line) _ m e in
    let two = then_inv (cut 93 one.0) _ m one.2 in
    let three = then_inv (state_of params two.0.0) _ m two.2 in
    let s : List (Name × ℕ) = three.0 in
    let four = placed (eqb (state_place params s) k) (then_read (behind (codes " ") two.0.1) (λ numeral. then_read (number_of numeral) (below n))) three.2 in
    let five = then_inv (behind (codes " ") two.0.1) (λ numeral. then_read (number_of numeral) (below n)) m four.1 in
    let six = then_inv (number_of five.0) (below n) m five.2 in
    let last = below_inv n six.0 m six.2 in
    let is : IsStateRead params two.0.0 s = state_inv params two.0.0 s three.1 in
    let at : state_place params s ≡ k = eqb-true (state_place params s) k four.0 in
    let there : state_at_place params k ≡ s = ap (state_at_place params) (sym at) ∙ is.back in
    let fits : six.0 < 2 ^ 64 = omega (arith, last.0, last.1) in
    let whole : line ≡ codes "STATE [" ++ (one.0 ++ codes "\n") = between_inv (codes "STATE [") (codes "\n") line one.0 one.1 in
    let values : two.0.0 ≡ values_text (state_at_place params k) = subst (λ u. two.0.0 ≡ values_text u) (sym there) is.written in
    let split : one.0 ≡ two.0.0 ++ 93 ∷ (codes " " ++ five.0) = subst (λ t. one.0 ≡ two.0.0 ++ 93 ∷ t) (behind_inv (codes " ") two.0.1 five.0 five.1) (cut_inv 93 one.0 two.0 two.1) in
    let numeral : five.0 ≡ decimal m = subst (λ r. five.0 ≡ decimal r) last.0 (number_inv five.0 six.0 six.1 fits) in
    (state_line_is params k m line one.0 two.0.0 five.0 whole split values numeral, last.1, subst (λ p. p < 2 ^ bits_of_scope params) at is.place)
  where
    placed : (b : Bool) (o : Option ℕ) → cond b o None ≡ Some m → (b ≡ true) × (o ≡ Some m)
    placed true o e = (refl, e)
    placed false o e = absurd (none-some m e)
