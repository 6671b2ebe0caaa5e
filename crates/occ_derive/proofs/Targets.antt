-- The names of the variables into which a normal program inputs are names of the language.
use Rattle.std.proofs.Common.{◌≡◌, ℕ, zero, suc, ◌+◌, ◌≤◌, Bool, true, false, cond, nat_le, List, [], ◌∷◌, ◌++◌, length, filter, length-append, refl, sym, subst, arith}
use Rattle.std.specs.List.{list_all}
use Rattle.std.proofs.lemmas.Bool.{and_from, and_parts, le-leb, leb-true}
use Rattle.occ_syntax.specs.occ_base.declared.names.Name.{Name}
use Rattle.occ_syntax.specs.occ_base.declared.width.Width.{Width}
use Rattle.occ_syntax.specs.occ_base.Names.{with_text}
use Rattle.occ_script_back.specs.occ_lex.Growth.{GrowsByNames, IsNameText}
use Rattle.occ_script_back.proofs.from_lex.Growing.{grows_not, grows_on, grows_once}
use Rattle.occ_script_back.proofs.from_lex.Spelled.{is_name_text}
use Rattle.occ_script_back.specs.occ_lex.Spelling.{is_name_byte}
use Rattle.occ_script_back.proofs.from_lex.Classes.{digit_name_byte}
use Rattle.occ_syntax.specs.declared.scope.Kind.{Kind}
use Rattle.occ_derive_search.specs.occ_target.Inputs.{all_widths, digit_of, dotted, input_names, input_text, is_input_width, is_taken, names_with}

-- bytes of names, so many at most
record AreNameBytes (most : ℕ) (bytes : List ℕ) : Type 0 where
  named : list_all is_name_byte bytes ≡ true
  few : length bytes ≤ most

with_dot : (bytes : List ℕ) → list_all is_name_byte bytes ≡ true → list_all is_name_byte (bytes ++ 46 ∷ []) ≡ true
with_dot [] h = refl
with_dot (b ∷ bytes) h =
    let parts = and_parts (is_name_byte b) (list_all is_name_byte bytes) h in
    and_from (is_name_byte b) (list_all is_name_byte (bytes ++ 46 ∷ [])) parts.0 (with_dot bytes parts.1)

module _ (names : List (List ℕ)) (params : List (Name × Kind)) where
  -- with dots behind it where it is taken
  with_dots : (taken : Bool) (n most a b : ℕ) (bytes : List ℕ) → AreNameBytes most bytes
      → ((more : List ℕ) × (dotted names params n (a ∷ b ∷ (bytes ++ 46 ∷ [])) ≡ a ∷ b ∷ more) × AreNameBytes (suc most + n) more)
      → (more : List ℕ) × (cond taken (dotted names params n (a ∷ b ∷ (bytes ++ 46 ∷ []))) (a ∷ b ∷ bytes) ≡ a ∷ b ∷ more) × AreNameBytes (most + suc n) more
  with_dots true n most a b bytes h rest = (rest.0, rest.1, record { named = rest.2.named; few = omega (arith, rest.2.few) })
  with_dots false n most a b bytes h rest = (bytes, refl, record { named = h.named; few = omega (arith, h.few) })

  -- two bytes with bytes of names behind them, and with dots
  dots_named : (n most a b : ℕ) (bytes : List ℕ) → AreNameBytes most bytes
      → (more : List ℕ) × (dotted names params n (a ∷ b ∷ bytes) ≡ a ∷ b ∷ more) × AreNameBytes (most + n) more
  unfolding dotted
  dots_named zero most a b bytes h = (bytes, refl, record { named = h.named; few = omega (arith, h.few) })
  dots_named (suc n) most a b bytes h =
      let longer : AreNameBytes (suc most) (bytes ++ 46 ∷ []) =
      record { named = with_dot bytes h.named; few = omega (arith, h.few, length-append bytes (46 ∷ [])) } in
      with_dots (is_taken names params (a ∷ b ∷ bytes)) n most a b bytes h (dots_named n (suc most) a b (bytes ++ 46 ∷ []) longer)

  module _ (count : length params ≤ 16) where
    input_named : (w : Width) → digit_of w ≤ 9 → IsNameText (input_text names params w)
    input_named w digit =
        let d : ℕ = 48 + digit_of w in
        let low : d ≤ 57 = omega (arith, digit) in
        let high : 48 ≤ d = omega arith in
        let byte : is_name_byte d ≡ true = digit_name_byte d (and_from _ _ (le-leb 48 d high) (le-leb d 57 low)) in
        let dots = dots_named (length params) 0 116 d [] (record { named = refl; few = omega arith }) in
        let few : length (116 ∷ d ∷ dots.0) ≤ 32 = omega (arith, dots.2.few, count) in
        subst IsNameText (sym dots.1) (is_name_text 116 d dots.0 refl (omega (arith, low)) (and_from (is_name_byte d) (list_all is_name_byte dots.0) byte dots.2.named) few)

-- so a table grows by names
module _ (params : List (Name × Kind)) (count : length params ≤ 16) where
  one_grows : (b : Bool) (names : List (List ℕ)) (w : Width) (ws : List Width) → IsNameText (input_text names params w)
      → GrowsByNames (with_text names (input_text names params w)) (names_with (with_text names (input_text names params w)) params ws)
      → GrowsByNames names (names_with names params ws) → GrowsByNames names (names_with names params (cond b (w ∷ ws) ws))
  unfolding names_with
  one_grows true names w ws h more rest =
      grows_on names (with_text names (input_text names params w)) (names_with (with_text names (input_text names params w)) params ws)
      (grows_once names (input_text names params w) h) more
  one_grows false names w ws h more rest = rest

  names_grow : (names : List (List ℕ)) (ws : List Width) → list_all (λ w. nat_le (digit_of w) 9) ws ≡ true → GrowsByNames names (names_with names params (filter (is_input_width params) ws))
  unfolding names_with
  names_grow names [] h = grows_not names
  names_grow names (w ∷ ws) h =
      let parts = and_parts (nat_le (digit_of w) 9) (list_all (λ w. nat_le (digit_of w) 9) ws) h in
      one_grows (is_input_width params w) names w (filter (is_input_width params) ws) (input_named names params count w (leb-true _ _ parts.0))
      (names_grow (with_text names (input_text names params w)) ws parts.1) (names_grow names ws parts.1)

  inputs_grow : (names : List (List ℕ)) → GrowsByNames names (input_names names params)
  inputs_grow names = names_grow names all_widths refl

-- and by the names of the steps behind them
pub derived_grows : (params : List (Name × Kind)) (old mid new : List (List ℕ)) → length params ≤ 16 → mid ≡ input_names old params → GrowsByNames mid new
    → GrowsByNames old new
derived_grows params old mid new count e g = grows_on old mid new (subst (GrowsByNames old) (sym e) (inputs_grow params count old)) g
