-- A state that is written reads back.
use Rattle.std.proofs.Common.{◌≡◌, ℕ, ◌^◌, ◌<◌, ◌≤◌, true, false, eqb, ltb, ◌&&◌, List, [], ◌∷◌, ◌++◌, map, None, Some, refl, sym, ap, ◌∙◌, arith, append_assoc}
use Rattle.std.specs.Prelude.{decimal, codes}
use Rattle.std.specs.List.{AllByRecursion}
use Rattle.std.proofs.lemmas.Bool.{and_parts, cond-true, ltb-true, eqb-true}
use Rattle.std.proofs.Math.Pow.{pow_mono}
use Rattle.occ_lex.specs.occ_base.declared.names.Name.{Name}
use Rattle.occ_lex.specs.occ_base.declared.width.Width.{Width}
use Rattle.occ_lex.specs.occ_base.declared.width.Width.TheVariants.{Bool as Truth, Word}
use Rattle.occ_lex.specs.occ_base.Width.{bits_of, IsWidth}
use Rattle.occ_syntax.specs.declared.scope.Kind.{Kind}
use Rattle.occ_syntax.specs.declared.scope.Kind.TheVariants.{Var, Chan}
use Rattle.occ_behaviour.specs.States.{is_state}
use Rattle.occ_behaviour.specs.Texts.{spaced, state_text}
use Rattle.occ_lex.specs.Spelling.{is_digit}
use Rattle.occ_nform_table.specs.Words.{then_read, between, small_number_of}
use Rattle.occ_nform_table.specs.Lines.{HaveWidths, paired, state_of, end_of}
use Rattle.occ_nform_table.proofs.WrittenWords.{is_not, lacks, lacks-append, between_parts, IsWord, ReadsAs, each_spaced, spaced_lacks, all_more}
use Rattle.occ_nform_table.proofs.WrittenNumerals.{decimal_some, decimal_lacks, small_below, small_number_read}
use Rattle.occ_nform_table.proofs.Lines.{IsLine}

-- a value has at most 8 bits
pub value_small : (width : Width) (v : ℕ) → IsWidth width → v < 2 ^ bits_of width → v < 256
value_small Truth v w h = omega (arith, h)
value_small (Word bits) v w h = let most : 2 ^ bits ≤ 2 ^ 8 = pow_mono w.1 in omega (arith, h, most)

abbrev IsSmall : Name × ℕ → Type 0
IsSmall v = v.1 < 256

values_small : (params : List (Name × Kind)) (state : List (Name × ℕ)) → HaveWidths params → is_state params state ≡ true → AllByRecursion IsSmall state
values_small [] [] w h = tt
values_small [] (v ∷ vs) w h = absurd cc
values_small ((name, Chan width dir) ∷ params) vs w h = values_small params vs w.1 h
values_small ((name, Var width) ∷ params) [] w h = absurd cc
values_small ((name, Var width) ∷ params) (v ∷ vs) w h =
    let parts = and_parts (eqb v.0.0 name.0 && ltb v.1 (2 ^ bits_of width)) (is_state params vs) h in
    let one = and_parts (eqb v.0.0 name.0) (ltb v.1 (2 ^ bits_of width)) parts.0 in
    (value_small width v.1 w.0 (ltb-true _ _ one.1), values_small params vs w.1 parts.1)

pub paired_state : (params : List (Name × Kind)) (state : List (Name × ℕ)) → is_state params state ≡ true → paired params (map (λ v. v.1) state) ≡ Some state
unfolding paired
paired_state [] [] h = refl
paired_state [] (v ∷ vs) h = absurd cc
paired_state ((name, Chan width dir) ∷ params) vs h = at vs h (paired_state params vs h)
  where
    at : (us : List (Name × ℕ)) → is_state params us ≡ true → paired params (map (λ v. v.1) us) ≡ Some us → paired ((name, Chan width dir) ∷ params) (map (λ v. v.1) us) ≡ Some us
    at [] k e = e
    at (u ∷ us) k e = e
paired_state ((name, Var width) ∷ params) [] h = absurd cc
paired_state ((name, Var width) ∷ params) (v ∷ vs) h =
    let parts = and_parts (eqb v.0.0 name.0 && ltb v.1 (2 ^ bits_of width)) (is_state params vs) h in
    let one = and_parts (eqb v.0.0 name.0) (ltb v.1 (2 ^ bits_of width)) parts.0 in
    let same : name.0 ≡ v.0.0 = sym (eqb-true _ _ one.0) in
    ap (λ o. then_read o (λ value. then_read {B = List (Name × ℕ)} (paired params (map (λ u. u.1) vs)) (λ state. Some ((name, value) ∷ state)))) (cond-true _ (Some v.1) None one.1)
    ∙ ap (λ o. then_read {B = List (Name × ℕ)} o (λ state. Some ((name, v.1) ∷ state))) (paired_state params vs parts.1)
    ∙ (λ i. Some ((record { 0 = same i }, v.1) ∷ vs))

abbrev pub value_text : Name × ℕ → List ℕ
value_text v = decimal v.1

value_word : (v : Name × ℕ) → IsSmall v → IsWord value_text v
value_word v h = let small = small_below v.1 (omega (arith, h)) in (decimal_some v.1 small, decimal_lacks 32 refl v.1 small)

value_reads : (v : Name × ℕ) → IsSmall v → ReadsAs value_text small_number_of (λ (u : Name × ℕ). u.1) v
value_reads v h = small_number_read v.1 (omega (arith, h))

abbrev pub end_line : List (Name × ℕ) → List ℕ
end_line state = codes "END " ++ state_text state ++ codes "\n"

end_line_is : (state : List (Name × ℕ)) → end_line state ≡ codes "END [" ++ (spaced value_text state ++ codes "]\n")
end_line_is state = ap (λ t. codes "END [" ++ t) (append_assoc (spaced value_text state) (codes "]") (codes "\n"))

module _ (params : List (Name × Kind)) (wide : HaveWidths params) where
  pub state_reads : (state : List (Name × ℕ)) → is_state params state ≡ true → state_of params (spaced value_text state) ≡ Some state
  unfolding state_of
  state_reads state h =
      let small = values_small params state wide h in
      ap (λ o. then_read o (paired params)) (each_spaced value_text small_number_of (λ v. v.1) state (all_more IsSmall (IsWord value_text) value_word state small)
      (all_more IsSmall (ReadsAs value_text small_number_of (λ v. v.1)) value_reads state small))
      ∙ paired_state params state h

  pub state_lacks : (byte : ℕ) → is_digit byte ≡ false → is_not byte 32 ≡ true → (state : List (Name × ℕ)) → is_state params state ≡ true → lacks byte (spaced value_text state) ≡ true
  state_lacks byte out space state h =
      spaced_lacks value_text byte space state (all_more IsSmall (λ v. lacks byte (value_text v) ≡ true) (λ v small. decimal_lacks byte out v.1 (small_below v.1 (omega (arith, small)))) state (values_small params state wide h))

  pub end_reads : (state : List (Name × ℕ)) → is_state params state ≡ true → end_of params (end_line state) ≡ Some state
  unfolding end_of
  end_reads state h =
      ap (λ l. then_read (between (codes "END [") (codes "]\n") l) (state_of params)) (end_line_is state)
      ∙ ap (λ o. then_read o (state_of params)) (between_parts (codes "END [") (spaced value_text state) (codes "]\n")) ∙ state_reads state h

  pub end_is_line : (state : List (Name × ℕ)) → is_state params state ≡ true → IsLine (end_line state)
  end_is_line state h = record {
    body = codes "END " ++ state_text state;
    whole = refl;
    quiet = lacks-append 10 (codes "END [") (spaced value_text state ++ codes "]") refl (lacks-append 10 (spaced value_text state) (codes "]") (state_lacks 10 refl refl state h) refl);
  }
