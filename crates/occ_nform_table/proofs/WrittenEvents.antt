-- An event that is written reads back.
use Rattle.std.proofs.Common.{◌≡◌, ℕ, ◌^◌, ◌<◌, Bool, true, false, cond, eqb, ltb, ◌&&◌, List, [], ◌∷◌, ◌++◌, length, Option, None, Some, refl, sym, ap, ◌∙◌, arith, append_assoc, length-append}
use Rattle.std.specs.Prelude.{decimal}
use Rattle.std.specs.List.{list_all, AllByRecursion}
use Rattle.std.proofs.lemmas.Bool.{and_parts, and_from, cond-true, ltb-true, lt-ltb, eqb-true, eqb-false}
use Rattle.occ_lex.specs.occ_base.declared.event.Dir.{Dir}
use Rattle.occ_lex.specs.occ_base.declared.event.Dir.TheVariants.{Input, Output}
use Rattle.occ_lex.specs.occ_base.declared.event.Event.{Event}
use Rattle.occ_lex.specs.occ_base.declared.names.Name.{Name}
use Rattle.occ_lex.specs.occ_base.declared.width.Width.{Width}
use Rattle.occ_lex.specs.occ_base.Names.{IsDistinct}
use Rattle.occ_lex.specs.occ_base.Width.{bits_of, IsWidth}
use Rattle.occ_syntax.specs.declared.scope.Kind.{Kind}
use Rattle.occ_syntax.specs.declared.scope.Kind.TheVariants.{Var, Chan}
use Rattle.occ_syntax.specs.Scopes.{environment, in_interface, channel_kind, has_width, same_dir, allows}
use Rattle.occ_behaviour.specs.Texts.{mark_text, event_text}
use Rattle.occ_lex.specs.Spelling.{is_digit}
use Rattle.occ_nform_table.specs.Words.{then_read, or_else, behind, small_number_of}
use Rattle.occ_nform_table.specs.Lines.{HasWidth, HaveWidths, AreNamed, text_of, fitting, event_on, event_of}
use Rattle.occ_nform_table.proofs.WrittenWords.{is_not, lacks, lacks-append, class_lacks, behind_front, behind_is, IsWord}
use Rattle.occ_nform_table.proofs.WrittenNumerals.{decimal_some, decimal_lacks, small_below, small_number_read}
use Rattle.occ_nform_table.proofs.TextNamed.{is_param_byte, param_bytes, one_front, one_number, IsNamed}
use Rattle.occ_nform_table.proofs.WrittenStates.{value_small}

same_dir_is : (d e : Dir) → same_dir d e ≡ true → d ≡ e
same_dir_is Input Input h = refl
same_dir_is Output Output h = refl
same_dir_is Input Output h = absurd cc
same_dir_is Output Input h = absurd cc

mark_some : (d : Dir) (rest : List ℕ) → (b : ℕ) × (mark_text d ++ rest ≡ b ∷ rest) × (is_param_byte b ≡ false)
mark_some Input rest = (63, refl, refl)
mark_some Output rest = (33, refl, refl)

abbrev suits : Event → Option Kind → Bool
suits e look = has_width (channel_kind look) e.value && allows look e.dir

-- a parameter's kind that an event suits
record Suits (e : Event) (width : Width) (dir : Dir) : Type 0 where
  value : e.value < 2 ^ bits_of width
  direction : dir ≡ e.dir

module _ (names : List (List ℕ)) where
  event_on_own : (e : Event) (name : Name) (width : Width) (dir : Dir) → IsWidth width → name.0 ≡ e.chan.0 → Suits e width dir
      → event_on (text_of names name) name (Chan width (Some dir)) (event_text names e) ≡ Some e
  unfolding event_on
  event_on_own e name width dir w same h =
      let text = text_of names name in
      let back = sym same in
      let turned = sym h.direction in
      let written : event_text names e ≡ text ++ (mark_text dir ++ decimal e.value) = append_assoc (text_of names e.chan) (mark_text e.dir) (decimal e.value) ∙ (λ i. text_of names (record { 0 = back i }) ++ (mark_text (turned i) ++ decimal e.value)) in
      let small : e.value < 2 ^ 32 = let v = value_small width e.value w h.value in omega (arith, v) in
      let made = λ (value : ℕ). Some (record { chan = name; dir = dir; value = value }) in
      let number = λ (n : ℕ). then_read {B = Event} (fitting width n) made in
      let marked = λ (t : List ℕ). then_read (behind (mark_text dir) t) (λ numeral. then_read (small_number_of numeral) number) in
      ap (λ word. then_read (behind text word) marked) written
      ∙ ap (λ o. then_read o marked) (behind_front text (mark_text dir ++ decimal e.value))
      ∙ ap (λ o. then_read o (λ numeral. then_read (small_number_of numeral) number)) (behind_front (mark_text dir) (decimal e.value))
      ∙ ap (λ o. then_read o number) (small_number_read e.value small)
      ∙ ap (λ o. then_read {B = Event} o made) (cond-true _ (Some e.value) None (lt-ltb _ _ h.value))
      ∙ (λ i. Some (record { chan = record { 0 = same i }; dir = h.direction i; value = e.value }))

  -- no other channel's text and mark stand in front
  event_on_other : (own text : List ℕ) (d : Dir) (digits : List ℕ) (name : Name) (kind : Kind) → list_all is_param_byte own ≡ true → list_all is_param_byte text ≡ true
      → (own ≡ text → ⊥) → event_on text name kind (own ++ (mark_text d ++ digits)) ≡ None
  unfolding event_on
  event_on_other own text d digits name (Var width) h k other = refl
  event_on_other own text d digits name (Chan width None) h k other = refl
  event_on_other own text d digits name (Chan width (Some dir)) h k other = at (behind text (own ++ (mark_text d ++ digits))) refl
    where
      made : ℕ → Option Event
      made value = Some (record { chan = name; dir = dir; value = value })

      number : List ℕ → Option Event
      number numeral = then_read (small_number_of numeral) (λ n. then_read (fitting width n) made)

      inner : (marked : List ℕ) (o : Option (List ℕ)) → own ++ (mark_text d ++ digits) ≡ text ++ marked → behind (mark_text dir) marked ≡ o → then_read o number ≡ None
      inner marked None e f = refl
      inner marked (Some numeral) e f =
          let one = mark_some d digits in
          let two = mark_some dir numeral in
          let whole : own ++ one.0 ∷ digits ≡ text ++ two.0 ∷ numeral = ap (λ t. own ++ t) (sym one.1) ∙ e ∙ ap (λ t. text ++ t) (behind_is (mark_text dir) marked numeral f ∙ two.1) in
          absurd (other (one_front is_param_byte own text one.0 two.0 digits numeral h k one.2 two.2 whole))

      at : (o : Option (List ℕ)) → behind text (own ++ (mark_text d ++ digits)) ≡ o → then_read o (λ marked. then_read (behind (mark_text dir) marked) number) ≡ None
      at None e = refl
      at (Some marked) e = inner marked (behind (mark_text dir) marked) (behind_is text (own ++ (mark_text d ++ digits)) marked e) refl

  -- what is known of an event of the interface
  pub record IsOwn (e : Event) : Type 0 where
    pub bytes : list_all is_param_byte (text_of names e.chan) ≡ true
    pub there : e.chan.0 < length names
    pub small : e.value < 256

  suits_is : (e : Event) (width : Width) (dir : Dir) → suits e (Some (Chan width (Some dir))) ≡ true → Suits e width dir
  suits_is e width dir h =
      let parts = and_parts (ltb e.value (2 ^ bits_of width)) (same_dir dir e.dir) h in
      record { value = ltb-true _ _ parts.0; direction = same_dir_is dir e.dir parts.1 }

  own_at : (e : Event) (name : Name) (kind : Kind) → IsNamed names (name, kind) → name.0 < length names → HasWidth kind → name.0 ≡ e.chan.0 → suits e (Some kind) ≡ true → IsOwn e
  own_at e name (Var width) named there wide same h = absurd cc
  own_at e name (Chan width None) named there wide same h = absurd (unmarked named.1)
    where
      unmarked : false ≡ true → ⊥
      unmarked k = cc
  own_at e name (Chan width (Some dir)) named there wide same h =
      record {
        bytes = (λ i. list_all is_param_byte (text_of names (record { 0 = sym same i }))) ∙ param_bytes (text_of names name) named.0;
        there = omega (arith, same, there);
        small = value_small width e.value wide (suits_is e width dir h).value;
      }

  pub is_own : (params : List (Name × Kind)) → AllByRecursion (IsNamed names) params → AreNamed names params → HaveWidths params → (e : Event) → in_interface (environment params) e ≡ true → IsOwn e
  is_own [] named there wide e h = absurd cc
  is_own ((name, kind) ∷ params) named there wide e h = at (is_own params named.1 there.1 wide.1 e) (eqb e.chan.0 name.0) refl
    where
      at : (in_interface (environment params) e ≡ true → IsOwn e) → (b : Bool) → eqb e.chan.0 name.0 ≡ b → IsOwn e
      at later true t = own_at e name kind named.0 there.0 wide.0 (sym (eqb-true _ _ t)) (ap (λ b. suits e (cond b (Some kind) (environment params e.chan.0))) (sym t) ∙ h)
      at later false t = later (ap (λ b. suits e (cond b (Some kind) (environment params e.chan.0))) (sym t) ∙ h)

  module _ (distinct : IsDistinct names) where
    read_at : (e : Event) (name : Name) (kind : Kind) → IsNamed names (name, kind) → HasWidth kind → name.0 ≡ e.chan.0 → suits e (Some kind) ≡ true
        → event_on (text_of names name) name kind (event_text names e) ≡ Some e
    read_at e name (Var width) named wide same h = absurd cc
    read_at e name (Chan width None) named wide same h = absurd (unmarked named.1)
      where
        unmarked : false ≡ true → ⊥
        unmarked k = cc
    read_at e name (Chan width (Some dir)) named wide same h = event_on_own e name width dir wide same (suits_is e width dir h)

    pub event_reads : (params : List (Name × Kind)) → AllByRecursion (IsNamed names) params → AreNamed names params → HaveWidths params → (e : Event) → IsOwn e → in_interface (environment params) e ≡ true
        → event_of names params (event_text names e) ≡ Some e
    unfolding event_of
    event_reads [] named there wide e own h = absurd cc
    event_reads ((name, kind) ∷ params) named there wide e own h = at (event_reads params named.1 there.1 wide.1 e own) (eqb e.chan.0 name.0) refl
      where
        word : List ℕ
        word = event_text names e

        at : (in_interface (environment params) e ≡ true → event_of names params word ≡ Some e) → (b : Bool) → eqb e.chan.0 name.0 ≡ b → event_of names ((name, kind) ∷ params) word ≡ Some e
        at later true t =
            ap (λ o. or_else o (event_of names params word)) (read_at e name kind named.0 wide.0 (sym (eqb-true _ _ t)) (ap (λ b. suits e (cond b (Some kind) (environment params e.chan.0))) (sym t) ∙ h))
        at later false t =
            let apart = λ (same : text_of names e.chan ≡ text_of names name). eqb-false _ _ t (one_number names distinct e.chan name own.there there.0 same) in
            ap (λ o. or_else o (event_of names params word))
            (ap (event_on (text_of names name) name kind) (append_assoc (text_of names e.chan) (mark_text e.dir) (decimal e.value))
            ∙ event_on_other (text_of names e.chan) (text_of names name) e.dir (decimal e.value) name kind own.bytes (param_bytes (text_of names name) named.0.0) apart)
            ∙ later (ap (λ b. suits e (cond b (Some kind) (environment params e.chan.0))) (sym t) ∙ h)

  mark_lacks : (byte : ℕ) → is_not byte 33 ≡ true → is_not byte 63 ≡ true → (d : Dir) → lacks byte (mark_text d) ≡ true
  mark_lacks byte h k Input = and_from (is_not byte 63) true k refl
  mark_lacks byte h k Output = and_from (is_not byte 33) true h refl

  own_below : (e : Event) → IsOwn e → e.value < 10 ^ 64
  own_below e own = let small = own.small in small_below e.value (omega (arith, small))

  pub event_lacks : (byte : ℕ) → is_param_byte byte ≡ false → is_digit byte ≡ false → is_not byte 33 ≡ true → is_not byte 63 ≡ true → (e : Event) → IsOwn e → lacks byte (event_text names e) ≡ true
  event_lacks byte out digit bang query e own =
      lacks-append byte (text_of names e.chan ++ mark_text e.dir) (decimal e.value)
      (lacks-append byte (text_of names e.chan) (mark_text e.dir) (class_lacks is_param_byte byte out (text_of names e.chan) own.bytes) (mark_lacks byte bang query e.dir))
      (decimal_lacks byte digit e.value (own_below e own))

  pub event_word : (e : Event) → IsOwn e → IsWord (event_text names) e
  event_word e own = (
    omega (arith, length-append (text_of names e.chan ++ mark_text e.dir) (decimal e.value), decimal_some e.value (own_below e own)),
    event_lacks 32 refl refl refl refl e own,
  )
