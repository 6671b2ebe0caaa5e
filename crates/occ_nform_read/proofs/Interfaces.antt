-- What the parameters of a header keep.
use Rattle.std.proofs.Common.{◌≡◌, ℕ, ◌+◌, ◌-◌, ◌<◌, ◌≤◌, Bool, true, false, cond, eqb, leb, ltb, not, slice_get, unwrap_or, ◌&&◌, List, [], ◌∷◌, ◌++◌, length, Option, Some, None, refl, sym, ap, subst, ◌∙◌, arith, ◌⊎◌, inl, inr, ⊎_elim, length-append}
use Rattle.std.specs.List.{list_any, AllByRecursion}
use Rattle.std.specs.Str.{bytes_eq}
use Rattle.std.specs.Prelude.{codes}
use Rattle.std.proofs.lemmas.Bool.{and_parts, or_parts, not-true, cond-true, cond-false, leb-true, ltb-true, ne_eqb, both_ways}
use Rattle.std.proofs.lemmas.Slice.Eq.{bytes_eq-Decides}
use Rattle.occ_syntax.proofs.from_base.Naming.{place-le, at_place}
use Rattle.occ_nform_read.specs.Found.{IsAway, AreApart}
use Rattle.occ_nform_table.specs.Tables.{IsInterface}
use Rattle.occ_syntax.specs.occ_base.declared.event.Dir.TheVariants.{Input, Output}
use Rattle.occ_syntax.specs.occ_base.declared.names.Name.{Name}
use Rattle.occ_syntax.specs.occ_base.declared.width.Width.{Width}
use Rattle.occ_syntax.specs.occ_base.declared.width.Width.TheVariants.{Bool as Truth, Word}
use Rattle.occ_syntax.specs.occ_base.Names.{place_of, with_text}
use Rattle.occ_syntax.specs.occ_base.Width.{IsWidth}
use Rattle.occ_nform_table.specs.occ_behaviour.Texts.{mark_text}
use Rattle.occ_syntax.specs.declared.scope.Kind.{Kind}
use Rattle.occ_syntax.specs.declared.scope.Kind.TheVariants.{Var, Chan}
use Rattle.occ_syntax.specs.Counts.{bits_of_kind, bits_of_scope}
use Rattle.occ_nform_table.specs.Words.{then_read, or_else, behind, before, between, cut}
use Rattle.occ_nform_table.specs.Lines.{digit_width, width_of, is_param_name, named, channel_of, variable_of, behind_width, param_of, text_of, HasWidth, HaveWidths, AreNamed, can_follow, next_param}

pub then_some : {A B : Type 0} (o : Option A) (f : A → Option B) (y : B) → then_read o f ≡ Some y → (x : A) × (o ≡ Some x) × (f x ≡ Some y)
then_some None f y h = absurd cc
then_some (Some x) f y h = (x, refl, h)

pub or_else_some : {A : Type 0} (a b : Option A) (x : A) → or_else a b ≡ Some x → (a ≡ Some x) ⊎ (b ≡ Some x)
or_else_some None b x h = inr h
or_else_some (Some y) b x h = inl h

pub if_some : {A : Type 0} (b : Bool) (x y : A) → cond b (Some x) None ≡ Some y → (b ≡ true) × (x ≡ y)
if_some true x y h = (refl, cc)
if_some false x y h = absurd cc

pub some_is : {A : Type 0} (x y : A) → Some x ≡ Some y → x ≡ y
some_is x y h = cc

-- ---- widths

digit_is : (text : List ℕ) (w : Width) → digit_width text ≡ Some w → IsWidth w
digit_is [] w h = absurd cc
digit_is (d ∷ e ∷ rest) w h = absurd cc
digit_is (d ∷ []) w h =
    let found = if_some (leb 49 d && leb d 56) (Word (d - 48)) w h in
    let both = and_parts (leb 49 d) (leb d 56) found.0 in
    let low : 49 ≤ d = leb-true 49 d both.0 in
    let high : d ≤ 56 = leb-true d 56 both.1 in
    subst IsWidth found.1 (omega (arith, low), omega (arith, high))

width_is : (word : List ℕ) (w : Width) → width_of word ≡ Some w → IsWidth w
unfolding width_of
width_is word w h = from (bytes_eq word (codes "BOOL")) h
  where
    from : (b : Bool) → cond b (Some Truth) (then_read (behind (codes "WORD") word) digit_width) ≡ Some w → IsWidth w
    from true e = subst IsWidth (some_is Truth w e) tt
    from false e = let found = then_some (behind (codes "WORD") word) digit_width w e in digit_is found.0 w found.2

named_kind : (text : List ℕ) (kind : Kind) (p : List ℕ × Kind) → named text kind ≡ Some p → kind ≡ p.1
named_kind text kind p h = ap (λ (q : List ℕ × Kind). q.1) (if_some (is_param_name text) (text, kind) p h).1

channel_width : (w : Width) (text : List ℕ) (p : List ℕ × Kind) → IsWidth w → channel_of w text ≡ Some p → HasWidth p.1
unfolding channel_of
channel_width w text p wide h = ⊎_elim
    (λ (a : then_read (before (mark_text Input) text) (λ name. named name (Chan w (Some Input))) ≡ Some p).
    let found = then_some (before (mark_text Input) text) (λ name. named name (Chan w (Some Input))) p a in
    subst HasWidth (named_kind found.0 (Chan w (Some Input)) p found.2) wide)
    (λ (b : then_read (before (mark_text Output) text) (λ name. named name (Chan w (Some Output))) ≡ Some p).
    let found = then_some (before (mark_text Output) text) (λ name. named name (Chan w (Some Output))) p b in
    subst HasWidth (named_kind found.0 (Chan w (Some Output)) p found.2) wide)
    (or_else_some (then_read (before (mark_text Input) text) (λ name. named name (Chan w (Some Input)))) (then_read (before (mark_text Output) text) (λ name. named name (Chan w (Some Output)))) p h)

variable_width : (w : Width) (text : List ℕ) (p : List ℕ × Kind) → IsWidth w → variable_of w text ≡ Some p → HasWidth p.1
unfolding variable_of
variable_width w text p wide h = subst HasWidth (named_kind text (Var w) p h) wide

behind_is : (next : Width → List ℕ → Option (List ℕ × Kind)) (text : List ℕ) (p : List ℕ × Kind)
    → ((w : Width) (rest : List ℕ) → IsWidth w → next w rest ≡ Some p → HasWidth p.1) → behind_width next text ≡ Some p → HasWidth p.1
unfolding behind_width
behind_is next text p each h =
    let parts = then_some (cut 32 text) (λ parts. then_read (width_of parts.0) (λ width. next width parts.1)) p h in
    let found = then_some (width_of parts.0.0) (λ width. next width parts.0.1) p parts.2 in
    each found.0 parts.0.1 (width_is parts.0.0 found.0 found.1) found.2

param_width : (line : List ℕ) (p : List ℕ × Kind) → param_of line ≡ Some p → HasWidth p.1
unfolding param_of
param_width line p h =
    let text = then_some (between (codes "PARAM ") (codes "\n") line) (λ text. or_else
    (then_read (behind (codes "CHAN OF ") text) (behind_width channel_of))
    (behind_width variable_of text)) p h in
    ⊎_elim
    (λ (a : then_read (behind (codes "CHAN OF ") text.0) (behind_width channel_of) ≡ Some p).
    let found = then_some (behind (codes "CHAN OF ") text.0) (behind_width channel_of) p a in
    behind_is channel_of found.0 p (λ w rest wide e. channel_width w rest p wide e) found.2)
    (λ (b : behind_width variable_of text.0 ≡ Some p). behind_is variable_of text.0 p (λ w rest wide e. variable_width w rest p wide e) b)
    (or_else_some (then_read (behind (codes "CHAN OF ") text.0) (behind_width channel_of)) (behind_width variable_of text.0) p text.2)

-- what a parameter is that follows others
pub record IsNext (names : List (List ℕ)) (params : List (Name × Kind)) (p : List ℕ × Kind) : Type 0 where
  pub wide : HasWidth p.1
  pub few : length params < 16
  pub bits : bits_of_scope params + bits_of_kind p.1 ≤ 16
  pub fresh : list_any (λ q. bytes_eq p.0 (text_of names q.0)) params ≡ false

next_parts : (names : List (List ℕ)) (params : List (Name × Kind)) (p : List ℕ × Kind) → can_follow names params p ≡ true → HasWidth p.1 → IsNext names params p
unfolding can_follow
next_parts names params p can wide =
    let last = and_parts (ltb (length params) 16 && not (list_any (λ q. bytes_eq p.0 (text_of names q.0)) params)) (leb (bits_of_scope params + bits_of_kind p.1) 16) can in
    let first = and_parts (ltb (length params) 16) (not (list_any (λ q. bytes_eq p.0 (text_of names q.0)) params)) last.0 in
    record {
      wide = wide;
      few = ltb-true (length params) 16 first.0;
      bits = leb-true (bits_of_scope params + bits_of_kind p.1) 16 last.1;
      fresh = not-true (list_any (λ q. bytes_eq p.0 (text_of names q.0)) params) first.1;
    }

pub next_is : (names : List (List ℕ)) (params : List (Name × Kind)) (line : List ℕ) (p : List ℕ × Kind) → next_param names params line ≡ Some p → IsNext names params p
unfolding next_param
next_is names params line p h =
    let found = then_some (param_of line) (λ p. cond (can_follow names params p) (Some p) None) p h in
    let can = if_some (can_follow names params found.0) found.0 p found.2 in
    subst (IsNext names params) can.1 (next_parts names params found.0 can.0 (param_width line found.0 found.1))

-- ---- one parameter more

pub bits_more : (params : List (Name × Kind)) (p : Name × Kind) → bits_of_scope (params ++ p ∷ []) ≡ bits_of_scope params + bits_of_kind p.1
bits_more [] p = omega arith
bits_more (q ∷ params) p = omega (arith, bits_more params p)

pub widths_more : (params : List (Name × Kind)) (p : Name × Kind) → HaveWidths params → HasWidth p.1 → HaveWidths (params ++ p ∷ [])
widths_more [] p all h = (h, tt)
widths_more (q ∷ params) p all h = (all.0, widths_more params p all.1 h)

pub named_more : (old new : List (List ℕ)) (params : List (Name × Kind)) (p : Name × Kind) → length old ≤ length new → AreNamed old params → p.0.0 < length new → AreNamed new (params ++ p ∷ [])
named_more old new [] p grown all h = (h, tt)
named_more old new (q ∷ params) p grown all h = (omega (arith, all.0, grown), named_more old new params p grown all.1 h)

pub names_grow : (names : List (List ℕ)) (text : List ℕ) → length names ≤ length (with_text names text)
names_grow names text = from (ltb (place_of names text) (length names)) refl
  where
    from : (b : Bool) → ltb (place_of names text) (length names) ≡ b → length names ≤ length (with_text names text)
    from true e = subst (λ n. length names ≤ length n) (sym (cond-true _ names (names ++ text ∷ []) e)) (omega arith)
    from false e = subst (λ n. length names ≤ length n) (sym (cond-false _ names (names ++ text ∷ []) e)) (omega (arith, length-append names (text ∷ [])))

pub place_there : (names : List (List ℕ)) (text : List ℕ) → place_of names text < length (with_text names text)
place_there names text = from (ltb (place_of names text) (length names)) refl
  where
    from : (b : Bool) → ltb (place_of names text) (length names) ≡ b → place_of names text < length (with_text names text)
    from true e = subst (λ n. place_of names text < length n) (sym (cond-true _ names (names ++ text ∷ []) e)) (ltb-true _ _ e)
    from false e = subst (λ n. place_of names text < length n) (sym (cond-false _ names (names ++ text ∷ []) e)) (omega (arith, length-append names (text ∷ []), place-le names text))

-- ---- names apart

-- the names of the parameters are others than that of a text that none of them has
new_away : (names : List (List ℕ)) (params : List (Name × Kind)) (text : List ℕ) → AreNamed names params → list_any (λ q. bytes_eq text (text_of names q.0)) params ≡ false
    → AllByRecursion (λ (q : Name × Kind). eqb (place_of names text) q.0.0 ≡ false) params
new_away names [] text named none = tt
new_away names (q ∷ params) text named none =
    let both = or_parts (bytes_eq text (text_of names q.0)) (list_any (λ q. bytes_eq text (text_of names q.0)) params) none in (
      ne_eqb (place_of names text) q.0.0 (λ e.
          let within : place_of names text < length names = omega (arith, e, named.0) in
          let there : slice_get names q.0.0 ≡ Some text = ap (slice_get names) (sym e) ∙ at_place names text within in
          let same : text ≡ text_of names q.0 = sym (ap (λ o. unwrap_or o []) there) in
          absurd (both_ways (bytes_eq text (text_of names q.0)) both.0 ((bytes_eq-Decides text (text_of names q.0)).1 same))),
      new_away names params text named.1 both.1,
    )

away_more : (q : Name) (params : List (Name × Kind)) (p : Name × Kind) → IsAway q params → eqb p.0.0 q.0 ≡ false → IsAway q (params ++ p ∷ [])
away_more q [] p all h = (h, tt)
away_more q (r ∷ params) p all h = (all.0, away_more q params p all.1 h)

apart_more : (params : List (Name × Kind)) (p : Name × Kind) → AreApart params → AllByRecursion (λ (q : Name × Kind). eqb p.0.0 q.0.0 ≡ false) params → AreApart (params ++ p ∷ [])
apart_more [] p all away = (tt, tt)
apart_more (q ∷ params) p all away = (away_more q.0 params p all.0 away.0, apart_more params p all.1 away.1)

-- a parameter more leaves an interface
pub interface_more : (names : List (List ℕ)) (params : List (Name × Kind)) (line : List ℕ) (p : List ℕ × Kind) → IsInterface names params → next_param names params line ≡ Some p
    → IsInterface (with_text names p.0) (params ++ (record { 0 = place_of names p.0 }, p.1) ∷ [])
interface_more names params line p is h =
    let next = next_is names params line p h in
    let new : Name × Kind = (record { 0 = place_of names p.0 }, p.1) in
    record {
      named = named_more names (with_text names p.0) params new (names_grow names p.0) is.named (place_there names p.0);
      wide = widths_more params new is.wide next.wide;
      few = omega (arith, next.few, length-append params (new ∷ []));
      bits = omega (arith, next.bits, bits_more params new);
    }

pub names_apart : (names : List (List ℕ)) (params : List (Name × Kind)) (line : List ℕ) (p : List ℕ × Kind) → IsInterface names params → AreApart params → next_param names params line ≡ Some p
    → AreApart (params ++ (record { 0 = place_of names p.0 }, p.1) ∷ [])
names_apart names params line p is apart h =
    apart_more params (record { 0 = place_of names p.0 }, p.1) apart (new_away names params p.0 is.named (next_is names params line p h).fresh)
