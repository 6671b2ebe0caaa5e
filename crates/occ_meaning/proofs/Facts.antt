-- Facts on tests, options and changed functions that the laws share.
use Rattle.occ_syntax.specs.occ_base.declared.event.Dir.{Dir}
use Rattle.occ_syntax.specs.occ_base.declared.event.Dir.TheVariants.{Input, Output}
use Rattle.occ_syntax.specs.occ_base.declared.event.Event.{Event}
use Rattle.occ_syntax.specs.occ_base.declared.width.Width.{Width}
use Rattle.occ_syntax.specs.Scopes.{Environment, Values, allows, same_dir, same_event, with_name, with_value}
use Rattle.occ_syntax.specs.Types.{agree}
use Rattle.occ_syntax.specs.declared.scope.Kind.{Kind}
use Rattle.std.proofs.Common.{Bool, MatchBool, None, Option, Some, ap, false, if◌then◌else◌, inl, inr, refl, subst, sym, true, ℕ, ◌&&◌, ◌<◌, ◌==◌, ◌||◌, ◌∙◌, ◌≡◌}
use Rattle.std.proofs.lemmas.Bool.{and_from, and_parts, eq-eqb, eqb-true, ne_eqb, or_parts}
use Rattle.std.proofs.lemmas.Bool.Decides.{eqb_tells}
use Rattle.occ_syntax.proofs.Widths.{same_widths}

pub some_is : {A : Type 0} {a b : A} → Some a ≡ Some b → a ≡ b
some_is h = cc

pub none_not_some : {A B : Type 0} {a : A} → None ≡ Some a → B
none_not_some h = absurd (cc)

pub true_not_false : {B : Type 0} → true ≡ false → B
true_not_false h = absurd (cc)

pub false_not_true : {B : Type 0} → false ≡ true → B
false_not_true h = absurd (cc)

pub clash : {B : Type 0} (b : Bool) → b ≡ true → b ≡ false → B
clash b yes_true is_false = true_not_false (sym yes_true ∙ is_false)

pub at_itself : (x : ℕ) → (x == x) ≡ true
at_itself x = eq-eqb x x refl

pub same_turned : (x y : ℕ) → (x == y) ≡ (y == x)
same_turned x y = elim (eqb_tells x y) [ inl k ↦ k.0 ∙ sym (eq-eqb y x (sym k.1)) | inr k ↦ k.0 ∙ sym (ne_eqb y x (λ e. k.1 (sym e))) ]

pub off_turned : (x y : ℕ) → (x == y) ≡ false → (y == x) ≡ false
off_turned x y h = same_turned y x ∙ h

pub if_true : {A : Type 0} (b : Bool) (x y : A) → b ≡ true → (if b then x else y) ≡ x
if_true true x y h = refl
if_true false x y h = false_not_true h

pub if_false : {A : Type 0} (b : Bool) (x y : A) → b ≡ false → (if b then x else y) ≡ y
if_false true x y h = true_not_false h
if_false false x y h = refl

pub if_below : (b : Bool) (x y n : ℕ) → x < n → y < n → (if b then x else y) < n
if_below true x y n h k = h
if_below false x y n h k = k

-- what follows from both sides of a choice by a test
pub either : (b : Bool) {P Q R : Type 0} → (P → R) → (Q → R) → MatchBool b P Q → R
either true f g h = f h
either false f g h = g h

pub both : (b : Bool) {P Q R S : Type 0} → (P → R) → (Q → S) → MatchBool b P Q → MatchBool b R S
both true f g h = f h
both false f g h = g h

pub and_three : (a b c : Bool) → ((a && b) && c) ≡ true → (a ≡ true) × (b ≡ true) × (c ≡ true)
and_three a b c h = let k = and_parts (a && b) c h in let j = and_parts a b k.0 in (j.0, j.1, k.1)

pub and_four : (a b c d : Bool) → (((a && b) && c) && d) ≡ true → (a ≡ true) × (b ≡ true) × (c ≡ true) × (d ≡ true)
and_four a b c d h = let k = and_parts ((a && b) && c) d h in let j = and_three a b c k.0 in (j.0, j.1, j.2, k.1)

pub or_three : (a b c : Bool) → ((a || b) || c) ≡ false → (a ≡ false) × (b ≡ false) × (c ≡ false)
or_three a b c h = let k = or_parts (a || b) c h in let j = or_parts a b k.0 in (j.0, j.1, k.1)

pub or_four : (a b c d : Bool) → (((a || b) || c) || d) ≡ false → (a ≡ false) × (b ≡ false) × (c ≡ false) × (d ≡ false)
or_four a b c d h = let k = or_parts ((a || b) || c) d h in let j = or_three a b c k.0 in (j.0, j.1, j.2, k.1)

-- where the first of two tests under an "and" is true, the second is false with the whole
pub and_second : (a b : Bool) → (a && b) ≡ false → a ≡ true → b ≡ false
and_second true b h k = h
and_second false b h k = false_not_true k

-- ---- values and environments

pub value_at : (s : Values) (x v : ℕ) → with_value s x v x ≡ v
value_at s x v = if_true (x == x) v (s x) (at_itself x)

pub value_off : (s : Values) (x v y : ℕ) → (y == x) ≡ false → with_value s x v y ≡ s y
value_off s x v y h = if_false (y == x) v (s y) h

pub name_at : (Γ : Environment) (x : ℕ) (kind : Kind) → with_name Γ x kind x ≡ Some kind
name_at Γ x kind = if_true (x == x) (Some kind) (Γ x) (at_itself x)

pub name_off : (Γ : Environment) (x : ℕ) (kind : Kind) (y : ℕ) → (y == x) ≡ false → with_name Γ x kind y ≡ Γ y
name_off Γ x kind y h = if_false (y == x) (Some kind) (Γ y) h

-- two types that agree are there, and are one
pub agreed : (a b : Option Width) → agree a b ≡ true → (w : Width) × (a ≡ Some w) × (b ≡ Some w)
agreed (Some a) (Some b) h = (a, refl, ap Some (sym (same_widths a b h)))
agreed (Some a) None h = false_not_true h
agreed None b h = false_not_true h

pub same_dirs : (a b : Dir) → same_dir a b ≡ true → a ≡ b
same_dirs Input Input h = refl
same_dirs Output Output h = refl
same_dirs Input Output h = false_not_true h
same_dirs Output Input h = false_not_true h

pub dir_itself : (d : Dir) → same_dir d d ≡ true
dir_itself Input = refl
dir_itself Output = refl

pub allowed_not_none : {B : Type 0} (k : Option Kind) (d : Dir) → allows k d ≡ true → k ≡ None → B
allowed_not_none k d h e = let P : Option Kind → Type 0 = λ o. allows o d ≡ true in false_not_true (subst P e h)

-- ---- events

pub same_events : (e f : Event) → same_event e f ≡ true → e ≡ f
same_events e f h = let k = and_three (e.chan.0 == f.chan.0) (same_dir e.dir f.dir) (e.value == f.value) h in
    let chans : e.chan.0 ≡ f.chan.0 = eqb-true e.chan.0 f.chan.0 k.0 in
    let dirs : e.dir ≡ f.dir = same_dirs e.dir f.dir k.1 in
    let vals : e.value ≡ f.value = eqb-true e.value f.value k.2 in
    event_of e.chan.0 f.chan.0 e.dir f.dir e.value f.value chans dirs vals
  where
    made : ℕ → Dir → ℕ → Event
    made c d v = record { chan = record { 0 = c }; dir = d; value = v }

    event_of : (c c' : ℕ) (d d' : Dir) (v v' : ℕ) → c ≡ c' → d ≡ d' → v ≡ v' → made c d v ≡ made c' d' v'
    event_of c c' d d' v v' hc hd hv = cc

pub event_itself : (e : Event) → same_event e e ≡ true
event_itself e = and_from (e.chan.0 == e.chan.0 && same_dir e.dir e.dir) (e.value == e.value) (and_from (e.chan.0 == e.chan.0) (same_dir e.dir e.dir) (at_itself e.chan.0) (dir_itself e.dir)) (at_itself e.value)
