-- Facts on tests and options.
use Rattle.std.proofs.Common.{◌≡◌, refl, sym, Bool, true, false, if◌then◌else◌, Option, Some, None, is_none, ℕ}
use Rattle.occ_meaning.proofs.Facts.{none_not_some, false_not_true}
use Rattle.occ_parse_rules.specs.Judging.{or_else, on_line}

pub or_else_none : {F : Type 0} (a b : Option F) → or_else a b ≡ None → (a ≡ None) × (b ≡ None)
or_else_none None b h = (refl, h)
or_else_none (Some f) b h = none_not_some (sym h)

pub on_line_none : {F : Type 0} (n : ℕ) (a : Option F) → on_line n a ≡ None → a ≡ None
on_line_none n None h = refl
on_line_none n (Some f) h = none_not_some (sym h)

pub if_none : {F : Type 0} (b : Bool) (f : F) (rest : Option F) → (if b then Some f else rest) ≡ None → (b ≡ false) × (rest ≡ None)
if_none false f rest h = (refl, h)
if_none true f rest h = none_not_some (sym h)

pub is_none_none : {A : Type 0} (o : Option A) → is_none o ≡ true → o ≡ None
is_none_none None h = refl
is_none_none (Some a) h = false_not_true h
