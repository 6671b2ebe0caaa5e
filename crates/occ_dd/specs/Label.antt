use Rattle.std.specs.Prelude.{◌≡◌, Bool, true, false, Option, Some, None, refl}
use Rattle.std.specs.Option.{option_eq}
use Rattle.std.proofs.Common.{ap}
use mathlib.Core.Bool.{beq}

-- equal truth values are the same
pub exact_bool : (x y : Bool) → beq x y ≡ true → x ≡ y
exact_bool true true e = refl
exact_bool false false e = refl
exact_bool true false e = cc
exact_bool false true e = cc

-- options of labels are the same where they are equal, if labels are
pub exact_option : {L : Type 0} (eq : L → L → Bool) → ((x y : L) → eq x y ≡ true → x ≡ y) → (x y : Option L) → option_eq eq x y ≡ true → x ≡ y
exact_option eq exact None None e = refl
exact_option eq exact (Some x) (Some y) e = ap Some (exact x y e)
exact_option eq exact None (Some y) e = cc
exact_option eq exact (Some x) None e = cc
