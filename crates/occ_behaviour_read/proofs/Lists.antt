-- Heads and tails of lists that are one, and results that are one.
use Rattle.std.proofs.Common.{◌≡◌, true, false, Bool, ◌&&◌, List, [], ◌∷◌, Result, Ok, Err, refl}

pub first_is : {X : Type 0} {x y : X} {xs ys : List X} → x ∷ xs ≡ y ∷ ys → x ≡ y
first_is e = cc

pub later_are : {X : Type 0} {x y : X} {xs ys : List X} → x ∷ xs ≡ y ∷ ys → xs ≡ ys
later_are e = cc

pub no_line : {X : Type 0} {y : X} {ys : List X} → [] ≡ y ∷ ys → ⊥
no_line e = cc

pub ok_is : {X E : Type 0} {x y : X} → ◌≡◌ {A = Result X E} (Ok x) (Ok y) → x ≡ y
ok_is e = cc

pub err_is : {X E : Type 0} {x y : E} → ◌≡◌ {A = Result X E} (Err x) (Err y) → x ≡ y
err_is e = cc

pub ok_not : {X E : Type 0} {x : X} {y : E} → ◌≡◌ {A = Result X E} (Ok x) (Err y) → ⊥
ok_not e = cc

pub and_off : (b : Bool) → (b && false) ≡ false
and_off true = refl
and_off false = refl
