-- Steps of a list, each with something else left, and lists without what fails a test.
use Rattle.std.proofs.Common.{◌≡◌, ◌&&◌, ℕ, Bool, true, false, Some, List, [], ◌∷◌, map, if◌then◌else◌, refl, ap, sym, ◌∙◌, slice_get, zero, suc}
use Rattle.std.specs.List.{filter}

-- of each g the f
pub map_after : {A B C : Type 0} (f : B → C) (g : A → B) (h : A → C) → ((x : A) → f (g x) ≡ h x) → (xs : List A) → map f (map g xs) ≡ map h xs
map_after f g h same [] = refl
map_after f g h same (x ∷ xs) = ap (λ y. y ∷ map f (map g xs)) (same x) ∙ ap (λ ys. h x ∷ ys) (map_after f g h same xs)

-- two ways by which the same comes of each
pub map_ways : {A B C D : Type 0} (f : B → D) (g : A → B) (h : C → D) (k : A → C) → ((x : A) → f (g x) ≡ h (k x)) → (xs : List A) → map f (map g xs) ≡ map h (map k xs)
map_ways f g h k same [] = refl
map_ways f g h k same (x ∷ xs) = ap (λ y. y ∷ map f (map g xs)) (same x) ∙ ap (λ ys. h (k x) ∷ ys) (map_ways f g h k same xs)

-- an item that passes, or doesn't
chosen : {A B : Type 0} (b : Bool) (f : A → B) (x : A) (xs : List A) (ys : List B) → map f xs ≡ ys → map f (if b then x ∷ xs else xs) ≡ (if b then f x ∷ ys else ys)
chosen true f x xs ys e = ap (λ zs. f x ∷ zs) e
chosen false f x xs ys e = e

-- the test after f is the test before it
pub filter_map : {A B : Type 0} (f : A → B) (p : B → Bool) (q : A → Bool) → ((x : A) → p (f x) ≡ q x) → (xs : List A) → filter p (map f xs) ≡ map f (filter q xs)
filter_map f p q same [] = refl
filter_map f p q same (x ∷ xs) =
    ap (λ (b : Bool). if b then f x ∷ filter p (map f xs) else filter p (map f xs)) (same x)
    ∙ sym (chosen (q x) f x (filter q xs) (filter p (map f xs)) (sym (filter_map f p q same xs)))

twice : {A : Type 0} (a b : Bool) (p : A → Bool) (x : A) (xs : List A) → p x ≡ a
    → filter p (if b then x ∷ xs else xs) ≡ (if a && b then x ∷ filter p xs else filter p xs)
twice true true p x xs e = ap (λ (c : Bool). if c then x ∷ filter p xs else filter p xs) e
twice false true p x xs e = ap (λ (c : Bool). if c then x ∷ filter p xs else filter p xs) e
twice true false p x xs e = refl
twice false false p x xs e = refl

-- two tests, one after the other
pub filter_twice : {A : Type 0} (p q : A → Bool) (xs : List A) → filter p (filter q xs) ≡ filter (λ x. p x && q x) xs
filter_twice p q [] = refl
filter_twice p q (x ∷ xs) =
    twice (p x) (q x) p x (filter q xs) refl
    ∙ ap (λ ys. if p x && q x then x ∷ ys else ys) (filter_twice p q xs)

-- a test that each passes
pub filter_all : {A : Type 0} (xs : List A) → filter (λ (x : A). true) xs ≡ xs
filter_all [] = refl
filter_all (x ∷ xs) = ap (λ ys. x ∷ ys) (filter_all xs)

-- the item of a number, after f
pub get_map : {A B : Type 0} (f : A → B) (xs : List A) (n : ℕ) (x : A) → slice_get xs n ≡ Some x → slice_get (map f xs) n ≡ Some (f x)
get_map f [] n x e = cc
get_map f (y ∷ xs) zero x e = let h : y ≡ x = cc in ap (λ z. Some (f z)) h
get_map f (y ∷ xs) (suc n) x e = get_map f xs n x e
