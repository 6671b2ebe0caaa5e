-- Lists with commas, item by item, and facts on all items.
use Rattle.std.proofs.Common.{◌≡◌, ℕ, zero, suc, ◌+◌, ◌<◌, Bool, true, false, eqb, List, [], ◌∷◌, ◌++◌, length, get_or, take, map, refl, ap, sym, ◌∙◌, arith, append_assoc}
use Rattle.std.specs.List.{AllByRecursion, flat_map}
use Rattle.std.proofs.lemmas.List.{append-nil, take_more, map-append}
use Rattle.std.proofs.lemmas.Bool.{ne_eqb}
use Rattle.std.proofs.lemmas.Grind.{flat_map-append}
use Rattle.occ_parse_forms.specs.occ_lex.declared.symbol.Symbol.{Symbol}
use Rattle.occ_parse_forms.specs.Lines.{comma}
use Rattle.occ_print.specs.Symbols.{comma_behind, separated}

pub all-append : {X : Type 0} (P : X → Type 0) (xs ys : List X) → AllByRecursion P xs → AllByRecursion P ys → AllByRecursion P (xs ++ ys)
all-append P [] ys h k = k
all-append P (x ∷ xs) ys h k = (h.0, all-append P xs ys h.1 k)

pub all-front : {X : Type 0} (P : X → Type 0) (xs ys : List X) → AllByRecursion P (xs ++ ys) → AllByRecursion P xs
all-front P [] ys h = tt
all-front P (x ∷ xs) ys h = (h.0, all-front P xs ys h.1)

pub all-back : {X : Type 0} (P : X → Type 0) (xs ys : List X) → AllByRecursion P (xs ++ ys) → AllByRecursion P ys
all-back P [] ys h = h
all-back P (x ∷ xs) ys h = all-back P xs ys h.1

abbrev pub is_none : {X : Type 0} → List X → Bool
is_none [] = true
is_none (x ∷ xs) = false

pub separated-more : {X : Type 0} (spell : X → List Symbol) (xs : List X) (x : X)
    → separated spell (xs ++ x ∷ []) ≡ separated spell xs ++ (comma_behind (is_none xs) ++ spell x)
separated-more spell [] x = append-nil (spell x)
separated-more spell (y ∷ ys) x =
    let f : List _ → List Symbol = λ zs. flat_map (λ z. comma ∷ spell z) zs in
    let e : flat_map (λ z. comma ∷ spell z) (ys ++ x ∷ []) ≡ flat_map (λ z. comma ∷ spell z) ys ++ (comma ∷ spell x)
    = flat_map-append (λ z. comma ∷ spell z) ys (x ∷ []) ∙ ap (λ t. flat_map (λ z. comma ∷ spell z) ys ++ t) (append-nil (comma ∷ spell x)) in
    ap (λ t. spell y ++ t) e ∙ sym (append_assoc (spell y) (flat_map (λ z. comma ∷ spell z) ys) (comma ∷ spell x))

pub none_taken : {X : Type 0} (xs : List X) (i : ℕ) → i < length xs → is_none (take i xs) ≡ eqb i 0
none_taken [] i h = absurd (omega (arith, h))
none_taken (x ∷ xs) zero h = refl
none_taken (x ∷ xs) (suc i) h = sym (ne_eqb (suc i) 0 (λ e. omega (arith, e)))

-- one item more
pub listed_more : {X : Type 0} (spell : X → List Symbol) (ys zs : List X) (y : X) (old s0 s1 s2 : List Symbol) (first : Bool)
    → first ≡ is_none ys → zs ≡ ys ++ y ∷ [] → s0 ≡ old ++ separated spell ys → s1 ≡ s0 ++ comma_behind first → s2 ≡ s1 ++ spell y
    → s2 ≡ old ++ separated spell zs
listed_more spell ys zs y old s0 s1 s2 first e f g h k =
    k ∙ ap (λ t. t ++ spell y) (h ∙ ap (λ t. t ++ comma_behind first) g)
    ∙ append_assoc (old ++ separated spell ys) (comma_behind first) (spell y)
    ∙ append_assoc old (separated spell ys) (comma_behind first ++ spell y)
    ∙ ap (λ b. old ++ (separated spell ys ++ (comma_behind b ++ spell y))) e
    ∙ ap (λ t. old ++ t) (sym (separated-more spell ys y)) ∙ ap (λ t. old ++ separated spell t) (sym f)

pub item_more : {X : Type 0} (spell : X → List Symbol) (xs : List X) (i : ℕ) (d : X) (old s0 s1 s2 : List Symbol) (first : Bool)
    → i < length xs → first ≡ eqb i 0 → s0 ≡ old ++ separated spell (take i xs) → s1 ≡ s0 ++ comma_behind first → s2 ≡ s1 ++ spell (get_or xs i d)
    → s2 ≡ old ++ separated spell (take (i + 1) xs)
item_more spell xs i d old s0 s1 s2 first h e g k l =
    listed_more spell (take i xs) (take (i + 1) xs) (get_or xs i d) old s0 s1 s2 first (e ∙ sym (none_taken xs i h)) (take_more xs i d h) g k l

pub is_none-map : {X Y : Type 0} (g : X → Y) (xs : List X) → is_none (map g xs) ≡ is_none xs
is_none-map g [] = refl
is_none-map g (x ∷ xs) = refl

pub view_more : {X Y : Type 0} (spell : Y → List Symbol) (view : X → Y) (xs : List X) (i : ℕ) (d : X) (old s0 s1 s2 : List Symbol) (first : Bool)
    → i < length xs → first ≡ eqb i 0 → s0 ≡ old ++ separated spell (map view (take i xs)) → s1 ≡ s0 ++ comma_behind first
    → s2 ≡ s1 ++ spell (view (get_or xs i d)) → s2 ≡ old ++ separated spell (map view (take (i + 1) xs))
view_more spell view xs i d old s0 s1 s2 first h e g k l =
    listed_more spell (map view (take i xs)) (map view (take (i + 1) xs)) (view (get_or xs i d)) old s0 s1 s2 first
    (e ∙ sym (none_taken xs i h) ∙ sym (is_none-map view (take i xs)))
    (ap (map view) (take_more xs i d h) ∙ map-append view (take i xs) (get_or xs i d ∷ []))
    g k l
