-- Groups of symbols, and what they read as.
use Rattle.std.proofs.Common.{◌≡◌, ℕ, ◌<◌, ◌≤◌, ◌+◌, ◌-◌, Bool, true, false, List, [], ◌∷◌, ◌++◌, length, map, take, drop, get_or, refl, sym, ap, ◌∙◌, arith, append_assoc}
use Rattle.std.proofs.lemmas.List.{map-append, drop_all, drop_more, take_more, take_all, length-drop}
use Rattle.std.proofs.lemmas.Bool.{cond-true, cond-false}
use Rattle.std.proofs.lemmas.List.{get_or-drop}
use Rattle.occ_lex.specs.declared.symbol.Symbol.{Symbol}
use Rattle.occ_parse_forms.specs.Symbols.{split}

pub split_sep : (test : Symbol → Bool) (front : List Symbol) (s : Symbol) (xs : List Symbol) → test s ≡ true → split test front (s ∷ xs) ≡ front ∷ split test [] xs
unfolding split
split_sep test front s xs h = cond-true (test s) _ _ h

pub split_more : (test : Symbol → Bool) (front : List Symbol) (s : Symbol) (xs : List Symbol) → test s ≡ false → split test front (s ∷ xs) ≡ split test (front ++ s ∷ []) xs
unfolding split
split_more test front s xs h = cond-false (test s) _ _ h

pub split_end : (test : Symbol → Bool) (front : List Symbol) → split test front [] ≡ front ∷ []
unfolding split
split_end test front = refl

at_separator : (test : Symbol → Bool) (xs : List Symbol) (start i : ℕ) (d : Symbol) → start ≤ i → i < length xs → test (get_or xs i d) ≡ true
    → split test (take (i - start) (drop start xs)) (drop i xs) ≡ take (i - start) (drop start xs) ∷ split test (take (i + 1 - (i + 1)) (drop (i + 1) xs)) (drop (i + 1) xs)
at_separator test xs start i d le lt h =
    let none : i + 1 - (i + 1) ≡ 0 = omega arith in
    ap (split test (take (i - start) (drop start xs))) (drop_more xs i d lt) ∙ split_sep test _ (get_or xs i d) _ h
    ∙ ap (λ n. take (i - start) (drop start xs) ∷ split test (take n (drop (i + 1) xs)) (drop (i + 1) xs)) (sym none)

at_other : (test : Symbol → Bool) (xs : List Symbol) (start i : ℕ) (d : Symbol) → start ≤ i → i < length xs → test (get_or xs i d) ≡ false
    → split test (take (i - start) (drop start xs)) (drop i xs) ≡ split test (take (i + 1 - start) (drop start xs)) (drop (i + 1) xs)
at_other test xs start i d le lt h =
    let s = get_or xs i d in
    let whole : start + (i - start) ≡ i = omega arith in
    let there : get_or (drop start xs) (i - start) d ≡ s = get_or-drop start xs (i - start) d ∙ ap (λ n. get_or xs n d) whole in
    let within : i - start < length (drop start xs) = omega (arith, length-drop start xs) in
    let longer : take (i - start + 1) (drop start xs) ≡ take (i - start) (drop start xs) ++ s ∷ [] = take_more (drop start xs) (i - start) d within ∙ ap (λ x. take (i - start) (drop start xs) ++ x ∷ []) there in
    let next : i - start + 1 ≡ i + 1 - start = omega arith in
    ap (split test (take (i - start) (drop start xs))) (drop_more xs i d lt) ∙ split_more test _ s _ h
    ∙ ap (λ front. split test front (drop (i + 1) xs)) (sym longer ∙ ap (λ n. take n (drop start xs)) next)

at_end : (test : Symbol → Bool) (xs : List Symbol) (start i : ℕ) → start ≤ i → length xs ≤ i
    → split test (take (i - start) (drop start xs)) (drop i xs) ≡ drop start xs ∷ []
at_end test xs start i le all =
    ap (split test (take (i - start) (drop start xs))) (drop_all i xs all) ∙ split_end test _
    ∙ ap (λ front. front ∷ []) (take_all (i - start) (drop start xs) (omega (arith, length-drop start xs)))

pub step_separator : {G : Type 0} (test : Symbol → Bool) (f : G → List Symbol) (old new : List G) (g : G) (xs : List Symbol) (all : List (List Symbol)) (start next i : ℕ) (d : Symbol)
    → start ≤ i → i < length xs → test (get_or xs i d) ≡ true → new ≡ old ++ g ∷ [] → f g ≡ take (i - start) (drop start xs) → next ≡ i + 1
    → map f old ++ split test (take (i - start) (drop start xs)) (drop i xs) ≡ all
    → map f new ++ split test (take (i + 1 - next) (drop next xs)) (drop (i + 1) xs) ≡ all
step_separator test f old new g xs all start next i d le lt h pushed group is inv =
    let open_group = take (i - start) (drop start xs) in
    let rest = split test (take (i + 1 - (i + 1)) (drop (i + 1) xs)) (drop (i + 1) xs) in
    let front : map f new ≡ map f old ++ open_group ∷ [] = ap (map f) pushed ∙ map-append f old (g ∷ []) ∙ ap (λ x. map f old ++ x ∷ []) group in
    ap (λ n. map f new ++ split test (take (i + 1 - n) (drop n xs)) (drop (i + 1) xs)) is ∙ ap (λ gs. gs ++ rest) front ∙ append_assoc (map f old) (open_group ∷ []) rest
    ∙ ap (λ gs. map f old ++ gs) (sym (at_separator test xs start i d le lt h)) ∙ inv

pub step_other : {G : Type 0} (test : Symbol → Bool) (f : G → List Symbol) (old new : List G) (xs : List Symbol) (all : List (List Symbol)) (start next i : ℕ) (d : Symbol)
    → start ≤ i → i < length xs → test (get_or xs i d) ≡ false → new ≡ old → next ≡ start
    → map f old ++ split test (take (i - start) (drop start xs)) (drop i xs) ≡ all
    → map f new ++ split test (take (i + 1 - next) (drop next xs)) (drop (i + 1) xs) ≡ all
step_other test f old new xs all start next i d le lt h same is inv =
    ap (λ n. map f new ++ split test (take (i + 1 - n) (drop n xs)) (drop (i + 1) xs)) is ∙ ap (λ gs. map f gs ++ split test (take (i + 1 - start) (drop start xs)) (drop (i + 1) xs)) same
    ∙ ap (λ gs. map f old ++ gs) (sym (at_other test xs start i d le lt h)) ∙ inv

pub step_end : {G : Type 0} (test : Symbol → Bool) (f : G → List Symbol) (old new : List G) (g : G) (xs : List Symbol) (all : List (List Symbol)) (start i : ℕ)
    → start ≤ i → length xs ≤ i → new ≡ old ++ g ∷ [] → f g ≡ drop start xs
    → map f old ++ split test (take (i - start) (drop start xs)) (drop i xs) ≡ all → map f new ≡ all
step_end test f old new g xs all start i le end pushed group inv =
    ap (map f) pushed ∙ map-append f old (g ∷ []) ∙ ap (λ x. map f old ++ x ∷ []) group ∙ ap (λ gs. map f old ++ gs) (sym (at_end test xs start i le end)) ∙ inv
