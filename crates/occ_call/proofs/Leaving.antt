-- What is left behind: the names that were asked for, and what was written.
use Rattle.std.proofs.Common.{◌≡◌, ◌≤◌, ◌+◌, ℕ, List, [], ◌∷◌, length, take, Option, Some, None, Result, Ok, Err, IfSome, IfOk, refl, sym, ◌∙◌, ap, subst, arith, append_assoc, append-nil, zero, suc}
use Rattle.std.specs.Prelude.{IsErrAnd}
use Rattle.occ_desk.specs.Desk.{with_more, IsCutShort}
use Rattle.occ_call.specs.declared.loading.Stop.{Stop}
use Rattle.occ_call.specs.declared.loading.Stop.TheVariants.{Read, Memory}
use Rattle.occ_call.specs.declared.replying.Reply.{Reply}
use Rattle.occ_call.specs.Files.{Files, AsksFront, AsksFor}
use Rattle.occ_call.specs.Ran.{Leaves, answered, cut_short, unread, no_memory, Ends, whole, front}

abbrev Asks : Type 0
Asks = Option (List (List ℕ))

pub with_nothing : (old : Asks) → old ≡ with_more old []
with_nothing None = refl
with_nothing (Some xs) = ap Some (sym (append-nil xs))

with_two : (old : Asks) (a b : List ℕ) → with_more (with_more old (a ∷ [])) (b ∷ []) ≡ with_more old (a ∷ b ∷ [])
with_two None a b = refl
with_two (Some xs) a b = ap Some (append_assoc xs (a ∷ []) (b ∷ []))

all_of : (names : List (List ℕ)) → take (length names) names ≡ names
all_of [] = refl
all_of (n ∷ ns) = ap (λ ms. n ∷ ms) (all_of ns)

-- an error that is passed on
pub err_is : {T : Type 0} (r : Result T Stop) (e : Stop) → IsErrAnd r (λ y. y ≡ e) → r ≡ Err e
err_is (Ok t) e h = absurd h
err_is (Err y) e h = ap Err h

-- all the names are a front of them
pub all_asked : (old new : Asks) (names : List (List ℕ)) → new ≡ with_more old names → AsksFront old new names 0
all_asked old new names e = record {
  count = length names;
  least = omega arith;
  most = omega arith;
  asked = e ∙ ap (with_more old) (sym (all_of names));
}

pub memory_asked : {T : Type 0} (old new : Asks) (names : List (List ℕ)) (r : Result T Stop) → r ≡ Err Memory → new ≡ with_more old names → AsksFor old new names r
memory_asked {T} old new names r is e = let P : Result T Stop → Type 0 = λ s. AsksFor old new names s in subst P (sym is) (all_asked old new names e)

front_of_one : (old new : Asks) (a b : List ℕ) (from : ℕ) → AsksFront old new (a ∷ []) from → AsksFront old new (a ∷ b ∷ []) from
front_of_one old new a b from f = record {
  count = f.count;
  least = f.least;
  most = omega (arith, f.most);
  asked = f.asked ∙ ap (with_more old) (take_of_one f.count f.most);
}
  where
    take_of_one : (n : ℕ) → n ≤ length (a ∷ []) → take n (a ∷ []) ≡ take n (a ∷ b ∷ [])
    take_of_one zero le = refl
    take_of_one (suc zero) le = refl
    take_of_one (suc (suc n)) le = absurd (omega (arith, le))

pub first_stops : {T U : Type 0} (old new : Asks) (a b : List ℕ) (r : Result T Stop) (s : Result U Stop) (e : Stop) → r ≡ Err e → s ≡ Err e
    → AsksFor old new (a ∷ []) r → AsksFor old new (a ∷ b ∷ []) s
first_stops {T} {U} old new a b r s e is at f =
    let P : Result T Stop → Type 0 = λ x. AsksFor old new (a ∷ []) x in
    let Q : Result U Stop → Type 0 = λ x. AsksFor old new (a ∷ b ∷ []) x in
    subst Q (sym at) (go e (subst P is f))
  where
    go : (e : Stop) → AsksFor {T = T} old new (a ∷ []) (Err e) → AsksFor {T = U} old new (a ∷ b ∷ []) (Err e)
    go Read f = front_of_one old new a b 1 f
    go Memory f = front_of_one old new a b 0 f

front_of_two : (old middle new : Asks) (a b : List ℕ) (from : ℕ) → middle ≡ with_more old (a ∷ []) → AsksFront middle new (b ∷ []) from → AsksFront old new (a ∷ b ∷ []) from
front_of_two old middle new a b from m f = record {
  count = f.count + 1;
  least = omega (arith, f.least);
  most = omega (arith, f.most);
  asked = f.asked ∙ ap (λ o. with_more o (take f.count (b ∷ []))) m ∙ one_more f.count f.most;
}
  where
    one_more : (n : ℕ) → n ≤ length (b ∷ []) → with_more (with_more old (a ∷ [])) (take n (b ∷ [])) ≡ with_more old (take (n + 1) (a ∷ b ∷ []))
    one_more zero le = sym (with_nothing (with_more old (a ∷ [])))
    one_more (suc zero) le = with_two old a b
    one_more (suc (suc n)) le = absurd (omega (arith, le))

pub second_stops : {T U : Type 0} (old middle new : Asks) (a b : List ℕ) (r : Result T Stop) (s : Result U Stop) (e : Stop) → r ≡ Err e → s ≡ Err e
    → middle ≡ with_more old (a ∷ []) → AsksFor middle new (b ∷ []) r → AsksFor old new (a ∷ b ∷ []) s
second_stops {T} {U} old middle new a b r s e is at m f =
    let P : Result T Stop → Type 0 = λ x. AsksFor middle new (b ∷ []) x in
    let Q : Result U Stop → Type 0 = λ x. AsksFor old new (a ∷ b ∷ []) x in
    subst Q (sym at) (go e (subst P is f))
  where
    go : (e : Stop) → AsksFor {T = T} middle new (b ∷ []) (Err e) → AsksFor {T = U} old new (a ∷ b ∷ []) (Err e)
    go Read f = front_of_two old middle new a b 1 m f
    go Memory f = front_of_two old middle new a b 0 m f

-- ---- a whole call

-- what the files that the desk tells are answered with
pub left : (told : Option Files) (R : Files → ℕ → List ℕ → Type 0) (made : Result Reply Stop) (status : ℕ) (old between new : Option (List ℕ))
    → IfOk made (λ reply. IfSome told (λ files. R files reply.status reply.text.items)) → between ≡ old → Ends made status between new
    → IfSome told (λ files. Leaves (R files) status old new)
left None R made status old between new a b e = tt
left (Some files) R (Ok reply) status old between new a b (whole s n) =
    answered reply.text.items (subst (λ k. R files k reply.text.items) (sym s) a) (n ∙ ap (λ o. with_more o reply.text.items) b)
left (Some files) R (Ok reply) status old between new a b (front s n) = cut_short s reply.status reply.text.items a (subst (λ o. IsCutShort o new reply.text.items) b n)
left (Some files) R (Err Read) status old between new a b e = unread e.0 (e.1 ∙ b)
left (Some files) R (Err Memory) status old between new a b e = no_memory e.0 (e.1 ∙ b)
