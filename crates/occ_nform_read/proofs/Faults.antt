-- The first fault of marks, part by part and one by one.
use Rattle.std.proofs.Common.{◌≡◌, ℕ, zero, suc, ◌+◌, ◌<◌, ◌≤◌, Bool, true, false, List, [], ◌∷◌, ◌++◌, length, get_or, drop, map, nat_lt, Option, Some, None, refl, sym, ap, ◌∙◌, arith}
use Rattle.std.proofs.lemmas.List.{drop_more, drop_all}
use Rattle.std.specs.Option.{is_some}
use Rattle.occ_nform_table.specs.declared.table.TableFault.{TableFault}
use Rattle.occ_nform_table.specs.declared.table.TableFault.TheVariants as fault
use Rattle.occ_nform_table.specs.Judging.{Mark, Fine, Misplaced, Excessive, placed, follows, list_marks}
use Rattle.occ_nform_table.specs.Normal.{first_mark, or_fault}
use Rattle.occ_nform_read.specs.Marks.{mapped}

pub first_append : (line : ℕ) (xs ys : List Mark) → first_mark line (xs ++ ys) ≡ or_fault (first_mark line xs) (first_mark (line + length xs) ys)
unfolding first_mark
first_append line [] ys = let e : line ≡ line + zero = omega arith in ap (λ n. first_mark n ys) e
first_append line (Fine ∷ xs) ys =
    let e : line + 1 + length xs ≡ line + suc (length xs) = omega arith in
    first_append (line + 1) xs ys ∙ ap (λ n. or_fault (first_mark (line + 1) xs) (first_mark n ys)) e
first_append line (Misplaced ∷ xs) ys = refl
first_append line (Excessive ∷ xs) ys = refl

-- a fault that is found, and none
pub stops : (f a b : Option TableFault) → is_some f ≡ true → f ≡ a → f ≡ or_fault a b
stops None a b found h = absurd cc
stops (Some f) a b found h = ap (λ x. or_fault x b) h

pub goes : (f a b : Option TableFault) → is_some f ≡ false → f ≡ a → b ≡ or_fault a b
goes None a b none h = ap (λ x. or_fault x b) h
goes (Some f) a b none h = absurd cc

-- two parts
pub fault_in_front : (line : ℕ) (xs ys : List Mark) (f : Option TableFault) → is_some f ≡ true → f ≡ first_mark line xs → f ≡ first_mark line (xs ++ ys)
fault_in_front line xs ys f found h = stops f (first_mark line xs) (first_mark (line + length xs) ys) found h ∙ sym (first_append line xs ys)

pub fine_in_front : (line next : ℕ) (xs ys : List Mark) (f : Option TableFault) → is_some f ≡ false → f ≡ first_mark line xs → next ≡ line + length xs → first_mark next ys ≡ first_mark line (xs ++ ys)
fine_in_front line next xs ys f none h e = ap (λ n. first_mark n ys) e ∙ goes f (first_mark line xs) (first_mark (line + length xs) ys) none h ∙ sym (first_append line xs ys)

-- ---- lists in order

pub marks_by : {A : Type 0} (f : A → ℕ) (before : Option A) (xs : List A) → list_marks (λ s u. nat_lt (f s) (f u)) before xs ≡ list_marks nat_lt (mapped f before) (map f xs)
unfolding list_marks
marks_by f None [] = refl
marks_by f (Some b) [] = refl
marks_by f None (x ∷ xs) = ap (λ ms. placed true ∷ ms) (marks_by f (Some x) xs)
marks_by f (Some b) (x ∷ xs) = ap (λ ms. placed (nat_lt (f b) (f x)) ∷ ms) (marks_by f (Some x) xs)

pub length_marks : {A : Type 0} (less : A → A → Bool) (before : Option A) (xs : List A) → length (list_marks less before xs) ≡ length xs
unfolding list_marks
length_marks less before [] = refl
length_marks less before (x ∷ xs) = ap suc (length_marks less (Some x) xs)

order_next : (before : Option ℕ) (xs : List ℕ) (i : ℕ) → i < length xs → list_marks nat_lt before (drop i xs) ≡ placed (follows nat_lt before (get_or xs i 0)) ∷ list_marks nat_lt (Some (get_or xs i 0)) (drop (i + 1) xs)
unfolding list_marks
order_next before xs i lt = ap (list_marks nat_lt before) (drop_more xs i 0 lt)

pub order_more : (line : ℕ) (before : Option ℕ) (xs : List ℕ) (i : ℕ) (whole : Option TableFault) → i < length xs → true ≡ follows nat_lt before (get_or xs i 0)
    → whole ≡ first_mark line (list_marks nat_lt before (drop i xs)) → whole ≡ first_mark (line + 1) (list_marks nat_lt (Some (get_or xs i 0)) (drop (i + 1) xs))
unfolding first_mark
order_more line before xs i whole lt fine h =
    let rest : List Mark = list_marks nat_lt (Some (get_or xs i 0)) (drop (i + 1) xs) in
    h ∙ ap (first_mark line) (order_next before xs i lt) ∙ ap (λ b. first_mark line (placed b ∷ rest)) (sym fine)

pub order_stop : (line : ℕ) (before : Option ℕ) (xs : List ℕ) (i : ℕ) (whole : Option TableFault) → i < length xs → false ≡ follows nat_lt before (get_or xs i 0)
    → whole ≡ first_mark line (list_marks nat_lt before (drop i xs)) → Some (fault.Order line) ≡ whole
unfolding first_mark
order_stop line before xs i whole lt bad h =
    let rest : List Mark = list_marks nat_lt (Some (get_or xs i 0)) (drop (i + 1) xs) in
    sym (h ∙ ap (first_mark line) (order_next before xs i lt) ∙ ap (λ b. first_mark line (placed b ∷ rest)) (sym bad))

pub order_end : (line : ℕ) (before : Option ℕ) (xs : List ℕ) (i : ℕ) (whole : Option TableFault) → length xs ≤ i
    → whole ≡ first_mark line (list_marks nat_lt before (drop i xs)) → None ≡ whole
unfolding first_mark list_marks
order_end line before xs i whole le h = sym (h ∙ ap (λ ys. first_mark line (list_marks nat_lt before ys)) (drop_all i xs le))

-- a list in order by the places of its items
pub by_places : {A : Type 0} (f : A → ℕ) (line : ℕ) (xs : List A) (places : List ℕ) (r : Option TableFault) → places ≡ map f xs → r ≡ first_mark line (list_marks nat_lt None places) → r ≡ first_mark line (list_marks (λ s u. nat_lt (f s) (f u)) None xs)
by_places f line xs places r e h = h ∙ ap (λ ps. first_mark line (list_marks nat_lt None ps)) e ∙ ap (first_mark line) (sym (marks_by f None xs))
