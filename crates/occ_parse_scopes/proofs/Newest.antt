-- Lists that grow at their end, seen with the newest item first.
use Rattle.std.proofs.Common.{suc, subst, ◌≡◌, ◌≤◌, ◌<◌, ◌-◌, ◌+◌, ℕ, List, [], ◌∷◌, length, take, drop, get_or, reverse, sym, ap, ◌∙◌, arith, length-drop}
use Rattle.std.proofs.Math.Seq.{drop-append_seam}
use Rattle.std.proofs.lemmas.List.{take_more, take-append-drop, reverse-append, length-reverse}

pub newest_first : {A : Type 0} (xs : List A) (i : ℕ) (d : A) → i < length xs → reverse (take (i + 1) xs) ≡ get_or xs i d ∷ reverse (take i xs)
newest_first xs i d h = ap reverse (take_more xs i d h) ∙ reverse-append (take i xs) (get_or xs i d ∷ [])

pub newest_left : {A : Type 0} (xs : List A) (n : ℕ) → n ≤ length xs → reverse (take n xs) ≡ drop (length (reverse xs) - n) (reverse xs)
newest_left xs n h =
    let whole = ap reverse (sym (take-append-drop n xs)) ∙ reverse-append (take n xs) (drop n xs) in
    let many : length (reverse (drop n xs)) ≡ length (reverse xs) - n = length-reverse (drop n xs) ∙ length-drop n xs ∙ ap (λ l. l - n) (sym (length-reverse xs)) in
    sym (drop-append_seam (reverse (drop n xs)) (reverse (take n xs))) ∙ (λ i. drop (many i) (sym whole i))

-- the newest item taken away, more of what is to be left
pub newest_off : {A : Type 0} (s t : List A) (n : ℕ) → t ≡ drop 1 s → n < length s → (n ≤ length t) × (drop (length t - n) t ≡ drop (length s - n) s)
newest_off [] t n e h = absurd (omega arith)
newest_off (x ∷ s) t n e h =
    let k : suc (length s) - n ≡ suc (length s - n) = omega arith in
    (subst (λ q. n ≤ length q) (sym e) (omega arith), ap (λ q. drop (length q - n) q) e ∙ ap (λ m. drop m (x ∷ s)) (sym k))
