use Rattle.std.proofs.Common.{◌≡◌, ℕ, ◌+◌, ◌-◌, ◌≤◌, List, ◌++◌, length, take, drop, Option, Some, None, refl, sym, ap, ◌∙◌, arith}
use Rattle.std.proofs.lemmas.List.{take_rest, append_assoc, length-drop}
use Rattle.std.proofs.Math.Seq.{take-add}
use Rattle.occ_desk.specs.Desk.{with_more}

-- what is written in two steps is written at once
with_more-twice : (told : Option (List ℕ)) (xs ys : List ℕ) → with_more (with_more told xs) ys ≡ with_more told (xs ++ ys)
with_more-twice None xs ys = refl
with_more-twice (Some zs) xs ys = ap Some (append_assoc zs xs ys)

-- after the first bytes, a front of the rest
pub sent_more : (first old new : Option (List ℕ)) (bytes rest : List ℕ) (sent more : ℕ) → rest ≡ drop sent bytes
    → old ≡ with_more first (take sent bytes) → new ≡ with_more old (take more rest) → new ≡ with_more first (take (sent + more) bytes)
sent_more first old new bytes rest sent more e before after =
    after ∙ ap (λ o. with_more o (take more rest)) before ∙ with_more-twice first (take sent bytes) (take more rest)
    ∙ ap (λ r. with_more first (take sent bytes ++ take more r)) e ∙ ap (with_more first) (sym (take-add sent more bytes))

-- and it stays within the bytes
pub sent_within : (bytes : List ℕ) (sent more : ℕ) → sent ≤ length bytes → more ≤ length (take (length bytes - sent) (drop sent bytes)) → sent + more ≤ length bytes
sent_within bytes sent more h k =
    let l : length (take (length bytes - sent) (drop sent bytes)) ≡ length bytes - sent = ap length (take_rest bytes sent) ∙ length-drop sent bytes in
    omega arith
