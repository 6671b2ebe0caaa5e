-- The numbers that are tried for a word.
use Rattle.std.proofs.Common.{◌≡◌, ◌+◌, ◌-◌, ◌≤◌, ◌∙◌, ℕ, true, false, cond, suc, List, Option, Some, None, find, decimal, arith, refl, ap}
use Rattle.std.specs.List.{range_with_len}
use Rattle.std.specs.Str.{bytes_eq}
use Rattle.occ_tool_words.specs.Words.{stages_of}

-- the least number from n to 48 whose numeral the word is
unfoldable pub found_from : List ℕ → ℕ → Option ℕ
found_from word n = find (λ k. bytes_eq (decimal k) word) (range_with_len n (49 - n))

pub from_first : (word : List ℕ) → stages_of word ≡ found_from word 1
unfolding stages_of found_from
from_first word = refl

pub none_left : (word : List ℕ) (n : ℕ) → n ≡ 49 → found_from word n ≡ None
unfolding found_from
none_left word n e = ap (λ k. find (λ k. bytes_eq (decimal k) word) (range_with_len k (49 - k))) e

tried : (word : List ℕ) (n : ℕ) → n ≤ 48 → found_from word n ≡ cond (bytes_eq (decimal n) word) (Some n) (found_from word (n + 1))
unfolding found_from
tried word n low =
    let more : 49 - n ≡ suc (48 - n) = omega (arith, low) in
    let rest : 48 - n ≡ 49 - (n + 1) = omega (arith, low) in
    ap (λ k. find (λ k. bytes_eq (decimal k) word) (range_with_len n k)) more
    ∙ ap (λ k. cond (bytes_eq (decimal n) word) (Some n) (find (λ k. bytes_eq (decimal k) word) (range_with_len (n + 1) k))) rest

pub here : (word : List ℕ) (n : ℕ) → n ≤ 48 → bytes_eq (decimal n) word ≡ true → found_from word n ≡ Some n
here word n low e = tried word n low ∙ ap (λ b. cond b (Some n) (found_from word (n + 1))) e

pub later : (word : List ℕ) (n : ℕ) → n ≤ 48 → bytes_eq (decimal n) word ≡ false → found_from word n ≡ found_from word (n + 1)
later word n low e = tried word n low ∙ ap (λ b. cond b (Some n) (found_from word (n + 1))) e
