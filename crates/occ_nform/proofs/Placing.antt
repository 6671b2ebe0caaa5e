-- Drafts become rows one after another.
use Rattle.std.proofs.Common.{◌≡◌, ◌≤◌, ◌<◌, ◌+◌, ◌++◌, ℕ, List, [], ◌∷◌, length, get_or, set, map, sym, ap, ◌∙◌, subst, arith, length-append, append_assoc}
use Rattle.std.proofs.lemmas.List.{map_push, length-map}
use Rattle.std.specs.List.{All}
use Rattle.occ_nform.specs.declared.level.Draft.{Draft}
use Rattle.occ_nform.specs.declared.numbering.Numbering.{Numbering}
use Rattle.occ_nform.specs.Numbering.{numbered_from, IsPlaced, ArePlaced}
use Rattle.occ_nform.proofs.Levels.{numbers_wide}

numbered_push : (n : ℕ) (xs : List Draft) (d : Draft) (numbers : List ℕ) → numbered_from n (xs ++ d ∷ []) numbers ≡ set (numbered_from n xs numbers) d.node.0 (n + length xs)
numbered_push n [] d numbers = let same : n ≡ n + 0 = omega arith in ap (λ m. set numbers d.node.0 m) same
numbered_push n (x ∷ xs) d numbers =
    let same : n + 1 + length xs ≡ n + length (x ∷ xs) = omega arith in
    numbered_push (n + 1) xs d (set numbers x.node.0 n) ∙ ap (λ m. set (numbered_from (n + 1) xs (set numbers x.node.0 n)) d.node.0 m) same

pub placed_step : (old mid new : Numbering) (xs : List Draft) (d : Draft) → ArePlaced old mid xs → IsPlaced mid new d → ArePlaced old new (xs ++ d ∷ [])
placed_step old mid new xs d are is = record {
  rows = is.rows ∙ ap (λ l. l ++ d.row ∷ []) are.rows ∙ append_assoc old.rows (map (λ (d : Draft). d.row) xs) (d.row ∷ []) ∙ ap (λ l. old.rows ++ l) (sym (map_push (λ (d : Draft). d.row) xs d));
  numbers = is.numbers ∙ (λ i. set (are.numbers i) d.node.0 (count i)) ∙ sym (numbered_push (length old.rows) xs d old.numbers.items);
  most = λ h. few;
}
  where
    count : length mid.rows ≡ length old.rows + length xs
    count = ap length are.rows ∙ length-append old.rows (map (λ (d : Draft). d.row) xs) ∙ ap (λ n. length old.rows + n) (length-map xs (λ (d : Draft). d.row))

    few : length new.rows ≤ 4294967294
    few =
        let size : length new.rows ≡ length mid.rows + 1 = ap length is.rows ∙ length-append mid.rows (d.row ∷ []) in
        omega (arith, is.most)

pub still_known : (old mid : Numbering) (xs drafts : List Draft) (d : Draft) → ArePlaced old mid xs → All (λ (d : Draft). d.node.0 < length old.numbers.items) drafts → (k : ℕ) → k < length drafts → d ≡ get_or drafts k d
    → d.node.0 < length mid.numbers.items
still_known old mid xs drafts d are known k h is =
    let wide : length mid.numbers.items ≡ length old.numbers.items = ap length are.numbers ∙ numbers_wide (length old.rows) xs old.numbers.items in
    let small : d.node.0 < length old.numbers.items = subst (λ (d : Draft). d.node.0 < length old.numbers.items) (sym is) (known k d h) in
    omega arith
