-- Counts of rows, and their heights.
use Rattle.std.proofs.Common.{◌≡◌, ◌<◌, ◌≤◌, ◌^◌, ◌+◌, ◌-◌, ℕ, zero, suc, max, min, List, [], ◌∷◌, ◌++◌, get_or, drop, drop-cons, length, refl, sym, ap, ◌∙◌, arith}
use Rattle.std.proofs.lemmas.List.{drop_all}
use Rattle.occ_syntax.specs.occ_base.declared.event.Event.{Event}
use Rattle.occ_syntax.specs.Counts.{capped}
use Rattle.occ_nform_rows.specs.occ_nform_table.Judging.{height_over}
use Rattle.occ_nform_rows.specs.occ_nform_table.declared.table.TableRow.{TableRow}
use Rattle.occ_nform.specs.Counts.{greatest, heights_of, offers_in}

-- ---- offers
pub offers_end : (offers i : ℕ) (rows : List TableRow) → length rows ≤ i → capped (offers + offers_in (drop i rows)) ≡ capped (offers_in rows) → offers < 2 ^ 64 → offers ≡ capped (offers_in rows)
offers_end offers i rows past e small =
    let fits : offers ≡ min (offers + 0) (2 ^ 64 - 1) = omega (arith, small) in
    let left : drop i rows ≡ [] = drop_all i rows past in
    fits ∙ ap (λ r. capped (offers + offers_in r)) (sym left) ∙ e

-- ---- heights
greatest_more : (hs : List ℕ) (h : ℕ) → greatest (hs ++ h ∷ []) ≡ max (greatest hs) h
greatest_more [] h = omega arith
greatest_more (g ∷ hs) h = ap (max g) (greatest_more hs h) ∙ turned g (greatest hs) h
  where
    turned : (a b c : ℕ) → max a (max b c) ≡ max (max a b) c
    turned a b c = omega arith

pub height_within : (hs : List ℕ) (i : ℕ) → get_or hs i 0 ≤ greatest hs
height_within [] i = none i
  where
    none : (i : ℕ) → get_or [] i 0 ≤ 0
    none zero = omega arith
    none (suc i) = omega arith
height_within (h ∷ hs) zero = omega arith
height_within (h ∷ hs) (suc i) = let k : get_or hs i 0 ≤ greatest hs = height_within hs i in omega (arith, k)

behind : (offers : List (Event × ℕ)) (i : ℕ) (d : Event × ℕ) → i < length offers → drop i offers ≡ get_or offers i d ∷ drop (i + 1) offers
behind offers i d h = let next : suc i ≡ i + 1 = omega arith in drop-cons offers i d h ∙ ap (λ n. get_or offers i d ∷ drop n offers) next

behind_row : (rows : List TableRow) (i : ℕ) (d : TableRow) → i < length rows → drop i rows ≡ get_or rows i d ∷ drop (i + 1) rows
behind_row rows i d h = let next : suc i ≡ i + 1 = omega arith in drop-cons rows i d h ∙ ap (λ n. get_or rows i d ∷ drop n rows) next

pub height_step : (hs : List ℕ) (offers : List (Event × ℕ)) (i : ℕ) (d : Event × ℕ) (height next all : ℕ) → i < length offers → max height (height_over hs (drop i offers)) ≡ all → next ≡ max height (1 + get_or hs (get_or offers i d).1 0)
    → max next (height_over hs (drop (i + 1) offers)) ≡ all
unfolding height_over
height_step hs offers i d height next all h e is =
    ap (λ n. max n (height_over hs (drop (i + 1) offers))) is ∙ turned height (1 + get_or hs (get_or offers i d).1 0) (height_over hs (drop (i + 1) offers))
    ∙ ap (λ l. max height (height_over hs l)) (sym (behind offers i d h)) ∙ e
  where
    turned : (a b c : ℕ) → max (max a b) c ≡ max a (max b c)
    turned a b c = omega arith

pub height_end : (hs : List ℕ) (offers : List (Event × ℕ)) (i height all : ℕ) → length offers ≤ i → max height (height_over hs (drop i offers)) ≡ all → height ≡ all
unfolding height_over
height_end hs offers i height all past e =
    let left : drop i offers ≡ [] = drop_all i offers past in
    let none : height ≡ max height 0 = omega arith in
    none ∙ ap (λ l. max height (height_over hs l)) (sym left) ∙ e

-- what is kept of the heights so far
pub record AreHeights (rows : List TableRow) (hs : List ℕ) (i high : ℕ) : Type 0 where
  pub count : length hs ≡ i
  pub height : high ≡ greatest hs
  pub most : greatest hs ≤ length hs
  pub all : heights_of hs (drop i rows) ≡ heights_of [] rows

more_length : (hs : List ℕ) (h : ℕ) → length (hs ++ h ∷ []) ≡ length hs + 1
more_length [] h = refl
more_length (g ∷ hs) h = let k : length (hs ++ h ∷ []) ≡ length hs + 1 = more_length hs h in omega (arith, k)

pub heights_step : (rows : List TableRow) (hs : List ℕ) (i height own next : ℕ) (d : TableRow) → i < length rows → AreHeights rows hs i height → own ≡ height_over hs (get_or rows i d).offers → own ≤ 1 + length hs → next ≡ max height own
    → AreHeights rows (hs ++ own ∷ []) (i + 1) next
heights_step rows hs i height own next d h are is most more = record {
  count = more_length hs own ∙ ap (λ n. n + 1) are.count;
  height = more ∙ ap (λ n. max n own) are.height ∙ sym (greatest_more hs own);
  most = let a = greatest_more hs own in let b = more_length hs own in omega (arith, a, b, most, are.most);
  all = ap (λ n. heights_of (hs ++ n ∷ []) (drop (i + 1) rows)) is ∙ ap (heights_of hs) (sym (behind_row rows i d h)) ∙ are.all;
}

pub heights_end : (rows : List TableRow) (hs : List ℕ) (i height : ℕ) → length rows ≤ i → AreHeights rows hs i height → height ≡ greatest (heights_of [] rows)
heights_end rows hs i height past are =
    let left : drop i rows ≡ [] = drop_all i rows past in
    are.height ∙ ap greatest (sym (ap (heights_of hs) left) ∙ are.all)
