-- The pair of a number among the steps of controls at once, by the pair of their runs.
use Rattle.std.proofs.Common.{◌≡◌, ◌+◌, ◌<◌, ◌++◌, ℕ, List, [], ◌∷◌, map, length, Some, refl, ap, sym, ◌∙◌, slice_get, zero, suc, subst, arith}
use Rattle.std.proofs.lemmas.List.{length-map}
use Rattle.occ_run_steps.specs.Step.{Step, leaving, meetings}
use Rattle.occ_run.specs.declared.run.Run.{Run}
use Rattle.occ_run.specs.declared.meeting.Met.{Met}
use Rattle.occ_run.specs.declared.meeting.Pair.{Pair}
use Rattle.occ_run.specs.declared.meeting.Pair.TheVariants.{At, Past}
use Rattle.occ_run.specs.Pairs.{IsPair, MetFrom, pairs_before, pairs_until}
use Rattle.occ_run.specs.MeetingRuns.{IsMet, events, met, pairs_along, pairs_among, run_pairs, spelled}
use Rattle.occ_run.proofs.MeetingPairs.{pairs_count}
use Rattle.occ_run.specs.Effects.{Effect, both_of, pairs_of, pairs_with}
use Rattle.occ_run.proofs.Founds.{get_behind, get_front}
use Rattle.occ_run.proofs.Lists.{get_map}
use Rattle.occ_run.proofs.Meetings.{meetings_length}
use Rattle.occ_run.proofs.Unseen.{along_length}

-- as many pairs of two as their runs have
two_count : (i j : ℕ) (ks ls : List (Step Effect)) (rs qs : List Run) → events ks ≡ spelled rs → events ls ≡ spelled qs → length (map (leaving (both_of i j)) (meetings ks ls)) ≡ length (run_pairs rs qs)
two_count i j ks ls rs qs s t =
    length-map (meetings ks ls) (leaving (both_of i j)) ∙ meetings_length ks ls ∙ ap (λ es. length (met es (events ls))) s
    ∙ ap (λ es. length (met (spelled rs) es)) t ∙ pairs_count rs qs

-- the steps of the control of a number are those of its runs
pub record Row (kss : List (List (Step Effect))) (rs : List Run) (i : ℕ) : Type 0 where
  pub steps : List (Step Effect)
  pub stand : slice_get kss i ≡ Some steps
  pub same : events steps ≡ spelled rs

row_of : (kss : List (List (Step Effect))) (rss : List (List Run)) (i : ℕ) (rs : List Run) → map events kss ≡ map spelled rss → slice_get rss i ≡ Some rs → Row kss rs i
row_of [] [] i rs t h = cc
row_of [] (qs ∷ rss) i rs t h = cc
row_of (ks ∷ kss) [] i rs t h = cc
row_of (ks ∷ kss) (qs ∷ rss) zero rs t h =
    let first : events ks ≡ spelled qs = cc in
    let it : qs ≡ rs = cc in
    record { steps = ks; stand = refl; same = first ∙ ap spelled it }
row_of (ks ∷ kss) (qs ∷ rss) (suc i) rs t h =
    let rest : map events kss ≡ map spelled rss = cc in
    let row = row_of kss rss i rs rest h in
    record { steps = row.steps; stand = row.stand; same = row.same }

-- where the pairs of one with another stand among those with the later ones
along_place : (i j : ℕ) (ks : List (Step Effect)) (kss : List (List (Step Effect))) (rs : List Run) (rss : List (List Run)) (place inner : ℕ) (ls : List (Step Effect)) (k : Step (Effect × Effect))
    → events ks ≡ spelled rs → map events kss ≡ map spelled rss → slice_get kss place ≡ Some ls → slice_get (meetings ks ls) inner ≡ Some k
    → slice_get (pairs_with i ks j kss) (pairs_until rs rss place + inner) ≡ Some (leaving (both_of i (j + place)) k)
along_place i j ks [] rs rss place inner ls k s t h g = cc
along_place i j ks (js ∷ kss) rs [] place inner ls k s t h g = cc
along_place i j ks (js ∷ kss) rs (qs ∷ rss) zero inner ls k s t h g =
    let it : js ≡ ls = cc in
    let none : 0 + inner ≡ inner = omega arith in
    let here : j ≡ j + 0 = omega arith in
    let there : slice_get (meetings ks js) inner ≡ Some k = ap (λ xs. slice_get (meetings ks xs) inner) it ∙ g in
    ap (slice_get (pairs_with i ks j (js ∷ kss))) none
    ∙ get_front (map (leaving (both_of i j)) (meetings ks js)) (pairs_with i ks (j + 1) kss) inner (leaving (both_of i j) k) (get_map (leaving (both_of i j)) (meetings ks js) inner k there)
    ∙ ap (λ n. Some (leaving (both_of i n) k)) here
along_place i j ks (js ∷ kss) rs (qs ∷ rss) (suc place) inner ls k s t h g =
    let first : events js ≡ spelled qs = cc in
    let rest : map events kss ≡ map spelled rss = cc in
    let front = map (leaving (both_of i j)) (meetings ks js) in
    let count = two_count i j ks js rs qs s first in
    let split : length (run_pairs rs qs) + pairs_until rs rss place + inner ≡ length front + (pairs_until rs rss place + inner) = omega (arith, count) in
    let further : j + 1 + place ≡ j + suc place = omega arith in
    ap (slice_get (front ++ pairs_with i ks (j + 1) kss)) split
    ∙ get_behind front (pairs_with i ks (j + 1) kss) (pairs_until rs rss place + inner)
    ∙ along_place i (j + 1) ks kss rs rss place inner ls k s rest h g
    ∙ ap (λ n. Some (leaving (both_of i n) k)) further

-- and among all
from_place : (i : ℕ) (kss : List (List (Step Effect))) (rss : List (List Run)) (place other inner : ℕ) (ks ls : List (Step Effect)) (k : Step (Effect × Effect)) → map events kss ≡ map spelled rss
    → place < other → slice_get kss place ≡ Some ks → slice_get kss other ≡ Some ls → slice_get (meetings ks ls) inner ≡ Some k
    → slice_get (pairs_of i kss) (pairs_before rss place other + inner) ≡ Some (leaving (both_of (i + place) (i + other)) k)
from_place i [] rss place other inner ks ls k t b h g m = cc
from_place i (js ∷ kss) [] place other inner ks ls k t b h g m = cc
from_place i (js ∷ kss) (qs ∷ rss) place zero inner ks ls k t b h g m = absurd (omega (arith, b))
from_place i (js ∷ kss) (qs ∷ rss) zero (suc other) inner ks ls k t b h g m =
    let first : events js ≡ spelled qs = cc in
    let rest : map events kss ≡ map spelled rss = cc in
    let it : js ≡ ks = cc in
    let here : i ≡ i + 0 = omega arith in
    let further : i + 1 + other ≡ i + suc other = omega arith in
    let there : slice_get (meetings js ls) inner ≡ Some k = ap (λ xs. slice_get (meetings xs ls) inner) it ∙ m in
    get_front (pairs_with i js (i + 1) kss) (pairs_of (i + 1) kss) (pairs_until qs rss other + inner) (leaving (both_of i (i + 1 + other)) k)
    (along_place i (i + 1) js kss qs rss other inner ls k first rest g there)
    ∙ ap (λ n. Some (leaving (both_of n (i + 1 + other)) k)) here ∙ ap (λ n. Some (leaving (both_of (i + 0) n) k)) further
from_place i (js ∷ kss) (qs ∷ rss) (suc place) (suc other) inner ks ls k t b h g m =
    let first : events js ≡ spelled qs = cc in
    let rest : map events kss ≡ map spelled rss = cc in
    let front = pairs_with i js (i + 1) kss in
    let count = along_length i js (i + 1) kss qs rss first rest in
    let below : place < other = omega (arith, b) in
    let split : pairs_along qs rss + pairs_before rss place other + inner ≡ length front + (pairs_before rss place other + inner) = omega (arith, count) in
    let one : i + 1 + place ≡ i + suc place = omega arith in
    let two : i + 1 + other ≡ i + suc other = omega arith in
    ap (slice_get (front ++ pairs_of (i + 1) kss)) split
    ∙ get_behind front (pairs_of (i + 1) kss) (pairs_before rss place other + inner)
    ∙ from_place (i + 1) kss rss place other inner ks ls k rest below h g m
    ∙ ap (λ n. Some (leaving (both_of n (i + 1 + other)) k)) one ∙ ap (λ n. Some (leaving (both_of (i + suc place) n) k)) two

-- the pair of a number
pub record PairAt (kss : List (List (Step Effect))) (number : ℕ) (m : Met) : Type 0 where
  pub ones : List (Step Effect)
  pub others : List (Step Effect)
  pub inner : ℕ
  pub one_stands : slice_get kss m.first ≡ Some ones
  pub other_stands : slice_get kss m.second ≡ Some others
  pub is_met : IsMet (events ones) (events others) inner m.event m.before m.answer
  pub whole : (k : Step (Effect × Effect)) → slice_get (meetings ones others) inner ≡ Some k → slice_get (pairs_of 0 kss) number ≡ Some (leaving (both_of m.first m.second) k)

pair_of : (kss : List (List (Step Effect))) (each rss : List (List Run)) (n : ℕ) (m : Met) → rss ≡ each → map spelled each ≡ map events kss → MetFrom 0 rss n m → PairAt kss n m
pair_of kss each rss n m read all h =
    let t : map events kss ≡ map spelled rss = sym (ap (map spelled) read ∙ all) in
    let one = row_of kss rss h.place h.ones t h.one_stands in
    let other = row_of kss rss h.other h.others t h.other_stands in
    let first = h.first in
    let second = h.second in
    let here : h.place ≡ m.first = omega (arith, first) in
    let there : h.other ≡ m.second = omega (arith, second) in
    let P : List _ → Type 0 = λ es. IsMet es (spelled h.others) h.inner m.event m.before m.answer in
    let Q : List _ → Type 0 = λ es. IsMet (events one.steps) es h.inner m.event m.before m.answer in
    record {
      ones = one.steps;
      others = other.steps;
      inner = h.inner;
      one_stands = sym (ap (slice_get kss) here) ∙ one.stand;
      other_stands = sym (ap (slice_get kss) there) ∙ other.stand;
      is_met = subst Q (sym other.same) (subst P (sym one.same) h.is_met);
      whole = λ k e. sym (ap (slice_get (pairs_of 0 kss)) h.count)
          ∙ from_place 0 kss rss h.place h.other h.inner one.steps other.steps k t h.below one.stand other.stand e
          ∙ ap (λ v. Some (leaving (both_of v (0 + h.other)) k)) (sym h.first) ∙ ap (λ v. Some (leaving (both_of m.first v) k)) (sym h.second);
    }

pub pair_is : (kss : List (List (Step Effect))) (each rss : List (List Run)) (n : ℕ) (p : Pair) (m : Met) → rss ≡ each → map spelled each ≡ map events kss → p ≡ At m → IsPair 0 rss n p → PairAt kss n m
pair_is kss each rss n p m read all is h = pair_of kss each rss n m read all (subst (λ q. IsPair 0 rss n q) is h)

-- there is no pair of that number
pub all_past : (rss : List (List Run)) (n more : ℕ) (p : Pair) → p ≡ Past more → IsPair 0 rss n p → pairs_among rss + more ≡ n
all_past rss n more p is h = subst (λ q. IsPair 0 rss n q) is h
