-- Two normal tables of one interface whose states have the same behaviours are one table.
use Rattle.std.proofs.Common.{◌≡◌, ℕ, zero, suc, ◌^◌, ◌<◌, List, [], ◌∷◌, length, get_or, refl, sym, ap, ◌∙◌, subst, inl, inr, arith}
use Rattle.std.proofs.lemmas.List.{ext_get_or}
use Rattle.occ_syntax.specs.Counts.{bits_of_scope}
use Rattle.occ_nform_table.specs.Normal.{Parts}
use Rattle.occ_nform_table.specs.Tables.{IsNormal}
use Rattle.occ_nform_table.specs.Behaviours.{row_ends}
use Rattle.occ_nform_table.specs.Alike.{HaveSameBehaviours}
use Rattle.occ_nform_table.proofs.Lists.{In, in_all, place_of_in}
use Rattle.occ_nform_table.proofs.Facts.{IsPlain, all_reached, heights_of, plain_of, proper_of}
use Rattle.occ_nform_table.proofs.Rows.{AreAlike, turned}
use Rattle.occ_nform_table.proofs.Tables.{Meets, all_met, one_list, one_row}

state_in : (states : List ℕ) (k : ℕ) → k < length states → In (get_or states k 0) states
state_in [] k h = absurd (omega (arith, h))
state_in (s ∷ states) zero h = inl refl
state_in (s ∷ states) (suc k) h = inr (state_in states k (omega (arith, h)))

module _ (a b : Parts) (names : a.names ≡ b.names) (params : a.params ≡ b.params) (a_normal : IsNormal a) (b_normal : IsNormal b) (same : HaveSameBehaviours a b) where
  a_plain : IsPlain a.names a.params a.rows (heights_of [] a.rows)
  a_plain = plain_of a a_normal

  b_plain : IsPlain a.names a.params b.rows (heights_of [] b.rows)
  b_plain = subst (λ ns. IsPlain ns a.params b.rows (heights_of [] b.rows)) (sym names) (subst (λ ps. IsPlain b.names ps b.rows (heights_of [] b.rows)) (sym params) (plain_of b b_normal))

  same_count : length a.states ≡ length b.states
  same_count = a_normal.count ∙ ap (λ ps. 2 ^ bits_of_scope ps) params ∙ sym b_normal.count

  a_within : (k : ℕ) → k < length a.states → get_or a.states k 0 < length a.rows
  a_within k h = in_all (λ n. n < length a.rows) a.states (get_or a.states k 0) a_normal.states (state_in a.states k h)

  b_within : (k : ℕ) → k < length b.states → get_or b.states k 0 < length b.rows
  b_within k h = in_all (λ n. n < length b.rows) b.states (get_or b.states k 0) b_normal.states (state_in b.states k h)

  states_alike : (k : ℕ) → k < length a.states → AreAlike a.params a.rows b.rows (get_or a.states k 0) (get_or b.states k 0)
  states_alike k h =
      let within : k < 2 ^ bits_of_scope a.params = omega (arith, h, a_normal.count) in
      record {
        fails = λ t X f. same.same_fails k t X within f;
        ends = λ t place l f. same.same_ends k place t within l f ∙ ap (λ ps. row_ends ps b.rows (get_or b.states k 0) t place) (sym params);
      }

  a_first : (s : ℕ) → In s a.states → Meets a.params a.rows b.rows s
  a_first s u =
      let (k, h, e) = place_of_in 0 a.states s u in
      subst (Meets a.params a.rows b.rows) e (get_or b.states k 0, b_within k (omega (arith, h, same_count)), states_alike k h)

  b_first : (s : ℕ) → In s b.states → Meets a.params b.rows a.rows s
  b_first s u =
      let (k, h, e) = place_of_in 0 b.states s u in
      let l : k < length a.states = omega (arith, h, same_count) in
      subst (Meets a.params b.rows a.rows) e (get_or a.states k 0, a_within k l, turned a.params a.rows b.rows (get_or a.states k 0) (get_or b.states k 0) (states_alike k l))

  rows_same : a.rows ≡ b.rows
  rows_same = one_list a.names a.params (proper_of a a_normal) a.rows b.rows (heights_of [] a.rows) (heights_of [] b.rows) a_plain b_plain
      (all_met a.names a.params a.rows b.rows (heights_of [] a.rows) (heights_of [] b.rows) a_plain b_plain a.states a_first (all_reached a a_normal))
      (all_met a.names a.params b.rows a.rows (heights_of [] b.rows) (heights_of [] a.rows) b_plain a_plain b.states b_first (all_reached b b_normal))

  states_same : a.states ≡ b.states
  states_same = ext_get_or 0 a.states b.states same_count (λ k h.
      let within : get_or b.states k 0 < length a.rows = subst (λ rs. get_or b.states k 0 < length rs) (sym rows_same) (b_within k (omega (arith, h, same_count))) in
      one_row a.names a.params (proper_of a a_normal) a.rows (heights_of [] a.rows) a_plain (get_or a.states k 0) (get_or b.states k 0) (a_within k h) within
      (subst (λ rs. AreAlike a.params a.rows rs (get_or a.states k 0) (get_or b.states k 0)) (sym rows_same) (states_alike k h)))

  pub one_normal_table : (a.rows ≡ b.rows) × (a.states ≡ b.states)
  one_normal_table = (rows_same, states_same)
