-- The assignments from which digits lead into a set.
use Rattle.std.proofs.Common.{◌≡◌, ◌<◌, ℕ, suc, true, false, Bool, cond, List, Some, None, get_or, refl, sym, ap, ◌∙◌, subst, arith, ⊎_elim}
use Rattle.occ_bits.specs.Words.{digit}
use Rattle.occ_dd.specs.Assignment.{with_bit}
use Rattle.occ_dd.specs.Memo.{Learns, recalled}
use Rattle.occ_dd.specs.declared.memo.Call.{Call}
use Rattle.occ_dd.specs.declared.memo.Memo.{Memo}
use Rattle.occ_dd.specs.Store.{IsKnown, IsSet, Keeps, has}
use Rattle.occ_dd.specs.declared.set.SetId.{SetId}
use Rattle.occ_dd.specs.declared.store.Store.{Store}
use Rattle.occ_dd.proofs.Callers.{keeps_trans, known-keeps}
use Rattle.occ_bits.specs.Digits.{AreDigits, IsComposed, KeepComposed, reached_by}
use Rattle.occ_bits.proofs.Reaching.{digits-keep, none, reached_by-keeps, reached_more}

pub composed-keeps : (s t : Store) → Keeps s t → (digits : List SetId) → AreDigits s digits → (left : ℕ) (set r : SetId) → IsComposed s digits left set r → IsComposed t digits left set r
composed-keeps s t k digits are left set r is = record {
  known = known-keeps s t k set is.known;
  there = known-keeps s t k r is.there;
  members = λ x. k.same r x is.there ∙ is.members x ∙ sym (k.same set (reached_by s digits left x) is.known) ∙ ap (has t set) (sym (reached_by-keeps s t k digits are left x));
}

pub keep_composed-keeps : (s t : Store) → Keeps s t → (digits : List SetId) → AreDigits s digits → (memo : Memo) → KeepComposed s digits memo → KeepComposed t digits memo
keep_composed-keeps s t k digits are memo keep = record { each = λ call r e. composed-keeps s t k digits are call.first (record { 0 = call.second }) (record { 0 = r }) (keep.each call r e) }

pub keep_composed_learnt : (s : Store) (digits : List SetId) (old new : Memo) (call : Call) (r : SetId) → KeepComposed s digits old → IsComposed s digits call.first (record { 0 = call.second }) r → Learns old new call r.0 → KeepComposed s digits new
keep_composed_learnt s digits old new call r keep is learns = record {
  each = λ k n e. ⊎_elim
      (λ (h : recalled old k ≡ Some n). keep.each k n h)
      (λ (h : (k ≡ call) × (n ≡ r.0)). subst (λ (c : Call). IsComposed s digits c.first (record { 0 = c.second }) (record { 0 = n })) (sym h.0) (subst (λ m. IsComposed s digits call.first (record { 0 = call.second }) (record { 0 = m })) (sym h.1) is))
      (learns k n e);
}

pub keep_composed_none : (s : Store) (digits : List SetId) (memo : Memo) → ((k : Call) → recalled memo k ≡ None) → KeepComposed s digits memo
keep_composed_none s digits memo none = record { each = λ k r e. absurd (let f : None ≡ Some r = sym (none k) ∙ e in cc) }

-- the stores: at first, after each of the parts of the set, after each of what leads into them, at the end
pub composed_more : (s0 s1 s2 s3 s4 s : Store) → Keeps s0 s1 → Keeps s1 s2 → Keeps s2 s3 → Keeps s3 s4 → Keeps s4 s → (digits : List SetId) → AreDigits s0 digits
    → (place left : ℕ) (set set0 set1 low high made : SetId) → place < 64 → left ≡ suc place → IsKnown s0 set
    → IsSet s1 set0 (λ x. has s0 set (with_bit x place 0)) → IsSet s2 set1 (λ x. has s1 set (with_bit x place 1))
    → IsComposed s3 digits place set0 low → IsComposed s4 digits place set1 high
    → IsSet s made (λ x. cond (has s4 (get_or digits place none) x) (has s4 high x) (has s4 low x))
    → IsComposed s digits left set made
composed_more s0 s1 s2 s3 s4 s k01 k12 k23 k34 k4 digits are place left set set0 set1 low high made h e known zeros ones lows highs mades = record {
  known = known-keeps s0 s k0 set known;
  there = mades.known;
  members = λ x. mades.members x ∙ (λ i. cond (sym (k4.same d x d_known) i) (sym (k4.same high x highs.there) i) (sym (k4.same low x (known-keeps s3 s4 k34 low lows.there)) i))
      ∙ at x (has s d x) refl
      ∙ ap (has s set) (sym (reached_more s digits place none x (omega (arith, h, are.count))) ∙ ap (λ n. reached_by s digits n x) (sym e));
}
  where
    k3 : Keeps s3 s
    k3 = keeps_trans s3 s4 s k34 k4

    k2 : Keeps s2 s
    k2 = keeps_trans s2 s3 s k23 k3

    k1 : Keeps s1 s
    k1 = keeps_trans s1 s2 s k12 k2

    k0 : Keeps s0 s
    k0 = keeps_trans s0 s1 s k01 k1

    k03 : Keeps s0 s3
    k03 = keeps_trans s0 s2 s3 (keeps_trans s0 s1 s2 k01 k12) k23

    k04 : Keeps s0 s4
    k04 = keeps_trans s0 s3 s4 k03 k34

    d : SetId
    d = get_or digits place none

    d_known : IsKnown s4 d
    d_known = known-keeps s0 s4 k04 d (are.known place none (omega (arith, h, are.count)))

    lows_now : IsComposed s digits place set0 low
    lows_now = composed-keeps s3 s k3 digits (digits-keep s0 s3 k03 digits are) place set0 low lows

    highs_now : IsComposed s digits place set1 high
    highs_now = composed-keeps s4 s k4 digits (digits-keep s0 s4 k04 digits are) place set1 high highs

    zero_is : (y : ℕ) → has s set0 y ≡ has s set (with_bit y place 0)
    zero_is y = k1.same set0 y zeros.known ∙ zeros.members y ∙ sym (k0.same set (with_bit y place 0) known)

    one_is : (y : ℕ) → has s set1 y ≡ has s set (with_bit y place 1)
    one_is y = k2.same set1 y ones.known ∙ ones.members y ∙ k01.same set (with_bit y place 1) known ∙ sym (k0.same set (with_bit y place 1) known)

    at : (x : ℕ) (b : Bool) → has s d x ≡ b → cond (has s d x) (has s high x) (has s low x) ≡ has s set (with_bit (reached_by s digits place x) place (digit s d x))
    at x true t = ap (λ b. cond b (has s high x) (has s low x)) t ∙ highs_now.members x ∙ one_is (reached_by s digits place x) ∙ ap (λ b. has s set (with_bit (reached_by s digits place x) place (cond b 1 0))) (sym t)
    at x false t = ap (λ b. cond b (has s high x) (has s low x)) t ∙ lows_now.members x ∙ zero_is (reached_by s digits place x) ∙ ap (λ b. has s set (with_bit (reached_by s digits place x) place (cond b 1 0))) (sym t)
