-- The map of what writes make of a state.
use Rattle.std.proofs.Common.{◌≡◌, ℕ, suc, ◌<◌, ◌^◌, Bool, true, false, cond, List, [], ◌∷◌, Some, None, length, get_or, take, refl, sym, ap, ◌∙◌, subst, arith, ⊎_elim}
use Rattle.std.proofs.Math.Seq.{take-suc}
use Rattle.std.proofs.lemmas.List.Elements.{All-take}
use Rattle.occ_norm_frame.specs.occ_bits.Words.{digit}
use Rattle.occ_norm_frame.proofs.from_bits.Numbers.{digit-keeps}
use Rattle.occ_norm_frame.specs.occ_dd.Assignment.{with_bit}
use Rattle.occ_norm_frame.proofs.from_dd.Bits.{with_bit_lt}
use Rattle.occ_norm_frame.specs.occ_dd.Memo.{Learns, recalled}
use Rattle.occ_norm_frame.specs.occ_dd.declared.memo.Call.{Call}
use Rattle.occ_norm_frame.specs.occ_dd.declared.memo.Memo.{Memo}
use Rattle.occ_norm_frame.specs.occ_dd.Store.{Keeps, has}
use Rattle.occ_norm_frame.specs.occ_dd.declared.store.Store.{Store}
use Rattle.occ_norm_frame.specs.occ_mdd.Maps.{IsKnown, IsMap, value}
use Rattle.occ_norm_frame.specs.occ_mdd.declared.map.MapId.{MapId}
use Rattle.occ_norm_frame.specs.occ_node.declared.world.World.{World}
use Rattle.occ_norm_frame.specs.occ_follow.Sequence.{HasNodes}
use Rattle.occ_norm_frame.specs.Maps.{Extends}
use Rattle.occ_norm_frame.proofs.Worlds.{extends_trans, has_nodes-extends, map-keeps}
use Rattle.occ_norm_frame.specs.Kept.{map_id}
use Rattle.occ_norm_assign.specs.Writes.{AreWrites, IsWrite}
use Rattle.occ_norm_assign.specs.Written.{IsSubstituted, KeepSubstituted, onto}
use Rattle.occ_norm_assign.specs.declared.writes.Write.{Write}
use Rattle.occ_norm_assign.proofs.Keeping.{writes-extend}
use Rattle.occ_norm_assign.proofs.Written.{onto_append}

-- ---- sets stay as they are
pub onto-keeps : (s t : Store) → Keeps s t → (writes : List Write) → AreWrites s writes → (x y : ℕ) → onto t writes x y ≡ onto s writes x y
onto-keeps s t k [] are x y = refl
onto-keeps s t k (w ∷ writes) are x y =
    ap (λ d. onto t writes x (with_bit y w.bit d)) (digit-keeps s t k w.set x (are 0 w (omega arith)).known)
    ∙ onto-keeps s t k writes (λ i d h. are (suc i) d (omega arith)) x (with_bit y w.bit (digit s w.set x))

pub onto_below : (s : Store) (writes : List Write) → AreWrites s writes → (x y : ℕ) → y < 2 ^ 64 → onto s writes x y < 2 ^ 64
onto_below s [] are x y h = h
onto_below s (w ∷ writes) are x y h = onto_below s writes (λ i d l. are (suc i) d (omega arith)) x (with_bit y w.bit (digit s w.set x)) (with_bit_lt y w.bit (digit s w.set x) 64 (are 0 w (omega arith)).within h)

-- ---- as the world grows
pub extends_four : (u a b c d : World) → Extends u a → Extends a b → Extends b c → Extends c d → Extends u d
extends_four u a b c d k l m n = extends_trans u c d (extends_trans u b c (extends_trans u a b k l) m) n

pub extends_five : (u a b c d w : World) → Extends u a → Extends a b → Extends b c → Extends c d → Extends d w → Extends u w
extends_five u a b c d w k l m n o = extends_trans u d w (extends_four u a b c d k l m n) o

pub substituted-extends : (v w : World) → Extends v w → (writes : List Write) → AreWrites v.store writes → (left : ℕ) (map r : MapId) → IsSubstituted v writes left map r → IsSubstituted w writes left map r
substituted-extends v w k writes are left map r is = record {
  known = map-keeps v w k.maps map is.known;
  has = has_nodes-extends v w k r is.has;
  values = λ x. k.maps.same r x is.has.known ∙ is.values x ∙ sym (k.maps.same map _ is.known)
      ∙ ap (value w.maps map) (sym (onto-keeps v.store w.store k.grows.stored (take left writes) (All-take (IsWrite v.store) left writes are) x x));
}

pub keep_substituted-extends : (v w : World) → Extends v w → (writes : List Write) (memo : Memo) → KeepSubstituted v writes memo → KeepSubstituted w writes memo
keep_substituted-extends v w k writes memo keep = record {
  known = writes-extend v w k writes keep.known;
  each = λ call r e. substituted-extends v w k writes keep.known call.first (map_id call.second) (map_id r) (keep.each call r e);
}

pub keep_substituted_learnt : (w : World) (writes : List Write) (old new : Memo) (call : Call) (r : MapId) → KeepSubstituted w writes old → IsSubstituted w writes call.first (map_id call.second) r → Learns old new call r.0 → KeepSubstituted w writes new
keep_substituted_learnt w writes old new call r keep is learns = record {
  known = keep.known;
  each = λ k n e. ⊎_elim
      (λ (h : recalled old k ≡ Some n). keep.each k n h)
      (λ (h : (k ≡ call) × (n ≡ r.0)). subst (λ (c : Call). IsSubstituted w writes c.first (map_id c.second) (map_id n)) (sym h.0) (subst (λ m. IsSubstituted w writes call.first (map_id call.second) (map_id m)) (sym h.1) is))
      (learns k n e);
}

pub keep_substituted_none : (w : World) (writes : List Write) (memo : Memo) → AreWrites w.store writes → ((k : Call) → recalled memo k ≡ None) → KeepSubstituted w writes memo
keep_substituted_none w writes memo are none = record { known = are; each = λ k r e. absurd (let f : None ≡ Some r = sym (none k) ∙ e in cc) }

-- ---- one write more
pub cofactor_later : (u v w : World) → Extends u v → Extends v w → (map r : MapId) (b d : ℕ) → IsKnown u.maps map → IsMap v.maps r (λ x. value u.maps map (with_bit x b d)) → (x : ℕ) → value w.maps r x ≡ value w.maps map (with_bit x b d)
cofactor_later u v w k l map r b d known is x = l.maps.same r x is.known ∙ is.values x ∙ sym (k.maps.same map _ known) ∙ sym (l.maps.same map _ (map-keeps u v k.maps map known))

substituted_step : (w : World) (writes : List Write) (place left : ℕ) (d : Write) (map low0 high0 low high made : MapId) → place < length writes → left ≡ suc place
    → ((x : ℕ) → value w.maps low0 x ≡ value w.maps map (with_bit x (get_or writes place d).bit 0))
    → ((x : ℕ) → value w.maps high0 x ≡ value w.maps map (with_bit x (get_or writes place d).bit 1))
    → IsSubstituted w writes place low0 low → IsSubstituted w writes place high0 high
    → ((x : ℕ) → value w.maps made x ≡ cond (has w.store (get_or writes place d).set x) (value w.maps high x) (value w.maps low x))
    → (x : ℕ) → value w.maps made x ≡ value w.maps map (onto w.store (take left writes) x x)
substituted_step w writes place left d map low0 high0 low high made h e zeros ones lows highs mades x =
    mades x ∙ at (has w.store (get_or writes place d).set x) refl
    ∙ ap (value w.maps map) (sym (onto_append w.store (take place writes) (get_or writes place d ∷ []) x x) ∙ ap (λ ws. onto w.store ws x x) (sym (take-suc writes place d h) ∙ ap (λ n. take n writes) (sym e)))
  where
    before : ℕ
    before = onto w.store (take place writes) x x

    at : (t : Bool) → has w.store (get_or writes place d).set x ≡ t
        → cond (has w.store (get_or writes place d).set x) (value w.maps high x) (value w.maps low x) ≡ value w.maps map (with_bit before (get_or writes place d).bit (digit w.store (get_or writes place d).set x))
    at true t = ap (λ b. cond b (value w.maps high x) (value w.maps low x)) t ∙ highs.values x ∙ ones before ∙ ap (λ b. value w.maps map (with_bit before (get_or writes place d).bit (cond b 1 0))) (sym t)
    at false t = ap (λ b. cond b (value w.maps high x) (value w.maps low x)) t ∙ lows.values x ∙ zeros before ∙ ap (λ b. value w.maps map (with_bit before (get_or writes place d).bit (cond b 1 0))) (sym t)

-- the worlds: at first, after each of the cofactors, after each of the parts, at the end
pub substituted_more : (w0 w1 w2 w3 w4 w : World) → Extends w0 w1 → Extends w1 w2 → Extends w2 w3 → Extends w3 w4 → Extends w4 w
    → (writes : List Write) → AreWrites w0.store writes
    → (place left : ℕ) (d : Write) (map low0 high0 low high made : MapId) → place < length writes → left ≡ suc place → HasNodes w0 map
    → IsMap w1.maps low0 (λ x. value w0.maps map (with_bit x (get_or writes place d).bit 0))
    → IsMap w2.maps high0 (λ x. value w1.maps map (with_bit x (get_or writes place d).bit 1))
    → IsSubstituted w3 writes place low0 low → IsSubstituted w4 writes place high0 high
    → (HasNodes w4 high → HasNodes w4 low → HasNodes w made)
    → IsMap w.maps made (λ x. cond (has w4.store (get_or writes place d).set x) (value w4.maps high x) (value w4.maps low x))
    → IsSubstituted w writes left map made
substituted_more w0 w1 w2 w3 w4 w k01 k12 k23 k34 k4 writes are0 place left d map low0 high0 low high made h e has0 zeros ones lows highs makes mades =
    let k3 : Extends w3 w = extends_trans w3 w4 w k34 k4 in
    let k2 : Extends w2 w = extends_trans w2 w3 w k23 k3 in
    let k1 : Extends w1 w = extends_trans w1 w2 w k12 k2 in
    let k03 : Extends w0 w3 = extends_trans w0 w2 w3 (extends_trans w0 w1 w2 k01 k12) k23 in
    let k04 : Extends w0 w4 = extends_trans w0 w3 w4 k03 k34 in
    let has1 : HasNodes w1 map = has_nodes-extends w0 w1 k01 map has0 in
    let low_has : HasNodes w4 low = has_nodes-extends w3 w4 k34 low lows.has in
    let are4 : AreWrites w4.store writes = writes-extend w0 w4 k04 writes are0 in
    record {
      known = map-keeps w1 w k1.maps map has1.known;
      has = makes highs.has low_has;
      values = substituted_step w writes place left d map low0 high0 low high made h e
          (cofactor_later w0 w1 w k01 k1 map low0 (get_or writes place d).bit 0 has0.known zeros)
          (cofactor_later w1 w2 w k12 k2 map high0 (get_or writes place d).bit 1 has1.known ones)
          (substituted-extends w3 w k3 writes (writes-extend w0 w3 k03 writes are0) place low0 low lows)
          (substituted-extends w4 w k4 writes are4 place high0 high highs)
          (λ x. mades.values x
          ∙ ap (λ b. cond b (value w4.maps high x) (value w4.maps low x)) (sym (k4.grows.stored.same (get_or writes place d).set x (are4 place d h).known))
          ∙ (λ i. cond (has w.store (get_or writes place d).set x) (sym (k4.maps.same high x highs.has.known) i) (sym (k4.maps.same low x low_has.known) i)));
    }
