-- Writes that are made all at once: their bits of a state are exchanged, and its node is turned once.
use Rattle.std.proofs.Common.{◌≡◌, ℕ, zero, suc, ◌<◌, ◌*◌, ◌^◌, ◌==◌, ◌++◌, ◌+◌, Bool, true, false, not, cond, List, [], ◌∷◌, Option, Some, length, get_or, take, refl, sym, ap, ◌∙◌, subst, arith, add-one, ⊎_elim}
use Rattle.std.proofs.Math.Seq.{take-suc}
use Rattle.std.proofs.Math.Nat.{one-mul, zero-mul}
use Rattle.std.proofs.lemmas.Bool.{cases_Bool, cond_both}
use Rattle.std.proofs.lemmas.List.Elements.{All-take}
use Rattle.std.proofs.lemmas.Nat.Bits.{and_pow as and_one_bit}
use Rattle.std.specs.Int.{bit_at}
use Rattle.std.specs.Int.Bits.{bit_and, bit_xor, xor_zero_r}
use Rattle.occ_norm_frame.specs.occ_bits.Words.{digit}
use Rattle.occ_norm_frame.specs.occ_dd.Assignment.{turned, with_bit}
use Rattle.occ_norm_frame.proofs.from_dd.Bits.{bit_at-with_bit_other, bit_cases}
use Rattle.occ_norm_frame.specs.occ_dd.Store.{IsKnown, IsSet, Keeps, has}
use Rattle.occ_norm_frame.specs.occ_dd.declared.set.SetId.{SetId}
use Rattle.occ_norm_frame.proofs.from_dd.Callers.{known-keeps}
use Rattle.occ_norm_frame.specs.occ_dd.declared.store.Store.{Store}
use Rattle.occ_norm_frame.specs.occ_mdd.Maps.{IsMap, value}
use Rattle.occ_norm_frame.specs.occ_mdd.declared.map.MapId.{MapId}
use Rattle.occ_norm_frame.specs.occ_node.declared.node.NodeId.{NodeId}
use Rattle.occ_norm_frame.specs.occ_node.declared.world.World.{World}
use Rattle.occ_norm_frame.specs.occ_follow.Sequence.{HasNodes}
use Rattle.occ_norm_frame.specs.Growth.{turned_grow}
use Rattle.occ_norm_frame.specs.Lifted.{IsTurned}
use Rattle.occ_norm_frame.specs.Maps.{Extends}
use Rattle.occ_norm_frame.proofs.Worlds.{extends_trans, has_nodes-extends}
use Rattle.occ_norm_frame.specs.Changes.{IsChanged}
use Rattle.occ_norm_frame.proofs.After.{value_was}
use Rattle.occ_norm_frame.proofs.Keeping.{set-extends}
use Rattle.occ_norm_frame.proofs.Changing.{xor_in_turn}
use Rattle.occ_norm_assign.specs.Writes.{AreWrites, IsWrite}
use Rattle.occ_norm_assign.specs.Written.{AreDistinct, AreFree, AreParts, CanExchange, IsExchanged, IsFree, IsOff, change_by, differs, is_changed, no_write, onto, step}
use Rattle.occ_norm_assign.specs.declared.writes.Parts.{Parts}
use Rattle.occ_norm_assign.specs.declared.writes.Write.{Write}
use Rattle.occ_norm_assign.proofs.Written.{onto_append}
use Rattle.occ_norm_assign.proofs.Apart.{change_more}
use Rattle.occ_norm_assign.proofs.Assigning.{step-keeps}
use Rattle.occ_norm_assign.proofs.Keeping.{writes-extend}
use Rattle.occ_norm_assign.proofs.Substituted.{onto-keeps}

-- ---- as the store grows
pub is_changed-keeps : (s t : Store) → Keeps s t → (w : Write) → IsKnown s w.set → (x : ℕ) → is_changed t w x ≡ is_changed s w x
is_changed-keeps s t k w known x = ap (λ b. differs b (bit_at x w.bit)) (k.same w.set x known)

pub free-keeps : (s t : Store) → Keeps s t → (w : Write) → IsKnown s w.set → (ws : List Write) → IsFree s w ws → IsFree t w ws
free-keeps s t k w known [] is = tt
free-keeps s t k w known (v ∷ vs) is = ((λ x. is_changed-keeps s t k w known (turned x v.bit) ∙ is.0 x ∙ sym (is_changed-keeps s t k w known x)), free-keeps s t k w known vs is.1)

pub free-kept : (s t : Store) → Keeps s t → (w : Write) → IsKnown s w.set → (ws : List Write) → IsFree t w ws → IsFree s w ws
free-kept s t k w known [] is = tt
free-kept s t k w known (v ∷ vs) is = ((λ x. sym (is_changed-keeps s t k w known (turned x v.bit)) ∙ is.0 x ∙ is_changed-keeps s t k w known x), free-kept s t k w known vs is.1)

pub are_free-keeps : (s t : Store) → Keeps s t → (ws : List Write) → AreWrites s ws → (n : ℕ) → n ≡ length ws → AreFree s ws n → AreFree t ws n
are_free-keeps s t k ws are n e free i h = free-keeps s t k (get_or ws i no_write) (are i no_write (omega (arith, h, e))).known (take i ws) (free i h)

change_by-keeps : (s t : Store) → Keeps s t → (keep : ℕ) (ws : List Write) → AreWrites s ws → (x : ℕ) → change_by t keep ws x ≡ change_by s keep ws x
change_by-keeps s t k keep [] are x = refl
change_by-keeps s t k keep (w ∷ ws) are x = λ i. bit_xor (step-keeps s t keep w x (k.same w.set x (are 0 w (omega arith)).known) i) (change_by-keeps s t k keep ws (λ j d h. are (suc j) d (omega arith)) x i)

pub exchanged-extends : (v w : World) → Extends v w → (writes : List Write) → AreWrites v.store writes → (keep left change : ℕ) (map r : MapId) → HasNodes v map → HasNodes v r
    → IsExchanged v writes keep left change map r → IsExchanged w writes keep left change map r
exchanged-extends v w k writes are keep left change map r hm hr is = record {
  exchanged = λ x a b h e f.
      let first = All-take (IsWrite v.store) left writes are in
      subst (λ c. IsTurned w (bit_xor change c) a b) (sym (change_by-keeps v.store w.store k.grows.stored keep (take left writes) first x))
      (turned_grow v w k.grows (bit_xor change (change_by v.store keep (take left writes) x)) a b
      (is.exchanged x a b h
      (value_was v w k map hm _ (Some a) (ap (value w.maps map) (sym (onto-keeps v.store w.store k.grows.stored (take left writes) first x x)) ∙ e))
      (value_was v w k r hr x (Some b) f)));
}

-- ---- the writes before one
free_push : (s : Store) (w : Write) (ws : List Write) (v : Write) → IsFree s w ws → ((x : ℕ) → is_changed s w (turned x v.bit) ≡ is_changed s w x) → IsFree s w (ws ++ v ∷ [])
free_push s w [] v is e = (e, tt)
free_push s w (u ∷ us) v is e = (is.0, free_push s w us v is.1 e)

pub free_next : (s : Store) (w : Write) (ws : List Write) (i : ℕ) (d : Write) → i < length ws → IsFree s w (take i ws) → ((x : ℕ) → is_changed s w (turned x (get_or ws i d).bit) ≡ is_changed s w x) → IsFree s w (take (i + 1) ws)
free_next s w ws i d h is e = subst (IsFree s w) (sym (take-suc ws i d h) ∙ ap (λ n. take n ws) (sym (add-one i))) (free_push s w (take i ws) (get_or ws i d) is e)

free_put : (s : Store) (w : Write) (b : ℕ) → ((x : ℕ) → is_changed s w (turned x b) ≡ is_changed s w x) → (y v : ℕ) → is_changed s w (with_bit y b v) ≡ is_changed s w y
free_put s w b e y v = cond_both (bit_at y b == v) y (turned y b) (λ z. is_changed s w z ≡ is_changed s w y) (λ i. refl) (λ i. e y)

free_onto : (s : Store) (w : Write) (ws : List Write) → IsFree s w ws → (x y : ℕ) → is_changed s w (onto s ws x y) ≡ is_changed s w y
free_onto s w [] is x y = refl
free_onto s w (v ∷ vs) is x y = free_onto s w vs is.1 x (with_bit y v.bit (digit s v.set x)) ∙ free_put s w v.bit is.0 y (digit s v.set x)

off_onto : (s : Store) (ws : List Write) (b x y : ℕ) → IsOff b ws → bit_at (onto s ws x y) b ≡ bit_at y b
off_onto s [] b x y off = refl
off_onto s (w ∷ ws) b x y off = off_onto s ws b x (with_bit y w.bit (digit s w.set x)) off.1 ∙ bit_at-with_bit_other y w.bit (digit s w.set x) b (λ e. off.0 (sym e))

off_at : (b : ℕ) (ws : List Write) (i : ℕ) (d : Write) → i < length ws → IsOff b ws → (get_or ws i d).bit ≡ b → ⊥
off_at b [] i d h off e = absurd (omega (arith, h))
off_at b (w ∷ ws) zero d h off e = off.0 e
off_at b (w ∷ ws) (suc i) d h off e = off_at b ws i d (omega (arith, h)) off.1 e

off_before : (ws : List Write) → AreDistinct ws → (i : ℕ) (d : Write) → i < length ws → IsOff (get_or ws i d).bit (take i ws)
off_before [] ds i d h = absurd (omega (arith, h))
off_before (w ∷ ws) ds zero d h = tt
off_before (w ∷ ws) ds (suc i) d h = ((λ e. off_at w.bit ws i d (omega (arith, h)) ds.0 (sym e)), off_before ws ds.1 i d (omega (arith, h)))

-- ---- one write more
-- a bit that becomes what it isn't is turned
put_changed : (t : Bool) (z b v : ℕ) → bit_at z b ≡ v → differs t v ≡ true → with_bit z b (cond t 1 0) ≡ turned z b
put_changed true z b v e h = ⊎_elim
    (λ (o : bit_at z b ≡ 0). ap (λ n. cond (n == 1) z (turned z b)) o)
    (λ (o : bit_at z b ≡ 1). absurd (let f : false ≡ true = ap (λ n. not (n == 1)) (sym o ∙ e) ∙ h in cc))
    (bit_cases z b)
put_changed false z b v e h = ⊎_elim
    (λ (o : bit_at z b ≡ 0). absurd (let f : false ≡ true = ap (λ n. n == 1) (sym o ∙ e) ∙ h in cc))
    (λ (o : bit_at z b ≡ 1). ap (λ n. cond (n == 0) z (turned z b)) o)
    (bit_cases z b)

put_same : (t : Bool) (z b v : ℕ) → bit_at z b ≡ v → differs t v ≡ false → with_bit z b (cond t 1 0) ≡ z
put_same true z b v e h = ⊎_elim
    (λ (o : bit_at z b ≡ 0). absurd (let f : true ≡ false = ap (λ n. not (n == 1)) (sym o ∙ e) ∙ h in cc))
    (λ (o : bit_at z b ≡ 1). ap (λ n. cond (n == 1) z (turned z b)) o)
    (bit_cases z b)
put_same false z b v e h = ⊎_elim
    (λ (o : bit_at z b ≡ 0). ap (λ n. cond (n == 0) z (turned z b)) o)
    (λ (o : bit_at z b ≡ 1). absurd (let f : true ≡ false = ap (λ n. n == 1) (sym o ∙ e) ∙ h in cc))
    (bit_cases z b)

-- the bit, if it is one of those that are kept
kept_part : (keep b : ℕ) → cond (bit_at keep b == 1) (2 ^ b) 0 ≡ bit_and keep (2 ^ b)
kept_part keep b = ⊎_elim
    (λ (o : bit_at keep b ≡ 0). ap (λ n. cond (n == 1) (2 ^ b) 0) o ∙ sym (zero-mul (2 ^ b)) ∙ ap (λ n. n * 2 ^ b) (sym o))
    (λ (o : bit_at keep b ≡ 1). ap (λ n. cond (n == 1) (2 ^ b) 0) o ∙ sym (one-mul (2 ^ b)) ∙ ap (λ n. n * 2 ^ b) (sym o))
    (bit_cases keep b)
    ∙ sym (and_one_bit keep b)

module _ (w : World) (writes : List Write) (keep place left change more : ℕ) (d : Write) (map other on off high low made : MapId)
    (h : place < length writes) (e : left ≡ suc place) (distinct : AreDistinct writes) (free : IsFree w.store (get_or writes place d) (take place writes))
    (more_is : more ≡ bit_xor change (bit_and keep (2 ^ (get_or writes place d).bit)))
    (ons : (y : ℕ) → value w.maps on y ≡ cond (is_changed w.store (get_or writes place d) y) (value w.maps map (turned y (get_or writes place d).bit)) (value w.maps other y))
    (offs : (y : ℕ) → value w.maps off y ≡ cond (is_changed w.store (get_or writes place d) y) (value w.maps other y) (value w.maps map y))
    (mades : (x : ℕ) → value w.maps made x ≡ cond (is_changed w.store (get_or writes place d) x) (value w.maps high x) (value w.maps low x))
    (highs : IsExchanged w writes keep place more on high) (lows : IsExchanged w writes keep place change off low) where
  abbrev here : Write
  here = get_or writes place d

  abbrev before : ℕ → ℕ
  before x = onto w.store (take place writes) x x

  abbrev by_first : ℕ → ℕ
  by_first x = change_by w.store keep (take place writes) x

  whole : take left writes ≡ take place writes ++ here ∷ []
  whole = ap (λ n. take n writes) e ∙ take-suc writes place d h

  after_is : (x : ℕ) → onto w.store (take left writes) x x ≡ with_bit (before x) here.bit (digit w.store here.set x)
  after_is x = ap (λ ws. onto w.store ws x x) whole ∙ onto_append w.store (take place writes) (here ∷ []) x x

  change_is : (x : ℕ) → change_by w.store keep (take left writes) x ≡ bit_xor (by_first x) (step w.store keep here x)
  change_is x = ap (λ ws. change_by w.store keep ws x) whole ∙ change_more w.store keep (take place writes) here x

  as_before : (x : ℕ) → is_changed w.store here (before x) ≡ is_changed w.store here x
  as_before x = free_onto w.store here (take place writes) free x x

  bit_before : (x : ℕ) → bit_at (before x) here.bit ≡ bit_at x here.bit
  bit_before x = off_onto w.store (take place writes) here.bit x x (off_before writes distinct place d h)

  where_changed : (x : ℕ) (a b : NodeId) → x < 2 ^ 64 → is_changed w.store here x ≡ true → value w.maps map (onto w.store (take left writes) x x) ≡ Some a → value w.maps made x ≡ Some b
      → IsTurned w (bit_xor change (change_by w.store keep (take left writes) x)) a b
  where_changed x a b l t f g =
      let there : value w.maps on (before x) ≡ Some a =
      ons (before x) ∙ ap (λ c. cond c (value w.maps map (turned (before x) here.bit)) (value w.maps other (before x))) (as_before x ∙ t)
      ∙ ap (value w.maps map) (sym (put_changed (has w.store here.set x) (before x) here.bit (bit_at x here.bit) (bit_before x) t) ∙ sym (after_is x)) ∙ f in
      let picked : value w.maps high x ≡ Some b = sym (ap (λ c. cond c (value w.maps high x) (value w.maps low x)) t) ∙ sym (mades x) ∙ g in
      let stepped : bit_and keep (2 ^ here.bit) ≡ step w.store keep here x = sym (kept_part keep here.bit) ∙ ap (λ c. cond (bit_at keep here.bit == 1) (cond c (2 ^ here.bit) 0) 0) (sym t) in
      subst (λ c. IsTurned w c a b)
      (ap (λ n. bit_xor n (by_first x)) more_is ∙ xor_in_turn change (by_first x) (bit_and keep (2 ^ here.bit))
      ∙ ap (λ n. bit_xor change (bit_xor (by_first x) n)) stepped ∙ ap (bit_xor change) (sym (change_is x)))
      (highs.exchanged x a b l there picked)

  where_same : (x : ℕ) (a b : NodeId) → x < 2 ^ 64 → is_changed w.store here x ≡ false → value w.maps map (onto w.store (take left writes) x x) ≡ Some a → value w.maps made x ≡ Some b
      → IsTurned w (bit_xor change (change_by w.store keep (take left writes) x)) a b
  where_same x a b l t f g =
      let there : value w.maps off (before x) ≡ Some a =
      offs (before x) ∙ ap (λ c. cond c (value w.maps other (before x)) (value w.maps map (before x))) (as_before x ∙ t)
      ∙ ap (value w.maps map) (sym (put_same (has w.store here.set x) (before x) here.bit (bit_at x here.bit) (bit_before x) t) ∙ sym (after_is x)) ∙ f in
      let picked : value w.maps low x ≡ Some b = sym (ap (λ c. cond c (value w.maps high x) (value w.maps low x)) t) ∙ sym (mades x) ∙ g in
      let stepped : step w.store keep here x ≡ 0 = ap (λ c. cond (bit_at keep here.bit == 1) (cond c (2 ^ here.bit) 0) 0) t ∙ nothing 0 (bit_at keep here.bit == 1) in
      subst (λ c. IsTurned w c a b)
      (ap (bit_xor change) (sym (xor_zero_r (by_first x)) ∙ ap (bit_xor (by_first x)) (sym stepped) ∙ sym (change_is x)))
      (lows.exchanged x a b l there picked)
    where
      nothing : (n : ℕ) (c : Bool) → cond c n n ≡ n
      nothing n true = refl
      nothing n false = refl

  exchanged_step : IsExchanged w writes keep left change map made
  exchanged_step = record {
    exchanged = λ x a b l f g. ⊎_elim
        (λ (t : is_changed w.store here x ≡ true). where_changed x a b l t f g)
        (λ (t : is_changed w.store here x ≡ false). where_same x a b l t f g)
        (cases_Bool (is_changed w.store here x));
  }

-- ---- what is parted
picks : (b c : Bool) (p q r s : Option NodeId) → b ≡ c → p ≡ r → q ≡ s → cond b p q ≡ cond c r s
picks b c p q r s i j l = λ n. cond (i n) (j n) (l n)

-- the worlds: at first, after the set, after the exchange, and after each part
pub parted_from : (u t f v w : World) → Extends u t → Extends t f → Extends f v → Extends v w → (write : Write) (map other there : MapId) (parts : Parts) → IsWrite u.store write → HasNodes u map → HasNodes u other
    → IsSet t.store parts.turns (is_changed u.store write) → IsMap f.maps there (λ x. value t.maps map (turned x write.bit))
    → IsMap v.maps parts.on (λ x. cond (has f.store parts.turns x) (value f.maps there x) (value f.maps other x)) → HasNodes v parts.on
    → IsMap w.maps parts.off (λ x. cond (has v.store parts.turns x) (value v.maps other x) (value v.maps map x)) → HasNodes w parts.off
    → AreParts w write map other parts
parted_from u t f v w ut tf fv vw write map other there parts is hm ho turns theres ons hon offs hoff = record {
  turns_are = record { known = set-extends t w tw parts.turns turns.known; members = member };
  on_known = has_nodes-extends v w vw parts.on hon;
  off_known = hoff;
  on_is = λ x. vw.maps.same parts.on x hon.known ∙ ons.values x
      ∙ picks (has f.store parts.turns x) (is_changed w.store write x) _ _ _ _ (sym (fw.grows.stored.same parts.turns x (set-extends t f tf parts.turns turns.known)) ∙ member x)
      (theres.values x ∙ sym (tw.maps.same map (turned x write.bit) (has_nodes-extends u t ut map hm).known)) (sym (fw.maps.same other x (has_nodes-extends u f uf other ho).known));
  off_is = λ x. offs.values x
      ∙ picks (has v.store parts.turns x) (is_changed w.store write x) _ _ _ _ (sym (vw.grows.stored.same parts.turns x (set-extends t v (extends_trans t f v tf fv) parts.turns turns.known)) ∙ member x)
      (sym (vw.maps.same other x (has_nodes-extends u v uv other ho).known)) (sym (vw.maps.same map x (has_nodes-extends u v uv map hm).known));
}
  where
    fw : Extends f w
    fw = extends_trans f v w fv vw

    tw : Extends t w
    tw = extends_trans t f w tf fw

    uf : Extends u f
    uf = extends_trans u t f ut tf

    uv : Extends u v
    uv = extends_trans u f v uf fv

    member : (x : ℕ) → has w.store parts.turns x ≡ is_changed w.store write x
    member x = tw.grows.stored.same parts.turns x turns.known ∙ turns.members x ∙ sym (is_changed-keeps u.store w.store (extends_trans u t w ut tw).grows.stored write is.known x)

parts-extends : (v w : World) → Extends v w → (write : Write) (map other : MapId) (parts : Parts) → IsKnown v.store write.set → HasNodes v map → HasNodes v other → AreParts v write map other parts → AreParts w write map other parts
parts-extends v w k write map other parts known hm ho is = record {
  turns_are = record { known = set-extends v w k parts.turns is.turns_are.known; members = λ x. k.grows.stored.same parts.turns x is.turns_are.known ∙ is.turns_are.members x ∙ sym (changed x) };
  on_known = has_nodes-extends v w k parts.on is.on_known;
  off_known = has_nodes-extends v w k parts.off is.off_known;
  on_is = λ x. k.maps.same parts.on x is.on_known.known ∙ is.on_is x ∙ picks _ _ _ _ _ _ (sym (changed x)) (sym (k.maps.same map (turned x write.bit) hm.known)) (sym (k.maps.same other x ho.known));
  off_is = λ x. k.maps.same parts.off x is.off_known.known ∙ is.off_is x ∙ picks _ _ _ _ _ _ (sym (changed x)) (sym (k.maps.same other x ho.known)) (sym (k.maps.same map x hm.known));
}
  where
    changed : (x : ℕ) → is_changed w.store write x ≡ is_changed v.store write x
    changed x = is_changed-keeps v.store w.store k.grows.stored write known x

pub can_exchange-extends : (v w : World) → Extends v w → (writes : List Write) (other : MapId) → CanExchange v writes other → CanExchange w writes other
can_exchange-extends v w k writes other can = record {
  writes_known = writes-extend v w k writes can.writes_known;
  distinct = can.distinct;
  free = are_free-keeps v.store w.store k.grows.stored writes can.writes_known _ refl can.free;
  other_known = has_nodes-extends v w k other can.other_known;
}

-- the worlds: at first, after the map is parted, after each part's turn, and at the end
pub exchanged_more : (u p h l w : World) → Extends u p → Extends p h → Extends h l → Extends l w → (writes : List Write) (other : MapId) → CanExchange u writes other
    → (keep place left change more : ℕ) (map high low made : MapId) (parts : Parts) → place < length writes → left ≡ suc place → more ≡ bit_xor change (bit_and keep (2 ^ (get_or writes place no_write).bit))
    → HasNodes u map → AreParts p (get_or writes place no_write) map other parts → HasNodes h high → IsExchanged h writes keep place more parts.on high → HasNodes l low → IsExchanged l writes keep place change parts.off low
    → IsMap w.maps made (λ x. cond (has l.store parts.turns x) (value l.maps high x) (value l.maps low x)) → IsExchanged w writes keep left change map made
exchanged_more u p h l w up ph hl lw writes other can keep place left change more map high low made parts lt e more_is hm are high_known highs low_known lows mades =
    exchanged_step w writes keep place left change more no_write map other parts.on parts.off high low made lt e can.distinct
    (free-keeps u.store w.store (extends_trans u p w up pw).grows.stored here known (take place writes) (can.free place lt)) more_is now.on_is now.off_is
    (λ x. mades.values x ∙ picks (has l.store parts.turns x) (is_changed w.store here x) _ _ _ _ (sym (lw.grows.stored.same parts.turns x (set-extends p l pl parts.turns are.turns_are.known)) ∙ now.turns_are.members x)
    (sym (lw.maps.same high x (has_nodes-extends h l hl high high_known).known)) (sym (lw.maps.same low x low_known.known)))
    (exchanged-extends h w (extends_trans h l w hl lw) writes (writes-extend u h (extends_trans u p h up ph) writes can.writes_known) keep place more parts.on high (has_nodes-extends p h ph parts.on are.on_known) high_known highs)
    (exchanged-extends l w lw writes (writes-extend u l (extends_trans u p l up pl) writes can.writes_known) keep place change parts.off low (has_nodes-extends p l pl parts.off are.off_known) low_known lows)
  where
    here : Write
    here = get_or writes place no_write

    known : IsKnown u.store here.set
    known = (can.writes_known place no_write lt).known

    pl : Extends p l
    pl = extends_trans p h l ph hl

    pw : Extends p w
    pw = extends_trans p l w pl lw

    now : AreParts w here map other parts
    now = parts-extends p w pw here map other parts (set-extends u p up here.set known) (has_nodes-extends u p up map hm) (has_nodes-extends u p up other can.other_known) are

pub exchanged_none : (w : World) (writes : List Write) (keep left change : ℕ) (map r : MapId) → left ≡ 0 → IsChanged w (λ x. change) map r → IsExchanged w writes keep left change map r
exchanged_none w writes keep left change map r e is = subst (λ n. IsExchanged w writes keep n change map r) (sym e)
    (record { exchanged = λ x a b h f g. subst (λ c. IsTurned w c a b) (sym (xor_zero_r change)) (is.changed x a b h f g) })

pub set_still : (s t : Store) → Keeps s t → (set : SetId) (f : ℕ → Bool) → IsSet s set f → IsSet t set f
set_still s t k set f is = record { known = known-keeps s t k set is.known; members = λ x. k.same set x is.known ∙ is.members x }
