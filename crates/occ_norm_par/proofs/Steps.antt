-- What is known of maps of processes and what follows them: as the world grows, and one bit more.
use Rattle.std.proofs.Common.{◌≡◌, ◌⊎◌, ◌<◌, ◌≤◌, ◌^◌, ◌==◌, ℕ, suc, Bool, true, false, cond, List, Some, None, Result, Ok, Err, ⊎_elim, inl, inr, refl, sym, ap, ◌∙◌, subst, arith, lit<, ◌≢◌}
use Rattle.std.specs.Prelude.{◌↔◌}
use Rattle.std.proofs.lemmas.Bool.{cond-true, cond-false, cases_lt}
use Rattle.std.proofs.lemmas.Option.{same_Some}
use Rattle.std.specs.Int.{bit_at}
use Rattle.std.specs.Result.{IfOk}
use Rattle.occ_syntax.specs.occ_base.declared.event.Event.{Event}
use Rattle.occ_norm_frame.specs.occ_dd.Assignment.{with_bit}
use Rattle.occ_norm_frame.specs.occ_dd.Memo.{Learns, recalled}
use Rattle.occ_norm_frame.specs.occ_dd.declared.memo.Call.{Call}
use Rattle.occ_norm_frame.specs.occ_dd.declared.memo.Memo.{Memo}
use Rattle.occ_norm_frame.proofs.from_dd.Bits.{bit_cases, is_one, is_zero, bit_at-with_bit_same, bit_at-with_bit_other, with_bit_lt, with_bit_same}
use Rattle.occ_norm_frame.specs.occ_mdd.Maps.{IsMap, value}
use Rattle.occ_norm_frame.specs.occ_mdd.declared.map.MapId.{MapId}
use Rattle.occ_norm_frame.specs.occ_node.World.{IsNode, fails, ends}
use Rattle.occ_norm_frame.specs.occ_node.declared.node.NodeId.{NodeId}
use Rattle.occ_norm_frame.specs.occ_node.declared.world.World.{World}
use Rattle.occ_norm_frame.specs.occ_follow.Sequence.{Continues, HasNodes}
use Rattle.occ_norm_frame.proofs.from_weave.Growth.{trans_iff, iff_of_same}
use Rattle.occ_norm_frame.specs.Maps.{Extends, IsSequel, digit}
use Rattle.occ_norm_frame.proofs.Worlds.{has_nodes-extends}
use Rattle.occ_norm_frame.specs.After.{AgreeBelow, IsOver}
use Rattle.occ_norm_frame.specs.Kept.{map_id}
use Rattle.occ_norm_frame.proofs.After.{map_node, value_is, value_was}
use Rattle.occ_norm_par.specs.Joints.{IsHalf, IsJoint, IsJointAt, IsJointWhere, IsStepped, Joins, KeepJoints, anywhere, image, stepped}
use Rattle.occ_norm_par.specs.declared.joint.Joint.{Joint}
use Rattle.occ_norm_par.proofs.Words.{image_lt, stepped_free, stepped_same, stepped_written}

pub or_iff : {P Q A B : Type 0} → P ↔ Q → A ↔ B → (P ⊎ A) ↔ (Q ⊎ B)
or_iff f g = (λ s. ⊎_elim (λ p. inl (f.0 p)) (λ a. inr (g.0 a)) s, λ s. ⊎_elim (λ q. inl (f.1 q)) (λ b. inr (g.1 b)) s)

pub ok_both : {X Y : Type 0} (r : Result X Y) (P Q R : X → Type 0) → ((x : X) → P x → Q x → R x) → IfOk r P → IfOk r Q → IfOk r R
ok_both (Ok x) P Q R f p q = f x p q
ok_both (Err e) P Q R f p q = tt

-- ---- values of maps
-- a map that was made of another by moving its values
pub moved_values : (u v w : World) → Extends u v → Extends v w → (map r : MapId) (f : ℕ → ℕ) → HasNodes u map → IsMap v.maps r (λ x. value u.maps map (f x)) → (x : ℕ) → value w.maps r x ≡ value w.maps map (f x)
moved_values u v w k l map r f has is x =
    l.maps.same r x is.known ∙ is.values x ∙ sym (k.maps.same map (f x) has.known) ∙ sym (l.maps.same map (f x) (has_nodes-extends u v k map has).known)

-- ---- growth
module _ (v w : World) (k : Extends v w) (j : Joint) where
  pub stepped_grow : (bit d : ℕ) (next r : MapId) → IsStepped v j bit d next r → IsStepped w j bit d next r
  stepped_grow bit d next r is = record {
    before = has_nodes-extends v w k next is.before;
    after = has_nodes-extends v w k r is.after;
    same = λ z. k.maps.same r z is.after.known ∙ is.same z ∙ sym (k.maps.same next (stepped j bit d z) is.before.known);
  }

  joins_grow : (left x : ℕ) (a : NodeId) (next : MapId) (A B : NodeId → List Event → Bool) → left ≤ 64 → HasNodes v next → IsNode v a
      → ((m : NodeId) (u : List Event) → IsNode v m → B m u ≡ A m u)
      → (t : List Event) → Joins v j left x a next A t ↔ Joins w j left x a next B t
  joins_grow left x a next A B few has known same t = (
    λ s. record {
      t1 = s.t1;
      t2 = s.t2;
      z = s.z;
      m = s.m;
      whole = s.whole;
      below = s.below;
      ended = k.grows.same_ends a s.t1 s.z known ∙ s.ended;
      leads = value_is v w k next has (image j left x s.z) _ s.leads;
      behaved = same s.m s.t2 (map_node v next has (image j left x s.z) (image_lt j left x s.z few s.below) s.m s.leads) ∙ s.behaved;
    },
    λ s. let before : value v.maps next (image j left x s.z) ≡ Some s.m = value_was v w k next has (image j left x s.z) _ s.leads in record {
      t1 = s.t1;
      t2 = s.t2;
      z = s.z;
      m = s.m;
      whole = s.whole;
      below = s.below;
      ended = sym (k.grows.same_ends a s.t1 s.z known) ∙ s.ended;
      leads = before;
      behaved = sym (same s.m s.t2 (map_node v next has (image j left x s.z) (image_lt j left x s.z few s.below) s.m before)) ∙ s.behaved;
    },
  )

  pub joint_grow : (left : ℕ) (here : ℕ → Type 0) (map next r : MapId) → IsJointWhere v j left here map next r → IsJointWhere w j left here map next r
  joint_grow left here map next r is = record {
    few = is.few;
    first = has_nodes-extends v w k map is.first;
    second = has_nodes-extends v w k next is.second;
    known = has_nodes-extends v w k r is.known;
    each = λ x h at. record {
      joint_fails = λ a b e f t X.
          let ea : value v.maps map x ≡ Some a = value_was v w k map is.first x _ e in
          let eb : value v.maps r x ≡ Some b = value_was v w k r is.known x _ f in
          let na : IsNode v a = map_node v map is.first x h a ea in
          let nb : IsNode v b = map_node v r is.known x h b eb in
          trans_iff (iff_of_same _ _ (k.grows.same_fails b t X nb))
          (trans_iff ((is.each x h at).joint_fails a b ea eb t X)
          (or_iff (iff_of_same _ _ (sym (k.grows.same_fails a t X na)))
          (joins_grow left x a next (λ m u. fails v m u X) (λ m u. fails w m u X) is.few is.second na (λ m u n. k.grows.same_fails m u X n) t)));
      joint_ends = λ a b e f t y l.
          let ea : value v.maps map x ≡ Some a = value_was v w k map is.first x _ e in
          let eb : value v.maps r x ≡ Some b = value_was v w k r is.known x _ f in
          let na : IsNode v a = map_node v map is.first x h a ea in
          let nb : IsNode v b = map_node v r is.known x h b eb in
          trans_iff (iff_of_same _ _ (k.grows.same_ends b t y nb))
          (trans_iff ((is.each x h at).joint_ends a b ea eb t y l)
          (joins_grow left x a next (λ m u. ends v m u y) (λ m u. ends w m u y) is.few is.second na (λ m u n. k.grows.same_ends m u y n) t));
    };
  }

  pub joints_grow : (memo : Memo) → KeepJoints v j memo → KeepJoints w j memo
  joints_grow memo keep = record { each = λ call r e. joint_grow call.first anywhere (map_id call.second) (map_id call.third) (map_id r) (keep.each call r e) }

pub joints_learnt : (w : World) (j : Joint) (old new : Memo) (call : Call) (map : MapId) → KeepJoints w j old
    → IsJoint w j call.first (map_id call.second) (map_id call.third) map → Learns old new call map.0 → KeepJoints w j new
joints_learnt w j old new call map keep is learns = record {
  each = λ k r e. ⊎_elim
      (λ (h : recalled old k ≡ Some r). keep.each k r h)
      (λ (h : (k ≡ call) × (r ≡ map.0)). subst (λ (c : Call). IsJoint w j c.first (map_id c.second) (map_id c.third) (map_id r)) (sym h.0)
      (subst (λ (n : ℕ). IsJoint w j call.first (map_id call.second) (map_id call.third) (map_id n)) (sym h.1) is))
      (learns k r e);
}

pub joints_none : (w : World) (j : Joint) (memo : Memo) → ((k : Call) → recalled memo k ≡ None) → KeepJoints w j memo
joints_none w j memo none = record { each = λ k r e. absurd (let f : None ≡ Some r = sym (none k) ∙ e in cc) }

-- ---- all bits are split on
pub joint_ended : (v w : World) → Extends v w → (j : Joint) (map next r : MapId) (node : NodeId) → HasNodes v map → HasNodes v next
    → ((x : ℕ) → x < 2 ^ 64 → value v.maps map x ≡ Some node) → IsSequel v w node next r → HasNodes w r → IsJoint w j 0 map next r
unfolding image
joint_ended v w k j map next r node has also all is known = record {
  few = omega arith;
  first = has_nodes-extends v w k map has;
  second = has_nodes-extends v w k next also;
  known = known;
  each = λ x h at. record {
    joint_fails = λ a b e f t X.
        let na : IsNode v a = map_node v map has x h a (value_was v w k map has x _ e) in
        trans_iff (iff_of_same _ _ (ap (λ n. fails w n t X) (sym (next_is x b f))))
        (trans_iff (is.followed.follow_fails t X)
        (or_iff (iff_of_same _ _ (ap (λ n. fails v n t X) (node_is x a h e) ∙ sym (k.grows.same_fails a t X na)))
        (continued x a na (node_is x a h e) (λ m u. fails v m u X) (λ m u. fails w m u X) (λ m u n. k.grows.same_fails m u X n) t)));
    joint_ends = λ a b e f t y l.
        let na : IsNode v a = map_node v map has x h a (value_was v w k map has x _ e) in
        trans_iff (iff_of_same _ _ (ap (λ n. ends w n t y) (sym (next_is x b f))))
        (trans_iff (is.followed.follow_ends t y l)
        (continued x a na (node_is x a h e) (λ m u. ends v m u y) (λ m u. ends w m u y) (λ m u n. k.grows.same_ends m u y n) t));
  };
}
  where
    next_is : (x : ℕ) (b : NodeId) → value w.maps r x ≡ Some b → is.next ≡ b
    next_is x b f = same_Some is.next b (sym (is.everywhere.values x) ∙ f)

    node_is : (x : ℕ) (a : NodeId) → x < 2 ^ 64 → value w.maps map x ≡ Some a → node ≡ a
    node_is x a h e = same_Some node a (sym (all x h) ∙ value_was v w k map has x _ e)

    continued : (x : ℕ) (a : NodeId) → IsNode v a → node ≡ a → (A B : NodeId → List Event → Bool)
        → ((m : NodeId) (u : List Event) → IsNode v m → B m u ≡ A m u)
        → (t : List Event) → Continues v node next A t ↔ Joins w j 0 x a next B t
    continued x a na e A B same t = (
      λ s. record {
        t1 = s.t1;
        t2 = s.t2;
        z = s.x;
        m = s.m;
        whole = s.whole;
        below = s.below;
        ended = k.grows.same_ends a s.t1 s.x na ∙ ap (λ n. ends v n s.t1 s.x) (sym e) ∙ s.ended;
        leads = value_is v w k next also s.x _ s.leads;
        behaved = same s.m s.t2 (map_node v next also s.x s.below s.m s.leads) ∙ s.behaved;
      },
      λ s. let before : value v.maps next s.z ≡ Some s.m = value_was v w k next also s.z _ s.leads in record {
        t1 = s.t1;
        t2 = s.t2;
        x = s.z;
        m = s.m;
        whole = s.whole;
        below = s.below;
        ended = ap (λ n. ends v n s.t1 s.z) e ∙ sym (k.grows.same_ends a s.t1 s.z na) ∙ s.ended;
        leads = before;
        behaved = sym (same s.m s.t2 (map_node v next also s.z s.below s.m before)) ∙ s.behaved;
      },
    )

-- a map on which no bit matters has one node
pub one_node : (w : World) (map : MapId) → IsOver w 0 map → (node : NodeId) → value w.maps map 0 ≡ Some node → (x : ℕ) → x < 2 ^ 64 → value w.maps map x ≡ Some node
one_node w map over node e x h = over.same x 0 h (lit< tt) (λ k l. absurd (omega (arith, l))) ∙ e

-- ---- one bit more
module _ (w : World) (j : Joint) (bit : ℕ) (few : bit < 64) where
  joins_more : (x d : ℕ) → bit_at x bit ≡ d → (a : NodeId) (next made : MapId) → IsStepped w j bit d next made → (A : NodeId → List Event → Bool)
      → (t : List Event) → Joins w j bit x a made A t ↔ Joins w j (suc bit) x a next A t
  unfolding image
  joins_more x d is_d a next made is A t = (
    λ s. record {
      t1 = s.t1;
      t2 = s.t2;
      z = s.z;
      m = s.m;
      whole = s.whole;
      below = s.below;
      ended = s.ended;
      leads = ap (λ b. value w.maps next (stepped j bit b (image j bit x s.z))) is_d ∙ sym (is.same (image j bit x s.z)) ∙ s.leads;
      behaved = s.behaved;
    },
    λ s. record {
      t1 = s.t1;
      t2 = s.t2;
      z = s.z;
      m = s.m;
      whole = s.whole;
      below = s.below;
      ended = s.ended;
      leads = is.same (image j bit x s.z) ∙ ap (λ b. value w.maps next (stepped j bit b (image j bit x s.z))) (sym is_d) ∙ s.leads;
      behaved = s.behaved;
    },
  )

  -- one value of the bit
  pub joint_half : (d : ℕ) (map next part next_part r : MapId) → HasNodes w map → ((x : ℕ) → value w.maps part x ≡ value w.maps map (with_bit x bit d))
      → IsStepped w j bit d next next_part → IsJoint w j bit part next_part r → IsHalf w j bit d map next r
  joint_half d map next part next_part r has part_is is joint = record {
    few = omega (arith, few);
    first = has;
    second = is.before;
    known = joint.known;
    each = λ x h e.
        let same : value w.maps part x ≡ value w.maps map x = part_is x ∙ ap (value w.maps map) (with_bit_same x bit d e) in
        let at = joint.each x h tt in
        record {
          joint_fails = λ a b ea eb t X. trans_iff (at.joint_fails a b (same ∙ ea) eb t X) (or_iff (iff_of_same _ _ refl) (joins_more x d e a next next_part is (λ m u. fails w m u X) t));
          joint_ends = λ a b ea eb t y l. trans_iff (at.joint_ends a b (same ∙ ea) eb t y l) (joins_more x d e a next next_part is (λ m u. ends w m u y) t);
        };
  }

  -- both values
  pub joint_more : (map next low high made : MapId) → IsHalf w j bit 0 map next low → IsHalf w j bit 1 map next high → HasNodes w made
      → ((x : ℕ) → value w.maps made x ≡ cond (bit_at x bit == 1) (value w.maps high x) (value w.maps low x)) → IsJoint w j (suc bit) map next made
  joint_more map next low high made is_low is_high known made_is = record {
    few = is_low.few;
    first = is_low.first;
    second = is_low.second;
    known = known;
    each = λ x h at. ⊎_elim
        (λ (e : bit_at x bit ≡ 0).
        let same = made_is x ∙ cond-false (bit_at x bit == 1) (value w.maps high x) (value w.maps low x) (is_zero x bit e) in
        subst (IsJointAt w j (suc bit) x (value w.maps map x) next) (sym same) (is_low.each x h e))
        (λ (e : bit_at x bit ≡ 1).
        let same = made_is x ∙ cond-true (bit_at x bit == 1) (value w.maps high x) (value w.maps low x) (is_one x bit e) in
        subst (IsJointAt w j (suc bit) x (value w.maps map x) next) (sym same) (is_high.each x h e))
        (bit_cases x bit);
  }

-- ---- the bits of a map that is split on one
pub digit_lt : (b : Bool) → digit b < 2
digit_lt true = omega arith
digit_lt false = omega arith

pub over_part : (v w : World) → Extends v w → (n bit d : ℕ) (map r : MapId) → n ≡ suc bit → bit < 64 → d < 2 → IsOver v n map → IsMap w.maps r (λ x. value v.maps map (with_bit x bit d)) → HasNodes w r → IsOver w bit r
over_part v w k n bit d map r e few small over is has = record {
  has = has;
  same = λ x y h l agree. is.values x ∙ over.same (with_bit x bit d) (with_bit y bit d) (with_bit_lt x bit d 64 few h) (with_bit_lt y bit d 64 few l) (agreeing x y agree) ∙ sym (is.values y);
}
  where
    agreeing : (x y : ℕ) → AgreeBelow bit x y → AgreeBelow n (with_bit x bit d) (with_bit y bit d)
    agreeing x y agree i h = ⊎_elim
        (λ (l : i < bit). let ne : i ≢ bit = omega (arith, l) in bit_at-with_bit_other x bit d i ne ∙ agree i l ∙ sym (bit_at-with_bit_other y bit d i ne))
        (λ (l : bit ≤ i). let same_bit : i ≡ bit = omega (arith, l, h, e) in
        ap (bit_at (with_bit x bit d)) same_bit ∙ bit_at-with_bit_same x bit d small ∙ sym (bit_at-with_bit_same y bit d small) ∙ ap (bit_at (with_bit y bit d)) (sym same_bit))
        (cases_lt i bit)

-- ---- what follows, at one bit
module _ (w : World) (j : Joint) (bit d : ℕ) (next r : MapId) (has : HasNodes w next) (known : HasNodes w r) where
  -- a bit on which nothing depends
  pub step_free : bit_at j.needed bit ≡ 0 → r ≡ next → IsStepped w j bit d next r
  step_free e same = record {
    before = has;
    after = known;
    same = λ z. ap (λ i. value w.maps i z) same ∙ ap (value w.maps next) (sym (stepped_free j bit d z e));
  }

  -- one that is written
  pub step_written : bit_at j.needed bit ≡ 1 → bit_at j.written bit ≡ 1 → r ≡ next → IsStepped w j bit d next r
  step_written e k same = record {
    before = has;
    after = known;
    same = λ z. ap (λ i. value w.maps i z) same ∙ ap (value w.maps next) (sym (stepped_written j bit d z e k));
  }

  -- one that isn't written
  pub step_same : bit_at j.needed bit ≡ 1 → bit_at j.written bit ≡ 0 → ((z : ℕ) → value w.maps r z ≡ value w.maps next (with_bit z bit d)) → IsStepped w j bit d next r
  step_same e k is = record {
    before = has;
    after = known;
    same = λ z. is z ∙ ap (value w.maps next) (sym (stepped_same j bit d z e k));
  }
