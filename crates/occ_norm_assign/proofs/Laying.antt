-- Maps from lists of states.
use Rattle.std.proofs.Common.{◌≡◌, ◌<◌, ◌≤◌, ◌^◌, ◌+◌, ◌*◌, ◌%◌, ◌-◌, ◌↔◌, ◌++◌, ◌==◌, ℕ, true, cond, List, [], ◌∷◌, Some, length, length-append, slice_get, sym, ap, ◌∙◌, subst, arith, ⊎_elim, mod-lt, pow_pos}
use Rattle.std.proofs.Math.Nat.{one-mul, zero-add, zero-mul}
use Rattle.std.proofs.lemmas.Nat.{mod-pow-add}
use Rattle.std.specs.Int.{bit_at}
use Rattle.occ_syntax.specs.occ_base.declared.event.Event.{Event}
use Rattle.occ_syntax.specs.occ_base.declared.names.Name.{Name}
use Rattle.occ_syntax.specs.occ_base.declared.width.Width.{Width}
use Rattle.occ_norm_frame.specs.occ_bits.Layout.{state_of}
use Rattle.occ_norm_frame.proofs.from_bits.Arithmetic.{double_more, low_bit}
use Rattle.occ_norm_frame.proofs.from_dd.Bits.{bit_cases}
use Rattle.occ_norm_frame.proofs.from_dd.Callers.{known-keeps}
use Rattle.occ_norm_frame.specs.occ_dd.Store.{IsSet, has}
use Rattle.occ_norm_frame.specs.occ_dd.declared.set.SetId.{SetId}
use Rattle.occ_norm_frame.specs.occ_follow.Sequence.{HasNodes}
use Rattle.occ_norm_frame.specs.occ_mdd.Maps.{IsMap, value}
use Rattle.occ_norm_frame.specs.occ_mdd.declared.map.MapId.{MapId}
use Rattle.occ_norm_frame.specs.occ_node.World.{IsNode, Leads as Goes, nodes_of, fails, ends}
use Rattle.occ_norm_frame.specs.occ_node.declared.node.NodeId.{NodeId}
use Rattle.occ_norm_frame.specs.occ_node.declared.world.World.{World}
use Rattle.occ_norm_frame.proofs.from_node.Behaviours.{node-leads}
use Rattle.occ_norm_assign.specs.Written.{Leads}
use Rattle.occ_norm_assign.proofs.Assigning.{moved_after}
use Rattle.occ_norm_frame.specs.After.{IsAfter, IsOver}
use Rattle.occ_norm_frame.specs.Placed.{IsAround, IsFrame}
use Rattle.occ_norm_frame.proofs.After.{change_below, state_back, state_below}
use Rattle.occ_norm_frame.proofs.FrameBits.{pow_more}
use Rattle.occ_norm_frame.specs.Growth.{node_grow, turned_grow}
use Rattle.occ_norm_frame.specs.Lifted.{IsTurned}
use Rattle.occ_norm_frame.specs.Maps.{Extends}
use Rattle.occ_norm_frame.proofs.Worlds.{extends_leads, extends_trans, has_nodes-extends}
use Rattle.occ_norm_frame.specs.occ_scope.Results.{IsShifted}
use Rattle.occ_syntax.specs.Meaning.{Outcome, ended, meaning}
use Rattle.occ_syntax.specs.Scopes.{Environment}
use Rattle.occ_syntax.specs.Tree.{Tree}
use Rattle.occ_syntax.specs.Types.{types_kept}
use Rattle.occ_syntax.specs.declared.scope.Kind.{Kind}
use Rattle.occ_norm_assign.proofs.Listing.{got_more, got_within}
use Rattle.occ_norm_assign.specs.Lists.{AreLed, AreStates, IsLaid, IsListed, IsSpread, StaySame, at, change_at}

-- a node as the world grows
pub leads-extends : (v w : World) → Extends v w → (map : MapId) → HasNodes v map → (to change : ℕ) (a : NodeId) → Leads v map to change a → Leads w map to change a
leads-extends v w k map has to change a l = record { m = l.m; leads = k.maps.same map to has.known ∙ l.leads; turned = turned_grow v w k.grows change l.m a l.turned }

-- a node that is another one of an earlier world turned
turned_now : (v w : World) → Extends v w → (change : ℕ) (n r : NodeId) → IsNode v n → IsShifted v w change n r → IsTurned w change n r
turned_now v w k change n r there is = record {
  first = node_grow v w k.grows n there;
  turned = record {
    known = is.known;
    same_fail = λ t X. is.same_fail t X ∙ sym (k.grows.same_fails n t X there);
    turned_end = λ t x h. is.turned_end t x h ∙ sym (k.grows.same_ends n t _ there);
  };
}

-- the same with maps that another world gives
pub shifted_with : (u v w : World) (change : ℕ) (n r : NodeId) → IsShifted v w change n r → IsShifted (record v { maps = u.maps }) (record w { maps = u.maps }) change n r
unfolding nodes_of fails ends
shifted_with u v w change n r is = record { known = is.known; same_fail = is.same_fail; turned_end = is.turned_end }

pub turned_leads : (v w : World) → Goes v w → (map : MapId) → HasNodes v map → (to change : ℕ) (n r : NodeId) → IsNode v n → value v.maps map to ≡ Some n → IsShifted v w change n r → Leads w map to change r
turned_leads v w k map has to change n r there e is = record { m = n; leads = (extends_leads v w k).maps.same map to has.known ∙ e; turned = turned_now v w (extends_leads v w k) change n r there is }

-- ---- the nodes of a list
pub none_led : (w : World) (keep : ℕ) (to : List ℕ) (rest : MapId) (nodes : List NodeId) → nodes ≡ [] → AreLed w keep to rest 0 nodes
none_led w keep to rest nodes e = record {
  all = ap length e;
  each = λ i a h g. absurd (omega (arith, h));
  there = λ i a h g. absurd (omega (arith, h));
}

-- the worlds: before a node and after it
pub led_more : (v w : World) → Goes v w → (keep : ℕ) (to : List ℕ) (rest : MapId) (count : ℕ) (nodes : List NodeId) (n : NodeId) → HasNodes v rest → AreLed v keep to rest count nodes
    → IsNode w n → Leads w rest (at to count) (change_at keep to count) n → AreLed w keep to rest (count + 1) (nodes ++ n ∷ [])
led_more v w k keep to rest count nodes n has is there leads = record {
  all = let e = is.all in let l = length-append nodes (n ∷ []) in omega (arith, e, l);
  each = λ i a h g. ⊎_elim
      (λ (f : slice_get nodes i ≡ Some a). leads-extends v w (extends_leads v w k) rest has (at to i) (change_at keep to i) a (is.each i a (before i a f) f))
      (λ (f : (i ≡ length nodes) × (a ≡ n)).
      let e : i ≡ count = f.0 ∙ is.all in
      subst (λ b. Leads w rest (at to i) (change_at keep to i) b) (sym f.1) (subst (λ j. Leads w rest (at to j) (change_at keep to j) n) (sym e) leads))
      (got_more nodes n a i g);
  there = λ i a h g. ⊎_elim
      (λ (f : slice_get nodes i ≡ Some a). node-leads v w k a (is.there i a (before i a f) f))
      (λ (f : (i ≡ length nodes) × (a ≡ n)). subst (IsNode w) (sym f.1) there)
      (got_more nodes n a i g);
}
  where
    before : (i : ℕ) (a : NodeId) → slice_get nodes i ≡ Some a → i < count
    before i a f = let l = got_within nodes a i f in let e = is.all in omega (arith, l, e)

-- ---- the map of a list of nodes
-- one node for all assignments
pub spread_one : (w : World) (nodes : List NodeId) (left first : ℕ) (n : NodeId) (r : MapId) → left ≡ 0 → slice_get nodes first ≡ Some n → IsNode w n → IsMap w.maps r (λ x. Some n) → IsSpread w nodes left first r
spread_one w nodes left first n r e got there is = record {
  has = record { known = is.known; nodes = λ x h. (n, is.values x, there) };
  values = λ x. is.values x ∙ sym got ∙ ap (slice_get nodes) (alone x);
}
  where
    alone : (x : ℕ) → first ≡ first + x % 2 ^ left
    alone x = let h : x % 2 ^ left < 2 ^ left = mod-lt x (pow_pos left) in let p : 2 ^ left ≡ 1 = ap (λ n. 2 ^ n) e in omega (arith, h, p)

-- by a bit
pub spread_both : (w : World) (nodes : List NodeId) (bit left first high_first : ℕ) (low high r : MapId) (set : SetId) → left ≡ bit + 1 → high_first ≡ first + 2 ^ bit → IsSet w.store set (λ x. bit_at x bit == 1)
    → ((x : ℕ) → value w.maps low x ≡ slice_get nodes (first + x % 2 ^ bit)) → ((x : ℕ) → value w.maps high x ≡ slice_get nodes (high_first + x % 2 ^ bit))
    → ((x : ℕ) → value w.maps r x ≡ cond (has w.store set x) (value w.maps high x) (value w.maps low x))
    → (x : ℕ) → value w.maps r x ≡ slice_get nodes (first + x % 2 ^ left)
spread_both w nodes bit left first high_first low high r set e f is lows highs both x = both x ∙ ap (λ b. cond b (value w.maps high x) (value w.maps low x)) (is.members x) ∙ ⊎_elim
    (λ (z : bit_at x bit ≡ 0). ap (λ n. cond (n == 1) (value w.maps high x) (value w.maps low x)) z ∙ lows x ∙ ap (slice_get nodes) (let o = none z in omega (arith, o)))
    (λ (z : bit_at x bit ≡ 1). ap (λ n. cond (n == 1) (value w.maps high x) (value w.maps low x)) z ∙ highs x ∙ ap (slice_get nodes) (let o = one z in omega (arith, o, f)))
    (bit_cases x bit)
  where
    parts : x % 2 ^ left ≡ bit_at x bit * 2 ^ bit + x % 2 ^ bit
    parts = ap (λ n. x % 2 ^ n) (let h : left ≡ 1 + bit = omega (arith, e) in h) ∙ mod-pow-add x 1 bit

    one : bit_at x bit ≡ 1 → x % 2 ^ left ≡ 2 ^ bit + x % 2 ^ bit
    one z = parts ∙ ap (λ n. n * 2 ^ bit + x % 2 ^ bit) z ∙ ap (λ n. n + x % 2 ^ bit) (one-mul (2 ^ bit))

    none : bit_at x bit ≡ 0 → x % 2 ^ left ≡ x % 2 ^ bit
    none z = parts ∙ ap (λ n. n * 2 ^ bit + x % 2 ^ bit) z ∙ ap (λ n. n + x % 2 ^ bit) (zero-mul (2 ^ bit)) ∙ zero-add (x % 2 ^ bit)

-- the worlds: after the low half, after the high half, after the set, and at the end
pub spread_made : (t u v w : World) → Extends t u → Extends u v → Extends v w → (nodes : List NodeId) (bit left first high_first : ℕ) (low high r : MapId) (set : SetId) → left ≡ bit + 1 → high_first ≡ first + 2 ^ bit
    → IsSet v.store set (λ x. bit_at x bit == 1) → IsSpread t nodes bit first low → IsSpread u nodes bit high_first high
    → IsMap w.maps r (λ x. cond (has v.store set x) (value v.maps high x) (value v.maps low x)) → (HasNodes v high → HasNodes v low → HasNodes w r) → IsSpread w nodes left first r
spread_made t u v w tu uv vw nodes bit left first high_first low high r set e f is lows highs made kept = record {
  has = kept (has_nodes-extends u v uv high highs.has) (has_nodes-extends t v tv low lows.has);
  values = spread_both w nodes bit left first high_first low high r set e f (record { known = known-keeps v.store w.store vw.grows.stored set is.known; members = λ x. vw.grows.stored.same set x is.known ∙ is.members x })
      (λ x. tw.maps.same low x lows.has.known ∙ lows.values x)
      (λ x. uw.maps.same high x highs.has.known ∙ highs.values x)
      (λ x. made.values x ∙ (λ i. cond (sym (vw.grows.stored.same set x is.known) i) (sym (vw.maps.same high x (has_nodes-extends u v uv high highs.has).known) i) (sym (vw.maps.same low x (has_nodes-extends t v tv low lows.has).known) i)));
}
  where
    tv : Extends t v
    tv = extends_trans t u v tu uv

    tw : Extends t w
    tw = extends_trans t v w tv vw

    uw : Extends u w
    uw = extends_trans u v w uv vw

-- what the halves of so many places are within
double : (bit left : ℕ) → left ≡ bit + 1 → 2 ^ left ≡ 2 ^ bit + 2 ^ bit
double bit left e = ap (λ n. 2 ^ n) e ∙ double_more bit ∙ (let h : 2 * 2 ^ bit ≡ 2 ^ bit + 2 ^ bit = omega arith in h)

pub low_within : (left first size : ℕ) → (left ≡ 0 → ⊥) → first + 2 ^ left ≤ size → first + 2 ^ (left - 1) ≤ size
low_within left first size h k = let d = double (left - 1) left (let e : left ≡ left - 1 + 1 = omega (arith, h) in e) in omega (arith, d, k)

pub high_within : (left first size : ℕ) → (left ≡ 0 → ⊥) → first + 2 ^ left ≤ size → first + 2 ^ (left - 1) + 2 ^ (left - 1) ≤ size
high_within left first size h k = let d = double (left - 1) left (let e : left ≡ left - 1 + 1 = omega (arith, h) in e) in omega (arith, d, k)

pub one_within : (left first size : ℕ) → left ≡ 0 → first + 2 ^ left ≤ size → first < size
one_within left first size e k = let p : 2 ^ left ≡ 1 = ap (λ n. 2 ^ n) e in omega (arith, p, k)

-- the worlds: before the map of the nodes is made, and after
pub laid_whole : (v w : World) → Extends v w → (keep n : ℕ) (to : List ℕ) (rest : MapId) (nodes : List NodeId) (r : MapId) → AreStates n to → HasNodes v rest → AreLed v keep to rest (length to) nodes → IsSpread w nodes n 0 r → IsLaid w keep n to rest r
laid_whole v w k keep n to rest nodes r are has led is = record {
  has = is.has;
  each = λ x a h e. leads-extends v w k rest has (at to (x % 2 ^ n)) (change_at keep to (x % 2 ^ n)) a
      (led.each (x % 2 ^ n) a (let l : x % 2 ^ n < 2 ^ n = mod-lt x (pow_pos n) in let c = are.count in omega (arith, l, c)) (ap (slice_get nodes) (sym (zero-add (x % 2 ^ n))) ∙ sym (is.values x) ∙ e));
}

-- ---- the parts of a list and what follows
pub listed_after : (w : World) (vars : List (Name × Kind)) (layout : List (Name × Width × ℕ)) (n keep : ℕ) (closed : List Name) → IsFrame vars layout n → n ≤ 16 → keep < 2 ^ n → (p : Tree) (before to : List ℕ) (rest r : MapId)
    → StaySame n before → IsListed vars layout n p before to → IsOver w n rest → IsLaid w keep n to rest r
    → (Γ : Environment) → IsAround Γ vars → types_kept p Γ ≡ true → IsAfter w layout keep closed Γ p rest r
listed_after w vars layout n keep closed frame few small p before to rest r same made over laid Γ around types =
    moved_after w layout n keep closed Γ p rest r (λ x. at to (x % 2 ^ n)) small over
    (λ x h. pow_more n 64 (at to (x % 2 ^ n)) (omega (arith, few)) (made.are.below (x % 2 ^ n) (within x)))
    does (state_back vars layout n frame)
    (λ x a h e. subst (λ c. Leads w rest (at to (x % 2 ^ n)) c a) (sym (change_below keep n x (x % 2 ^ n) (at to (x % 2 ^ n)) small (low x))) (laid.each x a h e))
  where
    within : (x : ℕ) → x % 2 ^ n < 2 ^ n
    within x = mod-lt x (pow_pos n)

    low : (x k : ℕ) → k < n → bit_at x k ≡ bit_at (x % 2 ^ n) k
    low x k h = sym (low_bit x n k h)

    does : (x : ℕ) (t : List Event) (o : Outcome) → x < 2 ^ 64 → (meaning p).does Γ (state_of layout x) t o ↔ ((t ≡ []) × (o ≡ ended (state_of layout (at to (x % 2 ^ n)))))
    does x t o h = subst (λ s. (meaning p).does Γ s t o ↔ ((t ≡ []) × (o ≡ ended (state_of layout (at to (x % 2 ^ n))))))
        (ap (state_of layout) (same (x % 2 ^ n) (within x)) ∙ sym (state_below vars layout n frame x (x % 2 ^ n) (low x)))
        (made.moves Γ around types (x % 2 ^ n) t o (within x))
