use Rattle.std.proofs.Common.{◌≡◌, ◌<◌, ◌≤◌, ◌+◌, ◌-◌, ◌||◌, ℕ, suc, Bool, true, false, List, [], ◌∷◌, take, drop, length, get_or, refl, sym, ap, ◌∙◌, subst, ⊎_elim, arith}
use Rattle.std.specs.Prelude.{Contains}
use Rattle.std.specs.List.{list_any, All}
use Rattle.std.proofs.lemmas.Bool.{false≢true, or_cases}
use Rattle.std.proofs.lemmas.List.{take_all}
use Rattle.std.proofs.lemmas.List.Folds.{list_any_at, list_any_more}
use Rattle.std.proofs.lemmas.List.Elements.{Contains-get_or}
use Rattle.occ_choice.specs.occ_dd.Store.{has}
use Rattle.occ_choice.specs.occ_dd.declared.set.SetId.{SetId}
use Rattle.occ_choice.specs.occ_mdd.Maps.{AreLabelsOn}
use Rattle.occ_choice.specs.occ_mdd.declared.map.MapId.{MapId}
use Rattle.std.specs.declared.cmp.Ordering.{Ordering}
use Rattle.occ_choice.specs.occ_node.World.{IsNode, row_of, fails, ends, Leads}
use Rattle.occ_choice.specs.occ_node.declared.node.NodeId.{NodeId}
use Rattle.occ_choice.specs.occ_node.declared.world.World.{World}
use Rattle.occ_choice.proofs.from_node.Behaviours.{ends_nil, node-leads}
use Rattle.occ_choice.specs.Union.{IsUnion}
use Rattle.occ_follow.specs.Sequence.{HasNodes}
use Rattle.occ_follow.specs.Nexts.{IsNext, AreNexts, IsUnionOf}
use Rattle.occ_follow.proofs.Continuing.{map_node}

-- ---- the nodes that go on
pub nexts_from : (w : World) (p : NodeId) (map : MapId) (set : SetId) (cmp : NodeId → NodeId → Ordering) (nodes : List NodeId) → set ≡ (row_of w p).ends → AreLabelsOn w.maps map w.store set cmp nodes → AreNexts w p map nodes
nexts_from w p map set cmp nodes is are = record {
  met = λ m c. let l = are.met m c in record { x = l.0; below = l.1; ended = ends_nil w p l.0 ∙ ap (λ s. has w.store s l.0) (sym is) ∙ l.2; leads = l.3 };
  all = λ m n. are.all m (n.x, n.below, ap (λ s. has w.store s n.x) is ∙ sym (ends_nil w p n.x) ∙ n.ended, n.leads);
}

pub next_known : (w : World) (p : NodeId) (map : MapId) → HasNodes w map → (m : NodeId) → IsNext w p map m → IsNode w m
next_known w p map has m n = map_node w map has n.x m n.below n.leads

pub nexts_known : (w : World) (p : NodeId) (map : MapId) (nodes : List NodeId) → HasNodes w map → AreNexts w p map nodes → All (IsNode w) nodes
nexts_known w p map nodes has are = λ i d h. next_known w p map has (get_or nodes i d) (are.met (get_or nodes i d) (Contains-get_or nodes i d h))

-- ---- one of some nodes
pub any_contains : (test : NodeId → Bool) (nodes : List NodeId) → list_any test nodes ≡ true → (m : NodeId) × Contains nodes m × (test m ≡ true)
any_contains test [] h = absurd (false≢true h)
any_contains test (n ∷ nodes) h = ⊎_elim
    (λ (k : test n ≡ true). (n, (0, omega arith, refl), k))
    (λ (k : list_any test nodes ≡ true). let r = any_contains test nodes k in let c = r.1 in (r.0, (suc c.0, omega (arith, c.1), c.2), r.2))
    (or_cases (test n) (list_any test nodes) h)

pub contains_any : (test : NodeId → Bool) (nodes : List NodeId) (m : NodeId) → Contains nodes m → test m ≡ true → list_any test nodes ≡ true
contains_any test nodes m c h = list_any_at test nodes c.0 m c.1 (ap test c.2 ∙ h)

-- ---- the union of some nodes
or_false : (b : Bool) → b ≡ (b || false)
or_false true = refl
or_false false = refl

or_assoc : (a b c : Bool) → ((a || b) || c) ≡ (a || (b || c))
or_assoc true b c = refl
or_assoc false b c = refl

pub union_one : (w : World) (n : NodeId) (others : List NodeId) → IsNode w n → IsUnionOf w w (n ∷ take 0 others) n
union_one w n others h = record { known = h; all_fail = λ t X. or_false (fails w n t X); all_end = λ t x. or_false (ends w n t x) }

pub union_more : (u v w : World) → Leads u v → Leads v w → (n r q : NodeId) (others : List NodeId) (i : ℕ) (d : NodeId) → i < length others → All (IsNode u) others
    → IsUnionOf u v (n ∷ take i others) r → IsUnion w r (get_or others i d) q → Leads u w → IsUnionOf u w (n ∷ take (i + 1) others) q
union_more u v w j k n r q others i d h known is union l = record {
  known = union.known;
  all_fail = λ t X. union.both_fail t X
      ∙ (λ e. (k.same_fails r t X is.known ∙ is.all_fail t X) e || l.same_fails (get_or others i d) t X (known i d h) e)
      ∙ or_assoc (fails u n t X) (list_any (λ m. fails u m t X) (take i others)) (fails u (get_or others i d) t X)
      ∙ ap (λ b. fails u n t X || b) (sym (list_any_more (λ m. fails u m t X) others i d h));
  all_end = λ t x. union.both_end t x
      ∙ (λ e. (k.same_ends r t x is.known ∙ is.all_end t x) e || l.same_ends (get_or others i d) t x (known i d h) e)
      ∙ or_assoc (ends u n t x) (list_any (λ m. ends u m t x) (take i others)) (ends u (get_or others i d) t x)
      ∙ ap (λ b. ends u n t x || b) (sym (list_any_more (λ m. ends u m t x) others i d h));
}

pub union_whole : (u v : World) (n r : NodeId) (others : List NodeId) (i : ℕ) → length others ≤ i → IsUnionOf u v (n ∷ take i others) r → IsUnionOf u v (n ∷ others) r
union_whole u v n r others i h is = subst (λ ns. IsUnionOf u v (n ∷ ns) r) (take_all i others h) is

-- ---- the first node and the others
pub none_left : (items nodes : List NodeId) → items ≡ nodes → length items < 1 → nodes ≡ []
none_left [] nodes same h = sym same
none_left (n ∷ items) nodes same h = absurd (omega arith)

split_first : (items : List NodeId) (d : NodeId) → 1 ≤ length items → get_or items 0 d ∷ take (length items - 1) (drop 1 items) ≡ items
split_first [] d h = absurd (omega arith)
split_first (n ∷ items) d h = let e : suc (length items) - 1 ≡ length items = omega arith in ap (λ k. n ∷ take k items) e ∙ ap (λ ns. n ∷ ns) (take_all (length items) items (omega arith))

pub nexts_split : (u : World) (p : NodeId) (map : MapId) (items nodes : List NodeId) (d : NodeId) → items ≡ nodes → 1 ≤ length items → AreNexts u p map nodes → AreNexts u p map (get_or items 0 d ∷ take (length items - 1) (drop 1 items))
nexts_split u p map items nodes d same h are = subst (AreNexts u p map) (sym (split_first items d h ∙ same)) are

pub first_known : (u v : World) → Leads u v → (p : NodeId) (map : MapId) (n : NodeId) (others : List NodeId) → HasNodes u map → AreNexts u p map (n ∷ others) → IsNode v n
first_known u v k p map n others has are = node-leads u v k n (nexts_known u p map (n ∷ others) has are 0 n (omega arith))

pub others_known : (u v : World) → Leads u v → (p : NodeId) (map : MapId) (n : NodeId) (others : List NodeId) → HasNodes u map → AreNexts u p map (n ∷ others) → All (IsNode v) others
others_known u v k p map n others has are = λ i d h. node-leads u v k (get_or others i d) (nexts_known u p map (n ∷ others) has are (suc i) d (omega arith))
