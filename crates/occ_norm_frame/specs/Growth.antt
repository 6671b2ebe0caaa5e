-- What is done to nodes stays so as the world grows.
use Rattle.std.proofs.Common.{◌≡◌, ◌<◌, ◌≤◌, ◌||◌, ◌&&◌, ◌++◌, ℕ, zero, suc, Bool, true, List, [], ◌∷◌, Option, Some, None, get_or, nat_lt, refl, sym, ap, ◌∙◌, subst, arith}
use Rattle.std.proofs.lemmas.Bool.{and_parts, ltb-true}
use Rattle.std.proofs.lemmas.List.Elements.{All-append}
use Rattle.std.specs.Prelude.{◌↔◌}
use Rattle.std.specs.List.{list_any, All}
use Rattle.std.specs.Option.{IfSome}
use Rattle.std.specs.Ordering.{eq_by_cmp}
use Rattle.occ_syntax.specs.occ_base.declared.event.Event.{Event}
use Rattle.occ_syntax.specs.occ_base.declared.names.Name.{Name}
use Rattle.occ_weave.specs.occ_accept.Order.{event_cmp}
use Rattle.occ_weave.specs.occ_node.Offers.{next_in, are_below}
use Rattle.occ_weave.specs.occ_node.World.{Grows, IsNode, nodes_of, row_of}
use Rattle.occ_weave.specs.occ_node.declared.node.NodeId.{NodeId}
use Rattle.occ_weave.specs.occ_node.declared.world.World.{World}
use Rattle.occ_weave.specs.occ_choice.Branches.{AreBranches, IsAlt, IsBeside, branch_fails, branch_ends, node_of, offers_fails, offers_ends, waits}
use Rattle.occ_weave.specs.occ_choice.Joined.{maybe_fails, maybe_ends}
use Rattle.occ_weave.specs.occ_choice.declared.branch.Branch.{Branch}
use Rattle.occ_weave.specs.occ_choice.declared.branch.Branch.TheVariants.{Skip, Event as Comm}
use Rattle.occ_weave.specs.Weave.{BothFail, first_ended, second_ended, neither_ended, HoldsEvents, IsEventSet, IsWoven, WovenEnds, WovenFails}
use Rattle.occ_weave.specs.declared.manner.Manner.{Manner}
use Rattle.occ_norm_frame.specs.Earlier.{any_alike, child_there, iff_beside, iff_of_equal, iff_through, row_there}
use Rattle.occ_norm_frame.specs.Lifted.{Finished, IsEither, IsFinished, IsLifted, IsMerged, IsPrefixed, IsTurned, IsWovenOf, OnOne, OnTwo, branches_of}
use Rattle.occ_norm_frame.specs.declared.step.Step.{Step}
use Rattle.occ_norm_frame.specs.declared.step.Step.TheVariants.{Unite, Shift, Prefix, Merge, Finish, Weave}

-- ---- the offers of a node as branches
below_branches : (n : ℕ) (offers : List (Event × NodeId)) → are_below n offers ≡ true → All (λ (b : Branch). (node_of b).0 < n) (branches_of offers)
below_branches n [] h i d k = absurd (omega arith)
below_branches n (o ∷ offers) h zero d k = ltb-true o.1.0 n (and_parts (nat_lt o.1.0 n) (are_below n offers) h).0
below_branches n (o ∷ offers) h (suc i) d k = below_branches n offers (and_parts (nat_lt o.1.0 n) (are_below n offers) h).1 i d (omega arith)

pub row_branches : (w : World) (a : NodeId) → IsNode w a → AreBranches w (branches_of (row_of w a).offers)
row_branches w a h i d k = let below : (node_of (get_or (branches_of (row_of w a).offers) i d)).0 < a.0 = below_branches a.0 (row_of w a).offers (row_there w a h).earlier i d k in omega arith

pub both_branches : (w : World) (a b : NodeId) → IsNode w a → IsNode w b → AreBranches w (branches_of (row_of w a).offers ++ branches_of (row_of w b).offers)
both_branches w a b h k = All-append (λ c. IsNode w (node_of c)) (branches_of (row_of w a).offers) (branches_of (row_of w b).offers) (row_branches w a h) (row_branches w b k)

pub one_branch : (w : World) (e : Event) (a : NodeId) → IsNode w a → AreBranches w (Comm e a ∷ [])
one_branch w e a h zero d k = h
one_branch w e a h (suc i) d k = absurd (omega arith)

module _ (v w : World) (g : Grows v w) where
  pub node_grow : (a : NodeId) → IsNode v a → IsNode w a
  node_grow a h = let more : nodes_of v ≤ nodes_of w = g.more in omega arith

  pub some_grow : (o : Option NodeId) → IfSome o (IsNode v) → IfSome o (IsNode w)
  some_grow None h = tt
  some_grow (Some a) h = node_grow a h

  pub maybe_fails-grow : (o : Option NodeId) → IfSome o (IsNode v) → (t : List Event) (X : Event → Bool) → maybe_fails w o t X ≡ maybe_fails v o t X
  maybe_fails-grow None h t X = refl
  maybe_fails-grow (Some a) h t X = g.same_fails a t X h

  pub maybe_ends-grow : (o : Option NodeId) → IfSome o (IsNode v) → (t : List Event) (x : ℕ) → maybe_ends w o t x ≡ maybe_ends v o t x
  maybe_ends-grow None h t x = refl
  maybe_ends-grow (Some a) h t x = g.same_ends a t x h

  pub either_grow : (a b r : Option NodeId) → IsEither v a b r → IsEither w a b r
  either_grow a b r is = record {
    first = some_grow a is.first;
    second = some_grow b is.second;
    known = some_grow r is.known;
    there = is.there;
    both_fail = λ t X. maybe_fails-grow r is.known t X ∙ is.both_fail t X ∙ (λ i. sym (maybe_fails-grow a is.first t X) i || sym (maybe_fails-grow b is.second t X) i);
    both_end = λ t x. maybe_ends-grow r is.known t x ∙ is.both_end t x ∙ (λ i. sym (maybe_ends-grow a is.first t x) i || sym (maybe_ends-grow b is.second t x) i);
  }

  pub turned_grow : (change : ℕ) (p r : NodeId) → IsTurned v change p r → IsTurned w change p r
  turned_grow change p r is = record {
    first = node_grow p is.first;
    turned = record {
      known = node_grow r is.turned.known;
      same_fail = λ t X. g.same_fails r t X is.turned.known ∙ is.turned.same_fail t X ∙ sym (g.same_fails p t X is.first);
      turned_end = λ t x h. g.same_ends r t x is.turned.known ∙ is.turned.turned_end t x h ∙ sym (g.same_ends p t _ is.first);
    };
  }

  -- ---- ALT
  branch_fails-grow : (b : Branch) → IsNode v (node_of b) → (t : List Event) (X : Event → Bool) → branch_fails w t X b ≡ branch_fails v t X b
  branch_fails-grow (Skip n) h t X = g.same_fails n t X h
  branch_fails-grow (Comm f n) h [] X = refl
  branch_fails-grow (Comm f n) h (e ∷ t) X = ap (λ c. eq_by_cmp event_cmp e f && c) (g.same_fails n t X h)

  branch_ends-grow : (b : Branch) → IsNode v (node_of b) → (t : List Event) (x : ℕ) → branch_ends w t x b ≡ branch_ends v t x b
  branch_ends-grow (Skip n) h t x = g.same_ends n t x h
  branch_ends-grow (Comm f n) h [] x = refl
  branch_ends-grow (Comm f n) h (e ∷ t) x = ap (λ c. eq_by_cmp event_cmp e f && c) (g.same_ends n t x h)

  pub all_fails : (branches : List Branch) → AreBranches v branches → (t : List Event) (X : Event → Bool) → list_any (branch_fails w t X) branches ≡ list_any (branch_fails v t X) branches
  all_fails branches known t X = any_alike (branch_fails w t X) (branch_fails v t X) branches (λ i d h. branch_fails-grow (get_or branches i d) (known i d h) t X)

  pub all_ends : (branches : List Branch) → AreBranches v branches → (t : List Event) (x : ℕ) → list_any (branch_ends w t x) branches ≡ list_any (branch_ends v t x) branches
  all_ends branches known t x = any_alike (branch_ends w t x) (branch_ends v t x) branches (λ i d h. branch_ends-grow (get_or branches i d) (known i d h) t x)

  -- the ALT of branches of the earlier world is that of these branches in the later one
  pub alt_now : (branches : List Branch) (r : NodeId) → AreBranches v branches → IsAlt v w branches r → IsAlt w w branches r
  alt_now branches r known is = record {
    known = is.known;
    alt_fails = λ t X. is.alt_fails t X ∙ ap (λ c. waits branches t X || c) (sym (all_fails branches known t X));
    alt_ends = λ t x. is.alt_ends t x ∙ sym (all_ends branches known t x);
  }

  alt_grow : (branches : List Branch) (r : NodeId) → AreBranches v branches → IsAlt v v branches r → IsAlt w w branches r
  alt_grow branches r known is = record {
    known = node_grow r is.known;
    alt_fails = λ t X. g.same_fails r t X is.known ∙ is.alt_fails t X ∙ ap (λ c. waits branches t X || c) (sym (all_fails branches known t X));
    alt_ends = λ t x. g.same_ends r t x is.known ∙ is.alt_ends t x ∙ sym (all_ends branches known t x);
  }

  prefixed_grow : (event : Event) (p r : NodeId) → IsPrefixed v event p r → IsPrefixed w event p r
  prefixed_grow event p r is = record { first = node_grow p is.first; prefixed = alt_grow (Comm event p ∷ []) r (one_branch v event p is.first) is.prefixed }

  pub rows_grow : (p q : NodeId) → IsNode v p → IsNode v q → branches_of (row_of v p).offers ++ branches_of (row_of v q).offers ≡ branches_of (row_of w p).offers ++ branches_of (row_of w q).offers
  rows_grow p q h k = λ i. branches_of (sym (g.kept p h) i).offers ++ branches_of (sym (g.kept q k) i).offers

  merged_grow : (p q r : NodeId) → IsMerged v p q r → IsMerged w p q r
  merged_grow p q r is = record {
    first = node_grow p is.first;
    second = node_grow q is.second;
    merged = subst (λ branches. IsAlt w w branches r) (rows_grow p q is.first is.second) (alt_grow _ r (both_branches v p q is.first is.second) is.merged);
  }

  -- ---- offers beside a node
  offered_fails : (p : NodeId) → IsNode v p → (t : List Event) (X : Event → Bool) → offers_fails w (row_of w p).offers t X ≡ offers_fails v (row_of v p).offers t X
  offered_fails p h [] X = refl
  offered_fails p h (e ∷ t) X = ap (λ r. maybe_fails w (next_in r.offers e) t X) (g.kept p h) ∙ maybe_fails-grow (next_in (row_of v p).offers e) (child (next_in (row_of v p).offers e) refl) t X
    where
      child : (o : Option NodeId) → next_in (row_of v p).offers e ≡ o → IfSome o (IsNode v)
      child None k = tt
      child (Some b) k = child_there v p b e h k

  offered_ends : (p : NodeId) → IsNode v p → (t : List Event) (x : ℕ) → offers_ends w (row_of w p).offers t x ≡ offers_ends v (row_of v p).offers t x
  offered_ends p h [] x = refl
  offered_ends p h (e ∷ t) x = ap (λ r. maybe_ends w (next_in r.offers e) t x) (g.kept p h) ∙ maybe_ends-grow (next_in (row_of v p).offers e) (child (next_in (row_of v p).offers e) refl) t x
    where
      child : (o : Option NodeId) → next_in (row_of v p).offers e ≡ o → IfSome o (IsNode v)
      child None k = tt
      child (Some b) k = child_there v p b e h k

  finished_grow : (p q r : NodeId) → IsFinished v p q r → IsFinished w p q r
  finished_grow p q r is = record {
    first = node_grow p is.first;
    second = node_grow q is.second;
    beside = record {
      known = node_grow r is.beside.known;
      both_fail = λ t X. g.same_fails r t X is.beside.known ∙ is.beside.both_fail t X ∙ (λ i. sym (offered_fails p is.first t X) i || sym (g.same_fails q t X is.second) i);
      both_end = λ t x. g.same_ends r t x is.beside.known ∙ is.beside.both_end t x ∙ (λ i. sym (offered_ends p is.first t x) i || sym (g.same_ends q t x is.second) i);
    };
  }

  -- what a node offered in the earlier world, beside a node of that
  pub beside_now : (p q r : NodeId) → IsNode v p → IsNode v q → IsBeside v w (row_of v p).offers q r → IsFinished w p q r
  beside_now p q r h k is = record {
    first = node_grow p h;
    second = node_grow q k;
    beside = record {
      known = is.known;
      both_fail = λ t X. is.both_fail t X ∙ (λ i. sym (offered_fails p h t X) i || sym (g.same_fails q t X k) i);
      both_end = λ t x. is.both_end t x ∙ (λ i. sym (offered_ends p h t x) i || sym (g.same_ends q t x k) i);
    };
  }

  -- ---- side by side
  module _ (p q : NodeId) (hp : IsNode v p) (hq : IsNode v q) where
    holds_before : (E : Event → Bool) (a : NodeId) → IsNode v a → HoldsEvents w E a → HoldsEvents v E a
    holds_before E a h is = record { of_failures = λ t X k. is.of_failures t X (g.same_fails a t X h ∙ k); of_ends = λ t x b k. is.of_ends t x b (g.same_ends a t x h ∙ k) }

    set_before : (E : Event → Bool) → IsEventSet w E p q → IsEventSet v E p q
    set_before E is = record { counterparts = is.counterparts; first = holds_before E p hp is.first; second = holds_before E q hq is.second }

    module _ (E : Event → Bool) where
      fail_later : (t1 t2 : List Event) (X : Event → Bool) → BothFail v E p q t1 t2 X → BothFail w E p q t1 t2 X
      fail_later t1 t2 X (first_ended x b e f) = first_ended x b (g.same_ends p t1 x hp ∙ e) (g.same_fails q t2 _ hq ∙ f)
      fail_later t1 t2 X (second_ended x b f e) = second_ended x b (g.same_fails p t1 _ hp ∙ f) (g.same_ends q t2 x hq ∙ e)
      fail_later t1 t2 X (neither_ended Y f e) = neither_ended Y (g.same_fails p t1 _ hp ∙ f) (g.same_fails q t2 _ hq ∙ e)

      fail_before : (t1 t2 : List Event) (X : Event → Bool) → BothFail w E p q t1 t2 X → BothFail v E p q t1 t2 X
      fail_before t1 t2 X (first_ended x b e f) = first_ended x b (sym (g.same_ends p t1 x hp) ∙ e) (sym (g.same_fails q t2 _ hq) ∙ f)
      fail_before t1 t2 X (second_ended x b f e) = second_ended x b (sym (g.same_fails p t1 _ hp) ∙ f) (sym (g.same_ends q t2 x hq) ∙ e)
      fail_before t1 t2 X (neither_ended Y f e) = neither_ended Y (sym (g.same_fails p t1 _ hp) ∙ f) (sym (g.same_fails q t2 _ hq) ∙ e)

      fails_same : (t : List Event) (X : Event → Bool) → WovenFails v E p q t X ↔ WovenFails w E p q t X
      fails_same t X = (
        λ s. record { t1 = s.t1; t2 = s.t2; weave = s.weave; both = fail_later s.t1 s.t2 X s.both },
        λ s. record { t1 = s.t1; t2 = s.t2; weave = s.weave; both = fail_before s.t1 s.t2 X s.both },
      )

    ends_same : (written : ℕ) (t : List Event) (x : ℕ) → WovenEnds v written p q t x ↔ WovenEnds w written p q t x
    ends_same written t x = (
      λ s. record { t1 = s.t1; t2 = s.t2; weave = s.weave; x1 = s.x1; x2 = s.x2; below1 = s.below1; below2 = s.below2; first = g.same_ends p s.t1 s.x1 hp ∙ s.first; second = g.same_ends q s.t2 s.x2 hq ∙ s.second; joined = s.joined },
      λ s. record { t1 = s.t1; t2 = s.t2; weave = s.weave; x1 = s.x1; x2 = s.x2; below1 = s.below1; below2 = s.below2; first = sym (g.same_ends p s.t1 s.x1 hp) ∙ s.first; second = sym (g.same_ends q s.t2 s.x2 hq) ∙ s.second; joined = s.joined },
    )

    woven_grow : (written : ℕ) (closed : List Name) (r : NodeId) → IsWoven v written closed p q r → IsWoven w written closed p q r
    woven_grow written closed r is = record {
      known = node_grow r is.known;
      woven_fails = λ E set t X. iff_through (iff_of_equal _ _ (g.same_fails r t X is.known)) (iff_through (is.woven_fails E (set_before E set) t X) (iff_beside _ (fails_same E t _)));
      woven_ends = λ t x h. iff_through (iff_of_equal _ _ (g.same_ends r t x is.known)) (iff_through (is.woven_ends t x h) (iff_beside _ (ends_same written t x)));
    }

  woven_of_grow : (written : ℕ) (closed : List Name) (p q r : NodeId) → IsWovenOf v written closed p q r → IsWovenOf w written closed p q r
  woven_of_grow written closed p q r is = record { first = node_grow p is.first; second = node_grow q is.second; woven = woven_grow p q is.first is.second written closed r is.woven }

  -- ---- any step
  one_grow : (R S : NodeId → NodeId → Type 0) → ((p r : NodeId) → R p r → S p r) → (a r : Option NodeId) → OnOne R a r → OnOne S a r
  one_grow R S f None r is = is
  one_grow R S f (Some p) None is = is
  one_grow R S f (Some p) (Some r) is = f p r is

  two_grow : (R S : NodeId → NodeId → NodeId → Type 0) → ((p q r : NodeId) → R p q r → S p q r) → (a b r : Option NodeId) → OnTwo R a b r → OnTwo S a b r
  two_grow R S f None b r is = is
  two_grow R S f (Some p) None r is = is
  two_grow R S f (Some p) (Some q) None is = is
  two_grow R S f (Some p) (Some q) (Some r) is = f p q r is

  finish_grow : (a b r : Option NodeId) → Finished v a b r → Finished w a b r
  finish_grow None b r is = is
  finish_grow (Some p) None r is = is
  finish_grow (Some p) (Some q) None is = is
  finish_grow (Some p) (Some q) (Some r) is = finished_grow p q r is

  pub lifted_grow : (manner : Manner) (step : Step) (a b r : Option NodeId) → IsLifted manner step v a b r → IsLifted manner step w a b r
  lifted_grow manner Unite a b r is = either_grow a b r is
  lifted_grow manner (Shift change) a b r is = one_grow (IsTurned v change) (IsTurned w change) (turned_grow change) a r is
  lifted_grow manner (Prefix event) a b r is = one_grow (IsPrefixed v event) (IsPrefixed w event) (prefixed_grow event) a r is
  lifted_grow manner Merge a b r is = two_grow (IsMerged v) (IsMerged w) merged_grow a b r is
  lifted_grow manner Finish a b r is = finish_grow a b r is
  lifted_grow manner Weave a b r is = two_grow (IsWovenOf v manner.written manner.closed.items) (IsWovenOf w manner.written manner.closed.items) (woven_of_grow manner.written manner.closed.items) a b r is
