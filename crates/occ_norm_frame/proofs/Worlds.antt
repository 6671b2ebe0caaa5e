-- Worlds whose maps are taken out, put back or added to, and what is done to their nodes.
use Rattle.std.proofs.Common.{◌≡◌, ◌<◌, ◌≤◌, ◌^◌, ◌==◌, ◌++◌, ℕ, Bool, true, false, not, cond, ◌&&◌, ◌||◌, ◌+◌, zero, suc, List, [], ◌∷◌, Option, Some, None, ⊎_elim, length, refl, sym, ap, ◌∙◌, subst, arith, lit<}
use Rattle.std.proofs.lemmas.Bool.{eqb-true, eqb-false, false≢true, true≢false}
use Rattle.std.specs.Int.{bit_at}
use Rattle.std.specs.Int.Bits.{xor_zero_r}
use Rattle.std.proofs.lemmas.Nat.Bits.{bit_at-zero}
use Rattle.std.specs.Option.{IfSome}
use Rattle.occ_syntax.specs.occ_base.declared.event.Event.{Event}
use Rattle.occ_syntax.specs.occ_base.declared.names.Name.{Name}
use Rattle.occ_bits.specs.occ_dd.Assignment.{turned, with_bit}
use Rattle.occ_bits.proofs.from_dd.Bits.{bit_cases, turned_lt, with_bit_lt}
use Rattle.occ_bits.specs.occ_dd.Store.{IsSet, Keeps as KeepsSets, has}
use Rattle.occ_bits.specs.occ_dd.declared.set.SetId.{SetId}
use Rattle.occ_bits.specs.occ_dd.declared.store.Store.{Store}
use Rattle.occ_bits.proofs.from_dd.Callers.{keeps_refl}
use Rattle.occ_weave.specs.occ_accept.Accept.{in_some, refuses}
use Rattle.occ_weave.specs.occ_accept.Order.{strict}
use Rattle.occ_weave.specs.occ_mdd.Maps.{IsKnown, IsMap, IsRelated, Keeps, maps_of, value}
use Rattle.occ_weave.specs.occ_mdd.declared.map.MapId.{MapId}
use Rattle.occ_weave.specs.occ_mdd.declared.maps.Maps.{Maps}
use Rattle.occ_weave.proofs.from_mdd.Values.{canonical_maps}
use Rattle.occ_weave.specs.occ_node.Offers.{are_below, next_in, offer_cmp}
use Rattle.occ_weave.specs.occ_node.Rows.{goes_on}
use Rattle.occ_weave.specs.occ_node.World.{Grows, IsFit, IsMade, Leads, IsNode, nodes_of, row_of, fails, ends, row_fails}
use Rattle.occ_weave.specs.occ_node.declared.node.NodeId.{NodeId}
use Rattle.occ_weave.specs.occ_node.declared.row.Row.{Row}
use Rattle.occ_weave.specs.occ_node.declared.world.World.{World}
use Rattle.occ_weave.proofs.from_node.Behaviours.{alive_ends, ends_made, fails_made, grows_leads, grows_refl, grows_trans, leads_store, leads_trans, node-leads, within_offers}
use Rattle.occ_weave.proofs.from_node.Table.{Holds, holds_refl, row-holds, fails-holds, ends-holds}
use Rattle.occ_weave.specs.occ_choice.Branches.{AreBranches, IsAlt, IsBeside, waits}
use Rattle.occ_weave.specs.occ_choice.Joined.{IsSound}
use Rattle.occ_weave.specs.occ_choice.Union.{AreUnions, IsAdded}
use Rattle.occ_weave.specs.occ_choice.declared.branch.Branch.{Branch}
use Rattle.occ_weave.proofs.from_choice.Choosing.{beside_added, beside_sound}
use Rattle.occ_weave.proofs.from_choice.Uniting.{sound_row, unions-lead}
use Rattle.occ_follow.specs.Sequence.{HasNodes, IsFollowed}
use Rattle.occ_follow.proofs.Continuing.{followed_from, has_later, sequence_later, sequence_now}
use Rattle.occ_weave.specs.occ_choice.declared.unions.Unions.{Unions}
use Rattle.occ_follow.proofs.from_scope.Keeping.{shifts-lead}
use Rattle.occ_weave.specs.declared.manner.Manner.{Manner}
use Rattle.occ_weave.proofs.Keeping.{remembers-lead}
use Rattle.occ_norm_frame.specs.Lifted.{Finished, IsEither, IsFinished, IsLifted, IsMerged, IsTurned, IsWovenOf, OnOne, OnTwo, branches_of}
use Rattle.occ_norm_frame.specs.Lifting.{Accepts, Goes, IsRight, Relates}
use Rattle.occ_norm_frame.specs.Maps.{Extends, IsSkip, Lifts, MayHaveNodes, are_zero, is_clear}
use Rattle.occ_norm_frame.specs.declared.lifting.Lifting.{Lifting}
use Rattle.occ_norm_frame.specs.declared.step.Step.{Step}
use Rattle.occ_norm_frame.specs.Growth.{all_ends, all_fails, alt_now, beside_now, both_branches, node_grow, lifted_grow, rows_grow, some_grow}

pub map-keeps : (v w : World) → Keeps v.maps w.maps → (m : MapId) → IsKnown v.maps m → IsKnown w.maps m
map-keeps v w k m h = let more : maps_of v.maps ≤ maps_of w.maps = k.more in omega arith

pub maps_refl : (w : World) → Keeps w.maps w.maps
maps_refl w = record { more = omega arith; same = λ a x h. refl }

pub maps_trans : (u v w : World) → Keeps u.maps v.maps → Keeps v.maps w.maps → Keeps u.maps w.maps
maps_trans u v w k l =
    let first : maps_of u.maps ≤ maps_of v.maps = k.more in
    let second : maps_of v.maps ≤ maps_of w.maps = l.more in
    record { more = omega arith; same = λ a x h. l.same a x (map-keeps u v k a h) ∙ k.same a x h }

pub extends_refl : (w : World) → Extends w w
extends_refl w = record { grows = grows_refl w; maps = maps_refl w }

pub extends_trans : (u v w : World) → Extends u v → Extends v w → Extends u w
extends_trans u v w k l = record { grows = grows_trans u v w k.grows l.grows; maps = maps_trans u v w k.maps l.maps }

-- a world that has grown with its maps as they were
pub extends_leads : (v w : World) → Leads v w → Extends v w
extends_leads v w k = record { grows = grows_leads v w k; maps = subst (λ m. Keeps v.maps m) (sym k.maps) (maps_refl v) }

pub may_have : (w : World) (m : MapId) → HasNodes w m → MayHaveNodes w m
may_have w m has = record { known = has.known; nodes = λ x h. let n = has.nodes x h in subst (λ o. IfSome o (IsNode w)) (sym n.1) n.2 }

pub may_have-extends : (v w : World) → Extends v w → (m : MapId) → MayHaveNodes v m → MayHaveNodes w m
may_have-extends v w k m has = record {
  known = map-keeps v w k.maps m has.known;
  nodes = λ x h. subst (λ o. IfSome o (IsNode w)) (sym (k.maps.same m x has.known)) (some_grow v w k.grows (value v.maps m x) (has.nodes x h));
}

pub has_nodes-extends : (v w : World) → Extends v w → (m : MapId) → HasNodes v m → HasNodes w m
has_nodes-extends v w k m has = record {
  known = map-keeps v w k.maps m has.known;
  nodes = λ x h. let n = has.nodes x h in (n.0, k.maps.same m x has.known ∙ n.1, node_grow v w k.grows n.0 n.2);
}

module _ (old new : World) (keeps : KeepsSets old.store new.store) (rows : new.rows ≡ old.rows) where
  holds : Holds old.rows.keys new.rows.keys
  holds = subst (λ r. Holds old.rows.keys r.keys) (sym rows) (holds_refl old.rows.keys)

  -- a world whose sets alone have grown, whatever its maps are
  pub grows_rows : Grows old new
  unfolding nodes_of row_of fails ends
  grows_rows = record {
    stored = keeps;
    more = holds.more;
    kept = λ a h. row-holds old.store old.rows.keys old.right new.rows.keys holds a h;
    same_fails = λ a t X h. fails-holds old.store old.rows.keys old.right new.rows.keys holds t a X h;
    same_ends = λ a t x h. ends-holds old.store old.rows.keys old.right new.rows.keys holds new.store keeps t a x h;
  }

  pub extends_rows : Keeps old.maps new.maps → Extends old new
  extends_rows maps = record { grows = grows_rows; maps = maps }

-- ---- cofactors
when : (b : Bool) (f : ℕ → Option NodeId) (x y : ℕ) (u v : Option NodeId) → u ≡ f x → v ≡ f y → cond b u v ≡ f (cond b x y)
when true f x y u v p q = p
when false f x y u v p q = q

zero_or_one : (x bit : ℕ) → not (bit_at x bit == 1) ≡ (bit_at x bit == 0)
zero_or_one x bit = ⊎_elim
    (λ (h : bit_at x bit ≡ 0). ap (λ n. not (n == 1)) h ∙ sym (ap (λ n. n == 0) h))
    (λ (h : bit_at x bit ≡ 1). ap (λ n. not (n == 1)) h ∙ sym (ap (λ n. n == 0) h))
    (bit_cases x bit)

not_when : (b : Bool) (f : ℕ → Option NodeId) (x y : ℕ) (u v : Option NodeId) → u ≡ f x → v ≡ f y → cond b v u ≡ f (cond (not b) x y)
not_when true f x y u v p q = q
not_when false f x y u v p q = p

module _ {e : _} {h : _} (us vs ws : Maps NodeId e h) (s : Store) (map turn : MapId) (bit : ℕ) (set : SetId) (known : IsKnown us map) (keeps : Keeps us vs)
    (turns : IsMap vs turn (λ x. value us map (turned x bit))) (is : IsSet s set (λ x. bit_at x bit == 1)) where
  pub cofactor_one : (r : MapId) → IsMap ws r (λ x. cond (has s set x) (value vs map x) (value vs turn x)) → IsMap ws r (λ x. value us map (with_bit x bit 1))
  cofactor_one r made = record {
    known = made.known;
    values = λ x. made.values x ∙ ap (λ b. cond b (value vs map x) (value vs turn x)) (is.members x)
        ∙ when (bit_at x bit == 1) (value us map) x (turned x bit) _ _ (keeps.same map x known) (turns.values x);
  }

  pub cofactor_zero : (r : MapId) → IsMap ws r (λ x. cond (has s set x) (value vs turn x) (value vs map x)) → IsMap ws r (λ x. value us map (with_bit x bit 0))
  cofactor_zero r made = record {
    known = made.known;
    values = λ x. made.values x ∙ ap (λ b. cond b (value vs turn x) (value vs map x)) (is.members x)
        ∙ not_when (bit_at x bit == 1) (value us map) x (turned x bit) _ _ (keeps.same map x known) (turns.values x)
        ∙ ap (λ b. value us map (cond b x (turned x bit))) (zero_or_one x bit);
  }

-- ---- whether a map depends on a bit
same_map : (a b : MapId) → a.0 ≡ b.0 → a ≡ b
same_map a b e = λ i. record { 0 = e i }

pub independent : (v w : World) (map turn : MapId) (f : ℕ → Option NodeId) → IsKnown v.maps map → Keeps v.maps w.maps → IsMap w.maps turn f → not (turn.0 == map.0) ≡ false → (x : ℕ) → f x ≡ value v.maps map x
independent v w map turn f known keeps is e x =
    let same : turn ≡ map = same_map turn map (eqb-true turn.0 map.0 (not_false (turn.0 == map.0) e)) in
    sym (is.values x) ∙ ap (λ m. value w.maps m x) same ∙ keeps.same map x known
  where
    not_false : (b : Bool) → not b ≡ false → b ≡ true
    not_false true h = refl
    not_false false h = sym h

pub dependent : (v w : World) (map turn : MapId) (f : ℕ → Option NodeId) → IsKnown v.maps map → Keeps v.maps w.maps → IsMap w.maps turn f → not (turn.0 == map.0) ≡ true → ((x : ℕ) → f x ≡ value v.maps map x) → ⊥
dependent v w map turn f known keeps is e all =
    let same : turn ≡ map = (canonical_maps w.maps).one turn map is.known (map-keeps v w keeps map known) (λ x h. is.values x ∙ all x ∙ sym (keeps.same map x known)) in
    eqb-false turn.0 map.0 (not_true (turn.0 == map.0) e) (λ i. (same i).0)
  where
    not_true : (b : Bool) → not b ≡ true → b ≡ false
    not_true true h = sym h
    not_true false h = refl

-- ---- nodes
pub merged_now : (v w : World) → Leads v w → (p q : NodeId) → IsNode v p → IsNode v q → (branches : List Branch) → branches ≡ branches_of (row_of v p).offers ++ branches_of (row_of v q).offers
    → (r : NodeId) → IsAlt v w branches r → IsMerged w p q r
merged_now v w k p q h l branches is r alt =
    let g = grows_leads v w k in
    record {
      first = node_grow v w g p h;
      second = node_grow v w g q l;
      merged = subst (λ bs. IsAlt w w bs r) (is ∙ rows_grow v w g p q h l) (alt_now v w g branches r (subst (AreBranches v) (sym is) (both_branches v p q h l)) alt);
    }

pub finish_sound : (w : World) (p : NodeId) (nowhere : SetId) (accepts : List (List Event)) (offers : List (Event × NodeId)) → IsNode w p → offers ≡ (row_of w p).offers → IsSet w.store nowhere (λ x. false)
    → ((e : Event) → in_some accepts e ≡ true → in_some [] e ≡ true) → IsSound w (record { ends = nowhere; accepts = accepts; offers = offers })
finish_sound w p nowhere accepts offers h is set events =
    let s = sound_row w p (row_of w p) h refl in
    beside_sound w nowhere accepts offers set (ap (strict offer_cmp) is ∙ s.increasing) (ap (are_below (nodes_of w)) is ∙ s.there) events

pub finish_now : (v w : World) → Leads v w → (p q : NodeId) (nowhere : SetId) (accepts : List (List Event)) (offers : List (Event × NodeId)) (r : NodeId) → IsNode v p → IsNode v q → offers ≡ (row_of v p).offers
    → IsSet v.store nowhere (λ x. false) → ((X : Event → Bool) → refuses accepts X ≡ refuses [] X) → IsAdded v w (record { ends = nowhere; accepts = accepts; offers = offers }) q r → IsFinished w p q r
finish_now v w k p q nowhere accepts offers r h l is set nothing added =
    beside_now v w (grows_leads v w k) p q r h l (subst (λ os. IsBeside v w os q r) is (beside_added v w nowhere accepts offers q r set nothing added))

-- ---- steps
-- the world has grown, and so have its unions
pub goes_world : (f : Lifting) (w : World) (unions : Unions) → Leads f.weaver.world w → (AreUnions f.weaver.world f.weaver.unions → AreUnions w unions) → Goes f (record f { weaver = record f.weaver { world = w; unions = unions } })
goes_world f w unions leads are = record {
  leads = leads;
  step = refl;
  manner = refl;
  right = λ right. (remembers-lead _ _ f.weaver w unions leads (are right.0.unions) right.0, shifts-lead f.weaver.world w f.shifts leads right.1);
}

-- ---- a world whose maps are taken out and put back
pub labels : {e : _} {h : _} (v : World) (m : Maps NodeId e h) (f : Lifting) (a : MapId) → ((x : ℕ) → value m a x ≡ value v.maps a x) → nodes_of v ≤ nodes_of f.weaver.world → IsRight f
    → MayHaveNodes v a → (x : ℕ) → x < 2 ^ 64 → IfSome (value m a x) (Accepts f)
labels v m f a same more right has x h = subst (λ o. IfSome o (Accepts f)) (sym (same x)) (by (value v.maps a x) (has.nodes x h))
  where
    by : (o : Option NodeId) → IfSome o (IsNode v) → IfSome o (Accepts f)
    by None k = tt
    by (Some n) k = record { node = omega (arith, more, k); right = right }

pub nodes_rows : (v w : World) → w.rows ≡ v.rows → nodes_of v ≤ nodes_of w
unfolding nodes_of
nodes_rows v w rows = let e : length w.rows.keys ≡ length v.rows.keys = ap (λ r. length r.keys) rows in omega arith

pub store_keeps : (s t : Store) → t ≡ s → KeepsSets s t
store_keeps s t e = subst (λ r. KeepsSets s r) (sym e) (keeps_refl s)

pub put_back : (v u w z : World) → u.store ≡ v.store → u.rows ≡ v.rows → Leads u w → z.store ≡ w.store → z.rows ≡ w.rows → Keeps v.maps z.maps → Extends v z
put_back v u w z s r k t q maps = record {
  grows = grows_trans v u z (grows_rows v u (store_keeps v.store u.store s) r) (grows_trans u w z (grows_leads u w k) (grows_rows w z (store_keeps w.store z.store t) q));
  maps = maps;
}

pub lifted_back : (f g : Lifting) → Goes f g → (v z : World) → z.store ≡ g.weaver.world.store → z.rows ≡ g.weaver.world.rows → Keeps v.maps z.maps
    → (a b r : MapId) → IsKnown v.maps a → IsKnown v.maps b → IsRelated v.maps z.maps a b r (Relates g) → Lifts z a b r (IsLifted f.manner f.step z)
lifted_back f g k v z s q keeps a b r ha hb is = record {
  known = is.known;
  related = λ x h.
      subst (λ o. IsLifted f.manner f.step z o (value z.maps b x) (value z.maps r x)) (sym (keeps.same a x ha))
      (subst (λ o. IsLifted f.manner f.step z (value v.maps a x) o (value z.maps r x)) (sym (keeps.same b x hb))
      (lifted_grow g.weaver.world z (grows_rows g.weaver.world z (store_keeps g.weaver.world.store z.store s) q) f.manner f.step (value v.maps a x) (value v.maps b x) (value z.maps r x)
      (subst (λ (m : Manner). IsLifted m f.step g.weaver.world (value v.maps a x) (value v.maps b x) (value z.maps r x)) k.manner
      (subst (λ (t : Step). IsLifted g.manner t g.weaver.world (value v.maps a x) (value v.maps b x) (value z.maps r x)) k.step (is.related x)))));
}

-- nodes side by side, by the bits and the channels of a manner
pub same_manner : (w : World) (a b r : MapId) (written here : ℕ) (closed there : List Name) → written ≡ here → closed ≡ there → Lifts w a b r (OnTwo (IsWovenOf w written closed)) → Lifts w a b r (OnTwo (IsWovenOf w here there))
same_manner w a b r written here closed there same also is = subst (λ cs. Lifts w a b r (OnTwo (IsWovenOf w here cs))) also (subst (λ n. Lifts w a b r (OnTwo (IsWovenOf w n closed))) same is)

-- ---- maps that have a node everywhere
module _ (w : World) where
  one_node : (R : NodeId → NodeId → Type 0) → ((p r : NodeId) → R p r → IsNode w r) → (p : NodeId) (o s : Option NodeId) → o ≡ s → OnOne R (Some p) s → (m : NodeId) × (o ≡ Some m) × IsNode w m
  one_node R known p o None e bad = absurd bad
  one_node R known p o (Some m) e is = (m, e, known p m is)

  pub one_nodes : (a r : MapId) (R : NodeId → NodeId → Type 0) → ((p r : NodeId) → R p r → IsNode w r) → HasNodes w a → Lifts w a a r (λ u v. OnOne R u) → HasNodes w r
  one_nodes a r R known has is = record {
    known = is.known;
    nodes = λ x h. let n = has.nodes x h in one_node R known n.0 (value w.maps r x) (value w.maps r x) refl (subst (λ o. OnOne R o (value w.maps r x)) n.1 (is.related x h));
  }

  two_node : (R : NodeId → NodeId → NodeId → Type 0) → ((p q r : NodeId) → R p q r → IsNode w r) → (p q : NodeId) (o s : Option NodeId) → o ≡ s → OnTwo R (Some p) (Some q) s → (m : NodeId) × (o ≡ Some m) × IsNode w m
  two_node R known p q o None e bad = absurd bad
  two_node R known p q o (Some m) e is = (m, e, known p q m is)

  pub two_nodes : (a b r : MapId) (R : NodeId → NodeId → NodeId → Type 0) → ((p q r : NodeId) → R p q r → IsNode w r) → HasNodes w a → HasNodes w b → Lifts w a b r (OnTwo R) → HasNodes w r
  two_nodes a b r R known has also is = record {
    known = is.known;
    nodes = λ x h. let n = has.nodes x h in let m = also.nodes x h in
        two_node R known n.0 m.0 (value w.maps r x) (value w.maps r x) refl (subst (λ o. OnTwo R (Some n.0) o (value w.maps r x)) m.1 (subst (λ o. OnTwo R o (value w.maps b x) (value w.maps r x)) n.1 (is.related x h)));
  }

  finish_node : (p : NodeId) → IsNode w p → (b o s : Option NodeId) → o ≡ s → Finished w (Some p) b s → (m : NodeId) × (o ≡ Some m) × IsNode w m
  finish_node p h None o s e is = (p, e ∙ is, h)
  finish_node p h (Some q) o None e bad = absurd bad
  finish_node p h (Some q) o (Some m) e is = (m, e, is.beside.known)

  pub finish_nodes : (a b r : MapId) → HasNodes w a → Lifts w a b r (Finished w) → HasNodes w r
  finish_nodes a b r has is = record {
    known = is.known;
    nodes = λ x h. let n = has.nodes x h in finish_node n.0 n.2 (value w.maps b x) (value w.maps r x) (value w.maps r x) refl (subst (λ o. Finished w o (value w.maps b x) (value w.maps r x)) n.1 (is.related x h));
  }

  pub either_may : (a b r : MapId) → Lifts w a b r (IsEither w) → MayHaveNodes w r
  either_may a b r is = record { known = is.known; nodes = λ x h. (is.related x h).known }

  either_node : (p : NodeId) (b o s : Option NodeId) → o ≡ s → IsEither w (Some p) b s → (m : NodeId) × (o ≡ Some m) × IsNode w m
  either_node p b o None e is = absurd (true≢false (sym is.there))
  either_node p b o (Some m) e is = (m, e, is.known)

  pub either_nodes : (a b r : MapId) → HasNodes w a → Lifts w a b r (IsEither w) → HasNodes w r
  either_nodes a b r has is = record {
    known = is.known;
    nodes = λ x h. let n = has.nodes x h in either_node n.0 (value w.maps b x) (value w.maps r x) (value w.maps r x) refl (subst (λ o. IsEither w o (value w.maps b x) (value w.maps r x)) n.1 (is.related x h));
  }

  pub everywhere : (r : MapId) (n : NodeId) → IsNode w n → IsMap w.maps r (λ x. Some n) → HasNodes w r
  everywhere r n h is = record { known = is.known; nodes = λ x k. (n, is.values x, h) }

module _ (v w : World) (k : Extends v w) where
  pub moved_nodes : (a r : MapId) (f : ℕ → ℕ) → ((x : ℕ) → x < 2 ^ 64 → f x < 2 ^ 64) → HasNodes v a → IsMap w.maps r (λ x. value v.maps a (f x)) → HasNodes w r
  moved_nodes a r f below has is = record {
    known = is.known;
    nodes = λ x h. let n = has.nodes (f x) (below x h) in (n.0, is.values x ∙ n.1, node_grow v w k.grows n.0 n.2);
  }

  chosen_node : (b : Bool) (o p : Option NodeId) → ((m : NodeId) × (o ≡ Some m) × IsNode v m) → ((m : NodeId) × (p ≡ Some m) × IsNode v m) → (m : NodeId) × (cond b o p ≡ Some m) × IsNode w m
  chosen_node true o p n m = (n.0, n.1, node_grow v w k.grows n.0 n.2)
  chosen_node false o p n m = (m.0, m.1, node_grow v w k.grows m.0 m.2)

  pub chosen_nodes : (test : ℕ → Bool) (a b r : MapId) → HasNodes v a → HasNodes v b → IsMap w.maps r (λ x. cond (test x) (value v.maps a x) (value v.maps b x)) → HasNodes w r
  chosen_nodes test a b r has also is = record {
    known = is.known;
    nodes = λ x h. let n = chosen_node (test x) (value v.maps a x) (value v.maps b x) (has.nodes x h) (also.nodes x h) in (n.0, is.values x ∙ n.1, n.2);
  }

  chosen_some : (b : Bool) (o p : Option NodeId) → IfSome o (IsNode v) → IfSome p (IsNode v) → IfSome (cond b o p) (IsNode w)
  chosen_some true o p n m = some_grow v w k.grows o n
  chosen_some false o p n m = some_grow v w k.grows p m

  pub chosen_may : (test : ℕ → Bool) (a b r : MapId) → MayHaveNodes v a → MayHaveNodes v b → IsMap w.maps r (λ x. cond (test x) (value v.maps a x) (value v.maps b x)) → MayHaveNodes w r
  chosen_may test a b r has also is = record {
    known = is.known;
    nodes = λ x h. subst (λ o. IfSome o (IsNode w)) (sym (is.values x)) (chosen_some (test x) (value v.maps a x) (value v.maps b x) (has.nodes x h) (also.nodes x h));
  }

pub with_bit_below : (b v : ℕ) → b < 64 → (x : ℕ) → x < 2 ^ 64 → with_bit x b v < 2 ^ 64
with_bit_below b v h x k = with_bit_lt x b v 64 h k

pub turned_below : (b : ℕ) → b < 64 → (x : ℕ) → x < 2 ^ 64 → turned x b < 2 ^ 64
turned_below b h x k = turned_lt x b 64 h k

-- a shift by no bits
same_turned : (w : World) (p : NodeId) → IsNode w p → IsTurned w 0 p p
same_turned w p h = record { first = h; turned = record { known = h; same_fail = λ t X. refl; turned_end = λ t x k. ap (λ y. ends w p t y) (sym (xor_zero_r x)) } }

pub same_shifted : (w : World) (a : MapId) (change : ℕ) → change ≡ 0 → HasNodes w a → ((x : ℕ) → x < 2 ^ 64 → IfSome (value w.maps a x) (IsNode w)) → Lifts w a a a (λ u v. OnOne (IsTurned w change) u)
same_shifted w a change e has all = record { known = has.known; related = λ x h. subst (λ n. OnOne (IsTurned w n) (value w.maps a x) (value w.maps a x)) (sym e) (by (value w.maps a x) (all x h)) }
  where
    by : (o : Option NodeId) → IfSome o (IsNode w) → OnOne (IsTurned w 0) o o
    by None h = refl
    by (Some p) h = same_turned w p h

-- ---- sets of zeros

pub zeros_more : (bits n : ℕ) (s t : Store) (z r : SetId) → IsSet s z (are_zero n bits) → IsSet t r (λ x. is_clear bits n x && has s z x) → IsSet t r (are_zero (n + 1) bits)
unfolding are_zero
zeros_more bits n s t z r was is =
    let e : suc n ≡ n + 1 = omega arith in
    record { known = is.known; members = λ x. is.members x ∙ ap (λ b. is_clear bits n x && b) (was.members x) ∙ ap (λ m. are_zero m bits x) e }

clear_zero : (bits n : ℕ) → is_clear bits n 0 ≡ true
clear_zero bits n = by (bit_at bits n == 1)
  where
    by : (b : Bool) → cond b (bit_at 0 n == 0) true ≡ true
    by true = ap (λ m. m == 0) (bit_at-zero n)
    by false = refl

pub zeros_none : (bits : ℕ) (s : Store) (z : SetId) → IsSet s z (λ x. true) → IsSet s z (are_zero 0 bits)
unfolding are_zero
zeros_none bits s z is = is

pub zeros_all : (bits n : ℕ) (s : Store) (z : SetId) → n ≡ 64 → IsSet s z (are_zero n bits) → IsSet s z (are_zero 64 bits)
zeros_all bits n s z e is = subst (λ m. IsSet s z (are_zero m bits)) e is

pub zero_zero : (n bits : ℕ) → are_zero n bits 0 ≡ true
unfolding are_zero
zero_zero zero bits = refl
zero_zero (suc n) bits = λ i. clear_zero bits n i && zero_zero n bits i

-- ---- the row that has ended
pub skip_fit : (w : World) (ended : SetId) (accepts : List (List Event)) (offers : List (Event × NodeId)) (keep : ℕ) → IsSet w.store ended (are_zero 64 keep) → ((e : Event) → in_some accepts e ≡ true → in_some [] e ≡ true) → offers ≡ []
    → IsFit w (record { ends = ended; accepts = accepts; offers = offers })
skip_fit w ended accepts offers keep is events none = record {
  known = is.known;
  increasing = ap (strict offer_cmp) none;
  there = ap (are_below (nodes_of w)) none;
  offered = within_offers offers accepts (λ e h. absurd (false≢true (events e h)));
  alive = alive_ends w.store (record { ends = ended; accepts = accepts; offers = offers }) 0 (lit< tt) (is.members 0 ∙ zero_zero 64 keep);
}

pub skip_is : (v w z : World) → Leads v w → Extends w z → (n : NodeId) (ended : SetId) (accepts : List (List Event)) (offers : List (Event × NodeId)) (keep : ℕ) → IsSet v.store ended (are_zero 64 keep)
    → ((X : Event → Bool) → refuses accepts X ≡ refuses [] X) → offers ≡ [] → IsMade w n (record { ends = ended; accepts = accepts; offers = offers }) → (r : MapId) → IsMap z.maps r (λ x. Some n) → IsSkip z keep r
skip_is v w z k g n ended accepts offers keep is nothing none made r map = record {
  node = n;
  everywhere = map;
  known = node_grow w z g.grows n made.known;
  never_fails = λ t X. g.grows.same_fails n t X made.known ∙ fails_made w n _ made t X ∙ silent t X;
  ends_now = λ x. g.grows.same_ends n [] x made.known ∙ ends_made w n _ made [] x ∙ k.stored.same ended x is.known ∙ is.members x;
  ends_once = λ e t x. g.grows.same_ends n (e ∷ t) x made.known ∙ ends_made w n _ made (e ∷ t) x ∙ ap (λ (os : List (Event × NodeId)). goes_on (next_in os e) (λ a. ends w a t x)) none;
}
  where
    silent : (t : List Event) (X : Event → Bool) → row_fails w (record { ends = ended; accepts = accepts; offers = offers }) t X ≡ false
    silent [] X = nothing X
    silent (e ∷ t) X = ap (λ (os : List (Event × NodeId)). goes_on (next_in os e) (λ a. fails w a t X)) none

-- ---- nodes and sets apart from the maps, which another world gives
module _ (u v w : World) where
  pub leads_with : Leads v w → Leads (record v { maps = u.maps }) (record w { maps = u.maps })
  unfolding nodes_of row_of fails ends
  leads_with k = record { stored = k.stored; more = k.more; kept = k.kept; same_fails = k.same_fails; same_ends = k.same_ends; maps = refl }

module _ (u w : World) where
  pub fit_without : (row : Row) → IsFit (record w { maps = u.maps }) row → IsFit w row
  unfolding nodes_of
  fit_without row is = record { known = is.known; increasing = is.increasing; there = is.there; offered = is.offered; alive = is.alive }

  pub made_with : (r : NodeId) (row : Row) → IsMade w r row → IsMade (record w { maps = u.maps }) r row
  unfolding nodes_of row_of
  made_with r row is = record { known = is.known; row = is.row }

  pub branches_without : (branches : List Branch) → AreBranches (record w { maps = u.maps }) branches → AreBranches w branches
  unfolding nodes_of
  branches_without branches are = are

pub alt_with : (u v w : World) (branches : List Branch) (r : NodeId) → AreBranches (record v { maps = u.maps }) branches → IsAlt v w branches r → IsAlt (record v { maps = u.maps }) (record w { maps = u.maps }) branches r
unfolding nodes_of fails ends
alt_with u v w branches r known is =
    let x = record v { maps = u.maps } in
    let same = grows_rows x v (keeps_refl v.store) refl in
    record {
      known = is.known;
      alt_fails = λ t X. is.alt_fails t X ∙ ap (λ c. waits branches t X || c) (all_fails x v same branches known t X);
      alt_ends = λ t x. is.alt_ends t x ∙ all_ends (record v { maps = u.maps }) v same branches known t x;
    }

-- the tables of a world stay right as it grows
pub right_lead : (f : Lifting) (w : World) → Leads f.weaver.world w → IsRight f → IsRight (record f { weaver = record f.weaver { world = w } })
right_lead f w leads right = (remembers-lead _ _ f.weaver w f.weaver.unions leads (unions-lead f.weaver.world w f.weaver.unions leads right.0.unions) right.0, shifts-lead f.weaver.world w f.shifts leads right.1)

-- so as its sets alone grow
pub right_sets : (f : Lifting) (w : World) → KeepsSets f.weaver.world.store w.store → w.rows ≡ f.weaver.world.rows → w.maps ≡ f.weaver.world.maps → IsRight f → IsRight (record f { weaver = record f.weaver { world = w } })
right_sets f w keeps rows maps right = right_lead f w (leads_store f.weaver.world w keeps rows maps) right

-- another name for the earlier world
pub extends_at : (u v z : World) → u ≡ v → Extends u z → Extends v z
extends_at u v z e k = subst (λ w. Extends w z) e k

-- so where its sets alone grow
pub extends_sets : (u v z : World) → u ≡ v → KeepsSets u.store z.store → z.rows ≡ u.rows → z.maps ≡ u.maps → Extends v z
extends_sets u v z e keeps rows maps = extends_at u v z e (extends_leads u z (leads_store u z keeps rows maps))

pub leads_at : (u v z : World) → u ≡ v → Leads u z → Leads v z
leads_at u v z e k = subst (λ w. Leads w z) e k

-- ---- worlds of the same nodes and sets
pub node_rows : (v w : World) → w.rows ≡ v.rows → (a : NodeId) → IsNode v a → IsNode w a
node_rows v w rows a h = let more : nodes_of v ≤ nodes_of w = nodes_rows v w rows in omega (arith, more, h)

leads_grows : (v w : World) → Grows v w → w.maps ≡ v.maps → Leads v w
leads_grows v w g maps = record { stored = g.stored; more = g.more; kept = g.kept; same_fails = g.same_fails; same_ends = g.same_ends; maps = maps }

pub leads_same : (v w : World) → w.store ≡ v.store → w.rows ≡ v.rows → w.maps ≡ v.maps → Leads v w
leads_same v w s r maps = leads_grows v w (grows_rows v w (store_keeps v.store w.store s) r) maps

-- one after another, where the maps are put in before and taken out afterwards
pub leads_around : (v x w z : World) → x.store ≡ v.store → x.rows ≡ v.rows → Leads x w → z.store ≡ w.store → z.rows ≡ w.rows → z.maps ≡ v.maps → Leads v z
leads_around v x w z s r k t q maps =
    leads_grows v z (grows_trans v x z (grows_rows v x (store_keeps v.store x.store s) r) (grows_trans x w z (grows_leads x w k) (grows_rows w z (store_keeps w.store z.store t) q))) maps

pub followed_around : (v x w z : World) → Leads v x → Leads x w → Leads w z → (p : NodeId) (map : MapId) (r : NodeId) → IsNode v p → HasNodes v map → IsFollowed x w p map r → IsFollowed v z p map r
followed_around v x w z there k back p map r h has is =
    followed_from v z (leads_trans v w z (leads_trans v x w there k) back) map p r h has
    (sequence_later w z back map p r (sequence_now x w k map p r (node-leads v x there p h) (has_later v x there map has) is))
