use Rattle.std.proofs.Common.{◌≡◌, ◌⊎◌, ◌<◌, ◌^◌, ◌++◌, ℕ, Bool, true, List, [], ◌∷◌, Option, Some, None, refl, sym, ap, ◌∙◌, subst, inl, inr, ⊎_elim}
use Rattle.std.specs.Prelude.{◌↔◌}
use Rattle.std.proofs.lemmas.Bool.{false≢true}
use Rattle.std.proofs.lemmas.Option.{same_Some}
use Rattle.occ_choice.specs.occ_base.declared.event.Event.{Event}
use Rattle.occ_choice.specs.occ_dd.Memo.{recalled, Learns}
use Rattle.occ_choice.specs.occ_dd.declared.memo.Call.{Call}
use Rattle.occ_choice.specs.occ_dd.declared.memo.Memo.{Memo}
use Rattle.occ_choice.specs.occ_mdd.Maps.{IsKnown, value}
use Rattle.occ_choice.specs.occ_mdd.declared.map.MapId.{MapId}
use Rattle.occ_choice.specs.occ_node.Offers.{next_in}
use Rattle.occ_choice.specs.occ_node.Rows.{goes_on}
use Rattle.occ_choice.specs.occ_node.World.{IsNode, row_of, fails, ends, Leads}
use Rattle.occ_choice.specs.occ_node.declared.node.NodeId.{NodeId}
use Rattle.occ_choice.specs.occ_node.declared.world.World.{World}
use Rattle.occ_choice.proofs.from_node.Behaviours.{ends_cons, ends_some, node-leads}
use Rattle.occ_follow.specs.Sequence.{HasNodes, Continues, IsFollowed}
use Rattle.occ_follow.specs.Nexts.{IsNext}
use Rattle.occ_follow.specs.Sequences.{IsSequence, AreSequences, node, map_id}

-- ---- equivalences
pub trans_iff : {A B C : Type 0} → A ↔ B → B ↔ C → A ↔ C
trans_iff f g = (λ a. g.0 (f.0 a), λ c. f.1 (g.1 c))

pub turn_iff : {A B : Type 0} → A ↔ B → B ↔ A
turn_iff f = (f.1, f.0)

pub iff_of_same : (s t : Bool) → s ≡ t → (s ≡ true) ↔ (t ≡ true)
iff_of_same s t e = (λ h. sym e ∙ h, λ h. e ∙ h)

pub sum_iff : {A B C D : Type 0} → A ↔ C → B ↔ D → (A ⊎ B) ↔ (C ⊎ D)
sum_iff {A} {B} {C} {D} f g = (⊎_elim (λ (a : A). inl (f.0 a)) (λ (b : B). inr (g.0 b)), ⊎_elim (λ (c : C). inl (f.1 c)) (λ (d : D). inr (g.1 d)))

-- ---- a trace in two parts
split_nil : (t1 t2 : List Event) → [] ≡ t1 ++ t2 → (t1 ≡ []) × (t2 ≡ [])
split_nil [] t2 e = (refl, sym e)
split_nil (f ∷ t1) t2 e = absurd (let g : [] ≡ f ∷ (t1 ++ t2) = e in cc)

tail_of : List Event → List Event
tail_of [] = []
tail_of (e ∷ t) = t

head_or : Event → List Event → Event
head_or d [] = d
head_or d (e ∷ t) = e

split_cons : (e : Event) (t t1 t2 : List Event) → e ∷ t ≡ t1 ++ t2 → ((t1 ≡ []) × (t2 ≡ e ∷ t)) ⊎ ((u : List Event) × (t1 ≡ e ∷ u) × (t ≡ u ++ t2))
unfolding tail_of head_or
split_cons e t [] t2 h = inl (refl, sym h)
split_cons e t (f ∷ u) t2 h = let head : e ≡ f = ap (head_or e) h in let tail : t ≡ u ++ t2 = ap tail_of h in inr (u, ap (λ g. g ∷ u) (sym head), tail)

pub goes_some : (o : Option NodeId) (f : NodeId → Bool) → goes_on o f ≡ true → (a : NodeId) × (o ≡ Some a) × (f a ≡ true)
goes_some None f h = absurd (false≢true h)
goes_some (Some a) f h = (a, refl, h)

-- ---- what goes on, by the first event
module _ (w : World) (p : NodeId) (map : MapId) (behaves : NodeId → List Event → Bool) where
  -- the map's node begins at once
  abbrev pub Starts : List Event → Type 0
  Starts t = (m : NodeId) × IsNext w p map m × (behaves m t ≡ true)

  -- the node takes an event first
  abbrev pub Steps : List Event → Type 0
  Steps [] = ⊥
  Steps (e ∷ t) = (a : NodeId) × (next_in (row_of w p).offers e ≡ Some a) × Continues w a map behaves t

  starts : (t : List Event) (c : Continues w p map behaves t) → c.t1 ≡ [] → c.t2 ≡ t → Starts t
  starts t c first rest = (c.m, record { x = c.x; below = c.below; ended = ap (λ u. ends w p u c.x) (sym first) ∙ c.ended; leads = c.leads }, ap (behaves c.m) (sym rest) ∙ c.behaved)

  by_first : (t : List Event) → Continues w p map behaves t → Starts t ⊎ Steps t
  by_first [] c = let s = split_nil c.t1 c.t2 c.whole in inl (starts [] c s.0 s.1)
  by_first (e ∷ t) c = ⊎_elim
      (λ (s : (c.t1 ≡ []) × (c.t2 ≡ e ∷ t)). inl (starts (e ∷ t) c s.0 s.1))
      (λ (s : (u : List Event) × (c.t1 ≡ e ∷ u) × (t ≡ u ++ c.t2)).
      let g = goes_some (next_in (row_of w p).offers e) (λ b. ends w b s.0 c.x) (sym (ends_cons w p e s.0 c.x) ∙ ap (λ u. ends w p u c.x) (sym s.1) ∙ c.ended) in
      inr (g.0, g.1, record { t1 = s.0; t2 = c.t2; x = c.x; m = c.m; whole = s.2; below = c.below; ended = g.2; leads = c.leads; behaved = c.behaved }))
      (split_cons e t c.t1 c.t2 c.whole)

  from_start : (t : List Event) → Starts t → Continues w p map behaves t
  from_start t s = record { t1 = []; t2 = t; x = s.1.x; m = s.0; whole = refl; below = s.1.below; ended = s.1.ended; leads = s.1.leads; behaved = s.2 }

  from_step : (t : List Event) → Steps t → Continues w p map behaves t
  from_step [] s = absurd s
  from_step (e ∷ t) s = let c = s.2 in
      record { t1 = e ∷ c.t1; t2 = c.t2; x = c.x; m = c.m; whole = ap (λ u. e ∷ u) c.whole; below = c.below; ended = ends_some w p s.0 e c.t1 c.x s.1 ∙ c.ended; leads = c.leads; behaved = c.behaved }

  pub continues_iff : (t : List Event) → Continues w p map behaves t ↔ (Starts t ⊎ Steps t)
  continues_iff t = (by_first t, ⊎_elim (λ (s : Starts t). from_start t s) (λ (s : Steps t). from_step t s))

-- ---- in later worlds
pub map_node : (w : World) (map : MapId) → HasNodes w map → (x : ℕ) (m : NodeId) → x < 2 ^ 64 → value w.maps map x ≡ Some m → IsNode w m
map_node w map has x m b e = let n = has.nodes x b in subst (IsNode w) (same_Some n.0 m (sym n.1 ∙ e)) n.2

module _ (v w : World) (k : Leads v w) (map : MapId) where
  pub value_later : (x : ℕ) → value w.maps map x ≡ value v.maps map x
  value_later x = ap (λ ms. value ms map x) k.maps

  pub has_later : HasNodes v map → HasNodes w map
  has_later has = record {
    known = subst (λ ms. IsKnown ms map) (sym k.maps) has.known;
    nodes = λ x b. let n = has.nodes x b in (n.0, value_later x ∙ n.1, node-leads v w k n.0 n.2);
  }

  pub continues_later : HasNodes v map → (f g : NodeId → List Event → Bool) → ((m : NodeId) (u : List Event) → IsNode v m → g m u ≡ f m u) → (p : NodeId) (t : List Event) → IsNode v p → Continues v p map f t ↔ Continues w p map g t
  continues_later has f g same p t h = (
    λ c. record {
      t1 = c.t1;
      t2 = c.t2;
      x = c.x;
      m = c.m;
      whole = c.whole;
      below = c.below;
      ended = k.same_ends p c.t1 c.x h ∙ c.ended;
      leads = value_later c.x ∙ c.leads;
      behaved = same c.m c.t2 (map_node v map has c.x c.m c.below c.leads) ∙ c.behaved;
    },
    λ c. let leads : value v.maps map c.x ≡ Some c.m = sym (value_later c.x) ∙ c.leads in
        record {
          t1 = c.t1;
          t2 = c.t2;
          x = c.x;
          m = c.m;
          whole = c.whole;
          below = c.below;
          ended = sym (k.same_ends p c.t1 c.x h) ∙ c.ended;
          leads = leads;
          behaved = sym (same c.m c.t2 (map_node v map has c.x c.m c.below leads)) ∙ c.behaved;
        },
  )

  module _ (p r : NodeId) (h : IsNode v p) (has : HasNodes v map) where
    fails_then : (t : List Event) (X : Event → Bool) → ((fails v p t X ≡ true) ⊎ Continues v p map (λ m u. fails v m u X) t) ↔ ((fails w p t X ≡ true) ⊎ Continues w p map (λ m u. fails w m u X) t)
    fails_then t X = sum_iff (iff_of_same (fails v p t X) (fails w p t X) (sym (k.same_fails p t X h))) (continues_later has (λ m u. fails v m u X) (λ m u. fails w m u X) (λ m u n. k.same_fails m u X n) p t h)

    ends_then : (t : List Event) (x : ℕ) → Continues v p map (λ m u. ends v m u x) t ↔ Continues w p map (λ m u. ends w m u x) t
    ends_then t x = continues_later has (λ m u. ends v m u x) (λ m u. ends w m u x) (λ m u n. k.same_ends m u x n) p t h

    -- what was made of an earlier world is so in the later one, and back
    pub sequence_now : IsFollowed v w p map r → IsSequence w map p r
    sequence_now is = record {
      first = node-leads v w k p h;
      nodes = has_later has;
      followed = record {
        known = is.known;
        follow_fails = λ t X. trans_iff (is.follow_fails t X) (fails_then t X);
        follow_ends = λ t x b. trans_iff (is.follow_ends t x b) (ends_then t x);
      };
    }

    pub followed_from : IsSequence w map p r → IsFollowed v w p map r
    followed_from is = record {
      known = is.followed.known;
      follow_fails = λ t X. trans_iff (is.followed.follow_fails t X) (turn_iff (fails_then t X));
      follow_ends = λ t x b. trans_iff (is.followed.follow_ends t x b) (turn_iff (ends_then t x));
    }

  pub sequence_later : (p r : NodeId) → IsSequence v map p r → IsSequence w map p r
  sequence_later p r is = sequence_now p r is.first is.nodes (record {
    known = node-leads v w k r is.followed.known;
    follow_fails = λ t X. trans_iff (iff_of_same (fails w r t X) (fails v r t X) (k.same_fails r t X is.followed.known)) (is.followed.follow_fails t X);
    follow_ends = λ t x b. trans_iff (iff_of_same (ends w r t x) (ends v r t x) (k.same_ends r t x is.followed.known)) (is.followed.follow_ends t x b);
  })

-- ---- the memo
pub sequences_kept : (v w : World) → Leads v w → (old new : Memo) → new ≡ old → AreSequences v old → AreSequences w new
sequences_kept v w k old new same are = record { each = λ call r e. sequence_later v w k (map_id call.second) (node call.first) (node r) (are.each call r (ap (λ m. recalled m call) (sym same) ∙ e)) }

pub are_sequences_none : (w : World) (memo : Memo) → ((k : Call) → recalled memo k ≡ None) → AreSequences w memo
are_sequences_none w memo none = record { each = λ k r e. absurd (let f : None ≡ Some r = sym (none k) ∙ e in cc) }

pub sequence_learnt : (w : World) (map : MapId) (old new : Memo) (p r : NodeId) → AreSequences w old → IsSequence w map p r → Learns old new (record { first = p.0; second = map.0; third = 0 }) r.0 → AreSequences w new
sequence_learnt w map old new p r are is learns = record {
  each = λ k m e. ⊎_elim
      (λ (h : recalled old k ≡ Some m). are.each k m h)
      (λ (h : (k ≡ record { first = p.0; second = map.0; third = 0 }) × (m ≡ r.0)).
      subst (λ (k : Call). IsSequence w (map_id k.second) (node k.first) (node m)) (sym h.0) (subst (λ (m : ℕ). IsSequence w map p (node m)) (sym h.1) is))
      (learns k m e);
}
