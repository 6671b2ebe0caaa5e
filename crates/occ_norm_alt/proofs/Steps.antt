-- What each step on maps has of its parts, in the world at the end.
use Rattle.std.proofs.Common.{◌≡◌, ◌<◌, ◌≤◌, ◌+◌, ◌*◌, ◌^◌, ◌==◌, ◌&&◌, ◌++◌, ℕ, suc, Bool, true, false, cond, min, not, length, get_or, take, List, [], ◌∷◌, Some, None, refl, sym, ap, ◌∙◌, subst, ⊎_elim, arith}
use Rattle.std.specs.Prelude.{◌⊎◌, if◌then◌else◌, nat_le, nat_lt}
use Rattle.std.specs.Int.{bit_at}
use Rattle.std.specs.Int.Bits.{bit_and}
use Rattle.std.specs.List.{All}
use Rattle.std.proofs.lemmas.Bool.{and_from, and_left, and_right, cases_Bool, cases_lt, eqb-true, le-leb, lt-leb, le-ltb, lt-ltb}
use Rattle.std.proofs.lemmas.List.{length-take-le, take_more}
use Rattle.std.proofs.lemmas.List.Elements.{All-take}
use Rattle.std.proofs.lemmas.Nat.Bits.{bit_at-lt, bit_at_above, bit_at_and}
use Rattle.std.proofs.lemmas.Option.{same_Some}
use Rattle.occ_syntax.specs.occ_base.declared.names.Name.{Name}
use Rattle.occ_norm_frame.specs.occ_bits.Words.{digit, number_at}
use Rattle.occ_norm_frame.proofs.from_bits.Numbers.{number-keeps, number-push}
use Rattle.occ_norm_frame.specs.occ_dd.Store.{IsKnown as IsSetKnown, IsSet, has}
use Rattle.occ_norm_frame.specs.occ_dd.declared.set.SetId.{SetId}
use Rattle.occ_norm_frame.specs.occ_dd.declared.store.Store.{Store}
use Rattle.occ_norm_frame.specs.occ_dd.Assignment.{with_bit}
use Rattle.occ_norm_frame.specs.occ_mdd.Maps.{IsMap, value}
use Rattle.occ_norm_frame.specs.occ_mdd.declared.map.MapId.{MapId}
use Rattle.occ_norm_frame.specs.occ_node.declared.node.NodeId.{NodeId}
use Rattle.occ_norm_frame.specs.occ_node.declared.world.World.{World}
use Rattle.occ_norm_frame.specs.occ_follow.Sequence.{HasNodes}
use Rattle.occ_norm_frame.specs.Lifted.{IsEither, IsMerged, IsPrefixed, OnOne, OnTwo}
use Rattle.occ_norm_frame.specs.Maps.{Extends, IsStop, Lifts}
use Rattle.occ_norm_frame.proofs.Worlds.{extends_trans, has_nodes-extends}
use Rattle.occ_norm_alt.specs.Alternation.{IsOffered, IsUnited, OffersNothing}
use Rattle.occ_norm_alt.specs.Inputs.{AreInputs, AreOutputs, output_event}
use Rattle.occ_norm_alt.proofs.Making.{offering_grow, offering_nothing, prefixed_later}
use Rattle.occ_norm_alt.proofs.Receiving.{inputs_grow, inputs_more, on_one, on_two}

-- ---- inputs of one more digit: the worlds after each cofactor, each side and the whole
pub inputs_from : (u a b c d e : World) (ka : Extends u a) (kb : Extends a b) (kc : Extends b c) (kd : Extends c d) (ke : Extends d e) (chan : Name) (first left n keep base above : ℕ) (next zero_side one_side low high r : MapId)
    → suc n ≡ left → above ≡ base + 2 ^ n → first + left ≤ 64 → HasNodes u next
    → IsMap a.maps zero_side (λ x. value u.maps next (with_bit x (first + n) 0)) → IsMap b.maps one_side (λ x. value a.maps next (with_bit x (first + n) 1))
    → HasNodes a zero_side → HasNodes b one_side → AreInputs c chan first n keep base zero_side low → AreInputs d chan first n keep above one_side high → HasNodes c low → HasNodes d high
    → Lifts e low high r (OnTwo (IsMerged e)) → AreInputs e chan first left keep base next r
inputs_from u a b c d e ka kb kc kd ke chan first left n keep base above next zero_side one_side low high r more is_above fits has is_zero is_one hz ho lows highs hl hh joint =
    let be = extends_trans b d e (extends_trans b c d kc kd) ke in
    let ae = extends_trans a b e kb be in
    let ue = extends_trans u a e ka ae in
    let ce = extends_trans c d e kd ke in
    let n_fits : first + n ≤ 64 = omega arith in
    let hzc = has_nodes-extends a c (extends_trans a b c kb kc) zero_side hz in
    let hod = has_nodes-extends b d (extends_trans b c d kc kd) one_side ho in
    inputs_more e chan first n keep base next zero_side one_side low high r
    (λ y. ae.maps.same zero_side y is_zero.known ∙ is_zero.values y ∙ sym (ue.maps.same next (with_bit y (first + n) 0) has.known))
    (λ y. be.maps.same one_side y is_one.known ∙ is_one.values y ∙ ka.maps.same next (with_bit y (first + n) 1) has.known ∙ sym (ue.maps.same next (with_bit y (first + n) 1) has.known))
    (inputs_grow c e ce zero_side hzc chan first n keep base low n_fits hl lows)
    (subst (λ v. AreInputs e chan first n keep v one_side high) is_above (inputs_grow d e ke one_side hod chan first n keep above high n_fits hh highs))
    (has_nodes-extends c e ce low hl) (has_nodes-extends d e ke high hh) joint left more

-- ---- the bits of a variable among those that matter
module _ (keep row first n : ℕ) (fits : first + n ≤ 64) (is : (k : ℕ) → k < 64 → bit_at row k ≡ (if nat_le first k && nat_lt k (first + n) then 1 else 0)) (small : keep < 2 ^ 64) where
  pub row_inside : (j : ℕ) → j < n → bit_at (bit_and keep row) (first + j) ≡ bit_at keep (first + j)
  row_inside j h =
      let one : bit_at row (first + j) ≡ 1 = is (first + j) (omega arith) ∙ ap (λ (b : Bool). cond b 1 0) (and_from (nat_le first (first + j)) (nat_lt (first + j) (first + n)) (le-leb first (first + j) (omega arith)) (lt-ltb (first + j) (first + n) (omega arith))) in
      bit_at_and keep row (first + j) ∙ ap (min (bit_at keep (first + j))) one ∙ only_one (bit_at keep (first + j)) (bit_at-lt keep (first + j))
    where
      only_one : (a : ℕ) → a < 2 → min a 1 ≡ a
      only_one a h = omega arith

  pub row_outside : (k : ℕ) → (k < first) ⊎ (first + n ≤ k) → bit_at (bit_and keep row) k ≡ 0
  row_outside k out = bit_at_and keep row k ∙ ⊎_elim
      (λ (l : k < 64). ap (min (bit_at keep k)) (none l) ∙ nothing (bit_at keep k))
      (λ (l : 64 ≤ k). ap (λ m. min m (bit_at row k)) (bit_at_above keep 64 k small l) ∙ nothing_first (bit_at row k))
      (cases_lt k 64)
    where
      nothing : (a : ℕ) → min a 0 ≡ 0
      nothing a = omega arith

      nothing_first : (a : ℕ) → min 0 a ≡ 0
      nothing_first a = omega arith

      none : k < 64 → bit_at row k ≡ 0
      none l = is k l ∙ ap (λ (b : Bool). cond b 1 0) (⊎_elim
          (λ (m : k < first). and_left (nat_le first k) (nat_lt k (first + n)) (lt-leb first k m))
          (λ (m : first + n ≤ k). and_right (nat_le first k) (nat_lt k (first + n)) (le-ltb k (first + n) m))
          out)

-- ---- outputs
pub empty_set : (s : Store) (a b : SetId) → IsSet s b (λ x. false) → (a.0 == b.0) ≡ true → (x : ℕ) → has s a x ≡ false
empty_set s a b is e x = let same : a.0 ≡ b.0 = eqb-true a.0 b.0 e in (λ i. has s (record { 0 = same i }) x) ∙ is.members x

pub none_taken : (s : Store) (digits : List SetId) (base left : ℕ) → left ≡ 0 → (x : ℕ) → base ≡ base + number_at s (take left digits) x
none_taken s digits base left e x = let nothing : base ≡ base + 0 = omega arith in nothing ∙ ap (λ m. base + number_at s (take m digits) x) (sym e)

pub within_later : (a b : World) → Extends a b → (with_it : SetId) (f : ℕ → Bool) → IsSet a.store with_it f → (x : ℕ) → has b.store with_it x ≡ f x
within_later a b k with_it f is x = k.grows.stored.same with_it x is.known ∙ is.members x

pub outside_later : (u a b c : World) → Extends u a → Extends b c → (set digit outside : SetId) → IsSetKnown u.store set → IsSetKnown u.store digit → IsSet b.store outside (λ x. has a.store set x && not (has a.store digit x))
    → (x : ℕ) → has c.store outside x ≡ (has u.store set x && not (has u.store digit x))
outside_later u a b c k l set digit outside ks kd is x = within_later b c l outside _ is x ∙ (λ i. k.grows.stored.same set x ks i && not (k.grows.stored.same digit x kd i))

pub no_outputs : (w : World) (chan : Name) (test : ℕ → Bool) (v : ℕ → ℕ) (next r : MapId) → ((x : ℕ) → test x ≡ false) → AreOutputs w chan test v next r
no_outputs w chan test v next r none = record { outputs = λ x m a h on there here. absurd (let f : false ≡ true = sym (none x) ∙ on in cc) }

pub last_outputs : (w : World) (chan : Name) (test : ℕ → Bool) (base : ℕ) (v : ℕ → ℕ) (next r : MapId) → ((x : ℕ) → base ≡ v x) → Lifts w next next r (λ a b. OnOne (IsPrefixed w (output_event chan base)) a) → AreOutputs w chan test v next r
last_outputs w chan test base v next r same prefixed = record {
  outputs = λ x m a h on there here. subst (λ n. IsPrefixed w (output_event chan n) m a) (same x) (on_one _ _ _ m a (prefixed.related x h) there here);
}

-- the output of the same value in other words
pub outputs_same : (w : World) (chan : Name) (test : ℕ → Bool) (u v : ℕ → ℕ) (next r : MapId) → ((x : ℕ) → u x ≡ v x) → AreOutputs w chan test u next r → AreOutputs w chan test v next r
outputs_same w chan test u v next r same is = record { outputs = λ x m a h t e f. subst (λ n. IsPrefixed w (output_event chan n) m a) (same x) (is.outputs x m a h t e f) }

-- One value, on a set alone. The worlds: at first, with the map that stops, with what follows on the set, and at the end.
pub outputs_chosen : (t u v w : World) → Extends t u → Extends u v → Extends v w → (chan : Name) (base : ℕ) (set : SetId) (next stopped there r : MapId) → IsSetKnown t.store set → HasNodes t next
    → IsMap v.maps there (λ x. cond (has u.store set x) (value u.maps next x) (value u.maps stopped x)) → Lifts w there there r (λ a b. OnOne (IsPrefixed w (output_event chan base)) a)
    → AreOutputs w chan (has t.store set) (λ x. base) next r
outputs_chosen t u v w tu uv vw chan base set next stopped there r known nodes made is = record {
  outputs = λ x m a h on e f. (last_outputs w chan (has t.store set) base (λ x. base) there r (λ x. refl) is).outputs x m a h on (same x on ∙ e) f;
}
  where
    same : (x : ℕ) → has t.store set x ≡ true → value w.maps there x ≡ value w.maps next x
    same x on =
        let next_u = has_nodes-extends t u tu next nodes in
        let next_v = has_nodes-extends u v uv next next_u in
        vw.maps.same there x made.known ∙ made.values x ∙ ap (λ b. cond b (value u.maps next x) (value u.maps stopped x)) (tu.grows.stored.same set x known ∙ on)
        ∙ sym (vw.maps.same next x next_v.known ∙ uv.maps.same next x next_u.known)

module _ (u b c d e : World) (kb : Extends u b) (kc : Extends b c) (kd : Extends c d) (ke : Extends d e) (chan : Name) (digits : List SetId) (left place base above : ℕ) (set one_digit dflt with_it outside : SetId) (next high low r : MapId)
    (known : All (IsSetKnown u.store) digits) (more : place + 1 ≡ left) (few : left ≤ length digits) (here : one_digit ≡ get_or digits place dflt) (is_above : above ≡ base + 2 ^ place)
    (known_digit : IsSetKnown u.store one_digit)
    (with_is : (x : ℕ) → has b.store with_it x ≡ (has u.store set x && has u.store one_digit x)) (outside_is : (x : ℕ) → has c.store outside x ≡ (has u.store set x && not (has u.store one_digit x)))
    (has_next : HasNodes u next) (hh : HasNodes c high) (hl : HasNodes d low)
    (highs : AreOutputs c chan (has b.store with_it) (λ x. above + number_at b.store (take place digits) x) next high)
    (lows : AreOutputs d chan (has c.store outside) (λ x. base + number_at c.store (take place digits) x) next low)
    (made : IsMap e.maps r (λ x. if has d.store one_digit x then value d.maps high x else value d.maps low x)) where
  uc : Extends u c
  uc = extends_trans u b c kb kc

  ud : Extends u d
  ud = extends_trans u c d uc kd

  number_was : (t : World) → Extends u t → (x : ℕ) → number_at t.store (take place digits) x ≡ number_at u.store (take place digits) x
  number_was t k x = number-keeps u.store t.store k.grows.stored (take place digits) x (All-take (IsSetKnown u.store) place digits known)

  number_is : (x : ℕ) → number_at u.store (take left digits) x ≡ number_at u.store (take place digits) x + 2 ^ place * digit u.store one_digit x
  number_is x =
      let front : length (take place digits) ≡ place = length-take-le place digits (omega arith) in
      ap (λ m. number_at u.store (take m digits) x) (sym more) ∙ ap (λ ds. number_at u.store ds x) (take_more digits place dflt (omega arith) ∙ ap (λ s. take place digits ++ s ∷ []) (sym here))
      ∙ number-push u.store (take place digits) one_digit x ∙ ap (λ m. number_at u.store (take place digits) x + 2 ^ m * digit u.store one_digit x) front

  high_value : (x : ℕ) → has u.store one_digit x ≡ true → above + number_at b.store (take place digits) x ≡ base + number_at u.store (take left digits) x
  high_value x on =
      let one : digit u.store one_digit x ≡ 1 = ap (λ (t : Bool). cond t 1 0) on in
      let sum : number_at u.store (take left digits) x ≡ number_at u.store (take place digits) x + 2 ^ place * 1 = number_is x ∙ ap (λ m. number_at u.store (take place digits) x + 2 ^ place * m) one in
      let was : number_at b.store (take place digits) x ≡ number_at u.store (take place digits) x = number_was b kb x in
      omega (arith, sum, was, is_above)

  low_value : (x : ℕ) → has u.store one_digit x ≡ false → base + number_at c.store (take place digits) x ≡ base + number_at u.store (take left digits) x
  low_value x off =
      let none : digit u.store one_digit x ≡ 0 = ap (λ (t : Bool). cond t 1 0) off in
      let sum : number_at u.store (take left digits) x ≡ number_at u.store (take place digits) x + 2 ^ place * 0 = number_is x ∙ ap (λ m. number_at u.store (take place digits) x + 2 ^ place * m) none in
      let was : number_at c.store (take place digits) x ≡ number_at u.store (take place digits) x = number_was c uc x in
      omega (arith, sum, was)

  next_was : (t : World) → Extends u t → Extends t e → (x : ℕ) (m : NodeId) → value e.maps next x ≡ Some m → value t.maps next x ≡ Some m
  next_was t k l x m h = sym (l.maps.same next x (has_nodes-extends u t k next has_next).known) ∙ h

  side_is : (x : ℕ) (on : Bool) → has u.store one_digit x ≡ on → value e.maps r x ≡ cond on (value d.maps high x) (value d.maps low x)
  side_is x on h = made.values x ∙ ap (λ (t : Bool). cond t (value d.maps high x) (value d.maps low x)) (ud.grows.stored.same one_digit x known_digit ∙ h)

  output_at : (x : ℕ) (m a : NodeId) → x < 2 ^ 64 → has u.store set x ≡ true → value e.maps next x ≡ Some m → value e.maps r x ≡ Some a → IsPrefixed e (output_event chan (base + number_at u.store (take left digits) x)) m a
  output_at x m a h on there at = ⊎_elim
      (λ (t : has u.store one_digit x ≡ true).
      let led : value c.maps high x ≡ Some a = sym (kd.maps.same high x hh.known) ∙ sym (side_is x true t) ∙ at in
      subst (λ v. IsPrefixed e (output_event chan v) m a) (high_value x t)
      (prefixed_later c e (extends_trans c d e kd ke).grows _ m a (highs.outputs x m a h (with_is x ∙ and_from (has u.store set x) (has u.store one_digit x) on t) (next_was c uc (extends_trans c d e kd ke) x m there) led)))
      (λ (t : has u.store one_digit x ≡ false).
      let led : value d.maps low x ≡ Some a = sym (side_is x false t) ∙ at in
      subst (λ v. IsPrefixed e (output_event chan v) m a) (low_value x t)
      (prefixed_later d e ke.grows _ m a (lows.outputs x m a h (outside_is x ∙ and_from (has u.store set x) (not (has u.store one_digit x)) on (ap not t)) (next_was d ud ke x m there) led)))
      (cases_Bool (has u.store one_digit x))

  pub outputs_more : AreOutputs e chan (has u.store set) (λ x. base + number_at u.store (take left digits) x) next r
  outputs_more = record { outputs = output_at }

-- ---- one more guard
module _ (u v w z : World) (kv : Extends u v) (kw : Extends v w) (kz : Extends w z) (set : SetId) (known : IsSetKnown u.store set) where
  test_is : (x : ℕ) → has v.store set x ≡ has u.store set x
  test_is x = kv.grows.stored.same set x known

  pub offered_from : (waiting offered stopped there r : MapId) → HasNodes u offered → IsStop v stopped → IsMap w.maps there (λ x. if has v.store set x then value v.maps offered x else value v.maps stopped x)
      → Lifts z waiting there r (OnTwo (IsMerged z)) → IsOffered z (has u.store set) waiting offered r
  offered_from waiting offered stopped there r ho stop is merged =
      let vz = extends_trans v w z kw kz in
      let hv = has_nodes-extends u v kv offered ho in
      record {
        on = λ x a b c h ea eb ec t.
            let led : value z.maps there x ≡ Some b = kz.maps.same there x is.known ∙ is.values x ∙ ap (λ (q : Bool). cond q (value v.maps offered x) (value v.maps stopped x)) (test_is x ∙ t) ∙ sym (vz.maps.same offered x hv.known) ∙ eb in
            on_two _ _ _ _ a b c (merged.related x h) ea led ec;
        off = λ x a c h ea ec t.
            let led : value z.maps there x ≡ Some stop.node = kz.maps.same there x is.known ∙ is.values x ∙ ap (λ (q : Bool). cond q (value v.maps offered x) (value v.maps stopped x)) (test_is x ∙ t) ∙ stop.everywhere.values x in
            (stop.node, offering_grow v z vz.grows stop.node _ _ _ (offering_nothing v stop.node stop.known stop.fails_now stop.fails_once stop.never_ends), on_two _ _ _ _ a stop.node c (merged.related x h) ea led ec);
      }

  pub united_from : (readies next nothing there r : MapId) → HasNodes u next → IsMap v.maps nothing (λ x. None) → IsMap w.maps there (λ x. if has v.store set x then value v.maps next x else value v.maps nothing x)
      → Lifts z readies there r (IsEither z) → IsUnited z (has u.store set) readies next r
  united_from readies next nothing there r hn none is either =
      let vz = extends_trans v w z kw kz in
      let hv = has_nodes-extends u v kv next hn in
      record {
        united = λ x h. subst (λ o. IsEither z (value z.maps readies x) o (value z.maps r x))
            (kz.maps.same there x is.known ∙ is.values x ∙ (λ i. cond (test_is x i) (sym (vz.maps.same next x hv.known) i) (none.values x i)))
            (either.related x h);
      }

-- a map that is stopped everywhere offers nothing
pub stop_nothing : (w : World) (r : MapId) → IsStop w r → (x : ℕ) (a : NodeId) → x < 2 ^ 64 → value w.maps r x ≡ Some a → OffersNothing w a
stop_nothing w r stop x a h e =
    let same : stop.node ≡ a = same_Some stop.node a (sym (stop.everywhere.values x) ∙ e) in
    subst (OffersNothing w) same (offering_nothing w stop.node stop.known stop.fails_now stop.fails_once stop.never_ends)

pub stop_nothing_later : (v w : World) → Extends v w → (r : MapId) → IsStop v r → (x : ℕ) (a : NodeId) → x < 2 ^ 64 → value w.maps r x ≡ Some a → OffersNothing w a
stop_nothing_later v w k r stop x a h e = offering_grow v w k.grows a _ _ _ (stop_nothing v r stop x a h (sym (k.maps.same r x stop.everywhere.known) ∙ e))
