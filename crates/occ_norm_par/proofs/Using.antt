-- Which parts use which channels.
use Rattle.std.proofs.Common.{◌≡◌, ℕ, zero, suc, ◌+◌, ◌<◌, ◌≤◌, ◌==◌, ◌&&◌, ◌||◌, Bool, true, false, cond, not, nat_le, nat_lt, List, [], ◌∷◌, take, drop, get_or, ⊎_elim, refl, sym, ap, ◌∙◌, arith}
use Rattle.std.specs.List.{All}
use Rattle.std.proofs.lemmas.Bool.{and_parts, cases_Bool, cases_lt, eqb-true, leb-true, le-leb, ltb-true, lt-ltb, or_parts, false≢true, true≢false}
use Rattle.occ_syntax.specs.occ_base.declared.event.Dir.{Dir}
use Rattle.occ_syntax.specs.occ_base.declared.event.Dir.TheVariants.{Input, Output}
use Rattle.occ_syntax.specs.occ_base.declared.event.Event.{Event}
use Rattle.occ_syntax.specs.occ_base.declared.names.Name.{Name}
use Rattle.occ_syntax.specs.Names.{end_in_some, uses_end}
use Rattle.occ_syntax.specs.Tree.{Tree, Trees, no_tree, and_tree}
use Rattle.occ_syntax.specs.View.{tree, trees}
use Rattle.occ_syntax.specs.declared.proc.Proc.{Proc}
use Rattle.occ_norm_frame.specs.occ_weave.Weave.{is_open}
use Rattle.occ_norm_par.specs.Sides.{IsUser, closed_in, crossing, uses, uses_at}
use Rattle.occ_norm_par.specs.Joined.{IsSpread}
use Rattle.occ_norm_par.specs.declared.users.Users.{Users}

-- ---- the lists of channels
pub one_open : (c : Name) (xs : List Name) (e : Event) (b : Bool) → is_open (cond b (c ∷ xs) xs) e ≡ cond b (not (e.chan.0 == c.0) && is_open xs e) (is_open xs e)
one_open c xs e true = refl
one_open c xs e false = refl

and_false : (b : Bool) → (b && false) ≡ false
and_false true = refl
and_false false = refl

-- open on all is open on each
by_three : (o R A C B g a c b : Bool) → R ≡ (A && (C && B)) → g ≡ (a || (c || b)) → cond g (o && R) R ≡ (cond a (o && A) A && (cond c (o && C) C && cond b (o && B) B))
by_three true R A C B true true true true e f = e
by_three true R A C B true true true false e f = e
by_three true R A C B true true false true e f = e
by_three true R A C B true true false false e f = e
by_three true R A C B true false true true e f = e
by_three true R A C B true false true false e f = e
by_three true R A C B true false false true e f = e
by_three true R A C B true false false false e f = e
by_three true R A C B false true true true e f = e
by_three true R A C B false true true false e f = e
by_three true R A C B false true false true e f = e
by_three true R A C B false true false false e f = e
by_three true R A C B false false true true e f = e
by_three true R A C B false false true false e f = e
by_three true R A C B false false false true e f = e
by_three true R A C B false false false false e f = e
by_three false R A C B true true c b e f = refl
by_three false R A C B true false true b e f = sym (and_false A)
by_three false R A C B true false false true e f = sym (ap (λ x. A && x) (and_false C) ∙ and_false A)
by_three false R A C B true false false false e f = absurd (true≢false f)
by_three false R A C B false true c b e f = absurd (false≢true f)
by_three false R A C B false false true b e f = absurd (false≢true f)
by_three false R A C B false false false true e f = absurd (false≢true f)
by_three false R A C B false false false false e f = e

three : (l h x y : Bool) → (x ≡ true → h ≡ true) → (y ≡ true → l ≡ true) → (l && h) ≡ ((l && x) || (((l && h) && (not y && not x)) || (y && h)))
three true true true y f g = refl
three true true false true f g = refl
three true true false false f g = refl
three true false true y f g = absurd (false≢true (f refl))
three true false false true f g = refl
three true false false false f g = refl
three false h x true f g = absurd (false≢true (g refl))
three false h x false f g = refl

-- a channel that parts of a stretch alone use is of its first half alone, of both, or of its second half alone
pub open_halves : (low mid high : ℕ) → low ≤ mid → mid ≤ high → (us : List Users) (e : Event)
    → is_open (closed_in low high us) e ≡ (is_open (closed_in low mid us) e && (is_open (crossing low mid high us) e && is_open (closed_in mid high us) e))
open_halves low mid high lm mh [] e = refl
open_halves low mid high lm mh (u ∷ us) e =
    let l : Bool = nat_le low u.first in
    let h : Bool = nat_lt u.last high in
    let x : Bool = nat_lt u.last mid in
    let y : Bool = nat_le mid u.first in
    let made = by_three (not (e.chan.0 == u.chan.0)) (is_open (closed_in low high us) e) (is_open (closed_in low mid us) e) (is_open (crossing low mid high us) e) (is_open (closed_in mid high us) e)
    (l && h) (l && x) ((l && h) && (not y && not x)) (y && h)
    (open_halves low mid high lm mh us e)
    (three l h x y
    (λ t. let k : u.last < mid = ltb-true u.last mid t in lt-ltb u.last high (omega (arith, mh)))
    (λ t. let k : mid ≤ u.first = leb-true mid u.first t in le-leb low u.first (omega (arith, lm)))) in
    one_open u.chan (closed_in low high us) e (l && h) ∙ made
    ∙ (λ t. sym (one_open u.chan (closed_in low mid us) e (l && x)) t && (sym (one_open u.chan (crossing low mid high us) e ((l && h) && (not y && not x))) t && sym (one_open u.chan (closed_in mid high us) e (y && h)) t))

pub tail_spread : (place : ℕ) (ps : Trees) (u : Users) (us : List Users) → All (IsSpread place ps) (u ∷ us) → All (IsSpread place ps) us
tail_spread place ps u us h k d l = h (suc k) d (omega (arith, l))

pub head_spread : (place : ℕ) (ps : Trees) (u : Users) (us : List Users) → All (IsSpread place ps) (u ∷ us) → IsSpread place ps u
head_spread place ps u us h = h 0 u (omega arith)

pub spread_each : (place other : ℕ) (ps qs : Trees) (us : List Users) → ((u : Users) → IsSpread place ps u → IsSpread other qs u) → All (IsSpread place ps) us → All (IsSpread other qs) us
spread_each place other ps qs us f h k d l = f (get_or us k d) (h k d l)

-- an event on a listed channel is on one of the first, or on the others
pub on_one : (c : Name) (xs : List Name) (e : Event) → is_open (c ∷ xs) e ≡ false → (is_open xs e ≡ false → ⊥) → e.chan.0 ≡ c.0
on_one c xs e h other = ⊎_elim
    (λ (t : (e.chan.0 == c.0) ≡ true). eqb-true e.chan.0 c.0 t)
    (λ (t : (e.chan.0 == c.0) ≡ false). absurd (other (sym (ap (λ b. not b && is_open xs e) t) ∙ h)))
    (cases_Bool (e.chan.0 == c.0))

-- by the head of a list of channels, or by its tail
pub taken_by : (c : Name) (xs : List Name) (e : Event) (b : Bool) (P : Type 0) → is_open (cond b (c ∷ xs) xs) e ≡ false → (b ≡ true → e.chan.0 ≡ c.0 → P) → (is_open xs e ≡ false → P) → P
taken_by c xs e true P h f g = ⊎_elim
    (λ (o : is_open xs e ≡ true). f refl (on_one c xs e h (λ n. true≢false (sym o ∙ n))))
    (λ (o : is_open xs e ≡ false). g o)
    (cases_Bool (is_open xs e))
taken_by c xs e false P h f g = g h

-- no part from a place on uses what parts in front of it alone use
pub first_off : (qs : Trees) (us : List Users) (low mid : ℕ) (e : Event) → All (IsSpread mid qs) us → is_open (closed_in low mid us) e ≡ false → (j : ℕ) → uses_at qs j e.chan.0 ≡ false
first_off qs [] low mid e all h j = absurd (true≢false h)
first_off qs (u ∷ us) low mid e all h j = taken_by u.chan (closed_in low mid us) e (nat_le low u.first && nat_lt u.last mid) (uses_at qs j e.chan.0 ≡ false) h
    (λ t on_it.
    let last : u.last < mid = ltb-true u.last mid (and_parts (nat_le low u.first) (nat_lt u.last mid) t).1 in
    ⊎_elim
    (λ (k : uses_at qs j u.chan.0 ≡ true). absurd (let far : mid + j ≤ u.last = (head_spread mid qs u us all j k).1 in omega (arith, far, last)))
    (λ (k : uses_at qs j u.chan.0 ≡ false). ap (uses_at qs j) on_it ∙ k)
    (cases_Bool (uses_at qs j u.chan.0)))
    (λ o. first_off qs us low mid e (tail_spread mid qs u us all) o j)

-- no part in front of a place uses what parts from there on alone use
pub others_off : (ps : Trees) (us : List Users) (low mid high : ℕ) (e : Event) → All (IsSpread low ps) us → ((j c : ℕ) → mid ≤ low + j → uses_at ps j c ≡ false) → is_open (closed_in mid high us) e ≡ false
    → (j : ℕ) → uses_at ps j e.chan.0 ≡ false
others_off ps [] low mid high e all none h j = absurd (true≢false h)
others_off ps (u ∷ us) low mid high e all none h j = taken_by u.chan (closed_in mid high us) e (nat_le mid u.first && nat_lt u.last high) (uses_at ps j e.chan.0 ≡ false) h
    (λ t on_it.
    let first : mid ≤ u.first = leb-true mid u.first (and_parts (nat_le mid u.first) (nat_lt u.last high) t).0 in
    ⊎_elim
    (λ (k : uses_at ps j u.chan.0 ≡ true). absurd (true≢false (sym k ∙ none j u.chan.0 (let near : u.first ≤ low + j = (head_spread low ps u us all j k).0 in omega (arith, near, first)))))
    (λ (k : uses_at ps j u.chan.0 ≡ false). ap (uses_at ps j) on_it ∙ k)
    (cases_Bool (uses_at ps j u.chan.0)))
    (λ o. others_off ps us low mid high e (tail_spread low ps u us all) none o j)

-- ---- from places to parts
pub no_end : (p : Tree) (c : ℕ) → uses p c ≡ false → (d : Dir) → uses_end p c d ≡ false
no_end p c h Input = (or_parts (uses_end p c Input) (uses_end p c Output) h).0
no_end p c h Output = (or_parts (uses_end p c Input) (uses_end p c Output) h).1

pub some_end : (ps : Trees) (c : ℕ) → ((j : ℕ) → uses_at ps j c ≡ false) → (d : Dir) → end_in_some ps c d ≡ false
some_end no_tree c h d = refl
some_end (and_tree p ps) c h d = λ i. no_end p c (h 0) d i || some_end ps c (λ j. h (suc j)) d i

-- ---- halves
pub uses_taken : (k : ℕ) (ps : List Proc) (j c : ℕ) → uses_at (trees (take k ps)) j c ≡ true → uses_at (trees ps) j c ≡ true
uses_taken zero ps j c h = absurd (false≢true h)
uses_taken (suc k) [] j c h = h
uses_taken (suc k) (p ∷ ps) zero c h = h
uses_taken (suc k) (p ∷ ps) (suc j) c h = uses_taken k ps j c h

pub uses_dropped : (k : ℕ) (ps : List Proc) (j c : ℕ) → uses_at (trees (drop k ps)) j c ≡ uses_at (trees ps) (k + j) c
uses_dropped zero ps j c = ap (λ n. uses_at (trees ps) n c) (let e : j ≡ 0 + j = omega arith in e)
uses_dropped (suc k) [] j c = refl
uses_dropped (suc k) (p ∷ ps) j c = uses_dropped k ps j c ∙ ap (λ n. uses_at (and_tree (tree p) (trees ps)) n c) (let e : suc (k + j) ≡ suc k + j = omega arith in e)

pub spread_taken : (place k : ℕ) (ps : List Proc) (u : Users) → IsSpread place (trees ps) u → IsSpread place (trees (take k ps)) u
spread_taken place k ps u h j t = h j (uses_taken k ps j u.chan.0 t)

pub spread_dropped : (place k : ℕ) (ps : List Proc) (u : Users) → IsSpread place (trees ps) u → IsSpread (place + k) (trees (drop k ps)) u
spread_dropped place k ps u h j t =
    let s = h (k + j) (sym (uses_dropped k ps j u.chan.0) ∙ t) in
    let near : u.first ≤ place + (k + j) = s.0 in
    let far : place + (k + j) ≤ u.last = s.1 in
    (omega (arith, near), omega (arith, far))

-- the users of all parts
pub users_spread : (ps : Trees) (us : List Users) → All (IsUser ps) us → All (IsSpread 0 ps) us
users_spread ps us h k d l j t =
    let u = get_or us k d in
    let user = h k d l in (
      ⊎_elim (λ (m : j < u.first). absurd (true≢false (sym t ∙ user.none_before j m))) (λ (m : u.first ≤ j). omega (arith, m)) (cases_lt j u.first),
      ⊎_elim (λ (m : u.last < j). absurd (true≢false (sym t ∙ user.none_behind j m))) (λ (m : j ≤ u.last). omega (arith, m)) (cases_lt u.last j),
    )
