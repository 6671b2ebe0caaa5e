-- The first and the last part that uses a channel, part by part.
use Rattle.std.proofs.Common.{◌≡◌, ℕ, zero, suc, ◌+◌, ◌<◌, ◌≤◌, ◌==◌, ◌&&◌, ◌||◌, ◌++◌, ◌⊎◌, inl, inr, Bool, true, false, cond, List, [], ◌∷◌, Option, Some, None, length, get_or, take, drop, not, nat_le, nat_lt, append-nil, append_assoc, add-one, ⊎_elim, refl, sym, ap, ◌∙◌, subst, arith}
use Rattle.std.specs.List.{All}
use Rattle.std.proofs.Math.Seq.{drop-cons}
use Rattle.std.proofs.lemmas.Bool.{cases_Bool, cases_eq, cases_lt, eqb-true, eq-eqb, or_left, or_parts, or_right, false≢true, true≢false}
use Rattle.std.proofs.lemmas.List.Folds.{list_any-append}
use Rattle.occ_syntax.specs.occ_base.declared.event.Dir.{Dir}
use Rattle.occ_syntax.specs.occ_base.declared.event.Dir.TheVariants.{Input, Output}
use Rattle.occ_syntax.specs.occ_base.declared.names.Name.{Name}
use Rattle.occ_norm_frame.proofs.from_meaning.Facts.{same_turned}
use Rattle.occ_norm_frame.specs.occ_names.Mentions.{end_numbers, same_end}
use Rattle.occ_norm_frame.specs.occ_names.Once.{has}
use Rattle.occ_syntax.specs.Names.{is_in, uses_end}
use Rattle.occ_syntax.specs.Scopes.{same_dir}
use Rattle.occ_norm_frame.proofs.from_weave.Stepping.{all_taken, take_push}
use Rattle.occ_syntax.specs.Tree.{Trees}
use Rattle.occ_syntax.specs.View.{numbers, tree, trees}
use Rattle.occ_syntax.specs.declared.proc.Proc.{Proc}
use Rattle.occ_norm_par.specs.Sides.{AreUsers, IsUser, chans_of, closed_in, crossing, uses, uses_at}
use Rattle.occ_norm_par.specs.Spans.{IsSpan, has_end_on, listed, noted, same_name, user_of}
use Rattle.occ_norm_par.specs.declared.users.Users.{Users}

pub drop_all : {A : Type 0} (i : ℕ) (xs : List A) → length xs ≤ i → drop i xs ≡ []
drop_all zero [] l = refl
drop_all zero (x ∷ xs) l = absurd (omega (arith, l))
drop_all (suc i) [] l = refl
drop_all (suc i) (x ∷ xs) l = drop_all i xs (omega (arith, l))

-- ---- one more use

noted_twice : (a b : Bool) (o : Option (ℕ × ℕ)) (n : ℕ) → noted a (noted b o n) n ≡ noted (b || (a || false)) o n
noted_twice true true o n = refl
noted_twice true false o n = refl
noted_twice false true o n = refl
noted_twice false false o n = refl

pub noted_more : (ends : List (Name × Dir)) (i : ℕ) (d : Name × Dir) (c : Name) (before now next : Option (ℕ × ℕ)) (place : ℕ) → i < length ends → now ≡ noted (has_end_on (take i ends) c) before place
    → next ≡ noted (same_name (get_or ends i d).0 c) now place → next ≡ noted (has_end_on (take (i + 1) ends) c) before place
noted_more ends i d c before now next place h e k =
    k ∙ ap (λ o. noted (same_name (get_or ends i d).0 c) o place) e ∙ noted_twice (same_name (get_or ends i d).0 c) (has_end_on (take i ends) c) before place
    ∙ ap (λ b. noted b before place) (sym (ap (λ xs. has_end_on xs c) (take_push i ends d h) ∙ list_any-append (λ (e : Name × Dir). e.0.0 == c.0) (take i ends) (get_or ends i d ∷ [])))

-- ---- the ends of a part
one_end : (b h k : Bool) (d : Dir) (r : Bool) → r ≡ (h || k) → (b || r) ≡ (((b && same_dir Input d) || h) || ((b && same_dir Output d) || k))
one_end true h k Input r e = refl
one_end true true k Output r e = refl
one_end true false k Output r e = refl
one_end false h k d r e = e

pub used_ends : (ends : List (Name × Dir)) (c : Name) → has_end_on ends c ≡ (has same_end (end_numbers ends) (c.0, Input) || has same_end (end_numbers ends) (c.0, Output))
used_ends [] c = refl
used_ends (e ∷ ends) c = ap (λ b. b || has_end_on ends c) (same_turned e.0.0 c.0) ∙ one_end (c.0 == e.0.0) _ _ e.1 (has_end_on ends c) (used_ends ends c)

pub part_ends : (p : Proc) (ends : List (Name × Dir)) (c : Name) → ((n : ℕ) (d : Dir) → has same_end (end_numbers ends) (n, d) ≡ uses_end (tree p) n d) → has_end_on ends c ≡ uses (tree p) c.0
part_ends p ends c h = used_ends ends c ∙ (λ i. h c.0 Input i || h c.0 Output i)

-- ---- one more part
pub uses_there : (ps : List Proc) (i : ℕ) (c : ℕ) (d : Proc) → i < length ps → uses_at (trees ps) i c ≡ uses (tree (get_or ps i d)) c
uses_there [] i c d h = absurd (omega (arith, h))
uses_there (p ∷ ps) zero c d h = refl
uses_there (p ∷ ps) (suc i) c d h = uses_there ps i c d (omega (arith, h))

pub uses_beyond : (ps : List Proc) (i : ℕ) (c : ℕ) → length ps ≤ i → uses_at (trees ps) i c ≡ false
uses_beyond [] i c h = refl
uses_beyond (p ∷ ps) zero c h = absurd (omega (arith, h))
uses_beyond (p ∷ ps) (suc i) c h = uses_beyond ps i c (omega (arith, h))

pub span_none : (ps : Trees) (c : ℕ) (o : Option (ℕ × ℕ)) → o ≡ None → IsSpan ps 0 c o
span_none ps c o e = subst (IsSpan ps 0 c) (sym e) (λ i h. absurd (omega (arith, h)))

span_step : (ps : Trees) (n c : ℕ) (o : Option (ℕ × ℕ)) (u : Bool) → IsSpan ps n c o → uses_at ps n c ≡ u → IsSpan ps (n + 1) c (noted u o n)
span_step ps n c None false h e = λ i l. ⊎_elim (λ (t : i ≡ n). ap (λ j. uses_at ps j c) t ∙ e) (λ (t : i ≡ n → ⊥). h i (omega (arith, l, t))) (cases_eq i n)
span_step ps n c None true h e = record { first_uses = e; last_uses = e; none_before = h; none_behind = λ i l u. absurd (omega (arith, l, u)) }
span_step ps n c (Some places) false h e = record {
  first_uses = h.first_uses;
  last_uses = h.last_uses;
  none_before = h.none_before;
  none_behind = λ i l u. ⊎_elim (λ (t : i ≡ n). ap (λ j. uses_at ps j c) t ∙ e) (λ (t : i ≡ n → ⊥). h.none_behind i l (omega (arith, u, t))) (cases_eq i n);
}
span_step ps n c (Some places) true h e = record { first_uses = h.first_uses; last_uses = e; none_before = h.none_before; none_behind = λ i l u. absurd (omega (arith, l, u)) }

pub span_more : (ps : List Proc) (n : ℕ) (d p : Proc) (c : Name) (o r : Option (ℕ × ℕ)) → n < length ps → p ≡ get_or ps n d → IsSpan (trees ps) n c.0 o → r ≡ noted (uses (tree p) c.0) o n → IsSpan (trees ps) (n + 1) c.0 r
span_more ps n d p c o r l e h k =
    subst (IsSpan (trees ps) (n + 1) c.0) (sym k) (span_step (trees ps) n c.0 o (uses (tree p) c.0) h (uses_there ps n c.0 d l ∙ ap (λ q. uses (tree q) c.0) (sym e)))

-- ---- the list of users
all_cons : (ps : Trees) (u : Users) (us : List Users) → IsUser ps u → All (IsUser ps) us → All (IsUser ps) (u ∷ us)
all_cons ps u us h k zero d l = h
all_cons ps u us h k (suc i) d l = k i d (omega (arith, l))

in_cons : (c x : ℕ) (xs : List ℕ) → is_in (x ∷ xs) c ≡ true → (c ≡ x) ⊎ (is_in xs c ≡ true)
in_cons c x xs h = ⊎_elim
    (λ (t : (c == x) ≡ true). inl (eqb-true c x t))
    (λ (t : (c == x) ≡ false). inr (sym (ap (λ b. b || is_in xs c) t) ∙ h))
    (cases_Bool (c == x))

in_later : (c x : ℕ) (xs : List ℕ) → is_in xs c ≡ true → is_in (x ∷ xs) c ≡ true
in_later c x xs h = or_right (c == x) (is_in xs c) h

users_none : (ps : Trees) (c : Name) (cs : List Name) (us : List Users) → ((i : ℕ) → uses_at ps i c.0 ≡ false) → AreUsers ps cs us → AreUsers ps (c ∷ cs) us
users_none ps c cs us none h = record {
  each = h.each;
  among = λ x k. in_later x c.0 (numbers cs) (h.among x k);
  others = λ x k l i. ⊎_elim (λ (t : x ≡ c.0). ap (uses_at ps i) t ∙ none i) (λ (t : is_in (numbers cs) x ≡ true). h.others x t l i) (in_cons x c.0 (numbers cs) k);
}

users_some : (ps : Trees) (u : Users) (cs : List Name) (us : List Users) → IsUser ps u → AreUsers ps cs us → AreUsers ps (u.chan ∷ cs) (u ∷ us)
users_some ps u cs us is h = record {
  each = all_cons ps u us is h.each;
  among = λ x k. ⊎_elim (λ (t : x ≡ u.chan.0). or_left (x == u.chan.0) (is_in (numbers cs) x) (eq-eqb x u.chan.0 t)) (λ (t : is_in (chans_of us) x ≡ true). in_later x u.chan.0 (numbers cs) (h.among x t)) (in_cons x u.chan.0 (chans_of us) k);
  others = λ x k l i. let p = or_parts (x == u.chan.0) (is_in (chans_of us) x) l in
      ⊎_elim (λ (t : x ≡ u.chan.0). absurd (true≢false (sym (eq-eqb x u.chan.0 t) ∙ p.0))) (λ (t : is_in (numbers cs) x ≡ true). h.others x t p.1 i) (in_cons x u.chan.0 (numbers cs) k);
}

module _ (ps : List Proc) where
  never_used : (c : ℕ) → IsSpan (trees ps) (length ps) c None → (i : ℕ) → uses_at (trees ps) i c ≡ false
  never_used c h i = ⊎_elim (λ (l : i < length ps). h i l) (λ (l : length ps ≤ i). uses_beyond ps i c l) (cases_lt i (length ps))

  user_spans : (c : Name) (places : ℕ × ℕ) → IsSpan (trees ps) (length ps) c.0 (Some places) → IsUser (trees ps) (record { chan = c; first = places.0; last = places.1 })
  user_spans c places h = record {
    first_uses = h.first_uses;
    last_uses = h.last_uses;
    none_before = h.none_before;
    none_behind = λ i l. ⊎_elim (λ (k : i < length ps). h.none_behind i l k) (λ (k : length ps ≤ i). uses_beyond ps i c.0 k) (cases_lt i (length ps));
  }

  user_added : (c : Name) (cs : List Name) (us : List Users) (o : Option (ℕ × ℕ)) → IsSpan (trees ps) (length ps) c.0 o → AreUsers (trees ps) cs us → AreUsers (trees ps) (c ∷ cs) (user_of c o ++ us)
  user_added c cs us None h k = users_none (trees ps) c cs us (never_used c.0 h) k
  user_added c cs us (Some places) h k = users_some (trees ps) (record { chan = c; first = places.0; last = places.1 }) cs us (user_spans c places h) k

  pub users_listed : (places : Name → Option (ℕ × ℕ)) → ((c : Name) → IsSpan (trees ps) (length ps) c.0 (places c)) → (closed : List Name) → AreUsers (trees ps) closed (listed places closed)
  users_listed places h [] = record { each = λ k d l. absurd (omega (arith, l)); among = λ c k. absurd (false≢true k); others = λ c k l i. absurd (false≢true k) }
  users_listed places h (c ∷ cs) = user_added c cs (listed places cs) (places c) (h c) (users_listed places h cs)

-- ---- lists of users
pub listed_more : (places : Name → Option (ℕ × ℕ)) (cs : List Name) (i : ℕ) (d : Name) (old new : List Users) (o : Option (ℕ × ℕ)) → i < length cs → old ++ listed places (drop i cs) ≡ listed places cs
    → o ≡ places (get_or cs i d) → new ≡ old ++ user_of (get_or cs i d) o → new ++ listed places (drop (i + 1) cs) ≡ listed places cs
listed_more places cs i d old new o h e is k =
    ap (λ us. us ++ listed places (drop (i + 1) cs)) (k ∙ ap (λ q. old ++ user_of (get_or cs i d) q) is) ∙ append_assoc old (user_of (get_or cs i d) (places (get_or cs i d))) (listed places (drop (i + 1) cs))
    ∙ ap (λ qs. old ++ listed places qs) (sym (drop-cons cs i d h ∙ ap (λ n. get_or cs i d ∷ drop n cs) (sym (add-one i)))) ∙ e

pub listed_end : (places : Name → Option (ℕ × ℕ)) (cs : List Name) (i : ℕ) (made : List Users) → length cs ≤ i → made ++ listed places (drop i cs) ≡ listed places cs → made ≡ listed places cs
listed_end places cs i made h e = sym (append-nil made) ∙ ap (λ qs. made ++ listed places qs) (sym (drop_all i cs h)) ∙ e

one_if : (b : Bool) (c : Name) (xs : List Name) → cond b (c ∷ []) [] ++ xs ≡ cond b (c ∷ xs) xs
one_if true c xs = refl
one_if false c xs = refl

pub closed_in_more : (us : List Users) (i : ℕ) (d : Users) (low high : ℕ) (old new : List Name) (b : Bool) → i < length us → old ++ closed_in low high (drop i us) ≡ closed_in low high us
    → b ≡ (nat_le low (get_or us i d).first && nat_lt (get_or us i d).last high) → new ≡ old ++ cond b ((get_or us i d).chan ∷ []) [] → new ++ closed_in low high (drop (i + 1) us) ≡ closed_in low high us
closed_in_more us i d low high old new b h e is k =
    ap (λ xs. xs ++ closed_in low high (drop (i + 1) us)) k ∙ append_assoc old (cond b ((get_or us i d).chan ∷ []) []) (closed_in low high (drop (i + 1) us))
    ∙ ap (λ xs. old ++ xs) (one_if b (get_or us i d).chan (closed_in low high (drop (i + 1) us)) ∙ ap (λ a. cond a ((get_or us i d).chan ∷ closed_in low high (drop (i + 1) us)) (closed_in low high (drop (i + 1) us))) is)
    ∙ ap (λ qs. old ++ closed_in low high qs) (sym (drop-cons us i d h ∙ ap (λ n. get_or us i d ∷ drop n us) (sym (add-one i)))) ∙ e

pub closed_in_end : (us : List Users) (i : ℕ) (low high : ℕ) (made : List Name) → length us ≤ i → made ++ closed_in low high (drop i us) ≡ closed_in low high us → made ≡ closed_in low high us
closed_in_end us i low high made h e = sym (append-nil made) ∙ ap (λ qs. made ++ closed_in low high qs) (sym (drop_all i us h)) ∙ e

pub crossing_more : (us : List Users) (i : ℕ) (d : Users) (low mid high : ℕ) (old new : List Name) (b : Bool) → i < length us → old ++ crossing low mid high (drop i us) ≡ crossing low mid high us
    → b ≡ ((nat_le low (get_or us i d).first && nat_lt (get_or us i d).last high) && (not (nat_le mid (get_or us i d).first) && not (nat_lt (get_or us i d).last mid))) → new ≡ old ++ cond b ((get_or us i d).chan ∷ []) [] → new ++ crossing low mid high (drop (i + 1) us) ≡ crossing low mid high us
crossing_more us i d low mid high old new b h e is k =
    ap (λ xs. xs ++ crossing low mid high (drop (i + 1) us)) k ∙ append_assoc old (cond b ((get_or us i d).chan ∷ []) []) (crossing low mid high (drop (i + 1) us))
    ∙ ap (λ xs. old ++ xs) (one_if b (get_or us i d).chan (crossing low mid high (drop (i + 1) us)) ∙ ap (λ a. cond a ((get_or us i d).chan ∷ crossing low mid high (drop (i + 1) us)) (crossing low mid high (drop (i + 1) us))) is)
    ∙ ap (λ qs. old ++ crossing low mid high qs) (sym (drop-cons us i d h ∙ ap (λ n. get_or us i d ∷ drop n us) (sym (add-one i)))) ∙ e

pub crossing_end : (us : List Users) (i : ℕ) (low mid high : ℕ) (made : List Name) → length us ≤ i → made ++ crossing low mid high (drop i us) ≡ crossing low mid high us → made ≡ crossing low mid high us
crossing_end us i low mid high made h e = sym (append-nil made) ∙ ap (λ qs. made ++ crossing low mid high qs) (sym (drop_all i us h)) ∙ e

-- ---- at the end of the loops
pub noted_end : (ends : List (Name × Dir)) (i : ℕ) (c : Name) (before now : Option (ℕ × ℕ)) (place : ℕ) → length ends ≤ i → now ≡ noted (has_end_on (take i ends) c) before place → now ≡ noted (has_end_on ends c) before place
noted_end ends i c before now place h e = e ∙ ap (λ es. noted (has_end_on es c) before place) (all_taken i ends h)

pub noted_part : (p : Proc) (ends given : List (Name × Dir)) (c : Name) (before now : Option (ℕ × ℕ)) (place : ℕ) → given ≡ ends → ((n : ℕ) (d : Dir) → has same_end (end_numbers ends) (n, d) ≡ uses_end (tree p) n d)
    → now ≡ noted (has_end_on given c) before place → now ≡ noted (uses (tree p) c.0) before place
noted_part p ends given c before now place is members e = e ∙ ap (λ b. noted b before place) (ap (λ es. has_end_on es c) is ∙ part_ends p ends c members)

pub span_end : (ps : Trees) (n m c : ℕ) (o : Option (ℕ × ℕ)) → n ≡ m → IsSpan ps n c o → IsSpan ps m c o
span_end ps n m c o e = subst (λ k. IsSpan ps k c o) e

pub users_found : (ps : List Proc) (places : Name → Option (ℕ × ℕ)) (closed : List Name) (us : List Users) → ((c : Name) → IsSpan (trees ps) (length ps) c.0 (places c)) → us ≡ listed places closed → AreUsers (trees ps) closed us
users_found ps places closed us h e = subst (AreUsers (trees ps) closed) (sym e) (users_listed ps places h closed)
