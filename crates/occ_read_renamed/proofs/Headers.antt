-- What the PARAM lines of a text are read as with two tables of names, and with the table that they leave.
use Rattle.std.proofs.Common.{◌≡◌, ℕ, suc, ◌+◌, ◌<◌, cond, not, nat_lt, nat_le, ◌&&◌, ◌||◌, List, [], ◌∷◌, ◌++◌, length, slice_get, unwrap_or, Option, Some, None, refl, sym, ap, ap₂, subst, ◌∙◌, arith}
use Rattle.std.specs.List.{list_any}
use Rattle.std.specs.Str.{bytes_eq}
use Rattle.occ_nform.proofs.from_base.Naming.{naming}
use Rattle.occ_nform.specs.occ_base.Names.{IsDistinct, place_of, with_text}
use Rattle.occ_nform.specs.occ_base.declared.names.Name.{Name}
use Rattle.occ_nform.specs.occ_nform_table.Lines.{AreNamed, can_follow, next_param, param_of, text_of}
use Rattle.occ_nform.specs.occ_nform_table.Reading.{Header, Lines, either, params_in}
use Rattle.occ_nform.specs.occ_nform_table.Words.{then_read}
use Rattle.occ_nform.proofs.from_nform_table.Names.{Keeps, all_push, keeps_with, named_kept, place_within, text_there}
use Rattle.occ_nform.specs.occ_syntax.Counts.{bits_of_kind, bits_of_scope}
use Rattle.occ_nform.specs.occ_syntax.declared.scope.Kind.{Kind}

abbrev pub Table : Type 0
Table = List (List ℕ)

-- ---- parameters with the same texts

-- each parameter of the one list has, by its table, the text of the other list's in its place, and its kind
abbrev pub AreLike : Table → Table → List (Name × Kind) → List (Name × Kind) → Type 0
AreLike names other [] [] = Unit {0}
AreLike names other [] (q ∷ qs) = ⊥
AreLike names other (p ∷ ps) [] = ⊥
AreLike names other (p ∷ ps) (q ∷ qs) = (text_of names p.0 ≡ text_of other q.0) × (p.1 ≡ q.1) × AreLike names other ps qs

like_length : (names other : Table) (ps qs : List (Name × Kind)) → AreLike names other ps qs → length ps ≡ length qs
like_length names other [] [] h = refl
like_length names other [] (q ∷ qs) h = absurd h
like_length names other (p ∷ ps) [] h = absurd h
like_length names other (p ∷ ps) (q ∷ qs) h = ap suc (like_length names other ps qs h.2)

like_bits : (names other : Table) (ps qs : List (Name × Kind)) → AreLike names other ps qs → bits_of_scope ps ≡ bits_of_scope qs
like_bits names other [] [] h = refl
like_bits names other [] (q ∷ qs) h = absurd h
like_bits names other (p ∷ ps) [] h = absurd h
like_bits names other (p ∷ ps) (q ∷ qs) h = ap₂ (λ k n. bits_of_kind k + n) h.1 (like_bits names other ps qs h.2)

like_any : (names other : Table) (text : List ℕ) (ps qs : List (Name × Kind)) → AreLike names other ps qs
    → list_any (λ (q : Name × Kind). bytes_eq text (text_of names q.0)) ps ≡ list_any (λ (q : Name × Kind). bytes_eq text (text_of other q.0)) qs
like_any names other text [] [] h = refl
like_any names other text [] (q ∷ qs) h = absurd h
like_any names other text (p ∷ ps) [] h = absurd h
like_any names other text (p ∷ ps) (q ∷ qs) h = ap₂ (λ t b. bytes_eq text t || b) h.0 (like_any names other text ps qs h.2)

like_follow : (names other : Table) (ps qs : List (Name × Kind)) (p : List ℕ × Kind) → AreLike names other ps qs → can_follow names ps p ≡ can_follow other qs p
unfolding can_follow
like_follow names other ps qs p h =
    let n = like_length names other ps qs h in
    let bits = like_bits names other ps qs h in
    let free = like_any names other p.0 ps qs h in
    λ i. nat_lt (n i) 16 && not (free i) && nat_le (bits i + bits_of_kind p.1) 16

-- so the next line is read alike
pub like_next : (names other : Table) (ps qs : List (Name × Kind)) (line : List ℕ) → AreLike names other ps qs → next_param names ps line ≡ next_param other qs line
unfolding next_param
like_next names other ps qs line h = at (param_of line)
  where
    at : (o : Option (List ℕ × Kind)) → then_read o (λ p. cond (can_follow names ps p) (Some p) None) ≡ then_read o (λ p. cond (can_follow other qs p) (Some p) None)
    at None = refl
    at (Some p) = ap (λ b. cond b (Some p) None) (like_follow names other ps qs p h)

text_stays : (names more : Table) (x : ℕ) → Keeps names more → x < length names → unwrap_or (slice_get more x) [] ≡ unwrap_or (slice_get names x) []
text_stays names more x keeps h = ap (λ (o : Option (List ℕ)). unwrap_or o []) (keeps.kept x h)

like_kept : (names more other others : Table) (ps qs : List (Name × Kind)) → Keeps names more → Keeps other others → AreNamed names ps → AreNamed other qs
    → AreLike names other ps qs → AreLike more others ps qs
like_kept names more other others [] [] k l n m h = tt
like_kept names more other others [] (q ∷ qs) k l n m h = absurd h
like_kept names more other others (p ∷ ps) [] k l n m h = absurd h
like_kept names more other others (p ∷ ps) (q ∷ qs) k l n m h =
    (text_stays names more p.0.0 k n.0 ∙ (h.0 ∙ sym (text_stays other others q.0.0 l m.0)), h.1, like_kept names more other others ps qs k l n.1 m.1 h.2)

like_push : (names other : Table) (ps qs : List (Name × Kind)) (p q : Name × Kind) → AreLike names other ps qs → text_of names p.0 ≡ text_of other q.0 → p.1 ≡ q.1
    → AreLike names other (ps ++ p ∷ []) (qs ++ q ∷ [])
like_push names other [] [] p q h e k = (e, k, tt)
like_push names other [] (r ∷ qs) p q h e k = absurd h
like_push names other (r ∷ ps) [] p q h e k = absurd h
like_push names other (r ∷ ps) (s ∷ qs) p q h e k = (h.0, h.1, like_push names other ps qs p q h.2 e k)

like_itself : (names : Table) (ps : List (Name × Kind)) → AreLike names names ps ps
like_itself names [] = tt
like_itself names (p ∷ ps) = (refl, refl, like_itself names ps)

-- ---- a parameter that is read

abbrev numbered : Table → List ℕ × Kind → Name × Kind
numbered names p = (record { 0 = place_of names p.0 }, p.1)

abbrev behind_it : Table → List (Name × Kind) → Lines → List ℕ × Kind → Header
behind_it names ps lines p = params_in (with_text names p.0) (ps ++ numbered names p ∷ []) lines

abbrev stopped : Table → List (Name × Kind) → Lines → Header
stopped names ps lines = record { names = names; params = ps; rest = lines }

named_push : (names : Table) (ps : List (Name × Kind)) (p : List ℕ × Kind) → AreNamed names ps → AreNamed (with_text names p.0) (ps ++ numbered names p ∷ [])
named_push names ps p named =
    all_push (λ (q : Name × Kind). q.0.0 < length (with_text names p.0)) ps (numbered names p)
    (named_kept names (with_text names p.0) ps (keeps_with names p.0) named) (place_within names p.0)

-- ---- two tables

-- what is read with two tables
pub record AreSameHeaders (g h : Header) : Type 0 where
  pub like : AreLike g.names h.names g.params h.params
  pub rest : g.rest ≡ h.rest

pub headers : (names other : Table) (ps qs : List (Name × Kind)) (lines : Lines) → AreNamed names ps → AreNamed other qs → AreLike names other ps qs
    → AreSameHeaders (params_in names ps lines) (params_in other qs lines)
unfolding params_in
headers names other ps qs [] n m h = record { like = h; rest = refl }
headers names other ps qs (line ∷ lines) n m h =
    let R : Option (List ℕ × Kind) → Type 0 =
    λ o. AreSameHeaders (either (next_param names ps line) (stopped names ps (line ∷ lines)) (behind_it names ps lines)) (either o (stopped other qs (line ∷ lines)) (behind_it other qs lines)) in
    subst R (like_next names other ps qs line h) (at (next_param names ps line) (λ more others us vs u v k. headers more others us vs lines u v k))
  where
    at : (o : Option (List ℕ × Kind))
        → ((more others : Table) (us vs : List (Name × Kind)) → AreNamed more us → AreNamed others vs → AreLike more others us vs → AreSameHeaders (params_in more us lines) (params_in others vs lines))
        → AreSameHeaders (either o (stopped names ps (line ∷ lines)) (behind_it names ps lines)) (either o (stopped other qs (line ∷ lines)) (behind_it other qs lines))
    at None behind = record { like = h; rest = refl }
    at (Some p) behind =
        let more = with_text names p.0 in
        let others = with_text other p.0 in
        behind more others (ps ++ numbered names p ∷ []) (qs ++ numbered other p ∷ []) (named_push names ps p n) (named_push other qs p m)
        (like_push more others ps qs (numbered names p) (numbered other p) (like_kept names more other others ps qs (keeps_with names p.0) (keeps_with other p.0) n m h)
        (text_there names p.0 ∙ sym (text_there other p.0)) refl)

-- ---- the table that they leave

-- the table with the texts of the lines
pub record IsGrown (names : Table) (h : Header) : Type 0 where
  pub keeps : Keeps names h.names
  pub distinct : IsDistinct names → IsDistinct h.names

keeps_itself : (names : Table) → Keeps names names
keeps_itself names = record { longer = omega arith; kept = λ i h. refl }

pub grown : (names : Table) (ps : List (Name × Kind)) (lines : Lines) → IsGrown names (params_in names ps lines)
unfolding params_in
grown names ps [] = record { keeps = keeps_itself names; distinct = λ d. d }
grown names ps (line ∷ lines) = at (next_param names ps line) (λ more us. grown more us lines)
  where
    at : (o : Option (List ℕ × Kind)) → ((more : Table) (us : List (Name × Kind)) → IsGrown more (params_in more us lines))
        → IsGrown names (either o (stopped names ps (line ∷ lines)) (behind_it names ps lines))
    at None behind = record { keeps = keeps_itself names; distinct = λ d. d }
    at (Some p) behind =
        let next = keeps_with names p.0 in
        let is = naming names p.0 in
        let later = behind (with_text names p.0) (ps ++ numbered names p ∷ []) in
        record {
          keeps = record {
            longer = omega (arith, next.longer, later.keeps.longer);
            kept = λ i h. later.keeps.kept i (omega (arith, h, next.longer)) ∙ next.kept i h;
          };
          distinct = λ d. later.distinct (is.distinct d);
        }

-- the lines read with that table leave it as it is
pub again : (table names : Table) (ps : List (Name × Kind)) (lines : Lines) → IsDistinct table → AreNamed names ps → table ≡ (params_in names ps lines).names
    → params_in table ps lines ≡ params_in names ps lines
unfolding params_in
again table names ps [] d n e = ap (λ t. stopped t ps []) e
again table names ps (line ∷ lines) d n e = at (next_param names ps line) refl e (λ more us u k. again table more us lines d u k)
  where
    at : (o : Option (List ℕ × Kind)) → next_param names ps line ≡ o → table ≡ (either o (stopped names ps (line ∷ lines)) (behind_it names ps lines)).names
        → ((more : Table) (us : List (Name × Kind)) → AreNamed more us → table ≡ (params_in more us lines).names → params_in table us lines ≡ params_in more us lines)
        → either (next_param table ps line) (stopped table ps (line ∷ lines)) (behind_it table ps lines)
        ≡ either (next_param names ps line) (stopped names ps (line ∷ lines)) (behind_it names ps lines)
    at None k e behind = ap (λ t. either (next_param t ps line) (stopped t ps (line ∷ lines)) (behind_it t ps lines)) e
    at (Some p) k e behind =
        let more = with_text names p.0 in
        let us = ps ++ numbered names p ∷ [] in
        let is = naming names p.0 in
        let all = grown more us lines in
        let here : slice_get table (place_of names p.0) ≡ Some p.0 =
        subst (λ t. slice_get t (place_of names p.0) ≡ Some p.0) (sym e) (all.keeps.kept (place_of names p.0) (place_within names p.0) ∙ is.there) in
        let own = naming table p.0 in
        let same : with_text table p.0 ≡ table = own.same (place_of names p.0) here in
        let place : place_of table p.0 ≡ place_of names p.0 = own.again (place_of names p.0) d here in
        let first : Keeps names table = subst (Keeps names) (sym e) (record {
          longer = let next = keeps_with names p.0 in omega (arith, next.longer, all.keeps.longer);
          kept = λ i h. let next = keeps_with names p.0 in all.keeps.kept i (omega (arith, h, next.longer)) ∙ next.kept i h;
        }) in
        let read : next_param table ps line ≡ Some p =
        sym (like_next names table ps ps line (like_kept names names names table ps ps (keeps_itself names) first n n (like_itself names ps))) ∙ k in
        ap (λ o. either o (stopped table ps (line ∷ lines)) (behind_it table ps lines)) read
        ∙ (λ i. params_in (same i) (ps ++ (record { 0 = place i }, p.1) ∷ []) lines)
        ∙ behind more us (named_push names ps p n) e
        ∙ sym (ap (λ o. either o (stopped names ps (line ∷ lines)) (behind_it names ps lines)) k)
