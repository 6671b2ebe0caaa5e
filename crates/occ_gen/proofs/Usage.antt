-- Whether the parts of each PAR share nothing: in one pass, by what each part does with names, each of which is listed once.
use Rattle.std.proofs.Common.{◌≡◌, ℕ, ◌==◌, Bool, true, false, not, ◌&&◌, ◌||◌, List, [], ◌∷◌, refl, sym, ap, ◌∙◌}
use Rattle.std.specs.List.{list_all}
use Rattle.std.proofs.lemmas.Bool.{and_parts, not-true}
use Rattle.occ_script.specs.occ_base.declared.event.Dir.{Dir}
use Rattle.occ_script.specs.occ_base.declared.event.Dir.TheVariants.{Input, Output}
use Rattle.occ_print_back.specs.occ_names.Mentions.{same_end}
use Rattle.occ_print_back.specs.occ_names.Once.{has, same_number}
use Rattle.occ_print_back.proofs.from_names.Listed.{IsTest, ends_tested, numbers_tested, or_nothing}
use Rattle.occ_script.specs.occ_syntax.Names.{end_in_cases, end_in_some, free, free_in_cases, free_in_some, names, uses_end, written, written_in_cases, written_in_some}
use Rattle.occ_script.specs.occ_syntax.Tree.{Cases, Exp, Tree, Trees, alt, and_case, and_tree, assign, complement, connect, declare, negation, no_case, no_tree, numeral, operation, par, receive, select, send, seq, skip, stop, truth, variable}
use Rattle.occ_script.specs.occ_syntax.Usage.{AllKeepUsage, AreSeparate, CasesKeepUsage, IsSeparate, KeepsUsage}

-- ---- lists in which each item stands once

abbrev unless : {T : Type 0} → Bool → T → List T → List T
unless true x xs = xs
unless false x xs = x ∷ xs

-- those items that aren't to be left out
abbrev left : {T : Type 0} → (T → Bool) → List T → List T
left out [] = []
left out (x ∷ xs) = unless (out x) x (left out xs)

or_right : (a b : Bool) → b ≡ true → (a || b) ≡ true
or_right true b h = refl
or_right false b h = h

either : {P : Type 0} (a b : Bool) → (a || b) ≡ true → (a ≡ true → P) → (b ≡ true → P) → P
either true b h f g = f refl
either false b h f g = g h

never : {P : Type 0} → false ≡ true → P
never h = absurd cc

module _ {T : Type 0} (same : T → T → Bool) where
  abbrev put_one : T → List T → List T
  put_one x ys = unless (has same ys x) x ys

  -- the items of both lists
  abbrev put : List T → List T → List T
  put [] ys = ys
  put (x ∷ xs) ys = put_one x (put xs ys)

  -- no item of one list stands in another
  abbrev apart : List T → List T → Bool
  apart xs ys = list_all (λ x. not (has same ys x)) xs

module _ {T : Type 0} (same : T → T → Bool) (test : IsTest same) where
  has_behind : (b : Bool) (x : T) (ys : List T) (y : T) → has same ys y ≡ true → has same (unless b x ys) y ≡ true
  has_behind true x ys y h = h
  has_behind false x ys y h = or_right (same y x) (has same ys y) h

  has_one : (x : T) (ys : List T) (y : T) → same y x ≡ true → has same (put_one same x ys) y ≡ true
  has_one x ys y h = at (has same ys x) refl
    where
      at : (b : Bool) → has same ys x ≡ b → has same (unless b x ys) y ≡ true
      at true e = ap (has same ys) (test.tells y x h) ∙ e
      at false e = ap (λ c. c || has same ys y) h

  has_first : (xs ys : List T) (y : T) → has same xs y ≡ true → has same (put same xs ys) y ≡ true
  has_first [] ys y h = never h
  has_first (x ∷ xs) ys y h = either (same y x) (has same xs y) h (λ e. has_one x (put same xs ys) y e)
      (λ e. has_behind (has same (put same xs ys) x) x (put same xs ys) y (has_first xs ys y e))

  has_second : (xs ys : List T) (y : T) → has same ys y ≡ true → has same (put same xs ys) y ≡ true
  has_second [] ys y h = h
  has_second (x ∷ xs) ys y h = has_behind (has same (put same xs ys) x) x (put same xs ys) y (has_second xs ys y h)

  has_left : (out : T → Bool) (xs : List T) (y : T) → out y ≡ false → has same xs y ≡ true → has same (left out xs) y ≡ true
  has_left out [] y o h = never h
  has_left out (x ∷ xs) y o h = either (same y x) (has same xs y) h here (λ e. has_behind (out x) x (left out xs) y (has_left out xs y o e))
    where
      here : same y x ≡ true → has same (unless (out x) x (left out xs)) y ≡ true
      here e =
          ap (λ b. has same (unless b x (left out xs)) y) (ap out (sym (test.tells y x e)) ∙ o)
          ∙ ap (λ b. b || has same (left out xs) y) e

  of_some : (good : T → Bool) (xs : List T) (x : T) → list_all good xs ≡ true → has same xs x ≡ true → good x ≡ true
  of_some good [] x h k = never k
  of_some good (y ∷ ys) x h k =
      let rest = and_parts (good y) (list_all good ys) h in
      either (same x y) (has same ys x) k (λ e. ap good (test.tells x y e) ∙ rest.0) (λ e. of_some good ys x rest.1 e)

  none_of : (xs ys : List T) (x : T) → apart same xs ys ≡ true → has same xs x ≡ true → has same ys x ≡ false
  none_of xs ys x h k = not-true (has same ys x) (of_some (λ z. not (has same ys z)) xs x h k)

-- ---- what a part does with names

pub record Brief : Type 0 where
  pub uses : List ℕ
  pub sets : List ℕ
  pub ends : List (ℕ × Dir)

abbrev brief : List ℕ → List ℕ → List (ℕ × Dir) → Brief
brief us xs es = record { uses = us; sets = xs; ends = es }

abbrev both : Brief → Brief → Brief
both b c = brief (put same_number b.uses c.uses) (put same_number b.sets c.sets) (put same_end b.ends c.ends)

abbrev without : ℕ → Brief → Brief
without x b = brief (left (λ y. y == x) b.uses) (left (λ y. y == x) b.sets) (left (λ (e : ℕ × Dir). e.0 == x) b.ends)

abbrev is_separate : Brief → Brief → Bool
is_separate b c = apart same_number b.sets c.uses && (apart same_number c.sets b.uses && apart same_end b.ends c.ends)

-- Whether the parts of each PAR inside share nothing, whether parts beside one another do, and what all do.
pub record Told : Type 0 where
  pub good : Bool
  pub separate : Bool
  pub does : Brief

abbrev told : Bool → Bool → Brief → Told
told g s b = record { good = g; separate = s; does = b }

abbrev joined : Told → Told → Told
joined a b = told (a.good && b.good) (is_separate a.does b.does && b.separate) (both a.does b.does)

abbrev beside : Told → Told
beside a = told (a.good && a.separate) true a.does

abbrev hiding : ℕ → Told → Told
hiding x a = told a.good true (without x a.does)

abbrev reading : List ℕ → Told → Told
reading xs a = told a.good true (both (brief xs [] []) a.does)

abbrev reads : Exp → List ℕ
reads (variable x) = x ∷ []
reads (numeral bits value) = []
reads (truth b) = []
reads (negation e) = reads e
reads (complement e) = reads e
reads (operation op a b) = put same_number (reads a) (reads b)

-- assignments and ALTs, which generated programs don't have, count as bad
abbrev mutual
  tell : Tree → Told
  tell skip = told true true (brief [] [] [])
  tell stop = told true true (brief [] [] [])
  tell (assign xs es) = told false true (brief [] [] [])
  tell (receive c x) = told true true (brief (c ∷ x ∷ []) (x ∷ []) ((c, Input) ∷ []))
  tell (send c e) = told true true (brief (c ∷ reads e) [] ((c, Output) ∷ []))
  tell (seq ps) = tell_all ps
  tell (par ps) = beside (tell_all ps)
  tell (select cs) = tell_cases cs
  tell (alt bs) = told false true (brief [] [] [])
  tell (declare x w p) = hiding x (tell p)
  tell (connect c w p) = hiding c (tell p)

  tell_all : Trees → Told
  tell_all no_tree = told true true (brief [] [] [])
  tell_all (and_tree p ps) = joined (tell p) (tell_all ps)

  tell_cases : Cases → Told
  tell_cases no_case = told true true (brief [] [] [])
  tell_cases (and_case e p cs) = joined (reading (reads e) (tell p)) (tell_cases cs)

abbrev pub shares_nothing : Tree → Bool
shares_nothing p = (tell p).good

-- ---- it says all that a part does

record Covers (uses sets : ℕ → Bool) (ends : ℕ → Dir → Bool) (b : Brief) : Type 0 where
  in_uses : (x : ℕ) → uses x ≡ true → has same_number b.uses x ≡ true
  in_sets : (x : ℕ) → sets x ≡ true → has same_number b.sets x ≡ true
  in_ends : (c : ℕ) (d : Dir) → ends c d ≡ true → has same_end b.ends (c, d) ≡ true

covers_none : Covers (λ x. false) (λ x. false) (λ c d. false) (brief [] [] [])
covers_none = record { in_uses = λ x k. never k; in_sets = λ x k. never k; in_ends = λ c d k. never k }

covers_both : (f g u v : ℕ → Bool) (e h : ℕ → Dir → Bool) (a b : Brief) → Covers f u e a → Covers g v h b
    → Covers (λ x. f x || g x) (λ x. u x || v x) (λ c d. e c d || h c d) (both a b)
covers_both f g u v e h a b p q = record {
  in_uses = λ x k. either (f x) (g x) k (λ l. has_first same_number numbers_tested a.uses b.uses x (p.in_uses x l))
      (λ l. has_second same_number numbers_tested a.uses b.uses x (q.in_uses x l));
  in_sets = λ x k. either (u x) (v x) k (λ l. has_first same_number numbers_tested a.sets b.sets x (p.in_sets x l))
      (λ l. has_second same_number numbers_tested a.sets b.sets x (q.in_sets x l));
  in_ends = λ c d k. either (e c d) (h c d) k (λ l. has_first same_end ends_tested a.ends b.ends (c, d) (p.in_ends c d l))
      (λ l. has_second same_end ends_tested a.ends b.ends (c, d) (q.in_ends c d l));
}

covers_without : (y : ℕ) (f u : ℕ → Bool) (e : ℕ → Dir → Bool) (b : Brief) → Covers f u e b
    → Covers (λ x. not (x == y) && f x) (λ x. not (x == y) && u x) (λ c d. not (c == y) && e c d) (without y b)
covers_without y f u e b p = record {
  in_uses = λ x k. let parts = and_parts (not (x == y)) (f x) k in
      has_left same_number numbers_tested (λ z. z == y) b.uses x (not-true (x == y) parts.0) (p.in_uses x parts.1);
  in_sets = λ x k. let parts = and_parts (not (x == y)) (u x) k in
      has_left same_number numbers_tested (λ z. z == y) b.sets x (not-true (x == y) parts.0) (p.in_sets x parts.1);
  in_ends = λ c d k. let parts = and_parts (not (c == y)) (e c d) k in
      has_left same_end ends_tested (λ (z : ℕ × Dir). z.0 == y) b.ends (c, d) (not-true (c == y) parts.0) (p.in_ends c d parts.1);
}

reads_are : (e : Exp) (x : ℕ) → names e x ≡ true → has same_number (reads e) x ≡ true
reads_are (variable y) x h = or_nothing (x == y) ∙ h
reads_are (numeral bits value) x h = never h
reads_are (truth b) x h = never h
reads_are (negation e) x h = reads_are e x h
reads_are (complement e) x h = reads_are e x h
reads_are (operation op a b) x h =
    either (names a x) (names b x) h (λ k. has_first same_number numbers_tested (reads a) (reads b) x (reads_are a x k))
    (λ k. has_second same_number numbers_tested (reads a) (reads b) x (reads_are b x k))

covers_reads : (e : Exp) → Covers (λ x. names e x) (λ x. false) (λ c d. false) (brief (reads e) [] [])
covers_reads e = record { in_uses = λ x k. reads_are e x k; in_sets = λ x k. never k; in_ends = λ c d k. never k }

abbrev IsCovered : Tree → Type 0
IsCovered p = Covers (λ x. free p x) (λ x. written p x) (λ c d. uses_end p c d) (tell p).does

abbrev AllCovered : Trees → Type 0
AllCovered ps = Covers (λ x. free_in_some ps x) (λ x. written_in_some ps x) (λ c d. end_in_some ps c d) (tell_all ps).does

abbrev CasesCovered : Cases → Type 0
CasesCovered cs = Covers (λ x. free_in_cases cs x) (λ x. written_in_cases cs x) (λ c d. end_in_cases cs c d) (tell_cases cs).does

mutual
  covered : (p : Tree) → (tell p).good ≡ true → IsCovered p
  covered skip h = covers_none
  covered stop h = covers_none
  covered (assign xs es) h = never h
  covered (receive c y) h = record {
    in_uses = λ x k. ap (λ b. (x == c) || b) (or_nothing (x == y)) ∙ k;
    in_sets = λ x k. or_nothing (x == y) ∙ k;
    in_ends = λ a d k. or_nothing (same_end (a, d) (c, Input)) ∙ k;
  }
  covered (send c e) h = record {
    in_uses = λ x k. either (x == c) (names e x) k (λ l. ap (λ b. b || has same_number (reads e) x) l)
        (λ l. or_right (x == c) (has same_number (reads e) x) (reads_are e x l));
    in_sets = λ x k. never k;
    in_ends = λ a d k. or_nothing (same_end (a, d) (c, Output)) ∙ k;
  }
  covered (seq ps) h = all_covered ps h
  covered (par ps) h = all_covered ps (and_parts (tell_all ps).good (tell_all ps).separate h).0
  covered (select cs) h = cases_covered cs h
  covered (alt bs) h = never h
  covered (declare x w p) h = covers_without x (λ y. free p y) (λ y. written p y) (λ c d. uses_end p c d) (tell p).does (covered p h)
  covered (connect c w p) h = covers_without c (λ y. free p y) (λ y. written p y) (λ b d. uses_end p b d) (tell p).does (covered p h)

  all_covered : (ps : Trees) → (tell_all ps).good ≡ true → AllCovered ps
  all_covered no_tree h = covers_none
  all_covered (and_tree p ps) h =
      let good = and_parts (tell p).good (tell_all ps).good h in
      covers_both (λ x. free p x) (λ x. free_in_some ps x) (λ x. written p x) (λ x. written_in_some ps x)
      (λ c d. uses_end p c d) (λ c d. end_in_some ps c d) (tell p).does (tell_all ps).does (covered p good.0) (all_covered ps good.1)

  cases_covered : (cs : Cases) → (tell_cases cs).good ≡ true → CasesCovered cs
  cases_covered no_case h = covers_none
  cases_covered (and_case e p cs) h =
      let good = and_parts (tell p).good (tell_cases cs).good h in
      let one = covers_both (λ x. names e x) (λ x. free p x) (λ x. false) (λ x. written p x) (λ c d. false) (λ c d. uses_end p c d)
      (brief (reads e) [] []) (tell p).does (covers_reads e) (covered p good.0) in
      covers_both (λ x. names e x || free p x) (λ x. free_in_cases cs x) (λ x. written p x) (λ x. written_in_cases cs x)
      (λ c d. uses_end p c d) (λ c d. end_in_cases cs c d) (both (brief (reads e) [] []) (tell p).does) (tell_cases cs).does
      one (cases_covered cs good.1)

-- ---- so the usage rule is kept

off : (a b : Bool) → (a ≡ true → b ≡ true) → b ≡ false → a ≡ false
off true b f h = sym (f refl) ∙ h
off false b f h = refl

separated : (p : Tree) (ps : Trees) → IsCovered p → AllCovered ps → is_separate (tell p).does (tell_all ps).does ≡ true → IsSeparate p (par ps)
separated p ps a c h =
    let b = (tell p).does in
    let d = (tell_all ps).does in
    let first = and_parts (apart same_number b.sets d.uses) (apart same_number d.sets b.uses && apart same_end b.ends d.ends) h in
    let more = and_parts (apart same_number d.sets b.uses) (apart same_end b.ends d.ends) first.1 in
    record {
      first_writes = λ x w. off (free_in_some ps x) (has same_number d.uses x) (c.in_uses x)
          (none_of same_number numbers_tested b.sets d.uses x first.0 (a.in_sets x w));
      second_writes = λ x w. off (free p x) (has same_number b.uses x) (a.in_uses x)
          (none_of same_number numbers_tested d.sets b.uses x more.0 (c.in_sets x w));
      ends = λ y e u. off (end_in_some ps y e) (has same_end d.ends (y, e)) (c.in_ends y e)
          (none_of same_end ends_tested b.ends d.ends (y, e) more.1 (a.in_ends y e u));
    }

all_separate : (ps : Trees) → (tell_all ps).good ≡ true → (tell_all ps).separate ≡ true → AreSeparate ps
all_separate no_tree g h = tt
all_separate (and_tree p ps) g h =
    let good = and_parts (tell p).good (tell_all ps).good g in
    let parts = and_parts (is_separate (tell p).does (tell_all ps).does) (tell_all ps).separate h in
    (separated p ps (covered p good.0) (all_covered ps good.1) parts.0, all_separate ps good.1 parts.1)

mutual
  pub keeps_usage : (p : Tree) → shares_nothing p ≡ true → KeepsUsage p
  keeps_usage skip h = tt
  keeps_usage stop h = tt
  keeps_usage (assign xs es) h = tt
  keeps_usage (receive c x) h = tt
  keeps_usage (send c e) h = tt
  keeps_usage (seq ps) h = all_keep ps h
  keeps_usage (par ps) h =
      let parts = and_parts (tell_all ps).good (tell_all ps).separate h in (all_keep ps parts.0, all_separate ps parts.0 parts.1)
  keeps_usage (select cs) h = cases_keep cs h
  keeps_usage (alt bs) h = never h
  keeps_usage (declare x w p) h = keeps_usage p h
  keeps_usage (connect c w p) h = keeps_usage p h

  all_keep : (ps : Trees) → (tell_all ps).good ≡ true → AllKeepUsage ps
  all_keep no_tree h = tt
  all_keep (and_tree p ps) h =
      let good = and_parts (tell p).good (tell_all ps).good h in (keeps_usage p good.0, all_keep ps good.1)

  cases_keep : (cs : Cases) → (tell_cases cs).good ≡ true → CasesKeepUsage cs
  cases_keep no_case h = tt
  cases_keep (and_case e p cs) h =
      let good = and_parts (tell p).good (tell_cases cs).good h in (keeps_usage p good.0, cases_keep cs good.1)
