-- What the mentions of a part say of a name is what the definitions of free names, written names and ends say.
use Rattle.std.proofs.Common.{◌≡◌, ℕ, ◌+◌, ◌<◌, ◌==◌, length, get_or, drop, Bool, true, false, true≢false, cond, not, ◌&&◌, ◌||◌, List, [], ◌∷◌, ◌++◌, refl, sym, ap, ◌∙◌}
use Rattle.std.specs.List.{list_any}
use Rattle.std.proofs.lemmas.Bool.{eqb-true, and_parts}
use Rattle.std.proofs.lemmas.List.{at_drop_more}
use Rattle.std.proofs.lemmas.List.Folds.{list_any-append}
use Rattle.occ_syntax.specs.occ_base.declared.event.Dir.{Dir}
use Rattle.occ_syntax.specs.occ_base.declared.event.Dir.TheVariants.{Input, Output}
use Rattle.occ_syntax.specs.Names.{is_in, names, some_names, free_in_waiting, written_in_waiting, end_in_waiting, free, free_in_some, free_in_cases, free_in_branches, written, written_in_some, written_in_cases, written_in_branches, uses_end, end_in_some, end_in_cases, end_in_branches}
use Rattle.occ_syntax.specs.Scopes.{same_dir}
use Rattle.occ_syntax.specs.Tree.{Exp, variable, numeral, truth, negation, complement, operation, Waiting, ready, input, output, Tree, skip, stop, assign, receive, send, seq, par, select, alt, declare, connect, Trees, no_tree, and_tree, Cases, no_case, and_case, Branches, no_branch, and_branch}
use Rattle.occ_meaning.specs.Rename.{stands, stands_in_waiting, stands_in_some, stands_in_cases, stands_in_branches}
use Rattle.occ_names.specs.declared.mention.Mention.{Mention}
use Rattle.occ_names.specs.declared.mention.Mention.TheVariants.{Read, Write, End, Declare}
use Rattle.occ_names.specs.Once.{has, same_number}
use Rattle.occ_names.specs.Mentions.{called, reads, reads_of_all, writes, mentions_of_waiting, hidden, outside, mentions, mentions_of_all, mentions_of_cases, mentions_of_branches, used, set_in, ends_in, declared_in, same_end}
use Rattle.occ_names.specs.Captures.{is_captured, captures}
use Rattle.occ_names.proofs.Listed.{or_nothing, swap, numbers_tested}

-- ---- one mention more

used-cons : (m : Mention) (ms : List Mention) → used (m ∷ ms) ≡ used (m ∷ []) ++ used ms
used-cons (Read x) ms = refl
used-cons (Write x) ms = refl
used-cons (End x d) ms = refl
used-cons (Declare x) ms = refl

set_in-cons : (m : Mention) (ms : List Mention) → set_in (m ∷ ms) ≡ set_in (m ∷ []) ++ set_in ms
set_in-cons (Read x) ms = refl
set_in-cons (Write x) ms = refl
set_in-cons (End x d) ms = refl
set_in-cons (Declare x) ms = refl

ends_in-cons : (m : Mention) (ms : List Mention) → ends_in (m ∷ ms) ≡ ends_in (m ∷ []) ++ ends_in ms
ends_in-cons (Read x) ms = refl
ends_in-cons (Write x) ms = refl
ends_in-cons (End x d) ms = refl
ends_in-cons (Declare x) ms = refl

-- ---- tests of mentions

abbrev uses_it : ℕ → Mention → Bool
uses_it x (Read y) = x == y.0
uses_it x (Write y) = x == y.0
uses_it x (End y d) = x == y.0
uses_it x (Declare y) = false

abbrev sets_it : ℕ → Mention → Bool
sets_it x (Read y) = false
sets_it x (Write y) = x == y.0
sets_it x (End y d) = false
sets_it x (Declare y) = false

abbrev ends_it : ℕ → Dir → Mention → Bool
ends_it c d (Read y) = false
ends_it c d (Write y) = false
ends_it c d (End y e) = (c == y.0) && same_dir d e
ends_it c d (Declare y) = false

abbrev has_it : ℕ → Mention → Bool
has_it x (Read y) = x == y.0
has_it x (Write y) = x == y.0
has_it x (End y d) = x == y.0
has_it x (Declare y) = x == y.0

used_has : (ms : List Mention) (x : ℕ) → has same_number (used ms) x ≡ list_any (uses_it x) ms
used_has [] x = refl
used_has (Read y ∷ ms) x = ap (λ b. (x == y.0) || b) (used_has ms x)
used_has (Write y ∷ ms) x = ap (λ b. (x == y.0) || b) (used_has ms x)
used_has (End y d ∷ ms) x = ap (λ b. (x == y.0) || b) (used_has ms x)
used_has (Declare y ∷ ms) x = used_has ms x

set_has : (ms : List Mention) (x : ℕ) → has same_number (set_in ms) x ≡ list_any (sets_it x) ms
set_has [] x = refl
set_has (Read y ∷ ms) x = set_has ms x
set_has (Write y ∷ ms) x = ap (λ b. (x == y.0) || b) (set_has ms x)
set_has (End y d ∷ ms) x = set_has ms x
set_has (Declare y ∷ ms) x = set_has ms x

ends_has : (ms : List Mention) (c : ℕ) (d : Dir) → has same_end (ends_in ms) (c, d) ≡ list_any (ends_it c d) ms
ends_has [] c d = refl
ends_has (Read y ∷ ms) c d = ends_has ms c d
ends_has (Write y ∷ ms) c d = ends_has ms c d
ends_has (End y e ∷ ms) c d = ap (λ b. ((c == y.0) && same_dir d e) || b) (ends_has ms c d)
ends_has (Declare y ∷ ms) c d = ends_has ms c d

-- ---- where the uses of a name are taken out

out_at : (a h b rest all : Bool) → (a ≡ true → h ≡ b) → rest ≡ (not b && all) → cond h rest (a || rest) ≡ (not b && (a || all))
out_at true h true rest all e f = ap (λ k. cond k rest true) (e refl) ∙ f
out_at true h false rest all e f = ap (λ k. cond k rest true) (e refl)
out_at false true b rest all e f = f
out_at false false b rest all e f = f

any_cond : (f : Mention → Bool) (h : Bool) (m : Mention) (ms : List Mention) → list_any f (cond h ms (m ∷ ms)) ≡ cond h (list_any f ms) (f m || list_any f ms)
any_cond f true m ms = refl
any_cond f false m ms = refl

any_outside : (f : Mention → Bool) (y : ℕ) (b : Bool) → ((m : Mention) → f m ≡ true → hidden (y ∷ []) m ≡ b) → (ms : List Mention)
    → list_any f (outside (y ∷ []) ms) ≡ (not b && list_any f ms)
any_outside f y true h [] = refl
any_outside f y false h [] = refl
any_outside f y b h (m ∷ ms) =
    any_cond f (hidden (y ∷ []) m) m (outside (y ∷ []) ms)
    ∙ out_at (f m) (hidden (y ∷ []) m) b (list_any f (outside (y ∷ []) ms)) (list_any f ms) (h m) (any_outside f y b h ms)

same_hidden : (x y z : ℕ) → (x == z) ≡ true → ((z == y) || false) ≡ (x == y)
same_hidden x y z e = or_nothing (z == y) ∙ ap (λ n. n == y) (sym (eqb-true x z e))

uses_hidden : (x y : ℕ) (m : Mention) → uses_it x m ≡ true → hidden (y ∷ []) m ≡ (x == y)
uses_hidden x y (Read z) e = same_hidden x y z.0 e
uses_hidden x y (Write z) e = same_hidden x y z.0 e
uses_hidden x y (End z d) e = same_hidden x y z.0 e
uses_hidden x y (Declare z) e = absurd (true≢false (sym e))

sets_hidden : (x y : ℕ) (m : Mention) → sets_it x m ≡ true → hidden (y ∷ []) m ≡ (x == y)
sets_hidden x y (Read z) e = absurd (true≢false (sym e))
sets_hidden x y (Write z) e = same_hidden x y z.0 e
sets_hidden x y (End z d) e = absurd (true≢false (sym e))
sets_hidden x y (Declare z) e = absurd (true≢false (sym e))

ends_hidden : (c : ℕ) (d : Dir) (y : ℕ) (m : Mention) → ends_it c d m ≡ true → hidden (y ∷ []) m ≡ (c == y)
ends_hidden c d y (Read z) e = absurd (true≢false (sym e))
ends_hidden c d y (Write z) e = absurd (true≢false (sym e))
ends_hidden c d y (End z b) e = same_hidden c y z.0 (and_parts (c == z.0) (same_dir d b) e).0
ends_hidden c d y (Declare z) e = absurd (true≢false (sym e))

has_hidden : (x y : ℕ) → (x == y) ≡ false → (m : Mention) → has_it x m ≡ true → hidden (y ∷ []) m ≡ false
has_hidden x y n (Read z) e = same_hidden x y z.0 e ∙ n
has_hidden x y n (Write z) e = same_hidden x y z.0 e ∙ n
has_hidden x y n (End z d) e = same_hidden x y z.0 e ∙ n
has_hidden x y n (Declare z) e = refl

-- ---- two rows of mentions

both : (f : Mention → Bool) (ms ns : List Mention) (a b : Bool) → list_any f ms ≡ a → list_any f ns ≡ b → list_any f (ms ++ ns) ≡ (a || b)
both f ms ns a b e g = list_any-append f ms ns ∙ ap (λ c. c || list_any f ns) e ∙ ap (λ c. a || c) g

neither : (f : Mention → Bool) (ms ns : List Mention) → list_any f ms ≡ false → list_any f ns ≡ false → list_any f (ms ++ ns) ≡ false
neither f ms ns e g = both f ms ns false false e g

-- ---- the free names

uses_reads : (e : Exp) (x : ℕ) → list_any (uses_it x) (reads e) ≡ names e x
uses_reads (variable y) x = or_nothing (x == y)
uses_reads (numeral bits value) x = refl
uses_reads (truth b) x = refl
uses_reads (negation e) x = uses_reads e x
uses_reads (complement e) x = uses_reads e x
uses_reads (operation op left right) x = both (uses_it x) (reads left) (reads right) _ _ (uses_reads left x) (uses_reads right x)

uses_reads_all : (es : List Exp) (x : ℕ) → list_any (uses_it x) (reads_of_all es) ≡ some_names es x
uses_reads_all [] x = refl
uses_reads_all (e ∷ es) x = both (uses_it x) (reads e) (reads_of_all es) _ _ (uses_reads e x) (uses_reads_all es x)

uses_writes : (xs : List ℕ) (x : ℕ) → list_any (uses_it x) (writes xs) ≡ is_in xs x
uses_writes [] x = refl
uses_writes (y ∷ xs) x = ap (λ b. (x == y) || b) (uses_writes xs x)

or_again : (a b : Bool) → (a || (b || false)) ≡ (a || b)
or_again a b = ap (λ c. a || c) (or_nothing b)

uses_waiting : (w : Waiting) (x : ℕ) → list_any (uses_it x) (mentions_of_waiting w) ≡ free_in_waiting w x
uses_waiting ready x = refl
uses_waiting (input c y) x = or_again (x == c) (x == y)
uses_waiting (output c e) x = ap (λ b. (x == c) || b) (uses_reads e x)

mutual
  uses_part : (p : Tree) (x : ℕ) → list_any (uses_it x) (mentions p) ≡ free p x
  uses_part skip x = refl
  uses_part stop x = refl
  uses_part (assign xs es) x = both (uses_it x) (writes xs) (reads_of_all es) _ _ (uses_writes xs x) (uses_reads_all es x)
  uses_part (receive c y) x = or_again (x == c) (x == y)
  uses_part (send c e) x = ap (λ b. (x == c) || b) (uses_reads e x)
  uses_part (seq ps) x = uses_all ps x
  uses_part (par ps) x = uses_all ps x
  uses_part (select cs) x = uses_cases cs x
  uses_part (alt bs) x = uses_branches bs x
  uses_part (declare y w p) x = any_outside (uses_it x) y (x == y) (uses_hidden x y) (mentions p) ∙ ap (λ b. not (x == y) && b) (uses_part p x)
  uses_part (connect y w p) x = any_outside (uses_it x) y (x == y) (uses_hidden x y) (mentions p) ∙ ap (λ b. not (x == y) && b) (uses_part p x)

  uses_all : (ps : Trees) (x : ℕ) → list_any (uses_it x) (mentions_of_all ps) ≡ free_in_some ps x
  uses_all no_tree x = refl
  uses_all (and_tree p ps) x = both (uses_it x) (mentions p) (mentions_of_all ps) _ _ (uses_part p x) (uses_all ps x)

  uses_cases : (cs : Cases) (x : ℕ) → list_any (uses_it x) (mentions_of_cases cs) ≡ free_in_cases cs x
  uses_cases no_case x = refl
  uses_cases (and_case e p cs) x =
      both (uses_it x) (reads e ++ mentions p) (mentions_of_cases cs) _ _ (both (uses_it x) (reads e) (mentions p) _ _ (uses_reads e x) (uses_part p x)) (uses_cases cs x)

  uses_branches : (bs : Branches) (x : ℕ) → list_any (uses_it x) (mentions_of_branches bs) ≡ free_in_branches bs x
  uses_branches no_branch x = refl
  uses_branches (and_branch e w p bs) x =
      both (uses_it x) ((reads e ++ mentions_of_waiting w) ++ mentions p) (mentions_of_branches bs) _ _
      (both (uses_it x) (reads e ++ mentions_of_waiting w) (mentions p) _ _ (both (uses_it x) (reads e) (mentions_of_waiting w) _ _ (uses_reads e x) (uses_waiting w x)) (uses_part p x))
      (uses_branches bs x)

pub free_is : (p : Tree) (x : ℕ) → has same_number (used (mentions p)) x ≡ free p x
free_is p x = used_has (mentions p) x ∙ uses_part p x

-- ---- the written names

sets_reads : (e : Exp) (x : ℕ) → list_any (sets_it x) (reads e) ≡ false
sets_reads (variable y) x = refl
sets_reads (numeral bits value) x = refl
sets_reads (truth b) x = refl
sets_reads (negation e) x = sets_reads e x
sets_reads (complement e) x = sets_reads e x
sets_reads (operation op left right) x = neither (sets_it x) (reads left) (reads right) (sets_reads left x) (sets_reads right x)

sets_reads_all : (es : List Exp) (x : ℕ) → list_any (sets_it x) (reads_of_all es) ≡ false
sets_reads_all [] x = refl
sets_reads_all (e ∷ es) x = neither (sets_it x) (reads e) (reads_of_all es) (sets_reads e x) (sets_reads_all es x)

sets_writes : (xs : List ℕ) (x : ℕ) → list_any (sets_it x) (writes xs) ≡ is_in xs x
sets_writes [] x = refl
sets_writes (y ∷ xs) x = ap (λ b. (x == y) || b) (sets_writes xs x)

sets_waiting : (w : Waiting) (x : ℕ) → list_any (sets_it x) (mentions_of_waiting w) ≡ written_in_waiting w x
sets_waiting ready x = refl
sets_waiting (input c y) x = or_nothing (x == y)
sets_waiting (output c e) x = sets_reads e x

mutual
  sets_part : (p : Tree) (x : ℕ) → list_any (sets_it x) (mentions p) ≡ written p x
  sets_part skip x = refl
  sets_part stop x = refl
  sets_part (assign xs es) x = both (sets_it x) (writes xs) (reads_of_all es) _ _ (sets_writes xs x) (sets_reads_all es x) ∙ or_nothing (is_in xs x)
  sets_part (receive c y) x = or_nothing (x == y)
  sets_part (send c e) x = sets_reads e x
  sets_part (seq ps) x = sets_all ps x
  sets_part (par ps) x = sets_all ps x
  sets_part (select cs) x = sets_cases cs x
  sets_part (alt bs) x = sets_branches bs x
  sets_part (declare y w p) x = any_outside (sets_it x) y (x == y) (sets_hidden x y) (mentions p) ∙ ap (λ b. not (x == y) && b) (sets_part p x)
  sets_part (connect y w p) x = any_outside (sets_it x) y (x == y) (sets_hidden x y) (mentions p) ∙ ap (λ b. not (x == y) && b) (sets_part p x)

  sets_all : (ps : Trees) (x : ℕ) → list_any (sets_it x) (mentions_of_all ps) ≡ written_in_some ps x
  sets_all no_tree x = refl
  sets_all (and_tree p ps) x = both (sets_it x) (mentions p) (mentions_of_all ps) _ _ (sets_part p x) (sets_all ps x)

  sets_cases : (cs : Cases) (x : ℕ) → list_any (sets_it x) (mentions_of_cases cs) ≡ written_in_cases cs x
  sets_cases no_case x = refl
  sets_cases (and_case e p cs) x =
      both (sets_it x) (reads e ++ mentions p) (mentions_of_cases cs) _ _ (both (sets_it x) (reads e) (mentions p) _ _ (sets_reads e x) (sets_part p x)) (sets_cases cs x)

  sets_branches : (bs : Branches) (x : ℕ) → list_any (sets_it x) (mentions_of_branches bs) ≡ written_in_branches bs x
  sets_branches no_branch x = refl
  sets_branches (and_branch e w p bs) x =
      both (sets_it x) ((reads e ++ mentions_of_waiting w) ++ mentions p) (mentions_of_branches bs) _ _
      (both (sets_it x) (reads e ++ mentions_of_waiting w) (mentions p) _ _ (both (sets_it x) (reads e) (mentions_of_waiting w) _ _ (sets_reads e x) (sets_waiting w x)) (sets_part p x))
      (sets_branches bs x)

pub written_is : (p : Tree) (x : ℕ) → has same_number (set_in (mentions p)) x ≡ written p x
written_is p x = set_has (mentions p) x ∙ sets_part p x

-- ---- the ends

ends_reads : (e : Exp) (c : ℕ) (d : Dir) → list_any (ends_it c d) (reads e) ≡ false
ends_reads (variable y) c d = refl
ends_reads (numeral bits value) c d = refl
ends_reads (truth b) c d = refl
ends_reads (negation e) c d = ends_reads e c d
ends_reads (complement e) c d = ends_reads e c d
ends_reads (operation op left right) c d = neither (ends_it c d) (reads left) (reads right) (ends_reads left c d) (ends_reads right c d)

ends_reads_all : (es : List Exp) (c : ℕ) (d : Dir) → list_any (ends_it c d) (reads_of_all es) ≡ false
ends_reads_all [] c d = refl
ends_reads_all (e ∷ es) c d = neither (ends_it c d) (reads e) (reads_of_all es) (ends_reads e c d) (ends_reads_all es c d)

ends_writes : (xs : List ℕ) (c : ℕ) (d : Dir) → list_any (ends_it c d) (writes xs) ≡ false
ends_writes [] c d = refl
ends_writes (y ∷ xs) c d = ends_writes xs c d

ends_waiting : (w : Waiting) (c : ℕ) (d : Dir) → list_any (ends_it c d) (mentions_of_waiting w) ≡ end_in_waiting w c d
ends_waiting ready c d = refl
ends_waiting (input b y) c d = or_nothing ((c == b) && same_dir d Input)
ends_waiting (output b e) c d = ap (λ k. ((c == b) && same_dir d Output) || k) (ends_reads e c d) ∙ or_nothing ((c == b) && same_dir d Output)

mutual
  ends_part : (p : Tree) (c : ℕ) (d : Dir) → list_any (ends_it c d) (mentions p) ≡ uses_end p c d
  ends_part skip c d = refl
  ends_part stop c d = refl
  ends_part (assign xs es) c d = neither (ends_it c d) (writes xs) (reads_of_all es) (ends_writes xs c d) (ends_reads_all es c d)
  ends_part (receive b y) c d = or_nothing ((c == b) && same_dir d Input)
  ends_part (send b e) c d = ap (λ k. ((c == b) && same_dir d Output) || k) (ends_reads e c d) ∙ or_nothing ((c == b) && same_dir d Output)
  ends_part (seq ps) c d = ends_all ps c d
  ends_part (par ps) c d = ends_all ps c d
  ends_part (select cs) c d = ends_cases cs c d
  ends_part (alt bs) c d = ends_branches bs c d
  ends_part (declare y w p) c d = any_outside (ends_it c d) y (c == y) (ends_hidden c d y) (mentions p) ∙ ap (λ b. not (c == y) && b) (ends_part p c d)
  ends_part (connect y w p) c d = any_outside (ends_it c d) y (c == y) (ends_hidden c d y) (mentions p) ∙ ap (λ b. not (c == y) && b) (ends_part p c d)

  ends_all : (ps : Trees) (c : ℕ) (d : Dir) → list_any (ends_it c d) (mentions_of_all ps) ≡ end_in_some ps c d
  ends_all no_tree c d = refl
  ends_all (and_tree p ps) c d = both (ends_it c d) (mentions p) (mentions_of_all ps) _ _ (ends_part p c d) (ends_all ps c d)

  ends_cases : (cs : Cases) (c : ℕ) (d : Dir) → list_any (ends_it c d) (mentions_of_cases cs) ≡ end_in_cases cs c d
  ends_cases no_case c d = refl
  ends_cases (and_case e p cs) c d =
      both (ends_it c d) (reads e ++ mentions p) (mentions_of_cases cs) _ _ (both (ends_it c d) (reads e) (mentions p) _ _ (ends_reads e c d) (ends_part p c d)) (ends_cases cs c d)

  ends_branches : (bs : Branches) (c : ℕ) (d : Dir) → list_any (ends_it c d) (mentions_of_branches bs) ≡ end_in_branches bs c d
  ends_branches no_branch c d = refl
  ends_branches (and_branch e w p bs) c d =
      both (ends_it c d) ((reads e ++ mentions_of_waiting w) ++ mentions p) (mentions_of_branches bs) _ _
      (both (ends_it c d) (reads e ++ mentions_of_waiting w) (mentions p) _ _ (both (ends_it c d) (reads e) (mentions_of_waiting w) _ _ (ends_reads e c d) (ends_waiting w c d)) (ends_part p c d))
      (ends_branches bs c d)

pub ends_are : (p : Tree) (c : ℕ) (d : Dir) → has same_end (ends_in (mentions p)) (c, d) ≡ uses_end p c d
ends_are p c d = ends_has (mentions p) c d ∙ ends_part p c d

-- ---- the names that stand anywhere

has_reads : (e : Exp) (x : ℕ) → list_any (has_it x) (reads e) ≡ names e x
has_reads (variable y) x = or_nothing (x == y)
has_reads (numeral bits value) x = refl
has_reads (truth b) x = refl
has_reads (negation e) x = has_reads e x
has_reads (complement e) x = has_reads e x
has_reads (operation op left right) x = both (has_it x) (reads left) (reads right) _ _ (has_reads left x) (has_reads right x)

has_reads_all : (es : List Exp) (x : ℕ) → list_any (has_it x) (reads_of_all es) ≡ some_names es x
has_reads_all [] x = refl
has_reads_all (e ∷ es) x = both (has_it x) (reads e) (reads_of_all es) _ _ (has_reads e x) (has_reads_all es x)

has_writes : (xs : List ℕ) (x : ℕ) → list_any (has_it x) (writes xs) ≡ is_in xs x
has_writes [] x = refl
has_writes (y ∷ xs) x = ap (λ b. (x == y) || b) (has_writes xs x)

has_waiting : (w : Waiting) (x : ℕ) → list_any (has_it x) (mentions_of_waiting w) ≡ stands_in_waiting w x
has_waiting ready x = refl
has_waiting (input c y) x = or_again (x == c) (x == y)
has_waiting (output c e) x = ap (λ b. (x == c) || b) (has_reads e x)

-- a declaration takes out uses of its own name alone, and stands there itself
declared_at : (b : Bool) (x y : ℕ) (ms : List Mention) → (x == y) ≡ b → (b || list_any (has_it x) (outside (y ∷ []) ms)) ≡ (b || list_any (has_it x) ms)
declared_at true x y ms e = refl
declared_at false x y ms e = any_outside (has_it x) y false (has_hidden x y e) ms

mutual
  has_part : (p : Tree) (x : ℕ) → list_any (has_it x) (mentions p) ≡ stands p x
  has_part skip x = refl
  has_part stop x = refl
  has_part (assign xs es) x = both (has_it x) (writes xs) (reads_of_all es) _ _ (has_writes xs x) (has_reads_all es x)
  has_part (receive c y) x = or_again (x == c) (x == y)
  has_part (send c e) x = ap (λ b. (x == c) || b) (has_reads e x)
  has_part (seq ps) x = has_all ps x
  has_part (par ps) x = has_all ps x
  has_part (select cs) x = has_cases cs x
  has_part (alt bs) x = has_branches bs x
  has_part (declare y w p) x = declared_at (x == y) x y (mentions p) refl ∙ ap (λ b. (x == y) || b) (has_part p x)
  has_part (connect y w p) x = declared_at (x == y) x y (mentions p) refl ∙ ap (λ b. (x == y) || b) (has_part p x)

  has_all : (ps : Trees) (x : ℕ) → list_any (has_it x) (mentions_of_all ps) ≡ stands_in_some ps x
  has_all no_tree x = refl
  has_all (and_tree p ps) x = both (has_it x) (mentions p) (mentions_of_all ps) _ _ (has_part p x) (has_all ps x)

  has_cases : (cs : Cases) (x : ℕ) → list_any (has_it x) (mentions_of_cases cs) ≡ stands_in_cases cs x
  has_cases no_case x = refl
  has_cases (and_case e p cs) x =
      both (has_it x) (reads e ++ mentions p) (mentions_of_cases cs) _ _ (both (has_it x) (reads e) (mentions p) _ _ (has_reads e x) (has_part p x)) (has_cases cs x)

  has_branches : (bs : Branches) (x : ℕ) → list_any (has_it x) (mentions_of_branches bs) ≡ stands_in_branches bs x
  has_branches no_branch x = refl
  has_branches (and_branch e w p bs) x =
      both (has_it x) ((reads e ++ mentions_of_waiting w) ++ mentions p) (mentions_of_branches bs) _ _
      (both (has_it x) (reads e ++ mentions_of_waiting w) (mentions p) _ _ (both (has_it x) (reads e) (mentions_of_waiting w) _ _ (has_reads e x) (has_waiting w x)) (has_part p x))
      (has_branches bs x)

-- ---- captures

swapped : (x y : ℕ) → (x == y) ≡ (y == x)
swapped x y = swap same_number numbers_tested x y

or_first : (a b c : Bool) → ((a || b) || c) ≡ (a || (b || c))
or_first true b c = refl
or_first false b c = refl

or_mid : (a b c d : Bool) → ((a || b) || (c || d)) ≡ ((a || c) || (b || d))
or_mid true b c d = refl
or_mid false true true d = refl
or_mid false true false d = refl
or_mid false false c d = refl

captured_in : (old new : ℕ) (ms : List Mention) → list_any (is_captured old new) ms ≡ (list_any (has_it new) ms || is_in (declared_in ms) old)
captured_in old new [] = refl
captured_in old new (Read y ∷ ms) =
    ap (λ b. b || list_any (is_captured old new) ms) (swapped y.0 new) ∙ ap (λ b. (new == y.0) || b) (captured_in old new ms) ∙ sym (or_first (new == y.0) _ _)
captured_in old new (Write y ∷ ms) =
    ap (λ b. b || list_any (is_captured old new) ms) (swapped y.0 new) ∙ ap (λ b. (new == y.0) || b) (captured_in old new ms) ∙ sym (or_first (new == y.0) _ _)
captured_in old new (End y d ∷ ms) =
    ap (λ b. b || list_any (is_captured old new) ms) (swapped y.0 new) ∙ ap (λ b. (new == y.0) || b) (captured_in old new ms) ∙ sym (or_first (new == y.0) _ _)
captured_in old new (Declare y ∷ ms) =
    ap (λ b. (b || (y.0 == old)) || list_any (is_captured old new) ms) (swapped y.0 new) ∙ ap (λ b. ((new == y.0) || b) || list_any (is_captured old new) ms) (swapped y.0 old)
    ∙ ap (λ b. ((new == y.0) || (old == y.0)) || b) (captured_in old new ms) ∙ or_mid (new == y.0) (old == y.0) _ _

pub captures_is : (p : Tree) (old new : ℕ) → list_any (is_captured old new) (mentions p) ≡ captures p old new
captures_is p old new = captured_in old new (mentions p) ∙ ap (λ b. b || is_in (declared_in (mentions p)) old) (has_part p new)

-- ---- one mention further

pub next_used : (ms : List Mention) (i : ℕ) → i < length ms → used (drop i ms) ≡ used (get_or ms i (Read (called 0)) ∷ []) ++ used (drop (i + 1) ms)
next_used ms i h = at_drop_more used ms i (Read (called 0)) h ∙ used-cons (get_or ms i (Read (called 0))) (drop (i + 1) ms)

pub next_set_in : (ms : List Mention) (i : ℕ) → i < length ms → set_in (drop i ms) ≡ set_in (get_or ms i (Read (called 0)) ∷ []) ++ set_in (drop (i + 1) ms)
next_set_in ms i h = at_drop_more set_in ms i (Read (called 0)) h ∙ set_in-cons (get_or ms i (Read (called 0))) (drop (i + 1) ms)

pub next_ends_in : (ms : List Mention) (i : ℕ) → i < length ms → ends_in (drop i ms) ≡ ends_in (get_or ms i (Read (called 0)) ∷ []) ++ ends_in (drop (i + 1) ms)
next_ends_in ms i h = at_drop_more ends_in ms i (Read (called 0)) h ∙ ends_in-cons (get_or ms i (Read (called 0))) (drop (i + 1) ms)
