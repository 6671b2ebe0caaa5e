-- Sets to which the names of parts are added.
use Rattle.std.proofs.Common.{◌≡◌, ℕ, ◌+◌, ◌<◌, ◌≤◌, Bool, true, false, cond, ◌&&◌, ◌||◌, List, [], ◌∷◌, ◌++◌, length, get_or, take, drop, refl, sym, ap, ◌∙◌, subst}
use mathlib.Core.Bool.{beq}
use Rattle.std.proofs.lemmas.Bool.{and_parts}
use Rattle.std.proofs.lemmas.List.{at_drop_more, at_drop_all, take_more}
use Rattle.occ_syntax.specs.occ_base.declared.event.Dir.{Dir}
use Rattle.occ_syntax.specs.occ_base.declared.event.Dir.TheVariants.{Input}
use Rattle.occ_syntax.specs.occ_base.declared.names.Name.{Name}
use Rattle.occ_syntax.specs.declared.proc.Proc.{Proc}
use Rattle.occ_syntax.specs.Names.{is_in, free, written, uses_end, free_in_some, written_in_some, end_in_some}
use Rattle.occ_syntax.specs.Tree.{Tree, Trees, no_tree, and_tree}
use Rattle.occ_syntax.specs.View.{numbers, tree, trees}
use Rattle.occ_names.specs.Once.{has, with_one, same_number}
use Rattle.occ_names.specs.Mentions.{called, same_end, end_number, end_numbers}
use Rattle.occ_names.proofs.Listed.{IsTest, has_more_at, swap, or_nothing, numbers_tested}
use Rattle.occ_usage.specs.Faults.{shared_variable, shared_end}
use Rattle.occ_usage.specs.Sharing.{Shares, with_part}

-- ---- equations of tests, tried at each of their values

abbrev pub each : (Bool → Bool) → Bool
each h = h true && h false

each_at : (h : Bool → Bool) → each h ≡ true → (b : Bool) → h b ≡ true
each_at h e true = (and_parts _ _ e).0
each_at h e false = (and_parts _ _ e).1

at3 : (E : Bool → Bool → Bool → Bool) → each (λ a. each (λ b. each (E a b))) ≡ true → (a b c : Bool) → E a b c ≡ true
at3 E h a b c = each_at (E a b) (each_at (λ y. each (E a y)) (each_at (λ x. each (λ y. each (E x y))) h a) b) c

pub at4 : (E : Bool → Bool → Bool → Bool → Bool) → each (λ a. each (λ b. each (λ c. each (E a b c)))) ≡ true → (a b c d : Bool) → E a b c d ≡ true
at4 E h a b c d = each_at (E a b c) (at3 (λ x y z. each (E x y z)) h a b c) d

at7 : (E : Bool → Bool → Bool → Bool → Bool → Bool → Bool → Bool)
    → each (λ a. each (λ b. each (λ c. each (λ d. each (λ e. each (λ f. each (E a b c d e f))))))) ≡ true → (a b c d e f g : Bool) → E a b c d e f g ≡ true
at7 E h a b c d e f g = at3 (E a b c d) (at4 (λ w x y z. each (λ t. each (λ u. each (E w x y z t u)))) h a b c d) e f g

pub beq_tells : (a b : Bool) → beq a b ≡ true → a ≡ b
beq_tells true true e = refl
beq_tells true false e = cc
beq_tells false true e = cc
beq_tells false false e = refl

-- ---- one item more

module _ {T : Type 0} (same : T → T → Bool) (test : IsTest same) where
  there_already : (a b : Bool) → (a ≡ true → b ≡ true) → b ≡ (b || a)
  there_already true b f = f refl ∙ ap (λ c. c || true) (sym (f refl))
  there_already false b f = sym (or_nothing b)

  has_with_one_at : (b : Bool) (xs : List T) (x y : T) → has same xs x ≡ b → has same (cond b xs (xs ++ x ∷ [])) y ≡ (has same xs y || same x y)
  has_with_one_at true xs x y e = there_already (same x y) (has same xs y) (λ f. subst (λ z. has same xs z ≡ true) (test.tells x y f) e)
  has_with_one_at false xs x y e = has_more_at same test xs x y

  pub has_with_one : (xs : List T) (x y : T) → has same (with_one same xs x) y ≡ (has same xs y || same x y)
  has_with_one xs x y = has_with_one_at (has same xs x) xs x y refl

  pub or_first : (a b c : Bool) → ((a || b) || c) ≡ (a || (b || c))
  or_first true b c = refl
  or_first false b c = refl

  pub add_step : (xs ys : List T) (n : T) (rest whole : List T) (x : T) (all : Bool) → ys ≡ with_one same xs n → whole ≡ n ∷ rest → (has same xs x || has same whole x) ≡ all
      → (has same ys x || has same rest x) ≡ all
  add_step xs ys n rest whole x all e f h =
      ap (λ zs. has same zs x || has same rest x) e ∙ ap (λ b. b || has same rest x) (has_with_one xs n x) ∙ or_first (has same xs x) (same n x) (has same rest x)
      ∙ ap (λ b. has same xs x || (b || has same rest x)) (swap same test n x) ∙ sym (ap (λ ws. has same xs x || has same ws x) f) ∙ h

  abbrev share_test : Bool → Bool → Bool → Bool → Bool
  share_test a s r o = beq ((a || (s && o)) || (r && o)) (a || ((s || r) && o))

  shared_so : (a s r o : Bool) → ((a || (s && o)) || (r && o)) ≡ (a || ((s || r) && o))
  shared_so a s r o = beq_tells _ _ (at4 share_test refl a s r o)

  pub share_step : (xs ys os : List T) (n : T) (rest whole : List T) (x : T) (all : Bool) → has same ys x ≡ (has same xs x || (same x n && has same os x)) → whole ≡ n ∷ rest
      → (has same xs x || (has same whole x && has same os x)) ≡ all → (has same ys x || (has same rest x && has same os x)) ≡ all
  share_step xs ys os n rest whole x all e f h =
      ap (λ b. b || (has same rest x && has same os x)) e ∙ shared_so (has same xs x) (same x n) (has same rest x) (has same os x)
      ∙ sym (ap (λ ws. has same xs x || (has same ws x && has same os x)) f) ∙ h

  pub all_added : (xs rest : List T) (x : T) (all : Bool) → rest ≡ [] → (has same xs x || has same rest x) ≡ all → has same xs x ≡ all
  all_added xs rest x all e h = sym (or_nothing (has same xs x)) ∙ ap (λ ws. has same xs x || has same ws x) (sym e) ∙ h

  pub all_shared : (xs rest os : List T) (x : T) (all : Bool) → rest ≡ [] → (has same xs x || (has same rest x && has same os x)) ≡ all → has same xs x ≡ all
  all_shared xs rest os x all e h = sym (or_nothing (has same xs x)) ∙ ap (λ ws. has same xs x || (has same ws x && has same os x)) (sym e) ∙ h

pub next_name : (xs : List Name) (i : ℕ) → i < length xs → numbers (drop i xs) ≡ (get_or xs i (called 0)).0 ∷ numbers (drop (i + 1) xs)
next_name xs i h = at_drop_more numbers xs i (called 0) h

pub no_name : (xs : List Name) (i : ℕ) → length xs ≤ i → numbers (drop i xs) ≡ []
no_name xs i h = at_drop_all numbers xs i h

pub next_end : (xs : List (Name × Dir)) (i : ℕ) → i < length xs → end_numbers (drop i xs) ≡ end_number (get_or xs i (called 0, Input)) ∷ end_numbers (drop (i + 1) xs)
next_end xs i h = at_drop_more end_numbers xs i (called 0, Input) h

pub no_end_left : (xs : List (Name × Dir)) (i : ℕ) → length xs ≤ i → end_numbers (drop i xs) ≡ []
no_end_left xs i h = at_drop_all end_numbers xs i h

-- ---- one part more

free_more : (ps : Trees) (p : Tree) (x : ℕ) → free_in_some (with_part ps p) x ≡ (free_in_some ps x || free p x)
free_more no_tree p x = or_nothing (free p x)
free_more (and_tree q ps) p x = ap (λ b. free q x || b) (free_more ps p x) ∙ sym (or_first same_number numbers_tested (free q x) (free_in_some ps x) (free p x))

written_more : (ps : Trees) (p : Tree) (x : ℕ) → written_in_some (with_part ps p) x ≡ (written_in_some ps x || written p x)
written_more no_tree p x = or_nothing (written p x)
written_more (and_tree q ps) p x = ap (λ b. written q x || b) (written_more ps p x) ∙ sym (or_first same_number numbers_tested (written q x) (written_in_some ps x) (written p x))

end_more : (ps : Trees) (p : Tree) (c : ℕ) (d : Dir) → end_in_some (with_part ps p) c d ≡ (end_in_some ps c d || uses_end p c d)
end_more no_tree p c d = or_nothing (uses_end p c d)
end_more (and_tree q ps) p c d = ap (λ b. uses_end q c d || b) (end_more ps p c d) ∙ sym (or_first same_number numbers_tested (uses_end q c d) (end_in_some ps c d) (uses_end p c d))

abbrev variable_test : Bool → Bool → Bool → Bool → Bool → Bool → Bool → Bool
variable_test wq fq F W S w f =
    beq (((wq && (F || f)) || (fq && (W || w))) || ((S || (f && W)) || (w && F))) ((((((wq && F) || (fq && W)) || S) || (f && (wq || W)))) || (w && (fq || F)))

variables_so : (wq fq F W S w f : Bool)
    → (((wq && (F || f)) || (fq && (W || w))) || ((S || (f && W)) || (w && F))) ≡ ((((((wq && F) || (fq && W)) || S) || (f && (wq || W)))) || (w && (fq || F)))
variables_so wq fq F W S w f = beq_tells _ _ (at7 variable_test refl wq fq F W S w f)

first_variable : (w f k : Bool) → (((w && false) || (f && false)) || false) ≡ ((false || (f && false)) || (w && false))
first_variable w f k = beq_tells _ _ (at3 (λ x y z. beq (((x && false) || (y && false)) || false) ((false || (y && false)) || (x && false))) refl w f k)

variable_more : (ps : Trees) (p : Tree) (x : ℕ)
    → shared_variable (with_part ps p) x ≡ ((shared_variable ps x || (free p x && written_in_some ps x)) || (written p x && free_in_some ps x))
variable_more no_tree p x = first_variable (written p x) (free p x) true
variable_more (and_tree q ps) p x =
    ap (λ b. ((written q x && b) || (free q x && written_in_some (with_part ps p) x)) || shared_variable (with_part ps p) x) (free_more ps p x)
    ∙ ap (λ b. ((written q x && (free_in_some ps x || free p x)) || (free q x && b)) || shared_variable (with_part ps p) x) (written_more ps p x)
    ∙ ap (λ b. ((written q x && (free_in_some ps x || free p x)) || (free q x && (written_in_some ps x || written p x))) || b) (variable_more ps p x)
    ∙ variables_so (written q x) (free q x) (free_in_some ps x) (written_in_some ps x) (shared_variable ps x) (written p x) (free p x)

ends_so : (q E S e : Bool) → ((q && (E || e)) || (S || (e && E))) ≡ (((q && E) || S) || (e && (q || E)))
ends_so q E S e = beq_tells _ _ (at4 (λ w x y z. beq ((w && (x || z)) || (y || (z && x))) (((w && x) || y) || (z && (w || x)))) refl q E S e)

first_end : (e : Bool) → ((e && false) || false) ≡ (false || (e && false))
first_end true = refl
first_end false = refl

shared_end_more : (ps : Trees) (p : Tree) (c : ℕ) (d : Dir) → shared_end (with_part ps p) c d ≡ (shared_end ps c d || (uses_end p c d && end_in_some ps c d))
shared_end_more no_tree p c d = first_end (uses_end p c d)
shared_end_more (and_tree q ps) p c d =
    ap (λ b. (uses_end q c d && b) || shared_end (with_part ps p) c d) (end_more ps p c d)
    ∙ ap (λ b. (uses_end q c d && (end_in_some ps c d || uses_end p c d)) || b) (shared_end_more ps p c d)
    ∙ ends_so (uses_end q c d) (end_in_some ps c d) (shared_end ps c d) (uses_end p c d)

-- what the sets say after one part more
pub one_part_more : (ps : Trees) (p : Tree) (n0 n1 w0 w1 s0 s1 s2 fs ws : List ℕ) (u0 u1 e0 e1 es : List (ℕ × Dir))
    → Shares ps n0 w0 u0 s0 e0
    → ((x : ℕ) → is_in fs x ≡ free p x) → ((x : ℕ) → is_in ws x ≡ written p x) → ((c : ℕ) (d : Dir) → has same_end es (c, d) ≡ uses_end p c d)
    → ((x : ℕ) → is_in s1 x ≡ (is_in s0 x || (is_in fs x && is_in w0 x))) → ((x : ℕ) → is_in s2 x ≡ (is_in s1 x || (is_in ws x && is_in n0 x)))
    → ((c : ℕ) (d : Dir) → has same_end e1 (c, d) ≡ (has same_end e0 (c, d) || (has same_end es (c, d) && has same_end u0 (c, d))))
    → ((x : ℕ) → is_in n1 x ≡ (is_in n0 x || is_in fs x)) → ((x : ℕ) → is_in w1 x ≡ (is_in w0 x || is_in ws x))
    → ((c : ℕ) (d : Dir) → has same_end u1 (c, d) ≡ (has same_end u0 (c, d) || has same_end es (c, d)))
    → Shares (with_part ps p) n1 w1 u1 s2 e1
one_part_more ps p n0 n1 w0 w1 s0 s1 s2 fs ws u0 u1 e0 e1 es h isf isw ise g1 g2 g3 g4 g5 g6 = record {
  names = λ x. g4 x ∙ ap (λ b. b || is_in fs x) (h.names x) ∙ ap (λ b. free_in_some ps x || b) (isf x) ∙ sym (free_more ps p x);
  writes = λ x. g5 x ∙ ap (λ b. b || is_in ws x) (h.writes x) ∙ ap (λ b. written_in_some ps x || b) (isw x) ∙ sym (written_more ps p x);
  uses = λ c d. g6 c d ∙ ap (λ b. b || has same_end es (c, d)) (h.uses c d) ∙ ap (λ b. end_in_some ps c d || b) (ise c d) ∙ sym (end_more ps p c d);
  variables = λ x. g2 x ∙ ap (λ b. b || (is_in ws x && is_in n0 x)) (g1 x)
      ∙ ap (λ b. (b || (is_in fs x && is_in w0 x)) || (is_in ws x && is_in n0 x)) (h.variables x)
      ∙ ap (λ b. (shared_variable ps x || (b && is_in w0 x)) || (is_in ws x && is_in n0 x)) (isf x)
      ∙ ap (λ b. (shared_variable ps x || (free p x && b)) || (is_in ws x && is_in n0 x)) (h.writes x)
      ∙ ap (λ b. (shared_variable ps x || (free p x && written_in_some ps x)) || (b && is_in n0 x)) (isw x)
      ∙ ap (λ b. (shared_variable ps x || (free p x && written_in_some ps x)) || (written p x && b)) (h.names x)
      ∙ sym (variable_more ps p x);
  ends = λ c d. g3 c d ∙ ap (λ b. b || (has same_end es (c, d) && has same_end u0 (c, d))) (h.ends c d)
      ∙ ap (λ b. shared_end ps c d || (b && has same_end u0 (c, d))) (ise c d)
      ∙ ap (λ b. shared_end ps c d || (uses_end p c d && b)) (h.uses c d)
      ∙ sym (shared_end_more ps p c d);
}

trees-push : (ps : List Proc) (p : Proc) → trees (ps ++ p ∷ []) ≡ with_part (trees ps) (tree p)
trees-push [] p = refl
trees-push (q ∷ ps) p = ap (and_tree (tree q)) (trees-push ps p)

pub trees_more : (ps : List Proc) (i : ℕ) (p : Proc) → i < length ps → p ≡ get_or ps i p → with_part (trees (take i ps)) (tree p) ≡ trees (take (i + 1) ps)
trees_more ps i p h e =
    ap (λ q. with_part (trees (take i ps)) (tree q)) e ∙ sym (trees-push (take i ps) (get_or ps i p)) ∙ ap trees (sym (take_more ps i p h))
