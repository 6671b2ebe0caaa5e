-- Which names stand in a part, where names are exchanged.
use Rattle.occ_replay_rules.specs.occ_base.declared.event.Dir.{Dir}
use Rattle.occ_replay_rules.specs.occ_base.declared.event.Dir.TheVariants.{Input, Output}
use Rattle.occ_replay_rules.proofs.from_meaning.Renaming.{IsExchange, one_for_one}
use Rattle.occ_replay_rules.specs.occ_meaning.Rename.{all_renamed, branches_renamed, cases_renamed, renamed, renamed_exp, renamed_exps, renamed_names, renamed_waiting, stands, stands_in_branches, stands_in_cases, stands_in_some, stands_in_waiting}
use Rattle.occ_replay_rules.specs.occ_syntax.Names.{end_in_branches, end_in_cases, end_in_some, end_in_waiting, free, free_in_branches, free_in_cases, free_in_some, free_in_waiting, is_in, names, some_names, uses_end, written, written_in_branches, written_in_cases, written_in_some, written_in_waiting}
use Rattle.occ_replay_rules.specs.occ_syntax.Scopes.{same_dir}
use Rattle.occ_replay_rules.specs.occ_syntax.Tree.{Branches, Cases, Exp, Tree, Trees, Waiting, alt, and_branch, and_case, and_tree, assign, complement, connect, declare, input, negation, no_branch, no_case, no_tree, numeral, operation, output, par, ready, receive, select, send, seq, skip, stop, truth, variable}
use Rattle.std.proofs.Common.{Bool, List, [], ap, false, if◌then◌else◌, not, refl, true, ℕ, ◌&&◌, ◌||◌, ◌∙◌, ◌∷◌, ◌≡◌}

pub and2 : {a b c d : Bool} → a ≡ c → b ≡ d → (a && b) ≡ (c && d)
and2 {a} {b} {c} {d} h k = ap (λ z. z && b) h ∙ ap (λ z. c && z) k

pub or2 : {a b c d : Bool} → a ≡ c → b ≡ d → (a || b) ≡ (c || d)
or2 {a} {b} {c} {d} h k = ap (λ z. z || b) h ∙ ap (λ z. c || z) k

-- a function goes into both sides of a test
pub pushed : {A B : Type 0} (g : A → B) (b : Bool) (x y : A) (u v : B) → g x ≡ u → g y ≡ v → g (if b then x else y) ≡ (if b then u else v)
pushed g true x y u v h k = h
pushed g false x y u v h k = k

pub names_under : (f : ℕ → ℕ) → IsExchange f → (e : Exp) (x : ℕ) → names (renamed_exp f e) (f x) ≡ names e x
names_under f inv (variable y) x = one_for_one f inv x y
names_under f inv (numeral bits value) x = refl
names_under f inv (truth b) x = refl
names_under f inv (negation e) x = names_under f inv e x
names_under f inv (complement e) x = names_under f inv e x
names_under f inv (operation op left right) x = or2 (names_under f inv left x) (names_under f inv right x)

pub some_names_under : (f : ℕ → ℕ) → IsExchange f → (es : List Exp) (x : ℕ) → some_names (renamed_exps f es) (f x) ≡ some_names es x
some_names_under f inv [] x = refl
some_names_under f inv (e ∷ es) x = or2 (names_under f inv e x) (some_names_under f inv es x)

pub is_in_under : (f : ℕ → ℕ) → IsExchange f → (xs : List ℕ) (x : ℕ) → is_in (renamed_names f xs) (f x) ≡ is_in xs x
is_in_under f inv [] x = refl
is_in_under f inv (y ∷ xs) x = or2 (one_for_one f inv x y) (is_in_under f inv xs x)

pub waiting_under : (f : ℕ → ℕ) → IsExchange f → (w : Waiting) (x : ℕ) → free_in_waiting (renamed_waiting f w) (f x) ≡ free_in_waiting w x
waiting_under f inv ready x = refl
waiting_under f inv (input c y) x = or2 (one_for_one f inv x c) (one_for_one f inv x y)
waiting_under f inv (output c e) x = or2 (one_for_one f inv x c) (names_under f inv e x)

mutual
  pub free_under : (p : Tree) (f : ℕ → ℕ) → IsExchange f → (x : ℕ) → free (renamed p f) (f x) ≡ free p x
  free_under skip f inv x = refl
  free_under stop f inv x = refl
  free_under (assign xs es) f inv x = or2 (is_in_under f inv xs x) (some_names_under f inv es x)
  free_under (receive c y) f inv x = or2 (one_for_one f inv x c) (one_for_one f inv x y)
  free_under (send c e) f inv x = or2 (one_for_one f inv x c) (names_under f inv e x)
  free_under (seq ps) f inv x = free_some_under ps f inv x
  free_under (par ps) f inv x = free_some_under ps f inv x
  free_under (select cs) f inv x = free_cases_under cs f inv x
  free_under (alt bs) f inv x = free_branches_under bs f inv x
  free_under (declare y w p) f inv x = and2 (ap not (one_for_one f inv x y)) (free_under p f inv x)
  free_under (connect c w p) f inv x = and2 (ap not (one_for_one f inv x c)) (free_under p f inv x)

  pub free_some_under : (ps : Trees) (f : ℕ → ℕ) → IsExchange f → (x : ℕ) → free_in_some (all_renamed ps f) (f x) ≡ free_in_some ps x
  free_some_under no_tree f inv x = refl
  free_some_under (and_tree p ps) f inv x = or2 (free_under p f inv x) (free_some_under ps f inv x)

  free_cases_under : (cs : Cases) (f : ℕ → ℕ) → IsExchange f → (x : ℕ) → free_in_cases (cases_renamed cs f) (f x) ≡ free_in_cases cs x
  free_cases_under no_case f inv x = refl
  free_cases_under (and_case e p cs) f inv x = or2 (or2 (names_under f inv e x) (free_under p f inv x)) (free_cases_under cs f inv x)

  pub free_branches_under : (bs : Branches) (f : ℕ → ℕ) → IsExchange f → (x : ℕ) → free_in_branches (branches_renamed bs f) (f x) ≡ free_in_branches bs x
  free_branches_under no_branch f inv x = refl
  free_branches_under (and_branch e w p bs) f inv x =
      or2 (or2 (or2 (names_under f inv e x) (waiting_under f inv w x)) (free_under p f inv x)) (free_branches_under bs f inv x)

written_waiting_under : (f : ℕ → ℕ) → IsExchange f → (w : Waiting) (x : ℕ) → written_in_waiting (renamed_waiting f w) (f x) ≡ written_in_waiting w x
written_waiting_under f inv ready x = refl
written_waiting_under f inv (input c y) x = one_for_one f inv x y
written_waiting_under f inv (output c e) x = refl

mutual
  pub written_under : (p : Tree) (f : ℕ → ℕ) → IsExchange f → (x : ℕ) → written (renamed p f) (f x) ≡ written p x
  written_under skip f inv x = refl
  written_under stop f inv x = refl
  written_under (assign xs es) f inv x = is_in_under f inv xs x
  written_under (receive c y) f inv x = one_for_one f inv x y
  written_under (send c e) f inv x = refl
  written_under (seq ps) f inv x = written_some_under ps f inv x
  written_under (par ps) f inv x = written_some_under ps f inv x
  written_under (select cs) f inv x = written_cases_under cs f inv x
  written_under (alt bs) f inv x = written_branches_under bs f inv x
  written_under (declare y w p) f inv x = and2 (ap not (one_for_one f inv x y)) (written_under p f inv x)
  written_under (connect c w p) f inv x = and2 (ap not (one_for_one f inv x c)) (written_under p f inv x)

  written_some_under : (ps : Trees) (f : ℕ → ℕ) → IsExchange f → (x : ℕ) → written_in_some (all_renamed ps f) (f x) ≡ written_in_some ps x
  written_some_under no_tree f inv x = refl
  written_some_under (and_tree p ps) f inv x = or2 (written_under p f inv x) (written_some_under ps f inv x)

  written_cases_under : (cs : Cases) (f : ℕ → ℕ) → IsExchange f → (x : ℕ) → written_in_cases (cases_renamed cs f) (f x) ≡ written_in_cases cs x
  written_cases_under no_case f inv x = refl
  written_cases_under (and_case e p cs) f inv x = or2 (written_under p f inv x) (written_cases_under cs f inv x)

  written_branches_under : (bs : Branches) (f : ℕ → ℕ) → IsExchange f → (x : ℕ) → written_in_branches (branches_renamed bs f) (f x) ≡ written_in_branches bs x
  written_branches_under no_branch f inv x = refl
  written_branches_under (and_branch e w p bs) f inv x =
      or2 (or2 (written_waiting_under f inv w x) (written_under p f inv x)) (written_branches_under bs f inv x)

end_waiting_under : (f : ℕ → ℕ) → IsExchange f → (w : Waiting) (c : ℕ) (d : Dir) → end_in_waiting (renamed_waiting f w) (f c) d ≡ end_in_waiting w c d
end_waiting_under f inv ready c d = refl
end_waiting_under f inv (input b y) c d = ap (λ z. z && same_dir d Input) (one_for_one f inv c b)
end_waiting_under f inv (output b e) c d = ap (λ z. z && same_dir d Output) (one_for_one f inv c b)

mutual
  pub end_under : (p : Tree) (f : ℕ → ℕ) → IsExchange f → (c : ℕ) (d : Dir) → uses_end (renamed p f) (f c) d ≡ uses_end p c d
  end_under skip f inv c d = refl
  end_under stop f inv c d = refl
  end_under (assign xs es) f inv c d = refl
  end_under (receive b y) f inv c d = ap (λ z. z && same_dir d Input) (one_for_one f inv c b)
  end_under (send b e) f inv c d = ap (λ z. z && same_dir d Output) (one_for_one f inv c b)
  end_under (seq ps) f inv c d = end_some_under ps f inv c d
  end_under (par ps) f inv c d = end_some_under ps f inv c d
  end_under (select cs) f inv c d = end_cases_under cs f inv c d
  end_under (alt bs) f inv c d = end_branches_under bs f inv c d
  end_under (declare y w p) f inv c d = and2 (ap not (one_for_one f inv c y)) (end_under p f inv c d)
  end_under (connect b w p) f inv c d = and2 (ap not (one_for_one f inv c b)) (end_under p f inv c d)

  end_some_under : (ps : Trees) (f : ℕ → ℕ) → IsExchange f → (c : ℕ) (d : Dir) → end_in_some (all_renamed ps f) (f c) d ≡ end_in_some ps c d
  end_some_under no_tree f inv c d = refl
  end_some_under (and_tree p ps) f inv c d = or2 (end_under p f inv c d) (end_some_under ps f inv c d)

  end_cases_under : (cs : Cases) (f : ℕ → ℕ) → IsExchange f → (c : ℕ) (d : Dir) → end_in_cases (cases_renamed cs f) (f c) d ≡ end_in_cases cs c d
  end_cases_under no_case f inv c d = refl
  end_cases_under (and_case e p cs) f inv c d = or2 (end_under p f inv c d) (end_cases_under cs f inv c d)

  end_branches_under : (bs : Branches) (f : ℕ → ℕ) → IsExchange f → (c : ℕ) (d : Dir) → end_in_branches (branches_renamed bs f) (f c) d ≡ end_in_branches bs c d
  end_branches_under no_branch f inv c d = refl
  end_branches_under (and_branch e w p bs) f inv c d =
      or2 (or2 (end_waiting_under f inv w c d) (end_under p f inv c d)) (end_branches_under bs f inv c d)

stands_waiting_under : (f : ℕ → ℕ) → IsExchange f → (w : Waiting) (x : ℕ) → stands_in_waiting (renamed_waiting f w) (f x) ≡ stands_in_waiting w x
stands_waiting_under f inv ready x = refl
stands_waiting_under f inv (input c y) x = or2 (one_for_one f inv x c) (one_for_one f inv x y)
stands_waiting_under f inv (output c e) x = or2 (one_for_one f inv x c) (names_under f inv e x)

mutual
  pub stands_under : (p : Tree) (f : ℕ → ℕ) → IsExchange f → (x : ℕ) → stands (renamed p f) (f x) ≡ stands p x
  stands_under skip f inv x = refl
  stands_under stop f inv x = refl
  stands_under (assign xs es) f inv x = or2 (is_in_under f inv xs x) (some_names_under f inv es x)
  stands_under (receive c y) f inv x = or2 (one_for_one f inv x c) (one_for_one f inv x y)
  stands_under (send c e) f inv x = or2 (one_for_one f inv x c) (names_under f inv e x)
  stands_under (seq ps) f inv x = stands_some_under ps f inv x
  stands_under (par ps) f inv x = stands_some_under ps f inv x
  stands_under (select cs) f inv x = stands_cases_under cs f inv x
  stands_under (alt bs) f inv x = stands_branches_under bs f inv x
  stands_under (declare y w p) f inv x = or2 (one_for_one f inv x y) (stands_under p f inv x)
  stands_under (connect c w p) f inv x = or2 (one_for_one f inv x c) (stands_under p f inv x)

  stands_some_under : (ps : Trees) (f : ℕ → ℕ) → IsExchange f → (x : ℕ) → stands_in_some (all_renamed ps f) (f x) ≡ stands_in_some ps x
  stands_some_under no_tree f inv x = refl
  stands_some_under (and_tree p ps) f inv x = or2 (stands_under p f inv x) (stands_some_under ps f inv x)

  stands_cases_under : (cs : Cases) (f : ℕ → ℕ) → IsExchange f → (x : ℕ) → stands_in_cases (cases_renamed cs f) (f x) ≡ stands_in_cases cs x
  stands_cases_under no_case f inv x = refl
  stands_cases_under (and_case e p cs) f inv x = or2 (or2 (names_under f inv e x) (stands_under p f inv x)) (stands_cases_under cs f inv x)

  stands_branches_under : (bs : Branches) (f : ℕ → ℕ) → IsExchange f → (x : ℕ) → stands_in_branches (branches_renamed bs f) (f x) ≡ stands_in_branches bs x
  stands_branches_under no_branch f inv x = refl
  stands_branches_under (and_branch e w p bs) f inv x =
      or2 (or2 (or2 (names_under f inv e x) (stands_waiting_under f inv w x)) (stands_under p f inv x)) (stands_branches_under bs f inv x)
