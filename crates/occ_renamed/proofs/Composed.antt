-- Names replaced twice: once, by both.
use Rattle.occ_replay_rules.specs.occ_meaning.Rename.{all_renamed, branches_renamed, cases_renamed, renamed, renamed_exp, renamed_exps, renamed_names, renamed_waiting}
use Rattle.occ_replay_rules.specs.occ_syntax.Tree.{Branches, Cases, Exp, Tree, Trees, Waiting, alt, and_branch, and_case, and_tree, assign, complement, connect, declare, input, negation, no_branch, no_case, no_tree, numeral, operation, output, par, ready, receive, select, send, seq, skip, stop, truth, variable}
use Rattle.std.proofs.Common.{List, [], ap, refl, ℕ, ◌∙◌, ◌∷◌, ◌≡◌}

exp_both : (f g : ℕ → ℕ) (e : Exp) → renamed_exp f (renamed_exp g e) ≡ renamed_exp (λ n. f (g n)) e
exp_both f g (variable x) = refl
exp_both f g (numeral bits value) = refl
exp_both f g (truth b) = refl
exp_both f g (negation e) = ap negation (exp_both f g e)
exp_both f g (complement e) = ap complement (exp_both f g e)
exp_both f g (operation op left right) =
    ap (λ z. operation op z (renamed_exp f (renamed_exp g right))) (exp_both f g left) ∙ ap (operation op (renamed_exp (λ n. f (g n)) left)) (exp_both f g right)

names_both : (f g : ℕ → ℕ) (xs : List ℕ) → renamed_names f (renamed_names g xs) ≡ renamed_names (λ n. f (g n)) xs
names_both f g [] = refl
names_both f g (x ∷ xs) = ap (λ r. f (g x) ∷ r) (names_both f g xs)

exps_both : (f g : ℕ → ℕ) (es : List Exp) → renamed_exps f (renamed_exps g es) ≡ renamed_exps (λ n. f (g n)) es
exps_both f g [] = refl
exps_both f g (e ∷ es) = ap (λ z. z ∷ renamed_exps f (renamed_exps g es)) (exp_both f g e) ∙ ap (λ r. renamed_exp (λ n. f (g n)) e ∷ r) (exps_both f g es)

waiting_both : (f g : ℕ → ℕ) (w : Waiting) → renamed_waiting f (renamed_waiting g w) ≡ renamed_waiting (λ n. f (g n)) w
waiting_both f g ready = refl
waiting_both f g (input c x) = refl
waiting_both f g (output c e) = ap (output (f (g c))) (exp_both f g e)

mutual
  pub part_both : (p : Tree) (f g : ℕ → ℕ) → renamed (renamed p g) f ≡ renamed p (λ n. f (g n))
  part_both skip f g = refl
  part_both stop f g = refl
  part_both (assign xs es) f g =
      ap (λ z. assign z (renamed_exps f (renamed_exps g es))) (names_both f g xs) ∙ ap (assign (renamed_names (λ n. f (g n)) xs)) (exps_both f g es)
  part_both (receive c x) f g = refl
  part_both (send c e) f g = ap (send (f (g c))) (exp_both f g e)
  part_both (seq ps) f g = ap seq (all_both ps f g)
  part_both (par ps) f g = ap par (all_both ps f g)
  part_both (select cs) f g = ap select (cases_both cs f g)
  part_both (alt bs) f g = ap alt (branches_both bs f g)
  part_both (declare x w p) f g = ap (declare (f (g x)) w) (part_both p f g)
  part_both (connect c w p) f g = ap (connect (f (g c)) w) (part_both p f g)

  all_both : (ps : Trees) (f g : ℕ → ℕ) → all_renamed (all_renamed ps g) f ≡ all_renamed ps (λ n. f (g n))
  all_both no_tree f g = refl
  all_both (and_tree p ps) f g = ap (λ z. and_tree z (all_renamed (all_renamed ps g) f)) (part_both p f g) ∙ ap (and_tree (renamed p (λ n. f (g n)))) (all_both ps f g)

  cases_both : (cs : Cases) (f g : ℕ → ℕ) → cases_renamed (cases_renamed cs g) f ≡ cases_renamed cs (λ n. f (g n))
  cases_both no_case f g = refl
  cases_both (and_case e p cs) f g =
      ap (λ z. and_case z (renamed (renamed p g) f) (cases_renamed (cases_renamed cs g) f)) (exp_both f g e)
      ∙ (ap (λ z. and_case (renamed_exp (λ n. f (g n)) e) z (cases_renamed (cases_renamed cs g) f)) (part_both p f g)
      ∙ ap (and_case (renamed_exp (λ n. f (g n)) e) (renamed p (λ n. f (g n)))) (cases_both cs f g))

  branches_both : (bs : Branches) (f g : ℕ → ℕ) → branches_renamed (branches_renamed bs g) f ≡ branches_renamed bs (λ n. f (g n))
  branches_both no_branch f g = refl
  branches_both (and_branch e w p bs) f g =
      ap (λ z. and_branch z (renamed_waiting f (renamed_waiting g w)) (renamed (renamed p g) f) (branches_renamed (branches_renamed bs g) f)) (exp_both f g e)
      ∙ (ap (λ z. and_branch (renamed_exp (λ n. f (g n)) e) z (renamed (renamed p g) f) (branches_renamed (branches_renamed bs g) f)) (waiting_both f g w)
      ∙ (ap (λ z. and_branch (renamed_exp (λ n. f (g n)) e) (renamed_waiting (λ n. f (g n)) w) z (branches_renamed (branches_renamed bs g) f)) (part_both p f g)
      ∙ ap (and_branch (renamed_exp (λ n. f (g n)) e) (renamed_waiting (λ n. f (g n)) w) (renamed p (λ n. f (g n)))) (branches_both bs f g)))
