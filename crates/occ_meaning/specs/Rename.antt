-- Other names for names.
use Rattle.occ_syntax.specs.occ_base.declared.event.Event.{Event}
use Rattle.occ_syntax.specs.Meaning.{Outcome, ended, refusing}
use Rattle.occ_syntax.specs.Names.{is_in, names, some_names}
use Rattle.occ_syntax.specs.Scopes.{Trace}
use Rattle.occ_syntax.specs.Tree.{Branches, Cases, Exp, Tree, Trees, Waiting, alt, and_branch, and_case, and_tree, assign, complement, connect, declare, input, negation, no_branch, no_case, no_tree, numeral, operation, output, par, ready, receive, select, send, seq, skip, stop, truth, variable}
use Rattle.std.specs.Prelude.{Bool, List, [], false, if◌then◌else◌, ℕ, ◌==◌, ◌||◌, ◌∷◌}

-- a new name for an old one
abbrev pub replacing : ℕ → ℕ → ℕ → ℕ
replacing old new n = if n == old then new else n

-- each of two names for the other
abbrev pub exchanging : ℕ → ℕ → ℕ → ℕ
exchanging a b n = if n == a then b else if n == b then a else n

abbrev pub renamed_exp : (ℕ → ℕ) → Exp → Exp
renamed_exp f (variable x) = variable (f x)
renamed_exp f (numeral bits value) = numeral bits value
renamed_exp f (truth b) = truth b
renamed_exp f (negation e) = negation (renamed_exp f e)
renamed_exp f (complement e) = complement (renamed_exp f e)
renamed_exp f (operation op left right) = operation op (renamed_exp f left) (renamed_exp f right)

abbrev pub renamed_names : (ℕ → ℕ) → List ℕ → List ℕ
renamed_names f [] = []
renamed_names f (x ∷ xs) = f x ∷ renamed_names f xs

abbrev pub renamed_exps : (ℕ → ℕ) → List Exp → List Exp
renamed_exps f [] = []
renamed_exps f (e ∷ es) = renamed_exp f e ∷ renamed_exps f es

abbrev pub renamed_waiting : (ℕ → ℕ) → Waiting → Waiting
renamed_waiting f ready = ready
renamed_waiting f (input c x) = input (f c) (f x)
renamed_waiting f (output c e) = output (f c) (renamed_exp f e)

-- every occurrence of a name, declarations too
abbrev mutual
  pub renamed : Tree → (ℕ → ℕ) → Tree
  renamed skip f = skip
  renamed stop f = stop
  renamed (assign xs es) f = assign (renamed_names f xs) (renamed_exps f es)
  renamed (receive c x) f = receive (f c) (f x)
  renamed (send c e) f = send (f c) (renamed_exp f e)
  renamed (seq ps) f = seq (all_renamed ps f)
  renamed (par ps) f = par (all_renamed ps f)
  renamed (select cs) f = select (cases_renamed cs f)
  renamed (alt bs) f = alt (branches_renamed bs f)
  renamed (declare x w p) f = declare (f x) w (renamed p f)
  renamed (connect c w p) f = connect (f c) w (renamed p f)

  pub all_renamed : Trees → (ℕ → ℕ) → Trees
  all_renamed no_tree f = no_tree
  all_renamed (and_tree p ps) f = and_tree (renamed p f) (all_renamed ps f)

  pub cases_renamed : Cases → (ℕ → ℕ) → Cases
  cases_renamed no_case f = no_case
  cases_renamed (and_case e p cs) f = and_case (renamed_exp f e) (renamed p f) (cases_renamed cs f)

  pub branches_renamed : Branches → (ℕ → ℕ) → Branches
  branches_renamed no_branch f = no_branch
  branches_renamed (and_branch e w p bs) f = and_branch (renamed_exp f e) (renamed_waiting f w) (renamed p f) (branches_renamed bs f)

abbrev pub stands_in_waiting : Waiting → ℕ → Bool
stands_in_waiting ready x = false
stands_in_waiting (input c y) x = x == c || x == y
stands_in_waiting (output c e) x = x == c || names e x

-- whether a name stands anywhere in a part, free or declared
abbrev mutual
  pub stands : Tree → ℕ → Bool
  stands skip x = false
  stands stop x = false
  stands (assign xs es) x = is_in xs x || some_names es x
  stands (receive c y) x = x == c || x == y
  stands (send c e) x = x == c || names e x
  stands (seq ps) x = stands_in_some ps x
  stands (par ps) x = stands_in_some ps x
  stands (select cs) x = stands_in_cases cs x
  stands (alt bs) x = stands_in_branches bs x
  stands (declare y w p) x = x == y || stands p x
  stands (connect c w p) x = x == c || stands p x

  pub stands_in_some : Trees → ℕ → Bool
  stands_in_some no_tree x = false
  stands_in_some (and_tree p ps) x = stands p x || stands_in_some ps x

  pub stands_in_cases : Cases → ℕ → Bool
  stands_in_cases no_case x = false
  stands_in_cases (and_case e p cs) x = (names e x || stands p x) || stands_in_cases cs x

  pub stands_in_branches : Branches → ℕ → Bool
  stands_in_branches no_branch x = false
  stands_in_branches (and_branch e w p bs) x = ((names e x || stands_in_waiting w x) || stands p x) || stands_in_branches bs x

-- ---- environments, values, traces and outcomes under other names, each name for one

abbrev pub under : {A : Type 0} → (ℕ → ℕ) → (ℕ → A) → ℕ → A
under f g = λ n. g (f n)

abbrev pub renamed_event : (ℕ → ℕ) → Event → Event
renamed_event f e = record { chan = record { 0 = f e.chan.0 }; dir = e.dir; value = e.value }

abbrev pub renamed_trace : (ℕ → ℕ) → Trace → Trace
renamed_trace f [] = []
renamed_trace f (e ∷ t) = renamed_event f e ∷ renamed_trace f t

abbrev pub renamed_outcome : (ℕ → ℕ) → Outcome → Outcome
renamed_outcome f (ended s') = ended (λ n. s' (f n))
renamed_outcome f (refusing X) = refusing (λ e. X (renamed_event f e))
