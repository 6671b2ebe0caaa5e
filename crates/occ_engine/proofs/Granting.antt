-- Wishes that are granted one after the other, and what an expansion comes to.
use Rattle.std.proofs.Common.{◌≡◌, ℕ, ◌+◌, ◌<◌, suc, add-one, List, [], ◌∷◌, ◌++◌, length, map, take, drop, get_or, None, Some, sym, ap, subst, ◌∙◌}
use Rattle.std.proofs.lemmas.List.{map-append}
use Rattle.std.proofs.lemmas.Option.{same_Some}
use Rattle.occ_syntax.specs.occ_base.declared.names.Name.{Name}
use Rattle.occ_engine.proofs.Expanding.{expansion_reached}
use Rattle.occ_engine.proofs.Leading.{divided, taken_next}
use Rattle.occ_engine.proofs.Putting.{admitted_rules}
use Rattle.occ_engine.proofs.Ranging.{outcome_of}
use Rattle.occ_engine.proofs.Reaching.{IsReached}
use Rattle.occ_engine.specs.declared.fault.Stopped.{Stopped}
use Rattle.occ_engine.specs.declared.fault.Stopped.TheVariants as stopped
use Rattle.occ_engine.specs.declared.moving.Moved.{Moved}
use Rattle.occ_engine.specs.declared.outcome.Outcome.{Outcome}
use Rattle.occ_engine.specs.declared.wishes.Wish.{Wish as Asked}
use Rattle.occ_engine.specs.Granted.{AreCutOff, IsBrought, IsCutOff, IsNotGranted}
use Rattle.occ_engine.specs.Moved.{IsMoved, IsNotDirect, move_of, moves_of, wish_for}
use Rattle.occ_engine.specs.Outcomes.{IsOutcome}
use Rattle.occ_engine.specs.Wishes.{pair_of, wish_of}
use Rattle.occ_replay_rules.proofs.Moving.{grants_moves}
use Rattle.occ_replay_rules.specs.Expansion.{Grants, IsBlocked, IsNoPar, and_wish, expanding, no_wish}
use Rattle.occ_replay_rules.specs.Moves.{IsApplied, IsGranted, Move, Wish}
use Rattle.occ_script_write.specs.occ_law.declared.table.LawId.{LawId}
use Rattle.occ_script_write.proofs.from_meaning.Facts.{none_not_some, some_is}
use Rattle.occ_script_write.specs.occ_meaning.Context.{part_at, put}
use Rattle.occ_script_write.specs.occ_meaning.Parallel.{two}
use Rattle.occ_script_write.specs.occ_script_lines.declared.direction.Direction.{Direction}
use Rattle.occ_script_write.specs.occ_script_lines.Places.{scope_list}
use Rattle.occ_script_write.specs.declared.writing.Done.{Done}
use Rattle.occ_syntax.specs.declared.scope.Kind.{Kind}
use Rattle.occ_syntax.specs.declared.scope.Program.{Program}
use Rattle.occ_syntax.specs.Tree.{Tree, skip, stop, assign, receive, send, seq, par, select, alt, declare, connect, no_tree, and_tree}
use Rattle.occ_syntax.specs.View.{tree}
use Rattle.occ_law_any.specs.occ_usage.Accepted.{IsAccepted, KeepsRules}

-- ---- why a wish isn't granted

pub direct_ungranted : (program : Program) (law : LawId) (dir : Direction) (path : List ℕ) (s : Stopped) → IsNotDirect program law dir path s
    → IsNotGranted program.params (tree program.body) (wish_for law dir path None) s
direct_ungranted program law dir path stopped.NotApplicable n = λ old new there a.
    n.none new (subst (λ q. IsApplied dir law.0 (scope_list path program.params (tree program.body)) None q new) (same_Some old n.old (sym there ∙ n.there)) a)
direct_ungranted program law dir path stopped.NotAccepted n = λ old new there a.
    (n.new, subst (λ q. IsApplied dir law.0 (scope_list path program.params (tree program.body)) None q n.new) (same_Some n.old old (sym n.there ∙ there)) n.applied, n.refused)
direct_ungranted program law dir path stopped.Memory n = tt
direct_ungranted program law dir path stopped.NoLaw n = absurd n
direct_ungranted program law dir path stopped.NoPath n = absurd n

-- ---- one wish after the other

grant_on : (S : List (Name × Kind)) (p q : Tree) (wishes : List Wish) (moves : List Move) (wish : Wish) (move : Move) → Grants S p wishes moves q → IsGranted S q wish move
    → Grants S p (wishes ++ wish ∷ []) (moves ++ move ∷ []) (put move.path q move.part)
grant_on S p q wishes moves wish move (no_wish a) g = and_wish a (put move.path a move.part) wish [] move [] g (no_wish (put move.path a move.part))
grant_on S p q wishes moves wish move (and_wish a b first others head rest f further) g =
    and_wish a (put move.path b move.part) first (others ++ wish ∷ []) head (rest ++ move ∷ []) f
    (grant_on S (put head.path a head.part) b others rest wish move further g)

pub begins : (from copy : Program) (steps : List Done) → steps ≡ [] → copy.name ≡ from.name → copy.params ≡ from.params → tree copy.body ≡ tree from.body → IsBrought from [] steps copy
begins from copy steps none name params body = record {
  name = name;
  params = params;
  granted = subst (λ ss. Grants from.params (tree from.body) [] (moves_of ss) (tree copy.body)) (sym none)
      (subst (Grants from.params (tree from.body) [] []) (sym body) (no_wish (tree from.body)));
}

further : (from here : Program) (wishes : List Wish) (steps : List Done) (wish : Wish) (moved : Moved) → IsBrought from wishes steps here → IsMoved here wish moved
    → IsBrought from (wishes ++ wish ∷ []) (steps ++ moved.done ∷ []) moved.to
further from here wishes steps wish moved d m = record {
  name = m.to.name ∙ d.name;
  params = m.to.params ∙ d.params;
  granted =
      let move = move_of moved.done in
      let g : IsGranted from.params (tree here.body) wish move = subst (λ T. IsGranted T (tree here.body) wish move) d.params m.granted in
      let body : put move.path (tree here.body) move.part ≡ tree moved.to.body = ap (λ z. put z (tree here.body) move.part) m.granted.path ∙ sym m.to.body in
      subst (λ ms. Grants from.params (tree from.body) (wishes ++ wish ∷ []) ms (tree moved.to.body)) (sym (map-append move_of steps (moved.done ∷ [])))
      (subst (Grants from.params (tree from.body) (wishes ++ wish ∷ []) (moves_of steps ++ move ∷ [])) body
      (grant_on from.params (tree from.body) (tree here.body) wishes (moves_of steps) wish move d.granted g));
}

pub rules_further : (here : Program) (wish : Wish) (moved : Moved) → KeepsRules here → IsMoved here wish moved → KeepsRules moved.to
rules_further here wish moved kept m = admitted_rules here moved.to wish.path (tree moved.done.part) kept m.to m.granted.admitted

pub further_in : (from here : Program) (wishes : List Asked) (steps : List Done) (n : ℕ) (wish : Asked) (moved : Moved) → n < length wishes → get_or wishes n wish ≡ wish
    → IsBrought from (map wish_of (take n wishes)) steps here → IsMoved here (wish_of wish) moved
    → IsBrought from (map wish_of (take (n + 1) wishes)) (steps ++ moved.done ∷ []) moved.to
further_in from here wishes steps n wish moved l e d m =
    subst (λ ws. IsBrought from ws (steps ++ moved.done ∷ []) moved.to)
    (sym (ap (λ k. map wish_of (take k wishes)) (add-one n) ∙ ap (map wish_of) (taken_next wishes n wish l e) ∙ map-append wish_of (take n wishes) (wish ∷ [])))
    (further from here (map wish_of (take n wishes)) steps (wish_of wish) moved d m)

stopped_in : (from here : Program) (wishes : List Asked) (steps : List Done) (n : ℕ) (wish : Asked) (s : Stopped) → n < length wishes → get_or wishes n wish ≡ wish
    → IsBrought from (map wish_of (take n wishes)) steps here → IsNotGranted here.params (tree here.body) (wish_of wish) s → IsCutOff from (map wish_of wishes) s
stopped_in from here wishes steps n wish s l e d none = record {
  front = map wish_of (take n wishes);
  wish = wish_of wish;
  rest = map wish_of (drop (suc n) wishes);
  parts = ap (map wish_of) (divided wishes n wish l e) ∙ map-append wish_of (take n wishes) (wish ∷ drop (suc n) wishes);
  moves = moves_of steps;
  here = tree here.body;
  granted = d.granted;
  refused = subst (λ T. IsNotGranted T (tree here.body) (wish_of wish) s) d.params none;
}

pub cut_off_in : (from here : Program) (wishes : List Asked) (steps : List Done) (n : ℕ) (wish : Asked) (s : Stopped) → n < length wishes → get_or wishes n wish ≡ wish
    → IsBrought from (map wish_of (take n wishes)) steps here → IsNotGranted here.params (tree here.body) (wish_of wish) s → AreCutOff from (map wish_of wishes) s
cut_off_in from here wishes steps n wish stopped.NoPath l e d none = stopped_in from here wishes steps n wish stopped.NoPath l e d none
cut_off_in from here wishes steps n wish stopped.NotAccepted l e d none = stopped_in from here wishes steps n wish stopped.NotAccepted l e d none
cut_off_in from here wishes steps n wish stopped.NotApplicable l e d none = stopped_in from here wishes steps n wish stopped.NotApplicable l e d none
cut_off_in from here wishes steps n wish stopped.NoLaw l e d none = absurd none
cut_off_in from here wishes steps n wish stopped.Memory l e d none = tt

-- ---- what an expansion comes to

-- a PAR of two parts
is_pair : (p first second : Tree) → pair_of p ≡ Some (first, second) → p ≡ par (two first second)
is_pair (par no_tree) first second h = none_not_some h
is_pair (par (and_tree a no_tree)) first second h = none_not_some h
is_pair (par (and_tree a (and_tree b no_tree))) first second h = ap (λ (z : Tree × Tree). par (two z.0 z.1)) (some_is h)
is_pair (par (and_tree a (and_tree b (and_tree c ps)))) first second h = none_not_some h
is_pair skip first second h = none_not_some h
is_pair stop first second h = none_not_some h
is_pair (assign xs es) first second h = none_not_some h
is_pair (receive c x) first second h = none_not_some h
is_pair (send c e) first second h = none_not_some h
is_pair (seq ps) first second h = none_not_some h
is_pair (select cs) first second h = none_not_some h
is_pair (alt gs) first second h = none_not_some h
is_pair (declare x w p) first second h = none_not_some h
is_pair (connect c w p) first second h = none_not_some h

-- a part that is none
pub no_pair : (from : Program) (path : List ℕ) (old : Tree) → part_at path (tree from.body) ≡ Some old → pair_of old ≡ None → IsNoPar (tree from.body) path
no_pair from path old there none = record { old = old; there = there; other = λ first second e. none_not_some (sym none ∙ ap pair_of e) }

-- wishes that are granted are an outcome
pub brought_out : (from : Program) (wishes : List Wish) (outcome : Outcome) → IsBrought from wishes outcome.steps outcome.to → IsOutcome from outcome
brought_out from wishes outcome d =
    outcome_of from outcome d.name d.params (grants_moves from.params (tree from.body) (tree outcome.to.body) wishes (moves_of outcome.steps) d.granted)

-- a wish of an expansion at which it is cut off is reached
cut_reached : (from : Program) (path : List ℕ) (first second : Tree) (wishes : List Wish) (s : Stopped) → KeepsRules from
    → part_at path (tree from.body) ≡ Some (par (two first second)) → wishes ≡ expanding path first second → (c : IsCutOff from wishes s) → IsReached from.params c.here c.wish
cut_reached from path first second wishes s kept there e c =
    expansion_reached from.params (tree from.body) path first second kept.scope kept.keeps there c.front c.wish c.rest c.moves c.here (sym e ∙ c.parts) c.granted

-- so it is never cut off because there is no part, or because a law makes nothing
pub never_nowhere : (from : Program) (path : List ℕ) (first second : Tree) (wishes : List Wish) → KeepsRules from → part_at path (tree from.body) ≡ Some (par (two first second))
    → wishes ≡ expanding path first second → IsCutOff from wishes stopped.NoPath → ⊥
never_nowhere from path first second wishes kept there e c =
    let r = cut_reached from path first second wishes stopped.NoPath kept there e c in
    apart r.old (sym c.refused ∙ r.there)
  where
    apart : (q : Tree) → None ≡ Some q → ⊥
    apart q h = cc

pub never_unmade : (from : Program) (path : List ℕ) (first second : Tree) (wishes : List Wish) → KeepsRules from → part_at path (tree from.body) ≡ Some (par (two first second))
    → wishes ≡ expanding path first second → IsCutOff from wishes stopped.NotApplicable → ⊥
never_unmade from path first second wishes kept there e c =
    let r = cut_reached from path first second wishes stopped.NotApplicable kept there e c in
    c.refused r.old r.new r.there r.applied

-- it is because what a law makes may not be put in
pub blocked_by : (from : Program) (path : List ℕ) (first second : Tree) (wishes : List Wish) → KeepsRules from → part_at path (tree from.body) ≡ Some (par (two first second))
    → wishes ≡ expanding path first second → IsCutOff from wishes stopped.NotAccepted → IsBlocked from.params (tree from.body) path
blocked_by from path first second wishes kept there e c =
    let r = cut_reached from path first second wishes stopped.NotAccepted kept there e c in
    let b = c.refused r.old r.new r.there r.applied in
    record {
      first = first;
      second = second;
      there = there;
      front = c.front;
      wish = c.wish;
      rest = c.rest;
      parts = sym e ∙ c.parts;
      moves = c.moves;
      here = c.here;
      granted = c.granted;
      old = r.old;
      new = b.0;
      old_there = r.there;
      applied = b.1;
      refused = b.2;
    }

-- a program that is accepted keeps the rules
pub accepted_rules : (from : Program) → IsAccepted from → KeepsRules from
accepted_rules from a = record { scope = a.typed.scope; keeps = a.keeps }

-- the part at a path is a PAR of these two
pub pair_there : (from : Program) (path : List ℕ) (old first second : Tree) → part_at path (tree from.body) ≡ Some old → pair_of old ≡ Some (first, second)
    → part_at path (tree from.body) ≡ Some (par (two first second))
pair_there from path old first second there e = there ∙ ap Some (is_pair old first second e)
