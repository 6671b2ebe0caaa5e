-- Orders that are followed one after the other.
use Rattle.std.proofs.Common.{◌≡◌, ℕ, ◌+◌, ◌<◌, zero, suc, add-one, arith, List, [], ◌∷◌, ◌++◌, length, map, take, drop, get_or, sym, ap, subst, ◌∙◌}
use Rattle.occ_syntax.specs.occ_base.declared.names.Name.{Name}
use Rattle.occ_engine.specs.declared.fault.Stopped.{Stopped}
use Rattle.occ_engine.specs.declared.fault.Stopped.TheVariants as stopped
use Rattle.occ_engine.specs.declared.moving.Moved.{Moved}
use Rattle.occ_engine.specs.Moved.{IsNotTaken, IsTaken, move_of, moves_of, order_of}
use Rattle.occ_engine.specs.Outcomes.{AreStopped, IsLed, fault_of}
use Rattle.occ_replay_rules.specs.Moves.{Move}
use Rattle.occ_replay_rules.specs.Orders.{Fails, Follows, IsFollowed, Lack, Order, Stops, and_order, no_law, no_order, no_path, not_accepted, not_applicable}
use Rattle.occ_engine.proofs.Putting.{admitted_rules}
use Rattle.occ_script_write.specs.occ_meaning.Context.{put}
use Rattle.std.proofs.lemmas.List.{length-map, length-take-le, map-append}
use Rattle.std.proofs.Math.Seq.{take-suc}
use Rattle.occ_script.specs.declared.script.Order.{Order as Read}
use Rattle.occ_script_write.specs.declared.writing.Done.{Done}
use Rattle.occ_syntax.specs.declared.scope.Kind.{Kind}
use Rattle.occ_syntax.specs.declared.scope.Program.{Program}
use Rattle.occ_syntax.specs.Tree.{Tree}
use Rattle.occ_syntax.specs.View.{tree}
use Rattle.occ_law_any.specs.occ_usage.Accepted.{KeepsRules}

-- ---- lists as they are gone through

pub taken_next : {A : Type 0} (xs : List A) (n : ℕ) (x : A) → n < length xs → get_or xs n x ≡ x → take (suc n) xs ≡ take n xs ++ x ∷ []
taken_next xs n x l e = take-suc xs n x l ∙ ap (λ y. take n xs ++ y ∷ []) e

pub divided : {A : Type 0} (xs : List A) (n : ℕ) (x : A) → n < length xs → get_or xs n x ≡ x → xs ≡ take n xs ++ x ∷ drop (suc n) xs
divided [] n x l e = absurd (omega (arith, l))
divided (y ∷ xs) zero x l e = ap (λ z. z ∷ xs) e
divided (y ∷ xs) (suc n) x l e = ap (λ zs. y ∷ zs) (divided xs n x (omega (arith, l)) e)

-- ---- orders

-- an order that is followed leads on from where others led
follow_on : (S : List (Name × Kind)) (p q : Tree) (orders : List Order) (moves : List Move) (order : Order) (move : Move) → Follows S p orders moves q → IsFollowed S q order move
    → Follows S p (orders ++ order ∷ []) (moves ++ move ∷ []) (put move.path q move.part)
follow_on S p q orders moves order move (no_order a) f = and_order a (put move.path a move.part) order [] move [] f (no_order (put move.path a move.part))
follow_on S p q orders moves order move (and_order a b first others head rest g further) f =
    and_order a (put move.path b move.part) first (others ++ order ∷ []) head (rest ++ move ∷ []) g
    (follow_on S (put head.path a head.part) b others rest order move further f)

-- no order leads from a program to a copy of it
pub begins : (from copy : Program) (steps : List Done) → steps ≡ [] → copy.name ≡ from.name → copy.params ≡ from.params → tree copy.body ≡ tree from.body → IsLed from [] steps copy
begins from copy steps none name params body = record {
  name = name;
  params = params;
  followed = subst (λ ss. Follows from.params (tree from.body) [] (moves_of ss) (tree copy.body)) (sym none)
      (subst (Follows from.params (tree from.body) [] []) (sym body) (no_order (tree from.body)));
}

-- a program with a step's part put in
further : (from here : Program) (orders : List Order) (steps : List Done) (order : Order) (moved : Moved) → IsLed from orders steps here → IsTaken here order moved
    → IsLed from (orders ++ order ∷ []) (steps ++ moved.done ∷ []) moved.to
further from here orders steps order moved d t = record {
  name = t.to.name ∙ d.name;
  params = t.to.params ∙ d.params;
  followed =
      let move = move_of moved.done in
      let f : IsFollowed from.params (tree here.body) order move = subst (λ T. IsFollowed T (tree here.body) order move) d.params t.followed in
      let body : put move.path (tree here.body) move.part ≡ tree moved.to.body = ap (λ z. put z (tree here.body) move.part) t.followed.granted.path ∙ sym t.to.body in
      subst (λ ms. Follows from.params (tree from.body) (orders ++ order ∷ []) ms (tree moved.to.body)) (sym (map-append move_of steps (moved.done ∷ [])))
      (subst (Follows from.params (tree from.body) (orders ++ order ∷ []) (moves_of steps ++ move ∷ [])) body
      (follow_on from.params (tree from.body) (tree here.body) orders (moves_of steps) order move d.followed f));
}

-- and to a program that keeps the rules
pub rules_further : (here : Program) (order : Order) (moved : Moved) → KeepsRules here → IsTaken here order moved → KeepsRules moved.to
rules_further here order moved kept t = admitted_rules here moved.to order.path (tree moved.done.part) kept t.to t.followed.granted.admitted

-- the first orders of a list with the next one
pub further_in : (from here : Program) (orders : List Read) (steps : List Done) (n : ℕ) (order : Read) (moved : Moved) → n < length orders → get_or orders n order ≡ order
    → IsLed from (map order_of (take n orders)) steps here → IsTaken here (order_of order) moved
    → IsLed from (map order_of (take (n + 1) orders)) (steps ++ moved.done ∷ []) moved.to
further_in from here orders steps n order moved l e d t =
    subst (λ os. IsLed from os (steps ++ moved.done ∷ []) moved.to)
    (sym (ap (λ k. map order_of (take k orders)) (add-one n) ∙ ap (map order_of) (taken_next orders n order l e) ∙ map-append order_of (take n orders) (order ∷ [])))
    (further from here (map order_of (take n orders)) steps (order_of order) moved d t)

-- an order that isn't followed stops them
stopped_in : (from here : Program) (orders : List Read) (steps : List Done) (n k : ℕ) (order : Read) (lack : Lack) → n < length orders → get_or orders n order ≡ order → k ≡ n + 1
    → IsLed from (map order_of (take n orders)) steps here → Fails here.params (tree here.body) (order_of order) lack
    → Stops from.params (tree from.body) (map order_of orders) k lack
stopped_in from here orders steps n k order lack l e number d fails = record {
  front = map order_of (take n orders);
  order = order_of order;
  rest = map order_of (drop (suc n) orders);
  parts = ap (map order_of) (divided orders n order l e) ∙ map-append order_of (take n orders) (order ∷ drop (suc n) orders);
  number_is = number ∙ ap (λ m. m + 1) (sym (length-map (take n orders) order_of ∙ length-take-le n orders (omega (arith, l))));
  moves = moves_of steps;
  here = tree here.body;
  followed = d.followed;
  fails = subst (λ T. Fails T (tree here.body) (order_of order) lack) d.params fails;
}

pub refused_in : (from here : Program) (orders : List Read) (steps : List Done) (n k : ℕ) (order : Read) (s : Stopped) → n < length orders → get_or orders n order ≡ order → k ≡ n + 1
    → IsLed from (map order_of (take n orders)) steps here → IsNotTaken here (order_of order) s → AreStopped from (map order_of orders) (fault_of s k)
refused_in from here orders steps n k order stopped.NoLaw l e number d h = stopped_in from here orders steps n k order no_law l e number d h
refused_in from here orders steps n k order stopped.NoPath l e number d h = stopped_in from here orders steps n k order no_path l e number d h
refused_in from here orders steps n k order stopped.NotAccepted l e number d h = stopped_in from here orders steps n k order not_accepted l e number d h
refused_in from here orders steps n k order stopped.NotApplicable l e number d h = stopped_in from here orders steps n k order not_applicable l e number d h
refused_in from here orders steps n k order stopped.Memory l e number d h = tt
