-- Orders one after the other.
use Rattle.std.proofs.Common.{◌≡◌, ◌⊎◌, inl, inr, false, List, [], ◌∷◌, ◌++◌, ℕ, sym, ap, subst, ◌∙◌, append_assoc}
use Rattle.std.specs.Prelude.{Some, codes}
use Rattle.std.proofs.lemmas.List.{append-nil}
use Rattle.occ_script.specs.declared.fault.ScriptFault.{ScriptFault}
use Rattle.occ_script.specs.declared.fault.ScriptFault.TheVariants as fault
use Rattle.occ_script.specs.declared.script.Order.{Order}
use Rattle.occ_script.specs.Orders.{AreOrders, IsBadLines, IsBadOrder, IsBadRest, IsOrder, IsOrdersFault, and_order, bad_head, bad_rest, behind_order, in_lines, in_order, no_order}
use Rattle.occ_script.specs.Lines.{named_in}
use Rattle.occ_script.specs.Refusals.{IsBadHead}
use Rattle.occ_script.specs.Scripts.{IsHead, is_too_long}
use Rattle.occ_script_lines.specs.declared.section.Format.TheVariants as format
use Rattle.occ_script_lines.specs.Lines.{Head, head_of}
use Rattle.occ_script_lines.specs.Sections.{Section, sections_of}

abbrev Table : Type 0
Table = List (List ℕ)

-- whatever orders are left, they are orders of all behind those so far; and so is the first fault there
pub record AreSoFar (old t : Table) (all rest : List Section) (orders : List Order) : Type 0 where
  pub orders_on : (new : Table) (more : List Order) → AreOrders t new rest more → AreOrders old new all (orders ++ more)
  pub faults_on : (e : ScriptFault) → IsBadRest t rest e → IsBadRest old all e

pub next_order : (old t u : Table) (all rest behind : List Section) (s : Section) (orders longer : List Order) (order : Order) → AreSoFar old t all rest orders → rest ≡ s ∷ behind
    → IsOrder t u s order → longer ≡ orders ++ order ∷ [] → AreSoFar old u all behind longer
next_order old t u all rest behind s orders longer order b is one e = record {
  orders_on = λ new more h. subst (λ (os : List Order). AreOrders old new all os) (sym (append_assoc orders (order ∷ []) more) ∙ ap (λ os. os ++ more) (sym e))
      (b.orders_on new (order ∷ more) (subst (λ (r : List Section). AreOrders t new r (order ∷ more)) (sym is) (and_order t u new s behind order more one h)));
  faults_on = λ f h. b.faults_on f (subst (λ (r : List Section). IsBadRest t r f) (sym is) (behind_order t u s behind order f one h));
}

pub all_orders : (old t : Table) (all rest : List Section) (orders : List Order) → AreSoFar old t all rest orders → rest ≡ [] → AreOrders old t all orders
all_orders old t all rest orders b is =
    subst (λ (os : List Order). AreOrders old t all os) (append-nil orders) (b.orders_on t [] (subst (λ (r : List Section). AreOrders t t r []) (sym is) (no_order t)))

pub bad_order : (old t : Table) (all rest behind : List Section) (s : Section) (orders : List Order) (e : ScriptFault) → AreSoFar old t all rest orders → rest ≡ s ∷ behind
    → IsBadOrder t s e ⊎ (e ≡ fault.Memory) → IsBadRest old all e ⊎ (e ≡ fault.Memory)
bad_order old t all rest behind s orders e b is (inl h) = inl (b.faults_on e (subst (λ (r : List Section). IsBadRest t r e) (sym is) (in_order t s behind e h)))
bad_order old t all rest behind s orders e b is (inr h) = inr h

-- ---- the line of an order

pub bad_lines_of : (old : Table) (s : Section) (k : Head) (e : ScriptFault) → head_of (codes "ORDER") s.row ≡ Some k → IsBadLines old s e ⊎ (e ≡ fault.Memory) → IsBadOrder old s e ⊎ (e ≡ fault.Memory)
bad_lines_of old s k e h (inl x) = inl (in_lines k e h x)
bad_lines_of old s k e h (inr x) = inr x

-- ---- the whole

pub bad_head_there : (text : List ℕ) (old : Table) (head : Section) (rest : List Section) (e : ScriptFault) → is_too_long text ≡ false → sections_of format.Orders text ≡ head ∷ rest
    → IsBadHead format.Orders old head e ⊎ (e ≡ fault.Memory) → IsOrdersFault text old e ⊎ (e ≡ fault.Memory)
bad_head_there text old head rest e short is (inl h) = inl (bad_head head rest e short is h)
bad_head_there text old head rest e short is (inr h) = inr h

pub bad_rest_there : (text : List ℕ) (old t : Table) (head : Section) (rest : List Section) (e : ScriptFault) → is_too_long text ≡ false → sections_of format.Orders text ≡ head ∷ rest
    → IsHead format.Orders old head → t ≡ named_in head old → IsBadRest t rest e ⊎ (e ≡ fault.Memory) → IsOrdersFault text old e ⊎ (e ≡ fault.Memory)
bad_rest_there text old t head rest e short is good table (inl h) = inl (bad_rest head rest e short is good (subst (λ u. IsBadRest u rest e) table h))
bad_rest_there text old t head rest e short is good table (inr h) = inr h
