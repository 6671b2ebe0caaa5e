-- Configurations with less left to do have less than any more.
use Rattle.std.proofs.Common.{arith, ℕ, ◌≤◌, List, [], ◌∷◌, ◌++◌}
use Rattle.std.specs.List.{AllByRecursion}
use Rattle.occ_complete_states.specs.Configured.{Follows, IsConfigured, IsEventBranch, IsGiven, IsOpenBranch, IsSettledBranch, acceptance, an_event, at_once, end, event}
use Rattle.occ_complete.specs.Ways.{ComesTo, Outcome, ends, goes_on}
use Rattle.occ_engine.specs.occ_syntax.Tree.{Tree, Waiting, input, output, ready}
use Rattle.occ_complete_states.specs.occ_target_laws.Shapes.{Header}

pub configured_more : (h : Header) (m n : ℕ) (c : Tree) → m ≤ n → IsConfigured h m c → IsConfigured h n c
configured_more h m n c l i = record {
  ys = i.ys;
  state = i.state;
  left = i.left;
  form = i.form;
  is_left = i.is_left;
  is_clear = i.is_clear;
  light = omega (arith, l, i.light);
}

pub given_more : (h : Header) (t m n : ℕ) (c : Tree) → m ≤ n → IsGiven h t m c → IsGiven h t n c
given_more h t m n c l i = record {
  ys = i.ys;
  state = i.state;
  var = i.var;
  width = i.width;
  left = i.left;
  form = i.form;
  is_left = i.is_left;
  is_clear = i.is_clear;
  other = i.other;
  var_width = i.var_width;
  given_width = i.given_width;
  light = omega (arith, l, i.light);
}

follows_more : (h : Header) (m n : ℕ) (w : Waiting) (p : Tree) → m ≤ n → Follows h m w p → Follows h n w p
follows_more h m n ready p l f = configured_more h m n p l f
follows_more h m n (output c e) p l f = configured_more h m n p l f
follows_more h m n (input c t) p l f = given_more h t m n p l f

pub event_more : (h : Header) (m n : ℕ) (b : Waiting × Tree) → m ≤ n → IsEventBranch h m b → IsEventBranch h n b
event_more h m n b l e = record { guard = e.guard; next = follows_more h m n b.0 b.1 l e.next }

pub open_more : (h : Header) (m n : ℕ) (b : Waiting × Tree) → m ≤ n → IsOpenBranch h m b → IsOpenBranch h n b
open_more h m n b l (an_event c e) = an_event c (event_more h m n c l e)
open_more h m n b l (at_once p c) = at_once p (configured_more h m n p l c)

all_more : {A : Type 0} {P Q : A → Type 0} → ((a : A) → P a → Q a) → (xs : List A) → AllByRecursion P xs → AllByRecursion Q xs
all_more f [] all = tt
all_more f (x ∷ xs) all = (f x all.0, all_more f xs all.1)

pub settled_more : (h : Header) (m n : ℕ) (b : Waiting × Tree) → m ≤ n → IsSettledBranch h m b → IsSettledBranch h n b
settled_more h m n b l (event c e) = event c (event_more h m n c l e)
settled_more h m n b l (acceptance set all) = acceptance set (all_more (λ c e. event_more h m n c l e) set all)
settled_more h m n b l (end p e) = end p e

pub all_open_more : (h : Header) (m n : ℕ) (bs : List (Waiting × Tree)) → m ≤ n → AllByRecursion (IsOpenBranch h m) bs → AllByRecursion (IsOpenBranch h n) bs
all_open_more h m n bs l all = all_more (λ b o. open_more h m n b l o) bs all

pub all_settled_more : (h : Header) (m n : ℕ) (bs : List (Waiting × Tree)) → m ≤ n → AllByRecursion (IsSettledBranch h m) bs → AllByRecursion (IsSettledBranch h n) bs
all_settled_more h m n bs l all = all_more (λ b o. settled_more h m n b l o) bs all

pub all_both : {A : Type 0} (P : A → Type 0) (xs ys : List A) → AllByRecursion P xs → AllByRecursion P ys → AllByRecursion P (xs ++ ys)
all_both P [] ys f g = g
all_both P (x ∷ xs) ys f g = (f.0, all_both P xs ys f.1 g)

outcome_more : (h : Header) (m n : ℕ) (p : Tree) → m ≤ n → Outcome h (IsOpenBranch h m) p → Outcome h (IsOpenBranch h n) p
outcome_more h m n p l (ends q e) = ends q e
outcome_more h m n p l (goes_on bs all) = goes_on bs (all_open_more h m n bs l all)

pub opens_more : (h : Header) (m n : ℕ) (p : Tree) → m ≤ n → ComesTo h (IsOpenBranch h m) p → ComesTo h (IsOpenBranch h n) p
opens_more h m n p l c = record { part = c.part; leads = c.leads; outcome = outcome_more h m n c.part l c.outcome }
