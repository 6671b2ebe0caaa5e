-- The steps of orders and of expansions have lines that can be read: their laws are of the table, and their paths short.
use Rattle.std.proofs.Common.{◌≡◌, ℕ, ◌≤◌, List, [], ◌∷◌, ◌++◌, Option, Some, None, refl, sym, subst, arith}
use Rattle.std.specs.List.{AllByRecursion}
use Rattle.std.specs.Prelude.{codes}
use Rattle.std.specs.Option.{option_map}
use Rattle.occ_engine_known.specs.occ_base.declared.names.Name.{Name}
use Rattle.occ_engine_known.specs.occ_engine.Moved.{moves_of, number_of, order_of, orders_of}
use Rattle.occ_renamed.specs.occ_replay_rules.Expansion.{Grants, IsExpanded, and_wish, expanding, forward, io_alt, no_wish, par_expand, preparing, seq_alt, sequencing, wrapping}
use Rattle.occ_renamed.specs.occ_replay_rules.Moves.{Move, Wish}
use Rattle.occ_renamed.specs.occ_replay_rules.Orders.{Follows, Order, and_order, no_order}
use Rattle.occ_engine_written.proofs.Paths.{head_short}
use Rattle.occ_renamed.specs.occ_law.declared.table.LawId.{LawId}
use Rattle.occ_renamed.proofs.from_print.Lists.{all-append}
use Rattle.occ_engine_known.specs.occ_script.declared.script.Order.{Order as Read}
use Rattle.occ_engine_known.specs.occ_script.Orders as list
use Rattle.occ_engine_known.specs.occ_script.Steps.{IsLaw}
use Rattle.occ_renamed.specs.occ_script_lines.Sections.{Section}
use Rattle.occ_engine_known.specs.occ_script_write.declared.writing.Done.{Done}
use Rattle.occ_script_table.specs.occ_script_back.Said.{IsSaid, IsShortPath}
use Rattle.occ_engine_known.specs.occ_syntax.declared.scope.Kind.{Kind}
use Rattle.occ_engine_known.specs.occ_syntax.Tree.{Tree, receive, send, seq, alt, Trees, no_tree, and_tree}

-- a law of the table and a short path
record CanBeSaid (law : ℕ) (path : List ℕ) : Type 0 where
  low : 1 ≤ law
  high : law ≤ 63
  short : IsShortPath path

abbrev AreMovesSaid : List Move → Type 0
AreMovesSaid moves = AllByRecursion (λ (move : Move). CanBeSaid move.law move.path) moves

abbrev pub AreSaid : List Done → Type 0
AreSaid steps = AllByRecursion IsSaid steps

steps_said : (steps : List Done) → AreMovesSaid (moves_of steps) → AreSaid steps
steps_said [] h = tt
steps_said (done ∷ steps) h = (record { low = h.0.low; high = h.0.high; path = h.0.short }, steps_said steps h.1)

said_so : (law other : ℕ) (path way : List ℕ) → law ≡ other → path ≡ way → CanBeSaid other way → CanBeSaid law path
said_so law other path way e p h = record { low = omega (arith, h.low, e); high = omega (arith, h.high, e); short = subst IsShortPath (sym p) h.short }

-- ---- orders

-- an order by whatever law it names can be said
abbrev IsSayable : Order → Type 0
IsSayable order = (law : ℕ) → order.law ≡ Some law → CanBeSaid law order.path

followed_said : (S : List (Name × Kind)) (p q : Tree) (orders : List Order) (moves : List Move) → AllByRecursion IsSayable orders
    → Follows S p orders moves q → AreMovesSaid moves
followed_said S p q orders moves h (no_order a) = tt
followed_said S p q orders moves h (and_order a b order others move more f rest) =
    (said_so move.law move.law move.path order.path refl f.granted.path (h.0 move.law f.named), followed_said S _ b others more h.1 rest)

law_said : (name path : List ℕ) (law : Option LawId) → IsLaw name law → IsShortPath path → (n : ℕ) → option_map number_of law ≡ Some n → CanBeSaid n path
law_said name path None h short n e = absurd cc
law_said name path (Some law) h short n e = let same : law.0 ≡ n = cc in record { low = omega (arith, h.low, same); high = omega (arith, h.high, same); short = short }

order_sayable : (old new : List (List ℕ)) (s : Section) (order : Read) → list.IsOrder old new s order → IsSayable (order_of order)
order_sayable old new s order h = law_said h.name order.path order.law h.law (head_short (codes "ORDER") s.row _ h.head)

orders_sayable : (old new : List (List ℕ)) (ss : List Section) (orders : List Read) → list.AreOrders old new ss orders → AllByRecursion IsSayable (orders_of orders)
orders_sayable old new ss orders (list.no_order t) = tt
orders_sayable old new ss orders (list.and_order o t n s others order rest h more) = (order_sayable o t s order h, orders_sayable t n others rest more)

pub orders_said : (text : List ℕ) (old new : List (List ℕ)) (orders : List Read) (S : List (Name × Kind)) (p q : Tree) (steps : List Done)
    → list.IsOrders text old new orders → Follows S p (orders_of orders) (moves_of steps) q → AreSaid steps
orders_said text old new orders S p q steps h f =
    steps_said steps (followed_said S p q (orders_of orders) (moves_of steps) (orders_sayable _ new h.rest orders h.are_orders) f)

-- ---- expansions

abbrev IsWishSaid : Wish → Type 0
IsWishSaid wish = CanBeSaid wish.law wish.path

abbrev AreWishesSaid : List Wish → Type 0
AreWishesSaid wishes = AllByRecursion IsWishSaid wishes

granted_said : (S : List (Name × Kind)) (p q : Tree) (wishes : List Wish) (moves : List Move) → AreWishesSaid wishes → Grants S p wishes moves q → AreMovesSaid moves
granted_said S p q wishes moves h (no_wish a) = tt
granted_said S p q wishes moves h (and_wish a b wish others move more g rest) =
    (said_so move.law wish.law move.path wish.path g.law g.path h.0, granted_said S _ b others more h.1 rest)

forward_said : (law : ℕ) (path : List ℕ) → 1 ≤ law → law ≤ 63 → IsShortPath path → IsWishSaid (forward law path)
forward_said law path l h short = record { low = l; high = h; short = short }

longer_path : (path : List ℕ) (n : ℕ) → n ≤ 4294967295 → IsShortPath path → IsShortPath (path ++ n ∷ [])
longer_path path n l h = all-append (λ (m : ℕ). m ≤ 4294967295) path (n ∷ []) h (l, tt)

first_path : (path : List ℕ) → IsShortPath path → IsShortPath (path ++ 0 ∷ [])
first_path path h = longer_path path 0 (omega arith) h

wrapping_said : (path : List ℕ) (p : Tree) → IsShortPath path → AreWishesSaid (wrapping path p)
wrapping_said path p h = (record { low = omega arith; high = omega arith; short = h }, tt)

communicating_said : (path : List ℕ) → IsShortPath path → AreWishesSaid (forward io_alt (path ++ 0 ∷ []) ∷ forward seq_alt path ∷ [])
communicating_said path h =
    (forward_said io_alt (path ++ 0 ∷ []) (omega arith) (omega arith) (first_path path h), (forward_said seq_alt path (omega arith) (omega arith) h, tt))

sequencing_said : (path : List ℕ) (ps : Trees) → IsShortPath path → AreWishesSaid (sequencing path ps)
sequencing_said path no_tree h = wrapping_said path (seq no_tree) h
sequencing_said path (and_tree (receive c x) ps) h = communicating_said path h
sequencing_said path (and_tree (send c e) ps) h = communicating_said path h
sequencing_said path (and_tree (alt gs) ps) h = (forward_said seq_alt path (omega arith) (omega arith) h, tt)
sequencing_said path (and_tree p ps) h = wrapping_said path (seq (and_tree p ps)) h

preparing_said : (path : List ℕ) (p : Tree) → IsShortPath path → AreWishesSaid (preparing path p)
preparing_said path (alt gs) h = tt
preparing_said path (receive c x) h = (forward_said io_alt path (omega arith) (omega arith) h, tt)
preparing_said path (send c e) h = (forward_said io_alt path (omega arith) (omega arith) h, tt)
preparing_said path (seq ps) h = sequencing_said path ps h
preparing_said path p h = wrapping_said path p h

expanding_said : (path : List ℕ) (p q : Tree) → IsShortPath path → AreWishesSaid (expanding path p q)
expanding_said path p q h =
    all-append IsWishSaid (preparing (path ++ 0 ∷ []) p) (preparing (path ++ 1 ∷ []) q ++ forward par_expand path ∷ []) (preparing_said (path ++ 0 ∷ []) p (first_path path h))
    (all-append IsWishSaid (preparing (path ++ 1 ∷ []) q) (forward par_expand path ∷ []) (preparing_said (path ++ 1 ∷ []) q (longer_path path 1 (omega arith) h))
    (forward_said par_expand path (omega arith) (omega arith) h, tt))

pub expansion_said : (S : List (Name × Kind)) (p q : Tree) (path : List ℕ) (steps : List Done) → IsShortPath path → IsExpanded S p path (moves_of steps) q → AreSaid steps
expansion_said S p q path steps h is =
    steps_said steps (granted_said S p q (expanding path is.first is.second) (moves_of steps) (expanding_said path is.first is.second h) is.granted)
