-- What orders and expansions make is written moves.
use Rattle.std.proofs.Common.{◌≡◌, ℕ, ◌≤◌, true, List, [], ◌∷◌, length, None, refl}
use Rattle.occ_engine_known.specs.occ_base.declared.names.Name.{Name}
use Rattle.occ_engine_known.specs.occ_engine.Moved.{moves_of, orders_of}
use Rattle.occ_engine_known.specs.Known.{LeadToKnown, MovesAreKnown, NamesAreBelow}
use Rattle.occ_renamed.specs.occ_replay_rules.Expansion.{IsExpanded}
use Rattle.occ_renamed.specs.occ_replay_rules.Moves.{Move, Moves}
use Rattle.occ_renamed.specs.occ_replay_rules.Orders.{Follows, Order}
use Rattle.occ_engine_written.specs.First.{AreWritten, IsFirstProgram}
use Rattle.occ_engine_written.proofs.Printed.{KeptLaw, NameLaw, Table, names_below, printable}
use Rattle.occ_engine_written.proofs.Said.{AreSaid, expansion_said, orders_said}
use Rattle.occ_renamed.specs.occ_lex.Symbols.{Extends}
use Rattle.occ_renamed.proofs.from_lex.Interned.{extends_same, longer}
use Rattle.occ_renamed.specs.occ_meaning.Context.{put}
use Rattle.occ_renamed.specs.occ_parse.declared.bound.Bound.{Bound}
use Rattle.occ_renamed.specs.occ_parse.declared.bound.Bound.TheVariants as bound
use Rattle.occ_renamed.specs.occ_parse.Limits.{is_limited}
use Rattle.occ_renamed.specs.occ_parse.Reading.{IsRead}
use Rattle.occ_renamed.specs.occ_parse_rules.Places.{Place}
use Rattle.occ_renamed.specs.occ_print.Lines.{part_lines}
use Rattle.occ_script_table.specs.occ_print_back.Back.{deepest}
use Rattle.occ_script_table.specs.occ_print_back.Placed.{IsTable}
use Rattle.occ_script_table.specs.occ_print_back.Program.{IsPrintable}
use Rattle.occ_script_table.specs.occ_script_back.Tables.{Grows}
use Rattle.occ_engine_known.specs.occ_script.declared.script.Order.{Order as Read}
use Rattle.occ_engine_known.specs.occ_script.Orders.{IsOrders}
use Rattle.occ_script_table.specs.occ_script_back.Joined.{AreNamedSteps}
use Rattle.occ_engine_known.specs.occ_script_write.declared.writing.Done.{Done}
use Rattle.occ_engine_known.specs.occ_syntax.declared.scope.Kind.{Kind}
use Rattle.occ_engine_known.specs.occ_syntax.declared.scope.Program.{Program}
use Rattle.occ_engine_known.specs.occ_syntax.Scopes.{environment}
use Rattle.occ_engine_known.specs.occ_syntax.Tree.{Tree}
use Rattle.occ_engine_known.specs.occ_syntax.Types.{scope_kept}
use Rattle.occ_engine_known.specs.occ_syntax.Usage.{Keeps}
use Rattle.occ_engine_known.specs.occ_syntax.View.{tree}
use Rattle.occ_script_table.specs.occ_script_back.Said.{IsShortPath}

-- ---- the laws that this stands on

abbrev pub EmptyLaw : Type 0
EmptyLaw = (P : ℕ → Place) → IsTable [] P

abbrev pub ProgramsLaw : Type 0
ProgramsLaw = (b : Bound) (text : List ℕ) (old new : Table) (P : ℕ → Place) (name : Name) (params : List (Name × Kind)) (body : Tree) (numbers : List ℕ)
    → IsTable old P → IsRead b text old new name params body numbers → Grows old P new

abbrev OrdersLaw : Type 0
OrdersLaw = (text : List ℕ) (old new : Table) (P : ℕ → Place) (orders : List Read) → IsTable old P → IsOrders text old new orders → Grows old P new

abbrev pub LevelsLaw : Type 0
LevelsLaw = (b : Bound) (text : List ℕ) (old new : Table) (name : Name) (params : List (Name × Kind)) (body : Tree) (numbers : List ℕ)
    → is_limited b ≡ true → IsRead b text old new name params body numbers → deepest (part_lines 1 body) ≤ 64

abbrev pub StayLaw : Type 0
StayLaw = (m n : ℕ) (S : List (Name × Kind)) (p : Tree) → m ≤ n → NamesAreBelow m S p → NamesAreBelow n S p

abbrev FollowLaw : Type 0
FollowLaw = (text : List ℕ) (old new : Table) (orders : List Read) (S : List (Name × Kind)) (p q : Tree) (moves : List Move) → IsOrders text old new orders
    → scope_kept S ≡ true → Keeps (environment S) p → NamesAreBelow (length new) S p → Follows S p (orders_of orders) moves q → LeadToKnown (length new) S p moves q

abbrev ExpandLaw : Type 0
ExpandLaw = (n : ℕ) (S : List (Name × Kind)) (p q : Tree) (path : List ℕ) (moves : List Move) → scope_kept S ≡ true → Keeps (environment S) p → NamesAreBelow n S p
    → IsExpanded S p path moves q → LeadToKnown n S p moves q

abbrev OrderMovesLaw : Type 0
OrderMovesLaw = (S : List (Name × Kind)) (p q : Tree) (orders : List Order) (moves : List Move) → Follows S p orders moves q → Moves S p moves q

abbrev ExpandMovesLaw : Type 0
ExpandMovesLaw = (S : List (Name × Kind)) (p q : Tree) (path : List ℕ) (moves : List Move) → IsExpanded S p path moves q → Moves S p moves q

-- ---- a program that was read

-- each name by itself
abbrev pub here : ℕ → Place
here x = record { name = x; element = None }

module _ (names : Table) (from : Program) (first : IsFirstProgram names from) where
  pub places_of : EmptyLaw → ProgramsLaw → Grows [] here names
  places_of empty law = law bound.Program first.text [] names here from.name from.params (tree from.body) first.lines (empty here) first.read

  pub below_names : NamesAreBelow (length names) from.params (tree from.body)
  below_names = names_below bound.Program first.text [] names from first.lines first.read

  pub first_printable : (all : Table) (P : ℕ → Place) → IsTable all P → Extends names all → NameLaw → KeptLaw → NamesAreBelow (length all) from.params (tree from.body)
      → IsPrintable all P from.name.0 from.params (tree from.body)
  first_printable all P table e name kept below =
      printable bound.Program first.text [] names from first.lines first.read all P table e name kept first.accepted.typed below

-- ---- steps

named_steps : (n : ℕ) (S : List (Name × Kind)) (p : Tree) (steps : List Done) → AreSaid steps → MovesAreKnown n S p (moves_of steps) → AreNamedSteps n steps
named_steps n S p [] h m = tt
named_steps n S p (s ∷ ss) h m = (record { said = h.0; known = m.0.known }, named_steps n S (put s.path p (tree s.part)) ss h.1 m.1)

pub written : LevelsLaw → (names all : Table) (P : ℕ → Place) (from to : Program) (steps : List Done) → IsFirstProgram names from
    → IsPrintable all P from.name.0 from.params (tree from.body) → AreNamedSteps (length all) steps
    → Moves from.params (tree from.body) (moves_of steps) (tree to.body) → to.name ≡ from.name → to.params ≡ from.params → AreWritten all from steps to
written levels names all P from to steps first printed named moves name params = (
  P,
  record {
    from_is = printed;
    accepted = first.accepted;
    narrow = first.narrow;
    levels = levels bound.Program first.text [] names from.name from.params (tree from.body) first.lines refl first.read;
    named = named;
    moves = record { name = name; params = params; moves = moves };
  },
)

pub followed_written : EmptyLaw → ProgramsLaw → OrdersLaw → LevelsLaw → NameLaw → KeptLaw → StayLaw → FollowLaw → OrderMovesLaw
    → (text : List ℕ) (names new : Table) (orders : List Read) (from to : Program) (steps : List Done) → IsFirstProgram names from → IsOrders text names new orders
    → Follows from.params (tree from.body) (orders_of orders) (moves_of steps) (tree to.body) → to.name ≡ from.name → to.params ≡ from.params → AreWritten new from steps to
followed_written empty programs ordered levels name kept stay follow moved text names new orders from to steps first read f same_name same_params =
    let before = places_of names from first empty programs in
    let after = ordered text names new before.0 orders before.1.table read in
    let e = after.1.extends in
    let below = stay (length names) (length new) from.params (tree from.body) (longer names new e) (below_names names from first) in
    let a = first.accepted in
    let lead = follow text names new orders from.params (tree from.body) (tree to.body) (moves_of steps) read a.typed.scope a.keeps below f in
    written levels names new after.0 from to steps first (first_printable names from first new after.0 after.1.table e name kept below)
    (named_steps (length new) from.params (tree from.body) steps (orders_said text names new orders from.params (tree from.body) (tree to.body) steps read f) lead.moves_are)
    (moved from.params (tree from.body) (tree to.body) (orders_of orders) (moves_of steps) f) same_name same_params

pub expanded_written : EmptyLaw → ProgramsLaw → LevelsLaw → NameLaw → KeptLaw → ExpandLaw → ExpandMovesLaw
    → (names : Table) (path : List ℕ) (from to : Program) (steps : List Done) → IsFirstProgram names from → IsShortPath path
    → IsExpanded from.params (tree from.body) path (moves_of steps) (tree to.body) → to.name ≡ from.name → to.params ≡ from.params → AreWritten names from steps to
expanded_written empty programs levels name kept expand moved names path from to steps first short is same_name same_params =
    let before = places_of names from first empty programs in
    let below = below_names names from first in
    let a = first.accepted in
    let lead = expand (length names) from.params (tree from.body) (tree to.body) path (moves_of steps) a.typed.scope a.keeps below is in
    written levels names names before.0 from to steps first
    (first_printable names from first names before.0 before.1.table (extends_same names) name kept below)
    (named_steps (length names) from.params (tree from.body) steps (expansion_said from.params (tree from.body) (tree to.body) path steps short is) lead.moves_are)
    (moved from.params (tree from.body) (tree to.body) path (moves_of steps) is) same_name same_params
