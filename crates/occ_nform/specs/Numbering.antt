-- What the functions of this crate find on the way to a table.
use Rattle.std.specs.Prelude.{ℕ, suc, ◌+◌, ◌<◌, ◌≤◌, ◌≡◌, ◌==◌, ◌^◌, ◌⊎◌, ◌++◌, Bool, true, false, List, [], ◌∷◌, Some, length, get_or, set}
use Rattle.std.specs.Prelude.{map, max}
use Rattle.std.specs.List.{All, AllByRecursion, Contains, IsDistinct, list_any}
use Rattle.std.specs.List.Sorted.{IsPermutation, IsSortedBy}
use Rattle.std.specs.Cmp.Lexicographic.{slice_cmp}
use Rattle.std.specs.Ordering.{is_lt, nat_cmp}
use Rattle.occ_syntax.specs.occ_base.declared.event.Event.{Event}
use Rattle.occ_syntax.specs.occ_base.declared.names.Name.{Name}
use Rattle.occ_syntax.specs.declared.scope.Kind.{Kind}
use Rattle.occ_syntax.specs.Counts.{bits_of_scope}
use Rattle.occ_nform_rows.specs.occ_mdd.Maps.{value}
use Rattle.occ_nform_rows.specs.occ_node.Offers.{are_below}
use Rattle.occ_nform_rows.specs.occ_node.World.{IsNode, nodes_of, row_of}
use Rattle.occ_nform_rows.specs.occ_node.declared.node.NodeId.{NodeId}
use Rattle.occ_nform_rows.specs.occ_node.declared.root.Root.{Root}
use Rattle.occ_nform_rows.specs.occ_node.declared.world.World.{World}
use Rattle.occ_nform_rows.specs.occ_nform_table.declared.table.TableRow.{TableRow}
use Rattle.occ_nform_rows.specs.occ_nform_table.Behaviours.{row_at}
use Rattle.occ_nform_rows.specs.occ_nform_table.Judging.{row_text, comes_after}
use Rattle.occ_nform_rows.specs.occ_compare.Interface.{IsWithin}
use Rattle.occ_nform_rows.specs.occ_compare.Places.{assignment_at}
use Rattle.occ_nform_rows.specs.Listed.{IsListed, number_of}
use Rattle.occ_nform.specs.declared.level.Draft.{Draft}
use Rattle.occ_nform.specs.declared.numbering.Numbering.{Numbering}
use Rattle.occ_nform.specs.declared.order.Placed.{Placed}

-- ---- initial states
abbrev pub node_at : List NodeId → ℕ → NodeId
node_at nodes k = get_or nodes k (record { 0 = 0 })

-- the nodes of the initial states in their order
pub record AreStarts (w : World) (root : Root) (starts : List NodeId) : Type 0 where
  pub count : length starts ≡ 2 ^ bits_of_scope root.params
  pub each : (k : ℕ) → k < length starts → value w.maps root.states (assignment_at root.params k) ≡ Some (node_at starts k)

-- each node that a node offers has a property
abbrev pub EachOffered : World → NodeId → (NodeId → Type 0) → Type 0
EachOffered w a P = AllByRecursion (λ (o : Event × NodeId). P o.1) (row_of w a).offers

-- ---- nodes that are reached
abbrev pub Marked : List Bool → NodeId → Type 0
Marked marks a = get_or marks a.0 false ≡ true

-- the node is marked, and offers the other one
pub record OffersIt (w : World) (marks : List Bool) (a b : NodeId) : Type 0 where
  pub marked : Marked marks b
  pub offered : list_any (λ (o : Event × NodeId). o.1.0 == a.0) (row_of w b).offers ≡ true

-- the node is one of some nodes, or one that is marked offers it
abbrev pub IsMet : World → List NodeId → List Bool → NodeId → Type 0
IsMet w starts marks a = (list_any (λ (b : NodeId). b.0 == a.0) starts ≡ true) ⊎ ((b : NodeId) × OffersIt w marks a b)

-- Some nodes are marked, and of nodes with numbers from n on those that a marked one offers: no node but these.
pub record AreMarksFrom (w : World) (starts : List NodeId) (n : ℕ) (marks : List Bool) : Type 0 where
  pub wide : length marks ≡ nodes_of w
  pub begun : (k : ℕ) → k < length starts → Marked marks (node_at starts k)
  pub closed : (a : NodeId) → n ≤ a.0 → Marked marks a → EachOffered w a (Marked marks)
  pub reached : (a : NodeId) → Marked marks a → IsMet w starts marks a

-- exactly the nodes that are reached from some nodes are marked
abbrev pub AreMarks : World → List NodeId → List Bool → Type 0
AreMarks w starts marks = AreMarksFrom w starts 0 marks

-- ---- heights
-- the height of a node with these offers, by the heights of the nodes before it
abbrev pub nodes_over : List ℕ → List (Event × NodeId) → ℕ
nodes_over heights [] = 0
nodes_over heights (o ∷ offers) = max (1 + get_or heights o.1.0 0) (nodes_over heights offers)

pub record AreHeights (w : World) (heights : List ℕ) : Type 0 where
  pub wide : length heights ≡ nodes_of w
  pub over : (a : NodeId) → IsNode w a → get_or heights a.0 0 ≡ nodes_over heights (row_of w a).offers

abbrev pub same_place : Placed → Placed → Bool
same_place p q = p.node.0 == q.node.0

abbrev pub placed_at : List Placed → ℕ → Placed
placed_at placed k = get_or placed k (record { height = 0; node = record { 0 = 0 } })

-- no node stands at two places
abbrev pub AreApart : List Placed → Type 0
AreApart placed = (i j : ℕ) → i < length placed → j < length placed → (placed_at placed i).node.0 ≡ (placed_at placed j).node.0 → i ≡ j

-- heights don't fall
abbrev pub AreByHeight : List Placed → Type 0
AreByHeight placed = (i j : ℕ) → i ≤ j → j < length placed → (placed_at placed i).height ≤ (placed_at placed j).height

-- the node is marked, and has its height
abbrev pub IsOrdered : List Bool → List ℕ → Placed → Type 0
IsOrdered marks heights p = Marked marks p.node × (p.height ≡ get_or heights p.node.0 0)

-- the marked nodes with numbers below n, each once, in their order
pub record ArePlacedBelow (marks : List Bool) (heights : List ℕ) (n : ℕ) (placed : List Placed) : Type 0 where
  pub met : All (λ (p : Placed). (p.node.0 < n) × Marked marks p.node × (p.height ≡ get_or heights p.node.0 0)) placed
  pub all : (a : NodeId) → a.0 < n → Marked marks a → Contains placed (record { height = get_or heights a.0 0; node = a })
  pub apart : IsDistinct same_place placed

-- the marked nodes, each once, by height
pub record AreOrdered (marks : List Bool) (heights : List ℕ) (placed : List Placed) : Type 0 where
  pub met : (k : ℕ) → k < length placed → IsOrdered marks heights (placed_at placed k)
  pub all : (a : NodeId) → Marked marks a → (k : ℕ) × (k < length placed) × ((placed_at placed k).node ≡ a)
  pub apart : AreApart placed
  pub sorted : AreByHeight placed

-- the nodes that are reached from some nodes, each once, by height
pub record AreReached (w : World) (starts : List NodeId) (placed : List Placed) : Type 0 where
  pub marks : List Bool
  pub heights : List ℕ
  pub marked : AreMarks w starts marks
  pub high : AreHeights w heights
  pub order : AreOrdered marks heights placed

-- the node is one of the placed ones, and lower than the height
abbrev pub IsLower : List Placed → ℕ → NodeId → Type 0
IsLower placed height b = (j : ℕ) × (j < length placed) × ((placed_at placed j).node ≡ b) × ((placed_at placed j).height < height)

-- Nodes that can be numbered: each once, by height, and each with the nodes that it offers, which are lower.
pub record IsGraph (w : World) (params : List (Name × Kind)) (placed : List Placed) : Type 0 where
  pub node : (k : ℕ) → k < length placed → IsNode w (placed_at placed k).node
  pub within : (k : ℕ) → k < length placed → IsWithin w params (placed_at placed k).node
  pub closed : (k : ℕ) → k < length placed → EachOffered w (placed_at placed k).node (IsLower placed (placed_at placed k).height)
  pub apart : AreApart placed
  pub sorted : AreByHeight placed

-- ---- numbers
-- each node that the node offers has a number below a bound
pub record IsReady (w : World) (params : List (Name × Kind)) (numbers : List ℕ) (a : NodeId) : Type 0 where
  pub bound : ℕ
  pub node : IsNode w a
  pub within : IsWithin w params a
  pub wide : are_below (length numbers) (row_of w a).offers ≡ true
  pub lower : EachOffered w a (λ b. number_of numbers b < bound)

-- the row of a node, with its text
pub record IsDraft (w : World) (names : List (List ℕ)) (params : List (Name × Kind)) (numbers : List ℕ) (a : NodeId) (draft : Draft)
    : Type 0 where
  pub node : draft.node ≡ a
  pub listed : IsListed w params numbers a draft.row
  pub text : draft.text.items ≡ row_text names draft.row

-- the nodes of the same height as the one at start are ready
abbrev pub AreReady : World → List (Name × Kind) → List ℕ → List Placed → ℕ → Type 0
AreReady w params numbers placed start = (k : ℕ) → start ≤ k → k < length placed
    → (placed_at placed k).height ≡ (placed_at placed start).height → IsReady w params numbers (placed_at placed k).node

-- the rows of the nodes of one height, from the one at start on
pub record AreDrafts (w : World) (names : List (List ℕ)) (params : List (Name × Kind)) (numbers : List ℕ) (placed : List Placed)
    (start : ℕ) (drafts : List Draft) : Type 0 where
  pub some : 0 < length drafts
  pub within : start + length drafts ≤ length placed
  pub each : (k : ℕ) (d : Draft) → k < length drafts
      → IsDraft w names params numbers (placed_at placed (start + k)).node (get_or drafts k d)
  pub level : (k : ℕ) → k < length drafts → (placed_at placed (start + k)).height ≡ (placed_at placed start).height
  pub end : start + length drafts < length placed
      → (placed_at placed (start + length drafts)).height ≡ (placed_at placed start).height → ⊥

abbrev pub text_before : Draft → Draft → Bool
text_before d e = is_lt (slice_cmp nat_cmp d.text.items e.text.items)

-- the same drafts by their texts
pub record AreSorted (drafts list : List Draft) : Type 0 where
  pub same : IsPermutation drafts list
  pub sorted : IsSortedBy text_before list

-- the draft has become the next row
pub record IsPlaced (old new : Numbering) (draft : Draft) : Type 0 where
  pub rows : new.rows ≡ old.rows ++ draft.row ∷ []
  pub numbers : new.numbers.items ≡ set old.numbers.items draft.node.0 (length old.rows)
  pub most : length old.rows < 4294967294

-- the numbers with those of some drafts, from n on
abbrev pub numbered_from : ℕ → List Draft → List ℕ → List ℕ
numbered_from n [] numbers = numbers
numbered_from n (d ∷ drafts) numbers = numbered_from (n + 1) drafts (set numbers d.node.0 n)

-- the drafts have become the next rows
pub record ArePlaced (old new : Numbering) (drafts : List Draft) : Type 0 where
  pub rows : new.rows ≡ old.rows ++ map (λ (d : Draft). d.row) drafts
  pub numbers : new.numbers.items ≡ numbered_from (length old.rows) drafts old.numbers.items
  pub most : length old.rows ≤ 4294967294 → length new.rows ≤ 4294967294

-- a row's height and its text
abbrev pub key_at : List (List ℕ) → List Placed → List TableRow → ℕ → ℕ × List ℕ
key_at names done rows i = ((placed_at done i).height, row_text names (row_at rows i))

-- a placed node has the number of its place among those that are numbered
abbrev pub HasNumber : List ℕ → List Placed → Placed → Type 0
HasNumber numbers done p = (number_of numbers p.node < length done) × (placed_at done (number_of numbers p.node) ≡ p)

-- The placed nodes in front of start, which are those of some heights, have their numbers and their rows: by height and
-- then by text.
pub record IsNumbered (w : World) (names : List (List ℕ)) (params : List (Name × Kind)) (placed : List Placed) (start : ℕ)
    (done : List Placed) (rows : List TableRow) (numbers : List ℕ) : Type 0 where
  pub count : length rows ≡ length done
  pub most : length done ≤ 4294967294
  pub wide : (k : ℕ) → k < length placed → (placed_at placed k).node.0 < length numbers
  pub met : (i : ℕ) → i < length done → (k : ℕ) × (k < start) × (placed_at placed k ≡ placed_at done i)
  pub all : (k : ℕ) → k < start → HasNumber numbers done (placed_at placed k)
  pub numbered : (i : ℕ) → i < length done → number_of numbers (placed_at done i).node ≡ i
  pub listed : (i : ℕ) → i < length done → IsListed w params numbers (placed_at done i).node (row_at rows i)
  pub rising : (i : ℕ) → suc i < length done → comes_after (Some (key_at names done rows i)) (key_at names done rows (suc i)) ≡ true
  pub whole : (k : ℕ) → k < start → start < length placed → (placed_at placed k).height < (placed_at placed start).height

-- the same, where it is known of some order
pub record IsNumbering (w : World) (names : List (List ℕ)) (params : List (Name × Kind)) (placed : List Placed) (start : ℕ)
    (numbering : Numbering) : Type 0 where
  pub done : List Placed
  pub numbered : IsNumbered w names params placed start done numbering.rows numbering.numbers.items
