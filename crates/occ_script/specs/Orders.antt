-- Which text is orders, and as which; and the first fault of one that is none.
use Rattle.std.specs.Prelude.{ℕ, ◌≡◌, true, false, List, [], ◌∷◌, length, Option, Some, None, codes, ◌==◌}
use Rattle.occ_parse_part.specs.declared.raw.Raw.{Raw}
use Rattle.occ_parse_part.specs.occ_parse.declared.fault.ParseFault.{ParseFault}
use Rattle.occ_parse_part.specs.occ_parse.declared.fault.ParseFault.TheVariants as parse
use Rattle.occ_parse_part.specs.occ_parse.declared.fault.Which.TheVariants as which
use Rattle.occ_script.specs.declared.content.Content.TheVariants as content
use Rattle.occ_script.specs.declared.fault.ScriptFault.{ScriptFault}
use Rattle.occ_script.specs.declared.fault.ScriptFault.TheVariants as fault
use Rattle.occ_script.specs.declared.script.Order.{Order}
use Rattle.occ_script.specs.Faults.{text_fault}
use Rattle.occ_script.specs.Lines.{IsIll, IsWell, named_in}
use Rattle.occ_script.specs.Refusals.{IsBadHead}
use Rattle.occ_script.specs.Scripts.{IsHead, is_too_long}
use Rattle.occ_script.specs.Steps.{IsLaw, IsPartIn}
use Rattle.occ_script_lines.specs.declared.section.Format.TheVariants as format
use Rattle.occ_script_lines.specs.Lines.{Head, head_of}
use Rattle.occ_script_lines.specs.Sections.{Section, reading_in, sections_of}

-- a section has no lines, and nothing that can't be read
pub record HasNoPart (old new : List (List ℕ)) (s : Section) : Type 0 where
  pub well : IsWell content.Part old s
  pub empty : (length (reading_in s).0 == 0) ≡ true
  pub table : new ≡ named_in s old

-- or its lines are a part
pub record HasOnePart (old new : List (List ℕ)) (s : Section) (part : Raw) : Type 0 where
  pub some : (length (reading_in s).0 == 0) ≡ false
  pub lines : IsPartIn old new s part

abbrev pub IsPartThere : List (List ℕ) → List (List ℕ) → Section → Option Raw → Type 0
IsPartThere old new s None = HasNoPart old new s
IsPartThere old new s (Some part) = HasOnePart old new s part

-- The section is an order, with which the table grows from old to new.
pub record IsOrder (old new : List (List ℕ)) (s : Section) (order : Order) : Type 0 where
  pub name : List ℕ
  pub head : head_of (codes "ORDER") s.row ≡ Some (record { law = name; dir = order.dir; path = order.path })
  pub law : IsLaw name order.law
  pub part : IsPartThere old new s order.part

-- Sections are orders, one by one.
pub data AreOrders : List (List ℕ) → List (List ℕ) → List Section → List Order → Type 0 where
  no_order : (old : List (List ℕ)) → AreOrders old old [] []
  and_order : (old t new : List (List ℕ)) (s : Section) (others : List Section) (order : Order) (orders : List Order) → IsOrder old t s order
      → AreOrders t new others orders → AreOrders old new (s ∷ others) (order ∷ orders)

-- The text is orders.
pub record IsOrders (text : List ℕ) (old new : List (List ℕ)) (orders : List Order) : Type 0 where
  pub short : is_too_long text ≡ false
  pub head : Section
  pub rest : List Section
  pub parts : sections_of format.Orders text ≡ head ∷ rest
  pub is_head : IsHead format.Orders old head
  pub are_orders : AreOrders (named_in head old) new rest orders

-- ---- the first fault

-- the lines of a section are out of order as those of a part
pub record IsBadLines (old : List (List ℕ)) (s : Section) (e : ScriptFault) : Type 0 where
  pub fault : ParseFault
  pub ill : IsIll content.Part old s fault
  pub is : e ≡ text_fault fault

-- A section is no order: its line says none, or its lines are out of order as those of a part.
pub data IsBadOrder (old : List (List ℕ)) (s : Section) : ScriptFault → Type 0 where
  no_order_line : head_of (codes "ORDER") s.row ≡ None → IsBadOrder old s (fault.Form s.number)
  in_lines : (h : Head) (e : ScriptFault) → head_of (codes "ORDER") s.row ≡ Some h → IsBadLines old s e → IsBadOrder old s e

-- The first of sections that is no order.
pub data IsBadRest : List (List ℕ) → List Section → ScriptFault → Type 0 where
  in_order : (old : List (List ℕ)) (s : Section) (others : List Section) (e : ScriptFault) → IsBadOrder old s e → IsBadRest old (s ∷ others) e
  behind_order : (old t : List (List ℕ)) (s : Section) (others : List Section) (order : Order) (e : ScriptFault) → IsOrder old t s order → IsBadRest t others e → IsBadRest old (s ∷ others) e

-- The first fault of a text as orders.
pub data IsOrdersFault (text : List ℕ) (old : List (List ℕ)) : ScriptFault → Type 0 where
  too_long : is_too_long text ≡ true → IsOrdersFault text old (fault.Text (parse.Limit which.Bytes 1))
  no_line : is_too_long text ≡ false → sections_of format.Orders text ≡ [] → IsOrdersFault text old (fault.Form 1)
  bad_head : (head : Section) (rest : List Section) (e : ScriptFault) → is_too_long text ≡ false → sections_of format.Orders text ≡ head ∷ rest → IsBadHead format.Orders old head e
      → IsOrdersFault text old e
  bad_rest : (head : Section) (rest : List Section) (e : ScriptFault) → is_too_long text ≡ false → sections_of format.Orders text ≡ head ∷ rest → IsHead format.Orders old head
      → IsBadRest (named_in head old) rest e → IsOrdersFault text old e
