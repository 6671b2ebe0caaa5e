-- A text has one reading: as orders, or with one first fault.
use Rattle.std.proofs.Common.{◌≡◌, ◌==◌, ℕ, true, false, List, [], ◌∷◌, length, map, Option, Some, None, refl, sym, ap, subst, ◌∙◌}
use Rattle.std.specs.Prelude.{codes, option_map}
use Rattle.occ_parse_part.specs.declared.raw.Raw.{Raw}
use Rattle.occ_parse_part.specs.Shown.{part_of}
use Rattle.occ_parse_part.proofs.from_parse.Once.{some_one}
use Rattle.occ_script.specs.declared.content.Content.TheVariants as content
use Rattle.occ_script.specs.declared.fault.ScriptFault.{ScriptFault}
use Rattle.occ_script.specs.declared.script.Order.{Order}
use Rattle.occ_script.specs.Faults.{text_fault}
use Rattle.occ_script.specs.Lines.{IsWell, named_in}
use Rattle.occ_script.specs.Orders.{AreOrders, IsBadOrder, IsBadRest, IsOrder, IsOrders, IsOrdersFault, IsPartThere, and_order, bad_head, bad_rest, behind_order, in_lines, in_order, no_line, no_order, no_order_line, too_long}
use Rattle.occ_script.specs.Refusals.{IsBadHead}
use Rattle.occ_script.specs.Scripts.{is_too_long}
use Rattle.occ_script.specs.Shown.{shown_order}
use Rattle.occ_script.specs.Steps.{IsLaw}
use Rattle.occ_script_lines.specs.declared.section.Format.TheVariants as format
use Rattle.occ_script_lines.specs.Lines.{Head, head_of}
use Rattle.occ_script_lines.specs.Sections.{Section, reading_in, sections_of}
use Rattle.occ_script.proofs.Once.{IsOnce, Table, ill_once, law_once, no_head, not_ill, one_answer, part_once, part_table}
use Rattle.occ_script.proofs.OnceAll.{AreSameSections, same_sections}
use Rattle.occ_script.proofs.OnceTexts.{head_fault_once, head_or_fault, some_section}

-- what an order says on its line
abbrev said : List ℕ → Order → Head
said name order = record { law = name; dir = order.dir; path = order.path }

well_there : (old new : Table) (s : Section) (part : Option Raw) → IsPartThere old new s part → IsWell content.Part old s
well_there old new s None x = x.well
well_there old new s (Some part) x = x.lines.well

module _ (once : IsOnce) where
  -- ---- one order

  there_once : (old t u : Table) (s : Section) (a b : Option Raw) → IsPartThere old t s a → IsPartThere old u s b
      → (option_map part_of a ≡ option_map part_of b) × (t ≡ u)
  there_once old t u s None None x y = (refl, x.table ∙ sym y.table)
  there_once old t u s None (Some b) x y = one_answer (length (reading_in s).0 == 0) x.empty y.some
  there_once old t u s (Some a) None x y = one_answer (length (reading_in s).0 == 0) y.empty x.some
  there_once old t u s (Some a) (Some b) x y =
      (ap (λ p. Some p) (part_once once old t u s a b x.lines y.lines), part_table once old t u s a b x.lines y.lines)

  order_once : (old t u : Table) (s : Section) (a b : Order) → IsOrder old t s a → IsOrder old u s b
      → (shown_order a ≡ shown_order b) × (t ≡ u)
  order_once old t u s a b x y =
      let heads : said x.name a ≡ said y.name b =
      some_one (said x.name a) (said y.name b) (head_of (codes "ORDER") s.row) (head_of (codes "ORDER") s.row) x.head y.head refl in
      let laws : a.law ≡ b.law =
      law_once once y.name a.law b.law (subst (λ n. IsLaw n a.law) (ap (λ (w : Head). w.law) heads) x.law) y.law in
      let dirs : a.dir ≡ b.dir = ap (λ (w : Head). w.dir) heads in
      let paths : a.path ≡ b.path = ap (λ (w : Head). w.path) heads in
      let both = there_once old t u s a.part b.part x.part y.part in
      (λ i. record { law = laws i; dir = dirs i; path = paths i; part = both.0 i }, both.1)

  bad_order_once : (old : Table) (s : Section) {d e : ScriptFault} → IsBadOrder old s d → IsBadOrder old s e → d ≡ e
  bad_order_once old s (no_order_line h) (no_order_line g) = refl
  bad_order_once old s (no_order_line h) (in_lines k e g y) = no_head k (head_of (codes "ORDER") s.row) h g
  bad_order_once old s (in_lines k d h x) (no_order_line g) = no_head k (head_of (codes "ORDER") s.row) g h
  bad_order_once old s (in_lines k d h x) (in_lines l e g y) =
      x.is ∙ ap text_fault (ill_once once content.Part old s x.fault y.fault x.ill y.ill) ∙ sym y.is

  order_or_fault : (old new : Table) (s : Section) (order : Order) {e : ScriptFault} → IsOrder old new s order → IsBadOrder old s e → ⊥
  order_or_fault old new s order x (no_order_line h) = no_head (said x.name order) (head_of (codes "ORDER") s.row) h x.head
  order_or_fault old new s order x (in_lines k e h y) = not_ill once content.Part old s y.fault (well_there old new s order.part x.part) y.ill

  -- ---- all orders

  orders_once : {old t u : Table} {ss : List Section} {xs ys : List Order} → AreOrders old t ss xs → AreOrders old u ss ys
      → (map shown_order xs ≡ map shown_order ys) × (t ≡ u)
  orders_once (no_order old) (no_order old') = (refl, refl)
  orders_once (and_order old t new s others x xs one more) (and_order old' u new' s' others' y ys two rest) =
      let here = order_once old t u s x y one two in
      let behind = orders_once more (subst (λ v. AreOrders v new' others ys) (sym here.1) rest) in
      (λ i. here.0 i ∷ behind.0 i, behind.1)

  rest_once : {old : Table} {ss : List Section} {d e : ScriptFault} → IsBadRest old ss d → IsBadRest old ss e → d ≡ e
  rest_once (in_order old s others d x) (in_order old' s' others' e y) = bad_order_once old s x y
  rest_once (in_order old s others d x) (behind_order old' t s' others' order e one y) = absurd (order_or_fault old t s order one x)
  rest_once (behind_order old t s others order d one x) (in_order old' s' others' e y) = absurd (order_or_fault old t s order one y)
  rest_once (behind_order old t s others order d one x) (behind_order old' u s' others' other e two y) =
      rest_once x (subst (λ v. IsBadRest v others e) (sym (order_once old t u s order other one two).1) y)

  orders_or_fault : {old new : Table} {ss : List Section} {orders : List Order} {e : ScriptFault} → AreOrders old new ss orders
      → IsBadRest old ss e → ⊥
  orders_or_fault (no_order old) bad = elim bad [ ]
  orders_or_fault (and_order old t new s others order orders one more) (in_order old' s' others' e y) = order_or_fault old t s order one y
  orders_or_fault (and_order old t new s others order orders one more) (behind_order old' u s' others' other e two y) =
      orders_or_fault more (subst (λ v. IsBadRest v others e) (sym (order_once old t u s order other one two).1) y)

  -- ---- whole texts

  head_here : (text : List ℕ) (old : Table) (h k : Section) (hs ks : List Section) {e : ScriptFault}
      → sections_of format.Orders text ≡ h ∷ hs
      → sections_of format.Orders text ≡ k ∷ ks → IsBadHead format.Orders old k e → IsBadHead format.Orders old h e
  head_here text old h k hs ks {e} p q x =
      subst (λ s. IsBadHead format.Orders old s e) (sym (same_sections h k hs ks (sections_of format.Orders text) p q).first) x

  rest_here : (text : List ℕ) (old : Table) (h k : Section) (hs ks : List Section) {e : ScriptFault}
      → sections_of format.Orders text ≡ h ∷ hs
      → sections_of format.Orders text ≡ k ∷ ks → IsBadRest (named_in k old) ks e → IsBadRest (named_in h old) hs e
  rest_here text old h k hs ks {e} p q x =
      let same = same_sections h k hs ks (sections_of format.Orders text) p q in
      subst (λ (r : List Section). IsBadRest (named_in h old) r e) (sym same.rest)
      (subst (λ (s : Section). IsBadRest (named_in s old) ks e) (sym same.first) x)

  -- a text has one first fault as orders
  pub orders_fault_once : (text : List ℕ) (old : Table) {d e : ScriptFault} → IsOrdersFault text old d → IsOrdersFault text old e → d ≡ e
  orders_fault_once text old (too_long h) (too_long g) = refl
  orders_fault_once text old (too_long h) (no_line g q) = one_answer (is_too_long text) h g
  orders_fault_once text old (too_long h) (bad_head k ks e g q y) = one_answer (is_too_long text) h g
  orders_fault_once text old (too_long h) (bad_rest k ks e g q also y) = one_answer (is_too_long text) h g
  orders_fault_once text old (no_line h p) (too_long g) = one_answer (is_too_long text) g h
  orders_fault_once text old (no_line h p) (no_line g q) = refl
  orders_fault_once text old (no_line h p) (bad_head k ks e g q y) = some_section k ks (sections_of format.Orders text) p q
  orders_fault_once text old (no_line h p) (bad_rest k ks e g q also y) = some_section k ks (sections_of format.Orders text) p q
  orders_fault_once text old (bad_head h hs d f p x) (too_long g) = one_answer (is_too_long text) g f
  orders_fault_once text old (bad_head h hs d f p x) (no_line g q) = some_section h hs (sections_of format.Orders text) q p
  orders_fault_once text old (bad_head h hs d f p x) (bad_head k ks e g q y) =
      head_fault_once once format.Orders old h x (head_here text old h k hs ks p q y)
  orders_fault_once text old (bad_head h hs d f p x) (bad_rest k ks e g q also y) =
      absurd (head_or_fault once format.Orders old k also (head_here text old k h ks hs q p x))
  orders_fault_once text old (bad_rest h hs d f p good x) (too_long g) = one_answer (is_too_long text) g f
  orders_fault_once text old (bad_rest h hs d f p good x) (no_line g q) = some_section h hs (sections_of format.Orders text) q p
  orders_fault_once text old (bad_rest h hs d f p good x) (bad_head k ks e g q y) =
      absurd (head_or_fault once format.Orders old h good (head_here text old h k hs ks p q y))
  orders_fault_once text old (bad_rest h hs d f p good x) (bad_rest k ks e g q also y) = rest_once x (rest_here text old h k hs ks p q y)

  -- none where it is orders
  pub orders_text_or_fault : (text : List ℕ) (old new : Table) (orders : List Order) {e : ScriptFault} → IsOrders text old new orders
      → IsOrdersFault text old e → ⊥
  orders_text_or_fault text old new orders x (too_long g) = one_answer (is_too_long text) g x.short
  orders_text_or_fault text old new orders x (no_line g q) = some_section x.head x.rest (sections_of format.Orders text) q x.parts
  orders_text_or_fault text old new orders x (bad_head k ks e g q y) =
      head_or_fault once format.Orders old x.head x.is_head (head_here text old x.head k x.rest ks x.parts q y)
  orders_text_or_fault text old new orders x (bad_rest k ks e g q also y) =
      orders_or_fault x.are_orders (rest_here text old x.head k x.rest ks x.parts q y)

  -- and is one list of orders as far as they are seen
  pub orders_text_once : (text : List ℕ) (old new other : Table) (xs ys : List Order) → IsOrders text old new xs
      → IsOrders text old other ys
      → (map shown_order xs ≡ map shown_order ys) × (new ≡ other)
  orders_text_once text old new other xs ys x y =
      let same : AreSameSections x.head y.head x.rest y.rest =
      same_sections x.head y.head x.rest y.rest (sections_of format.Orders text) x.parts y.parts in
      orders_once x.are_orders
      (subst (λ (r : List Section). AreOrders (named_in x.head old) other r ys) (sym same.rest)
      (subst (λ (s : Section). AreOrders (named_in s old) other y.rest ys) (sym same.first) y.are_orders))
