-- A script has fewer steps than its text has bytes, and so are orders fewer.
use Rattle.std.proofs.Common.{◌≡◌, ℕ, ◌+◌, ◌<◌, ◌≤◌, Bool, true, false, cond, eqb, List, [], ◌∷◌, ◌++◌, length, ap, arith}
use Rattle.std.proofs.lemmas.Bool.{ltb-false}
use Rattle.occ_script_lines.specs.occ_lex.Rows.{in_front, rows}
use Rattle.occ_script.specs.declared.script.Order.{Order}
use Rattle.occ_script.specs.declared.script.Step.{Step}
use Rattle.occ_script.specs.Orders.{AreOrders, and_order, no_order}
use Rattle.occ_script.specs.Scripts.{IsFormed, is_too_long}
use Rattle.occ_script.specs.Steps.{AreSteps, and_step, no_step}
use Rattle.occ_script_lines.specs.declared.section.Format.{Format}
use Rattle.occ_script_lines.specs.declared.section.Format.TheVariants as format
use Rattle.occ_script_lines.specs.Lines.{is_keyword}
use Rattle.occ_script_lines.specs.Sections.{Section, later_sections, section_at, sections_from, sections_of}

in_front_few : (byte : ℕ) (rs : List (List ℕ)) → length (in_front byte rs) ≤ 1 + length rs
in_front_few byte [] = omega arith
in_front_few byte (row ∷ others) = omega arith

-- no more rows than bytes
rows_few : (text : List ℕ) → length (rows text) ≤ length text
unfolding rows
rows_few [] = omega arith
rows_few (byte ∷ text) = at (rows_few text) (eqb byte 10)
  where
    at : length (rows text) ≤ length text → (b : Bool) → length (cond b ((byte ∷ []) ∷ rows text) (in_front byte (rows text))) ≤ length (byte ∷ text)
    at h true = omega (arith, h)
    at h false = omega (arith, h, in_front_few byte (rows text))

later_few : (f : Format) (n : ℕ) (front : List ℕ) (rs : List (List ℕ)) → length (later_sections f n front rs) ≤ length rs
unfolding later_sections
later_few f n front [] = omega arith
later_few f n front (row ∷ others) = at (later_few f (n + 1) (front ++ row) others) (is_keyword f row)
  where
    at : length (later_sections f (n + 1) (front ++ row) others) ≤ length others → (b : Bool)
        → length (cond b (section_at f n front row others ∷ later_sections f (n + 1) (front ++ row) others) (later_sections f (n + 1) (front ++ row) others)) ≤ length (row ∷ others)
    at h true = omega (arith, h)
    at h false = omega (arith, h)

-- no more sections than rows
from_few : (f : Format) (n : ℕ) (front : List ℕ) (rs : List (List ℕ)) → length (sections_from f n front rs) ≤ length rs
from_few f n front [] = omega arith
from_few f n front (row ∷ others) = omega (arith, later_few f (n + 1) (front ++ row) others)

-- each step is a section of its own
steps_few : {old new : List (List ℕ)} {ss rest : List Section} {steps : List Step} → AreSteps old new ss rest steps → length steps ≤ length ss
steps_few (no_step old rest) = omega arith
steps_few (and_step old t new s ss rest step steps other one more) = omega (arith, steps_few more)

-- so a text that isn't too long has few steps
pub few_steps : (text : List ℕ) (old new : List (List ℕ)) (from to : List ℕ) (steps : List Step) → is_too_long text ≡ false → IsFormed text old new from steps to → length steps < 4294967295
few_steps text old new from to steps short f =
    omega (arith, steps_few f.derivation.is_end.are_steps, ap length f.derivation.parts, ap length f.parts, from_few format.Script 1 [] (rows text), rows_few text, ltb-false 4194304 (length text) short)

-- each order is a section of its own
orders_few : {old new : List (List ℕ)} {ss : List Section} {orders : List Order} → AreOrders old new ss orders → length orders ≤ length ss
orders_few (no_order old) = omega arith
orders_few (and_order old t new s others order orders one more) = omega (arith, orders_few more)

-- so a text that isn't too long has few orders
pub few_orders : (text : List ℕ) (old new : List (List ℕ)) (head : Section) (rest : List Section) (orders : List Order) → is_too_long text ≡ false → sections_of format.Orders text ≡ head ∷ rest
    → AreOrders old new rest orders → length orders < 4294967295
few_orders text old new head rest orders short parts all =
    omega (arith, orders_few all, ap length parts, from_few format.Orders 1 [] (rows text), rows_few text, ltb-false 4194304 (length text) short)
