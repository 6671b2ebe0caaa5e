-- When lines under other names stand for the same program under other numbers.
use Rattle.std.specs.Prelude.{ℕ, ◌==◌, ◌≡◌, true, List}
use Rattle.std.specs.List.{AllByRecursion}
use Rattle.occ_replay_rules.specs.occ_parse_forms.declared.form.Param.{Param}
use Rattle.occ_replay_rules.specs.occ_parse_rules.Forest.{Forest}
use Rattle.occ_replay_rules.specs.occ_parse_rules.Places.{Place}
use Rattle.occ_replay_rules.specs.occ_parse_rules.Unrolled.{Numbers}
use Rattle.occ_replay_rules.specs.occ_parse_rules.InOrder.{AreInOrder}
use Rattle.occ_replay_rules.specs.occ_parse_rules.Programs.{param_scope}
use Rattle.occ_replay_rules.specs.occ_parse_rules.Sound.{are_placed}
use Rattle.occ_replay_rules.specs.occ_parse_unroll.Elements.{program_places}

-- no two names have one other name
abbrev pub IsOneForOne : (ℕ → ℕ) → Type 0
IsOneForOne f = (x y : ℕ) → (f x == f y) ≡ (x == y)

-- the number of a place is, under its other name, the other one of its number
abbrev pub IsNumberedSo : (ℕ → ℕ) → Numbers → Numbers → Place → Type 0
IsNumberedSo f N M p = M (f p.name) p.element ≡ f (N p.name p.element)

-- The lines of a program have no fault of names, types or directions, declarations stand in front of processes alone, and so is
-- each place numbered that the parameters and the lines speak of.
pub record IsNumbered (f : ℕ → ℕ) (N M : Numbers) (params : List Param) (below : Forest) : Type 0 where
  pub placed : are_placed below ≡ true
  pub lines : AreInOrder (param_scope params) (param_scope params) below
  pub places : AllByRecursion (IsNumberedSo f N M) (program_places params below)
