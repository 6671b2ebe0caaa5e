-- What is left to be done of a program that is stepped by hand: its control tree. After Plotkin, "A Structural Approach
-- to Operational Semantics" (1981): a program goes on by small steps, each of which leaves a smaller control.
use Rattle.std.specs.Prelude.{ℕ, Bool, true, false, ◌&&◌}
use Rattle.occ_meaning.specs.occ_base.declared.width.Width.{Width}
use Rattle.occ_meaning.specs.occ_syntax.Tree.{Tree, Trees}

-- Nothing; a process that isn't begun; one control and then processes in turn; controls at once; the body of a VAR, with
-- the variable's width and present value; the body of a CHAN, with the channel's width.
mutual
  pub data Control : Type 0 where
    done : Control
    unbegun : Tree → Control
    after : Control → Trees → Control
    both : Controls → Control
    local : ℕ → Width → ℕ → Control → Control
    channel : ℕ → Width → Control → Control

  pub data Controls : Type 0 where
    no_control : Controls
    and_control : Control → Controls → Controls

abbrev pub is_done : Control → Bool
is_done done = true
is_done (unbegun p) = false
is_done (after C ps) = false
is_done (both Cs) = false
is_done (local x w v C) = false
is_done (channel c w C) = false

abbrev pub all_done : Controls → Bool
all_done no_control = true
all_done (and_control C Cs) = is_done C && all_done Cs
