-- Offers that lead to one row on one channel.
use Rattle.std.proofs.Common.{◌≡◌, ◌==◌, ℕ, true, sym, ◌∙◌}
use Rattle.std.proofs.lemmas.Bool.{and_parts, and_from, eqb-true, eq-eqb}
use Rattle.occ_syntax.specs.occ_base.declared.event.Event.{Event}
use Rattle.occ_draw.specs.Spans.{same_end}
use Rattle.occ_draw.specs.Edges.{alike}
use Rattle.occ_draw.proofs.Ends.{OneEnd, end_same, one_end, through, turned}

pub record Alike (o p : Event × ℕ) : Type 0 where
  pub ends : OneEnd o.0 p.0
  pub target : o.1 ≡ p.1

pub alike_is : (o p : Event × ℕ) → alike o p ≡ true → Alike o p
alike_is o p h = let q = and_parts (same_end o.0 p.0) (o.1 == p.1) h in record { ends = one_end o.0 p.0 q.0; target = eqb-true o.1 p.1 q.1 }

pub is_alike : (o p : Event × ℕ) → Alike o p → alike o p ≡ true
is_alike o p h = and_from (same_end o.0 p.0) (o.1 == p.1) (end_same o.0 p.0 h.ends) (eq-eqb o.1 p.1 h.target)

pub alike_back : (o p : Event × ℕ) → Alike o p → Alike p o
alike_back o p h = record { ends = turned o.0 p.0 h.ends; target = sym h.target }

pub alike_through : (o p q : Event × ℕ) → Alike o p → Alike p q → Alike o q
alike_through o p q h k = record { ends = through o.0 p.0 q.0 h.ends k.ends; target = h.target ∙ k.target }
