use Rattle.std.proofs.Common.{◌≡◌, ℕ, ◌+◌, ◌<◌, ◌≤◌, Bool, true, false, List, [], length, Option, Some, None, slice_get, unwrap_or, sym, ap, ◌∙◌, arith}
use Rattle.std.proofs.lemmas.Option.{slice_get_within}
use Rattle.occ_dd.proofs.DiagramLemmas.{label-leaf}
use Rattle.occ_dd.specs.Diagram.{label_of, IsDiagram, Keeps}
use Rattle.occ_dd.specs.Memo.{recalled}
use Rattle.occ_dd.specs.declared.memo.Call.{Call}
use Rattle.occ_dd.specs.declared.memo.Memo.{Memo}
use Rattle.occ_dd.specs.declared.node.Node.{Node}
use Rattle.occ_dd.specs.declared.node.Node.TheVariants.{Leaf}
use Rattle.occ_dd.specs.Choices.{AreChoices, AreUnions}

-- a table of two terminals
module _ (ms ns : List (Node Bool)) (empty full : ℕ) (e : slice_get ms empty ≡ Some (Leaf false)) (k : Keeps ms ns) (f : slice_get ns full ≡ Some (Leaf true)) where
  kept : slice_get ns empty ≡ Some (Leaf false)
  kept = k.same empty (slice_get_within ms empty _ e) ∙ e

  pub empty_made : empty < length ns
  empty_made = slice_get_within ns empty _ kept

  pub full_made : full < length ns
  full_made = slice_get_within ns full _ f

  pub empty_label : IsDiagram ns → unwrap_or (label_of ns empty) true ≡ false
  empty_label g = ap (λ o. unwrap_or o true) (label-leaf ns g empty false kept)

  pub full_label : IsDiagram ns → unwrap_or (label_of ns full) false ≡ true
  full_label g = ap (λ o. unwrap_or o false) (label-leaf ns g full true f)

  differ : empty ≡ full → ⊥
  differ h = let same : ◌≡◌ {A = Option (Node Bool)} (Some (Leaf false)) (Some (Leaf true)) = sym kept ∙ ap (slice_get ns) h ∙ f in cc

  pub two : (ls : List (Node Bool)) → ls ≡ [] → length ms ≤ length ls + 1 → length ns ≤ length ms + 1 → length ns ≡ 2
  two ls none one more = omega (arith, ap length none, one, more, empty_made, full_made, differ)

pub no_choices : (ns : List (Node Bool)) (full : ℕ) (memo : Memo) → ((k : Call) → recalled memo k ≡ None) → AreChoices ns full memo
no_choices ns full memo none call r e = let both : None ≡ Some r = sym (none call) ∙ e in cc

pub no_unions : (ns : List (Node Bool)) (full : ℕ) (memo : Memo) → ((k : Call) → recalled memo k ≡ None) → AreUnions ns full memo
no_unions ns full memo none call r e = let both : None ≡ Some r = sym (none call) ∙ e in cc
