use Rattle.std.proofs.Common.{◌≡◌, ◌++◌, ℕ, List, drop}
use Rattle.occ_syntax.specs.View.{exps}
use Rattle.occ_parse_forms.specs.Shape.{all_said}
use Rattle.occ_parse_forms.specs.occ_lex.Symbols.{Extends}
use Rattle.occ_parse_rules.specs.Unrolled.{values}
use Rattle.occ_parse_unroll.specs.Numbers.{numbering}
use Rattle.occ_parse_unroll.specs.Present.{values_of}
use Rattle.occ_parse_unroll.specs.Elements.{values_places, brought}
use Rattle.occ_parse_unroll.proofs.expression.values.Given as goal

-- the values so far and those of what is left are all
abbrev pub invariant-loop-i : goal.invariant-loop-i
invariant-loop-i g l = record {
  whole : (t : List (List ℕ)) → Extends l.names t
      → exps l.values ++ values (numbering (g.S.Numbering.number l.source t)) l.context.scopes (values_of l.context.values) (drop l.i l.left) (all_said (drop l.i l.right))
      ≡ values (numbering (g.S.Numbering.number l.source t)) l.context.scopes (values_of l.context.values) l.left (all_said l.right);
  table : brought (g.S.Numbering.brings l.source) l.names (values_places l.context.scopes (values_of l.context.values) (drop l.i l.left) (all_said (drop l.i l.right)))
      ≡ brought (g.S.Numbering.brings l.source) l.fn.names (values_places l.context.scopes (values_of l.context.values) l.left (all_said l.right));
  grown : Extends l.fn.names l.names;
}
