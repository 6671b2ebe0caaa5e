use Rattle.std.proofs.Common.{◌≡◌, ◌++◌, ℕ, List, drop}
use Rattle.occ_parse_forms.specs.occ_lex.Symbols.{Extends}
use Rattle.occ_parse_rules.specs.Places.{declared_in, entries_of}
use Rattle.occ_parse_rules.specs.Unrolled.{all_named}
use Rattle.occ_parse_unroll.specs.Numbers.{numbering}
use Rattle.occ_parse_unroll.specs.Elements.{all_places, brought}
use Rattle.occ_parse_unroll.proofs.naming.declare.Given as goal

-- what is declared so far and what is left are all
abbrev pub invariant-loop-d : goal.invariant-loop-d
invariant-loop-d g l = record {
  scopes : declared_in l.context.scopes (entries_of l.kind (drop l.d-index l.declared)) ≡ declared_in l.fn.context.scopes (entries_of l.kind l.declared);
  values : l.context.values ≡ l.fn.context.values;
  waiting : (t : List (List ℕ)) → Extends l.names t → l.waiting ++ all_named (numbering (g.S.Numbering.number l.source t)) l.kind (drop l.d-index l.declared) ≡ l.fn.waiting ++ all_named (numbering (g.S.Numbering.number l.source t)) l.kind l.declared;
  table : brought (g.S.Numbering.brings l.source) l.names (all_places (drop l.d-index l.declared)) ≡ brought (g.S.Numbering.brings l.source) l.fn.names (all_places l.declared);
  grown : Extends l.fn.names l.names;
}
