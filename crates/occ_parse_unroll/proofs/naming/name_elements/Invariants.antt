use Rattle.std.proofs.Common.{◌≡◌, ◌-◌, ◌++◌, ℕ, List}
use Rattle.occ_parse_forms.specs.declared.form.Declared.TheVariants as declared
use Rattle.occ_parse_forms.specs.occ_lex.Symbols.{Extends}
use Rattle.occ_parse_rules.specs.Unrolled.{named}
use Rattle.occ_parse_unroll.specs.Numbers.{numbering}
use Rattle.occ_parse_unroll.proofs.Declaring.{elements_named}
use Rattle.occ_parse_rules.specs.Places.{elements_from, places}
use Rattle.occ_parse_unroll.specs.Elements.{brought}
use Rattle.occ_parse_unroll.proofs.naming.name_elements.Given as goal

-- the names so far and those of the elements that are left are all
abbrev pub invariant-loop-k : goal.invariant-loop-k
invariant-loop-k g l = record {
  whole : (t : List (List ℕ)) → Extends l.names t → l.waiting ++ elements_named (numbering (g.S.Numbering.number l.source t)) l.kind l.array.0 l.k (l.count - l.k) ≡ l.fn.waiting ++ named (numbering (g.S.Numbering.number l.source t)) l.kind (declared.Array l.array l.count);
  table : brought (g.S.Numbering.brings l.source) l.names (elements_from l.array.0 l.k (l.count - l.k)) ≡ brought (g.S.Numbering.brings l.source) l.fn.names (places (declared.Array l.array l.count));
  grown : Extends l.fn.names l.names;
}
