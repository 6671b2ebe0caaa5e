-- Names of lines are names of the table by themselves.
use Rattle.std.proofs.Common.{◌≡◌, ℕ, ◌<◌, true, nat_le, nat_lt, List, [], ◌∷◌, length, get_or, Option, Some, None, ap, sym, ◌∙◌, arith}
use Rattle.std.specs.List.{AllByRecursion}
use Rattle.std.proofs.lemmas.Bool.{and_from, and_parts, lt-ltb, ltb-true}
use Rattle.occ_script_back.specs.occ_lex.declared.token.TokenKind.TheVariants as token
use Rattle.occ_script_back.specs.occ_lex.Spelling.{is_name, kind_of}
use Rattle.occ_script_back.proofs.from_lex.Printing.{spelled}
use Rattle.occ_script_back.proofs.from_parse.Places.{known_step, knows, one_to_one}
use Rattle.occ_script_back.proofs.from_parse.Texts.{is_plain}
use Rattle.occ_script_back.specs.occ_parse_rules.Places.{Place}
use Rattle.occ_script_back.specs.occ_parse_rules.Agreement.{Has}
use Rattle.occ_script_back.specs.occ_parse_unroll.Numbers.{number_in}
use Rattle.occ_script_back.specs.occ_print.Spelled.{name_text}
use Rattle.occ_script_back.specs.occ_print_back.Placed.{IsPlace, IsTable}
use Rattle.occ_script_back.proofs.from_print_back.Stable.{index_is, numbered}
use Rattle.occ_script_back.specs.Tables.{IsBase}
use Rattle.occ_script_table.proofs.Named.{IsElementIn}
use Rattle.occ_script_table.proofs.Scoped.{AllFit, Fits}

module _ (t : List (List ℕ)) (P : ℕ → Place) (table : IsTable t P) where
  plain_at : (y : ℕ) → y < length t → kind_of (name_text t y) ≡ Some token.Name → is_plain t y ≡ true
  plain_at y l k =
      and_from (nat_lt y (length t)) (is_name (get_or t y [])) (lt-ltb _ _ l)
      (ap is_name (index_is t y l) ∙ spelled (name_text t y) token.Name k)

  base_from : (x y : ℕ) (o : Option ℕ) → is_plain t x ≡ true → x < length t → IsPlace t (record { name = y; element = o }) (name_text t x)
      → number_in t y o ≡ x → IsBase t x
  base_from x y None h l p n = record {
    there = l;
    kind = ap kind_of p.text_is ∙ p.kind;
    short = ap (λ s. nat_le (length s) 32) p.text_is ∙ p.short;
  }
  base_from x y (Some k) h l p n =
      let small : k < 256 = p.index in
      let there : Has (knows t) y (Some k) = known_step t y (Some k) (plain_at y p.there p.kind) (lt-ltb _ _ small) (omega (arith, l, n)) in
      let bad : None ≡ Some k = (one_to_one t table.distinct).element x None y (Some k) h there (sym n) in
      absurd cc

  -- a name by itself
  pub base_of : (x : ℕ) → is_plain t x ≡ true → IsBase t x
  base_of x h =
      let l : x < length t = ltb-true _ _ (and_parts (nat_lt x (length t)) (is_name (get_or t x [])) h).0 in
      base_from x (P x).name (P x).element h l (table.places x l) (numbered t P table x l)

  element_of : (p : Place) (k : Option ℕ) → Fits (is_plain t) p.name k → IsElementIn t (record { name = p.name; element = k })
  element_of p None h = (base_of p.name h, tt)
  element_of p (Some k) h = (base_of p.name h.0, h.1)

  -- places of such names
  pub elements_of : (ps : List Place) → AllFit (is_plain t) ps → AllByRecursion (IsElementIn t) ps
  elements_of [] h = tt
  elements_of (p ∷ ps) h = (element_of p p.element h.0, elements_of ps h.1)
