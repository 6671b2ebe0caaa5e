-- What the PARAM lines of a text are read as determines them, and is an interface.
use Rattle.std.proofs.Common.{◌≡◌, ℕ, ◌+◌, ◌<◌, ◌≤◌, Bool, true, cond, ltb, leb, not, ◌&&◌, List, [], ◌∷◌, ◌++◌, length, Option, Some, None, refl, sym, ap, subst, ◌∙◌, arith, append_assoc, length-append, ltb-true, leb-true}
use Rattle.std.specs.List.{concat, list_any}
use Rattle.std.specs.Str.{bytes_eq}
use Rattle.std.proofs.lemmas.Bool.{and_parts, and_from}
use Rattle.std.proofs.lemmas.Option.{cond_some}
use Rattle.occ_lex.specs.occ_base.declared.names.Name.{Name}
use Rattle.occ_lex.specs.occ_base.Names.{place_of, with_text}
use Rattle.occ_syntax.specs.declared.scope.Kind.{Kind}
use Rattle.occ_syntax.specs.Counts.{bits_of_kind, bits_of_scope}
use Rattle.occ_nform_table.specs.Lines.{text_of, can_follow, next_param, param_of, is_param_name, HasWidth}
use Rattle.occ_nform_table.specs.Reading.{Lines, Header, either, params_in}
use Rattle.occ_nform_table.specs.Tables.{IsInterface, are_params}
use Rattle.occ_nform_table.specs.Texts.{params_text}
use Rattle.occ_nform_table.proofs.ReadWords.{then_inv}
use Rattle.occ_nform_table.proofs.ReadParams.{IsParamRead, param_inv, param_line}
use Rattle.occ_nform_table.proofs.Names.{all_push, bits_push, Keeps, keeps_with, place_within, text_there, named_kept, follow_kept, stands, are_kept, are_push, params_text_kept, params_text_push}

-- what is known of parameters that were read, and of the lines that are left
pub record IsHeader (names : List (List ℕ)) (params : List (Name × Kind)) (lines : Lines) (h : Header) : Type 0 where
  pub interface : IsInterface h.names h.params
  pub are : are_params h.names [] h.params ≡ true
  pub written : params_text names params ++ concat lines ≡ params_text h.names h.params ++ concat h.rest
  pub shorter : length h.rest ≤ length lines

-- a parameter with its name as a number
abbrev numbered : List (List ℕ) → List ℕ × Kind → Name × Kind
numbered names p = (record { 0 = place_of names p.0 }, p.1)

-- one more parameter
record IsNext (names more : List (List ℕ)) (params all : List (Name × Kind)) (line : List ℕ) : Type 0 where
  interface : IsInterface more all
  are : are_params more [] all ≡ true
  written : params_text names params ++ line ≡ params_text more all

-- there is room for one more parameter
follow_room : (names : List (List ℕ)) (params : List (Name × Kind)) (p : List ℕ × Kind) → can_follow names params p ≡ true → (length params < 16) × (bits_of_scope params + bits_of_kind p.1 ≤ 16)
unfolding can_follow
follow_room names params p follows =
    let free : Bool = not (list_any (λ (q : Name × Kind). bytes_eq p.0 (text_of names q.0)) params) in
    let parts = and_parts (ltb (length params) 16 && free) (leb (bits_of_scope params + bits_of_kind p.1) 16) follows in
    (ltb-true (length params) 16 (and_parts (ltb (length params) 16) free parts.0).0, leb-true (bits_of_scope params + bits_of_kind p.1) 16 parts.1)

next_is : (names : List (List ℕ)) (params : List (Name × Kind)) (line : List ℕ) (p : List ℕ × Kind) → IsInterface names params → are_params names [] params ≡ true
    → can_follow names params p ≡ true → IsParamRead line p → IsNext names (with_text names p.0) params (params ++ numbered names p ∷ []) line
next_is names params line p interface are follows is =
    let more : List (List ℕ) = with_text names p.0 in
    let entry : Name × Kind = numbered names p in
    let keeps : Keeps names more = keeps_with names p.0 in
    let text : text_of more entry.0 ≡ p.0 = text_there names p.0 in
    let room = follow_room names params p follows in
    let own : stands more params entry ≡ true = and_from _ _ (and_from _ _ (ap is_param_name text ∙ is.name) is.marked)
    (ap (λ t. can_follow more params (t, p.1)) text ∙ follow_kept names more params p keeps interface.named ∙ follows) in
    record {
      interface = record {
        named = all_push (λ (q : Name × Kind). q.0.0 < length more) params entry (named_kept names more params keeps interface.named) (place_within names p.0);
        wide = all_push (λ (q : Name × Kind). HasWidth q.1) params entry interface.wide is.wide;
        few = omega (arith, length-append params (entry ∷ []), room.0);
        bits = omega (arith, bits_push params entry, room.1);
      };
      are = are_push more [] params entry (are_kept names more [] params keeps tt interface.named ∙ are) own;
      written = (λ i. sym (params_text_kept names more params keeps interface.named) i ++ (is.written ∙ ap (λ t. param_line t p.1) (sym text)) i) ∙ sym (params_text_push more params entry);
    }

line_next : (names : List (List ℕ)) (params : List (Name × Kind)) (line : List ℕ) (p : List ℕ × Kind) → IsInterface names params → are_params names [] params ≡ true → next_param names params line ≡ Some p
    → IsNext names (with_text names p.0) params (params ++ numbered names p ∷ []) line
unfolding next_param
line_next names params line p interface are e =
    let one = then_inv (param_of line) (λ p. cond (can_follow names params p) (Some p) None) p e in
    let fit = cond_some (can_follow names params one.0) one.0 p one.2 in
    next_is names params line p interface are (subst (λ q. can_follow names params q ≡ true) fit.1 fit.0) (subst (IsParamRead line) fit.1 (param_inv line one.0 one.1))

pub params_inv : (names : List (List ℕ)) (params : List (Name × Kind)) (lines : Lines) → IsInterface names params → are_params names [] params ≡ true → IsHeader names params lines (params_in names params lines)
unfolding params_in
params_inv names params [] interface are = record { interface = interface; are = are; written = refl; shorter = omega arith }
params_inv names params (line ∷ lines) interface are = at (next_param names params line) refl (λ more all i a. params_inv more all lines i a)
  where
    at : (o : Option (List ℕ × Kind)) → next_param names params line ≡ o
        → ((more : List (List ℕ)) (all : List (Name × Kind)) → IsInterface more all → are_params more [] all ≡ true → IsHeader more all lines (params_in more all lines))
        → IsHeader names params (line ∷ lines) (either o (record { names = names; params = params; rest = line ∷ lines }) (λ p. params_in (with_text names p.0) (params ++ numbered names p ∷ []) lines))
    at None e behind = record { interface = interface; are = are; written = refl; shorter = omega arith }
    at (Some p) e behind =
        let next : IsNext names (with_text names p.0) params (params ++ numbered names p ∷ []) line = line_next names params line p interface are e in
        let rest : IsHeader (with_text names p.0) (params ++ numbered names p ∷ []) lines (params_in (with_text names p.0) (params ++ numbered names p ∷ []) lines) = behind _ _ next.interface next.are in
        record {
          interface = rest.interface;
          are = rest.are;
          written = sym (append_assoc (params_text names params) line (concat lines)) ∙ ap (λ t. t ++ concat lines) next.written ∙ rest.written;
          shorter = omega (arith, rest.shorter);
        }
