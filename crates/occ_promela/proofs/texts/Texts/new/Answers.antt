use Rattle.std.proofs.Common.{◌≡◌, ◌≤◌, ℕ, Bool, true, false, cond, List, [], ◌∷◌, ◌++◌, length, length-append, ap, arith}
use Rattle.std.proofs.lemmas.List.Sums.{prefix_len-le-length}
use Rattle.std.specs.Prelude.{nat_lt}
use Rattle.occ_syntax.specs.occ_base.Names.{place_of, with_text}
use Rattle.occ_promela.proofs.texts.Texts.new.Goals as goal

-- a table with a text is as long as without it, or longer
longer : (texts : List (List ℕ)) (text : List ℕ) (b : Bool) → length texts ≤ length (cond b texts (texts ++ text ∷ []))
longer texts text true = omega arith
longer texts text false = omega (arith, length-append texts (text ∷ []))

-- the number of a text is at most the length of the table that has it
end_within : (texts new : List (List ℕ)) (text : List ℕ) (n : ℕ) → n ≡ place_of texts text → new ≡ with_text texts text → n ≤ length new
end_within texts new text n e is =
    let place : place_of texts text ≤ length texts = prefix_len-le-length _ texts in
    let grows = longer texts text (nat_lt (place_of texts text) (length texts)) in
    omega (arith, e, place, grows, ap length is)

pub invariant_of-result : goal.invariant_of-result
invariant_of-result c = end_within c.args.names c.intern.new.self (45 ∷ []) c.in_ok-end.end.0 c.in_ok-end.ensures.number c.in_ok-end.ensures.table
