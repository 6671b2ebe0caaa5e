-- Sets of names, seen as lists of numbers.
use Rattle.std.proofs.Common.{◌≡◌, ℕ, ◌+◌, ◌==◌, Bool, true, false, cond, not, nat_lt, ◌&&◌, ◌||◌, Some, None, length, position, List, [], ◌∷◌, ◌++◌, refl, sym, ap, ◌∙◌}
use Rattle.std.specs.List.{list_any, position_or_len}
use Rattle.std.proofs.lemmas.List.{map-append, length-map}
use Rattle.occ_syntax.specs.occ_base.contracts.event.DirPartialEq.TheImpl.{ghosts as directions}
use Rattle.occ_syntax.specs.occ_base.declared.event.Dir.{Dir}
use Rattle.occ_syntax.specs.occ_base.declared.event.Dir.TheVariants.{Input, Output}
use Rattle.occ_syntax.specs.occ_base.declared.names.Name.{Name}
use Rattle.occ_syntax.specs.Names.{is_in}
use Rattle.occ_syntax.specs.View.{numbers}
use Rattle.occ_syntax.specs.Scopes.{same_dir}
use Rattle.occ_names.specs.Once.{same_number, has, with_one}
use Rattle.occ_names.specs.Mentions.{same_end, end_number, end_numbers}

pub names_has : (ks : List Name) (n : Name) → list_any (λ (k : Name). n.0 == k.0) ks ≡ is_in (numbers ks) n.0
names_has [] n = refl
names_has (k ∷ ks) n = ap (λ b. (n.0 == k.0) || b) (names_has ks n)

numbers-cond : (b : Bool) (ks ms : List Name) → numbers (cond b ks ms) ≡ cond b (numbers ks) (numbers ms)
numbers-cond true ks ms = refl
numbers-cond false ks ms = refl

pub names_with : (ks : List Name) (n : Name) → numbers (cond (list_any (λ (k : Name). n.0 == k.0) ks) ks (ks ++ n ∷ [])) ≡ with_one same_number (numbers ks) n.0
names_with ks n =
    numbers-cond _ ks (ks ++ n ∷ []) ∙ ap (λ b. cond b (numbers ks) (numbers (ks ++ n ∷ []))) (names_has ks n)
    ∙ ap (λ ms. cond (is_in (numbers ks) n.0) (numbers ks) ms) (map-append (λ (k : Name). k.0) ks (n ∷ []))

-- ---- sets of channel ends

dirs_tested : (d e : Dir) → directions.eq d e ≡ same_dir d e
dirs_tested Input Input = refl
dirs_tested Output Output = refl
dirs_tested Input Output = refl
dirs_tested Output Input = refl

pub ends_has : (ks : List (Name × Dir)) (n : Name × Dir) → list_any (λ (k : Name × Dir). (n.0.0 == k.0.0) && directions.eq n.1 k.1) ks ≡ has same_end (end_numbers ks) (end_number n)
ends_has [] n = refl
ends_has (k ∷ ks) n =
    ap (λ b. ((n.0.0 == k.0.0) && b) || list_any (λ (j : Name × Dir). (n.0.0 == j.0.0) && directions.eq n.1 j.1) ks) (dirs_tested n.1 k.1)
    ∙ ap (λ b. ((n.0.0 == k.0.0) && same_dir n.1 k.1) || b) (ends_has ks n)

end_numbers-cond : (b : Bool) (ks ms : List (Name × Dir)) → end_numbers (cond b ks ms) ≡ cond b (end_numbers ks) (end_numbers ms)
end_numbers-cond true ks ms = refl
end_numbers-cond false ks ms = refl

pub ends_with : (ks : List (Name × Dir)) (n : Name × Dir)
    → end_numbers (cond (list_any (λ (k : Name × Dir). (n.0.0 == k.0.0) && directions.eq n.1 k.1) ks) ks (ks ++ n ∷ [])) ≡ with_one same_end (end_numbers ks) (end_number n)
ends_with ks n =
    end_numbers-cond _ ks (ks ++ n ∷ []) ∙ ap (λ b. cond b (end_numbers ks) (end_numbers (ks ++ n ∷ []))) (ends_has ks n)
    ∙ ap (λ ms. cond (has same_end (end_numbers ks) (end_number n)) (end_numbers ks) ms) (map-append end_number ks (n ∷ []))

-- ---- places of names

place_or_len-numbers : (p : ℕ → Bool) (ks : List Name) → position_or_len (λ (k : Name). p k.0) ks ≡ position_or_len p (numbers ks)
place_or_len-numbers p [] = refl
place_or_len-numbers p (k ∷ ks) = ap (λ n. cond (not (p k.0)) (1 + n) 0) (place_or_len-numbers p ks)

pub names_place : (p : ℕ → Bool) (ks : List Name) → position (λ (k : Name). p k.0) ks ≡ position p (numbers ks)
names_place p ks =
    ap (λ n. cond (nat_lt n (length ks)) (Some n) None) (place_or_len-numbers p ks)
    ∙ ap (λ l. cond (nat_lt (position_or_len p (numbers ks)) l) (Some (position_or_len p (numbers ks))) None) (sym (length-map ks (λ (k : Name). k.0)))
