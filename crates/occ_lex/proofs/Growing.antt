-- Tables that grow by names grow again.
use Rattle.std.proofs.Common.{◌≡◌, ℕ, List, [], ◌∷◌, ◌++◌, refl, sym, ap, ◌∙◌, subst}
use Rattle.std.specs.List.{AllByRecursion}
use Rattle.occ_base.specs.Names.{with_text}
use Rattle.occ_lex.specs.Growth.{GrowsByNames, IsNameText, with_texts}

-- a table as it is
pub grows_not : (names : List (List ℕ)) → GrowsByNames names names
unfolding with_texts
grows_not names = record { texts = []; named = tt; new_is = refl }

-- a table with one name
pub grows_once : (names : List (List ℕ)) (text : List ℕ) → IsNameText text → GrowsByNames names (with_text names text)
unfolding with_texts
grows_once names text h = record { texts = text ∷ []; named = (h, tt); new_is = refl }

with_both : (names first second : List (List ℕ)) → with_texts names (first ++ second) ≡ with_texts (with_texts names first) second
unfolding with_texts
with_both names [] second = refl
with_both names (text ∷ first) second = with_both (with_text names text) first second

named_both : (first second : List (List ℕ)) → AllByRecursion IsNameText first → AllByRecursion IsNameText second → AllByRecursion IsNameText (first ++ second)
named_both [] second h k = k
named_both (text ∷ first) second h k = (h.0, named_both first second h.1 k)

-- one growth behind another
pub grows_on : (old mid new : List (List ℕ)) → GrowsByNames old mid → GrowsByNames mid new → GrowsByNames old new
grows_on old mid new g h = record {
  texts = g.texts ++ h.texts;
  named = named_both g.texts h.texts g.named h.named;
  new_is = h.new_is ∙ ap (λ t. with_texts t h.texts) g.new_is ∙ sym (with_both old g.texts h.texts);
}
