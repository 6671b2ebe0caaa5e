-- States that lines say are states of the interface.
use Rattle.std.proofs.Common.{◌≡◌, ℕ, true, refl, sym, subst, List, Option, None, Some, codes}
use Rattle.occ_syntax.specs.occ_base.declared.event.Event.{Event}
use Rattle.occ_syntax.specs.occ_base.declared.names.Name.{Name}
use Rattle.occ_syntax.specs.declared.scope.Kind.{Kind}
use Rattle.occ_compare.specs.occ_behaviour.States.{is_state}
use Rattle.occ_compare.specs.occ_behaviour.declared.behaviour.Last.{Last}
use Rattle.occ_compare.specs.occ_behaviour.declared.behaviour.Last.TheVariants.{Refuses, Ends}
use Rattle.occ_nform_read.specs.occ_nform_table.Words.{then_read, or_else, between}
use Rattle.occ_nform_read.specs.occ_nform_table.Lines.{set_of, state_of}
use Rattle.occ_nform_read.proofs.Forms.{state_is}
use Rattle.occ_behaviour_read.specs.Claims.{LastIsOf, last_line, state_line}

pub state_stated : (params : List (Name × Kind)) (line : List ℕ) (state : List (Name × ℕ)) → Some state ≡ state_line params line → is_state params state ≡ true
unfolding state_line
state_stated params line state e = within (between (codes "STATE [") (codes "]") line) e
  where
    within : (found : Option (List ℕ)) → Some state ≡ then_read found (state_of params) → is_state params state ≡ true
    within None e = cc
    within (Some text) e = state_is params text state (sym e)

module _ (names : List (List ℕ)) (params : List (Name × Kind)) (last : Last) where
  told : (set : Option (List Event)) (state : Option (List (Name × ℕ))) → ((s : List (Name × ℕ)) → state ≡ Some s → is_state params s ≡ true)
      → Some last ≡ or_else (then_read set (λ set. Some (Refuses set))) (then_read state (λ state. Some (Ends state))) → LastIsOf params last
  told (Some set) state h e = let is : Refuses set ≡ last = cc in subst (LastIsOf params) is tt
  told None (Some state) h e = let is : Ends state ≡ last = cc in subst (LastIsOf params) is (h state refl)
  told None None h e = cc

  read_of : (found : Option (List ℕ)) (s : List (Name × ℕ)) → then_read found (state_of params) ≡ Some s → is_state params s ≡ true
  read_of None s e = cc
  read_of (Some text) s e = state_is params text s e

  both : (refusal ends : Option (List ℕ)) → Some last ≡ or_else (then_read refusal (λ text. then_read (set_of names params text) (λ set. Some (Refuses set)))) (then_read ends (λ text. then_read (state_of params text) (λ state. Some (Ends state))))
      → LastIsOf params last
  both None None e = told None None (λ s h. read_of None s h) e
  both None (Some text) e = told None (state_of params text) (λ s h. read_of (Some text) s h) e
  both (Some set) None e = told (set_of names params set) None (λ s h. read_of None s h) e
  both (Some set) (Some text) e = told (set_of names params set) (state_of params text) (λ s h. read_of (Some text) s h) e

pub last_stated : (names : List (List ℕ)) (params : List (Name × Kind)) (line : List ℕ) (last : Last) → Some last ≡ last_line names params line → LastIsOf params last
unfolding last_line
last_stated names params line last e = both names params last (between (codes "REFUSES {") (codes "}") line) (between (codes "ENDS [") (codes "]") line) e
