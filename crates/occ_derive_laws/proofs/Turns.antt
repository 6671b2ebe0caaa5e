-- The laws that move parts of a SEQ: lists of parts in one.
use Rattle.std.proofs.Common.{◌≡◌, ◌∙◌, ℕ, Bool, true, false, ◌||◌, List, [], ◌∷◌, refl, sym, ap, subst}
use Rattle.std.proofs.lemmas.Bool.{and_from, and_parts, or_left}
use Rattle.occ_renamed.specs.occ_base.declared.event.Dir.{Dir}
use Rattle.occ_renamed.specs.occ_base.declared.names.Name.{Name}
use Rattle.occ_renamed.specs.occ_law.Lists.{size}
use Rattle.occ_renamed.specs.occ_law.Sequence.{seq_flat, seq_none, seq_one, seq_skip, seq_stop}
use Rattle.occ_renamed.specs.occ_law.RuleTable.{LAW}
use Rattle.occ_renamed.proofs.from_meaning.Facts.{false_not_true}
use Rattle.occ_renamed.specs.occ_meaning.Parallel.{all_of, one}
use Rattle.occ_renamed.specs.occ_syntax.declared.scope.Kind.{Kind}
use Rattle.occ_renamed.specs.occ_syntax.Names.{end_in_some, free, free_in_some, uses_end, written, written_in_some}
use Rattle.occ_renamed.specs.occ_syntax.Scopes.{Environment, environment}
use Rattle.occ_renamed.specs.occ_syntax.Tree.{Tree, Trees, and_tree, no_tree, seq, skip, stop}
use Rattle.occ_renamed.specs.occ_syntax.Types.{all_types_kept, types_kept}
use Rattle.occ_renamed.specs.occ_syntax.Usage.{Keeps}
use Rattle.occ_renamed.specs.occ_usage.Local.{UsesNoMore}

-- ---- the rules

pub none_keeps : (Γ : Environment) → Keeps Γ (seq no_tree)
none_keeps Γ = record { types = refl; usage = tt }

pub stop_keeps : (Γ : Environment) → Keeps Γ (seq (one stop))
stop_keeps Γ = record { types = refl; usage = (tt, tt) }

pub first_keeps : (Γ : Environment) (p : Tree) (ps : Trees) → Keeps Γ (seq (and_tree p ps)) → Keeps Γ p
first_keeps Γ p ps k = record { types = (and_parts (types_kept p Γ) (all_types_kept ps Γ) k.types).0; usage = k.usage.0 }

pub rest_keeps : (Γ : Environment) (p : Tree) (ps : Trees) → Keeps Γ (seq (and_tree p ps)) → Keeps Γ (seq ps)
rest_keeps Γ p ps k = record { types = (and_parts (types_kept p Γ) (all_types_kept ps Γ) k.types).1; usage = k.usage.1 }

pub with_first : (Γ : Environment) (p : Tree) (ps : Trees) → Keeps Γ p → Keeps Γ (seq ps) → Keeps Γ (seq (and_tree p ps))
with_first Γ p ps k m = record { types = and_from (types_kept p Γ) (all_types_kept ps Γ) k.types m.types; usage = (k.usage, m.usage) }

-- the parts in front
pub front_keeps : (Γ : Environment) (ps qs : Trees) → Keeps Γ (seq (all_of ps qs)) → Keeps Γ (seq ps)
front_keeps Γ no_tree qs k = none_keeps Γ
front_keeps Γ (and_tree p ps) qs k =
    with_first Γ p ps (first_keeps Γ p (all_of ps qs) k) (front_keeps Γ ps qs (rest_keeps Γ p (all_of ps qs) k))

-- the parts behind them
pub behind_keeps : (Γ : Environment) (ps qs : Trees) → Keeps Γ (seq (all_of ps qs)) → Keeps Γ (seq qs)
behind_keeps Γ no_tree qs k = k
behind_keeps Γ (and_tree p ps) qs k = behind_keeps Γ ps qs (rest_keeps Γ p (all_of ps qs) k)

-- all of them
pub all_keep : (Γ : Environment) (ps qs : Trees) → Keeps Γ (seq ps) → Keeps Γ (seq qs) → Keeps Γ (seq (all_of ps qs))
all_keep Γ no_tree qs k m = m
all_keep Γ (and_tree p ps) qs k m = with_first Γ p (all_of ps qs) (first_keeps Γ p ps k) (all_keep Γ ps qs (rest_keeps Γ p ps k) m)

-- other parts behind the same ones
others_keep : (Γ : Environment) (ps qs rs : Trees) → (Keeps Γ (seq qs) → Keeps Γ (seq rs)) → Keeps Γ (seq (all_of ps qs)) → Keeps Γ (seq (all_of ps rs))
others_keep Γ ps qs rs f k = all_keep Γ ps rs (front_keeps Γ ps qs k) (f (behind_keeps Γ ps qs k))

opened_keeps : (Γ : Environment) (qs rs : Trees) → Keeps Γ (seq (and_tree (seq qs) rs)) → Keeps Γ (seq (all_of qs rs))
opened_keeps Γ qs rs k = all_keep Γ qs rs (first_keeps Γ (seq qs) rs k) (rest_keeps Γ (seq qs) rs k)

grouped_keeps : (Γ : Environment) (qs rs : Trees) → Keeps Γ (seq (all_of qs rs)) → Keeps Γ (seq (and_tree (seq qs) rs))
grouped_keeps Γ qs rs k = with_first Γ (seq qs) rs (front_keeps Γ qs rs k) (behind_keeps Γ qs rs k)

skip_keeps : (Γ : Environment) (qs : Trees) → Keeps Γ (seq qs) → Keeps Γ (seq (and_tree skip qs))
skip_keeps Γ qs k = with_first Γ skip qs (record { types = refl; usage = tt }) k

-- ---- the laws

pub none_law : (S : List (Name × Kind)) → LAW 1 S (seq no_tree) skip
none_law S = record { place = []; sides = seq_none; left = none_keeps (environment S); right = record { types = refl; usage = tt } }

pub one_law : (S : List (Name × Kind)) (p : Tree) → Keeps (environment S) (seq (one p)) → LAW 2 S (seq (one p)) p
one_law S p k = record { place = []; sides = seq_one p; left = k; right = first_keeps (environment S) p no_tree k }

pub one_law_back : (S : List (Name × Kind)) (p : Tree) → Keeps (environment S) p → LAW 2 S (seq (one p)) p
one_law_back S p k = record { place = []; sides = seq_one p; left = with_first (environment S) p no_tree k (none_keeps (environment S)); right = k }

pub flat_law : (S : List (Name × Kind)) (ps qs rs : Trees) → Keeps (environment S) (seq (all_of ps (and_tree (seq qs) rs)))
    → LAW 3 S (seq (all_of ps (and_tree (seq qs) rs))) (seq (all_of ps (all_of qs rs)))
flat_law S ps qs rs k = record {
  place = size ps ∷ [];
  sides = seq_flat ps qs rs;
  left = k;
  right = others_keep (environment S) ps (and_tree (seq qs) rs) (all_of qs rs) (opened_keeps (environment S) qs rs) k;
}

pub flat_law_back : (S : List (Name × Kind)) (ps qs rs : Trees) → Keeps (environment S) (seq (all_of ps (all_of qs rs)))
    → LAW 3 S (seq (all_of ps (and_tree (seq qs) rs))) (seq (all_of ps (all_of qs rs)))
flat_law_back S ps qs rs k = record {
  place = size ps ∷ [];
  sides = seq_flat ps qs rs;
  left = others_keep (environment S) ps (all_of qs rs) (and_tree (seq qs) rs) (grouped_keeps (environment S) qs rs) k;
  right = k;
}

-- a SEQ that is the last part
all_alone : (ps : Trees) → all_of ps no_tree ≡ ps
all_alone no_tree = refl
all_alone (and_tree p ps) = ap (and_tree p) (all_alone ps)

pub flat_last : (S : List (Name × Kind)) (ps qs : Trees) → Keeps (environment S) (seq (all_of ps (one (seq qs))))
    → LAW 3 S (seq (all_of ps (one (seq qs)))) (seq (all_of ps qs))
flat_last S ps qs k = subst (λ z. LAW 3 S (seq (all_of ps (one (seq qs)))) (seq (all_of ps z))) (all_alone qs) (flat_law S ps qs no_tree k)

pub flat_last_back : (S : List (Name × Kind)) (ps qs : Trees) → Keeps (environment S) (seq (all_of ps qs))
    → LAW 3 S (seq (all_of ps (one (seq qs)))) (seq (all_of ps qs))
flat_last_back S ps qs k =
    subst (λ z. LAW 3 S (seq (all_of ps (one (seq qs)))) (seq (all_of ps z))) (all_alone qs)
    (flat_law_back S ps qs no_tree (subst (λ z. Keeps (environment S) (seq (all_of ps z))) (sym (all_alone qs)) k))

pub skip_law : (S : List (Name × Kind)) (ps qs : Trees) → Keeps (environment S) (seq (all_of ps (and_tree skip qs)))
    → LAW 4 S (seq (all_of ps (and_tree skip qs))) (seq (all_of ps qs))
skip_law S ps qs k = record {
  place = size ps ∷ [];
  sides = seq_skip ps qs;
  left = k;
  right = others_keep (environment S) ps (and_tree skip qs) qs (rest_keeps (environment S) skip qs) k;
}

pub skip_law_back : (S : List (Name × Kind)) (ps qs : Trees) → Keeps (environment S) (seq (all_of ps qs))
    → LAW 4 S (seq (all_of ps (and_tree skip qs))) (seq (all_of ps qs))
skip_law_back S ps qs k = record {
  place = size ps ∷ [];
  sides = seq_skip ps qs;
  left = others_keep (environment S) ps qs (and_tree skip qs) (skip_keeps (environment S) qs) k;
  right = k;
}

pub stop_law : (S : List (Name × Kind)) (ps qs : Trees) → Keeps (environment S) (seq (all_of ps (and_tree stop qs)))
    → LAW 5 S (seq (all_of ps (and_tree stop qs))) (seq (all_of ps (one stop)))
stop_law S ps qs k = record {
  place = size ps ∷ [];
  sides = seq_stop ps qs;
  left = k;
  right = others_keep (environment S) ps (and_tree stop qs) (one stop) (λ m. stop_keeps (environment S)) k;
}

-- ---- what is used

or_none : (a : Bool) → (a || false) ≡ true → a ≡ true
or_none true h = refl
or_none false h = h

behind_first : (a b c : Bool) → (b ≡ true → c ≡ true) → (a || b) ≡ true → (a || c) ≡ true
behind_first true b c f h = refl
behind_first false b c f h = f h

or_all : (a b c : Bool) → (a || (b || c)) ≡ ((a || b) || c)
or_all true b c = refl
or_all false b c = refl

pub none_spares : UsesNoMore skip (seq no_tree)
none_spares = record { frees = λ x h. h; writes = λ x h. h; ends = λ c d h. h }

pub one_spares : (p : Tree) → UsesNoMore p (seq (one p))
one_spares p = record {
  frees = λ x h. or_left (free p x) false h;
  writes = λ x h. or_left (written p x) false h;
  ends = λ c d h. or_left (uses_end p c d) false h;
}

pub one_spares_back : (p : Tree) → UsesNoMore (seq (one p)) p
one_spares_back p = record {
  frees = λ x h. or_none (free p x) h;
  writes = λ x h. or_none (written p x) h;
  ends = λ c d h. or_none (uses_end p c d) h;
}

-- other parts behind the same ones, which use no more
others_spare : (ps qs rs : Trees) → UsesNoMore (seq qs) (seq rs) → UsesNoMore (seq (all_of ps qs)) (seq (all_of ps rs))
others_spare no_tree qs rs w = w
others_spare (and_tree p ps) qs rs w = let v = others_spare ps qs rs w in record {
  frees = λ x h. behind_first (free p x) (free_in_some (all_of ps qs) x) (free_in_some (all_of ps rs) x) (v.frees x) h;
  writes = λ x h. behind_first (written p x) (written_in_some (all_of ps qs) x) (written_in_some (all_of ps rs) x) (v.writes x) h;
  ends = λ c d h. behind_first (uses_end p c d) (end_in_some (all_of ps qs) c d) (end_in_some (all_of ps rs) c d) (v.ends c d) h;
}

-- what the parts of two lists use
free_in_all : (qs rs : Trees) (x : ℕ) → free_in_some (all_of qs rs) x ≡ (free_in_some qs x || free_in_some rs x)
free_in_all no_tree rs x = refl
free_in_all (and_tree q qs) rs x = ap (λ b. free q x || b) (free_in_all qs rs x) ∙ or_all (free q x) (free_in_some qs x) (free_in_some rs x)

written_in_all : (qs rs : Trees) (x : ℕ) → written_in_some (all_of qs rs) x ≡ (written_in_some qs x || written_in_some rs x)
written_in_all no_tree rs x = refl
written_in_all (and_tree q qs) rs x =
    ap (λ b. written q x || b) (written_in_all qs rs x) ∙ or_all (written q x) (written_in_some qs x) (written_in_some rs x)

ends_in_all : (qs rs : Trees) (c : ℕ) (d : Dir) → end_in_some (all_of qs rs) c d ≡ (end_in_some qs c d || end_in_some rs c d)
ends_in_all no_tree rs c d = refl
ends_in_all (and_tree q qs) rs c d =
    ap (λ b. uses_end q c d || b) (ends_in_all qs rs c d) ∙ or_all (uses_end q c d) (end_in_some qs c d) (end_in_some rs c d)

pub flat_spares : (ps qs rs : Trees) → UsesNoMore (seq (all_of ps (all_of qs rs))) (seq (all_of ps (and_tree (seq qs) rs)))
flat_spares ps qs rs = others_spare ps (all_of qs rs) (and_tree (seq qs) rs) (record {
  frees = λ x h. sym (free_in_all qs rs x) ∙ h;
  writes = λ x h. sym (written_in_all qs rs x) ∙ h;
  ends = λ c d h. sym (ends_in_all qs rs c d) ∙ h;
})

pub flat_spares_back : (ps qs rs : Trees) → UsesNoMore (seq (all_of ps (and_tree (seq qs) rs))) (seq (all_of ps (all_of qs rs)))
flat_spares_back ps qs rs = others_spare ps (and_tree (seq qs) rs) (all_of qs rs) (record {
  frees = λ x h. free_in_all qs rs x ∙ h;
  writes = λ x h. written_in_all qs rs x ∙ h;
  ends = λ c d h. ends_in_all qs rs c d ∙ h;
})

pub flat_last_spares_back : (ps qs : Trees) → UsesNoMore (seq (all_of ps (one (seq qs)))) (seq (all_of ps qs))
flat_last_spares_back ps qs =
    subst (λ z. UsesNoMore (seq (all_of ps (one (seq qs)))) (seq (all_of ps z))) (all_alone qs) (flat_spares_back ps qs no_tree)

pub skip_spares : (ps qs : Trees) → UsesNoMore (seq (all_of ps qs)) (seq (all_of ps (and_tree skip qs)))
skip_spares ps qs = others_spare ps qs (and_tree skip qs) (record { frees = λ x h. h; writes = λ x h. h; ends = λ c d h. h })

pub stop_spares : (ps qs : Trees) → UsesNoMore (seq (all_of ps (one stop))) (seq (all_of ps (and_tree stop qs)))
stop_spares ps qs = others_spare ps (one stop) (and_tree stop qs) (record {
  frees = λ x h. false_not_true h;
  writes = λ x h. false_not_true h;
  ends = λ c d h. false_not_true h;
})
