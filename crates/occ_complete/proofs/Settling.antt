-- Configurations are settled: all is done that can be done without an event.
use Rattle.std.proofs.Common.{arith, ◌≡◌, ◌∙◌, ℕ, zero, suc, ◌+◌, ◌≤◌, ◌<◌, Bool, true, false, ◌||◌, ◌&&◌, List, [], ◌∷◌, ◌++◌, refl, sym, ap, subst, map}
use Rattle.std.proofs.lemmas.Bool.{and_from, or_parts}
use Rattle.std.specs.List.{AllByRecursion}
use Rattle.occ_engine.specs.occ_base.declared.names.Name.{Name}
use Rattle.occ_complete_states.proofs.from_derive_laws.Keeping.{IsKept, at_once_kept, each_kept}
use Rattle.occ_complete_states.proofs.from_derive_laws.Each.{Each}
use Rattle.occ_complete_states.proofs.Leading.{leads_itself, leads_keep, leads_on}
use Rattle.occ_complete_states.proofs.Rows.{replaced_leads}
use Rattle.occ_complete_states.proofs.Scopes.{declaring_keeps}
use Rattle.occ_complete_states.specs.Configured.{IsConfigured, IsEventBranch, IsOpenBranch, IsSettledBranch, acceptance, an_event, at_once, end, event}
use Rattle.occ_complete_states.specs.Headers.{IsHeader}
use Rattle.occ_complete_states.specs.Leads.{Leads}
use Rattle.occ_complete_states.specs.Nodes.{any_of}
use Rattle.occ_complete_states.specs.Rows.{AllReplaced, Replaces, changed, flattened, has_ready, none_left, one_more}
use Rattle.occ_complete_states.specs.States.{scope_of, told}
use Rattle.occ_complete_states.specs.Ways.{IsSettled}
use Rattle.occ_complete.proofs.Lefts.{both_keep, told_in}
use Rattle.occ_complete.proofs.Limits.{all_both, all_settled_more}
use Rattle.occ_complete.proofs.Opening.{opens_up_to}
use Rattle.occ_complete.specs.Ways.{ComesTo, Outcome, ends, goes_on}
use Rattle.occ_engine.specs.occ_law.Choice.{is_ready}
use Rattle.occ_engine.specs.occ_meaning.Parallel.{two}
use Rattle.occ_engine.specs.occ_syntax.Scopes.{environment}
use Rattle.occ_engine.specs.occ_syntax.Tree.{Tree, Waiting, alt, ready, seq}
use Rattle.occ_engine.specs.occ_syntax.Usage.{Keeps}
use Rattle.occ_complete_states.specs.occ_target.Rows.{guarded}
use Rattle.occ_complete_states.specs.occ_target_laws.Shapes.{Header}

pub configured_keeps : (h : Header) (n : ℕ) (c : Tree) → IsConfigured h n c → Keeps (environment (scope_of h)) c
configured_keeps h n c i =
    subst (Keeps (environment (scope_of h))) (sym i.form)
    (declaring_keeps (scope_of h) i.ys (seq (two (told (scope_of h ++ i.ys) i.state) i.left)) i.is_left.vars i.is_left.scope
    (both_keep (scope_of h ++ i.ys) i.state i.left (told_in h i.ys i.left i.state i.is_left i.is_clear) i.is_left.keeps))

-- ---- a branch

-- the branches that come in the place of one
record Becomes (h : Header) (n : ℕ) (b : Waiting × Tree) : Type 0 where
  rows : List (Waiting × Tree)
  is : Replaces (scope_of h) b rows
  each : AllByRecursion (IsSettledBranch h n) rows

abbrev SettlesAt : Header → ℕ → Type 0
SettlesAt h n = (c : Tree) → IsConfigured h n c → ComesTo h (IsSettledBranch h n) c

ready_first : (w : Waiting) (b : Bool) → is_ready w ≡ true → (is_ready w || b) ≡ false → ⊥
ready_first w b e f = absurd (both (is_ready w) e (or_parts (is_ready w) b f).0)
  where
    both : (t : Bool) → t ≡ true → t ≡ false → ⊥
    both true g k = cc
    both false g k = cc

all_events : (h : Header) (n : ℕ) (bs : List (Waiting × Tree)) → AllByRecursion (IsSettledBranch h n) bs → has_ready bs ≡ false → AllByRecursion (IsEventBranch h n) bs
all_events h n [] all e = tt
all_events h n (b ∷ bs) all e = (one b all.0 (or_parts (is_ready b.0) (has_ready bs) e).0, all_events h n bs all.1 (or_parts (is_ready b.0) (has_ready bs) e).1)
  where
    one : (c : Waiting × Tree) → IsSettledBranch h n c → is_ready c.0 ≡ false → IsEventBranch h n c
    one c (event c2 i) f = i
    one c (acceptance set i) f = absurd (ready_first ready false refl f)
    one c (end p i) f = absurd (ready_first ready false refl f)

settled_row : (h : Header) (n : ℕ) (p q : Tree) → Leads (scope_of h) p q → Outcome h (IsSettledBranch h n) q → Becomes h n (ready, p)
settled_row h n p q a (ends r e) = record { rows = (ready, r) ∷ []; is = changed ready p r a; each = (end r e, tt) }
settled_row h n p q a (goes_on cs all) = at (has_ready cs) refl
  where
    at : (t : Bool) → has_ready cs ≡ t → Becomes h n (ready, p)
    at true f = record { rows = cs; is = flattened p cs a f; each = all }
    at false f = record { rows = (ready, alt (guarded cs)) ∷ []; is = changed ready p (alt (guarded cs)) a; each = (acceptance cs (all_events h n cs all f), tt) }

row_becomes : (h : Header) (n : ℕ) → SettlesAt h n → (b : Waiting × Tree) → IsOpenBranch h n b → Becomes h n b
row_becomes h n further b (an_event c e) = record { rows = c ∷ []; is = changed c.0 c.1 c.1 (leads_itself (scope_of h) c.1); each = (event c e, tt) }
row_becomes h n further b (at_once p c) = let r = further p c in settled_row h n p r.part r.leads r.outcome

-- ---- all branches

record AllBecome (h : Header) (n : ℕ) (bs : List (Waiting × Tree)) : Type 0 where
  rows : List (Waiting × Tree)
  replaced : AllReplaced (scope_of h) bs rows
  each : AllByRecursion (IsSettledBranch h n) rows

rows_become : (h : Header) (n : ℕ) → SettlesAt h n → (bs : List (Waiting × Tree)) → AllByRecursion (IsOpenBranch h n) bs → AllBecome h n bs
rows_become h n further [] all = record { rows = []; replaced = none_left; each = tt }
rows_become h n further (b ∷ bs) all =
    let one = row_becomes h n further b all.0 in
    let more = rows_become h n further bs all.1 in
    record { rows = one.rows ++ more.rows; replaced = one_more one.is more.replaced; each = all_both (IsSettledBranch h n) one.rows more.rows one.each more.each }

rows_settle : (h : Header) → IsHeader h → (n : ℕ) → SettlesAt h n → (bs : List (Waiting × Tree)) → AllByRecursion (IsOpenBranch h n) bs
    → Keeps (environment (scope_of h)) (alt (guarded bs)) → ComesTo h (IsSettledBranch h n) (alt (guarded bs))
rows_settle h is n further bs all k =
    let r = rows_become h n further bs all in
    record { part = alt (guarded r.rows); leads = replaced_leads (scope_of h) is.kept r.replaced k; outcome = goes_on r.rows r.each }

-- ---- a configuration

opened_settles : (h : Header) → IsHeader h → (n : ℕ) → SettlesAt h n → (p q : Tree) → Keeps (environment (scope_of h)) p → Leads (scope_of h) p q → Outcome h (IsOpenBranch h n) q
    → ComesTo h (IsSettledBranch h n) p
opened_settles h is n further p q k a (ends r e) = record { part = r; leads = a; outcome = ends r e }
opened_settles h is n further p q k a (goes_on bs all) =
    let r = rows_settle h is n further bs all (leads_keep (scope_of h) is.kept k a) in record { part = r.part; leads = leads_on (scope_of h) a r.leads; outcome = r.outcome }

outcome_more : (h : Header) (m n : ℕ) (p : Tree) → m ≤ n → Outcome h (IsSettledBranch h m) p → Outcome h (IsSettledBranch h n) p
outcome_more h m n p l (ends q e) = ends q e
outcome_more h m n p l (goes_on bs all) = goes_on bs (all_settled_more h m n bs l all)

opened_at : (h : Header) → IsHeader h → (n : ℕ) → SettlesAt h n → (c : Tree) → IsConfigured h (suc n) c → ComesTo h (IsSettledBranch h n) c
opened_at h is n further c i =
    let o = opens_up_to h is n i.ys i.state i.left i.is_left i.is_clear (omega (arith, i.light)) in
    opened_settles h is n further c o.part (configured_keeps h (suc n) c i) (subst (λ z. Leads (scope_of h) z o.part) (sym i.form) o.leads) o.outcome

pub configuration_settles : (h : Header) → IsHeader h → (n : ℕ) (c : Tree) → IsConfigured h (suc n) c → ComesTo h (IsSettledBranch h n) c
configuration_settles h is zero c i = opened_at h is zero (λ d j. absurd (omega (arith, j.light))) c i
configuration_settles h is (suc n) c i =
    opened_at h is (suc n) (λ d j.
    let r = configuration_settles h is n d j in
    record { part = r.part; leads = r.leads; outcome = outcome_more h n (suc n) r.part (omega arith) r.outcome }) c i

-- ---- one of some configurations

-- the branches that come in the place of those that go on at once
record RowsBecome (h : Header) (n : ℕ) (ps : List Tree) : Type 0 where
  rows : List (Waiting × Tree)
  replaced : AllReplaced (scope_of h) (map (λ (p : Tree). (ready, p)) ps) rows
  each : AllByRecursion (IsSettledBranch h n) rows

all_settle : (h : Header) → IsHeader h → (n : ℕ) (ps : List Tree) → AllByRecursion (IsConfigured h (suc n)) ps → RowsBecome h n ps
all_settle h is n [] all = record { rows = []; replaced = none_left; each = tt }
all_settle h is n (p ∷ ps) all =
    let r = configuration_settles h is n p all.0 in
    let one = settled_row h n p r.part r.leads r.outcome in
    let more = all_settle h is n ps all.1 in
    record { rows = one.rows ++ more.rows; replaced = one_more one.is more.replaced; each = all_both (IsSettledBranch h n) one.rows more.rows one.each more.each }

any_keeps : (h : Header) (n : ℕ) (ps : List Tree) → AllByRecursion (IsConfigured h n) ps → Keeps (environment (scope_of h)) (any_of ps)
any_keeps h n ps all = each_kept (environment (scope_of h)) (guarded (map (λ (p : Tree). (ready, p)) ps)) (rows ps all)
  where
    rows : (qs : List Tree) → AllByRecursion (IsConfigured h n) qs → Each (IsKept (environment (scope_of h))) (guarded (map (λ (p : Tree). (ready, p)) qs))
    rows [] all = tt
    rows (q ∷ qs) all = (at_once_kept (environment (scope_of h)) q (configured_keeps h n q all.0), rows qs all.1)

pub superposition_settles : (h : Header) → IsHeader h → (n : ℕ) (ps : List Tree) → AllByRecursion (IsConfigured h (suc n)) ps → IsSettled h n (any_of ps)
superposition_settles h is n ps all =
    let r = all_settle h is n ps all in
    record { branches = r.rows; each = r.each; leads = replaced_leads (scope_of h) is.kept r.replaced (any_keeps h (suc n) ps all) }
