-- Where the numbers of a schedule lead.
use Rattle.std.proofs.Common.{◌≡◌, ◌+◌, ◌++◌, ℕ, List, [], ◌∷◌, Option, None, Some, Ok, refl, sym, ap, subst, ◌∙◌, append_assoc, slice_get}
use Rattle.std.proofs.lemmas.List.{append-nil}
use Rattle.occ_syntax.specs.occ_base.declared.event.Event.{Event}
use Rattle.occ_syntax.specs.Scopes.{Trace}
use Rattle.occ_run_steps.specs.Control.{Control}
use Rattle.occ_run_steps.specs.Leads.{at_rest, by_step}
use Rattle.occ_run_steps.specs.Step.{Step, seen}
use Rattle.occ_run.specs.Configurations.{Configuration, after_step, followed, if_there, steps_of, then_after}
use Rattle.occ_run.specs.Laws.{IsLed}

seen_first : (e : Option Event) (t : Trace) → seen e [] ++ t ≡ seen e t
seen_first None t = refl
seen_first (Some e) t = refl

led_nowhere : (c : Configuration) → IsLed c c []
led_nowhere c = record { events = []; trace = sym (append-nil c.trace); params = refl; leads = at_rest }

led_on : (c : Configuration) (n : ℕ) (k : Step Control) (d : Configuration) (ns : List ℕ) → slice_get (steps_of c) n ≡ Some k → IsLed (after_step c k) d ns → IsLed c d (n ∷ ns)
led_on c n k d ns e h = record {
  events = seen k.event h.events;
  trace = h.trace ∙ append_assoc c.trace (seen k.event []) h.events ∙ ap (λ t. c.trace ++ t) (seen_first k.event h.events);
  params = h.params;
  leads = by_step n k e h.leads;
}

led_by : (k : ℕ) (c : Configuration) (n : ℕ) (ns : List ℕ) (d : Configuration) → ((j : ℕ) (b : Configuration) → followed j b ns ≡ Ok d → IsLed b d ns)
    → (o : Option (Step Control)) → slice_get (steps_of c) n ≡ o → if_there k (then_after c o) (λ x. followed (k + 1) x ns) ≡ Ok d → IsLed c d (n ∷ ns)
led_by k c n ns d onward None f e = cc
led_by k c n ns d onward (Some j) f e = led_on c n j d ns f (onward (k + 1) (after_step c j) e)

-- numbers that can be followed lead
pub is_led : (k : ℕ) (c : Configuration) (ns : List ℕ) (d : Configuration) → followed k c ns ≡ Ok d → IsLed c d ns
is_led k c [] d e = let same : c ≡ d = cc in subst (λ x. IsLed c x []) same (led_nowhere c)
is_led k c (n ∷ ns) d e = led_by k c n ns d (λ j b f. is_led j b ns d f) (slice_get (steps_of c) n) refl e
