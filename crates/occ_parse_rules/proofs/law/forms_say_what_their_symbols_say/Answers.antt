use Rattle.occ_parse_rules.proofs.Forms.{form_in, form_sound}
use Rattle.occ_parse_rules.proofs.law.forms_say_what_their_symbols_say.Goals as goal

pub returns-clause-passes : goal.returns-clause-passes
returns-clause-passes c = λ test symbols s i h. form_in test symbols s i h

pub returns-clause-sound : goal.returns-clause-sound
returns-clause-sound c = λ test symbols s i h. form_sound test symbols s i h
