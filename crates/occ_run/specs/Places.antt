-- What is in scope at a place, and what the variables hold there.
use Rattle.occ_syntax.specs.Scopes.{Environment, Values, environment, values}
use Rattle.occ_run.specs.declared.place.Place.{Place}

abbrev pub names_at : Place → Environment
names_at place = environment place.scope.items

abbrev pub values_at : Place → Values
values_at place = values place.state.items
