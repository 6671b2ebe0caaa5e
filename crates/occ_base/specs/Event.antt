use Rattle.occ_base.specs.declared.event.Dir.{Dir}
use Rattle.occ_base.specs.declared.event.Dir.TheVariants.{Input, Output}
use Rattle.occ_base.specs.declared.event.Event.{Event}

abbrev pub other_direction : Dir → Dir
other_direction Input = Output
other_direction Output = Input

-- the event of the other end of the channel
abbrev pub counterpart : Event → Event
counterpart e = record e { dir = other_direction e.dir }
