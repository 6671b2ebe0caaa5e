-- The faults of programs and parts as faults of a script.
use Rattle.occ_parse_part.specs.occ_parse.declared.fault.ParseFault.{ParseFault}
use Rattle.occ_parse_part.specs.occ_parse.declared.fault.ParseFault.TheVariants as parse
use Rattle.occ_script.specs.declared.fault.ScriptFault.{ScriptFault}
use Rattle.occ_script.specs.declared.fault.ScriptFault.TheVariants as fault

abbrev pub text_fault : ParseFault → ScriptFault
text_fault (parse.Form line) = fault.Form line
text_fault parse.Memory = fault.Memory
text_fault (parse.Line line e) = fault.Text (parse.Line line e)
text_fault (parse.Undeclared line) = fault.Text (parse.Undeclared line)
text_fault (parse.Redeclared line) = fault.Text (parse.Redeclared line)
text_fault (parse.Index line) = fault.Text (parse.Index line)
text_fault (parse.TypeClash line) = fault.Text (parse.TypeClash line)
text_fault (parse.NoType line) = fault.Text (parse.NoType line)
text_fault (parse.Direction line) = fault.Text (parse.Direction line)
text_fault (parse.Limit w line) = fault.Text (parse.Limit w line)
