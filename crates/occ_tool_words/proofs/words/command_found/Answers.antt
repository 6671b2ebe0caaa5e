use Rattle.clap.specs.Words.{found_of}
use Rattle.occ_tool_words.proofs.Parsing.{as_asked, found_named}
use Rattle.occ_tool_words.proofs.words.command_found.Goals as goal

pub returns : goal.returns
returns c =
    as_asked c.command_named.result _ _
    (found_named _ c.in-Some.name.now (found_of c.in-Some.found.now) _ _ c.in-Some.ensures.name c.in-Some.ensures.rows c.get_str.ensures c.get_str-2.ensures)
    c.command_named.ensures
