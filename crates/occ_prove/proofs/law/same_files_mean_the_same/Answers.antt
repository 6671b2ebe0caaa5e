use Rattle.occ_tool_run.specs.occ_parse.declared.bound.Bound.TheVariants as bound
use Rattle.occ_prove.proofs.SamePrograms.{mean_the_same}
use Rattle.occ_prove.proofs.law.same_files_mean_the_same.Goals as goal

pub returns : goal.returns
returns c = λ one two between names p q answer a b settles same. mean_the_same (record {
  once = record {
    one_reading = λ text old m n r s ls ks x y.
        let e = c.one_reading.ensures.program bound.Program text old m n r.name s.name r.params s.params r.body s.body ls ks x y in
        record { names = e.table; name = e.name; params = e.params; body = e.body; numbers = e.numbers };
    one_fault = λ text old f g x y. c.one_reading.ensures.fault bound.Program text old f g x y;
    not_both = λ text old m r ls f x y. c.one_reading.ensures.apart bound.Program text old m r.name r.params r.body ls f x y;
  };
  distinct = λ text old new n ps r ks d x. (c.parameters_have_names.ensures text old new n ps r ks d x).0;
  again = c.programs_read_again.ensures.read;
  readings = c.readings_are_renamed.ensures;
  declared = c.read_programs_declare_known_names.ensures;
  known = c.kept_parts_have_known_names.ensures;
  renaming = c.renamed_programs_mean_the_same.ensures;
}) one two between names p q a b answer settles same
