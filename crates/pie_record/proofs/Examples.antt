-- Worked cases of the table of observations and of the bytes of an observation.
use Rattle.std.proofs.Common.{◌≡◌, true, false, [], ◌∷◌, Err, refl}
use Rattle.std.specs.Prelude.{codes}
use Rattle.pie_value.specs.declared.stamp.Stamp.TheVariants.{Absent}
use Rattle.pie_value.specs.Canonical.{be32}
use Rattle.pie_record.specs.declared.dep.DepKind.TheVariants.{Exists, ReadMark, List as Listed, Run}
use Rattle.pie_record.specs.declared.dep.DepOn.TheVariants.{File}
use Rattle.pie_record.specs.declared.tag.Tag.TheVariants.{Absent as TagAbsent, Hash as TagHash, Mark as TagMark, Done as TagDone}
use Rattle.pie_record.specs.declared.record_fault.RecordFault.TheVariants.{BadTag}
use Rattle.pie_record.specs.Kinds.{allows}
use Rattle.pie_record.specs.Canonical.{enc_dep}
use Rattle.pie_record.specs.Reading.{dep_at}

a_source_is_read_by_its_mark : allows ReadMark (File (codes "src/a")) TagMark ≡ true
a_source_is_read_by_its_mark = refl

an_output_file_has_no_mark : allows ReadMark (File (codes "out/a")) TagMark ≡ false
an_output_file_has_no_mark = refl

an_output_file_is_read_by_its_hash : allows ReadMark (File (codes "out/a")) TagHash ≡ true
an_output_file_is_read_by_its_hash = refl

a_directory_is_never_absent : allows Listed (File (codes "src")) TagAbsent ≡ false
a_directory_is_never_absent = refl

a_file_is_not_run : allows Run (File (codes "src")) TagDone ≡ false
a_file_is_not_run = refl

an_absent_file_has_seven_bytes : enc_dep (record { kind = Exists; what = File (codes "s"); stamp = Absent }) ≡ 1 ∷ 0 ∷ 0 ∷ 0 ∷ 1 ∷ 115 ∷ 0 ∷ []
unfolding enc_dep be32
an_absent_file_has_seven_bytes = refl

a_kind_without_its_number_is_refused : dep_at (9 ∷ []) ≡ Err BadTag
unfolding dep_at
a_kind_without_its_number_is_refused = refl
