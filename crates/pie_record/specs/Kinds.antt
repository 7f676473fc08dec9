-- The kinds of observation, the tags of stamps, and which stamps an observation may have.
use Rattle.std.specs.Prelude.{ℕ, ◌==◌, Bool, true, false, cond, Option, Some, None}
use Rattle.pie_base.specs.Path.{is_out}
use Rattle.pie_value.specs.declared.stamp.Stamp.{Stamp}
use Rattle.pie_value.specs.declared.stamp.Stamp.TheVariants.{Absent, Present, Hash, Mark, Whole, Done}
use Rattle.pie_record.specs.declared.dep.DepKind.{DepKind}
use Rattle.pie_record.specs.declared.dep.DepKind.TheVariants.{Exists, ReadHash, ReadMark, Digest, List as Listed, Require, RequireHash, Run}
use Rattle.pie_record.specs.declared.dep.DepOn.{DepOn}
use Rattle.pie_record.specs.declared.dep.DepOn.TheVariants.{File, Called}
use Rattle.pie_record.specs.declared.tag.Tag.{Tag}
use Rattle.pie_record.specs.declared.tag.Tag.TheVariants.{Absent as TagAbsent, Present as TagPresent, Hash as TagHash, Mark as TagMark}
use Rattle.pie_record.specs.declared.tag.Tag.TheVariants.{Whole as TagWhole, Done as TagDone}

-- the byte of a kind of observation
abbrev pub kind_byte : DepKind → ℕ
kind_byte Exists = 1
kind_byte ReadHash = 2
kind_byte ReadMark = 3
kind_byte Digest = 4
kind_byte Listed = 5
kind_byte Require = 6
kind_byte RequireHash = 7
kind_byte Run = 8

-- the kind of observation that a byte stands for
abbrev pub kind_of_byte : ℕ → Option DepKind
kind_of_byte b =
    cond (b == 1) (Some Exists) (cond (b == 2) (Some ReadHash) (cond (b == 3) (Some ReadMark) (cond (b == 4) (Some Digest)
    (cond (b == 5) (Some Listed) (cond (b == 6) (Some Require) (cond (b == 7) (Some RequireHash) (cond (b == 8) (Some Run) None)))))))

-- whether an observation of this kind is of a task
abbrev pub calls : DepKind → Bool
calls Exists = false
calls ReadHash = false
calls ReadMark = false
calls Digest = false
calls Listed = false
calls Require = true
calls RequireHash = true
calls Run = true

-- the byte of a kind of stamp
abbrev pub tag_byte : Tag → ℕ
tag_byte TagAbsent = 0
tag_byte TagPresent = 1
tag_byte TagHash = 2
tag_byte TagMark = 3
tag_byte TagWhole = 4
tag_byte TagDone = 5

-- the kind of stamp that a byte stands for
abbrev pub tag_of_byte : ℕ → Option Tag
tag_of_byte b =
    cond (b == 0) (Some TagAbsent) (cond (b == 1) (Some TagPresent) (cond (b == 2) (Some TagHash) (cond (b == 3) (Some TagMark)
    (cond (b == 4) (Some TagWhole) (cond (b == 5) (Some TagDone) None)))))

-- the tag of a stamp
abbrev pub tag_of : Stamp → Tag
tag_of Absent = TagAbsent
tag_of Present = TagPresent
tag_of (Hash hash) = TagHash
tag_of (Mark mark) = TagMark
tag_of (Whole value) = TagWhole
tag_of Done = TagDone

-- which stamps an observation of a file may have; the second argument says whether the path is under `out/`
abbrev pub file_allows : DepKind → Bool → Tag → Bool
file_allows Exists out TagAbsent = true
file_allows Exists out TagPresent = true
file_allows ReadHash out TagAbsent = true
file_allows ReadHash out TagHash = true
file_allows ReadMark out TagAbsent = true
file_allows ReadMark true TagHash = true
file_allows ReadMark false TagMark = true
file_allows Digest out TagAbsent = true
file_allows Digest out TagHash = true
file_allows Listed out TagHash = true
file_allows kind out tag = false

-- which stamps an observation of a task may have
abbrev pub call_allows : DepKind → Tag → Bool
call_allows Require TagWhole = true
call_allows RequireHash TagHash = true
call_allows Run TagDone = true
call_allows kind tag = false

-- which stamps an observation may have
abbrev pub allows : DepKind → DepOn → Tag → Bool
allows kind (File path) tag = file_allows kind (is_out path) tag
allows kind (Called task) tag = call_allows kind tag
