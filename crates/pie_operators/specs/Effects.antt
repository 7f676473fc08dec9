-- What running asks of the outside, and what it makes of the answers.
use Rattle.std.specs.Prelude.{ℕ, ◌+◌, Bool, cond, nat_lt, List, [], ◌∷◌, length, Option, Some, None, Ok, Err}
use Rattle.std.specs.Str.{is_utf8}
use Rattle.hex.specs.Hex.{encode_lower}
use Rattle.pie_base.specs.declared.fault.FaultKind.TheVariants.{NotText, BadWrite, WroteTwice, ReadThenWrite, Clash as ClashFault, Big, Said, BadList, Unknown}
use Rattle.pie_base.specs.Path.{is_out, is_source}
use Rattle.pie_value.specs.declared.event.Event.{Event}
use Rattle.pie_value.specs.declared.event.Event.TheVariants as events
use Rattle.pie_value.specs.declared.event.Answer.{Answer}
use Rattle.pie_value.specs.declared.event.Answer.TheVariants as answers
use Rattle.pie_value.specs.declared.event.By.{By}
use Rattle.pie_value.specs.declared.event.By.TheVariants.{Hash, Mark, Raw}
use Rattle.pie_value.specs.declared.event.How.{How}
use Rattle.pie_value.specs.declared.event.How.TheVariants.{Whole, Hashed, Ran}
use Rattle.pie_value.specs.Tree.{Tree, TUnit, TBool, TText, TPath, TList, TNull, TBytes, items_of}
use Rattle.pie_value.specs.Values.{tree_of}
use Rattle.pie_value.specs.Limits.{is_small_task}
use Rattle.pie_value.specs.BuiltinForms.{Answered, made}
use Rattle.pie_operators.specs.declared.asking.Observation.{Observation}
use Rattle.pie_operators.specs.declared.asking.Observation.TheVariants.{Exists, Read, Digest, List as Listing}
use Rattle.pie_operators.specs.declared.asking.Question.{Question}
use Rattle.pie_operators.specs.declared.asking.Question.TheVariants.{Observe, Write, Require}
use Rattle.pie_operators.specs.Domain.{Outcome, fails, wants, State, Act, fault, by_answer, holds, with_path}

-- the event that puts a question; bytes that become a value are observed by their hash
abbrev pub event_of : Question → Event
event_of (Observe Exists p) = events.Exists p
event_of (Observe (Read Mark) p) = events.Read p Mark
event_of (Observe (Read Hash) p) = events.Read p Hash
event_of (Observe (Read Raw) p) = events.Read p Hash
event_of (Observe Digest p) = events.Digest p
event_of (Observe Listing p) = events.List p
event_of (Write p bs) = events.Write p bs
event_of (Require t how) = events.Require t how

-- the bytes of a file as a text, which has to be UTF-8 and within the limits
abbrev pub text_read : List ℕ → Answered
text_read bs = cond (nat_lt 1048576 (5 + length bs)) (Err Big) (cond (is_utf8 bs) (Ok (TText bs)) (Err NotText))

-- the bytes of a file as a value
abbrev pub content : By → List ℕ → Answered
content Raw bs = made (TBytes bs)
content Hash bs = text_read bs
content Mark bs = text_read bs

-- what a file is to an observation, or null where none is there
abbrev pub content_or_null : By → Option (List ℕ) → Answered
content_or_null by None = Ok TNull
content_or_null by (Some bs) = content by bs

-- the hexadecimal digits of a hash, or null where there is none
abbrev pub digits_or_null : Option (List ℕ) → Answered
digits_or_null None = Ok TNull
digits_or_null (Some hash) = Ok (TText (encode_lower hash))

-- what the answer to an observation gives: an answer of another kind is the fault Unknown
abbrev pub observed : Observation → Answer → Answered
observed Exists (answers.Flag b) = Ok (TBool b)
observed Exists answers.Clash = Err ClashFault
observed (Read by) (answers.Bytes bs) = content_or_null by bs
observed (Read by) answers.Clash = Err ClashFault
observed Digest (answers.Digest hash) = digits_or_null hash
observed Digest answers.Clash = Err ClashFault
observed Listing (answers.Entries ts) = made (TList (items_of ts))
observed o a = Err Unknown

-- what the answer to a write gives
abbrev pub written : Answer → Answered
written answers.Wrote = Ok TUnit
written a = Err Unknown

-- what the answer to a required task gives
abbrev pub required : How → Answer → Answered
required Whole (answers.Output v) = Ok (tree_of v)
required Hashed (answers.Output v) = Ok (tree_of v)
required Ran answers.Ran = Ok TUnit
required how a = Err Unknown

-- what an answer to a question gives
abbrev pub taken : Question → Answer → Answered
taken (Observe o p) a = observed o a
taken (Write p bs) a = written a
taken (Require t how) a = required how a

-- whether a later write to the path is refused: what a listing shows is no path's content
abbrev pub is_content : Observation → Bool
is_content Exists = Bool.true
is_content (Read by) = Bool.true
is_content Digest = Bool.true
is_content Listing = Bool.false

-- the paths observed and written, after a question
abbrev pub noted : Question → State → State
noted (Observe o p) s = cond (is_content o) (record s { seen = with_path s.seen p }) s
noted (Write p bs) s = record s { wrote = with_path s.wrote p }
noted (Require t how) s = s

-- a question is answered by the first answer that is left
abbrev pub asked_with : Question → State → List Answer → Outcome Tree × State
asked_with q s [] = (wants (event_of q), s)
asked_with q s (a ∷ rest) = by_answer (taken q a) (noted q (record s { answers = rest }))

abbrev pub asked : Question → Act Tree
asked q s = asked_with q s s.answers

-- only a source can be listed
abbrev pub may_observe : Observation → List ℕ → Bool
may_observe Exists p = Bool.true
may_observe (Read by) p = Bool.true
may_observe Digest p = Bool.true
may_observe Listing p = is_source p

-- an observation of a path
abbrev pub observe : Observation → Tree → Act Tree
observe o (TPath p) = cond (may_observe o p) (asked (Observe o p)) (fault BadList)
observe o t = fault Unknown

-- a write to an out path that this task has neither written nor observed
abbrev pub write_bytes : List ℕ → List ℕ → Act Tree
write_bytes p bs s =
    cond (is_out p) (cond (holds s.wrote p) (fails WroteTwice, s) (cond (holds s.seen p) (fails ReadThenWrite, s) (asked (Write p bs) s)))
    (fails BadWrite, s)

-- a write of a text or of bytes
abbrev pub write : Tree → Tree → Act Tree
write (TPath p) (TText s) = write_bytes p s
write (TPath p) (TBytes bs) = write_bytes p bs
write t u = fault Unknown

-- a task that is required, which has to keep the limits
abbrev pub require : How → List ℕ → List Tree → Act Tree
require how f ts = cond (is_small_task (record { func = f; args = ts })) (asked (Require (record { func = f; args = ts }) how)) (fault Big)

-- the task says that it fails
abbrev pub fail : Tree → Act Tree
fail (TText s) = fault (Said s)
fail t = fault Unknown
