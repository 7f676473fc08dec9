-- A required task is entered, of no function, or one too many, where its canonical bytes are known.
use Rattle.std.proofs.Common.{◌≡◌, ℕ, ◌<◌, ◌≤◌, List, [], ◌∷◌, ◌++◌, None, Bor, Result, Vec, length, refl}
use Rattle.std.specs.declared.alloc.Global.{Global}
use Rattle.std.specs.Prelude.{IfOk}
use Rattle.std.specs.List.{Contains}
use Rattle.pie_value.specs.Canonical.{IsCanonicalTask}
use Rattle.pie_code.specs.declared.code.Code.{Code}
use Rattle.pie_graph.specs.declared.edges.TaskNo.{TaskNo}
use Rattle.pie_record.specs.inner.Records.{record_of as kept_of}
use Rattle.pie_running.specs.declared.frame.Caller.{Caller}
use Rattle.pie_running.specs.inner.Coded.{IsCodeFor}
use Rattle.pie_topdown.specs.declared.builder.Builder.{Builder}
use Rattle.pie_topdown.specs.declared.hand.Frame.{Frame}
use Rattle.pie_topdown.specs.declared.hand.Frame.TheVariants as frames
use Rattle.pie_topdown.specs.declared.hand.Hand.TheVariants as hands
use Rattle.pie_topdown.specs.declared.hand.Turn.{Turn}
use Rattle.pie_topdown.specs.declared.hand.Turn.TheVariants.{Goes, Many}
use Rattle.pie_topdown.specs.inner.Calling.{DescendsSo, LosesSo}
use Rattle.pie_topdown.specs.inner.Entries.{HasEntered, MayBe}
use Rattle.pie_topdown.specs.inner.Right.{EntersSite}
use Rattle.pie_topdown.proofs.Answering.{loses_turn, needs_turn}
use Rattle.pie_topdown.proofs.Entered.{canonical_at, entered_number}
use Rattle.pie_topdown.proofs.Pushed.{caller_pushed, full_turn}

-- an entered one has canonical bytes
pub caller_descends : (b c : Builder) (w : Caller) (code : Bor Code) (at : TaskNo) (pushed : Vec Frame Global) → at.0 ≡ length b.ledger.tables.names
    → HasEntered b w.required c → EntersSite b w.required c → MayBe b w.required code.now
    → kept_of b.ledger.tables.records (length b.ledger.tables.names) ≡ None → ¬ (Contains b.ledger.tables.names w.required) → 0 < w.waiting.notes.left
    → pushed.items ≡ c.stack.items ++ frames.Waits w ∷ [] → DescendsSo b w (record c { stack = pushed }) (Goes (hands.Enters at code))
caller_descends b c w code at pushed number e enters may fresh absent left items =
    caller_pushed b c w code at pushed number e enters may fresh absent left items
    (canonical_at c.ledger.tables.names e.added.tasks (length b.ledger.tables.names) w.required (entered_number b c w.required e fresh))

-- of one that isn't entered they were made
pub unknown_descends : {E : Type 0} (b new : Builder) (c : Caller) (bytes : List ℕ) (r : Result Turn E) → IsCanonicalTask c.required bytes
    → length b.ledger.tables.names < 50000 → ¬ (Contains b.ledger.tables.names c.required) → IsCodeFor b.plan.typed.now b.plan.code.now c.required None
    → IfOk r (LosesSo b c new) → IfOk r (DescendsSo b c new)
unknown_descends b new c bytes r canonical few absent none loses = needs_turn b new c bytes r canonical (loses_turn b new c r few absent none loses)

pub full_descends : (b : Builder) (w : Caller) (bytes : List ℕ) → IsCanonicalTask w.required bytes → 50000 ≤ length b.ledger.tables.names
    → ¬ (Contains b.ledger.tables.names w.required) → 0 < w.waiting.notes.left → DescendsSo b w b Many
full_descends b w bytes canonical full absent left =
    full_turn b w full absent left
    (record { encodable = canonical.encodable; name = canonical.name; leaves = canonical.leaves; bytes = refl })
