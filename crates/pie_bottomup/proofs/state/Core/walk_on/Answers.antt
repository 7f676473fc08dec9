use Rattle.pie_frames.specs.inner.Turns.{HasTaken, HasAnswered, IsOver}
use Rattle.pie_bottomup.proofs.Sites.{site_taken, taken_recorded, site_answered, callee_settled, rests_over}
use Rattle.pie_bottomup.proofs.GoingAnswers.{takes_goes, answers_goes, idles_goes}
use Rattle.std.proofs.Common.{inl, refl}
use Rattle.pie_bottomup.specs.inner.Ran.{WalksFor}
use Rattle.pie_bottomup.proofs.Keeping.{none_starts}
use Rattle.pie_bottomup.proofs.Reasoning.{walks_for}
use Rattle.pie_bottomup.proofs.state.Core.walk_on.Goals as goal

pub take-requires : goal.take-requires
take-requires c =
    let has : HasTaken c.args.self.now.frames c.next.new.self c.in-Takes.no = rw c.in-Takes.is at c.in_ok-no.ensures in
    record {
      taken = record {
        site = site_taken c.args.self.now c.next.new.self c.in-Takes.no c.requires.rests.site has;
        free = c.requires.free;
        holds = has.holds;
      };
      recorded = taken_recorded c.args.self.now c.next.new.self c.in-Takes.no c.requires.rests.site c.requires.rests.rests.stands.holds has;
    }

pub answer-requires-clause-taken : goal.answer-requires-clause-taken
answer-requires-clause-taken c =
    let has : HasAnswered c.args.self.now.frames c.next.new.self c.in-Answers.no c.in-Answers.parked = rw c.in-Answers.is at c.in_ok-no.ensures in
    record {
      site = (site_answered c.args.self.now c.next.new.self c.in-Answers.no c.in-Answers.parked c.requires.rests.site has).0;
      free = c.requires.free;
      holds = has.holds;
    }

pub answer-requires-clause-answers : goal.answer-requires-clause-answers
answer-requires-clause-answers c =
    let has : HasAnswered c.args.self.now.frames c.next.new.self c.in-Answers.no c.in-Answers.parked = rw c.in-Answers.is at c.in_ok-no.ensures in
    record {
      parked = has.is_parked;
      number = has.number;
      caller = (site_answered c.args.self.now c.next.new.self c.in-Answers.no c.in-Answers.parked c.requires.rests.site has).1;
      settled = callee_settled c.args.self.now.frames c.next.new.self c.in-Answers.no c.in-Answers.parked has;
    }

pub next_root-requires-clause-free : goal.next_root-requires-clause-free
next_root-requires-clause-free c =
    let over : IsOver c.args.self.now.frames c.next.new.self = rw c.in-Idle.is at c.in_ok-no.ensures in
    record { rests = rests_over c.args.self.now c.next.new.self c.requires.rests.site over; free = c.requires.free }

pub returns-in-Takes-clause-whole : goal.returns-in-Takes-clause-whole
returns-in-Takes-clause-whole c =
    let has : HasTaken c.args.self.now.frames c.next.new.self c.in-Takes.no = rw c.in-Takes.is at c.in_ok-no.ensures in
    takes_goes c.args.self.now c.next.new.self c.take.new.self c.take.result c.requires.rests.rests c.in-Takes.no has c.requires.rests.site.sized
    c.take.ensures.whole

pub returns-in-Answers-clause-whole : goal.returns-in-Answers-clause-whole
returns-in-Answers-clause-whole c =
    let has : HasAnswered c.args.self.now.frames c.next.new.self c.in-Answers.no c.in-Answers.parked = rw c.in-Answers.is at c.in_ok-no.ensures in
    answers_goes c.args.self.now c.next.new.self c.answer.new.self c.answer.result c.requires.rests.rests c.in-Answers.no c.in-Answers.parked has
    c.answer.ensures.whole

pub returns-in-Idle-clause-whole : goal.returns-in-Idle-clause-whole
returns-in-Idle-clause-whole c =
    let over : IsOver c.args.self.now.frames c.next.new.self = rw c.in-Idle.is at c.in_ok-no.ensures in
    idles_goes c.args.self.now c.next.new.self c.next_root.new.self c.next_root.result c.requires.rests.rests over c.next_root.ensures.whole

pub returns-in-Takes-clause-reasons : goal.returns-in-Takes-clause-reasons
returns-in-Takes-clause-reasons c =
    let has : HasTaken c.args.self.now.frames c.next.new.self c.in-Takes.no = rw c.in-Takes.is at c.in_ok-no.ensures in
    walks_for c.args.self.now c.next.new.self c.take.new.self c.in-Takes.no c.args.runs.now c.take.new.runs c.take.result c.requires.rests.site c.requires.rests.rests
    has c.take.ensures.reasons

pub returns-in-Answers-clause-reasons : goal.returns-in-Answers-clause-reasons
returns-in-Answers-clause-reasons c =
    none_starts (WalksFor c.args.self.now c.answer.new.self c.args.runs.now c.args.runs.now) (record c.args.self.now { frames = c.next.new.self })
    c.answer.new.self c.answer.result c.answer.ensures.kept (λ none u funcs digests now e resting knows. inl (refl, none))

pub returns-in-Idle-clause-reasons : goal.returns-in-Idle-clause-reasons
returns-in-Idle-clause-reasons c =
    none_starts (WalksFor c.args.self.now c.next_root.new.self c.args.runs.now c.args.runs.now) (record c.args.self.now { frames = c.next.new.self })
    c.next_root.new.self c.next_root.result c.next_root.ensures.kept (λ none u funcs digests now e resting knows. inl (refl, none))
