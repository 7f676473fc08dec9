use Rattle.pie_walk.specs.Turns.{IsAnswered}
use Rattle.pie_frames.proofs.Handing.{answers}
use Rattle.pie_frames.proofs.frames.Frames.next.Goals as goal

pub returns-in-Answers : goal.returns-in-Answers
returns-in-Answers c =
    let answered : IsAnswered c.args.self.now.walk c.walk.new.self c.in-Answers.no = rw c.in-Answers.is at c.in_ok-no.ensures.turn in
    answers c.args.self.now c.unpark.new.self c.walk.new.self c.in-Answers.no c.unpark.result c.requires c.in_ok-no.ensures.stands answered
    c.unpark.ensures.walk c.unpark.ensures.taken
