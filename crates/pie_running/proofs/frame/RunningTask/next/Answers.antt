use Rattle.pie_running.proofs.frame.RunningTask.next.Goals as goal

pub returns-clause-means : goal.returns-clause-means
returns-clause-means c = λ answers follows.
    c.came.ensures.means answers
    (record { state = c.next.new.self.config.state; is = c.in_ok-event.ensures.event c.args.self.notes.task.args answers follows })
    (c.in_ok-event.ensures.follows c.args.self.notes.task.args answers follows)
