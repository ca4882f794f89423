use Rattle.plain_moves.proofs.comprehensions.after_row.Goals as goal

pub returns-in-Found : goal.returns-in-Found
returns-in-Found c = λ w before h. c.found_row.ensures w before (rw c.in-Found.is at h)

pub returns-in-Skipped : goal.returns-in-Skipped
returns-in-Skipped c = λ w before h. c.skipped_row.ensures w before (rw c.in-Skipped.is at h)
