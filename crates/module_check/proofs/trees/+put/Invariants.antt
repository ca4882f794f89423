use Rattle.module_check.proofs.trees.+put.Given as goal

abbrev pub decreases-put : goal.decreases-put
decreases-put l = l.before
