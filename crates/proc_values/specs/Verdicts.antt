-- What a guard's answer says (this project's own).
use Rattle.term_value.specs.Guards as g
use Rattle.proc_values.specs.declared.guards.Verdict.{Verdict}
use Rattle.proc_values.specs.declared.guards.Verdict.TheVariants.{Holds, Fails, AtLimit}

abbrev pub verdict : Verdict → g.Verdict
verdict Holds = g.Holds
verdict Fails = g.Fails
verdict AtLimit = g.AtLimit
