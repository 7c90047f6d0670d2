-- `sweeping::judge_all` meets its contract: each way out is an instance of a law.
use Rattle.sweeping.proofs.Losing.{Passed}
use Rattle.sweeping.proofs.judge_all.Given as goal

abbrev pub invariant-loop-i : goal.invariant-loop-i
invariant-loop-i l = Passed 32 l.s l.tick l.flags l.count l.higher l.i
