-- `begin` meets its contract: its three parts are what the calls that make them ensure.
use Rattle.trace_state.proofs.Beginning.{state_of}
use Rattle.trace_state.proofs.begin.Goals as goal

pub returns : goal.returns
returns c = state_of c.begin.ensures c.opened.ensures c.opened-2.ensures
