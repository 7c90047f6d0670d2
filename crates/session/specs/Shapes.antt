-- What becomes of a session, in the forms in which the functions give it: the answer tells the number, and where it is 0 what else there is to tell.
use Rattle.std.specs.Prelude.{ℕ}
use Rattle.common.specs.Answer.{settled, answered_of, written_of}
use Rattle.session.specs.declared.Reached.{Reached}
use Rattle.session.specs.Call.{Made}
use Rattle.session.specs.Open.{Opening}

-- of a call that writes nothing
abbrev pub reached_by : Made → Reached Unit
reached_by m = record { answer = answered_of m.answer; session = m.session }

-- of a call that writes: how many bytes
abbrev pub filled_by : Made → Reached ℕ
filled_by m = record { answer = written_of m.answer m.bytes; session = m.session }

-- of a sweep: how many became lost
abbrev pub counted_by : Made → Reached ℕ
counted_by m = record { answer = settled m.answer m.lost; session = m.session }

-- of an opening: the session's number
abbrev pub opened_by : Opening → Reached ℕ
opened_by o = record { answer = settled o.answer o.number; session = o.session }

-- without the session: the two numbers of a sweep and of an opening
pub record Tally : Type 0 where
  pub answer : ℕ
  pub lost : ℕ

pub record Granted : Type 0 where
  pub answer : ℕ
  pub number : ℕ

abbrev pub tally_by : Made → Tally
tally_by m = record { answer = m.answer; lost = m.lost }

abbrev pub granted_by : Opening → Granted
granted_by o = record { answer = o.answer; number = o.number }
