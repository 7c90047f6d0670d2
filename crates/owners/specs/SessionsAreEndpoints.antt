-- A session with the stores that its owner keeps for it is an endpoint, and the owner's call on it is the endpoint's call: the same answer, the same bytes, the same endpoint
-- afterwards, though only one store is lent, or none. So the endpoint's theorems speak of every session, from its opening to its closing. This is the one place that
-- looks into `answer_of`, `writes_of` and `call_of`: for each call, that it does not depend on what it is not lent.
use Rattle.std.specs.Prelude.{ℕ, Bool, true, false, cond, ◌≡◌, refl, eqb}
use Rattle.std.proofs.Common.{eqb-true}
use Rattle.endpoint.specs.Open.{open_answer, opened_of, fresh_pair, zero_pair}
use Rattle.endpoint.specs.Fresh as fresh
use Rattle.endpoint.specs.Calls.{Call, receives, takes, acknowledges, sends, resends, sweeps, answer_of, writes_of, call_of}
use Rattle.session.specs.declared.Session.{Session}
use Rattle.session.specs.Call.{Stores, lends, lent_of, kept_of, endpoint_of, calls, Made, done_of}
use Rattle.session.specs.Open.{opened_for}

-- the owner's call, lent what it takes of the owner's stores
abbrev pub own_call : Session → Stores → Call → Made
own_call s x c = done_of s (lent_of (lends c) x) (calls c)

pub call_answer : (s : Session) (x : Stores) (c : Call) → (own_call s x c).answer ≡ answer_of 32 32 (endpoint_of s x) c
unfolding done_of answer_of
call_answer s x (receives d) = refl
call_answer s x (takes room) = refl
call_answer s x (acknowledges stamp gap room) = refl
call_answer s x (sends tick block room) = refl
call_answer s x (resends tick room) = refl
call_answer s x (sweeps tick) = refl

pub call_writes : (s : Session) (x : Stores) (c : Call) → (own_call s x c).bytes ≡ writes_of 32 (endpoint_of s x) c
unfolding done_of writes_of
call_writes s x (receives d) = refl
call_writes s x (takes room) = refl
call_writes s x (acknowledges stamp gap room) = refl
call_writes s x (sends tick block room) = refl
call_writes s x (resends tick room) = refl
call_writes s x (sweeps tick) = refl

pub call_leaves : (s : Session) (x : Stores) (c : Call) → endpoint_of (own_call s x c).session (kept_of (lends c) x (own_call s x c).store) ≡ call_of 32 32 (endpoint_of s x) c
unfolding done_of call_of
call_leaves s x (receives d) = refl
call_leaves s x (takes room) = refl
call_leaves s x (acknowledges stamp gap room) = refl
call_leaves s x (sends tick block room) = refl
call_leaves s x (resends tick room) = refl
call_leaves s x (sweeps tick) = refl

-- opening makes the endpoint that the endpoint's own opening makes
pub opened_endpoint : (token firstdata firstchannel timeout : ℕ) (x : Stores)
    → endpoint_of (opened_for token firstdata firstchannel timeout) x ≡ fresh.endpoint_of (opened_of 32 firstdata firstchannel timeout) x.received x.sent
unfolding opened_for
opened_endpoint token firstdata firstchannel timeout x = refl

-- the endpoint's answer to it is document 01's number
pub opened_answer : (firstdata firstchannel timeout : ℕ) → (opened_of 32 firstdata firstchannel timeout).answer ≡ open_answer firstdata firstchannel timeout
unfolding opened_of
opened_answer firstdata firstchannel timeout = go (open_answer firstdata firstchannel timeout) (eqb (open_answer firstdata firstchannel timeout) 0) refl
  where
    go : (n : ℕ) (b : Bool) → eqb n 0 ≡ b → (cond b (fresh_pair 32 0 firstdata firstchannel timeout) (zero_pair 32 n)).answer ≡ n
    go n true e = rw (eqb-true n 0 e) refl
    go n false e = refl
