-- What a call by number and token makes of the session at its place, written with the endpoint's own definitions at "the window of 32": `answer_of`, `writes_of`, `call_of`
-- and `sweep_count`. None of them is unfolded here. The contract of each call cites `made_of`.
use Rattle.std.specs.Prelude.{ℕ, cond, List, [], ◌≡◌, refl, eqb}
use Rattle.std.proofs.Common.{ne_eqb}
use Rattle.sender.specs.Sweep.{sweep_count}
use Rattle.endpoint.specs.Receive.{halves}
use Rattle.endpoint.specs.Calls.{Endpoint, Call, receives, takes, acknowledges, sends, resends, sweeps, answer_of, writes_of, call_of}
use Rattle.session.specs.declared.Session.{Session}
use Rattle.session.specs.Place.{blank, place_answer}

-- ---- stores: "The host must give .. each session stores of its own"

-- a session's two: the receiver's, and the sender's
pub record Stores : Type 0 where
  pub received : List ℕ
  pub sent : List ℕ

abbrev pub no_stores : Stores
no_stores = record { received = []; sent = [] }

-- which of them a call is lent
pub data Lends : Type 0 where
  the_receivers : Lends
  the_senders : Lends
  neither : Lends

abbrev pub lends : Call → Lends
lends (receives d) = the_receivers
lends (takes room) = the_receivers
lends (acknowledges stamp gap room) = neither
lends (sends tick block room) = the_senders
lends (resends tick room) = the_senders
lends (sweeps tick) = neither

-- of a session's stores, the one that is lent
abbrev pub lent_of : Lends → Stores → List ℕ
lent_of the_receivers x = x.received
lent_of the_senders x = x.sent
lent_of neither x = []

-- a session's stores with another in place of the one that is lent
abbrev pub kept_of : Lends → Stores → List ℕ → Stores
kept_of the_receivers x b = record { received = b; sent = x.sent }
kept_of the_senders x b = record { received = x.received; sent = b }
kept_of neither x b = x

-- a session with its stores is an endpoint
abbrev pub endpoint_of : Session → Stores → Endpoint
endpoint_of s x = record { halves = halves s.sender s.receiver x.received; sent = x.sent }

abbrev pub stores_of : Endpoint → Stores
stores_of e = record { received = e.halves.store; sent = e.sent }

-- ---- a call

-- what is asked of a session: a call of its endpoint, or that it be closed
pub data Asked : Type 0 where
  calls : (c : Call) → Asked
  closes : Asked

-- which store is lent; to close is to be lent none
abbrev pub lends_for : Asked → Lends
lends_for (calls c) = lends c
lends_for closes = neither

-- what becomes of it: the number that answers, the bytes that are written where that is 0, how many were found lost, the session afterwards, and the lent store
-- afterwards
pub record Made : Type 0 where
  pub answer : ℕ
  pub bytes : List ℕ
  pub lost : ℕ
  pub session : Session
  pub store : List ℕ

-- the owner's session with an endpoint's records in place of its own
abbrev pub holding : Session → Endpoint → Session
holding s e = record { token = s.token; sender = e.halves.sender; receiver = e.halves.receiver }

-- how many a sweep finds lost
unfoldable pub lost_of : Endpoint → Call → ℕ
lost_of e (receives d) = 0
lost_of e (takes room) = 0
lost_of e (acknowledges stamp gap room) = 0
lost_of e (sends tick block room) = 0
lost_of e (resends tick room) = 0
lost_of e (sweeps tick) = sweep_count 32 32 e.halves.sender tick

-- a call of its endpoint
abbrev pub called_of : Session → Endpoint → Call → Made
called_of s e c =
    record {
      answer = answer_of 32 32 e c;
      bytes = writes_of 32 e c;
      lost = lost_of e c;
      session = holding s (call_of 32 32 e c);
      store = lent_of (lends c) (stores_of (call_of 32 32 e c));
    }

-- of the owner's own session; closed, its place is zero throughout
unfoldable pub done_of : Session → List ℕ → Asked → Made
done_of s store (calls c) = called_of s (endpoint_of s (kept_of (lends c) no_stores store)) c
done_of s store closes = record { answer = 0; bytes = []; lost = 0; session = blank; store = store }

-- refused before all else: nothing changes
abbrev pub refused_by : ℕ → Session → List ℕ → Made
refused_by n old store = record { answer = n; bytes = []; lost = 0; session = old; store = store }

-- on a list of so many places, by a number and a token, of the session that stands at the number's place
unfoldable pub made_of : ℕ → ℕ → ℕ → Session → List ℕ → Asked → Made
made_of count number token old store q =
    cond (eqb (place_answer count number token old.token) 0) (done_of old store q) (refused_by (place_answer count number token old.token) old store)

-- ---- a law for each way

pub made_refused : (count number token : ℕ) (old : Session) (store : List ℕ) (q : Asked) → (place_answer count number token old.token ≡ 0 → ⊥)
    → made_of count number token old store q ≡ refused_by (place_answer count number token old.token) old store
unfolding made_of
made_refused count number token old store q h = rw (ne_eqb (place_answer count number token old.token) 0 h) refl

pub made_done : (count number token : ℕ) (old : Session) (store : List ℕ) (q : Asked) → place_answer count number token old.token ≡ 0
    → made_of count number token old store q ≡ done_of old store q
unfolding made_of
made_done count number token old store q h = rw h refl
