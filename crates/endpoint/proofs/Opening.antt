-- Opening, a law for each way out.
use Prim.Native.Nat.{ℕ, ◌≤◌}
use mathlib.Core.Path.{◌≡◌, refl}
use native.Mathlib.Omega.{arith}
use borrow.Author.Tests.{ne_eqb, ltb-false}
use Rattle.std.specs.Prelude.{Result, Ok, Err}
use Rattle.common.specs.declared.Refusal.{Refusal}
use Rattle.common.specs.Answer.{answered_of, settled_err}
use Rattle.common.specs.Order.{first_pass}
use Rattle.numbers.specs.Full.{highest_first}
use Rattle.receiver.specs.declared.Receiver.{Receiver}
use Rattle.receiver.specs.Fresh as receiving
use Rattle.sender.specs.declared.Sender.{Sender}
use Rattle.sender.specs.Record.{remembering}
use Rattle.sender.specs.Fresh as sending
use Rattle.endpoint.specs.declared.Opened.{Opened}
use Rattle.endpoint.specs.Open.{open_answer, opened_of, told_of}

pub firsts_fit : (n c t : ℕ) → 0 ≡ open_answer n c t → (n ≤ highest_first) × (c ≤ highest_first)
unfolding open_answer
firsts_fit n c t h =
    let (a, rest) = first_pass _ _ _ (omega arith) h in
    let (b, more) = first_pass _ _ _ (omega arith) rest in
    (ltb-false _ _ a, ltb-false _ _ b)

-- two records and an answer, as opening gives them
abbrev both : Result Unit Refusal → Sender → Receiver → Opened
both n s r = record { answer = n; sender = s; receiver = r }

pub refused : (w n c t : ℕ) (x : Refusal) (s : Sender) (r : Receiver) → Err x ≡ answered_of (open_answer n c t) → s ≡ sending.fresh_of w 0 0 0 → r ≡ receiving.fresh_of w 0 0
    → both (Err x) (remembering 0 s) r ≡ told_of (opened_of w n c t)
unfolding opened_of answered_of
refused w n c t x s r e y z =
    let (h, q) = settled_err x (open_answer n c t) tt e in
    rw (ne_eqb (open_answer n c t) 0 h, y, z, q, ne_eqb (open_answer n c t) 0 h) refl

pub opens : (w n c t : ℕ) (s : Sender) (r : Receiver) → 0 ≡ open_answer n c t → s ≡ sending.fresh_of w n c t → r ≡ receiving.fresh_of w n c
    → both (Ok tt) s r ≡ told_of (opened_of w n c t)
unfolding opened_of answered_of
opens w n c t s r e y z = rw (← e, y, z) refl
