-- What an answer 0 tells of a packet and of a take, and back.
use Rattle.std.specs.Prelude.{ℕ, ◌+◌, ◌≤◌, ◌<◌, max, Bool, true, false, cond, not, ◌≡◌, refl, ltb, length}
use Rattle.std.proofs.Common.{sym, arith, le-ltb, ltb-false, leb-false}
use Rattle.std.proofs.lemmas.Bool.{lt-leb, not-false}
use Rattle.common.specs.Order.{first}
use Rattle.numbers.specs.Full.{highest}
use Rattle.wire.specs.Round.Tests.{all_pass}
use Rattle.receiver.specs.declared.Receiver.{Receiver}
use Rattle.receiver.specs.Record.{State, is_held, hold_at}
use Rattle.receiver.specs.Consistent.{sound_of}
use Rattle.receiver.specs.Packet.{Packet, waived, number_tests, numbers_answer, packet_answer}
use Rattle.receiver.specs.Take.{take_tests, take_answer}

pub record Accepted (w : ℕ) (r : Receiver) (p : Packet) : Type 0 where
  pub aoa_range : waived p.aoa ≤ highest
  pub number_range : p.number ≤ highest
  pub number_near : p.number < max r.base.0 (waived p.aoa) + w
  pub channel_range : p.channel ≤ highest
  pub channel_near : p.channel < r.due.0 + w

pub packet_accepted : (w : ℕ) (r : Receiver) (p : Packet) → packet_answer w r p ≡ 0 → Accepted w r p
unfolding numbers_answer
packet_accepted w r p e =
    let q = all_pass (number_tests w r.base.0 r.due.0 (waived p.aoa) p.number p.channel) (omega arith) (sym e) in
    record {
      aoa_range = ltb-false highest (waived p.aoa) q.0;
      number_range = ltb-false highest p.number q.1.0;
      number_near = leb-false (max r.base.0 (waived p.aoa) + w) p.number q.1.1.0;
      channel_range = ltb-false highest p.channel q.1.1.1.0;
      channel_near = leb-false (r.due.0 + w) p.channel q.1.1.1.1.0;
    }

pub accepted_packet : (w : ℕ) (r : Receiver) (p : Packet) → Accepted w r p → packet_answer w r p ≡ 0
unfolding numbers_answer first
accepted_packet w r p k =
    rw (
      le-ltb highest (waived p.aoa) k.aoa_range,
      le-ltb highest p.number k.number_range,
      lt-leb (max r.base.0 (waived p.aoa) + w) p.number k.number_near,
      le-ltb highest p.channel k.channel_range,
      lt-leb (r.due.0 + w) p.channel k.channel_near,
    )
    refl

-- the hold of the block due
abbrev pub due_held : ℕ → Receiver → Bool
due_held w r = is_held (hold_at w r r.due.0)

pub taken_held : (w cap : ℕ) (s : State) (room : ℕ) → take_answer w cap s room ≡ 0 → due_held w s.receiver ≡ true
unfolding take_answer
taken_held w cap s room e =
    let q = all_pass (take_tests w cap s room) (omega arith) (sym e) in
    not-false (due_held w s.receiver) q.1.0

pub held_taken : (w cap : ℕ) (s : State) (room : ℕ) → sound_of w cap s.receiver (length s.store) ≡ true
    → due_held w s.receiver ≡ true → (hold_at w s.receiver s.receiver.due.0).length ≤ room → take_answer w cap s room ≡ 0
unfolding take_answer first
held_taken w cap s room h t l = rw (h, t, le-ltb room (hold_at w s.receiver s.receiver.due.0).length l) refl

-- "11 exactly if it is not held"
pub not_held_eleven : (w cap : ℕ) (s : State) (room : ℕ) → sound_of w cap s.receiver (length s.store) ≡ true
    → due_held w s.receiver ≡ false → take_answer w cap s room ≡ 11
unfolding take_answer first
not_held_eleven w cap s room h t = rw (h, t) refl

pub eleven_not_held : (w cap : ℕ) (s : State) (room : ℕ) → take_answer w cap s room ≡ 11 → due_held w s.receiver ≡ false
unfolding take_answer first
eleven_not_held w cap s room e =
    go (sound_of w cap s.receiver (length s.store)) (due_held w s.receiver) (ltb room (hold_at w s.receiver s.receiver.due.0).length) e
  where
    go : (a b c : Bool) → ◌≡◌ {A = ℕ} (cond (not a) 13 (cond (not b) 11 (cond c 14 0))) 11 → b ≡ false
    go false b c q = absurd (omega arith)
    go true true true q = absurd (omega arith)
    go true true false q = absurd (omega arith)
    go true false c q = refl
