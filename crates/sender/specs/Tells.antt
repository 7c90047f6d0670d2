-- What one datagram does to the sender's half: it turns the numbers that it names to received, if it is accepted, and its LogWindowSize is remembered. What it names and
-- whether it is accepted depend on the first number and on next alone, which no acknowledgement changes.
use Rattle.std.specs.Prelude.{ℕ, Bool, List, ◌≡◌, refl, eqb, Err, Ok, Some, None}
use Rattle.std.proofs.Math.Bool.{true, false, cond}
use Rattle.std.proofs.Common.{sym, ◌∙◌}
use Rattle.std.proofs.Math.Path.{ap, subst}
use Rattle.common.specs.Facts.{cond_none}
use Rattle.numbers.specs.Widen.{widen_of}
use Rattle.common.specs.Answer.{no_of}
use Rattle.wire.specs.declared.Packet.{Packet}
use Rattle.wire.specs.Flags.{ack_in, vector_in}
use Rattle.wire.specs.Read.{read_of, Reading}
use Rattle.wire.specs.Same.{coded_in}
use Rattle.sender.specs.declared.Sender.{Sender}
use Rattle.sender.specs.Record.{remembering}
use Rattle.sender.specs.Consistent.{consistent_of}
use Rattle.sender.specs.Acknowledge.{acknowledging, acknowledged_of, Told, silent, up_to, listed, up_to_answer, listed_answer, told_answer, told_names, told_of, told_by, packet_of, read_answer, read_into, acknowledge_answer, acknowledge_of}
use Rattle.sender.specs.Facts.{Facts, facts_consistent}
use Rattle.sender.specs.TurnedWants.{acknowledging_ends}
use Rattle.sender.specs.Turned.{Turned, either_of, or_none, turned_alike, turned_again, turned_remembering}
use Rattle.sender.specs.TurnedFacts.{turned_facts}

-- what a datagram tells: nothing, unless it reads
unfoldable pub tells : Sender → List ℕ → Reading → Told
tells s d (Err n) = silent
tells s d (Ok None) = silent
tells s d (Ok (Some p)) = told_by s d p

-- does a datagram name number n, and is it accepted?
unfoldable pub accepted_names : ℕ → ℕ → Sender → List ℕ → ℕ → Bool
accepted_names w cap s d n = cond (eqb (acknowledge_answer w cap s d) 0) (told_names (tells s d (read_of d)) n) false

-- two senders with the same first number and next
pub record Alike (q s : Sender) : Type 0 where
  pub firstdata : q.firstdata.0 ≡ s.firstdata.0
  pub next : q.next.0 ≡ s.next.0

told_alike : (q s : Sender) → Alike q s → (d : List ℕ) (p : Packet) → told_by q d p ≡ told_by s d p
unfolding told_by
told_alike q s a d p =
    ap (λ (x : ℕ).
    cond (ack_in p.values.flags) (up_to (widen_of x p.values.ack.number))
    (cond (vector_in p.values.flags) (listed (widen_of x p.values.vector.base) (coded_in d p)) silent))
    a.next

tells_alike : (q s : Sender) → Alike q s → (d : List ℕ) (r : Reading) → tells q d r ≡ tells s d r
unfolding tells
tells_alike q s a d (Err n) = refl
tells_alike q s a d (Ok None) = refl
tells_alike q s a d (Ok (Some p)) = told_alike q s a d p

judged_alike : (q s : Sender) → Alike q s → (m : Told) → told_answer q m ≡ told_answer s m
unfolding told_answer
judged_alike q s a silent = refl
judged_alike q s a (up_to x) =
    ap (λ (n : ℕ). up_to_answer n q.next.0 x) a.firstdata ∙ ap (λ (n : ℕ). up_to_answer s.firstdata.0 n x) a.next
judged_alike q s a (listed x v) =
    ap (λ (n : ℕ). listed_answer n q.next.0 x v) a.firstdata ∙ ap (λ (n : ℕ). listed_answer s.firstdata.0 n x v) a.next

answer_alike : (q s : Sender) → Alike q s → (d : List ℕ) (r : Reading) → read_answer q d r ≡ read_answer s d r
unfolding read_answer
answer_alike q s a d (Err n) = refl
answer_alike q s a d (Ok None) = refl
answer_alike q s a d (Ok (Some p)) = judged_alike q s a (told_by q d p) ∙ ap (told_answer s) (told_alike q s a d p)

-- Consistent senders with the same first number and next give the same answer, and take the same numbers as named.
module _ (w cap : ℕ) (q s : Sender) (a : Alike q s) (hq : consistent_of w cap q ≡ true) (hs : consistent_of w cap s ≡ true) (d : List ℕ) where
  pub same_answer : acknowledge_answer w cap q d ≡ acknowledge_answer w cap s d
  unfolding acknowledge_answer
  same_answer = rw (hq, hs) (answer_alike q s a d (read_of d))

  pub same_names : (n : ℕ) → accepted_names w cap q d n ≡ accepted_names w cap s d n
  unfolding accepted_names
  same_names n =
      ap (λ (x : ℕ). cond (eqb x 0) (told_names (tells q d (read_of d)) n) false) same_answer
      ∙ ap (λ (m : Told). cond (eqb (acknowledge_answer w cap s d) 0) (told_names m n) false) (tells_alike q s a d (read_of d))

-- A consistent record is not refused by 13.
pub answer_is : (w cap : ℕ) (q : Sender) (d : List ℕ) → consistent_of w cap q ≡ true → acknowledge_answer w cap q d ≡ read_answer q d (read_of d)
unfolding acknowledge_answer
answer_is w cap q d h = rw h refl

left_is : (w cap : ℕ) (q : Sender) (d : List ℕ) → consistent_of w cap q ≡ true → acknowledge_of w cap q d ≡ read_into w q d (read_of d)
unfolding acknowledge_of
left_is w cap q d h = rw h refl

module _ {w cap : ℕ} {s : Sender} (f : Facts w cap s) {chosen : ℕ → Bool} {q : Sender} (a : Turned w cap acknowledging s chosen q) where
  -- nothing more is chosen
  as_before : (g : ℕ → Bool) → ((n : ℕ) → false ≡ g n) → Turned w cap acknowledging s (either_of chosen g) q
  as_before g h = turned_alike acknowledging_ends f (either_of chosen g) (λ n l u p. or_none (chosen n) (g n) (sym (h n))) a

  by_test : (b : Bool) (g : ℕ → Bool) → Turned w cap acknowledging s (either_of chosen (λ n. cond b (g n) false)) (cond b (acknowledged_of w q g) q)
  unfolding acknowledged_of
  by_test true g = turned_again acknowledging_ends f a.turning g
  by_test false g = as_before _ (λ n. refl)

  told_turned : (m : Told) → Turned w cap acknowledging s (either_of chosen (λ n. cond (eqb (told_answer q m) 0) (told_names m n) false)) (told_of w q m)
  unfolding told_of told_names
  told_turned silent = as_before _ (λ n. cond_none (eqb (told_answer q silent) 0))
  told_turned (up_to x) = by_test (eqb (told_answer q (up_to x)) 0) (told_names (up_to x))
  told_turned (listed x v) = by_test (eqb (told_answer q (listed x v)) 0) (told_names (listed x v))

  -- a packet that is accepted tells, and its LogWindowSize k is remembered
  packet_turned : (m : Told) (k : ℕ) → Turned w cap acknowledging s (either_of chosen (λ n. cond (eqb (told_answer q m) 0) (told_names m n) false))
      (cond (eqb (told_answer q m) 0) (remembering k (told_of w q m)) q)
  packet_turned m k = go (eqb (told_answer q m) 0) refl
    where
      go : (b : Bool) → eqb (told_answer q m) 0 ≡ b → Turned w cap acknowledging s (either_of chosen (λ n. cond (eqb (told_answer q m) 0) (told_names m n) false))
          (cond b (remembering k (told_of w q m)) q)
      go true e = turned_remembering k (told_turned m)
      go false e = as_before _ (λ n. sym (ap (λ (x : Bool). cond x (told_names m n) false) e))

  read_turned : (d : List ℕ) (r : Reading)
      → Turned w cap acknowledging s (either_of chosen (λ n. cond (eqb (read_answer q d r) 0) (told_names (tells q d r) n) false)) (read_into w q d r)
  unfolding read_answer read_into packet_of tells told_names
  read_turned d (Err k) = as_before _ (λ n. cond_none (eqb (no_of k) 0))
  read_turned d (Ok None) = as_before _ (λ n. refl)
  read_turned d (Ok (Some p)) = packet_turned (told_by q d p) p.values.logwindow

  -- One datagram more: the numbers that it names are chosen besides.
  pub datagram_turned : (d : List ℕ) → Turned w cap acknowledging s (either_of chosen (accepted_names w cap q d)) (acknowledge_of w cap q d)
  unfolding accepted_names
  datagram_turned d =
      let h : consistent_of w cap q ≡ true = facts_consistent w cap q (turned_facts acknowledging_ends f a) in
      subst (λ (r : Sender). Turned w cap acknowledging s (either_of chosen (accepted_names w cap q d)) r) (sym (left_is w cap q d h))
      (subst (λ (k : ℕ). Turned w cap acknowledging s (either_of chosen (λ n. cond (eqb k 0) (told_names (tells q d (read_of d)) n) false)) (read_into w q d (read_of d)))
      (sym (answer_is w cap q d h)) (read_turned d (read_of d)))
