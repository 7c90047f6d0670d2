-- Demand 3, first half, for the receiver: the datagrams ds are a set as document 01 has it (Set.antt), at the outset s. They arrive in any
-- order, with repeats, with takes of any room between. w is the window, of any size up to 1,024, in cap places.
use Rattle.std.specs.Prelude.{ℕ, ◌-◌, ◌≤◌, ◌<◌, true, false, List, ◌++◌, map, ◌≡◌}
use Rattle.std.proofs.Common.{sym, ◌∙◌, ap, subst, arith}
use Rattle.window.specs.Store.{place_size}
use Rattle.window.specs.Members.{In}
use Rattle.window.specs.Free.{free_all}
use Rattle.receiver.specs.Record.{State}
use Rattle.receiver.specs.Packet.{Packet}
use Rattle.receiver.specs.Take.{take_answer}
use Rattle.receiver.specs.Receive.{receive_answer}
use Rattle.receiver.specs.Determined.{Item, item_of, has_by, due_by, determined_of, body_by, blocks_from}
use Rattle.receiver.specs.History.{Event, run_of, handed_of, takes_of}
use Rattle.receiver.specs.Set.{packet_at, Set, From, Covers}
use Rattle.receiver.specs.Order.Moments.{good_outset, answer_zero}
use Rattle.receiver.specs.Order.Runs.{run_append, takes_bring, run_good}
use Rattle.receiver.specs.Order.Settled.{drained, record_determined, blocks_handed, has_no_more}

-- what the datagrams bring, their numbers widened against the outset's record
abbrev pub packets_of : State → List (List ℕ) → List Packet
packets_of s ds = map (packet_at s.receiver) ds

abbrev pub items_of : State → List (List ℕ) → List Item
items_of s ds = map item_of (packets_of s ds)

-- the blocks of the unbroken run from the next one due on, each once, in order
abbrev pub ready_of : ℕ → State → List (List ℕ) → List (List ℕ)
ready_of w s ds =
    blocks_from (body_by w s (packets_of s ds)) s.receiver.due.0 (due_by w s.receiver (items_of s ds) - s.receiver.due.0)

module _ (w cap : ℕ) (s : State) (ds : List (List ℕ)) (set : Set w cap s ds) where
  -- Every datagram of the set is accepted at every moment of every history of the set.
  pub all_accepted : (es : List Event) → From ds es → (d : List ℕ) → In d ds → receive_answer w cap (run_of w cap s es) d ≡ 0
  all_accepted es from d i = answer_zero w cap s ds set (run_good w cap s ds set es from (good_outset w cap s ds set)) d i

  -- Once all have come and the last ready block is taken, the blocks handed over in all are the unbroken run, and the record is the one
  -- that the outset and the set's numbers and lengths determine.
  pub any_order : (es : List Event) → From ds es → Covers ds es → (room : ℕ) → take_answer w cap (run_of w cap s es) room ≡ 11
      → (handed_of w cap s es ≡ ready_of w s ds) × ((run_of w cap s es).receiver ≡ determined_of w s.receiver (items_of s ds))
  any_order es from covers room ready =
      (blocks_handed w cap s ds set es from covers room ready, record_determined w cap s ds set es from covers room ready)

  -- The same with nothing asked of the end: w takes with room for any block leave nothing ready.
  pub any_order_taken : (es : List Event) → From ds es → Covers ds es
      → (take_answer w cap (run_of w cap s (es ++ takes_of w)) place_size ≡ 11)
      × (handed_of w cap s (es ++ takes_of w) ≡ ready_of w s ds)
      × ((run_of w cap s (es ++ takes_of w)).receiver ≡ determined_of w s.receiver (items_of s ds))
  any_order_taken es from covers =
      let g = run_good w cap s ds set es from (good_outset w cap s ds set) in
      let ready : take_answer w cap (run_of w cap s (es ++ takes_of w)) place_size ≡ 11 =
      ap (λ (x : State). take_answer w cap x place_size) (run_append w cap s es (takes_of w))
      ∙ drained w cap s ds set w g (omega (arith, g.blocks.holds.weak.from)) place_size in
      let f : From ds (es ++ takes_of w) = λ d i. from d (subst (λ (l : List (List ℕ)). In d l) (takes_bring es w) i) in
      let c : Covers ds (es ++ takes_of w) = λ d i. subst (λ (l : List (List ℕ)). In d l) (sym (takes_bring es w)) (covers d i) in
      let (handed, determined) = any_order (es ++ takes_of w) f c place_size ready in
      (ready, handed, determined)

  -- The run is unbroken: the outset or the set has every block from due up to where it ends, and not the one there.
  pub ready_all : (c : ℕ) → s.receiver.due.0 ≤ c → c < due_by w s.receiver (items_of s ds) → has_by w s.receiver (items_of s ds) c ≡ true
  unfolding due_by
  ready_all c l u = free_all (has_by w s.receiver (items_of s ds)) w s.receiver.due.0 c l u

  pub ready_ends : has_by w s.receiver (items_of s ds) (due_by w s.receiver (items_of s ds)) ≡ false
  ready_ends = has_no_more w cap s ds set
