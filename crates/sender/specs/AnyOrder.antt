-- Demand 3, its second half, for the sender: acknowledgements in any order and with any repeats. Run.antt says what a run is, what it is for a datagram to name a number, and
-- when a number is received. A datagram's fields are widened against next, which acknowledgements do not change.
use Rattle.std.specs.Prelude.{ℕ, ◌≤◌, ◌<◌, Bool, true, cond, List, ◌≡◌, refl}
use Rattle.std.proofs.Common.{sym, ◌∙◌, ap}
use Rattle.window.specs.Members.{In}
use Rattle.sender.specs.declared.Sender.{Sender}
use Rattle.sender.specs.Record.{is_pending, remembering, number_at}
use Rattle.sender.specs.Consistent.{consistent_of}
use Rattle.sender.specs.Turn.{turned_of}
use Rattle.sender.specs.Acknowledge.{acknowledging, acknowledge_answer}
use Rattle.sender.specs.Facts.{Facts, consistent_facts, facts_consistent}
use Rattle.sender.specs.TurnedWants.{acknowledging_ends}
use Rattle.sender.specs.Remembering.{Sized}
use Rattle.sender.specs.Turned.{Turned, turned_none, turned_is, turned_only, turned_alike, turned_remembering}
use Rattle.sender.specs.TurnedFacts.{turned_facts, turned_exactly, block_exactly}
use Rattle.sender.specs.Tells.{same_answer}
use Rattle.sender.specs.Run.{run, accepted_in, Named, named_in, has_received, has_acknowledged, same_accepted, named_at, named_from_lem, same_named, turned_like, run_turned, run_window}

-- The outset is any consistent record.
module _ (w cap : ℕ) (lw : 0 < w) (uw : w ≤ cap) (s : Sender) (h : consistent_of w cap s ≡ true) where
  facts : Facts w cap s
  facts = consistent_facts w cap s lw uw h

  ran : (ds : List (List ℕ)) → Turned w cap acknowledging s (named_in w cap s ds) (run w cap s ds)
  ran ds = run_turned facts ds (turned_none acknowledging_ends facts)

  -- THE THEOREM. The end is a consistent record: the outset, with all that some accepted datagram names turned to received, and the LogWindowSize that is
  -- remembered.
  pub end_consistent : (ds : List (List ℕ)) → consistent_of w cap (run w cap s ds) ≡ true
  end_consistent ds = facts_consistent w cap _ (turned_facts acknowledging_ends facts (ran ds))

  pub end_is : (ds : List (List ℕ)) → run w cap s ds ≡ remembering (run w cap s ds).logwindow (turned_of w acknowledging (named_in w cap s ds) s)
  end_is ds =
      turned_only acknowledging_ends facts (ran ds)
      (turned_remembering (run w cap s ds).logwindow (turned_is acknowledging_ends facts (named_in w cap s ds))) refl

  -- "all carrying the same LogWindowSize": that one is remembered if one of them is accepted (Accepted, which accepted_in tests), and else the outset's.
  pub window_is : (k : ℕ) (ds : List (List ℕ)) → ((d : List ℕ) → In d ds → Sized k d)
      → (run w cap s ds).logwindow ≡ cond (accepted_in w cap s ds) k s.logwindow
  window_is k ds sized = run_window facts k ds sized (turned_none acknowledging_ends facts)

  -- Each datagram gets the same answer wherever it stands.
  pub answered_alike : (ds : List (List ℕ)) (d : List ℕ) → acknowledge_answer w cap (run w cap s ds) d ≡ acknowledge_answer w cap s d
  answered_alike ds d = same_answer w cap (run w cap s ds) s (turned_like facts (ran ds)) (end_consistent ds) h d

  -- Lists with the same members end in the same record but for the LogWindowSize,
  pub any_order_but : (k : ℕ) (ds es : List (List ℕ)) → ((d : List ℕ) → In d ds → In d es) → ((d : List ℕ) → In d es → In d ds)
      → remembering k (run w cap s ds) ≡ remembering k (run w cap s es)
  any_order_but k ds es there back =
      turned_only acknowledging_ends facts
      (turned_remembering k (turned_alike acknowledging_ends facts (named_in w cap s es) (λ n l u p. same_named w cap s n ds es there back) (ran ds)))
      (turned_remembering k (ran es)) refl

  -- and if all carry the same in the same record.
  pub any_order : (k : ℕ) (ds es : List (List ℕ)) → ((d : List ℕ) → In d ds → Sized k d) → ((d : List ℕ) → In d ds → In d es)
      → ((d : List ℕ) → In d es → In d ds) → run w cap s ds ≡ run w cap s es
  any_order k ds es sized there back =
      let same = window_is k ds sized
      ∙ ap (λ (b : Bool). cond b k s.logwindow) (same_accepted w cap s ds es there back)
      ∙ sym (window_is k es (λ d i. sized d (back d i))) in
      any_order_but (run w cap s ds).logwindow ds es there back ∙ ap (λ (j : ℕ). remembering j (run w cap s es)) same

  -- A number that is pending at the outset is received at the end exactly if some accepted datagram names it.
  module _ (ds : List (List ℕ)) (n : ℕ) (l : s.low.0 ≤ n) (u : n < s.next.0) (p : is_pending (number_at w s n) ≡ true) where
    pub received_if : Named w cap s ds n → has_received w (run w cap s ds) n ≡ true
    received_if k = turned_exactly acknowledging_ends facts (ran ds) n l u p ∙ named_from_lem w cap s n ds k

    pub received_only_if : has_received w (run w cap s ds) n ≡ true → Named w cap s ds n
    received_only_if t = named_at w cap s n ds (sym (turned_exactly acknowledging_ends facts (ran ds) n l u p) ∙ t)

    -- Its block is then acknowledged, and otherwise not.
    pub block_if : Named w cap s ds n → has_acknowledged w (run w cap s ds) (number_at w s n).channel.0 ≡ true
    block_if k = block_exactly acknowledging_ends facts (ran ds) n l u p ∙ named_from_lem w cap s n ds k

    pub block_only_if : has_acknowledged w (run w cap s ds) (number_at w s n).channel.0 ≡ true → Named w cap s ds n
    block_only_if t = named_at w cap s n ds (sym (block_exactly acknowledging_ends facts (ran ds) n l u p) ∙ t)
