-- An endpoint that is not fresh, as an outset for both halves of demand 3. Its receiver stands at base 40 with 42 and 44 received, so end is 45, and at block 31 with 32 and 33 held.
-- Its sender has sent up to 9: 5, 8 and 9 are pending, 6 is received, and 7 is lost, whose block 8 carries again. The peer's LogWindowSize was 3.
use Rattle.std.specs.Prelude.{ℕ, true, List, ◌∷◌, ◌++◌, ◌≡◌, refl, length, replicate, set}
use Rattle.std.proofs.Common.{◌∙◌, arith, length-append, eq-eqb}
use Rattle.std.proofs.lemmas.List.{length-replicate}
use Rattle.common.specs.Every.{every, all_below, count_below, implies}
use Rattle.common.specs.EveryLaws.{all_every}
use Rattle.window.specs.Store.{sound_with, place_size, store_size}
use Rattle.receiver.specs.declared.Receiver.{Receiver}
use Rattle.receiver.specs.Record.{empty, holding}
use Rattle.receiver.specs.Consistent as receiver_tests
use Rattle.sender.specs.declared.BlockPlace.{BlockPlace}
use Rattle.sender.specs.declared.NumberPlace.{NumberPlace}
use Rattle.sender.specs.declared.Sender.{Sender}
use Rattle.sender.specs.Record.{pending, received, lost, in_flight, acknowledged, no_number, no_block}
use Rattle.sender.specs.Consistent as sender_tests
use Rattle.endpoint.specs.Receive.{halves, sound_of}
use Rattle.endpoint.specs.Calls.{Endpoint}
use Rattle.endpoint.specs.Sound.{Sound}
use Rattle.endpoint.specs.Steps.{halves_sound}

-- the receiver's half: block 32 has place 0 of the store, 33 place 1
abbrev pub used_receiver : Receiver
used_receiver =
    record {
      firstdata = record { 0 = 0 };
      firstchannel = record { 0 = 0 };
      base = record { 0 = 40 };
      end = record { 0 = 45 };
      due = record { 0 = 31 };
      marks = set (set (replicate 32 0) 10 1) 12 1;
      holds = set (set (replicate 32 empty) 0 (holding 2)) 1 (holding 1);
    }

unfoldable pub first_place : List ℕ
first_place = 0x07 ∷ 0x07 ∷ replicate 1223 0

unfoldable pub other_places : List ℕ
other_places = 0x08 ∷ replicate 37974 0

abbrev pub used_store : List ℕ
used_store = first_place ++ other_places

first_long : length first_place ≡ place_size
unfolding first_place
first_long = let l = length-replicate {A = ℕ} 1223 0 in omega arith

others_long : length other_places ≡ 37975
unfolding other_places
others_long = let l = length-replicate {A = ℕ} 37974 0 in omega arith

store_long : length used_store ≡ store_size 32
store_long = length-append first_place other_places ∙ omega (arith, first_long, others_long)

-- the sender's half; blocks 3 to 6 have been sent once, three times, twice and six times
abbrev pub number : ℕ → ℕ → ℕ → NumberPlace
number state channel tick = record { state = state; channel = record { 0 = channel }; tick = tick }

abbrev pub block : ℕ → ℕ → ℕ → BlockPlace
block state sends length = record { state = state; sends = sends; length = length }

abbrev pub used_sender : Sender
used_sender =
    record {
      firstdata = record { 0 = 0 };
      firstchannel = record { 0 = 0 };
      timeout = 300;
      logwindow = 3;
      low = record { 0 = 5 };
      next = record { 0 = 10 };
      channellow = record { 0 = 3 };
      channelnext = record { 0 = 7 };
      numbers = replicate 5 no_number
          ++ (number pending 3 10 ∷ number received 4 11 ∷ number lost 5 12 ∷ number pending 5 400 ∷ number pending 6 401 ∷ replicate 22 no_number);
      blocks = replicate 3 no_block ++ (block in_flight 1 1 ∷ block acknowledged 3 2 ∷ block in_flight 2 3 ∷ block in_flight 6 4 ∷ replicate 25 no_block);
    }

abbrev pub used : Endpoint
used = record { halves = halves used_sender used_receiver used_store; sent = replicate (store_size 32) 0 }

-- Both records are consistent, and both stores of the right size.
receiver_consistent : receiver_tests.consistent_of 32 32 used_receiver ≡ true
unfolding receiver_tests.consistent_of every all_below implies receiver_tests.bounds_fit receiver_tests.mark_fits receiver_tests.hold_fits receiver_tests.mark_ok receiver_tests.hold_ok receiver_tests.spare_mark receiver_tests.spare_hold
receiver_consistent = refl

pub sender_consistent : sender_tests.consistent_of 32 32 used_sender ≡ true
unfolding sender_tests.consistent_of every all_below count_below implies sender_tests.zero_number sender_tests.zero_block sender_tests.number_fits sender_tests.carries
    sender_tests.one_carrier sender_tests.block_fits sender_tests.range_fits sender_tests.timeout_fits sender_tests.number_ok sender_tests.block_ok sender_tests.spare_number sender_tests.spare_block
sender_consistent = refl

pub used_sound : Sound 32 32 used
unfolding sound_with
used_sound =
    record {
      sender = all_every _ (sender_consistent, (eq-eqb _ _ (length-replicate {A = ℕ} (store_size 32) 0), tt));
      receiver = all_every _ (receiver_consistent, (eq-eqb _ _ store_long, tt));
    }

pub used_halves : sound_of 32 32 used.halves ≡ true
used_halves = halves_sound 32 32 used.halves sender_consistent used_sound.receiver
