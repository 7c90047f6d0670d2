-- Datagrams whose bytes the documents give, and each flag's bit in one small datagram, as one statement over one list of cases.
use Rattle.common.specs.Answer.{refusal_of}
use Rattle.common.specs.declared.Refusal.TheVariants.{LeftOver, OtherFlag}
use Rattle.std.specs.Prelude.{ℕ, false, List, [], ◌∷◌, refl, Err, Ok, None, Some}
use Rattle.common.specs.Order.{first}
use Rattle.vector.specs.Says.{says_of, bits_of, states_in, states_of, names}
use Rattle.vector.specs.Rule.{alike, run_of, map_of, byte_of, covers_of, bytes_by, vector_of}
use Rattle.wire.specs.declared.Values.{Values}
use Rattle.wire.specs.Frame.{swapped, dropped_by, end_of, prefix_for, padded, framed}
use Rattle.wire.specs.Flags.{six_of, outside}
use Rattle.wire.specs.Layout.{no_ack, no_delay, no_vector, ack_end, overhead_end, delay_end, aoa_end, number_end, vector_end, channel_end, values_of, packet_of}
use Rattle.wire.specs.Read.{read_packet, read_of}
use Rattle.wire.specs.Write.{packet_bytes, datagram_of, write_answer}
use Rattle.cases.specs.Cases.{numbers, named_from, named_by, states_for, Case, AllRight}
use Rattle.cases.specs.Cases.Case.{writing, reading, coding}

-- the datagram of document 000, section 4.4.6, as to its second byte, which has the low eight flags
abbrev pub piggybacked : ℕ → List ℕ
piggybacked flags =
    0x8d ∷ flags ∷ 0xc0 ∷ 0x57 ∷ 0x13 ∷ 0x0c ∷ 0x16 ∷ 0x00 ∷ 0x04 ∷ 0x22 ∷ 0x29 ∷ 0x84 ∷ 0x40 ∷ 0x27 ∷ 0x54 ∷ 0x33 ∷ 0x54
    ∷ 0x79 ∷ 0x56 ∷ numbers 0x01 10

-- what its section 4.4.3 says that it holds
abbrev pub evaluated : Values
evaluated =
    record {
      flags = 0x055;
      logwindow = 0xc;
      ack = record { number = 0x1357; time = 0x8d160c; gap = 4; count = 2; scale = 2 };
      overhead = 0x40;
      delay = no_delay;
      aoa = 0x5427;
      number = 0x5433;
      vector = no_vector;
      channel = 0x5679;
    }

-- a packet of its header alone
abbrev pub bare : ℕ → ℕ → List ℕ
bare low high = 0x00 ∷ low ∷ high ∷ 0x00 ∷ 0x00 ∷ 0x00 ∷ 0x00 ∷ 0x40 ∷ []

-- the values of the listing's example in document 01
abbrev pub listed : Values
listed = record { flags = 0x004; logwindow = 5; ack = no_ack; overhead = 0; delay = no_delay; aoa = 0; number = 1000; vector = no_vector; channel = 7 }

unfoldable pub known : List Case
known =
    -- 000, 4.4.6: with the flags of its payloads it reads as 4.4.3 says, and what 4.4.3 says is written so
    reading (piggybacked 0x55) (Ok (Some (record { values = evaluated; additions = 10; vector = 0; body = 19; bytes = 10 })))
    ∷ writing evaluated (0x29 ∷ 0x84 ∷ []) [] (numbers 0x01 10) (piggybacked 0x55)
    -- as it is printed, its flags leave bytes over
    ∷ reading (piggybacked 0x18) (Err LeftOver)
    -- the listing's example
    ∷ reading (0x41 ∷ 0x04 ∷ 0x50 ∷ 0xe8 ∷ 0x03 ∷ 0x07 ∷ 0x00 ∷ 0x00 ∷ 0x42 ∷ [])
    (Ok (Some (record { values = listed; additions = 0; vector = 0; body = 7; bytes = 2 })))
    ∷ writing listed [] [] (0x41 ∷ 0x42 ∷ []) (0x41 ∷ 0x04 ∷ 0x50 ∷ 0xe8 ∷ 0x03 ∷ 0x07 ∷ 0x00 ∷ 0x00 ∷ 0x42 ∷ [])
    -- P1's datagram is a dummy
    ∷ reading (0x73 ∷ 0x30 ∷ 0x35 ∷ 0x56 ∷ 0x78 ∷ 0xa2 ∷ 0x36 ∷ 0x10 ∷ 0xee ∷ 0x68 ∷ 0xf2 ∷ []) (Ok None)
    -- no flag at all
    ∷ reading (bare 0x00 0x50)
    (Ok (Some (record { values = record { flags = 0; logwindow = 5; ack = no_ack; overhead = 0; delay = no_delay; aoa = 0; number = 0; vector = no_vector; channel = 0 }; additions = 0; vector = 0; body = 0; bytes = 0 })))
    -- each flag outside the six
    ∷ reading (bare 0x02 0x50) (Err OtherFlag)
    ∷ reading (bare 0x20 0x50) (Err OtherFlag)
    ∷ reading (bare 0x80 0x50) (Err OtherFlag)
    ∷ reading (bare 0x00 0x52) (Err OtherFlag)
    ∷ reading (bare 0x00 0x54) (Err OtherFlag)
    ∷ reading (bare 0x00 0x58) (Err OtherFlag)
    -- AOA alone, P2's datagram
    ∷ reading (0x00 ∷ 0x10 ∷ 0x50 ∷ 0x0a ∷ 0x00 ∷ 0x00 ∷ 0x00 ∷ 0x80 ∷ [])
    (Ok (Some (record { values = record { flags = 0x010; logwindow = 5; ack = no_ack; overhead = 0; delay = no_delay; aoa = 10; number = 0; vector = no_vector; channel = 0 }; additions = 0; vector = 0; body = 0; bytes = 0 })))
    -- ACK alone
    ∷ writing
    (record { flags = 0x001; logwindow = 5; ack = record { number = 0x0102; time = 0x030405; gap = 6; count = 0; scale = 0 }; overhead = 0; delay = no_delay; aoa = 0; number = 0; vector = no_vector; channel = 0 })
    [] [] [] (0x03 ∷ 0x01 ∷ 0x50 ∷ 0x02 ∷ 0x01 ∷ 0x05 ∷ 0x04 ∷ 0x00 ∷ 0x06 ∷ 0x00 ∷ [])
    -- ACKVEC alone, P3's byte
    ∷ writing
    (record { flags = 0x008; logwindow = 5; ack = no_ack; overhead = 0; delay = no_delay; aoa = 0; number = 0; vector = record { base = 1000; size = 1; timed = false; time = 0; gap = 0 }; channel = 0 })
    [] (0x64 ∷ []) [] (0x00 ∷ 0x08 ∷ 0x50 ∷ 0xe8 ∷ 0x03 ∷ 0x01 ∷ 0x64 ∷ 0xc0 ∷ [])
    -- OVERHEADSIZE alone
    ∷ writing
    (record { flags = 0x040; logwindow = 5; ack = no_ack; overhead = 7; delay = no_delay; aoa = 0; number = 0; vector = no_vector; channel = 0 })
    [] [] [] (0x00 ∷ 0x40 ∷ 0x50 ∷ 0x07 ∷ 0x00 ∷ 0x00 ∷ 0x00 ∷ 0x60 ∷ [])
    -- DELAYACKINFO alone
    ∷ writing
    (record { flags = 0x100; logwindow = 5; ack = no_ack; overhead = 0; delay = record { most = 7; timeout = 0x0102 }; aoa = 0; number = 0; vector = no_vector; channel = 0 })
    [] [] [] (0x00 ∷ 0x00 ∷ 0x51 ∷ 0x07 ∷ 0x02 ∷ 0x01 ∷ 0x00 ∷ 0xa0 ∷ [])
    -- the numbers of P3 and P4 are written as their bytes
    ∷ coding 1000 (1002 ∷ 1005 ∷ 1006 ∷ []) (0x64 ∷ [])
    ∷ coding 1000 (numbers 1000 36) (0xe4 ∷ [])
    ∷ []

pub known_right : AllRight known
unfolding known refusal_of numbers named_from named_by states_for first says_of bits_of states_in states_of names alike run_of map_of byte_of covers_of bytes_by vector_of swapped dropped_by end_of prefix_for padded framed six_of outside ack_end overhead_end delay_end aoa_end number_end vector_end channel_end values_of packet_of read_packet read_of packet_bytes datagram_of write_answer
known_right =
    (refl, ((refl, refl), (refl, (refl, ((refl, refl), (refl, (refl, (refl, (refl, (refl, (refl, (refl, (refl, (refl, ((refl, refl), ((refl, refl), ((refl, refl), ((refl, refl), ((refl, refl), ((refl, refl), tt))))))))))))))))))))
