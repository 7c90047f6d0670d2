-- What reading answers, with no enum in it.
use Rattle.std.specs.Prelude.{true, false, Err, Ok, Some, None}
use Rattle.wire.specs.declared.Packet.{Packet}
use Rattle.common.specs.Answer.{no_of}
use Rattle.wire.specs.Read.{Reading}
use Rattle.repeated_read.specs.declared.Told.{Told}

-- a packet of zeros
abbrev pub no_packet : Packet
no_packet =
    record {
      values = record {
        flags = 0;
        logwindow = 0;
        ack = record { number = 0; time = 0; gap = 0; count = 0; scale = 0 };
        overhead = 0;
        delay = record { most = 0; timeout = 0 };
        aoa = 0;
        number = 0;
        vector = record { base = 0; size = 0; timed = false; time = 0; gap = 0 };
        channel = 0;
      };
      additions = 0;
      vector = 0;
      body = 0;
      bytes = 0;
    }

-- document 01's number, and the packet where one was read
unfoldable pub told_of : Reading → Told
told_of (Err r) = record { packet = no_packet; answer = no_of r; dummy = false }
told_of (Ok None) = record { packet = no_packet; answer = 0; dummy = true }
told_of (Ok (Some p)) = record { packet = p; answer = 0; dummy = false }
