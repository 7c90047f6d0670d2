-- The record that opening makes: "Opening gives the first of each"; end is "at first the first number", and nothing has arrived.
use Rattle.std.specs.Prelude.{ℕ, replicate}
use Rattle.receiver.specs.declared.Receiver.{Receiver}
use Rattle.receiver.specs.Record.{empty}

abbrev pub fresh_of : ℕ → ℕ → ℕ → Receiver
fresh_of cap firstdata firstchannel =
    record {
      firstdata = record { 0 = firstdata };
      firstchannel = record { 0 = firstchannel };
      base = record { 0 = firstdata };
      end = record { 0 = firstdata };
      due = record { 0 = firstchannel };
      marks = replicate cap 0;
      holds = replicate cap empty;
    }
