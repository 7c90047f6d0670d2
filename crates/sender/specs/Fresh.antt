-- The record that opening makes: "Opening gives the first of each .. and a loss timeout"; nothing is sent, so both lows and both nexts stand at their firsts and
-- every place is zero. "Before any packet the limit is 32" (document 02, W5).
use Rattle.std.specs.Prelude.{ℕ, replicate}
use Rattle.sender.specs.declared.Sender.{Sender}
use Rattle.sender.specs.Record.{opening_log_window, no_number, no_block}

abbrev pub fresh_of : ℕ → ℕ → ℕ → ℕ → Sender
fresh_of cap firstdata firstchannel timeout =
    record {
      firstdata = record { 0 = firstdata };
      firstchannel = record { 0 = firstchannel };
      timeout = timeout;
      logwindow = opening_log_window;
      low = record { 0 = firstdata };
      next = record { 0 = firstdata };
      channellow = record { 0 = firstchannel };
      channelnext = record { 0 = firstchannel };
      numbers = replicate cap no_number;
      blocks = replicate cap no_block;
    }
