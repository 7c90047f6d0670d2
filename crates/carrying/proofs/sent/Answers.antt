-- `carrying::sent` meets its contract: each way out is an instance of a law.
use Prim.Native.Nat.{◌+◌}
use lib.ListN.{set}
use Rattle.carrying.proofs.sent.Goals as goal

pub returns : goal.returns
returns c = let s = c.args.s in
    λ i. record {
      firstdata = s.firstdata;
      firstchannel = s.firstchannel;
      timeout = s.timeout;
      logwindow = s.logwindow;
      low = s.low;
      next = record { 0 = s.next.0 + 1 };
      channellow = s.channellow;
      channelnext = c.args.channelnext;
      numbers = set s.numbers (c.place-numberat.ensures.0 i) (record { state = 1; channel = c.args.c; tick = c.args.tick });
      blocks = set s.blocks (c.place-blockat.ensures.0 i) (record { state = 1; sends = c.args.sends; length = c.args.length });
    }
