-- `marking::note` meets its contract: base moves past marked places of the window that was lifted and marked.
use Prim.Native.Nat.{ℕ}
use mathlib.Core.Path.{◌∙◌, ap}
use Rattle.window.specs.Window.{Win, slid}
use Rattle.receiver.specs.Record.{is_marked}
use Rattle.receiver.specs.Packet.{marked}
use Rattle.marking.proofs.note.Goals as goal

pub returns : goal.returns
returns c = c.advance.ensures ∙ ap (slid 0 32 is_marked 32) (c.mark.ensures.0 ∙ ap (λ (x : Win ℕ). marked 32 x c.args.n.0) c.lift.ensures.0)
