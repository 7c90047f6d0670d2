-- `marking::waive` meets its contract: base moves past marked places of the window that was lifted.
use mathlib.Core.Path.{◌∙◌, ap}
use Rattle.window.specs.Window.{slid}
use Rattle.receiver.specs.Record.{is_marked}
use Rattle.marking.proofs.waive.Goals as goal

pub returns : goal.returns
returns c = c.advance.ensures ∙ ap (slid 0 32 is_marked 32) c.lift.ensures.0
