-- `window::sound` meets its contract: each way out is an instance of a law of EveryLaws.
use mathlib.Core.Path.{◌∙◌}
use Rattle.common.specs.EveryLaws.{every_fails, every_skip, every_last}
use Rattle.window.specs.Store.{sound_with}
use Rattle.window.proofs.sound.Goals as goal

pub returns-then-not-consistent : goal.returns-then-not-consistent
unfolding sound_with
returns-then-not-consistent c = every_fails _ 0 c.if-not-consistent.true

pub returns : goal.returns
unfolding sound_with
returns c = every_last _ ∙ every_skip _ _ c.if-not-consistent.false
