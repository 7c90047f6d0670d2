-- `equals` meets its contract: `same` is what the library's `==` says.
use mathlib.Core.Path.{◌∙◌}
use Rattle.trace.proofs.Words.{same_eq}
use Rattle.trace_words.proofs.equals.Goals as goal

pub returns : goal.returns
returns c = c.eq.ensures ∙ same_eq _ _
