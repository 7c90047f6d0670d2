-- `starts` meets its contract: `starts_with` is what the library's says, with the two sides turned.
use mathlib.Core.Path.{◌∙◌}
use Rattle.trace.proofs.Words.{starts_eq}
use Rattle.trace_words.proofs.starts.Goals as goal

pub returns : goal.returns
returns c = c.starts_with.ensures.value ∙ starts_eq _ _
