-- `well_written` meets its contract: what stands behind the key decides, each test of the definition in turn.
use Prim.Native.Nat.{ℕ, ◌-◌, ◌+◌}
use native.Mathlib.Omega.{arith}
use mathlib.Core.Bool.{true, false, cond}
use mathlib.Core.List.{List}
use mathlib.Core.Path.{◌≡◌, sym, ◌∙◌, ap}
use lib.Dec.{eqb}
use lib.ListN.{length, take, drop, length-drop}
use Rattle.common.specs.Choice.{when, unless}
use Rattle.text.specs.Ascii.{ascii}
use Rattle.trace.specs.Hex.{hex_good}
use Rattle.trace.specs.Kinds.{carries}
use Rattle.trace.specs.Read.{data_good}
use Rattle.trace.specs.Words.{starts_with}
use Rattle.trace.specs.WordsLaws.{starts_length, to_end}
use Rattle.trace.proofs.Decoded.{data_unkeyed, data_keyed}
use Rattle.trace_data.proofs.well_written.Goals as goal

keyed : (kind : ℕ) (l : List ℕ) → starts_with (ascii "data=") l ≡ true
    → cond (hex_good (take (length l - 5) (drop 5 l))) (cond (carries kind) true (eqb (length (take (length l - 5) (drop 5 l))) 0)) false ≡ data_good kind l
keyed kind l h =
    let t = take (length l - 5) (drop 5 l) in
    let n : length t + 5 ≡ length l = omega (arith, ap length (to_end 5 l), length-drop 5 l, starts_length (ascii "data=") l h) in
    data_keyed kind l t h (to_end 5 l) n

pub returns-then-not-starts : goal.returns-then-not-starts
returns-then-not-starts c = data_unkeyed _ _ (sym c.starts.ensures ∙ c.if-not-starts.true)

pub slice_bounds-text-count : goal.slice_bounds-text-count
slice_bounds-text-count c = starts_length (ascii "data=") _ (sym c.starts.ensures ∙ c.if-not-starts.false)

pub slice_bounds-text-start : goal.slice_bounds-text-start
slice_bounds-text-start c = starts_length (ascii "data=") _ (sym c.starts.ensures ∙ c.if-not-starts.false)

pub returns-then-has_data : goal.returns-then-has_data
returns-then-has_data c =
    when _ _ _ _ (sym c.hex.ensures ∙ c.if-hex.true) (when _ _ _ _ (sym c.has_data.ensures ∙ c.if-has_data.true) c.if-has_data.true)
    ∙ keyed _ _ (sym c.starts.ensures ∙ c.if-not-starts.false)

pub returns-else-has_data : goal.returns-else-has_data
returns-else-has_data c =
    when _ _ _ _ (sym c.hex.ensures ∙ c.if-hex.true) (unless _ _ _ _ (sym c.has_data.ensures ∙ c.if-has_data.false) c.is_empty.ensures)
    ∙ keyed _ _ (sym c.starts.ensures ∙ c.if-not-starts.false)

pub returns-else-hex : goal.returns-else-hex
returns-else-hex c =
    unless _ _ _ _ (sym c.hex.ensures ∙ c.if-hex.false) c.if-hex.false ∙ keyed _ _ (sym c.starts.ensures ∙ c.if-not-starts.false)
