-- The values of a listing: "Absent is `-`. ack= gives number, time, gap, n, scale; delay= maximum, timeout; vec= base, size, time or `-`,
-- separated by commas." Every number is in decimal.
use Rattle.std.specs.Prelude.{ℕ, Bool, cond, List}
use Rattle.text.specs.Ascii.{ascii}
use Rattle.text.specs.Decimal.{decimal_of}
use Rattle.text.specs.Lines.{comma}
use Rattle.wire.specs.declared.Ack.{Ack}
use Rattle.wire.specs.declared.Delay.{Delay}
use Rattle.wire.specs.declared.Vector.{Vector}

-- "Absent is `-`."
abbrev pub or_dash : Bool → List ℕ → List ℕ
or_dash present value = cond present value (ascii "-")

-- "ack= gives number, time, gap, n, scale"
abbrev pub ack_text : Ack → List ℕ
ack_text a =
    comma (decimal_of a.number)
    (comma (decimal_of a.time) (comma (decimal_of a.gap) (comma (decimal_of a.count) (decimal_of a.scale))))

-- "delay= maximum, timeout"
abbrev pub delay_text : Delay → List ℕ
delay_text y = comma (decimal_of y.most) (decimal_of y.timeout)

-- "vec= base, size, time or `-`"
abbrev pub vector_text : Vector → List ℕ
vector_text x = comma (decimal_of x.base) (comma (decimal_of x.size) (or_dash x.timed (decimal_of x.time)))
