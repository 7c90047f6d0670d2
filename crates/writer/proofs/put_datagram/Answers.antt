-- `writer::put_datagram` meets its contract: each way out is an instance of a law of Framing and Judging and Sizes.
use native.Mathlib.Omega.{arith}
use borrow.Author.Tests.{leb-false}
use Rattle.common.specs.Laid.{laid_as, lays, done, next}
use Rattle.fitting.proofs.Sizes.{datagram_length, packet_length}
use Rattle.writer.proofs.Judging.{accepted, few_flags}
use Rattle.writer.proofs.Framing.{laid_swapped, framed_parts, parts_length}
use Rattle.writer.proofs.put_datagram.Goals as goal

pub lay_byte-at1-requires : goal.lay_byte-at1-requires
lay_byte-at1-requires c = let a = accepted c.args.v c.args.additions.now c.args.vector.now c.args.body.now _ c.requires.value in omega (arith, datagram_length c.args.v c.args.additions.now c.args.vector.now c.args.body.now)

pub put_front-at2-requires : goal.put_front-at2-requires
put_front-at2-requires c = let a = accepted c.args.v c.args.additions.now c.args.vector.now c.args.body.now _ c.requires.value in record { additions_in_bounds = omega (arith, datagram_length c.args.v c.args.additions.now c.args.vector.now c.args.body.now, packet_length c.args.v c.args.additions.now c.args.vector.now c.args.body.now); flags_bound = (few_flags _ a.fit.others, leb-false 16 _ a.fit.window); additions_value = a.fit.ack }

pub put_back-at3-requires : goal.put_back-at3-requires
put_back-at3-requires c = let a = accepted c.args.v c.args.additions.now c.args.vector.now c.args.body.now _ c.requires.value in record { body_in_bounds = omega (arith, datagram_length c.args.v c.args.additions.now c.args.vector.now c.args.body.now, packet_length c.args.v c.args.additions.now c.args.vector.now c.args.body.now); vector_value = a.fit.vector }

pub put_zeros-end-requires : goal.put_zeros-end-requires
put_zeros-end-requires c = let a = accepted c.args.v c.args.additions.now c.args.vector.now c.args.body.now _ c.requires.value in omega (arith, datagram_length c.args.v c.args.additions.now c.args.vector.now c.args.body.now, packet_length c.args.v c.args.additions.now c.args.vector.now c.args.body.now)

pub exchange-requires : goal.exchange-requires
exchange-requires c = let a = accepted c.args.v c.args.additions.now c.args.vector.now c.args.body.now _ c.requires.value in omega (arith, datagram_length c.args.v c.args.additions.now c.args.vector.now c.args.body.now)

pub returns : goal.returns
returns c = let a = accepted c.args.v c.args.additions.now c.args.vector.now c.args.body.now _ c.requires.value in
    let l = parts_length c.args.v c.args.additions.now c.args.vector.now c.args.body.now c.args.k c.prefix_for.result c.requires.k_value in
    laid_as (framed_parts c.args.v c.args.additions.now c.args.vector.now c.args.body.now _ _ c.requires.k_value c.prefix_for.ensures)
    (laid_swapped _ _ _ _ _ (omega (arith, l))
    (lays (next c.lay_byte-at1.ensures (next c.put_front-at2.ensures (next c.put_back-at3.ensures (next c.put_zeros-end.ensures done)))) (omega (arith, l, a.roomy, datagram_length c.args.v c.args.additions.now c.args.vector.now c.args.body.now, c.requires.k_value)))
    c.exchange.ensures)
