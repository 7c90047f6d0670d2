-- What an outset and the packets of a set determine: the record at the end, from their numbers and lengths alone, and the blocks.
-- Neither looks at an order.
use Rattle.std.specs.Prelude.{ℕ, zero, suc, ◌+◌, Bool, false, cond, ◌||◌, List, [], ◌∷◌, map, eqb, leb, ltb, length}
use Rattle.std.proofs.Math.Option.{Option}
use Rattle.window.specs.Places.{spread}
use Rattle.window.specs.Free.{free}
use Rattle.window.specs.Members.{among, top}
use Rattle.receiver.specs.declared.Hold.{Hold}
use Rattle.receiver.specs.declared.Receiver.{Receiver}
use Rattle.receiver.specs.Record.{State, is_marked, is_held, empty, holding, mark_at, hold_at, contents}
use Rattle.receiver.specs.Packet.{Packet, waived}

-- a packet's numbers and its block's length
pub record Item : Type 0 where
  pub number : ℕ
  pub channel : ℕ
  pub aoa : Option ℕ
  pub length : ℕ

abbrev pub item_of : Packet → Item
item_of p = record { number = p.number; channel = p.channel; aoa = p.aoa; length = length p.block }

-- is n one of the w numbers from b on?
unfoldable pub inside : ℕ → ℕ → ℕ → Bool
inside w b n = cond (leb b n) (ltb n (b + w)) false

-- is number n marked in the record, is block c held?
unfoldable pub marked_in : ℕ → Receiver → ℕ → Bool
marked_in w r n = cond (inside w r.base.0 n) (is_marked (mark_at w r n)) false

unfoldable pub held_in : ℕ → Receiver → ℕ → Bool
held_in w r c = cond (inside w r.due.0 c) (is_held (hold_at w r c)) false

-- received at the outset or by the set, held at the outset or by the set
unfoldable pub seen_by : ℕ → Receiver → List Item → ℕ → Bool
seen_by w r is n = marked_in w r n || among (map (λ (i : Item). i.number) is) n

unfoldable pub has_by : ℕ → Receiver → List Item → ℕ → Bool
has_by w r is c = held_in w r c || among (map (λ (i : Item). i.channel) is) c

-- a block's length, as held at the outset or as the set has it
unfoldable pub length_in : List Item → ℕ → ℕ
length_in [] c = 0
length_in (i ∷ is) c = cond (eqb c i.channel) i.length (length_in is c)

unfoldable pub length_by : ℕ → Receiver → List Item → ℕ → ℕ
length_by w r is c = cond (held_in w r c) (hold_at w r c).length (length_in is c)

-- "AckOfAcks v waives all below v."
unfoldable pub floor_by : Receiver → List Item → ℕ
floor_by r is = top r.base.0 (map (λ (i : Item). waived i.aoa) is)

-- "Base is the lowest data number neither received nor waived"
unfoldable pub base_by : ℕ → Receiver → List Item → ℕ
base_by w r is = free (seen_by w r is) w (floor_by r is)

-- "end is one more than the highest received"
unfoldable pub end_by : Receiver → List Item → ℕ
end_by r is = top r.end.0 (map (λ (i : Item). i.number + 1) is)

-- the first block from due on that neither has
unfoldable pub due_by : ℕ → Receiver → List Item → ℕ
due_by w r is = free (has_by w r is) w r.due.0

-- what the place of a number, and that of a block, holds
abbrev pub mark_by : ℕ → Receiver → List Item → ℕ → ℕ
mark_by w r is n = cond (seen_by w r is n) 1 0

abbrev pub hold_by : ℕ → Receiver → List Item → ℕ → Hold
hold_by w r is c = cond (has_by w r is c) (holding (length_by w r is c)) empty

-- the record
unfoldable pub determined_of : ℕ → Receiver → List Item → Receiver
determined_of w r is =
    record {
      firstdata = r.firstdata;
      firstchannel = r.firstchannel;
      base = record { 0 = base_by w r is };
      end = record { 0 = end_by r is };
      due = record { 0 = due_by w r is };
      marks = spread 0 w (length r.marks) (base_by w r is) (mark_by w r is);
      holds = spread empty w (length r.holds) (due_by w r is) (hold_by w r is);
    }

-- what block c holds: as held at the outset, or as the set brings it
unfoldable pub block_in : List Packet → ℕ → List ℕ
block_in [] c = []
block_in (p ∷ ps) c = cond (eqb c p.channel) p.block (block_in ps c)

unfoldable pub body_by : ℕ → State → List Packet → ℕ → List ℕ
body_by w s ps c = cond (held_in w s.receiver c) (contents w s c) (block_in ps c)

-- k blocks from number c on
unfoldable pub blocks_from : (ℕ → List ℕ) → ℕ → ℕ → List (List ℕ)
blocks_from body c zero = []
blocks_from body c (suc k) = body c ∷ blocks_from body (c + 1) k
