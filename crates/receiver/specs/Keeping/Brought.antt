-- What a datagram's values bring the receiver.
use Rattle.std.specs.Prelude.{ℕ, ◌≤◌, Bool, true, false, cond, List, ◌≡◌, refl, length}
use Rattle.std.proofs.Math.Option.{Option, none, some}
use Rattle.std.proofs.Common.{sym, ap, subst, arith}
use Rattle.window.specs.Store.{place_size}
use Rattle.wire.specs.declared.Values.{Values}
use Rattle.wire.specs.Flags.{data_in, aoa_in}
use Rattle.receiver.specs.declared.Receiver.{Receiver}
use Rattle.receiver.specs.Packet.{Packet, Arrival, nothing, waiver, content}
use Rattle.receiver.specs.Receive.{on_some, aoa_number, data_number, channel_number, packet_from, waiver_from, arrival_from}

pub on_some_lem : {A B : Type 0} (o : Option A) (f : A → Option B) (b : B) → on_some o f ≡ some b → (a : A) × (o ≡ some a) × (f a ≡ some b)
unfolding on_some
on_some_lem none f b e = absurd (let z : ◌≡◌ {A = ℕ} 0 1 = cc in omega arith)
on_some_lem (some a) f b e = (a, refl, e)

pub some_once : {A : Type 0} (a b : A) → some a ≡ some b → a ≡ b
some_once a b e = cc

-- What a packet's values bring has the block that they came with.
pub packet_block : (r : Receiver) (v : Values) (block : List ℕ) (p : Packet) → packet_from r v block ≡ some p → p.block ≡ block
unfolding packet_from
packet_block r v block p e =
    let (a, ea, e1) = on_some_lem (aoa_number r (aoa_in v.flags) v.aoa) _ p e in
    let (n, en, e2) = on_some_lem (data_number r v.number) _ p e1 in
    let (c, ec, e3) = on_some_lem (channel_number r v.channel) _ p e2 in
    ap (λ (x : Packet). x.block) (sym (some_once _ p e3))

-- a block fits into its place
abbrev pub Short : Arrival → Type 0
Short nothing = Unit {0}
Short (waiver v) = Unit {0}
Short (content p) = length p.block ≤ place_size

no_block : (r : Receiver) (v : Values) (a : Arrival) → waiver_from r v ≡ some a → Short a
unfolding waiver_from
no_block r v a e = go (aoa_in v.flags) e
  where
    go : (b : Bool) → cond b (on_some (data_number r v.aoa) (λ n. some (waiver n))) (some nothing) ≡ some a → Short a
    go true q =
        let (n, en, ea) = on_some_lem (data_number r v.aoa) (λ n. some (waiver n)) a q in
        subst Short (some_once (waiver n) a ea) tt
    go false q = subst Short (some_once nothing a q) tt

pub brought_short : (r : Receiver) (v : Values) (block : List ℕ) → (data_in v.flags ≡ true → length block ≤ place_size)
    → (a : Arrival) → arrival_from r v block ≡ some a → Short a
unfolding arrival_from
brought_short r v block f a e = go (data_in v.flags) refl e
  where
    go : (b : Bool) → data_in v.flags ≡ b → cond b (on_some (packet_from r v block) (λ p. some (content p))) (waiver_from r v) ≡ some a → Short a
    go true t q =
        let (p, ep, ea) = on_some_lem (packet_from r v block) (λ p. some (content p)) a q in
        subst Short (some_once (content p) a ea)
        (subst (λ (x : List ℕ). length x ≤ place_size) (sym (packet_block r v block p ep)) (f t))
    go false t q = no_block r v a q
