-- What an accepted judgement tells: its numbers lie in the full range, and a block comes with DATA only.
use Rattle.std.specs.Prelude.{Ok}
use Prim.Native.Nat.{ℕ, ◌≤◌}
use mathlib.Core.Bool.{Bool, true, false, cond}
use mathlib.Core.List.{[]}
use mathlib.Core.Option.{Option, none, some}
use mathlib.Core.Path.{◌≡◌, refl, sym, ◌∙◌, ap}
use native.Mathlib.Omega.{arith}
use lib.Dec.{ltb}
use borrow.Author.Tests.{ltb-false}
use Rattle.common.specs.Answer.{settled_ok}
use Rattle.common.specs.Order.{first_pass}
use Rattle.numbers.specs.Full.{highest}
use Rattle.wire.specs.declared.Values.{Values}
use Rattle.wire.specs.Flags.{data_in, aoa_in}
use Rattle.receiver.specs.declared.Receiver.{Receiver}
use Rattle.judging.specs.declared.Arrived.{Arrived}
use Rattle.judging.specs.declared.Arrived.TheVariants.{Nothing, Waiver, Content}
use Rattle.receiver.specs.Packet.{Packet, Arrival, nothing, waiver, content, waived, numbers_answer, packet_answer, arrival_answer}
use Rattle.receiver.specs.Receive.{on_some, data_number, packet_from, waiver_from, arrival_from}
use Rattle.judging.specs.Judge.{judged_for, judged_of, numbers_in}

-- the numbers of what was judged, where it has them
abbrev waived_to : Arrived → ℕ
waived_to Nothing = 0
waived_to (Waiver v) = v.0
waived_to (Content n c v) = v.0

abbrev number_in : Arrived → ℕ
number_in Nothing = 0
number_in (Waiver v) = 0
number_in (Content n c v) = n.0

-- an AckOfAcks alone
waiver_low : (w : ℕ) (r : Receiver) (o : Option Arrival) (v : ℕ) → judged_for w r o ≡ Ok (Waiver (record { 0 = v })) → v ≤ highest
unfolding arrival_answer
waiver_low w r none v e = absurd (let z : ◌≡◌ {A = ℕ} 0 1 = cc in omega arith)
waiver_low w r (some a) v e = go a (settled_ok _ _ _ (sym e))
  where
    go : (a : Arrival) → (0 ≡ arrival_answer w r a) × (Waiver (record { 0 = v }) ≡ numbers_in a) → v ≤ highest
    go nothing (h, q) = absurd (let z : ◌≡◌ {A = ℕ} 0 1 = cc in omega arith)
    go (waiver u) (h, q) =
        let l = ltb-false highest u (first_pass (ltb highest u) 7 [] (omega arith) h).0 in
        let m : v ≡ u = ap waived_to q in
        omega arith
    go (content p) (h, q) = absurd (let z : ◌≡◌ {A = ℕ} 0 1 = cc in omega arith)

pub waiver_told : (w : ℕ) (r : Receiver) (x : Values) (a : Arrived) (v : ℕ) → judged_of w r x ≡ Ok a → a ≡ Waiver (record { 0 = v }) → v ≤ highest
unfolding judged_of
waiver_told w r x a v e h = waiver_low w r (arrival_from r x []) v (e ∙ ap Ok h)

-- a packet of data
packet_low : (w : ℕ) (r : Receiver) (p : Packet) → 0 ≡ packet_answer w r p → (p.number ≤ highest) × (waived p.aoa ≤ highest)
unfolding numbers_answer
packet_low w r p h =
    let (a, h1) = first_pass (ltb highest (waived p.aoa)) 7 _ (omega arith) h in
    let (b, h2) = first_pass (ltb highest p.number) 7 _ (omega arith) h1 in
    (ltb-false highest p.number b, ltb-false highest (waived p.aoa) a)

content_low : (w : ℕ) (r : Receiver) (o : Option Arrival) (n c v : ℕ)
    → judged_for w r o ≡ Ok (Content (record { 0 = n }) (record { 0 = c }) (record { 0 = v }))
    → (n ≤ highest) × (v ≤ highest)
unfolding arrival_answer
content_low w r none n c v e = absurd (let z : ◌≡◌ {A = ℕ} 0 1 = cc in omega arith)
content_low w r (some a) n c v e = go a (settled_ok _ _ _ (sym e))
  where
    go : (a : Arrival) → (0 ≡ arrival_answer w r a) × (Content (record { 0 = n }) (record { 0 = c }) (record { 0 = v }) ≡ numbers_in a)
        → (n ≤ highest) × (v ≤ highest)
    go nothing (h, q) = absurd (let z : ◌≡◌ {A = ℕ} 0 1 = cc in omega arith)
    go (waiver u) (h, q) = absurd (let z : ◌≡◌ {A = ℕ} 0 1 = cc in omega arith)
    go (content p) (h, q) =
        let (m, l) = packet_low w r p h in
        let k : n ≡ p.number = ap number_in q in
        let j : v ≡ waived p.aoa = ap waived_to q in
        (omega arith, omega arith)

pub content_told : (w : ℕ) (r : Receiver) (x : Values) (a : Arrived) (n c v : ℕ) → judged_of w r x ≡ Ok a
    → a ≡ Content (record { 0 = n }) (record { 0 = c }) (record { 0 = v })
    → (n ≤ highest) × (v ≤ highest)
unfolding judged_of
content_told w r x a n c v e h = content_low w r (arrival_from r x []) n c v (e ∙ ap Ok h)

waiver_only : (w : ℕ) (r : Receiver) (flag : Bool) (x : Option ℕ) (n c v : ℕ)
    → judged_for w r (cond flag (on_some x (λ m. some (waiver m))) (some nothing))
    ≡ Ok (Content (record { 0 = n }) (record { 0 = c }) (record { 0 = v }))
    → ⊥
unfolding on_some
waiver_only w r true none n c v e = let z : ◌≡◌ {A = ℕ} 0 1 = cc in omega arith
waiver_only w r true (some u) n c v e = let q = (settled_ok _ _ _ (sym e)).1 in let z : ◌≡◌ {A = ℕ} 0 1 = cc in omega arith
waiver_only w r false x n c v e = let q = (settled_ok _ _ _ (sym e)).1 in let z : ◌≡◌ {A = ℕ} 0 1 = cc in omega arith

pub content_data : (w : ℕ) (r : Receiver) (x : Values) (a : Arrived) (n c v : ℕ) → judged_of w r x ≡ Ok a
    → a ≡ Content (record { 0 = n }) (record { 0 = c }) (record { 0 = v })
    → data_in x.flags ≡ true
unfolding judged_of arrival_from waiver_from
content_data w r x a n c v e h = go (data_in x.flags) refl (e ∙ ap Ok h)
  where
    go : (t : Bool) → data_in x.flags ≡ t
        → judged_for w r (cond t (on_some (packet_from r x []) (λ p. some (content p)))
        (cond (aoa_in x.flags) (on_some (data_number r x.aoa) (λ m. some (waiver m))) (some nothing)))
        ≡ Ok (Content (record { 0 = n }) (record { 0 = c }) (record { 0 = v }))
        → data_in x.flags ≡ true
    go true q k = q
    go false q k = absurd (waiver_only w r (aoa_in x.flags) (data_number r x.aoa) n c v k)
