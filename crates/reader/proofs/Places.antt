-- Where each payload of a packet stands.
use Prim.Native.Nat.{ℕ, ◌+◌}
use mathlib.Core.List.{List}
use mathlib.Core.Path.{◌≡◌, ◌∙◌, ap}
use mathlib.Core.Bool.{Bool, cond}
use Rattle.wire.specs.Flags.{ack_in, data_in, vector_in, aoa_in, overhead_in, delay_in}
use Rattle.wire.specs.Layout.{sized, ack_size, vector_size, ack_end, overhead_end, delay_end, aoa_end, number_end, vector_end, channel_end, Places}

-- place after place, each from the one before
pub places_made : (p : List ℕ) (f at1 at2 at3 at4 at5 at6 : ℕ) (a x : Bool) → a ≡ ack_in f → x ≡ vector_in f
    → at1 ≡ 3 + sized a (ack_size p 3) → at2 ≡ at1 + sized (overhead_in f) 1 → at3 ≡ at2 + sized (delay_in f) 3
    → at4 ≡ at3 + sized (aoa_in f) 2 → at5 ≡ at4 + sized (data_in f) 2 → at6 ≡ at5 + sized x (vector_size p at5)
    → Places p f at1 at2 at3 at4 at5 at6
unfolding ack_end overhead_end delay_end aoa_end number_end vector_end
places_made p f at1 at2 at3 at4 at5 at6 a x ea ex e1 e2 e3 e4 e5 e6 =
    let p1 : at1 ≡ ack_end p f = e1 ∙ ap (λ (b : Bool). 3 + sized b (ack_size p 3)) ea in
    let p2 : at2 ≡ overhead_end p f = e2 ∙ ap (λ (n : ℕ). n + sized (overhead_in f) 1) p1 in
    let p3 : at3 ≡ delay_end p f = e3 ∙ ap (λ (n : ℕ). n + sized (delay_in f) 3) p2 in
    let p4 : at4 ≡ aoa_end p f = e4 ∙ ap (λ (n : ℕ). n + sized (aoa_in f) 2) p3 in
    let p5 : at5 ≡ number_end p f = e5 ∙ ap (λ (n : ℕ). n + sized (data_in f) 2) p4 in
    let p6 : at6 ≡ vector_end p f = e6 ∙ ap (λ (b : Bool). at5 + sized b (vector_size p at5)) ex ∙ ap (λ (n : ℕ). n + sized (vector_in f) (vector_size p n)) p5 in
    record { ack = p1; overhead = p2; delay = p3; aoa = p4; number = p5; vector = p6 }

pub place_last : (p : List ℕ) (f at6 at7 : ℕ) → at6 ≡ vector_end p f → at7 ≡ at6 + sized (data_in f) 2 → at7 ≡ channel_end p f
unfolding channel_end
place_last p f at6 at7 e6 e7 = e7 ∙ ap (λ (n : ℕ). n + sized (data_in f) 2) e6

-- what was read under a flag at a place, under the same flag at the same place by other names
pub moved : {A : Type 0} (g : ℕ → A) (z x : A) (b c : Bool) (at k : ℕ) → x ≡ cond b (g at) z → b ≡ c → at ≡ k → x ≡ cond c (g k) z
moved g z x b c at k e t q = e ∙ ap (λ (s : Bool). cond s (g at) z) t ∙ ap (λ (n : ℕ). cond c (g n) z) q
