-- The window of marks, a law for each way out of the functions that move it.
use Prim.Native.Nat.{ℕ, zero, suc, ◌+◌, ◌%◌, ◌≤◌, ◌<◌, max}
use mathlib.Core.Bool.{true, false}
use mathlib.Core.Path.{◌≡◌, refl, sym, ◌∙◌, ap}
use native.Mathlib.Omega.{arith}
use lib.ListN.{get_or, set}
use borrow.Author.Tests.{lt-ltb, le-ltb, eq-eqb, ne_eqb}
use Rattle.window.specs.Window.{Win, cleared, lifted, slid}
use Rattle.receiver.specs.Record.{is_marked}
use Rattle.receiver.specs.Packet.{marked}

-- base moved up by one, and the place that it leaves cleared; base set
abbrev pub passed_at : Win ℕ → ℕ → Win ℕ
passed_at m at = record { base = m.base + 1; places = set m.places at 0 }

abbrev pub with_base : Win ℕ → ℕ → Win ℕ
with_base m b = record { base = b; places = m.places }

-- ALL BELOW V IS WAIVED

pub cleared_more : (w n k v : ℕ) (m : Win ℕ) (at : ℕ) (g : Win ℕ) → n ≡ suc k → at ≡ m.base % w → m.base < v
    → cleared 0 w n v m ≡ g → cleared 0 w k v (passed_at m at) ≡ g
unfolding cleared
cleared_more w n k v m at g e a l inv = rw (e, lt-ltb m.base v l, ← a) at inv

cleared_stop : (w n v : ℕ) (m : Win ℕ) → v ≤ m.base → cleared 0 w n v m ≡ m
unfolding cleared
cleared_stop w zero v m l = refl
cleared_stop w (suc n) v m l = rw (le-ltb m.base v l) refl

cleared_none : (w n v : ℕ) (m : Win ℕ) → n ≡ 0 → cleared 0 w n v m ≡ m
unfolding cleared
cleared_none w n v m e = rw e refl

lift_ends : (w v : ℕ) (q m : Win ℕ) (b : ℕ) → q ≡ cleared 0 w w v m → b ≡ max q.base v → with_base q b ≡ lifted 0 w v m
unfolding lifted
lift_ends w v q m b e f =
    ap (λ (x : ℕ). with_base q x) f ∙ ap (λ (x : Win ℕ). record { base = max x.base v; places = x.places }) e

pub lift_early : (w n v : ℕ) (q m : Win ℕ) → cleared 0 w n v q ≡ cleared 0 w w v m → v ≤ q.base → q ≡ lifted 0 w v m
lift_early w n v q m inv l = lift_ends w v q m q.base (sym (cleared_stop w n v q l) ∙ inv) (omega arith)

pub lift_done : (w n v : ℕ) (q m : Win ℕ) (b : ℕ) → cleared 0 w n v q ≡ cleared 0 w w v m → n ≡ 0 → b ≡ max q.base v
    → with_base q b ≡ lifted 0 w v m
lift_done w n v q m b inv e f = lift_ends w v q m b (sym (cleared_none w n v q e) ∙ inv) f

-- A NUMBER IS MARKED

pub mark_below : (w : ℕ) (m : Win ℕ) (n : ℕ) → n < m.base → m ≡ marked w m n
unfolding marked
mark_below w m n l = rw (lt-ltb n m.base l) refl

pub mark_within : (w : ℕ) (m : Win ℕ) (n at : ℕ) → m.base ≤ n → at ≡ n % w
    → record { base = m.base; places = set m.places at 1 } ≡ marked w m n
unfolding marked
mark_within w m n at l a = rw (le-ltb n m.base l, a) refl

-- BASE MOVES PAST MARKED PLACES

pub slid_more : (w n k : ℕ) (m : Win ℕ) (at : ℕ) (g : Win ℕ) → n ≡ suc k → at ≡ m.base % w → get_or m.places at 0 ≡ 1
    → slid 0 w is_marked n m ≡ g → slid 0 w is_marked k (passed_at m at) ≡ g
unfolding slid
slid_more w n k m at g e a t inv =
    let u : is_marked (get_or m.places (m.base % w) 0) ≡ true = eq-eqb (get_or m.places (m.base % w) 0) 1 (rw a at t) in
    rw (e, u, ← a) at inv

pub slid_stop : (w n : ℕ) (m : Win ℕ) (at : ℕ) (g : Win ℕ) → at ≡ m.base % w → (get_or m.places at 0 ≡ 1 → ⊥)
    → slid 0 w is_marked n m ≡ g → m ≡ g
unfolding slid
slid_stop w zero m at g a t inv = inv
slid_stop w (suc n) m at g a t inv =
    let u : is_marked (get_or m.places (m.base % w) 0) ≡ false = ne_eqb (get_or m.places (m.base % w) 0) 1 (rw a at t) in
    rw u at inv

pub slid_done : (w n : ℕ) (m : Win ℕ) (g : Win ℕ) → n ≡ 0 → slid 0 w is_marked n m ≡ g → m ≡ g
unfolding slid
slid_done w n m g e inv = rw e at inv
