-- What recording a head or an event wrote fits the buffer that it was lent.
use Rattle.std.specs.Prelude.{Result, Ok, Err}
use Rattle.std.specs.Result.{result_unwrap_or}
use Rattle.common.specs.declared.Refusal.{Refusal}
use Rattle.std.proofs.Common.{◌≡◌, ℕ, ◌+◌, ◌-◌, ◌≤◌, Bool, true, false, not, ltb, ◌∙◌, List, [], ◌∷◌, length, take, drop, refl, arith, length-drop, length-take, ltb-false}
use Rattle.common.specs.Order.{test, first}
use Rattle.common.specs.Answer.{written_of}
use Rattle.trace.specs.Write.{event_text, event_good, event_answer}

by_tests : (k room : ℕ) (b : List ℕ) (bad short : Bool) → ltb room (length b) ≡ short → Ok k ≡ written_of (first (test bad 16 ∷ test short 14 ∷ [])) b → k ≤ room
unfolding first written_of
by_tests k room b true short e w = let z : ◌≡◌ {A = ℕ} 0 1 = cc in absurd (omega arith)
by_tests k room b false true e w = let z : ◌≡◌ {A = ℕ} 0 1 = cc in absurd (omega arith)
by_tests k room b false false e w = let l : k ≡ length b = cc in omega (arith, ltb-false room (length b) e)

event_fits : (k tick kind : ℕ) (bytes : List ℕ) (room : ℕ) → Ok k ≡ written_of (event_answer tick kind bytes room) (event_text tick kind bytes) → k ≤ room
unfolding event_answer
event_fits k tick kind bytes room w =
    by_tests k room (event_text tick kind bytes) (not (event_good kind (length bytes))) (ltb room (length (event_text tick kind bytes))) refl w

-- what was written, or nothing where the call is refused
pub written_within : {k room : ℕ} (w : Result ℕ Refusal) → k ≡ result_unwrap_or w 0 → ((n : ℕ) → Ok n ≡ w → n ≤ room) → k ≤ room
written_within (Ok n) e f = rw e (f n refl)
written_within (Err r) e f = rw e (omega arith)

-- from place at on
pub recorded_fits : {k : ℕ} {w : Result ℕ Refusal} (tick kind : ℕ) (bytes out : List ℕ) (at : ℕ) → at ≤ length out
    → w ≡ written_of (event_answer tick kind bytes (length (take (length out - at) (drop at out)))) (event_text tick kind bytes)
    → k ≡ result_unwrap_or w 0 → at + k ≤ length out
recorded_fits {k} {w} tick kind bytes out at h e u =
    let part = take (length out - at) (drop at out) in
    let f : k ≤ length part = written_within w u (λ n q. event_fits n tick kind bytes (length part) (q ∙ e)) in
    omega (arith, length-take (length out - at) (drop at out), length-drop at out)
