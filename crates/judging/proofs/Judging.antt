-- Judging what a packet's values bring, a law for each way out.
use Rattle.std.specs.Prelude.{Option as Found, Some, None, Ok, Err}
use Prim.Native.Nat.{ℕ, ◌+◌, ◌≤◌, ◌<◌, max}
use mathlib.Core.Bool.{Bool, true, false}
use mathlib.Core.Option.{Option, none, some}
use mathlib.Core.List.{List, [], ◌∷◌}
use mathlib.Core.Path.{◌≡◌, refl, sym, ◌∙◌, ap}
use native.Mathlib.Omega.{arith}
use lib.Dec.{leb, ltb}
use borrow.Author.Tests.{lt-ltb, le-ltb, lt-leb, le-leb, ne_eqb}
use Rattle.common.specs.declared.Refusal.{Refusal}
use Rattle.common.specs.declared.Refusal.TheVariants.{OutOfPlace}
use Rattle.common.specs.Answer.{refusal_of, settled, answered_of, answered_passed, settled_accepted, settled_err}
use Rattle.common.specs.Order.{test, first, first_here, first_skip, first_none}
use Rattle.numbers.specs.Full.{highest}
use Rattle.wire.specs.declared.Values.{Values}
use Rattle.wire.specs.Flags.{data_in, aoa_in}
use Rattle.numbers.specs.declared.DataNumber.{DataNumber}
use Rattle.numbers.specs.declared.ChannelNumber.{ChannelNumber}
use Rattle.numbers.specs.Widen.{widen_of, data_of, channel_of}
use Rattle.receiver.specs.declared.Receiver.{Receiver}
use Rattle.judging.specs.declared.Arrived.TheVariants.{Nothing, Waiver, Content}
use Rattle.receiver.specs.Packet.{Packet, content, waived, numbers_answer, arrival_answer}
use Rattle.receiver.specs.Receive.{in_place, on_some, if_flagged, data_number, channel_number, aoa_number, packet_from, waiver_from, arrival_from}
use Rattle.judging.specs.Judge.{found_as, waived_at, judged_for, judged_of}

-- A PACKET'S NUMBERS

pub numbers_waived : (w base due v n c : ℕ) → highest < v → 7 ≡ numbers_answer w base due v n c
unfolding numbers_answer
numbers_waived w base due v n c h = first_here _ _ _ (lt-ltb highest v h)

pub numbers_over : (w base due v n c : ℕ) → v ≤ highest → highest < n → 7 ≡ numbers_answer w base due v n c
unfolding numbers_answer
numbers_over w base due v n c hv h = first_here _ _ _ (lt-ltb highest n h) ∙ first_skip _ _ _ (le-ltb highest v hv)

pub numbers_far : (w base due v n c b : ℕ) → v ≤ highest → n ≤ highest → b ≡ max base v → b + w ≤ n → 7 ≡ numbers_answer w base due v n c
unfolding numbers_answer
numbers_far w base due v n c b hv hn e h =
    first_here _ _ _ (le-leb (max base v + w) n (omega arith)) ∙ first_skip _ _ _ (le-ltb highest n hn) ∙ first_skip _ _ _ (le-ltb highest v hv)

module _ (w base due v n c b : ℕ) (hv : v ≤ highest) (hn : n ≤ highest) (e : b ≡ max base v) (h : n < b + w) where
  rest : {k : ℕ} → k ≡ first (test (ltb highest c) 7 ∷ test (leb (due + w) c) 7 ∷ []) → k ≡ numbers_answer w base due v n c
  unfolding numbers_answer
  rest q =
      q ∙ first_skip _ _ _ (lt-leb (max base v + w) n (omega arith)) ∙ first_skip _ _ _ (le-ltb highest n hn) ∙ first_skip _ _ _ (le-ltb highest v hv)

  pub numbers_high : highest < c → 7 ≡ numbers_answer w base due v n c
  numbers_high l = rest (first_here _ _ _ (lt-ltb highest c l))

  pub numbers_beyond : c ≤ highest → due + w ≤ c → 7 ≡ numbers_answer w base due v n c
  numbers_beyond l m = rest (first_here _ _ _ (le-leb (due + w) c m) ∙ first_skip _ _ _ (le-ltb highest c l))

  pub numbers_pass : c ≤ highest → c < due + w → 0 ≡ numbers_answer w base due v n c
  numbers_pass l m = rest (first_none ∙ first_skip _ _ _ (lt-leb (due + w) c m) ∙ first_skip _ _ _ (le-ltb highest c l))

-- WHAT WAS FOUND

-- the number that was found, where one was
abbrev found_full : {N : Type 0} → (N → ℕ) → Found N → ℕ
found_full full None = 0
found_full full (Some n) = full n

told_none : {N : Type 0} (of : ℕ → N) (x : Option ℕ) (f : Found N) → f ≡ found_as of x → f ≡ None → x ≡ none
unfolding found_as
told_none of none f e h = refl
told_none of (some n) f e h = cc

told_some : {N : Type 0} (full : N → ℕ) (of : ℕ → N) → ((n : ℕ) → full (of n) ≡ n) → (x : Option ℕ) (f : Found N) (n : N)
    → f ≡ found_as of x → f ≡ Some n → x ≡ some (full n)
unfolding found_as
told_some full of back none f n e h = cc
told_some full of back (some m) f n e h = ap some (sym (back m) ∙ ap (found_full full) (sym e ∙ h))

-- a field seen from base, and one seen from due
abbrev from_base : Receiver → ℕ → Option ℕ
from_base r f = in_place r.firstdata.0 (widen_of r.base.0 f)

abbrev from_due : Receiver → ℕ → Option ℕ
from_due r f = in_place r.firstchannel.0 (widen_of r.due.0 f)

data_none : (r : Receiver) (f : ℕ) (x : Found DataNumber) → x ≡ found_as data_of (from_base r f) → x ≡ None → data_number r f ≡ none
unfolding data_number
data_none r f x e h = told_none data_of (from_base r f) x e h

data_some : (r : Receiver) (f : ℕ) (x : Found DataNumber) (n : ℕ) → x ≡ found_as data_of (from_base r f) → x ≡ Some (data_of n) → data_number r f ≡ some n
unfolding data_number
data_some r f x n e h = told_some (λ m. m.0) data_of (λ m. refl) (from_base r f) x (data_of n) e h

channel_none : (r : Receiver) (f : ℕ) (x : Found ChannelNumber) → x ≡ found_as channel_of (from_due r f) → x ≡ None → channel_number r f ≡ none
unfolding channel_number
channel_none r f x e h = told_none channel_of (from_due r f) x e h

channel_some : (r : Receiver) (f : ℕ) (x : Found ChannelNumber) (c : ℕ) → x ≡ found_as channel_of (from_due r f) → x ≡ Some (channel_of c) → channel_number r f ≡ some c
unfolding channel_number
channel_some r f x c e h = told_some (λ m. m.0) channel_of (λ m. refl) (from_due r f) x (channel_of c) e h

-- an AckOfAcks where it is flagged
waived_out : (x : Option (Option ℕ)) (f : Found DataNumber) → f ≡ waived_at x → f ≡ None → x ≡ none
unfolding waived_at
waived_out none f e h = refl
waived_out (some a) f e h = cc

waived_told : (x : Option (Option ℕ)) (f : Found DataNumber) (u : ℕ) → f ≡ waived_at x → f ≡ Some (data_of u) → (a : Option ℕ) × (x ≡ some a) × (u ≡ waived a)
unfolding waived_at
waived_told none f u e h = absurd (let z : ◌≡◌ {A = ℕ} 0 1 = cc in omega arith)
waived_told (some a) f u e h = (a, refl, ap (found_full (λ (m : DataNumber). m.0)) (sym h ∙ e))

aoa_none : (r : Receiver) (flag : Bool) (f : ℕ) (x : Found DataNumber) → x ≡ waived_at (if_flagged flag (from_base r f)) → x ≡ None → aoa_number r flag f ≡ none
unfolding data_number
aoa_none r flag f x e h = waived_out (aoa_number r flag f) x e h

aoa_some : (r : Receiver) (flag : Bool) (f : ℕ) (x : Found DataNumber) (u : ℕ) → x ≡ waived_at (if_flagged flag (from_base r f)) → x ≡ Some (data_of u)
    → (a : Option ℕ) × (aoa_number r flag f ≡ some a) × (u ≡ waived a)
unfolding data_number
aoa_some r flag f x u e h = waived_told (aoa_number r flag f) x u e h

-- A PACKET OF DATA

-- its numbers put together
abbrev made : Option (Option ℕ) → Option ℕ → Option ℕ → List ℕ → Option Packet
made a n c b = on_some a λ a. on_some n λ n. on_some c λ c. some (record { number = n; channel = c; aoa = a; block = b })

-- the packet judged, with no block
abbrev bare : ℕ → ℕ → Option ℕ → Packet
bare n c a = record { number = n; channel = c; aoa = a; block = [] }

made_number : (a : Option (Option ℕ)) (c : Option ℕ) (b : List ℕ) → made a none c b ≡ none
unfolding on_some
made_number none c b = refl
made_number (some a) c b = refl

made_channel : (a : Option (Option ℕ)) (n : Option ℕ) (b : List ℕ) → made a n none b ≡ none
unfolding on_some
made_channel none n b = refl
made_channel (some a) none b = refl
made_channel (some a) (some n) b = refl

judged_none : (w : ℕ) (r : Receiver) (v : Values) → data_in v.flags ≡ true → packet_from r v [] ≡ none → Err OutOfPlace ≡ judged_of w r v
unfolding judged_of arrival_from on_some
judged_none w r v d e = rw (d, e) refl

judged_some : (w : ℕ) (r : Receiver) (v : Values) (p : Packet) → data_in v.flags ≡ true → packet_from r v [] ≡ some p
    → judged_for w r (some (content p)) ≡ judged_of w r v
unfolding judged_of arrival_from on_some
judged_some w r v p d e = rw (d, e) refl

module _ (w : ℕ) (r : Receiver) (v : Values) (d : data_in v.flags ≡ true) where
  pub content_waived : (flag : Bool) (x : Found DataNumber) → flag ≡ aoa_in v.flags → x ≡ waived_at (if_flagged flag (from_base r v.aoa)) → x ≡ None
      → Err OutOfPlace ≡ judged_of w r v
  unfolding packet_from on_some
  content_waived flag x f e h =
      let q : aoa_number r (aoa_in v.flags) v.aoa ≡ none = rw f at (aoa_none r flag v.aoa x e h) in
      judged_none w r v d (rw q refl)

  pub content_number : (x : Found DataNumber) → x ≡ found_as data_of (from_base r v.number) → x ≡ None → Err OutOfPlace ≡ judged_of w r v
  unfolding packet_from
  content_number x e h =
      judged_none w r v d
      (ap (λ (n : Option ℕ). made (aoa_number r (aoa_in v.flags) v.aoa) n (channel_number r v.channel) []) (data_none r v.number x e h)
      ∙ made_number (aoa_number r (aoa_in v.flags) v.aoa) (channel_number r v.channel) [])

  pub content_channel : (x : Found ChannelNumber) → x ≡ found_as channel_of (from_due r v.channel) → x ≡ None → Err OutOfPlace ≡ judged_of w r v
  unfolding packet_from
  content_channel x e h =
      judged_none w r v d
      (ap (λ (c : Option ℕ). made (aoa_number r (aoa_in v.flags) v.aoa) (data_number r v.number) c []) (channel_none r v.channel x e h)
      ∙ made_channel (aoa_number r (aoa_in v.flags) v.aoa) (data_number r v.number) [])

  module _ (flag : Bool) (x y : Found DataNumber) (z : Found ChannelNumber) (u n c : ℕ) (f : flag ≡ aoa_in v.flags)
      (ex : x ≡ waived_at (if_flagged flag (from_base r v.aoa))) (hx : x ≡ Some (data_of u))
      (ey : y ≡ found_as data_of (from_base r v.number)) (hy : y ≡ Some (data_of n))
      (ez : z ≡ found_as channel_of (from_due r v.channel)) (hz : z ≡ Some (channel_of c)) where
    found : (a : Option ℕ) × (aoa_number r (aoa_in v.flags) v.aoa ≡ some a) × (u ≡ waived a)
    found = aoa_some r (aoa_in v.flags) v.aoa x u (ex ∙ ap (λ (t : Bool). waived_at (if_flagged t (from_base r v.aoa))) f) hx

    put_together : (a : Option ℕ) → aoa_number r (aoa_in v.flags) v.aoa ≡ some a → packet_from r v [] ≡ some (bare n c a)
    unfolding packet_from on_some
    put_together a q = rw (q, data_some r v.number y n ey hy, channel_some r v.channel z c ez hz) refl

    -- it is judged by its numbers
    abbrev by_numbers : ℕ
    by_numbers = numbers_answer w r.base.0 r.due.0 u n c

    answered : settled by_numbers (Content (record { 0 = n }) (record { 0 = c }) (record { 0 = u })) ≡ judged_of w r v
    unfolding arrival_answer
    answered =
        ap (λ (m : ℕ). settled (numbers_answer w r.base.0 r.due.0 m n c) (Content (record { 0 = n }) (record { 0 = c }) (record { 0 = m }))) found.2
        ∙ judged_some w r v (bare n c found.0) d (put_together found.0 found.1)

    pub content_refused : (e : Refusal) → Err e ≡ answered_of by_numbers → Err e ≡ judged_of w r v
    unfolding answered_of
    content_refused e h =
        let (z, q) = settled_err e by_numbers tt h in
        rw (ne_eqb by_numbers 0 z, ← q) at answered

    pub content_accepted : (k : Unit {0}) → Ok k ≡ answered_of by_numbers
        → Ok (Content (record { 0 = n }) (record { 0 = c }) (record { 0 = u })) ≡ judged_of w r v
    content_accepted k h = settled_accepted by_numbers _ (answered_passed k by_numbers h) ∙ answered

-- NO DATA

module _ (w : ℕ) (r : Receiver) (v : Values) (b : Bool) (eb : b ≡ data_in v.flags) (d : b ≡ false) where
  judged_waiver : judged_for w r (waiver_from r v) ≡ judged_of w r v
  unfolding judged_of arrival_from
  judged_waiver = let q : data_in v.flags ≡ false = sym eb ∙ d in rw q refl

  pub waiver_absent : (f : Bool) → f ≡ aoa_in v.flags → f ≡ false → Ok Nothing ≡ judged_of w r v
  unfolding waiver_from arrival_answer
  waiver_absent f e h = let q : aoa_in v.flags ≡ false = sym e ∙ h in rw q at judged_waiver

  module _ (f : Bool) (ef : f ≡ aoa_in v.flags) (hf : f ≡ true) (x : Found DataNumber) (ex : x ≡ found_as data_of (from_base r v.aoa)) where
    pub waiver_out : x ≡ None → Err OutOfPlace ≡ judged_of w r v
    unfolding waiver_from on_some
    waiver_out h =
        let q : aoa_in v.flags ≡ true = sym ef ∙ hf in
        rw (q, data_none r v.aoa x ex h) at judged_waiver

    pub waiver_high : (u : ℕ) → x ≡ Some (data_of u) → highest < u → Err OutOfPlace ≡ judged_of w r v
    unfolding waiver_from on_some arrival_answer first refusal_of
    waiver_high u h l =
        let q : aoa_in v.flags ≡ true = sym ef ∙ hf in
        rw (q, data_some r v.aoa x u ex h, lt-ltb highest u l) at judged_waiver

    pub waiver_given : (u : ℕ) → x ≡ Some (data_of u) → u ≤ highest → Ok (Waiver (record { 0 = u })) ≡ judged_of w r v
    unfolding waiver_from on_some arrival_answer first
    waiver_given u h l =
        let q : aoa_in v.flags ≡ true = sym ef ∙ hf in
        rw (q, data_some r v.aoa x u ex h, le-ltb highest u l) at judged_waiver
