-- The worked examples P1 to P12 of document 01, as one statement over one list of cases.
use Rattle.std.specs.Prelude.{ℕ, zero, suc, ◌+◌, ◌-◌, Bool, true, false, cond, List, [], ◌∷◌, ◌++◌, ◌≡◌, refl, length, replicate}
use Rattle.common.specs.Order.{first}
use Rattle.numbers.specs.declared.Widened.{Widened}
use Rattle.numbers.specs.declared.Widened.TheVariants.{At, Below, Unclear}
use Rattle.numbers.specs.Widen.{widen_of, out_of}
use Rattle.numbers.specs.Age.{age_of, reaches}
use Rattle.vector.specs.Says.{says_of, bits_of, states_in, states_of, names}
use Rattle.vector.specs.Rule.{alike, run_of, map_of, byte_of, covers_of, bytes_by, vector_of}
use Rattle.wire.specs.declared.Values.{Values}
use Rattle.wire.specs.Frame.{swapped, prefix_for, padded, framed}
use Rattle.wire.specs.Flags.{six_of, outside}
use Rattle.wire.specs.Layout.{no_ack, no_delay, no_vector}
use Rattle.wire.specs.Read.{read_of, Reading}
use Rattle.wire.specs.Write.{packet_bytes, datagram_of, write_answer}

-- k numbers from n on
unfoldable pub numbers : ℕ → ℕ → List ℕ
numbers n zero = []
numbers n (suc k) = n ∷ numbers (suc n) k

-- the numbers that a vector from this base names as received, of k numbers from n on
unfoldable pub named_from : List ℕ → ℕ → ℕ → ℕ → List ℕ
named_from v base n zero = []
named_from v base n (suc k) = cond (names v base n) (n ∷ named_from v base (suc n) k) (named_from v base (suc n) k)

-- all the numbers that it names: none lies past its last state
unfoldable pub named_by : List ℕ → ℕ → List ℕ
named_by v base = named_from v base 0 (base + length (states_of v))

-- the states from a base up to the last of some received numbers, which rise
unfoldable pub states_for : ℕ → List ℕ → List Bool
states_for base [] = []
states_for base (n ∷ ns) = replicate (n - base) false ++ (true ∷ states_for (suc n) ns)

-- one worked example, of its kind
pub data Case : Type 0 where
  -- a packet goes out with a prefix
  framing : (prefix : ℕ) (packet datagram : List ℕ) → Case
  -- values, additions, vector bytes and a body are written
  writing : (values : Values) (additions vector body datagram : List ℕ) → Case
  -- a datagram is read
  reading : (datagram : List ℕ) (answer : Reading) → Case
  -- a byte at a base names numbers as received
  naming : (base byte : ℕ) (received : List ℕ) → Case
  -- the vector for some received numbers, from a base on
  coding : (base : ℕ) (received bytes : List ℕ) → Case
  -- a field is widened against a reference
  widening : (reference field : ℕ) (number : Widened ℕ) → Case
  -- the same, to a number that is out of place whatever the first of its kind
  misplacing : (reference field : ℕ) (number : Widened ℕ) → Case
  -- a tick's age, and whether it is lost at a timeout
  ageing : (sent now age timeout : ℕ) (lost : Bool) → Case

-- what the crates' contracts answer is what the example says; a vector names again the numbers that it was written for
abbrev pub Right : Case → Type 0
Right (framing prefix packet datagram) = framed prefix packet ≡ datagram
Right (writing values additions vector body datagram) =
    (write_answer values additions vector body (length datagram) ≡ 0) × (datagram_of values additions vector body ≡ datagram)
Right (reading datagram answer) = read_of datagram ≡ answer
Right (naming base byte received) = named_by (byte ∷ []) base ≡ received
Right (coding base received bytes) = (vector_of (states_for base received) ≡ bytes) × (named_by bytes base ≡ received)
Right (widening reference field number) = widen_of reference field ≡ number
Right (misplacing reference field number) = (widen_of reference field ≡ number) × ((start : ℕ) → out_of start number ≡ true)
Right (ageing sent now age timeout lost) = (age_of now sent ≡ age) × (reaches timeout now sent ≡ lost)

abbrev pub AllRight : List Case → Type 0
AllRight [] = Unit {0}
AllRight (c ∷ cs) = Right c × AllRight cs

unfoldable pub cases : List Case
cases =
    -- P1
    framing 0x10 (0x30 ∷ 0x35 ∷ 0x56 ∷ 0x78 ∷ 0xa2 ∷ 0x36 ∷ 0x73 ∷ 0xee ∷ 0x68 ∷ 0xf2 ∷ [])
    (0x73 ∷ 0x30 ∷ 0x35 ∷ 0x56 ∷ 0x78 ∷ 0xa2 ∷ 0x36 ∷ 0x10 ∷ 0xee ∷ 0x68 ∷ 0xf2 ∷ [])
    -- P2
    ∷ writing
    (record { flags = 0x010; logwindow = 5; ack = no_ack; overhead = 0; delay = no_delay; aoa = 10; number = 0; vector = no_vector; channel = 0 })
    [] [] [] (0x00 ∷ 0x10 ∷ 0x50 ∷ 0x0a ∷ 0x00 ∷ 0x00 ∷ 0x00 ∷ 0x80 ∷ [])
    -- P3
    ∷ naming 1000 0x64 (1002 ∷ 1005 ∷ 1006 ∷ [])
    -- P4
    ∷ naming 1000 0xe4 (numbers 1000 36)
    -- P5
    ∷ coding 10 (17 ∷ []) (0x00 ∷ 0x01 ∷ [])
    -- P6
    ∷ coding 10 (18 ∷ []) (0x88 ∷ 0x01 ∷ [])
    -- P7
    ∷ coding 10 (numbers 11 30) (0x7e ∷ 0xd8 ∷ [])
    -- P8, as document 02 changes it (W7)
    ∷ widening 70000 37232 Unclear
    -- P9
    ∷ widening 70000 37233 (At 37233)
    -- P10
    ∷ widening 70000 37231 (At 102767)
    -- P11
    ∷ misplacing 5 65535 (Below 1)
    -- P12, lost at 300
    ∷ ageing 4294967290 294 300 300 true
    -- P12, not
    ∷ ageing 4294967290 293 299 300 false
    ∷ []

pub cases_right : AllRight cases
unfolding cases numbers named_from named_by states_for first says_of bits_of states_in states_of names alike run_of map_of byte_of covers_of bytes_by vector_of swapped prefix_for padded framed six_of outside packet_bytes datagram_of write_answer widen_of age_of
cases_right =
    (refl, ((refl, refl), (refl, (refl, ((refl, refl), ((refl, refl), ((refl, refl), (refl, (refl, (refl, ((refl, λ start. refl), ((refl, refl), ((refl, refl), tt)))))))))))))
