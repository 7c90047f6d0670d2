-- Laws of a trace written: the parts of its lines, how long an event is at most, and bytes as text, two digits at a time.
use Prim.Native.Nat.{ℕ, ◌+◌, ◌%◌, ◌/◌, ◌≤◌, ◌<◌}
use mathlib.Core.Bool.{Bool, true, false, cond, not}
use mathlib.Core.List.{List, [], ◌∷◌, ◌++◌, append_assoc, append-nil}
use mathlib.Core.Path.{◌≡◌, refl, sym, ◌∙◌, ap}
use native.Mathlib.Numerals.{add-one}
use native.Mathlib.Omega.{arith}
use borrow.Author.Tests.{lt-ltb, le-ltb, le-leb}
use lib.Dec.{eqb, leb}
use lib.ListN.{length, take, set, get_or, length-set, length-append}
use lib.Seq.{take_all, take-suc}
use Rattle.common.specs.EveryLaws.{all_every}
use Rattle.common.specs.Laid.{Laid, laid_nothing, laid_then, laid_as, laid_length}
use Rattle.common.specs.Order.{first_here, first_skip, first_none}
use Rattle.common.specs.Put.{joined, put_of, put_one, put_put}
use Rattle.text.specs.Ascii.{ascii}
use Rattle.text.specs.Decimal.{decimal_of}
use Rattle.text.specs.Laws.{decimal_length}
use Rattle.text.specs.Lines.{between}
use Rattle.text.specs.Within.{LaidWithin, text_front}
use Rattle.trace.specs.Hex.{hex_digit, hex_text}
use Rattle.trace.specs.Kinds.{is_kind, kind_text}
use Rattle.trace.specs.DataLaws.{hex_length}
use Rattle.trace.specs.Write.{head_text, lead_text, event_text, event_good, event_answer}

-- the parts that are laid one after the other are the lines
pub head_parts : (d c t : ℕ)
    → joined
    (ascii "format=counter-trace\nedition=1\n"
    ∷ between (ascii "first=") d (ascii ",")
    ∷ between [] c (ascii "\n")
    ∷ between (ascii "timeout=") t (ascii "\n")
    ∷ [])
    ≡ head_text d c t
unfolding head_text
head_parts d c t = simp (append_assoc, append-nil)

pub lead_parts : (tick kind : ℕ)
    → joined (between (ascii "tick=") tick (ascii "\n") ∷ ascii "kind=" ∷ kind_text kind ∷ ascii "\ndata=" ∷ []) ≡ lead_text tick kind
unfolding lead_text
lead_parts tick kind = simp (append_assoc, append-nil)

event_parts : (tick kind : ℕ) (bytes : List ℕ) → lead_text tick kind ++ (hex_text bytes ++ ascii "\n") ≡ event_text tick kind bytes
unfolding lead_text event_text
event_parts tick kind bytes = simp (append_assoc, append-nil)

-- two digits to a byte
hex_snoc : (bs : List ℕ) (b : ℕ) → hex_text (bs ++ (b ∷ [])) ≡ hex_text bs ++ (hex_digit (b / 16) ∷ hex_digit (b % 16) ∷ [])
unfolding hex_text
hex_snoc [] b = refl
hex_snoc (x ∷ bs) b = ap (λ (t : List ℕ). hex_digit (x / 16) ∷ hex_digit (x % 16) ∷ t) (hex_snoc bs b)

-- two bytes that are stored one after the other are laid
laid_two : (d : List ℕ) (at x y : ℕ) → at + 1 < length d → Laid d at (x ∷ y ∷ []) (set (set d at x) (at + 1) y) (at + 2)
laid_two d at x y h =
    record {
      bytes =
          put_one (set d at x) (at + 1) y (rw length-set h)
          ∙ ap (λ (e : List ℕ). put_of e (at + 1) (y ∷ [])) (put_one d at x (omega arith))
          ∙ put_put d at (x ∷ []) (y ∷ []) (omega arith);
      next = refl;
    }

-- one more byte
pub hex_more : {d : List ℕ} {at : ℕ} (bs : List ℕ) (i : ℕ) {x y : ℕ} {e : List ℕ} {to : ℕ} → i < length bs → at + (length bs + length bs) ≤ length d
    → to ≡ at + (i + i) → Laid d at (hex_text (take i bs)) e to → x ≡ hex_digit (get_or bs i 0 / 16) → y ≡ hex_digit (get_or bs i 0 % 16)
    → Laid d at (hex_text (take (i + 1) bs)) (set (set e to x) (to + 1) y) (to + 2)
hex_more {d} {at} bs i {x} {y} {e} {to} h room n l p q =
    let k : at + length (hex_text (take i bs)) ≤ length d = omega (arith, l.next) in
    let s : length e ≡ length d = laid_length k l in
    let t : hex_text (take (i + 1) bs) ≡ hex_text (take i bs) ++ (x ∷ y ∷ []) =
    rw (add-one, take-suc bs i 0, p, q) (hex_snoc (take i bs) (get_or bs i 0)) in
    laid_as (sym t) (laid_then k l (laid_two e to x y (omega arith)))

pub hex_none : (d : List ℕ) (at : ℕ) (bs : List ℕ) → Laid d at (hex_text (take 0 bs)) d at
unfolding hex_text
hex_none d at bs = laid_nothing d at

pub hex_all : {d : List ℕ} {at : ℕ} (bs : List ℕ) (i : ℕ) {e : List ℕ} {to : ℕ} → length bs ≤ i → Laid d at (hex_text (take i bs)) e to → Laid d at (hex_text bs) e to
hex_all bs i h l = laid_as (ap hex_text (take_all i bs h)) l

-- the six kinds
pub is_kind_lem : (k : ℕ) → 1 ≤ k → k ≤ 6 → is_kind k ≡ true
unfolding is_kind
is_kind_lem k a b = all_every (leb 1 k ∷ leb k 6 ∷ []) (le-leb 1 k a, (le-leb k 6 b, tt))

-- the parts of an event, one after the other
pub event_lays : {d e f g : List ℕ} {p q r : ℕ} (lead bytes : List ℕ) → length lead + (length bytes + length bytes) + 1 ≤ length d
    → Laid d 0 lead e p → Laid e p (hex_text bytes) f q → Laid f q (ascii "\n") g r → Laid d 0 (lead ++ (hex_text bytes ++ ascii "\n")) g r
event_lays lead bytes h x y z =
    let n = hex_length bytes in
    let l = laid_length (omega arith) x in
    laid_then (omega arith) x (laid_then (omega (arith, x.next)) y z)

-- the longest word of a kind is `resend`
kind_length : (k : ℕ) → length (kind_text k) ≤ 6
unfolding kind_text
kind_length k = go (eqb k 1) (eqb k 2) (eqb k 3) (eqb k 4) (eqb k 5)
  where
    go : (a b c d e : Bool)
        → length (cond a (ascii "in") (cond b (ascii "send") (cond c (ascii "resend") (cond d (ascii "take") (cond e (ascii "sweep") (ascii "ack")))))) ≤ 6
    go true b c d e = omega arith
    go false true c d e = omega arith
    go false false true d e = omega arith
    go false false false true e = omega arith
    go false false false false true = omega arith
    go false false false false false = omega arith

-- an event's lines up to its bytes, of a tick below 2^32
lead_length : (tick kind : ℕ) → tick < 4294967296 → length (lead_text tick kind) ≤ 33
unfolding lead_text
lead_length tick kind h =
    let word = kind_text kind ++ ascii "\ndata=" in
    let e : lead_text tick kind ≡ ascii "tick=" ++ (decimal_of tick ++ (ascii "\nkind=" ++ word)) = simp (append_assoc, append-nil) in
    omega (
      arith,
      ap length e,
      length-append (decimal_of tick) (ascii "\nkind=" ++ word),
      length-append (kind_text kind) (ascii "\ndata="),
      decimal_length 10 tick (omega arith) (omega arith),
      kind_length kind,
    )

module _ (tick kind : ℕ) (bytes : List ℕ) where
  event_length : length (event_text tick kind bytes) ≡ length (lead_text tick kind) + (length bytes + length bytes) + 1
  event_length =
      omega (
        arith,
        ap length (event_parts tick kind bytes),
        length-append (lead_text tick kind) (hex_text bytes ++ ascii "\n"),
        length-append (hex_text bytes) (ascii "\n"),
        hex_length bytes,
      )

  pub event_bound : tick < 4294967296 → length (event_text tick kind bytes) ≤ 44 + (length bytes + length bytes)
  event_bound h = omega (arith, event_length, lead_length tick kind h)

  -- the answer at each way out
  pub event_bad : (room : ℕ) → event_good kind (length bytes) ≡ false → 16 ≡ event_answer tick kind bytes room
  unfolding event_answer
  event_bad room g = first_here _ _ _ (ap not g)

  pub event_short : (room : ℕ) → event_good kind (length bytes) ≡ true → room < length (lead_text tick kind) + (length bytes + length bytes) + 1
      → 14 ≡ event_answer tick kind bytes room
  unfolding event_answer
  event_short room g h = first_here _ _ _ (lt-ltb room (length (event_text tick kind bytes)) (omega (arith, event_length))) ∙ first_skip _ _ _ (ap not g)

  pub event_fits : (room : ℕ) → event_good kind (length bytes) ≡ true → length (lead_text tick kind) + (length bytes + length bytes) + 1 ≤ room
      → 0 ≡ event_answer tick kind bytes room
  unfolding event_answer
  event_fits room g h = first_none ∙ first_skip _ _ _ (le-ltb room (length (event_text tick kind bytes)) (omega (arith, event_length))) ∙ first_skip _ _ _ (ap not g)

  -- what was laid behind the lead is the event
  pub event_laid : {k n r : ℕ} {z e d f : List ℕ} → LaidWithin k (lead_text tick kind) z 0 e n → Laid d 0 (take n e ++ (hex_text bytes ++ ascii "\n")) f r
      → Laid d 0 (event_text tick kind bytes) f r
  event_laid l x = laid_as (ap (λ (t : List ℕ). t ++ (hex_text bytes ++ ascii "\n")) (text_front l) ∙ event_parts tick kind bytes) x
