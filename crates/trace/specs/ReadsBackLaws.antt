-- What the parts of a written trace are read back to: lines, words, numbers, kinds and bytes.
use Rattle.std.specs.Prelude.{ℕ, zero, suc, ◌+◌, ◌*◌, ◌-◌, ◌%◌, ◌/◌, ◌≤◌, ◌<◌, Bool, true, false, cond, not, List, [], ◌∷◌, ◌++◌, ◌≡◌, refl, eqb, ltb, length, get_or, Some}
use Rattle.std.proofs.Common.{append_assoc, append-nil, ⊎_elim, ◌∙◌, ap, arith, leb-true, eqb-true, lt-ltb, le-ltb, le-leb, eq-eqb, ne_eqb}
use Rattle.std.proofs.lemmas.Bool.{lt-leb}
use Rattle.std.proofs.Math.Seq.{take-append_seam, drop-append_seam}
use Rattle.common.specs.EveryLaws.{every_at, all_every}
use Rattle.common.specs.Facts.{lt_or_ge, clash}
use Rattle.common.specs.Order.{first}
use Rattle.text.specs.Ascii.{ascii}
use Rattle.text.specs.Decimal.{decimal_of, Digits, nil, digit}
use Rattle.text.specs.Laws.{decimal_single, decimal_some, decimal_value, decimal_digits, decimal_first}
use Rattle.trace.specs.Hex.{is_hex, hex_value, all_hex, hex_good, hex_bytes, hex_digit, hex_text}
use Rattle.trace.specs.Kinds.{kind_of, kind_text, is_kind, carries}
use Rattle.trace.specs.Lines.{up_to, past, at_front, lines_of}
use Rattle.trace.specs.Numbers.{is_digit, all_digits, leading_zero, is_number, number_of, number_under, pair_of, first_of}
use Rattle.trace.specs.Read.{Event, head, and_then, head_of, events_of, data_good, data_bytes}
use Rattle.trace.specs.Words.{same, starts_with}
use Rattle.trace.specs.Write.{head_text, event_text, event_good}
use Rattle.trace.specs.WordsLaws.{same_refl}
use Rattle.trace.specs.DataLaws.{hex_length}

-- byte x does not stand in a text
lacks : ℕ → List ℕ → Bool
lacks x [] = true
lacks x (b ∷ bs) = cond (eqb b x) false (lacks x bs)

lacks_more : (x b : ℕ) (bs : List ℕ) → (b ≡ x → ⊥) → lacks x bs ≡ true → lacks x (b ∷ bs) ≡ true
unfolding lacks
lacks_more x b bs n h = rw (ne_eqb b x n) h

lacks_both : (x : ℕ) (a b : List ℕ) → lacks x a ≡ true → lacks x b ≡ true → lacks x (a ++ b) ≡ true
unfolding lacks
lacks_both x [] b h k = k
lacks_both x (c ∷ a) b h k = go (eqb c x) h (λ l. lacks_both x a b l k)
  where
    go : (t : Bool) → cond t false (lacks x a) ≡ true → (lacks x a ≡ true → lacks x (a ++ b) ≡ true) → cond t false (lacks x (a ++ b)) ≡ true
    go true e f = e
    go false e f = f e

-- a line, up to its newline
line_then : (l rest : List ℕ) {ls : List (List ℕ)} → lacks 10 l ≡ true → lines_of rest ≡ ls → lines_of (l ++ (10 ∷ rest)) ≡ l ∷ ls
unfolding lacks lines_of at_front
line_then [] rest h e = ap (λ (x : List (List ℕ)). [] ∷ x) e
line_then (b ∷ l) rest {ls} h e = go (eqb b 10) h (λ k. line_then l rest k e)
  where
    go : (t : Bool) → cond t false (lacks 10 l) ≡ true → (lacks 10 l ≡ true → lines_of (l ++ (10 ∷ rest)) ≡ l ∷ ls)
        → cond t ([] ∷ lines_of (l ++ (10 ∷ rest))) (at_front b (lines_of (l ++ (10 ∷ rest)))) ≡ (b ∷ l) ∷ ls
    go true k f = clash false k refl
    go false k f = ap (at_front b) (f k)

-- what stands before a byte, and what behind it
up_to_lem : (x : ℕ) (l rest : List ℕ) → lacks x l ≡ true → up_to x (l ++ (x ∷ rest)) ≡ l
unfolding lacks up_to
up_to_lem x [] rest h = rw (eq-eqb x x refl) refl
up_to_lem x (b ∷ l) rest h = go (eqb b x) h (up_to_lem x l rest)
  where
    go : (t : Bool) → cond t false (lacks x l) ≡ true → (lacks x l ≡ true → up_to x (l ++ (x ∷ rest)) ≡ l) → cond t [] (b ∷ up_to x (l ++ (x ∷ rest))) ≡ b ∷ l
    go true k f = clash false k refl
    go false k f = ap (λ (t : List ℕ). b ∷ t) (f k)

past_it : (x : ℕ) (l rest : List ℕ) → lacks x l ≡ true → past x (l ++ (x ∷ rest)) ≡ rest
unfolding lacks past
past_it x [] rest h = rw (eq-eqb x x refl) refl
past_it x (b ∷ l) rest h = go (eqb b x) h (past_it x l rest)
  where
    go : (t : Bool) → cond t false (lacks x l) ≡ true → (lacks x l ≡ true → past x (l ++ (x ∷ rest)) ≡ rest) → cond t (l ++ (x ∷ rest)) (past x (l ++ (x ∷ rest))) ≡ rest
    go true k f = clash false k refl
    go false k f = f k

-- a key and what is under it
starts_own : (key v : List ℕ) → starts_with key (key ++ v) ≡ true
unfolding starts_with
starts_own key v = rw take-append_seam (same_refl key)

-- numbers in decimal
digits_lack : (x : ℕ) {ds : List ℕ} → x < 48 → Digits ds → lacks x ds ≡ true
unfolding lacks
digits_lack x h nil = refl
digits_lack x h (digit {d = d} {ds = ds} a b p) = lacks_more x d ds (λ e. omega arith) (digits_lack x h p)

all_digits_lem : {ds : List ℕ} → Digits ds → all_digits ds ≡ true
unfolding all_digits is_digit
all_digits_lem nil = refl
all_digits_lem (digit {d = d} a b p) = rw (le-ltb d 48 a, le-leb d 57 b) (all_digits_lem p)

no_leading_zero : (n : ℕ) → leading_zero (decimal_of n) ≡ false
unfolding leading_zero
no_leading_zero n =
    ⊎_elim
    (λ (l : n < 10). rw (le-ltb 1 (length (decimal_of n)) (omega (arith, decimal_single n l))) refl)
    (λ (g : 10 ≤ n). either (ltb 1 (length (decimal_of n))) (ne_eqb (get_or (decimal_of n) 0 0) 48 (λ e. omega (arith, decimal_first n e))))
    (lt_or_ge n 10)
  where
    either : (t : Bool) {b : Bool} → b ≡ false → cond t b false ≡ false
    either true e = e
    either false e = refl

is_number_lem : (n : ℕ) → n < 4294967296 → is_number (decimal_of n) ≡ true
unfolding is_number
is_number_lem n h =
    all_every _ (
      ap not (ne_eqb (length (decimal_of n)) 0 (λ e. omega (arith, decimal_some n))),
      (ap not (no_leading_zero n), (all_digits_lem (decimal_digits n), (rw decimal_value (lt-ltb n 4294967296 h), tt))),
    )

number_back : (n : ℕ) → n < 4294967296 → number_of (decimal_of n) ≡ Some n
unfolding number_of
number_back n h = rw (is_number_lem n h, decimal_value) refl

pub under_back : (key : List ℕ) (n : ℕ) → n < 4294967296 → number_under key (key ++ decimal_of n) ≡ Some n
unfolding number_under
under_back key n h = rw (starts_own, drop-append_seam) (number_back n h)

pub first_back : (d c : ℕ) → d < 4294967296 → c < 4294967296 → first_of (ascii "first=" ++ (decimal_of d ++ (44 ∷ decimal_of c))) ≡ Some (d, c)
unfolding first_of pair_of starts_with same
first_back d c h k =
    let l = digits_lack 44 (omega arith) (decimal_digits d) in
    rw (up_to_lem 44 (decimal_of d) (decimal_of c) l, past_it 44 (decimal_of d) (decimal_of c) l, number_back d h, number_back c k) refl

-- bytes in hex
byte_low : (b : ℕ) → 48 ≤ b → b ≤ 57 → (hex_value b ≡ b - 48) × (is_hex b ≡ true)
unfolding hex_value is_hex
byte_low b l u = (rw (le-ltb b 48 l, le-leb b 57 u) refl, rw (le-ltb b 48 l, le-leb b 57 u) refl)

byte_high : (b : ℕ) → 97 ≤ b → b ≤ 102 → (hex_value b ≡ b - 87) × (is_hex b ≡ true)
unfolding hex_value is_hex
byte_high b l u =
    let p = le-ltb b 48 (omega arith) in
    let q = lt-leb b 57 (omega arith) in
    (rw (p, q, le-ltb b 97 l, le-leb b 102 u) refl, rw (p, q, le-ltb b 97 l, le-leb b 102 u) refl)

-- a digit, read
record Digit (v : ℕ) : Type 0 where
  value : hex_value (hex_digit v) ≡ v
  hex : is_hex (hex_digit v) ≡ true
  high : 48 ≤ hex_digit v

digit_as : (v b : ℕ) → hex_digit v ≡ b → hex_value b ≡ v → is_hex b ≡ true → 48 ≤ b → Digit v
digit_as v b e p q h = record { value = ap hex_value e ∙ p; hex = ap is_hex e ∙ q; high = omega arith }

digit_back : (v : ℕ) → v < 16 → Digit v
unfolding hex_digit
digit_back v h =
    ⊎_elim
    (λ (l : v < 10). let b = byte_low (48 + v) (omega arith) (omega arith) in digit_as v (48 + v) (rw (lt-ltb v 10 l) refl) (b.0 ∙ omega arith) b.1 (omega arith))
    (λ (g : 10 ≤ v). let b = byte_high (87 + v) (omega arith) (omega arith) in digit_as v (87 + v) (rw (le-ltb v 10 g) refl) (b.0 ∙ omega arith) b.1 (omega arith))
    (lt_or_ge v 10)

-- of bytes
hex_back : (bs : List ℕ) → ((i : ℕ) → get_or bs i 0 < 256) → hex_bytes (hex_text bs) ≡ bs
unfolding hex_bytes hex_text
hex_back [] h = refl
hex_back (b ∷ bs) h =
    let l : b < 256 = h 0 in
    let e : hex_value (hex_digit (b / 16)) * 16 + hex_value (hex_digit (b % 16)) ≡ b =
    omega (arith, (digit_back (b / 16) (omega arith)).value, (digit_back (b % 16) (omega arith)).value) in
    rw (e, hex_back bs (λ i. h (suc i))) refl

hex_all : (bs : List ℕ) → ((i : ℕ) → get_or bs i 0 < 256) → all_hex (hex_text bs) ≡ true
unfolding all_hex hex_text
hex_all [] h = refl
hex_all (b ∷ bs) h =
    let l : b < 256 = h 0 in
    rw ((digit_back (b / 16) (omega arith)).hex, (digit_back (b % 16) (omega arith)).hex) (hex_all bs (λ i. h (suc i)))

hex_lacks : (bs : List ℕ) → ((i : ℕ) → get_or bs i 0 < 256) → lacks 10 (hex_text bs) ≡ true
unfolding lacks hex_text
hex_lacks [] h = refl
hex_lacks (b ∷ bs) h =
    let l : b < 256 = h 0 in
    let p : 48 ≤ hex_digit (b / 16) = (digit_back (b / 16) (omega arith)).high in
    let q : 48 ≤ hex_digit (b % 16) = (digit_back (b % 16) (omega arith)).high in
    lacks_more 10 (hex_digit (b / 16)) (hex_digit (b % 16) ∷ hex_text bs) (λ e. omega arith)
    (lacks_more 10 (hex_digit (b % 16)) (hex_text bs) (λ e. omega arith) (hex_lacks bs (λ i. h (suc i))))

hex_good_lem : (bs : List ℕ) → ((i : ℕ) → get_or bs i 0 < 256) → hex_good (hex_text bs) ≡ true
unfolding hex_good
hex_good_lem bs h = rw (hex_all bs h) (eq-eqb (length (hex_text bs) % 2) 0 (omega (arith, hex_length bs)))

-- kinds
pub good_kind : (k n : ℕ) → event_good k n ≡ true → is_kind k ≡ true
unfolding event_good
good_kind k n g = every_at _ g 0

pub kind_bounds : (k : ℕ) → is_kind k ≡ true → (1 ≤ k) × (k ≤ 6)
unfolding is_kind
kind_bounds k h = (leb-true 1 k (every_at _ h 0), leb-true k 6 (every_at _ h 1))

kind_cases : (P : ℕ → Type 0) → P 1 → P 2 → P 3 → P 4 → P 5 → P 6 → (k : ℕ) → is_kind k ≡ true → P k
kind_cases P a b c d e f zero h = absurd (omega (arith, (kind_bounds 0 h).0))
kind_cases P a b c d e f (suc zero) h = a
kind_cases P a b c d e f (suc (suc zero)) h = b
kind_cases P a b c d e f (suc (suc (suc zero))) h = c
kind_cases P a b c d e f (suc (suc (suc (suc zero)))) h = d
kind_cases P a b c d e f (suc (suc (suc (suc (suc zero))))) h = e
kind_cases P a b c d e f (suc (suc (suc (suc (suc (suc zero)))))) h = f
kind_cases P a b c d e f (suc (suc (suc (suc (suc (suc (suc k))))))) h = absurd (omega (arith, (kind_bounds _ h).1))

abbrev Back : ℕ → Type 0
Back k = kind_of (ascii "kind=" ++ kind_text k) ≡ k

pub kind_back : (k : ℕ) → is_kind k ≡ true → kind_of (ascii "kind=" ++ kind_text k) ≡ k
unfolding kind_of kind_text same first
kind_back = kind_cases Back refl refl refl refl refl refl

abbrev NoNewline : ℕ → Type 0
NoNewline k = lacks 10 (kind_text k) ≡ true

kind_lacks : (k : ℕ) → is_kind k ≡ true → lacks 10 (kind_text k) ≡ true
unfolding kind_text lacks
kind_lacks = kind_cases NoNewline refl refl refl refl refl refl

-- the line of data
pub data_back : (k : ℕ) (bs : List ℕ) → event_good k (length bs) ≡ true → ((i : ℕ) → get_or bs i 0 < 256) → data_good k (ascii "data=" ++ hex_text bs) ≡ true
unfolding event_good data_good
data_back k bs g h = all_every _ (starts_own (ascii "data=") (hex_text bs), (hex_good_lem bs h, (size (carries k) (every_at _ g 1), tt)))
  where
    size : (t : Bool) → cond t true (eqb (length bs) 0) ≡ true → cond t true (eqb (length (ascii "data=" ++ hex_text bs)) 5) ≡ true
    size true e = refl
    size false e = eq-eqb (length (ascii "data=" ++ hex_text bs)) 5 (omega (arith, hex_length bs, eqb-true (length bs) 0 e))

pub bytes_back : (bs : List ℕ) → ((i : ℕ) → get_or bs i 0 < 256) → data_bytes (ascii "data=" ++ hex_text bs) ≡ bs
unfolding data_bytes
bytes_back bs h = hex_back bs h

-- the lines of the head, and of an event
pub head_lines_lem : (d c t : ℕ) (rest : List ℕ)
    → lines_of (head_text d c t ++ rest)
    ≡ ascii "format=counter-trace"
    ∷ ascii "edition=1"
    ∷ (ascii "first=" ++ (decimal_of d ++ (44 ∷ decimal_of c)))
    ∷ (ascii "timeout=" ++ decimal_of t)
    ∷ lines_of rest
unfolding head_text lacks
head_lines_lem d c t rest =
    let f = ascii "first=" ++ (decimal_of d ++ (44 ∷ decimal_of c)) in
    let g = ascii "timeout=" ++ decimal_of t in
    let e : head_text d c t ++ rest ≡ ascii "format=counter-trace" ++ (10 ∷ (ascii "edition=1" ++ (10 ∷ (f ++ (10 ∷ (g ++ (10 ∷ rest))))))) =
    simp (append_assoc, append-nil) in
    let p = digits_lack 10 (omega arith) (decimal_digits d) in
    let q = digits_lack 10 (omega arith) (decimal_digits c) in
    let r = digits_lack 10 (omega arith) (decimal_digits t) in
    ap lines_of e
    ∙ line_then (ascii "format=counter-trace") _ refl
    (line_then (ascii "edition=1") _ refl (line_then f _ (lacks_both 10 (decimal_of d) (44 ∷ decimal_of c) p q) (line_then g rest r refl)))

pub event_lines : (t k : ℕ) (bs rest : List ℕ) → is_kind k ≡ true → ((i : ℕ) → get_or bs i 0 < 256)
    → lines_of (event_text t k bs ++ rest) ≡ (ascii "tick=" ++ decimal_of t) ∷ (ascii "kind=" ++ kind_text k) ∷ (ascii "data=" ++ hex_text bs) ∷ lines_of rest
unfolding event_text lacks
event_lines t k bs rest p h =
    let e : event_text t k bs ++ rest
    ≡ (ascii "tick=" ++ decimal_of t) ++ (10 ∷ ((ascii "kind=" ++ kind_text k) ++ (10 ∷ ((ascii "data=" ++ hex_text bs) ++ (10 ∷ rest))))) =
    simp (append_assoc, append-nil) in
    ap lines_of e
    ∙ line_then (ascii "tick=" ++ decimal_of t) _ (digits_lack 10 (omega arith) (decimal_digits t))
    (line_then (ascii "kind=" ++ kind_text k) _ (kind_lacks k p) (line_then (ascii "data=" ++ hex_text bs) rest (hex_lacks bs h) refl))

-- and what they are read back to
pub head_back : (d c t : ℕ) → d < 4294967296 → c < 4294967296 → t < 4294967296 → (rest : List ℕ)
    → head_of (lines_of (head_text d c t ++ rest)) ≡ head d c t (lines_of rest)
unfolding head_of same
head_back d c t dl cl tl rest = rw (head_lines_lem d c t rest, first_back d c dl cl, under_back (ascii "timeout=") t tl) refl

pub event_back : (e : Event) (rest : List ℕ) → e.tick < 4294967296 → event_good e.kind (length e.bytes) ≡ true → ((i : ℕ) → get_or e.bytes i 0 < 256)
    → events_of (lines_of (event_text e.tick e.kind e.bytes ++ rest)) ≡ and_then e (events_of (lines_of rest))
unfolding events_of
event_back e rest l g h =
    let k = good_kind e.kind (length e.bytes) g in
    rw (
      event_lines e.tick e.kind e.bytes rest k h,
      under_back (ascii "tick=") e.tick l,
      kind_back e.kind k,
      ne_eqb e.kind 0 (λ z. omega (arith, (kind_bounds e.kind k).0)),
      data_back e.kind e.bytes g h,
      bytes_back e.bytes h,
    ) refl
