-- What the answer of a call stands for: the papers' number, and the lent buffer as the call leaves it.
use Rattle.std.specs.Prelude.{ℕ, Bool, true, false, cond, List, [], ◌∷◌, ◌≡◌, refl, length, eqb, ltb, Result, Ok, Err}
use Rattle.std.proofs.Common.{sym, arith, ne_eqb, eqb-true, eq-eqb}
use Rattle.common.specs.declared.Refusal.{Refusal}
use Rattle.common.specs.declared.Refusal.TheVariants.{Length, Prefix, PastTheEnd, OtherFlag, TwoAcknowledgements, LeftOver, OutOfPlace, NeverSent, Full, TooWide, Nothing, UsedUp, Unsound, Room, Opening, Trace, Spent, NoPlace, NoSession, NoFree}
use Rattle.common.specs.Facts.{clash}
use Rattle.common.specs.Put.{put_of}
use Rattle.common.specs.Laid.{Laid}
use Rattle.common.specs.Order.{Test, test, first}

-- the papers' number of each refusal
abbrev pub no_of : Refusal → ℕ
no_of Length = 1
no_of Prefix = 2
no_of PastTheEnd = 3
no_of OtherFlag = 4
no_of TwoAcknowledgements = 5
no_of LeftOver = 6
no_of OutOfPlace = 7
no_of NeverSent = 8
no_of Full = 9
no_of TooWide = 10
no_of Nothing = 11
no_of UsedUp = 12
no_of Unsound = 13
no_of Room = 14
no_of Opening = 15
no_of Trace = 16
no_of Spent = 22
no_of NoPlace = 23
no_of NoSession = 24
no_of NoFree = 25

-- all of them
abbrev pub refusals : List Refusal
refusals = Length ∷ Prefix ∷ PastTheEnd ∷ OtherFlag ∷ TwoAcknowledgements ∷ LeftOver ∷ OutOfPlace ∷ NeverSent ∷ Full ∷ TooWide ∷ Nothing ∷ UsedUp ∷ Unsound ∷ Room
    ∷ Opening ∷ Trace ∷ Spent ∷ NoPlace ∷ NoSession ∷ NoFree ∷ []

-- the first of a list that has this number, or else the one that is given
abbrev pub refusal_among : List Refusal → ℕ → Refusal → Refusal
refusal_among [] n r = r
refusal_among (x ∷ xs) n r = cond (eqb n (no_of x)) x (refusal_among xs n r)

-- the refusal that a number stands for
unfoldable pub refusal_of : ℕ → Refusal
refusal_of n = refusal_among refusals n Length

-- is it 0, or the number of a refusal?
abbrev pub is_among : List Refusal → ℕ → Bool
is_among [] n = eqb n 0
is_among (x ∷ xs) n = cond (eqb n (no_of x)) true (is_among xs n)

unfoldable pub is_answer : ℕ → Bool
is_answer n = is_among refusals n

-- Each number is that of the refusal that it stands for, and no two refusals have one number.
pub refusal_back : (r : Refusal) → refusal_of (no_of r) ≡ r
unfolding refusal_of
refusal_back Length = refl
refusal_back Prefix = refl
refusal_back PastTheEnd = refl
refusal_back OtherFlag = refl
refusal_back TwoAcknowledgements = refl
refusal_back LeftOver = refl
refusal_back OutOfPlace = refl
refusal_back NeverSent = refl
refusal_back Full = refl
refusal_back TooWide = refl
refusal_back Nothing = refl
refusal_back UsedUp = refl
refusal_back Unsound = refl
refusal_back Room = refl
refusal_back Opening = refl
refusal_back Trace = refl
refusal_back Spent = refl
refusal_back NoPlace = refl
refusal_back NoSession = refl
refusal_back NoFree = refl

no_one : (n : ℕ) (x : Refusal) (xs : List Refusal) (t : Bool) → eqb n (no_of x) ≡ t → (is_among xs n ≡ true → no_of (refusal_among xs n Length) ≡ n)
    → cond t true (is_among xs n) ≡ true → no_of (cond t x (refusal_among xs n Length)) ≡ n
no_one n x xs true q f h = sym (eqb-true n (no_of x) q)
no_one n x xs false q f h = f h

no_among : (n : ℕ) (xs : List Refusal) → is_among xs n ≡ true → (n ≡ 0 → ⊥) → no_of (refusal_among xs n Length) ≡ n
no_among n [] h z = absurd (z (eqb-true n 0 h))
no_among n (x ∷ xs) h z = no_one n x xs (eqb n (no_of x)) refl (λ e. no_among n xs e z) h

pub no_back : (n : ℕ) → is_answer n ≡ true → (n ≡ 0 → ⊥) → no_of (refusal_of n) ≡ n
unfolding refusal_of is_answer
no_back n h z = no_among n refusals h z

-- None has the number 0, which is no refusal.
pub no_zero : (r : Refusal) → no_of r ≡ 0 → ⊥
no_zero Length e = cc
no_zero Prefix e = cc
no_zero PastTheEnd e = cc
no_zero OtherFlag e = cc
no_zero TwoAcknowledgements e = cc
no_zero LeftOver e = cc
no_zero OutOfPlace e = cc
no_zero NeverSent e = cc
no_zero Full e = cc
no_zero TooWide e = cc
no_zero Nothing e = cc
no_zero UsedUp e = cc
no_zero Unsound e = cc
no_zero Room e = cc
no_zero Opening e = cc
no_zero Trace e = cc
no_zero Spent e = cc
no_zero NoPlace e = cc
no_zero NoSession e = cc
no_zero NoFree e = cc

pub no_known : (r : Refusal) → is_answer (no_of r) ≡ true
unfolding is_answer
no_known Length = refl
no_known Prefix = refl
no_known PastTheEnd = refl
no_known OtherFlag = refl
no_known TwoAcknowledgements = refl
no_known LeftOver = refl
no_known OutOfPlace = refl
no_known NeverSent = refl
no_known Full = refl
no_known TooWide = refl
no_known Nothing = refl
no_known UsedUp = refl
no_known Unsound = refl
no_known Room = refl
no_known Opening = refl
no_known Trace = refl
no_known Spent = refl
no_known NoPlace = refl
no_known NoSession = refl
no_known NoFree = refl

-- the numbers of a list of tests are such
abbrev pub all_known : List Test → Bool
all_known [] = true
all_known (t ∷ ts) = cond (is_answer t.no) (all_known ts) false

known_next : (n : ℕ) (b : Bool) (t : Bool) → is_answer n ≡ t → cond t b false ≡ true → (is_answer n ≡ true) × (b ≡ true)
known_next n b true e h = (e, h)
known_next n b false e h = clash false h refl

pub known_either : (b : Bool) (n m : ℕ) → is_answer n ≡ true → is_answer m ≡ true → is_answer (cond b n m) ≡ true
known_either true n m h k = h
known_either false n m h k = k

-- The answer of a list of such tests is one of these numbers, or 0.
pub first_known : (ts : List Test) → all_known ts ≡ true → is_answer (first ts) ≡ true
unfolding first is_answer
first_known [] h = refl
first_known (t ∷ ts) h =
    let (k, l) = known_next t.no (all_known ts) (is_answer t.no) refl h in
    known_either t.holds t.no (first ts) k (first_known ts l)

-- "0 is accepted. A refusal returns its number"
abbrev pub number_of : {A : Type 0} → Result A Refusal → ℕ
number_of (Err r) = no_of r
number_of (Ok x) = 0

-- an accepted judgement gives this, and any other its refusal
abbrev pub settled : {A : Type 0} → ℕ → A → Result A Refusal
settled n x = cond (eqb n 0) (Ok x) (Err (refusal_of n))

-- the answer by its number: accepted, or refused
unfoldable pub answered_of : ℕ → Result Unit Refusal
answered_of n = settled n tt

-- the answer by its number: how many bytes were written, or the refusal
unfoldable pub written_of : ℕ → List ℕ → Result ℕ Refusal
written_of n b = settled n (length b)

-- The answer by its number has that number, accepted or refused.
pub number_settled : {A : Type 0} (n : ℕ) (x : A) → is_answer n ≡ true → number_of (settled n x) ≡ n
number_settled {A} n x h = go (eqb n 0) refl
  where
    go : (t : Bool) → eqb n 0 ≡ t → number_of {A = A} (cond t (Ok x) (Err (refusal_of n))) ≡ n
    go true e = sym (eqb-true n 0 e)
    go false e = no_back n h (λ z. clash (eqb n 0) (eq-eqb n 0 z) e)

pub number_written : (n : ℕ) (b : List ℕ) → is_answer n ≡ true → number_of (written_of n b) ≡ n
unfolding written_of
number_written n b h = number_settled n (length b) h

pub number_answered : (n : ℕ) → is_answer n ≡ true → number_of (answered_of n) ≡ n
unfolding answered_of
number_answered n h = number_settled n tt h

-- "leaves every lent byte unchanged. An accepted write changes only the bytes it reports"
unfoldable pub left_of : ℕ → List ℕ → List ℕ → List ℕ
left_of n b out = cond (eqb n 0) (put_of out 0 b) out

-- "14: output buffer too short for this answer", where nothing else is left to refuse it
unfoldable pub room_answer : List ℕ → ℕ → ℕ
room_answer b room = first (test (ltb room (length b)) 14 ∷ [])

-- a law for each way out of a judgement
pub settled_refused : {A : Type 0} (r : Refusal) (m : ℕ) (x : A) → no_of r ≡ m → Err r ≡ settled m x
settled_refused r m x e = rw (← e, ne_eqb (no_of r) 0 (no_zero r), refusal_back r) refl

pub settled_accepted : {A : Type 0} (m : ℕ) (x : A) → 0 ≡ m → Ok x ≡ settled m x
settled_accepted m x e = rw (← e) refl

-- and what each answer tells
settled_cases : {A : Type 0} (r : Refusal) (m : ℕ) (x : A) (t : Bool) → eqb m 0 ≡ t → Err r ≡ cond t (Ok x) (Err (refusal_of m)) → (m ≡ 0 → ⊥) × (r ≡ refusal_of m)
settled_cases r m x true t e = absurd (let z : ◌≡◌ {A = ℕ} 0 1 = cc in omega arith)
settled_cases r m x false t e = let q : r ≡ refusal_of m = cc in (λ z. clash (eqb m 0) (eq-eqb m 0 z) t, q)

pub settled_err : {A : Type 0} (r : Refusal) (m : ℕ) (x : A) → Err r ≡ settled m x → (m ≡ 0 → ⊥) × (r ≡ refusal_of m)
settled_err r m x e = settled_cases r m x (eqb m 0) refl e

settled_fine : {A : Type 0} (y : A) (m : ℕ) (x : A) (t : Bool) → eqb m 0 ≡ t → Ok y ≡ cond t (Ok x) (Err (refusal_of m)) → (0 ≡ m) × (y ≡ x)
settled_fine y m x true t e = let q : y ≡ x = cc in (sym (eqb-true m 0 t), q)
settled_fine y m x false t e = absurd (let z : ◌≡◌ {A = ℕ} 0 1 = cc in omega arith)

pub settled_ok : {A : Type 0} (y : A) (m : ℕ) (x : A) → Ok y ≡ settled m x → (0 ≡ m) × (y ≡ x)
settled_ok y m x e = settled_fine y m x (eqb m 0) refl e

-- a law for each way out of a call
pub answered_refused : (r : Refusal) (m : ℕ) → no_of r ≡ m → Err r ≡ answered_of m
unfolding answered_of
answered_refused r m e = settled_refused r m tt e

pub answered_accepted : (m : ℕ) → 0 ≡ m → Ok tt ≡ answered_of m
unfolding answered_of
answered_accepted m e = settled_accepted m tt e

pub answered_passed : (x : Unit {0}) (m : ℕ) → Ok x ≡ answered_of m → 0 ≡ m
unfolding answered_of
answered_passed x m e = (settled_ok x m tt e).0

pub written_refused : (r : Refusal) (m : ℕ) (b : List ℕ) → no_of r ≡ m → Err r ≡ written_of m b
unfolding written_of
written_refused r m b e = settled_refused r m (length b) e

-- A refusal that a judgement gave is the call's own.
pub handed_on : (r : Refusal) (m : ℕ) (b out : List ℕ) → Err r ≡ answered_of m → (Err r ≡ written_of m b) × (out ≡ left_of m b out)
unfolding answered_of written_of left_of
handed_on r m b out e =
    let (h, q) = settled_err r m tt e in
    (rw (ne_eqb m 0 h, q) refl, rw (ne_eqb m 0 h) refl)

pub left_refused : (n m : ℕ) (b out : List ℕ) → n ≡ m → (n ≡ 0 → ⊥) → out ≡ left_of m b out
unfolding left_of
left_refused n m b out e h = rw (← e, ne_eqb n 0 h) refl

pub written_wrote : (n : ℕ) (b out left : List ℕ) (r : ℕ) → 0 ≡ n → Laid out 0 b left r → Ok r ≡ written_of n b
unfolding written_of
written_wrote n b out left r e x = let q : r ≡ length b = omega (arith, x.next) in rw (← e, q) refl

pub left_wrote : (n : ℕ) (b out left : List ℕ) (r : ℕ) → 0 ≡ n → Laid out 0 b left r → left ≡ left_of n b out
unfolding left_of
left_wrote n b out left r e x = rw (← e) x.bytes
