-- Numbers and their places. These laws alone look into what "modulo" is.
use Rattle.std.specs.Prelude.{ℕ, zero, suc, ◌+◌, ◌-◌, ◌*◌, ◌%◌, ◌/◌, ◌≤◌, ◌<◌, cond, List, [], ◌∷◌, ◌≡◌, refl, ltb, length, get_or, replicate}
use Rattle.std.proofs.Common.{⊎_elim, sym, ◌∙◌, ap, subst, mod-lt, div-add-mod', mul-le-mul_right, suc-mul, mod-eq_of_lt, le_of_suc-le-suc, not-suc-le-zero, arith, lt-ltb, le-ltb}
use Rattle.std.proofs.Math.Nat.{mul-add-mod_self_right, add-mod_right}
use Rattle.common.specs.Facts.{lt_or_ge}

-- Of numbers less than w apart, only equal ones have the same place.
place_once : (w n m : ℕ) → n ≤ m → m < n + w → n % w ≡ m % w → n ≡ m
place_once w n m le lt e =
    let dn = div-add-mod' n w in
    let dm = div-add-mod' m w in
    ⊎_elim
    (λ q. let k = mul-le-mul_right w q in let s = suc-mul (n / w) w in omega arith)
    (λ q. let k = mul-le-mul_right w q in omega arith)
    (lt_or_ge (n / w) (m / w))

pub place_same : (w b n m : ℕ) → b ≤ n → n < b + w → b ≤ m → m < b + w → n % w ≡ m % w → n ≡ m
place_same w b n m ln un lm um e =
    ⊎_elim
    (λ lt. place_once w n m (omega arith) (omega arith) e)
    (λ ge. sym (place_once w m n ge (omega arith) (sym e)))
    (lt_or_ge n m)

-- the number from b on whose place is i
unfoldable pub number_from : ℕ → ℕ → ℕ → ℕ
number_from w b i = cond (ltb i (b % w)) (suc (b / w) * w + i) (b / w * w + i)

pub number_at : (w b i : ℕ) → i < w → (b ≤ number_from w b i) × (number_from w b i < b + w) × (number_from w b i % w ≡ i)
unfolding number_from
number_at w b i h =
    let db = div-add-mod' b w in
    let s = suc-mul (b / w) w in
    let l : b % w < w = mod-lt b (omega arith) in
    ⊎_elim
    (λ lt. rw (lt-ltb i (b % w) lt) (omega arith, omega arith, mul-add-mod_self_right (suc (b / w)) w i ∙ mod-eq_of_lt h))
    (λ ge. rw (le-ltb i (b % w) ge) (omega arith, omega arith, mul-add-mod_self_right (b / w) w i ∙ mod-eq_of_lt h))
    (lt_or_ge i (b % w))

-- how far past b that number lies
abbrev pub past_of : ℕ → ℕ → ℕ → ℕ
past_of w b i = (i + (w - b % w)) % w

pub past_is : (w b i : ℕ) → i < w → past_of w b ((b + i) % w) ≡ i
past_is w b i l =
    let d = div-add-mod' b w in
    let m : b % w < w = mod-lt b (omega arith) in
    let split : b + i ≡ b / w * w + (b % w + i) = omega arith in
    let at : (b + i) % w ≡ (b % w + i) % w = ap (λ (n : ℕ). n % w) split ∙ mul-add-mod_self_right (b / w) w (b % w + i) in
    ⊎_elim
    (λ lt. let here : (b + i) % w ≡ b % w + i = at ∙ mod-eq_of_lt lt in
    ap (λ (n : ℕ). n % w) (let s : (b + i) % w + (w - b % w) ≡ i + w = omega arith in s) ∙ add-mod_right i w ∙ mod-eq_of_lt l)
    (λ ge. let back : b % w + i ≡ (b % w + i - w) + w = omega arith in
    let here : (b + i) % w ≡ b % w + i - w = at ∙ ap (λ (n : ℕ). n % w) back ∙ add-mod_right (b % w + i - w) w ∙ mod-eq_of_lt (omega arith) in
    ap (λ (n : ℕ). n % w) (let s : (b + i) % w + (w - b % w) ≡ i = omega arith in s) ∙ mod-eq_of_lt l)
    (lt_or_ge (b % w + i) w)

-- the list of f 0 to f (n − 1)
unfoldable pub tabulate : {A : Type 0} → ℕ → (ℕ → A) → List A
tabulate zero f = []
tabulate (suc n) f = f zero ∷ tabulate n (λ i. f (suc i))

pub length_tabulate : {A : Type 0} (n : ℕ) (f : ℕ → A) → length (tabulate n f) ≡ n
unfolding tabulate
length_tabulate zero f = refl
length_tabulate (suc n) f = ap suc (length_tabulate n (λ i. f (suc i)))

pub get_d_tabulate : {A : Type 0} (n : ℕ) (f : ℕ → A) (i : ℕ) (d : A) → i < n → get_or (tabulate n f) i d ≡ f i
unfolding tabulate
get_d_tabulate zero f i d h = absurd (not-suc-le-zero h)
get_d_tabulate (suc n) f zero d h = refl
get_d_tabulate (suc n) f (suc i) d h = get_d_tabulate n (λ j. f (suc j)) i d (le_of_suc-le-suc h)

-- cap places, of which w are in use, hold f of the numbers from b on
unfoldable pub spread : {A : Type 0} → A → ℕ → ℕ → ℕ → (ℕ → A) → List A
spread blank w cap b f = tabulate cap (λ i. cond (ltb i w) (f (number_from w b i)) blank)

-- A list of one value has it everywhere.
pub always : {A : Type 0} (n i : ℕ) (a : A) → get_or (replicate n a) i a ≡ a
always zero i a = refl
always (suc n) zero a = refl
always (suc n) (suc i) a = always n i a

-- What holds at each place from b on holds of each number.
pub at_number : (P : ℕ → Type 0) (b w : ℕ) → ((i : ℕ) → i < w → P (b + i)) → (n : ℕ) → b ≤ n → n < b + w → P n
at_number P b w h n l u = subst P (let e : b + (n - b) ≡ n = omega arith in e) (h (n - b) (omega arith))
