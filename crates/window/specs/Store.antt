-- A store of blocks: "Block c has place c modulo 32, 1,225 bytes of the store". Both halves lay theirs out so, over a window of w.
use Rattle.std.specs.Prelude.{ℕ, ◌*◌, ◌%◌, Bool, true, false, List, [], ◌∷◌, ◌≡◌, eqb, take, drop}
use Rattle.std.proofs.Common.{sym, ◌∙◌, ap, eqb-true, eq-eqb, ne_eqb}
use Rattle.common.specs.Every.{every}
use Rattle.common.specs.EveryLaws.{every_at, every_fails, every_one, every_made, every_none}

-- the bytes of a place, and of a store
abbrev pub place_size : ℕ
place_size = 1225

abbrev pub store_size : ℕ → ℕ
store_size w = w * place_size

-- where block c's place begins
abbrev pub store_place : ℕ → ℕ → ℕ
store_place w c = c % w * place_size

-- the bytes of block c, of which there are n
abbrev pub stored_at : ℕ → List ℕ → ℕ → ℕ → List ℕ
stored_at w store c n = take n (drop (store_place w c) store)

-- "13: a lent block store not 39,200 bytes, or an inconsistent record", as two tests that a record with its store passes
unfoldable pub sound_with : ℕ → Bool → ℕ → Bool
sound_with w consistent size = every (consistent ∷ eqb size (store_size w) ∷ [])

-- u says whether the record is consistent, and t is what was found: so b says whether it is sound, and what that tells
pub sound_with_lem : (w : ℕ) (u t b : Bool) (size : ℕ) → t ≡ u → b ≡ sound_with w t size → b ≡ sound_with w u size
sound_with_lem w u t b size e h = h ∙ ap (λ (x : Bool). sound_with w x size) e

pub sound_told : (w : ℕ) (u t b : Bool) (size : ℕ) → t ≡ u → b ≡ sound_with w t size → b ≡ true → (u ≡ true) × (size ≡ store_size w)
unfolding sound_with
sound_told w u t b size e s h =
    let q : every (u ∷ eqb size (store_size w) ∷ []) ≡ true = sym (sound_with_lem w u t b size e s) ∙ h in
    (every_at (u ∷ eqb size (store_size w) ∷ []) q 0, eqb-true size (store_size w) (every_at (u ∷ eqb size (store_size w) ∷ []) q 1))

-- the same where the store's size is looked at first
pub size_wrong : (w : ℕ) (u : Bool) (size : ℕ) → (size ≡ store_size w → ⊥) → false ≡ sound_with w u size
unfolding sound_with
size_wrong w u size h = every_fails (u ∷ eqb size (store_size w) ∷ []) 1 (ne_eqb size (store_size w) h)

pub size_right : (w : ℕ) (u b : Bool) (size : ℕ) → size ≡ store_size w → b ≡ u → b ≡ sound_with w u size
unfolding sound_with
size_right w u b size h e = e ∙ every_one u _ (every_made _ _ (eq-eqb size (store_size w) h) every_none)
