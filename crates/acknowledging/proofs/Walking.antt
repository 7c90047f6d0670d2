-- The walk of a vector, byte by byte and number by number: a law for each step of the code, over any window w. What is left of the walk gives
-- the whole walk's answer x.
use Prim.Native.Nat.{ℕ, ◌+◌, ◌%◌, ◌≤◌, ◌<◌}
use mathlib.Core.Bool.{Bool, true, false, cond}
use mathlib.Core.List.{List, [], ◌∷◌, ◌++◌}
use mathlib.Core.Path.{◌≡◌, refl, sym, ◌∙◌, ap}
use native.Mathlib.Omega.{arith}
use native.Mathlib.Numerals.{add-one}
use lib.ListN.{length, get_or, set, drop, drop_of_length-le}
use lib.Seq.{drop-cons, get_or-take, get_or-drop}
use lib.Dec.{leb}
use Rattle.vector.specs.Says.{says_of, states_in, states_of}
use Rattle.wire.specs.Frame.{byte_at, swapped}
use Rattle.wire.specs.Layout.{part_of}
use Rattle.wire.specs.Round.Framing.{part_length}
use Rattle.std.specs.Prelude.{Option, Some, None}
use Rattle.acknowledging.specs.Walk.{walk_of}

-- the vector's bytes where they stand in the datagram
part_at : (d : List ℕ) (at size j : ℕ) → j < size → get_or (part_of d at size) j 0 ≡ byte_at (swapped d) (at + j)
unfolding part_of
part_at d at size j h = get_or-take size (drop at (swapped d)) j 0 h ∙ get_or-drop at (swapped d) j 0

states_cons : (v : List ℕ) (j : ℕ) → j < length v → states_of (drop j v) ≡ states_in (says_of (get_or v j 0)) ++ states_of (drop (j + 1) v)
unfolding states_of
states_cons v j h = rw (add-one, drop-cons v j 0 h) refl

states_end : (v : List ℕ) (j : ℕ) → length v ≤ j → states_of (drop j v) ≡ []
unfolding states_of
states_end v j h = rw (drop_of_length-le v h) refl

bool_cons : (ss : List Bool) (i : ℕ) → i < length ss → drop i ss ≡ get_or ss i false ∷ drop (i + 1) ss
bool_cons ss i h = rw (add-one, drop-cons ss i false h) refl

module _ (w : ℕ) where
  walk_stops : (t : Bool) (ts : List Bool) (n next low : ℕ) (flags : List Bool) → cond t (leb next n) false ≡ true
      → None ≡ walk_of w (t ∷ ts) n next low flags
  unfolding walk_of
  walk_stops t ts n next low flags h = rw h refl

  walk_goes : (t : Bool) (ts : List Bool) (n next low : ℕ) (flags : List Bool) (k : Bool) → cond t (leb next n) false ≡ false
      → k ≡ cond (get_or flags (n % w) false) true (cond t (leb low n) false) → walk_of w ts (n + 1) next low (set flags (n % w) k) ≡ walk_of w (t ∷ ts) n next low flags
  unfolding walk_of
  walk_goes t ts n next low flags k h f = rw (h, f) refl

  walk_end : (n next low : ℕ) (flags : List Bool) → Some flags ≡ walk_of w [] n next low flags
  unfolding walk_of
  walk_end n next low flags = refl

  -- a byte begins
  pub byte_starts : (d : List ℕ) (at size j b n next low : ℕ) (flags : List Bool) (x : Option (List Bool)) → at + size ≤ length d → j < size → b ≡ byte_at (swapped d) (at + j)
      → walk_of w (states_of (drop j (part_of d at size))) n next low flags ≡ x
      → walk_of w (drop 0 (states_in (says_of b)) ++ states_of (drop (j + 1) (part_of d at size))) n next low flags ≡ x
  byte_starts d at size j b n next low flags x fits l e h =
      ap (λ (y : ℕ). walk_of w (states_in (says_of y) ++ states_of (drop (j + 1) (part_of d at size))) n next low flags) (e ∙ sym (part_at d at size j l))
      ∙ ap (λ (ss : List Bool). walk_of w ss n next low flags) (sym (states_cons (part_of d at size) j (omega (arith, part_length d at size fits)))) ∙ h

  -- a state of it is walked
  pub state_walked : (ss r : List Bool) (i n next low at : ℕ) (flags : List Bool) (t never k : Bool) (x : Option (List Bool)) → at ≡ n % w → i < length ss → t ≡ get_or ss i false → never ≡ cond t (leb next n) false
      → never ≡ false → k ≡ cond (get_or flags at false) true (cond t (leb low n) false) → walk_of w (drop i ss ++ r) n next low flags ≡ x
      → walk_of w (drop (i + 1) ss ++ r) (n + 1) next low (set flags at k) ≡ x
  state_walked ss r i n next low at flags t never k x a l et en e ek h =
      ap (λ (m : ℕ). walk_of w (drop (i + 1) ss ++ r) (n + 1) next low (set flags m k)) a ∙
      walk_goes (get_or ss i false) (drop (i + 1) ss ++ r) n next low flags k (ap (λ (y : Bool). cond y (leb next n) false) (sym et) ∙ sym en ∙ e)
      (rw a at ek ∙ ap (λ (y : Bool). cond (get_or flags (n % w) false) true (cond y (leb low n) false)) et)
      ∙ ap (λ (y : List Bool). walk_of w (y ++ r) n next low flags) (sym (bool_cons ss i l)) ∙ h

  pub state_stops : (ss r : List Bool) (i n next low : ℕ) (flags : List Bool) (t never : Bool) (x : Option (List Bool)) → i < length ss → t ≡ get_or ss i false → never ≡ cond t (leb next n) false
      → never ≡ true → walk_of w (drop i ss ++ r) n next low flags ≡ x → None ≡ x
  state_stops ss r i n next low flags t never x l et en e h =
      walk_stops (get_or ss i false) (drop (i + 1) ss ++ r) n next low flags (ap (λ (y : Bool). cond y (leb next n) false) (sym et) ∙ sym en ∙ e)
      ∙ ap (λ (y : List Bool). walk_of w (y ++ r) n next low flags) (sym (bool_cons ss i l)) ∙ h

  -- the byte ends, and the vector
  pub byte_ends : (ss r : List Bool) (i n next low : ℕ) (flags : List Bool) (x : Option (List Bool)) → length ss ≤ i → walk_of w (drop i ss ++ r) n next low flags ≡ x → walk_of w r n next low flags ≡ x
  byte_ends ss r i n next low flags x l h = ap (λ (y : List Bool). walk_of w (y ++ r) n next low flags) (sym (drop_of_length-le ss l)) ∙ h

  pub vector_ends : (d : List ℕ) (at size j n next low : ℕ) (flags : List Bool) (x : Option (List Bool)) → at + size ≤ length d → size ≤ j
      → walk_of w (states_of (drop j (part_of d at size))) n next low flags ≡ x → Some flags ≡ x
  vector_ends d at size j n next low flags x fits l h =
      walk_end n next low flags
      ∙ ap (λ (ss : List Bool). walk_of w ss n next low flags) (sym (states_end (part_of d at size) j (omega (arith, part_length d at size fits)))) ∙ h
