-- The receiver's blocks as facts on which are wanted in their places: what a packet and a take do to them.
use Rattle.std.specs.Prelude.{ℕ, ◌+◌, ◌≤◌, ◌<◌, Bool, true, false, cond, not, ◌≡◌, refl, eqb}
use Rattle.std.proofs.Common.{⊎_elim, sym, ◌∙◌, ap, subst, arith, lt-ltb, le-ltb, eqb-true}
use Rattle.std.proofs.lemmas.Bool.{eqb-false}
use Rattle.common.specs.Facts.{lt_or_ge, bool, clash}
use Rattle.numbers.specs.Full.{highest, past_highest}
use Rattle.window.specs.Store.{place_size}
use Rattle.window.specs.Window.{Win, put, passed}
use Rattle.window.specs.Sliding.{Shape, Weak, updated, updated_at, updated_off, put_weak, below_weak, pass_weak}
use Rattle.receiver.specs.declared.Hold.{Hold}
use Rattle.receiver.specs.declared.Receiver.{Receiver}
use Rattle.receiver.specs.Record.{is_held, empty, holding, holds_of, hold_at}
use Rattle.receiver.specs.Packet.{is_new, keeps}
use Rattle.receiver.specs.Determined.{inside, held_in}
use Rattle.receiver.specs.Facts.{Facts}
use Rattle.receiver.specs.Keeping.Marks.{in_window, window_in, window_out}

-- lo is due at the outset
pub record Holds (w cap lo : ℕ) (want : ℕ → Hold) (m : Win Hold) : Type 0 where
  pub weak : Weak empty w cap is_held lo want m
  pub short : (c : ℕ) → is_held (want c) ≡ true → (want c).length ≤ place_size
  pub range : (c : ℕ) → is_held (want c) ≡ true → c ≤ highest
  pub clear : (c : ℕ) → is_held (want c) ≡ false → want c ≡ empty
  pub low_range : lo ≤ past_highest

pub hold_shape : (w cap : ℕ) → 0 < w → w ≤ cap → Shape empty w cap is_held
hold_shape w cap pos fits = record { some = pos; fits = fits; stops = refl }

-- A consistent record's blocks.

abbrev pub hold_in : ℕ → Receiver → ℕ → Hold
hold_in w r c = cond (inside w r.due.0 c) (hold_at w r c) empty

hold_in_lem : (w : ℕ) (r : Receiver) (c : ℕ) → r.due.0 ≤ c → c < r.due.0 + w → hold_in w r c ≡ hold_at w r c
hold_in_lem w r c l u = ap (λ (b : Bool). cond b (hold_at w r c) empty) (window_in w r.due.0 c l u)

in_hold : (w : ℕ) (r : Receiver) (c : ℕ) → is_held (hold_in w r c) ≡ true → (r.due.0 ≤ c) × (c < r.due.0 + w) × (is_held (hold_at w r c) ≡ true)
in_hold w r c e =
    ⊎_elim
    (λ t. let (l, u) = in_window w r.due.0 c t in (l, u, ap is_held (sym (hold_in_lem w r c l u)) ∙ e))
    (λ t. clash (is_held (hold_in w r c)) e (ap (λ (b : Bool). is_held (cond b (hold_at w r c) empty)) t))
    (bool (inside w r.due.0 c))

pub holds_outset : (w cap : ℕ) (r : Receiver) → Facts w cap r → Holds w cap r.due.0 (hold_in w r) (holds_of r)
holds_outset w cap r k =
    record {
      weak =
          record {
            size = k.holds_size;
            from = omega arith;
            below = λ n l u. absurd (omega arith);
            holds = λ c l u. sym (hold_in_lem w r c l u);
            beyond = λ c l. ap (λ (b : Bool). cond b (hold_at w r c) empty) (window_out w r.due.0 c l);
            spare = k.holds_spare;
          };
      short = λ c t. let (l, u, x) = in_hold w r c t in
          subst (λ (h : Hold). h.length ≤ place_size) (sym (hold_in_lem w r c l u)) (k.held_short c l u x);
      range = λ c t. let (l, u, x) = in_hold w r c t in k.held_range c l u x;
      clear = clear;
      low_range = k.due_range;
    }
  where
    clear : (c : ℕ) → is_held (hold_in w r c) ≡ false → hold_in w r c ≡ empty
    clear c t = ⊎_elim (λ i. within (in_window w r.due.0 c i)) (λ i. ap (λ (b : Bool). cond b (hold_at w r c) empty) i) (bool (inside w r.due.0 c))
      where
        within : (r.due.0 ≤ c) × (c < r.due.0 + w) → hold_in w r c ≡ empty
        within (l, u) = hold_in_lem w r c l u ∙ k.not_held c l u (ap is_held (sym (hold_in_lem w r c l u)) ∙ t)

-- a block of the window is held exactly if its place says so
pub held_in_lem : (w : ℕ) (r : Receiver) (c : ℕ) → r.due.0 ≤ c → c < r.due.0 + w → held_in w r c ≡ is_held (hold_at w r c)
unfolding held_in
held_in_lem w r c l u = ap (λ (b : Bool). cond b (is_held (hold_at w r c)) false) (window_in w r.due.0 c l u)

pub held_out : (w : ℕ) (r : Receiver) (c : ℕ) → inside w r.due.0 c ≡ false → held_in w r c ≡ false
unfolding held_in
held_out w r c e = ap (λ (b : Bool). cond b (is_held (hold_at w r c)) false) e

pub in_held : (w : ℕ) (r : Receiver) (c : ℕ) → held_in w r c ≡ true → (r.due.0 ≤ c) × (c < r.due.0 + w) × (is_held (hold_at w r c) ≡ true)
unfolding held_in
in_held w r c e =
    ⊎_elim
    (λ t. let (l, u) = in_window w r.due.0 c t in (l, u, sym (ap (λ (b : Bool). cond b (is_held (hold_at w r c)) false) t) ∙ e))
    (λ t. clash (held_in w r c) e (ap (λ (b : Bool). cond b (is_held (hold_at w r c)) false) t))
    (bool (inside w r.due.0 c))

-- What a block does to them.

-- what holds of a block of n bytes and of every want holds of every want with it
wanted : (P : ℕ → Hold → Type 0) (c : ℕ) (h : Hold) (want : ℕ → Hold) → P c h → ((x : ℕ) → P x (want x)) → (x : ℕ) → P x (updated c h want x)
wanted P c h want pc f x =
    ⊎_elim
    (λ t. let e = eqb-true x c t in
    subst (P x) (sym (updated_at c h want x e)) (subst (λ (y : ℕ). P y h) (sym e) pc))
    (λ t. subst (P x) (sym (updated_off c h want x (eqb-false x c t))) (f x))
    (bool (eqb x c))

module _ {w cap lo : ℕ} {want : ℕ → Hold} {m : Win Hold} (pos : 0 < w) (fits : w ≤ cap) (h : Holds w cap lo want m) where
  with_block : {q : Win Hold} (c n : ℕ) → c ≤ highest → n ≤ place_size → Weak empty w cap is_held lo (updated c (holding n) want) q
      → Holds w cap lo (updated c (holding n) want) q
  with_block c n lc ln k =
      record {
        weak = k;
        short = wanted (λ x y. is_held y ≡ true → y.length ≤ place_size) c (holding n) want (λ t. ln) h.short;
        range = wanted (λ x y. is_held y ≡ true → x ≤ highest) c (holding n) want (λ t. lc) h.range;
        clear = wanted (λ x y. is_held y ≡ false → y ≡ empty) c (holding n) want (λ t. clash true refl t) h.clear;
        low_range = h.low_range;
      }

  -- one that is not below due is put into its place
  pub holds_new : (c n : ℕ) → m.base ≤ c → c < lo + w → c ≤ highest → n ≤ place_size
      → Holds w cap lo (updated c (holding n) want) (put empty w m c (holding n))
  holds_new c n ge u lc ln = with_block c n lc ln (put_weak (hold_shape w cap pos fits) c (holding n) h.weak ge u)

  -- one below due leaves the places as they are
  pub holds_late : (c n : ℕ) → c < m.base → c < lo + w → c ≤ highest → n ≤ place_size → Holds w cap lo (updated c (holding n) want) m
  holds_late c n lt u lc ln = with_block c n lc ln (below_weak (hold_shape w cap pos fits) c (holding n) h.weak lt u refl)

  -- the one that is due is taken
  pub holds_taken : is_held (want m.base) ≡ true → Holds w cap lo want (passed empty w m)
  holds_taken t =
      record {
        weak = pass_weak (hold_shape w cap pos fits) h.weak t;
        short = h.short;
        range = h.range;
        clear = h.clear;
        low_range = h.low_range;
      }

  -- "due .. above 4,294,967,296"
  pub holds_range : m.base ≤ past_highest
  holds_range =
      ⊎_elim
      (λ lt. absurd (omega (arith, h.range past_highest (h.weak.below past_highest h.low_range lt))))
      (λ le. le)
      (lt_or_ge past_highest m.base)

-- Which blocks are kept.

pub keeps_late : (w : ℕ) (r : Receiver) (c : ℕ) → c < r.due.0 → keeps w r c ≡ false
unfolding is_new
keeps_late w r c h = rw (lt-ltb c r.due.0 h) refl

pub keeps_held : (w : ℕ) (r : Receiver) (c : ℕ) → r.due.0 ≤ c → is_held (hold_at w r c) ≡ true → keeps w r c ≡ false
unfolding is_new
keeps_held w r c ge t = rw (le-ltb c r.due.0 ge) (ap not t)

pub keeps_new : (w : ℕ) (r : Receiver) (c : ℕ) → r.due.0 ≤ c → is_held (hold_at w r c) ≡ false → keeps w r c ≡ true
unfolding is_new
keeps_new w r c ge t = rw (le-ltb c r.due.0 ge) (ap not t)
