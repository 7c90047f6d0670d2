-- A whole history of demand 3's set: what came by its end, and what was handed over.
use Prim.Native.Nat.{ℕ, zero, suc, ◌+◌}
use Rattle.std.specs.Prelude.{Bool, ◌≡◌}
use mathlib.Core.List.Memᴰ
use mathlib.Core.List.{List, [], ◌∷◌, ◌++◌, map}
use Rattle.std.proofs.Math.Logic.{⊎_elim}
use Rattle.std.proofs.Math.Path.{refl, ap}
use Rattle.std.proofs.Common.{◌∙◌}
use native.Mathlib.Omega.{arith}
use Rattle.window.specs.Members.{came, top}
use Rattle.receiver.specs.Record.{State}
use Rattle.receiver.specs.Packet.{waived}
use Rattle.receiver.specs.Determined.{blocks_from}
use Rattle.receiver.specs.History.{Event, arrives, takes, step_of, run_of, handed_of, datagrams_of, takes_of}
use Rattle.receiver.specs.Set.{Set, From}
use Rattle.receiver.specs.Order.Moments.{Good, brings_of, body, arrival_good, arrival_due, taken_good, take_good, take_cases}

pub run_append : (w cap : ℕ) (s : State) (es fs : List Event) → run_of w cap s (es ++ fs) ≡ run_of w cap (run_of w cap s es) fs
unfolding run_of
run_append w cap s [] fs = refl
run_append w cap s (e ∷ es) fs = run_append w cap (step_of w cap s e) es fs

pub takes_bring : (es : List Event) (i : ℕ) → datagrams_of (es ++ takes_of i) ≡ datagrams_of es
unfolding datagrams_of takes_of
takes_bring [] zero = refl
takes_bring [] (suc i) = takes_bring [] i
takes_bring (arrives d ∷ es) i = ap (λ (l : List (List ℕ)). d ∷ l) (takes_bring es i)
takes_bring (takes room ∷ es) i = takes_bring es i

module _ (w cap : ℕ) (o : State) (ds : List (List ℕ)) (k : Set w cap o ds) where
  -- what the packets of some datagrams say
  abbrev pub numbers_of : List (List ℕ) → List ℕ
  numbers_of l = map (λ (d : List ℕ). (brings_of w cap o ds k d).number) l

  abbrev pub channels_of : List (List ℕ) → List ℕ
  channels_of l = map (λ (d : List ℕ). (brings_of w cap o ds k d).channel) l

  abbrev pub ends_of : List (List ℕ) → List ℕ
  ends_of l = map (λ (d : List ℕ). (brings_of w cap o ds k d).number + 1) l

  abbrev pub floors_of : List (List ℕ) → List ℕ
  floors_of l = map (λ (d : List ℕ). waived (brings_of w cap o ds k d).aoa) l

  pub run_good : (es : List Event) → From ds es → {lo e : ℕ} {seen has : ℕ → Bool} {s : State} → Good w cap o ds k lo e seen has s
      → Good w cap o ds k (top lo (floors_of (datagrams_of es))) (top e (ends_of (datagrams_of es)))
      (came seen (numbers_of (datagrams_of es))) (came has (channels_of (datagrams_of es))) (run_of w cap s es)
  unfolding run_of datagrams_of came top
  run_good [] from g = g
  run_good (arrives d ∷ es) from g =
      run_good es (λ x i. from x (Memᴰ.tail i)) (arrival_good w cap o ds k g d (from d (Memᴰ.head refl)))
  run_good (takes room ∷ es) from g = run_good es from (take_good w cap o ds k g room)

  -- The blocks handed over are those from due on, as many as due moves.
  pub run_handed : (es : List Event) → From ds es → {lo e : ℕ} {seen has : ℕ → Bool} {s : State} → Good w cap o ds k lo e seen has s
      → (i : ℕ) × (handed_of w cap s es ≡ blocks_from (body w cap o ds k) s.receiver.due.0 i)
      × ((run_of w cap s es).receiver.due.0 ≡ s.receiver.due.0 + i)
  unfolding run_of datagrams_of handed_of blocks_from
  run_handed [] from g = (0, refl, omega arith)
  run_handed (arrives d ∷ es) from {s = s} g =
      let j = from d (Memᴰ.head refl) in
      let (i, h, q) = run_handed es (λ x m. from x (Memᴰ.tail m)) (arrival_good w cap o ds k g d j) in
      let same = arrival_due w cap o ds k g d j in
      (i, h ∙ ap (λ (c : ℕ). blocks_from (body w cap o ds k) c i) same, q ∙ ap (λ (c : ℕ). c + i) same)
  run_handed (takes room ∷ es) from {s = s} g =
      ⊎_elim
      (λ t. let (i, h, q) = run_handed es from g in (
        i,
        ap (λ (l : List (List ℕ)). l ++ handed_of w cap (step_of w cap s (takes room)) es) t.1
            ∙ ap (λ (x : State). handed_of w cap x es) t.0
            ∙ h,
        ap (λ (x : State). (run_of w cap x es).receiver.due.0) t.0 ∙ q,
      ))
      (λ t. let (i, h, q) = run_handed es from (taken_good w cap o ds k g t.0) in (
        suc i,
        ap (λ (l : List (List ℕ)). l ++ handed_of w cap (step_of w cap s (takes room)) es) t.2
            ∙ ap (λ (x : State). body w cap o ds k s.receiver.due.0 ∷ handed_of w cap x es) t.1
            ∙ ap (λ (l : List (List ℕ)). body w cap o ds k s.receiver.due.0 ∷ l) h,
        ap (λ (x : State). (run_of w cap x es).receiver.due.0) t.1 ∙ q ∙ omega arith,
      ))
      (take_cases w cap o ds k g room)
