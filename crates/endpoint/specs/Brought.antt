-- In a history of demand 3's set the first datagram is accepted, as every other one: so something is brought exactly if a datagram comes.
use Rattle.std.specs.Prelude.{ℕ, Bool, true, ◌≡◌}
use Rattle.std.proofs.Math.Bool.{false}
use mathlib.Core.List.Memᴰ
use mathlib.Core.List.{List, [], ◌∷◌}
use Rattle.std.proofs.Math.Path.{refl, ap}
use Rattle.std.proofs.Common.{◌∙◌}
use Rattle.common.specs.Facts.{clash, or_left}
use Rattle.window.specs.Members.{In}
use Rattle.receiver.specs.Record.{State}
use Rattle.receiver.specs.Receive.{receive_answer}
use Rattle.receiver.specs.History.{Event, arrives, takes, run_of, datagrams_of}
use Rattle.receiver.specs.Set.{Set, From}
use Rattle.receiver.specs.Order.Moments.{Good, good_outset, answer_zero}
use Rattle.receiver.specs.Order.Runs.{run_good}
use Rattle.sender.specs.Remembering.{is_packet, is_heard}
use Rattle.endpoint.specs.History.{brought_in}

-- is there a datagram?
abbrev pub is_any : List (List ℕ) → Bool
is_any [] = false
is_any (d ∷ ds) = true

pub any_in_lem : (d : List ℕ) (ds : List (List ℕ)) → In d ds → is_any ds ≡ true
any_in_lem d [] m = elim m [ ]
any_in_lem d (x ∷ xs) m = refl

module _ (w cap : ℕ) (o : State) (ds : List (List ℕ)) (set : Set w cap o ds) where
  brought_from : (es : List Event) → From ds es → {lo e : ℕ} {seen has : ℕ → Bool} {s : State} → Good w cap o ds set lo e seen has s
      → brought_in w cap s es ≡ is_any (datagrams_of es)
  unfolding brought_in datagrams_of run_of
  brought_from [] from g = refl
  brought_from (arrives d ∷ es) from {s = s} g =
      let i : In d ds = from d (Memᴰ.head refl) in
      or_left (is_heard (receive_answer w cap s d) d) _
      (ap (λ (n : ℕ). is_heard n d) (answer_zero w cap o ds set g d i) ∙ ap is_packet (set.readable d i).reads)
  brought_from (takes room ∷ es) from g = brought_from es from (run_good w cap o ds set (takes room ∷ []) (λ d i. clash false (any_in_lem d [] i) refl) g)

  pub brought_all : (es : List Event) → From ds es → brought_in w cap o es ≡ is_any (datagrams_of es)
  brought_all es from = brought_from es from (good_outset w cap o ds set)
