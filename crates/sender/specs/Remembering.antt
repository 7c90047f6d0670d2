-- What is remembered of the peer's LogWindowSize (document 02, W5) after a datagram; and that the field changes nothing of what acknowledgements answer or turn: each law
-- says that it passes a step by.
use Prim.Native.Nat.{ℕ, zero, suc, ◌+◌}
use Rattle.std.specs.Prelude.{Bool, List, ◌≡◌, eqb, Err, Ok, Some, None}
use Rattle.std.proofs.Math.Bool.{true, false, cond}
use Rattle.std.proofs.Math.Path.{refl, ap}
use Rattle.std.proofs.Common.{sym, ◌∙◌}
use Rattle.common.specs.Facts.{clash}
use Rattle.common.specs.Answer.{no_of}
use Rattle.wire.specs.declared.Packet.{Packet}
use Rattle.wire.specs.Read.{read_of, Reading}
use Rattle.sender.specs.declared.Sender.{Sender}
use Rattle.sender.specs.Record.{is_pending, remembering, number_at}
use Rattle.sender.specs.Consistent.{number_ok, block_ok, carries, one_carrier, spare_number, spare_block, consistent_of}
use Rattle.sender.specs.Turn.{Turn, turned_at, turn_one, turn_up_to, numbers_moved, blocks_moved, turned_of}
use Rattle.sender.specs.Acknowledge.{acknowledging, acknowledged_of, Told, silent, up_to, listed, told_answer, told_names, told_of, told_by, packet_of, read_answer, read_into, acknowledge_answer, acknowledge_of}

-- the LogWindowSize of what was read, or k: a dummy has none, nor has what does not read
unfoldable pub size_in : Reading → ℕ → ℕ
size_in (Err n) k = k
size_in (Ok None) k = k
size_in (Ok (Some p)) k = p.values.logwindow

-- what is remembered after a datagram that was answered so, where k was before
abbrev pub remembered_after : ℕ → List ℕ → ℕ → ℕ
remembered_after answer d k = cond (eqb answer 0) (size_in (read_of d) k) k

-- was a packet of type 0 read?
abbrev pub is_packet : Reading → Bool
is_packet (Err n) = false
is_packet (Ok None) = false
is_packet (Ok (Some p)) = true

-- is a datagram that was answered so a packet of type 0, and accepted?
abbrev pub is_heard : ℕ → List ℕ → Bool
is_heard answer d = cond (eqb answer 0) (is_packet (read_of d)) false

-- "all carrying the same LogWindowSize": this datagram carries k, if it is a packet of type 0
abbrev pub Sized : ℕ → List ℕ → Type 0
Sized k d = (p : Packet) → read_of d ≡ Ok (Some p) → p.values.logwindow ≡ k

-- So k is remembered exactly if it is accepted.
pub heard_sized : (k : ℕ) (d : List ℕ) → Sized k d → (answer j : ℕ) → remembered_after answer d j ≡ cond (is_heard answer d) k j
unfolding size_in
heard_sized k d sized answer j = go (read_of d) refl (eqb answer 0)
  where
    go : (x : Reading) → read_of d ≡ x → (b : Bool) → cond b (size_in x j) j ≡ cond (cond b (is_packet x) false) k j
    go x e false = refl
    go (Err n) e true = refl
    go (Ok None) e true = refl
    go (Ok (Some p)) e true = sized p e

-- Where it is not, nothing changes.
pub unheard : (d : List ℕ) (answer k : ℕ) → is_heard answer d ≡ false → remembered_after answer d k ≡ k
unfolding size_in
unheard d answer k = go (read_of d) (eqb answer 0)
  where
    go : (x : Reading) (b : Bool) → cond b (is_packet x) false ≡ false → cond b (size_in x k) k ≡ k
    go x false h = refl
    go (Err n) true h = refl
    go (Ok None) true h = refl
    go (Ok (Some p)) true h = clash true refl h

pub either_way : {A : Type 0} (b : Bool) (x : A) → cond b x x ≡ x
either_way true x = refl
either_way false x = refl

module _ (k : ℕ) where
  pub consistent_remembering : (w cap : ℕ) (s : Sender) → consistent_of w cap (remembering k s) ≡ consistent_of w cap s
  unfolding consistent_of number_ok block_ok carries one_carrier spare_number spare_block
  consistent_remembering w cap s = refl

  cond_remembering : (b : Bool) (x y : Sender) → cond b (remembering k x) (remembering k y) ≡ remembering k (cond b x y)
  cond_remembering true x y = refl
  cond_remembering false x y = refl

  up_to_remembering : (w : ℕ) (t : Turn) (g : ℕ → Bool) (s : Sender) (i : ℕ) → turn_up_to w t g (remembering k s) i ≡ remembering k (turn_up_to w t g s i)
  unfolding turn_up_to turn_one
  up_to_remembering w t g s zero = refl
  up_to_remembering w t g s (suc i) =
      ap (λ (q : Sender). turn_one w t g q (s.low.0 + i)) (up_to_remembering w t g s i)
      ∙ cond_remembering (cond (is_pending (number_at w (turn_up_to w t g s i) (s.low.0 + i))) (g (s.low.0 + i)) false)
      (turned_at w t (turn_up_to w t g s i) (s.low.0 + i)) (turn_up_to w t g s i)

  turned_passes : (w : ℕ) (t : Turn) (g : ℕ → Bool) (s : Sender) → turned_of w t g (remembering k s) ≡ remembering k (turned_of w t g s)
  unfolding turned_of numbers_moved blocks_moved
  turned_passes w t g s = ap (λ (q : Sender). blocks_moved w w (numbers_moved w w q)) (up_to_remembering w t g s w)

  answer_remembering : (s : Sender) (m : Told) → told_answer (remembering k s) m ≡ told_answer s m
  unfolding told_answer
  answer_remembering s silent = refl
  answer_remembering s (up_to a) = refl
  answer_remembering s (listed a v) = refl

  told_remembers : (w : ℕ) (s : Sender) (m : Told) → told_of w (remembering k s) m ≡ remembering k (told_of w s m)
  unfolding told_of told_answer acknowledged_of
  told_remembers w s silent = refl
  told_remembers w s (up_to a) =
      ap (λ (q : Sender). cond (eqb (told_answer s (up_to a)) 0) q (remembering k s)) (turned_passes w acknowledging (told_names (up_to a)) s)
      ∙ cond_remembering (eqb (told_answer s (up_to a)) 0) _ s
  told_remembers w s (listed a v) =
      ap (λ (q : Sender). cond (eqb (told_answer s (listed a v)) 0) q (remembering k s)) (turned_passes w acknowledging (told_names (listed a v)) s)
      ∙ cond_remembering (eqb (told_answer s (listed a v)) 0) _ s

-- Turning leaves the field.
pub turned_window : (w : ℕ) (t : Turn) (g : ℕ → Bool) (s : Sender) → (turned_of w t g s).logwindow ≡ s.logwindow
turned_window w t g s = ap (λ (q : Sender). q.logwindow) (turned_passes s.logwindow w t g s)

-- One datagram into a sender that remembers k.
module _ (k w cap : ℕ) (s : Sender) (d : List ℕ) where
  read_answers : (x : Reading) → read_answer (remembering k s) d x ≡ read_answer s d x
  unfolding read_answer told_by
  read_answers (Err n) = refl
  read_answers (Ok None) = refl
  read_answers (Ok (Some p)) = answer_remembering k s (told_by s d p)

  pub acknowledge_answers : acknowledge_answer w cap (remembering k s) d ≡ acknowledge_answer w cap s d
  unfolding acknowledge_answer
  acknowledge_answers = rw (consistent_remembering k w cap s) (ap (λ (n : ℕ). cond (consistent_of w cap s) n 13) (read_answers (read_of d)))

  packet_remembers : (p : Packet) (m : Told) (b : Bool)
      → cond b (remembering p.values.logwindow (told_of w (remembering k s) m)) (remembering k s)
      ≡ remembering (cond b p.values.logwindow k) (cond b (remembering p.values.logwindow (told_of w s m)) s)
  packet_remembers p m true = ap (remembering p.values.logwindow) (told_remembers k w s m)
  packet_remembers p m false = refl

  read_remembers : (x : Reading) → read_into w (remembering k s) d x ≡ remembering (cond (eqb (read_answer s d x) 0) (size_in x k) k) (read_into w s d x)
  unfolding read_into read_answer packet_of told_by size_in
  read_remembers (Err n) = ap (λ (j : ℕ). remembering j s) (sym (either_way (eqb (no_of n) 0) k))
  read_remembers (Ok None) = refl
  read_remembers (Ok (Some p)) =
      ap (λ (n : ℕ). cond (eqb n 0) (remembering p.values.logwindow (told_of w (remembering k s) (told_by s d p))) (remembering k s))
      (answer_remembering k s (told_by s d p))
      ∙ packet_remembers p (told_by s d p) (eqb (told_answer s (told_by s d p)) 0)

  -- THE LAW: the record is the one that it leaves of any such sender, and the field is its own if it is accepted.
  pub acknowledge_remembers : acknowledge_of w cap (remembering k s) d ≡ remembering (remembered_after (acknowledge_answer w cap s d) d k) (acknowledge_of w cap s d)
  unfolding acknowledge_of acknowledge_answer
  acknowledge_remembers =
      rw (consistent_remembering k w cap s)
      (ap (λ (q : Sender). cond (consistent_of w cap s) q (remembering k s)) (read_remembers (read_of d)) ∙ go (consistent_of w cap s))
    where
      go : (b : Bool) → cond b (remembering (cond (eqb (read_answer s d (read_of d)) 0) (size_in (read_of d) k) k) (read_into w s d (read_of d))) (remembering k s)
          ≡ remembering (cond (eqb (cond b (read_answer s d (read_of d)) 13) 0) (size_in (read_of d) k) k) (cond b (read_into w s d (read_of d)) s)
      go true = refl
      go false = refl
