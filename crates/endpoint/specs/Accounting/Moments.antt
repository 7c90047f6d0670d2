-- A history acknowledges a block exactly if at some moment an accepted datagram named a pending transmission of it.
use Prim.Native.Nat.{ℕ}
use Rattle.std.proofs.Math.Bool.{Bool, true, false, cond}
use mathlib.Core.List.{List, [], ◌∷◌, ◌++◌}
use Rattle.std.specs.Prelude.{◌⊎◌, ◌≡◌, Err, Ok, Some, None}
use Rattle.std.proofs.Math.Logic.{inl, inr, ⊎_elim}
use Rattle.std.proofs.Math.Option.{Option, none, some}
use Rattle.std.proofs.Math.Path.{refl, ap, subst}
use Rattle.std.proofs.Common.{sym, ◌∙◌, eqb-true, eq-eqb}
use Rattle.std.proofs.Math.Dec.{eqb}
use Rattle.common.specs.Facts.{bool, clash, or_left, or_right, or_cases}
use Rattle.wire.specs.declared.Packet.{Packet}
use Rattle.wire.specs.Read.{read_of, Reading}
use Rattle.sender.specs.declared.Sender.{Sender}
use Rattle.sender.specs.Acknowledge.{told_names, told_by}
use Rattle.sender.specs.Tells.{tells}
use Rattle.sender.specs.Send.{lowest_waiting}
use Rattle.sender.specs.Turned.{both_hold}
use Rattle.endpoint.specs.Calls.{Endpoint, Call, receives, takes, acknowledges, sends, resends, sweeps, answer_of, call_of, calls_of}
use Rattle.endpoint.specs.Accounts.{Entry, sent, told, swept, resent_as, entries_of, added_by, history_of, any_in, transmits_under, pending_in, names_pending, acknowledged_in, Gone, NamedWhilePending}
use Rattle.endpoint.specs.Accounting.Entries.{gone_any, any_gone}

-- A datagram that names a number is a packet.
reads_as : (s : Sender) (d : List ℕ) (n : ℕ) → told_names (tells s d (read_of d)) n ≡ true
    → (p : Packet) × (read_of d ≡ Ok (Some p)) × (told_names (told_by s d p) n ≡ true)
unfolding tells told_names
reads_as s d n t = go (read_of d) refl t
  where
    go : (r : Reading) → read_of d ≡ r → told_names (tells s d r) n ≡ true → (p : Packet) × (read_of d ≡ Ok (Some p)) × (told_names (told_by s d p) n ≡ true)
    go (Err k) e t = clash false t refl
    go (Ok None) e t = clash false t refl
    go (Ok (Some p)) e t = (p, e, t)

-- What is acknowledged stays so.
stays : (c : ℕ) (l h : List Entry) → acknowledged_in h c ≡ true → acknowledged_in (l ++ h) c ≡ true
unfolding acknowledged_in
stays c [] h t = t
stays c (sent again n d ∷ l) h t = stays c l h t
stays c (told f ∷ l) h t = or_right (any_in (transmits_under (names_pending f (l ++ h)) c) (l ++ h)) _ (stays c l h t)
stays c (swept f ∷ l) h t = stays c l h t

module _ (w cap c : ℕ) where
  -- A call that acknowledges the block is a datagram that names it.
  at_call : (h : List Entry) (e : Endpoint) (x : Call) (cs : List Call) → answer_of w cap e x ≡ 0 → acknowledged_in (entries_of w e x ++ h) c ≡ true
      → (acknowledged_in h c ≡ true) ⊎ NamedWhilePending w cap h e (x ∷ cs) c
  unfolding entries_of acknowledged_in calls_of history_of
  at_call h e (receives d) cs a t =
      ⊎_elim
      (λ y. let (n, g, m) = any_gone (names_pending (told_names (tells e.halves.sender d (read_of d))) h) c h y in
      let (k, p) = both_hold (told_names (tells e.halves.sender d (read_of d)) n) (pending_in h n) m in
      let (q, r, z) = reads_as e.halves.sender d n k in
      inr (record {
        before = [];
        datagram = d;
        later = cs;
        splits = refl;
        accepted = a;
        packet = q;
        reads = r;
        number = n;
        names = z;
        transmission = g;
        pends = p;
      }))
      (λ y. inl y)
      (or_cases (any_in (transmits_under (names_pending (told_names (tells e.halves.sender d (read_of d))) h) c) h) (acknowledged_in h c) t)
  at_call h e (takes room) cs a t = inl t
  at_call h e (acknowledges stamp gap room) cs a t = inl t
  at_call h e (sends tick block room) cs a t = inl t
  at_call h e (resends tick room) cs a t = inl (found (lowest_waiting w e.halves.sender) t)
    where
      found : (o : Option ℕ) → acknowledged_in (resent_as e.halves.sender.next.0 o ++ h) c ≡ true → acknowledged_in h c ≡ true
      found none k = k
      found (some d) k = k
  at_call h e (sweeps tick) cs a t = inl t

  by_call : (h : List Entry) (e : Endpoint) (x : Call) (cs : List Call) → acknowledged_in (added_by w cap e x ++ h) c ≡ true
      → (acknowledged_in h c ≡ true) ⊎ NamedWhilePending w cap h e (x ∷ cs) c
  unfolding added_by
  by_call h e x cs t =
      ⊎_elim
      (λ a. at_call h e x cs (eqb-true _ _ a) (chosen true a))
      (λ a. inl (chosen false a))
      (bool (eqb (answer_of w cap e x) 0))
    where
      chosen : (b : Bool) → eqb (answer_of w cap e x) 0 ≡ b → acknowledged_in (cond b (entries_of w e x) [] ++ h) c ≡ true
      chosen b a = subst (λ (z : Bool). acknowledged_in (cond z (entries_of w e x) [] ++ h) c ≡ true) a t

  -- Of calls, one is that datagram,
  since : (h : List Entry) (e : Endpoint) (cs : List Call) → acknowledged_in (history_of w cap h e cs) c ≡ true
      → (acknowledged_in h c ≡ true) ⊎ NamedWhilePending w cap h e cs c
  unfolding calls_of history_of
  since h e [] t = inl t
  since h e (x ∷ cs) t =
      ⊎_elim
      (λ y. by_call h e x cs y)
      (λ k. inr (record {
        before = x ∷ k.before;
        datagram = k.datagram;
        later = k.later;
        splits = ap (λ (l : List Call). x ∷ l) k.splits;
        accepted = k.accepted;
        packet = k.packet;
        reads = k.reads;
        number = k.number;
        names = k.names;
        transmission = k.transmission;
        pends = k.pends;
      }))
      (since (added_by w cap e x ++ h) (call_of w cap e x) cs t)

  pub acknowledged_named : (e : Endpoint) (cs : List Call) → acknowledged_in (history_of w cap [] e cs) c ≡ true → NamedWhilePending w cap [] e cs c
  unfolding acknowledged_in
  acknowledged_named e cs t = ⊎_elim (λ y. clash false y refl) (λ k. k) (since [] e cs t)

  -- and the other way: from that datagram on the block is acknowledged.
  kept : (h : List Entry) (e : Endpoint) (cs : List Call) → acknowledged_in h c ≡ true → acknowledged_in (history_of w cap h e cs) c ≡ true
  unfolding history_of
  kept h e [] t = t
  kept h e (x ∷ cs) t = kept (added_by w cap e x ++ h) (call_of w cap e x) cs (stays c (added_by w cap e x) h t)

  joins : (h : List Entry) (e : Endpoint) (bs cs : List Call)
      → history_of w cap h e (bs ++ cs) ≡ history_of w cap (history_of w cap h e bs) (calls_of w cap e bs) cs
  unfolding history_of calls_of
  joins h e [] cs = refl
  joins h e (x ∷ bs) cs = joins (added_by w cap e x ++ h) (call_of w cap e x) bs cs

  at_once : (h : List Entry) (e : Endpoint) (d : List ℕ) (cs : List Call) (n : ℕ) → answer_of w cap e (receives d) ≡ 0 → Gone n c h
      → told_names (tells e.halves.sender d (read_of d)) n ≡ true → pending_in h n ≡ true → acknowledged_in (history_of w cap h e (receives d ∷ cs)) c ≡ true
  unfolding history_of added_by entries_of acknowledged_in
  at_once h e d cs n a g t p =
      kept (added_by w cap e (receives d) ++ h) (call_of w cap e (receives d)) cs
      (subst (λ (b : Bool). acknowledged_in (cond b (told names ∷ []) [] ++ h) c ≡ true) (sym (eq-eqb (answer_of w cap e (receives d)) 0 a))
      (or_left _ (acknowledged_in h c) (gone_any (names_pending names h) c n h g (ap (λ (b : Bool). cond b (pending_in h n) false) t ∙ p))))
    where
      names : ℕ → Bool
      names = told_names (tells e.halves.sender d (read_of d))

  pub named_acknowledged : (h : List Entry) (e : Endpoint) (cs : List Call) → NamedWhilePending w cap h e cs c → acknowledged_in (history_of w cap h e cs) c ≡ true
  unfolding tells
  named_acknowledged h e cs k =
      ap (λ (l : List Call). acknowledged_in (history_of w cap h e l) c) k.splits
      ∙ ap (λ (l : List Entry). acknowledged_in l c) (joins h e k.before (receives k.datagram ∷ k.later))
      ∙ at_once (history_of w cap h e k.before) (calls_of w cap e k.before) k.datagram k.later k.number k.accepted k.transmission
      (ap (λ (r : Reading). told_names (tells (calls_of w cap e k.before).halves.sender k.datagram r) k.number) k.reads ∙ k.names) k.pends
