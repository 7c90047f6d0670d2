-- A list of datagrams, taken in turn; and what their acknowledgements come to.
use Rattle.std.specs.Prelude.{ℕ, Bool, ◌||◌, ◌≡◌, eqb, ltb, Err, Ok, Some, None}
use Rattle.std.proofs.Math.Bool.{true, false, cond}
use mathlib.Core.List.Memᴰ
use mathlib.Core.List.{List, [], ◌∷◌}
use Rattle.std.proofs.Math.Logic.{⊎_elim}
use Rattle.std.proofs.Math.Path.{refl, ap}
use Rattle.std.proofs.Common.{sym, ◌∙◌, subst, eqb-true}
use Rattle.common.specs.Facts.{bool, clash, same_bool, or_left, or_right, or_cases}
use Rattle.window.specs.Members.{In}
use Rattle.wire.specs.declared.Packet.{Packet}
use Rattle.wire.specs.Read.{read_of, Reading}
use Rattle.sender.specs.declared.Sender.{Sender}
use Rattle.sender.specs.Record.{is_received, is_acknowledged, number_at, block_at}
use Rattle.sender.specs.Acknowledge.{acknowledging, told_names, told_by, acknowledge_answer, acknowledge_of}
use Rattle.sender.specs.Facts.{Facts, facts_consistent}
use Rattle.sender.specs.TurnedWants.{acknowledging_ends}
use Rattle.sender.specs.Remembering.{remembered_after, is_packet, is_heard, Sized, heard_sized, acknowledge_remembers}
use Rattle.sender.specs.Turned.{Turned, either_of, or_none, both_hold, turned_alike}
use Rattle.sender.specs.TurnedFacts.{turned_facts}
use Rattle.sender.specs.Tells.{tells, accepted_names, Alike, same_answer, same_names, datagram_turned}

-- "each call is given the records .. as the call before left them"
unfoldable pub run : ℕ → ℕ → Sender → List (List ℕ) → Sender
run w cap s [] = s
run w cap s (d ∷ ds) = run w cap (acknowledge_of w cap s d) ds

-- datagram d reads, is accepted, and names number n
pub record Names (w cap : ℕ) (s : Sender) (d : List ℕ) (n : ℕ) : Type 0 where
  pub packet : Packet
  pub reads : read_of d ≡ Ok (Some packet)
  pub accepted : acknowledge_answer w cap s d ≡ 0
  pub names : told_names (told_by s d packet) n ≡ true

-- some datagram of the list does
pub record Named (w cap : ℕ) (s : Sender) (ds : List (List ℕ)) (n : ℕ) : Type 0 where
  pub datagram : List ℕ
  pub listed : In datagram ds
  pub says : Names w cap s datagram n

-- some datagram of the list is a packet of type 0, and accepted
pub record Accepted (w cap : ℕ) (s : Sender) (ds : List (List ℕ)) : Type 0 where
  pub datagram : List ℕ
  pub listed : In datagram ds
  pub packet : Packet
  pub reads : read_of datagram ≡ Ok (Some packet)
  pub accepted : acknowledge_answer w cap s datagram ≡ 0

-- does one of the list pass the test?
unfoldable pub any_of : (List ℕ → Bool) → List (List ℕ) → Bool
any_of f [] = false
any_of f (d ∷ ds) = f d || any_of f ds

-- the two as tests
unfoldable pub named_in : ℕ → ℕ → Sender → List (List ℕ) → ℕ → Bool
named_in w cap s ds n = any_of (λ d. accepted_names w cap s d n) ds

unfoldable pub accepted_in : ℕ → ℕ → Sender → List (List ℕ) → Bool
accepted_in w cap s ds = any_of (λ d. is_heard (acknowledge_answer w cap s d) d) ds

-- number n is received: its place says so, or low has passed it
abbrev pub has_received : ℕ → Sender → ℕ → Bool
has_received w s n = cond (ltb n s.low.0) true (is_received (number_at w s n))

-- block c is acknowledged: its place says so, or channel low has passed it
abbrev pub has_acknowledged : ℕ → Sender → ℕ → Bool
has_acknowledged w s c = cond (ltb c s.channellow.0) true (is_acknowledged (block_at w s c))

-- One passes exactly if there is one that does; so lists with the same members, and tests that agree, come to the same.
module _ (f : List ℕ → Bool) where
  any_at : (ds : List (List ℕ)) → any_of f ds ≡ true → (d : List ℕ) × In d ds × (f d ≡ true)
  unfolding any_of
  any_at [] h = clash false h refl
  any_at (d ∷ ds) h =
      ⊎_elim
      (λ t. (d, Memᴰ.head refl, t))
      (λ t. let (x, i, g) = any_at ds t in (x, Memᴰ.tail i, g))
      (or_cases (f d) (any_of f ds) h)

  any_from : (d : List ℕ) → f d ≡ true → (ds : List (List ℕ)) → In d ds → any_of f ds ≡ true
  unfolding any_of
  any_from d h [] i = elim i [ ]
  any_from d h (x ∷ xs) (Memᴰ.head e) = or_left (f x) (any_of f xs) (subst (λ (y : List ℕ). f y ≡ true) e h)
  any_from d h (x ∷ xs) (Memᴰ.tail m) = or_right (f x) (any_of f xs) (any_from d h xs m)

  any_same : (ds es : List (List ℕ)) → ((d : List ℕ) → In d ds → In d es) → ((d : List ℕ) → In d es → In d ds) → any_of f ds ≡ any_of f es
  any_same ds es there back =
      same_bool (any_of f ds) (any_of f es)
      (λ t. let (d, i, g) = any_at ds t in any_from d g es (there d i))
      (λ t. let (d, i, g) = any_at es t in any_from d g ds (back d i))

any_alike : (f g : List ℕ → Bool) → ((d : List ℕ) → f d ≡ g d) → (ds : List (List ℕ)) → any_of f ds ≡ any_of g ds
unfolding any_of
any_alike f g h [] = refl
any_alike f g h (d ∷ ds) = ap (λ (b : Bool). b || any_of f ds) (h d) ∙ ap (λ (b : Bool). g d || b) (any_alike f g h ds)

-- The test says what it should.
module _ (w cap : ℕ) (s : Sender) (n : ℕ) where
  names_accepted : (d : List ℕ) → Names w cap s d n → accepted_names w cap s d n ≡ true
  unfolding accepted_names tells
  names_accepted d k =
      ap (λ (x : ℕ). cond (eqb x 0) (told_names (tells s d (read_of d)) n) false) k.accepted
      ∙ ap (λ (r : Reading). told_names (tells s d r) n) k.reads
      ∙ k.names

  accepted_names_lem : (d : List ℕ) → accepted_names w cap s d n ≡ true → Names w cap s d n
  unfolding accepted_names tells told_names
  accepted_names_lem d h =
      ⊎_elim
      (λ t. go (read_of d) refl (eqb-true _ _ t) (sym (ap (λ (x : Bool). cond x (told_names (tells s d (read_of d)) n) false) t) ∙ h))
      (λ t. clash (accepted_names w cap s d n) h (ap (λ (x : Bool). cond x (told_names (tells s d (read_of d)) n) false) t))
      (bool (eqb (acknowledge_answer w cap s d) 0))
    where
      go : (r : Reading) → read_of d ≡ r → acknowledge_answer w cap s d ≡ 0 → told_names (tells s d r) n ≡ true → Names w cap s d n
      go (Err k) e a t = clash false t refl
      go (Ok None) e a t = clash false t refl
      go (Ok (Some p)) e a t = record { packet = p; reads = e; accepted = a; names = t }

  pub named_at : (ds : List (List ℕ)) → named_in w cap s ds n ≡ true → Named w cap s ds n
  unfolding named_in
  named_at ds h =
      let (d, i, t) = any_at (λ d. accepted_names w cap s d n) ds h in record { datagram = d; listed = i; says = accepted_names_lem d t }

  pub named_from_lem : (ds : List (List ℕ)) → Named w cap s ds n → named_in w cap s ds n ≡ true
  unfolding named_in
  named_from_lem ds k = any_from (λ d. accepted_names w cap s d n) k.datagram (names_accepted k.datagram k.says) ds k.listed

  pub same_named : (ds es : List (List ℕ)) → ((d : List ℕ) → In d ds → In d es) → ((d : List ℕ) → In d es → In d ds)
      → named_in w cap s ds n ≡ named_in w cap s es n
  unfolding named_in
  same_named = any_same (λ d. accepted_names w cap s d n)

-- So does the other.
module _ (w cap : ℕ) (s : Sender) where
  pub accepted_at : (ds : List (List ℕ)) → accepted_in w cap s ds ≡ true → Accepted w cap s ds
  unfolding accepted_in
  accepted_at ds h =
      let (d, i, t) = any_at (λ d. is_heard (acknowledge_answer w cap s d) d) ds h in
      let (z, p) = both_hold (eqb (acknowledge_answer w cap s d) 0) (is_packet (read_of d)) t in
      go d i (read_of d) refl p (eqb-true _ _ z)
    where
      go : (d : List ℕ) → In d ds → (r : Reading) → read_of d ≡ r → is_packet r ≡ true → acknowledge_answer w cap s d ≡ 0 → Accepted w cap s ds
      go d i (Err k) e t a = clash false t refl
      go d i (Ok None) e t a = clash false t refl
      go d i (Ok (Some p)) e t a = record { datagram = d; listed = i; packet = p; reads = e; accepted = a }

  pub accepted_from : (ds : List (List ℕ)) → Accepted w cap s ds → accepted_in w cap s ds ≡ true
  unfolding accepted_in
  accepted_from ds k =
      any_from (λ d. is_heard (acknowledge_answer w cap s d) d) k.datagram
      (ap (λ (n : ℕ). is_heard n k.datagram) k.accepted ∙ ap is_packet k.reads) ds k.listed

  pub same_accepted : (ds es : List (List ℕ)) → ((d : List ℕ) → In d ds → In d es) → ((d : List ℕ) → In d es → In d ds)
      → accepted_in w cap s ds ≡ accepted_in w cap s es
  unfolding accepted_in
  same_accepted = any_same (λ d. is_heard (acknowledge_answer w cap s d) d)

  -- A sender that answers alike accepts alike.
  pub accepted_alike : (q : Sender) → ((d : List ℕ) → acknowledge_answer w cap q d ≡ acknowledge_answer w cap s d) → (ds : List (List ℕ))
      → accepted_in w cap q ds ≡ accepted_in w cap s ds
  unfolding accepted_in
  accepted_alike q alike = any_alike _ _ (λ d. ap (λ (n : ℕ). is_heard n d) (alike d))

pub or_assoc : (a b c : Bool) → ((a || b) || c) ≡ (a || (b || c))
or_assoc true b c = refl
or_assoc false b c = refl

-- a later one that is accepted, or an earlier one
pub later_or : (b a : Bool) (k j : ℕ) → cond b k (cond a k j) ≡ cond (a || b) k j
later_or true true k j = refl
later_or true false k j = refl
later_or false true k j = refl
later_or false false k j = refl

-- After the run, all that accepted datagrams name has turned.
module _ {w cap : ℕ} {s : Sender} (f : Facts w cap s) where
  pub turned_like : {chosen : ℕ → Bool} {q : Sender} → Turned w cap acknowledging s chosen q → Alike q s
  turned_like a = record { firstdata = a.turning.firstdata; next = a.turning.next }

  pub run_turned : (ds : List (List ℕ)) {chosen : ℕ → Bool} {q : Sender} → Turned w cap acknowledging s chosen q
      → Turned w cap acknowledging s (either_of chosen (named_in w cap s ds)) (run w cap q ds)
  unfolding run named_in any_of
  run_turned [] {chosen} a = turned_alike acknowledging_ends f _ (λ n l u p. or_none (chosen n) false refl) a
  run_turned (d ∷ ds) {chosen} {q} a =
      let hq = facts_consistent w cap q (turned_facts acknowledging_ends f a) in
      let hs = facts_consistent w cap s f in
      let next : Turned w cap acknowledging s (either_of chosen (accepted_names w cap s d)) (acknowledge_of w cap q d) =
      turned_alike acknowledging_ends f (either_of chosen (accepted_names w cap s d))
      (λ n l u p. ap (λ (x : Bool). chosen n || x) (same_names w cap q s (turned_like a) hq hs d n)) (datagram_turned f a d) in
      turned_alike acknowledging_ends f _ (λ n l u p. or_assoc (chosen n) (accepted_names w cap s d n) (named_in w cap s ds n)) (run_turned ds next)

  -- The LogWindowSize that is remembered after the run, where all carry the same.
  pub run_window : (k : ℕ) (ds : List (List ℕ)) → ((d : List ℕ) → In d ds → Sized k d) → {chosen : ℕ → Bool} {q : Sender}
      → Turned w cap acknowledging s chosen q → (run w cap q ds).logwindow ≡ cond (accepted_in w cap s ds) k q.logwindow
  unfolding run accepted_in any_of
  run_window k [] sized a = refl
  run_window k (d ∷ ds) sized {chosen} {q} a =
      let hq = facts_consistent w cap q (turned_facts acknowledging_ends f a) in
      let hs = facts_consistent w cap s f in
      run_window k ds (λ x i. sized x (Memᴰ.tail i)) (datagram_turned f a d)
      ∙ ap (λ (j : ℕ). cond (accepted_in w cap s ds) k j)
      (ap (λ (z : Sender). z.logwindow) (acknowledge_remembers q.logwindow w cap q d)
      ∙ ap (λ (n : ℕ). remembered_after n d q.logwindow) (same_answer w cap q s (turned_like a) hq hs d)
      ∙ heard_sized k d (sized d (Memᴰ.head refl)) (acknowledge_answer w cap s d) q.logwindow)
      ∙ later_or (accepted_in w cap s ds) (is_heard (acknowledge_answer w cap s d) d) k q.logwindow
