-- Books agree throughout any calls from a fresh endpoint, and books that agree account for every block.
use Rattle.std.specs.Prelude.{ℕ, zero, suc, ◌+◌, ◌≤◌, ◌<◌, Bool, ◌≡◌, refl}
use mathlib.Core.List.{List, [], ◌∷◌, ◌++◌}
use Rattle.std.proofs.Common.{sym, ◌∙◌, ap, add-one, arith}
use Rattle.common.specs.Every.{count_below}
use Rattle.common.specs.CountLaws.{one, count_none, count_next}
use Rattle.common.specs.Facts.{not_so}
use Rattle.sender.specs.declared.Sender.{Sender}
use Rattle.sender.specs.Facts.{Facts}
use Rattle.sender.specs.Run.{has_acknowledged}
use Rattle.sender.specs.States.{has_in_flight, has_waiting, pends_at, passed, one_of_three}
use Rattle.endpoint.specs.Calls.{Endpoint, Call, call_of, calls_of}
use Rattle.endpoint.specs.Sound.{Sound}
use Rattle.endpoint.specs.Fresh.{fresh_of}
use Rattle.endpoint.specs.StaysSound.{call_keeps}
use Rattle.endpoint.specs.Accounts.{Entry, added_by, history_of, count_in, new_in, pending_in, acknowledged_in, Accounted}
use Rattle.endpoint.specs.Accounting.Entries.{sends_are}
use Rattle.endpoint.specs.Accounting.Books.{Books, flies_in}
use Rattle.endpoint.specs.Accounting.EachCall.{call_books}

-- Where exactly one of three tests holds of each number, the three counts add up.
three_add : (p q r : ℕ → Bool) (n : ℕ) → ((i : ℕ) → i < n → one (p i) + one (q i) + one (r i) ≡ 1) → count_below p n + count_below q n + count_below r n ≡ n
three_add p q r zero h = omega (arith, count_none p, count_none q, count_none r)
three_add p q r (suc n) h =
    omega (arith, next p, next q, next r, h n (omega arith), three_add p q r n (λ i l. h i (omega arith)))
  where
    next : (f : ℕ → Bool) → count_below f (suc n) ≡ count_below f n + one (f n)
    next f = ap (count_below f) (sym (add-one n)) ∙ count_next f n

module _ (w cap : ℕ) (lw : 0 < w) (uw : w ≤ cap) (firstdata firstchannel : ℕ) where
  pub books_account : (h : List Entry) (s : Sender) → Facts w cap s → Books w firstdata firstchannel h s → Accounted w firstdata firstchannel h s
  books_account h s f b =
      record {
        in_order = b.in_order;
        next = b.next;
        next_channel = b.next_channel;
        exactly_one = single;
        add_up = three_add (λ k. acknowledged_in h (firstchannel + k)) (λ k. has_in_flight w s (firstchannel + k)) (λ k. has_waiting w s (firstchannel + k)) (new_in h) single;
        counted = λ k u l. b.counts (firstchannel + k) l (below k u);
        resent = λ k u. sends_are firstdata firstchannel (firstchannel + k) h b.in_order (omega arith) (omega arith);
        limit = b.limit;
        says_acknowledged = says;
        says_passed = λ k l. sym (b.says (firstchannel + k) (omega arith) (omega (arith, f.bounds.channelnext))) ∙ passed w s (firstchannel + k) l;
        says_in_flight = λ k u. flies_in b f (firstchannel + k) (below k u);
        says_pending = b.pends;
      }
    where
      below : (k : ℕ) → k < new_in h → firstchannel + k < s.channelnext.0
      below k u = omega (arith, b.next_channel)

      says : (k : ℕ) → k < new_in h → has_acknowledged w s (firstchannel + k) ≡ acknowledged_in h (firstchannel + k)
      says k u = b.says (firstchannel + k) (omega arith) (below k u)

      single : (k : ℕ) → k < new_in h
          → one (acknowledged_in h (firstchannel + k)) + one (has_in_flight w s (firstchannel + k)) + one (has_waiting w s (firstchannel + k)) ≡ 1
      single k u =
          ap (λ (x : Bool). one x + one (has_in_flight w s (firstchannel + k)) + one (has_waiting w s (firstchannel + k))) (sym (says k u))
          ∙ one_of_three f (firstchannel + k) (below k u)

  pub calls_books : (h : List Entry) (e : Endpoint) → Sound w cap e → Books w firstdata firstchannel h e.halves.sender → (cs : List Call)
      → Books w firstdata firstchannel (history_of w cap h e cs) (calls_of w cap e cs).halves.sender
  unfolding history_of calls_of
  calls_books h e k b [] = b
  calls_books h e k b (c ∷ cs) =
      calls_books (added_by w cap e c ++ h) (call_of w cap e c) (call_keeps w cap lw uw e k c) (call_books w cap lw uw firstdata firstchannel h e k b c) cs

  pub fresh_books : (timeout : ℕ) (store sent : List ℕ) → Books w firstdata firstchannel [] (fresh_of cap firstdata firstchannel timeout store sent).halves.sender
  unfolding count_in pending_in acknowledged_in
  fresh_books timeout store sent =
      record {
        in_order = tt;
        first_block = refl;
        next = omega arith;
        next_channel = omega arith;
        carried = λ n l u. absurd (omega arith);
        pends = λ n. not_so _ (λ t. let k = pends_at w (fresh_of cap firstdata firstchannel timeout store sent).halves.sender n t in omega (arith, k.from, k.below));
        says = λ c l u. absurd (omega arith);
        silent = λ c l. refl;
        counts = λ c l u. absurd (omega arith);
        limit = λ c. omega arith;
      }
