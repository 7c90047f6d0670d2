-- Document 02, W11: for any sequence of calls from a fresh endpoint, refused ones included, every block that was ever accepted for sending is accounted for. What that says
-- is the record Accounted, over the history that the calls make (Accounts); the endpoint is what an accepted opening gives.
use Rattle.std.specs.Prelude.{ℕ, ◌+◌, ◌≤◌, ◌<◌, true, List, [], ◌≡◌, length}
use Rattle.std.proofs.Common.{sym, ◌∙◌, subst}
use Rattle.window.specs.Store.{store_size}
use Rattle.sender.specs.Facts.{consistent_facts}
use Rattle.sender.specs.SendReady.{sound_facts}
use Rattle.sender.specs.Run.{has_acknowledged}
use Rattle.endpoint.specs.Open.{Opens, open_answer, opened_of}
use Rattle.endpoint.specs.Calls.{Endpoint, Call, calls_of}
use Rattle.endpoint.specs.Sound.{Sound}
use Rattle.endpoint.specs.Fresh.{endpoint_of, fresh_of, opened_fresh}
use Rattle.endpoint.specs.StaysSound.{calls_keep, fresh_sound}
use Rattle.endpoint.specs.Accounts.{history_of, new_in, Accounted, NamedWhilePending}
use Rattle.endpoint.specs.Accounting.Moments.{acknowledged_named, named_acknowledged}
use Rattle.endpoint.specs.Accounting.Throughout.{books_account, calls_books, fresh_books}

module _ (w cap : ℕ) (lw : 0 < w) (uw : w ≤ cap) (firstdata firstchannel timeout : ℕ) (store sent : List ℕ) (a : open_answer firstdata firstchannel timeout ≡ 0)
    (ls : length store ≡ store_size w) (lt : length sent ≡ store_size w) (cs : List Call) where
  -- an accepted opening, with two stores of the right size
  abbrev pub fresh : Endpoint
  fresh = endpoint_of (opened_of cap firstdata firstchannel timeout) store sent

  -- THE THEOREM.
  pub every_block_accounted : Accounted w firstdata firstchannel (history_of w cap [] fresh cs) (calls_of w cap fresh cs).halves.sender
  every_block_accounted =
      subst (λ (o : Opens).
      Accounted w firstdata firstchannel (history_of w cap [] (endpoint_of o store sent) cs) (calls_of w cap (endpoint_of o store sent) cs).halves.sender)
      (sym (opened_fresh cap firstdata firstchannel timeout a))
      (books_account w cap lw uw firstdata firstchannel _ _ (consistent_facts w cap _ lw uw (sound_facts w cap _ _ (calls_keep w cap lw uw _ sound cs).sender).0)
      (calls_books w cap lw uw firstdata firstchannel [] (fresh_of cap firstdata firstchannel timeout store sent) sound (fresh_books w cap lw uw firstdata firstchannel timeout store sent) cs))
    where
      sound : Sound w cap (fresh_of cap firstdata firstchannel timeout store sent)
      sound = fresh_sound w cap lw uw firstdata firstchannel timeout store sent a ls lt

  -- So the record has a block as acknowledged exactly if some accepted acknowledgement named a transmission of it while that was pending.
  module _ (k : ℕ) (u : k < new_in (history_of w cap [] fresh cs)) where
    pub acknowledged_if : NamedWhilePending w cap [] fresh cs (firstchannel + k)
        → has_acknowledged w (calls_of w cap fresh cs).halves.sender (firstchannel + k) ≡ true
    acknowledged_if x = every_block_accounted.says_acknowledged k u ∙ named_acknowledged w cap (firstchannel + k) [] fresh cs x

    pub acknowledged_only_if : has_acknowledged w (calls_of w cap fresh cs).halves.sender (firstchannel + k) ≡ true
        → NamedWhilePending w cap [] fresh cs (firstchannel + k)
    acknowledged_only_if t = acknowledged_named w cap (firstchannel + k) fresh cs (sym (every_block_accounted.says_acknowledged k u) ∙ t)
