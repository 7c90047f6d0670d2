-- Demand 1, for the endpoint: from a fresh endpoint, and from any whose halves are consistent and whose stores have their lengths, reached by calls or not, every
-- sequence of calls leaves such an endpoint. A refused call changes nothing, so nothing is asked of the calls or their answers.
use Rattle.std.specs.Prelude.{ℕ, ◌≤◌, ◌<◌, ◌≡◌, length}
use mathlib.Core.List.{List, [], ◌∷◌}
use Rattle.std.proofs.Common.{sym, subst}
use Rattle.window.specs.Store.{store_size}
use Rattle.endpoint.specs.Open.{Opens, open_answer, opened_of}
use Rattle.endpoint.specs.Calls.{Endpoint, Call, call_of, calls_of}
use Rattle.endpoint.specs.Sound.{Sound}
use Rattle.endpoint.specs.Fresh.{endpoint_of, fresh_of, opened_fresh}
use Rattle.endpoint.specs.Keeps.{call_sound, opened, fresh_halves}

module _ (w cap : ℕ) (lw : 0 < w) (uw : w ≤ cap) where
  pub call_keeps : (e : Endpoint) → Sound w cap e → (c : Call) → Sound w cap (call_of w cap e c)
  call_keeps e h c = call_sound w cap lw uw e h c

  pub calls_keep : (e : Endpoint) → Sound w cap e → (cs : List Call) → Sound w cap (calls_of w cap e cs)
  unfolding calls_of
  calls_keep e h [] = h
  calls_keep e h (c ∷ cs) = calls_keep (call_of w cap e c) (call_keeps e h c) cs

  pub fresh_sound : (firstdata firstchannel timeout : ℕ) (store sent : List ℕ) → open_answer firstdata firstchannel timeout ≡ 0
      → length store ≡ store_size w → length sent ≡ store_size w → Sound w cap (fresh_of cap firstdata firstchannel timeout store sent)
  fresh_sound firstdata firstchannel timeout store sent a ls lt =
      fresh_halves w cap lw uw firstdata firstchannel timeout (opened firstdata firstchannel timeout a) store sent ls lt

  -- So every endpoint that an accepted opening and calls make is sound.
  pub reached_sound : (firstdata firstchannel timeout : ℕ) (store sent : List ℕ) → open_answer firstdata firstchannel timeout ≡ 0
      → length store ≡ store_size w → length sent ≡ store_size w → (cs : List Call)
      → Sound w cap (calls_of w cap (endpoint_of (opened_of cap firstdata firstchannel timeout) store sent) cs)
  reached_sound firstdata firstchannel timeout store sent a ls lt cs =
      calls_keep (endpoint_of (opened_of cap firstdata firstchannel timeout) store sent)
      (subst (λ (o : Opens). Sound w cap (endpoint_of o store sent)) (sym (opened_fresh cap firstdata firstchannel timeout a))
      (fresh_sound firstdata firstchannel timeout store sent a ls lt))
      cs
