-- Consistency, judged: a law for each way out of the function that judges it.
use Prim.Native.Nat.{ℕ, ◌<◌}
use mathlib.Core.Bool.{Bool, true, false, not, ◌&&◌}
use mathlib.Core.Path.{◌≡◌, refl, sym, ◌∙◌}
use Rattle.common.specs.Every.{all_below}
use Rattle.common.specs.Facts.{clash, not_so, fails}
use Rattle.sender.specs.declared.Sender.{Sender}
use Rattle.sender.specs.Consistent.{range_fits, timeout_fits, number_ok, block_ok, consistent_of}
use Rattle.sender_checking.specs.Checking.{Ranges}
use Rattle.common.specs.EveryLaws.{all_fails}
use Rattle.sender_checking.proofs.Passing.{Passes, consistent_passes, Begun, range_facts}

-- What is tested before the walk: the two ranges, and the timeout.
heads : (a b t : Bool) → not ((a && b) && t) ≡ false → (a ≡ true) × (b ≡ true) × (t ≡ true)
heads true true true e = (refl, refl, refl)
heads true true false e = clash true refl e
heads true false t e = clash true refl e
heads false b t e = clash true refl e

module _ (w : ℕ) (s : Sender) (a b t : Bool) (ea : a ≡ range_fits w s.firstdata.0 s.low.0 s.next.0)
    (eb : b ≡ range_fits w s.firstchannel.0 s.channellow.0 s.channelnext.0) (et : t ≡ timeout_fits s.timeout) where
  pub begun : not ((a && b) && t) ≡ false → Begun w s
  begun e = let (ha, hb, ht) = heads a b t e in record { range = sym ea ∙ ha; channels = sym eb ∙ hb; time = sym et ∙ ht }

  pub begun_ranges : not ((a && b) && t) ≡ false → Ranges w s.low.0 s.next.0 s.firstchannel.0 s.channellow.0 s.channelnext.0
  begun_ranges e =
      let h = begun e in
      let r = range_facts _ _ _ _ h.range in
      record { forth = r.forth; next_fits = r.next_fits; room = r.room; channels = h.channels }

  pub bad_begin : not ((a && b) && t) ≡ true → false ≡ consistent_of w w s
  bad_begin e = sym (not_so _ λ h. clash (not ((a && b) && t)) e (passed (consistent_passes w s h)))
    where
      passed : Passes w s → not ((a && b) && t) ≡ false
      passed h = rw (ea ∙ h.range, eb ∙ h.channels, et ∙ h.time) refl

pub bad_number : (w : ℕ) (s : Sender) (i : ℕ) → i < w → number_ok w s i ≡ false → false ≡ consistent_of w w s
bad_number w s i l t = fails _ _ (λ h. (consistent_passes w s h).numbers) (sym (all_fails (number_ok w s) w i l t))

pub bad_blocks : (w : ℕ) (s : Sender) → all_below (block_ok w s) w ≡ false → false ≡ consistent_of w w s
bad_blocks w s t = fails _ _ (λ h. (consistent_passes w s h).blocks) t
