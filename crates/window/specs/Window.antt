-- A window over any kind of place: number n stands at place n modulo the window's size w. Base is the lowest number that is not done with.
use Rattle.std.specs.Prelude.{ℕ, zero, suc, ◌+◌, ◌%◌, max, Bool, cond, List, get_or, set, ltb}

pub record Win (A : Type 0) : Type 0 where
  pub base : ℕ
  pub places : List A

-- blank is what a place holds that is not in use
module _ {A : Type 0} (blank : A) (w : ℕ) where
  -- what the place of a number holds
  abbrev pub here : Win A → ℕ → A
  here r n = get_or r.places (n % w) blank

  -- a number's place set
  abbrev pub put : Win A → ℕ → A → Win A
  put r n a = record { base = r.base; places = set r.places (n % w) a }

  -- base moves up by one, and the place that it leaves is cleared
  abbrev pub passed : Win A → Win A
  passed r = record { base = r.base + 1; places = set r.places (r.base % w) blank }

  -- base moves up to v, by at most k places
  unfoldable pub cleared : ℕ → ℕ → Win A → Win A
  cleared zero v r = r
  cleared (suc k) v r = cond (ltb r.base v) (cleared k v (passed r)) r

  -- all below v is left behind; w places are all that there are
  unfoldable pub lifted : ℕ → Win A → Win A
  lifted v r = record { base = max (cleared w v r).base v; places = (cleared w v r).places }

  -- base moves up past the places that pass, by at most k
  unfoldable pub slid : (A → Bool) → ℕ → Win A → Win A
  slid pass zero r = r
  slid pass (suc k) r = cond (pass (here r r.base)) (slid pass k (passed r)) r
