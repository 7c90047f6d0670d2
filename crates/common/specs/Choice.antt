-- A choice by a test, on each side of it.
use Rattle.std.specs.Prelude.{Bool, true, false, cond, ◌≡◌}

pub when : {A : Type 0} (b : Bool) (x y z : A) → b ≡ true → x ≡ y → x ≡ cond b y z
when b x y z t e = rw t e

pub unless : {A : Type 0} (b : Bool) (x y z : A) → b ≡ false → x ≡ z → x ≡ cond b y z
unless b x y z t e = rw t e
