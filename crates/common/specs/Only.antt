-- Why only one answer fits a contract that gives its result, records and bytes by definitions: two answers that both fit are equal.
use Rattle.std.specs.Prelude.{◌≡◌}
use Rattle.std.proofs.Common.{sym, ◌∙◌}

pub one_answer : {A : Type 0} {wanted x y : A} → x ≡ wanted → y ≡ wanted → x ≡ y
one_answer p q = p ∙ sym q
