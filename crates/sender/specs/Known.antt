-- Every answer of the sender's half is 0 or a refusal's number: what it stands for is told by its number alone.
use Rattle.std.specs.Prelude.{ℕ, Bool, true, List, [], ◌≡◌, refl, Err, Ok, Some, None}
use Rattle.common.specs.Answer.{is_answer, no_known, first_known, known_either}
use Rattle.wire.specs.Read.{Reading, read_of}
use Rattle.numbers.specs.declared.Widened.TheVariants.{At, Below, Unclear}
use Rattle.sender.specs.declared.Sender.{Sender}
use Rattle.sender.specs.Record.{State}
use Rattle.sender.specs.Consistent.{consistent_of}
use Rattle.sender.specs.Acknowledge.{Told, silent, up_to, listed, told_answer, told_by, read_answer, acknowledge_answer}
use Rattle.sender.specs.Send.{new_answer, resend_answer}
use Rattle.sender.specs.Sweep.{sweep_answer}

pub told_known : (s : Sender) (t : Told) → is_answer (told_answer s t) ≡ true
unfolding told_answer is_answer
told_known s silent = refl
told_known s (up_to (At n)) = first_known _ refl
told_known s (up_to (Below m)) = refl
told_known s (up_to Unclear) = refl
told_known s (listed (At n) v) = first_known _ refl
told_known s (listed (Below m) v) = refl
told_known s (listed Unclear v) = refl

read_known : (s : Sender) (d : List ℕ) (x : Reading) → is_answer (read_answer s d x) ≡ true
unfolding read_answer is_answer
read_known s d (Err r) = no_known r
read_known s d (Ok None) = refl
read_known s d (Ok (Some p)) = told_known s (told_by s d p)

pub acknowledge_known : (w cap : ℕ) (s : Sender) (d : List ℕ) → is_answer (acknowledge_answer w cap s d) ≡ true
unfolding acknowledge_answer is_answer
acknowledge_known w cap s d = known_either (consistent_of w cap s) _ 13 (read_known s d (read_of d)) refl

pub new_known : (w cap : ℕ) (s : State) (block : List ℕ) (room : ℕ) → is_answer (new_answer w cap s block room) ≡ true
unfolding new_answer is_answer
new_known w cap s block room = first_known _ refl

pub resend_known : (w cap : ℕ) (s : State) (room : ℕ) → is_answer (resend_answer w cap s room) ≡ true
unfolding resend_answer is_answer
resend_known w cap s room = first_known _ refl

pub sweep_known : (w cap : ℕ) (s : Sender) → is_answer (sweep_answer w cap s) ≡ true
unfolding sweep_answer is_answer
sweep_known w cap s = first_known _ refl
