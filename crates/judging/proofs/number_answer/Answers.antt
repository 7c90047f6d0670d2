-- `judging::number_answer` meets its contract: each way out is an instance of a law of Judging.
use Rattle.common.specs.declared.Refusal.TheVariants.{OutOfPlace}
use Rattle.common.specs.Answer.{answered_refused, answered_accepted}
use Rattle.judging.proofs.Judging.{numbers_waived, numbers_over, numbers_far, numbers_high, numbers_beyond, numbers_pass}
use Rattle.judging.proofs.number_answer.Goals as goal

pub returns-then-v-gt-HIGHEST : goal.returns-then-v-gt-HIGHEST
returns-then-v-gt-HIGHEST c = answered_refused OutOfPlace _ (numbers_waived _ _ _ _ _ _ c.if-v-gt-HIGHEST.true)

pub returns-then-n-gt-HIGHEST : goal.returns-then-n-gt-HIGHEST
returns-then-n-gt-HIGHEST c =
    answered_refused OutOfPlace _
    (numbers_over _ _ _ _ _ _ c.if-v-gt-HIGHEST.false c.if-n-gt-HIGHEST.true)

pub returns-then-max-n : goal.returns-then-max-n
returns-then-max-n c =
    answered_refused OutOfPlace _
    (numbers_far _ _ _ _ _ _ _ c.if-v-gt-HIGHEST.false c.if-n-gt-HIGHEST.false c.max.ensures c.if-max-n.true)

pub returns-then-c-gt-HIGHEST : goal.returns-then-c-gt-HIGHEST
returns-then-c-gt-HIGHEST c =
    answered_refused OutOfPlace _
    (numbers_high _ _ _ _ _ _ _ c.if-v-gt-HIGHEST.false c.if-n-gt-HIGHEST.false c.max.ensures c.if-max-n.false c.if-c-gt-HIGHEST.true)

pub returns-then-due-c : goal.returns-then-due-c
returns-then-due-c c =
    answered_refused OutOfPlace _
    (numbers_beyond _ _ _ _ _ _ _ c.if-v-gt-HIGHEST.false c.if-n-gt-HIGHEST.false c.max.ensures c.if-max-n.false
    c.if-c-gt-HIGHEST.false c.if-due-c.true)

pub returns : goal.returns
returns c =
    answered_accepted _
    (numbers_pass _ _ _ _ _ _ _ c.if-v-gt-HIGHEST.false c.if-n-gt-HIGHEST.false c.max.ensures c.if-max-n.false
    c.if-c-gt-HIGHEST.false c.if-due-c.false)
