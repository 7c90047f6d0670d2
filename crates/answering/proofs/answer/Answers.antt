-- `answering::answer` meets its contract: the call leaves what its definition says, and its answer's line is laid.
use Rattle.answering.proofs.Lined.{answer_laid}
use Rattle.answering.proofs.answer.Goals as goal

pub answer_line-end-requires : goal.answer_line-end-requires
answer_line-end-requires c = c.requires

pub returns : goal.returns
returns c =
    record {
      left = c.call-x.ensures.left;
      text = answer_laid _ _ _ _ _ c.call-x.ensures c.number-n.ensures c.unwrap_or-lost.ensures c.answer_line-end.ensures;
    }
