-- `flagged_line` meets its contract: it is `number_line` by the flag's test.
use Rattle.listing_fields.proofs.Runs.{within_flag}
use Rattle.listing_fields.proofs.flagged_line.Goals as goal

pub returns : goal.returns
returns c = within_flag c.args.key.now _ _ _ c.flag.ensures c.number_line.ensures
