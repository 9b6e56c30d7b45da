-- A journal is read back shard for shard.
use Rattle.journal_text.proofs.Reading.{shards_same}
use Rattle.journal_text.proofs.laws.journal_shows.Goals as goal

pub returns : goal.returns
returns c h k fit fit' is = shards_same 0 h k fit fit' is
