use Rattle.world_model.proofs.laws.headline.Goals as goal

pub returns : goal.returns
returns c = λ setup histories good clients events apart can same live. let safe = c.streams_agree.ensures setup clients events good apart can live in (safe.streams, safe.acks)
