use Rattle.yoda_app.proofs.ending.say_stop.Goals as goal

pub returns-in-Memory-clause-says : goal.returns-in-Memory-clause-says
returns-in-Memory-clause-says g c = rw c.in-Memory.is c.say.ensures.says

pub returns-in-Write-clause-says : goal.returns-in-Write-clause-says
returns-in-Write-clause-says g c = rw c.in-Write.is c.say-in-Write.ensures.says
