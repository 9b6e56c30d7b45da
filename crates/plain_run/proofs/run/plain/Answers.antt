use Rattle.plain_run.proofs.run.plain.Goals as goal

-- src/run.rt:62:1
pub returns-clause-laws : goal.returns-clause-laws
returns-clause-laws c = c.plain_laws.ensures c.args.inputs.now c.requires c.known.ensures c.known-2.ensures
