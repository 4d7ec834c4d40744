use Rattle.load_command.proofs.load_file.load_schema.Goals as goal

pub returns-in-Ok-clause-schema : goal.returns-in-Ok-clause-schema
returns-in-Ok-clause-schema c = rw c.in-Ok.ensures at c.compile.ensures.schema

pub returns-in-Ok-clause-refused : goal.returns-in-Ok-clause-refused
returns-in-Ok-clause-refused c = rw c.in-Ok.ensures at c.compile.ensures.refused

pub returns-in-Ok-clause-given : goal.returns-in-Ok-clause-given
returns-in-Ok-clause-given c = rw c.in-Ok.ensures at c.compile.ensures.given
