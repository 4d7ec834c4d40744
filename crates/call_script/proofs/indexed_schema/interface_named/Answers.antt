use Rattle.std.proofs.lemmas.Str.{IsUtf8-from_ascii}
use Rattle.call_script.proofs.indexed_schema.interface_named.Goals as goal

pub unreachable-requires : goal.unreachable-requires
unreachable-requires c = c.in-Err.ensures.cases.0 (IsUtf8-from_ascii c.args.name.now c.requires.text)
