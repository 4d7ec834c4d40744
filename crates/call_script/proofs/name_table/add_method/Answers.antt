use Rattle.std.proofs.lemmas.Str.{IsUtf8-from_ascii}
use Rattle.call_script.proofs.WordBytes.{method_is_ascii}
use Rattle.call_script.proofs.name_table.add_method.Goals as goal

pub unreachable-requires : goal.unreachable-requires
unreachable-requires c = c.in-Err.ensures.cases.0 (IsUtf8-from_ascii c.args.method.now (method_is_ascii c.args.method.now c.requires))
