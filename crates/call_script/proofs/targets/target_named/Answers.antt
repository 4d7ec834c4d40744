use Rattle.call_script.proofs.WordBytes.{front_is_ascii}
use Rattle.call_script.proofs.targets.target_named.Goals as goal

pub target_between-requires-clause-text : goal.target_between-requires-clause-text
target_between-requires-clause-text c =
    front_is_ascii c.args.word.now c.split_word.result c.in-Some.interface c.in-Some.method c.split_word.ensures c.in-Some.is c.requires.word
