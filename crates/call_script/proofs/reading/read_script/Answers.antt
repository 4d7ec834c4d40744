use Rattle.std.specs.Prelude.{length, map}
use Rattle.script_words.specs.Words.{words_now}
use Rattle.call_script.proofs.Sending.{text_letters}
use Rattle.call_script.proofs.SoundLemmas.{read_sound}
use Rattle.call_script.proofs.reading.read_script.Goals as goal

pub returns-in-Ok-clause-sound : goal.returns-in-Ok-clause-sound
returns-in-Ok-clause-sound c =
    read_sound c.args.schema.now (map words_now c.as_slice.result.now) (length c.args.bytes.now) c.read_all.result c.read_all.ensures.answers
    (rw (c.as_slice.ensures.value, c.in-Ok.ensures) (text_letters c.args.bytes.now))
    c.read_all.ensures.counted
