use Rattle.std.proofs.Common.{take}
use Rattle.std.specs.Prelude.{map}
use Rattle.script_words.specs.Words.{words_now}
use Rattle.call_script.proofs.LoopLemmas.{IsAt}
use Rattle.call_script.proofs.reading.read_numbered.Given as goal

-- so many lines have been read
abbrev pub invariant-loop-line : goal.invariant-loop-line
invariant-loop-line l = IsAt l.indexed.schema.now l.seqs l.reader (map words_now (take l.line-index l.lines)) l.number
