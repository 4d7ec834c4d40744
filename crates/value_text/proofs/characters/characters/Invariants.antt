use Rattle.std.proofs.Common.{◌≡◌, ◌-◌, length}
use Rattle.byte_rules.specs.Lang.{until, many, as_value}
use Rattle.byte_rules.specs.steps.Reading.{with_front}
use Rattle.value_text.specs.Characters.{character, all_of}
use Rattle.value_text.proofs.characters.characters.Given as goal

abbrev pub invariant-loop : goal.invariant-loop
invariant-loop l = with_front (λ c. c) l.out.items ((until 34 (length l.bytes - l.counter) character).read l.rest) ≡
    (as_value all_of (many 34 character)).read l.bytes
