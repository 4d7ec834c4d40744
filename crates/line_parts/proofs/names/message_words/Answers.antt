use Rattle.line_parts.specs.Names.{that_are_words, messages_from}
use Rattle.line_parts.proofs.NameBuilds.{messages_on, messages_end}
use Rattle.line_parts.proofs.names.message_words.Goals as goal

pub loop-number-preserved : goal.loop-number-preserved
loop-number-preserved c =
    messages_on c.args.side c.args.rows.now c.loop-number.number c.index-rows-number.result c.loop-number.words.items c.push_messages.new.words.items
    (that_are_words (messages_from c.args.side 0 c.args.rows.now)) c.loop-number-test.true c.index-rows-number.is c.in_ok-push_messages.ensures
    c.loop-number.invariant

pub returns : goal.returns
returns c = messages_end c.args.side c.args.rows.now c.loop-number.number c.loop-number.words.items
    (that_are_words (messages_from c.args.side 0 c.args.rows.now)) c.loop-number-test.false c.loop-number.invariant
