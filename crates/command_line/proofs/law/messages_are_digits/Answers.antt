use Rattle.command_line.proofs.Messages.{messages_only, taken_messages}
use Rattle.command_line.proofs.law.messages_are_digits.Goals as goal

pub returns : goal.returns
returns c = record { taken = taken_messages; only = messages_only }
