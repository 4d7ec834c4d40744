-- What commands by names ask.
use Rattle.mj_schema.specs.declared.schema.Schema.{Schema}
use Rattle.wire_encoder.specs.Prepared.{IsPrepared}
use Rattle.bind_model.specs.declared.asked.Asked.{Asked}
use Rattle.bind_model.specs.declared.asked.Asked.TheVariants as asks
use Rattle.script_names.specs.Asking.{outgoing}
use Rattle.plain_names.specs.declared.commands.PlainCommand.{PlainCommand}
use Rattle.plain_names.specs.declared.commands.PlainCommand.TheVariants.{Pipe, Join, Mint, Bind, Associate, Attach, Call, Answer, Raw, Take, Close, Notify}
use Rattle.plain_names.specs.declared.commands.PlainCommand.TheVariants.{Pause, Data, Flow, Skip}

-- what a command asks
abbrev pub asked_in : PlainCommand → Asked
asked_in Pipe = asks.Pipe
asked_in (Join other) = asks.Join other
asked_in (Mint sort) = asks.Mint sort
asked_in (Bind thing side interface) = asks.Bind thing side interface
asked_in (Associate end side interface) = asks.Associate end side interface
asked_in (Attach pending seq) = asks.Attach pending seq
asked_in (Call end id prepared names moment) = asks.Call end id (outgoing prepared names.things names.pendings moment)
asked_in (Answer responder prepared names moment) = asks.Answer responder (outgoing prepared names.things names.pendings moment)
asked_in (Raw thing bytes things) = asks.Raw thing bytes things
asked_in (Take end) = asks.Take end
asked_in (Close closing) = asks.Close closing
asked_in (Notify end notice) = asks.Notify end notice
asked_in (Pause end other flush) = asks.Pause end other flush
asked_in (Data size) = asks.Data size
asked_in (Flow thing flow) = asks.Flow thing flow
asked_in (Skip line) = asks.Skip line

-- what a command sends was prepared for this schema
abbrev pub IsFor : Schema → PlainCommand → Type 0
IsFor schema (Call end id prepared names moment) = IsPrepared schema prepared
IsFor schema (Answer responder prepared names moment) = IsPrepared schema prepared
IsFor schema command = Unit {0}
