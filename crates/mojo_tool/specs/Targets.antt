-- Which messages the words mean.
use Rattle.std.specs.Prelude.{ℕ}
use Rattle.command_line.specs.declared.asked.Side.{Side}
use Rattle.command_line.specs.declared.asked.Side.TheVariants as sides
use Rattle.wire_model.specs.declared.target.Expected.{Expected}
use Rattle.wire_model.specs.declared.target.MessageSide.{MessageSide}
use Rattle.wire_model.specs.declared.target.MessageSide.TheVariants.{Request, Response}

-- which message of a method the words mean
abbrev pub side_of : Side → MessageSide
side_of sides.Request = Request
side_of sides.Response = Response

-- messages of the interface of a number, of a side
abbrev pub expected_of : ℕ → MessageSide → Expected
expected_of interface side = record { interface = interface; side = side }
