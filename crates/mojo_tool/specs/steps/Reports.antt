-- The last steps of a call.
use Rattle.std.specs.Prelude.{ℕ, ◌≡◌, List}
use Rattle.mj_io.specs.Outside.{SinkState, Rose, Wrote, WroteSome}
use Rattle.mojo_tool.specs.Answers.{WroteOrFailed}
use Rattle.mojo_tool.specs.Lines.{refusal_text, error_line, read_text}
use Rattle.mojo_tool.specs.declared.decide.Stop.{Stop}
use Rattle.mojo_tool.specs.declared.decide.Stop.TheVariants as stop
use Rattle.mojo_tool.specs.declared.status.Status.{Status}
use Rattle.mojo_tool.specs.declared.status.Status.TheVariants.{Done, Refused, WrongUse, ReadFault, WriteFault, NoMemory}

-- the text was written, or a front of it where the sink failed
abbrev pub Printed : SinkState → SinkState → List ℕ → Status → Type 0
Printed before now text Done = Wrote before now text
Printed before now text WriteFault = WroteSome before now text × Rose before.faults now.faults
Printed before now text Refused = ⊥
Printed before now text WrongUse = ⊥
Printed before now text ReadFault = ⊥
Printed before now text NoMemory = ⊥

-- the line was written with its status, or nothing was, where there was no memory for the line
abbrev pub SaidUnless : SinkState → SinkState → List ℕ → Status → Status → Type 0
SaidUnless before now line wanted NoMemory = now ≡ before
SaidUnless before now line wanted status = (status ≡ wanted) × WroteOrFailed before now line

-- why there is no text was said
abbrev pub Reported : Stop → SinkState → SinkState → Status → Type 0
Reported (stop.Refused refusal) before now status = SaidUnless before now (error_line (refusal_text refusal)) Refused status
Reported (stop.ReadFault name) before now status = SaidUnless before now (error_line (read_text name.now)) ReadFault status
Reported stop.NoMemory before now status = (status ≡ NoMemory) × (now ≡ before)
