-- What is asked for in one place and so in another, and the texts of messages and of their values.
use Rattle.std.specs.Prelude.{ℕ, ◌≡◌, List, [], ◌∷◌, ◌++◌, Option, Some, None}
use Rattle.mj_io.specs.Outside.{Named}
use Rattle.mj_schema.specs.declared.schema.Schema.{Schema}
use Rattle.call_script.specs.declared.script.Script.{Script}
use Rattle.call_script.specs.Script.{IsScriptOf}
use Rattle.mojo_tool.specs.Work.{Work, Runs, AskedFor}
use Rattle.mojo_tool.specs.Answers.{IsTextFor, IsTextOf}
use Rattle.wire_encoder.specs.declared.refusal.PrepareError.{PrepareError}
use Rattle.wire_encoder.specs.declared.refusal.PrepareError.TheVariants as unfit
use Rattle.mojo_tool.specs.declared.refusal.ToolRefusal.TheVariants.{Unfit}
use Rattle.mojo_tool.specs.declared.decide.Stop.{Stop}
use Rattle.mojo_tool.specs.declared.decide.Stop.TheVariants.{Refused, NoMemory}

-- over files that say what they hold, what is asked for further on is asked for
abbrev pub Passes : Option (List Named) → (List Named → Work → Type 0) → (List Named → Work → Type 0) → Type 0
Passes None further ask = Unit {0}
Passes (Some files) further ask = (work : Work) → further files work → ask files work

-- the text is that of a message, or of the value of one, that bytes ask for
pub record IsTextOfWork (ask : Work → Type 0) (text : List ℕ) : Type 0 where
  pub work : Work
  pub asked : ask work
  pub text_of : IsTextFor work text

-- the text is that of a message, or of the value of one, that is asked for, and that the bytes of a file ask for
pub record IsFileText (name : List ℕ) (next : List ℕ → Work → Type 0) (before now : List Named) (held : Option (List Named))
    (ask : List Named → Work → Type 0) (text : List ℕ) : Type 0 where
  pub bytes : List ℕ
  pub work : Work
  pub asked : AskedFor held ask work
  pub came : now ≡ before ++ record { name = name; bytes = bytes } ∷ []
  pub made : next bytes work
  pub text_of : IsTextFor work text

-- the text is that of a run of the script that the bytes of a file are
pub record IsScriptText (schema : Schema) (order : Option ℕ) (name : List ℕ) (before now : List Named) (held : Option (List Named))
    (ask : List Named → Work → Type 0) (text : List ℕ) : Type 0 where
  pub bytes : List ℕ
  pub script : Script
  pub asked : AskedFor held ask (Runs schema bytes order)
  pub came : now ≡ before ++ record { name = name; bytes = bytes } ∷ []
  pub read : IsScriptOf schema bytes script
  pub text_of : IsTextOf schema script order text

-- why there is no text of a value that isn't prepared
abbrev pub unfit_stop : PrepareError → Stop
unfit_stop (unfit.Misfit path) = Refused (Unfit (unfit.Misfit path))
unfit_stop (unfit.TooDeep path) = Refused (Unfit (unfit.TooDeep path))
unfit_stop (unfit.TooManyHandles path) = Refused (Unfit (unfit.TooManyHandles path))
unfit_stop unfit.TooLong = Refused (Unfit unfit.TooLong)
unfit_stop unfit.Memory = NoMemory
