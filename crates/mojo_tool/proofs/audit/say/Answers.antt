use Rattle.mojo_tool.proofs.Histories.{sound_text, unsound_stops, unsound_names}
use Rattle.mojo_tool.proofs.audit.say.Goals as goal

pub returns-in-Ok-sound_line-clause-text : goal.returns-in-Ok-sound_line-clause-text
returns-in-Ok-sound_line-clause-text c = λ schema script bytes audits.
    sound_text schema script bytes c.in-Ok-sound_line.text c.args.answer c.in-Ok.events c.in-Ok.ensures.sound c.in-Ok-sound_line.ensures audits

pub returns-in-Err-clause-stop : goal.returns-in-Err-clause-stop
returns-in-Err-clause-stop c = λ schema script bytes audits.
    unsound_stops schema script bytes c.args.answer c.in-Err.stop c.in-Err.ensures.unsound.0 c.in-Err.ensures.unsound.1 audits

pub returns-in-Err-clause-named : goal.returns-in-Err-clause-named
returns-in-Err-clause-named c = unsound_names c.args.answer c.in-Err.stop c.in-Err.ensures.unsound.0
