use Rattle.callback_laws.proofs.Shown.{callbacks_are}
use Rattle.callback_laws.proofs.callbacks_of_a_desk.Goals as goal

pub returns : goal.returns
returns g c = callbacks_are g.C.Promise.promises
