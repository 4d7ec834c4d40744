use Rattle.sound_laws.proofs.Texts.{texts_sound}
use Rattle.sound_laws.proofs.sound_texts.Goals as goal

pub returns : goal.returns
returns c = λ files order names consts passed texts. texts_sound files texts names.files consts passed.evaluated.are order
