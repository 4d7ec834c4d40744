use Rattle.sound_laws.proofs.SoundDraft.{sound_draft}
use Rattle.sound_laws.proofs.sound_draft.Goals as goal

pub returns : goal.returns
returns c = sound_draft
