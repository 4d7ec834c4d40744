-- Forms without where their words lie in memory.
use Rattle.std.specs.Prelude.{map}
use Rattle.script_forms.specs.declared.form.Form.{Form as WrittenForm}
use Rattle.script_forms.specs.declared.form.Form.TheVariants as forms
use Rattle.script_forms.specs.declared.form.Moved.{Moved as WrittenMoved}
use Rattle.script_forms.specs.declared.form.Moved.TheVariants as moveds
use Rattle.script_forms.specs.declared.form.Said.{Said as WrittenSaid}
use Rattle.script_forms.specs.declared.form.Said.TheVariants as saids
use Rattle.script_forms.specs.Forms.{Said, Pipe, Mint, Bind, Associate, Attach, Call, Take, Answer, Raw, CloseToken, CloseEndpoint, Notify, Pause}
use Rattle.script_forms.specs.Forms.{Data, Flow, Moved, Put, Get, BeginPut, EndPut, BeginGet, EndGet}
use Rattle.script_forms.specs.Forms.{Form, Join, Auto, Of}

-- what is moved, without where its word lies
abbrev pub moved_view : WrittenMoved → Moved
moved_view (moveds.Put bytes all) = Put bytes.now all
moved_view (moveds.Get count all) = Get count all
moved_view moveds.BeginPut = BeginPut
moved_view (moveds.EndPut bytes) = EndPut bytes.now
moved_view moveds.BeginGet = BeginGet
moved_view (moveds.EndGet count) = EndGet count

-- what is said to a sequence, without where its words lie
abbrev pub said_view : WrittenSaid → Said
said_view (saids.Pipe first second) = Pipe first.now second.now
said_view (saids.Mint sort name) = Mint sort name.now
said_view (saids.Bind end side interface) = Bind end.now side interface.now
said_view (saids.Associate end side interface pending) = Associate end.now side interface.now pending.now
said_view (saids.Attach pending seq) = Attach pending.now seq
said_view (saids.Call end id method value tokens moment) =
    Call end.now id method.now value.now (map (λ word. word.now) tokens.now) moment
said_view (saids.Take end names) = Take end.now (map (λ word. word.now) names.now)
said_view (saids.Answer responder method value tokens moment) =
    Answer responder.now method.now value.now (map (λ word. word.now) tokens.now) moment
said_view (saids.Raw end bytes tokens) = Raw end.now bytes.now (map (λ word. word.now) tokens.now)
said_view (saids.CloseToken token) = CloseToken token.now
said_view (saids.CloseEndpoint end id) = CloseEndpoint end.now id
said_view (saids.Notify end notice) = Notify end.now notice
said_view (saids.Pause end other flush) = Pause end.now other.now flush
said_view (saids.Data size producer consumer) = Data size producer.now consumer.now
said_view (saids.Flow token moved) = Flow token.now (moved_view moved)

-- a form, without where its words lie
abbrev pub form_view : WrittenForm → Form
form_view (forms.Join seq other first second) = Join seq other first.now second.now
form_view (forms.Auto seq method value) = Auto seq method.now value.now
form_view (forms.Of seq said) = Of seq (said_view said)
