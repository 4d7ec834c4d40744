use Rattle.std.proofs.Common.{ap, subst, sym, ◌∙◌}
use Rattle.std.specs.Prelude.{Option}
use Rattle.call_script.specs.declared.script.NameId.{NameId}
use Rattle.std.proofs.lemmas.Result.{IfOk-weaker}
use Rattle.script_names.specs.Needs.{needed}
use Rattle.script_names.specs.Held.{names_in}
use Rattle.script_names.specs.Settling.{Took}
use Rattle.script_names.proofs.LineLemmas.{answered_is, asked_is, called_is, spends_as, written_is}
use Rattle.script_names.proofs.lines.command_of.Goals as goal

pub answer-requires : goal.answer-requires
answer-requires c = c.requires.one ∙ ap needed c.in-Answer.is

pub raw-requires : goal.raw-requires
raw-requires c = c.requires.one ∙ ap needed c.in-Raw.is

pub returns-in-Join-clause-spends : goal.returns-in-Join-clause-spends
returns-in-Join-clause-spends c =
    let held = names_in c.args.rooms.now in
    spends_as held c.args.line.now c.args.names.now _ c.requires (asked_is held c.args.line.now c.in-Join.is)

pub returns-in-Pipe-clause-spends : goal.returns-in-Pipe-clause-spends
returns-in-Pipe-clause-spends c =
    let held = names_in c.args.rooms.now in
    spends_as held c.args.line.now c.args.names.now _ c.requires (asked_is held c.args.line.now c.in-Pipe.is)

pub returns-in-Mint-clause-spends : goal.returns-in-Mint-clause-spends
returns-in-Mint-clause-spends c =
    let held = names_in c.args.rooms.now in
    spends_as held c.args.line.now c.args.names.now _ c.requires (asked_is held c.args.line.now c.in-Mint.is)

pub returns-in-Bind-clause-took : goal.returns-in-Bind-clause-took
returns-in-Bind-clause-took c =
    rw (c.requires.one ∙ ap needed c.in-Bind.is) (c.bind.ensures.took c.args.names.now.handles.items c.args.names.now.pendings.items)

pub returns-in-Bind-clause-spends : goal.returns-in-Bind-clause-spends
returns-in-Bind-clause-spends c =
    let held = names_in c.args.rooms.now in
    spends_as held c.args.line.now c.args.names.now c.bind.result c.requires (c.bind.ensures.asked ∙ asked_is held c.args.line.now c.in-Bind.is)

pub returns-in-Bind-clause-prepared : goal.returns-in-Bind-clause-prepared
returns-in-Bind-clause-prepared c schema read = c.bind.ensures.plain schema

pub returns-in-Attach-clause-took : goal.returns-in-Attach-clause-took
returns-in-Attach-clause-took c =
    rw (c.requires.one ∙ ap needed c.in-Attach.is) (c.attach.ensures.took c.args.names.now.handles.items c.args.names.now.pendings.items)

pub returns-in-Attach-clause-spends : goal.returns-in-Attach-clause-spends
returns-in-Attach-clause-spends c =
    let held = names_in c.args.rooms.now in
    spends_as held c.args.line.now c.args.names.now c.attach.result c.requires (c.attach.ensures.asked ∙ asked_is held c.args.line.now c.in-Attach.is)

pub returns-in-Attach-clause-prepared : goal.returns-in-Attach-clause-prepared
returns-in-Attach-clause-prepared c schema read = c.attach.ensures.plain schema

pub returns-in-CloseToken-clause-took : goal.returns-in-CloseToken-clause-took
returns-in-CloseToken-clause-took c =
    rw (c.requires.one ∙ ap needed c.in-CloseToken.is) (c.close.ensures.took c.args.names.now.handles.items c.args.names.now.pendings.items)

pub returns-in-CloseToken-clause-spends : goal.returns-in-CloseToken-clause-spends
returns-in-CloseToken-clause-spends c =
    let held = names_in c.args.rooms.now in
    spends_as held c.args.line.now c.args.names.now c.close.result c.requires (c.close.ensures.asked ∙ asked_is held c.args.line.now c.in-CloseToken.is)

pub returns-in-CloseToken-clause-prepared : goal.returns-in-CloseToken-clause-prepared
returns-in-CloseToken-clause-prepared c schema read = c.close.ensures.plain schema

pub returns-in-Associate-clause-took : goal.returns-in-Associate-clause-took
returns-in-Associate-clause-took c =
    c.associate.ensures.bare c.args.names.now.one c.args.names.now.handles.items c.args.names.now.pendings.items c.args.rooms.now

pub returns-in-Associate-clause-spends : goal.returns-in-Associate-clause-spends
returns-in-Associate-clause-spends c =
    let held = names_in c.args.rooms.now in
    let asked = rw c.end.ensures at c.associate.ensures.asked in
    spends_as held c.args.line.now c.args.names.now c.associate.result c.requires (asked ∙ asked_is held c.args.line.now c.in-Associate.is)

pub returns-in-Associate-clause-prepared : goal.returns-in-Associate-clause-prepared
returns-in-Associate-clause-prepared c schema read = c.associate.ensures.plain schema

pub returns-in-Take-clause-took : goal.returns-in-Take-clause-took
returns-in-Take-clause-took c =
    c.take.ensures.bare c.args.names.now.one c.args.names.now.handles.items c.args.names.now.pendings.items c.args.rooms.now

pub returns-in-Take-clause-spends : goal.returns-in-Take-clause-spends
returns-in-Take-clause-spends c =
    let held = names_in c.args.rooms.now in
    let asked = rw c.end-in-Take.ensures at c.take.ensures.asked in
    spends_as held c.args.line.now c.args.names.now c.take.result c.requires (asked ∙ asked_is held c.args.line.now c.in-Take.is)

pub returns-in-Take-clause-prepared : goal.returns-in-Take-clause-prepared
returns-in-Take-clause-prepared c schema read = c.take.ensures.plain schema

pub returns-in-CloseEndpoint-clause-took : goal.returns-in-CloseEndpoint-clause-took
returns-in-CloseEndpoint-clause-took c =
    c.close_endpoint.ensures.bare c.args.names.now.one c.args.names.now.handles.items c.args.names.now.pendings.items c.args.rooms.now

pub returns-in-CloseEndpoint-clause-spends : goal.returns-in-CloseEndpoint-clause-spends
returns-in-CloseEndpoint-clause-spends c =
    let held = names_in c.args.rooms.now in
    let asked = rw c.end-in-CloseEndpoint.ensures at c.close_endpoint.ensures.asked in
    spends_as held c.args.line.now c.args.names.now c.close_endpoint.result c.requires (asked ∙ asked_is held c.args.line.now c.in-CloseEndpoint.is)

pub returns-in-CloseEndpoint-clause-prepared : goal.returns-in-CloseEndpoint-clause-prepared
returns-in-CloseEndpoint-clause-prepared c schema read = c.close_endpoint.ensures.plain schema

pub returns-in-Notify-clause-took : goal.returns-in-Notify-clause-took
returns-in-Notify-clause-took c =
    c.notify.ensures.bare c.args.names.now.one c.args.names.now.handles.items c.args.names.now.pendings.items c.args.rooms.now

pub returns-in-Notify-clause-spends : goal.returns-in-Notify-clause-spends
returns-in-Notify-clause-spends c =
    let held = names_in c.args.rooms.now in
    let asked = rw c.end-in-Notify.ensures at c.notify.ensures.asked in
    spends_as held c.args.line.now c.args.names.now c.notify.result c.requires (asked ∙ asked_is held c.args.line.now c.in-Notify.is)

pub returns-in-Notify-clause-prepared : goal.returns-in-Notify-clause-prepared
returns-in-Notify-clause-prepared c schema read = c.notify.ensures.plain schema

pub returns-in-Pause-clause-took : goal.returns-in-Pause-clause-took
returns-in-Pause-clause-took c =
    c.pause.ensures.bare c.args.names.now.one c.args.names.now.handles.items c.args.names.now.pendings.items c.args.rooms.now

pub returns-in-Pause-clause-spends : goal.returns-in-Pause-clause-spends
returns-in-Pause-clause-spends c =
    let held = names_in c.args.rooms.now in
    let asked = rw (c.end-end-in-Pause.ensures, c.end-in-Pause.ensures) at c.pause.ensures.asked in
    spends_as held c.args.line.now c.args.names.now c.pause.result c.requires (asked ∙ asked_is held c.args.line.now c.in-Pause.is)

pub returns-in-Pause-clause-prepared : goal.returns-in-Pause-clause-prepared
returns-in-Pause-clause-prepared c schema read = c.pause.ensures.plain schema

pub returns-in-Call-clause-asked : goal.returns-in-Call-clause-asked
returns-in-Call-clause-asked c =
    let asked = rw c.end-end.ensures at c.call.ensures.asked in
    IfOk-weaker c.call.result _ _ (λ command a. a ∙ called_is c.args.rooms.now c.args.names.now c.args.line.now c.requires c.in-Call.is) asked

pub returns-in-Call-clause-spends : goal.returns-in-Call-clause-spends
returns-in-Call-clause-spends c =
    let asked = rw c.end-end.ensures at c.call.ensures.asked in
    IfOk-weaker c.call.result _ _
    (λ command a.
    spends_as (names_in c.args.rooms.now) c.args.line.now c.args.names.now command c.requires
    (a ∙ called_is c.args.rooms.now c.args.names.now c.args.line.now c.requires c.in-Call.is))
    asked

pub returns-in-Answer-clause-asked : goal.returns-in-Answer-clause-asked
returns-in-Answer-clause-asked c =
    let asked = c.answer.ensures.asked in
    IfOk-weaker c.answer.result _ _ (λ command a. a ∙ answered_is c.args.rooms.now c.args.names.now c.args.line.now c.requires c.in-Answer.is) asked

pub returns-in-Answer-clause-spends : goal.returns-in-Answer-clause-spends
returns-in-Answer-clause-spends c =
    let asked = c.answer.ensures.asked in
    IfOk-weaker c.answer.result _ _
    (λ command a.
    spends_as (names_in c.args.rooms.now) c.args.line.now c.args.names.now command c.requires
    (a ∙ answered_is c.args.rooms.now c.args.names.now c.args.line.now c.requires c.in-Answer.is))
    asked

pub returns-in-Raw-clause-asked : goal.returns-in-Raw-clause-asked
returns-in-Raw-clause-asked c =
    let asked = c.raw.ensures.asked in
    IfOk-weaker c.raw.result _ _ (λ command a. a ∙ written_is c.args.rooms.now c.args.names.now c.args.line.now c.requires c.in-Raw.is) asked

pub returns-in-Raw-clause-spends : goal.returns-in-Raw-clause-spends
returns-in-Raw-clause-spends c =
    let asked = c.raw.ensures.asked in
    IfOk-weaker c.raw.result _ _
    (λ command a.
    spends_as (names_in c.args.rooms.now) c.args.line.now c.args.names.now command c.requires
    (a ∙ written_is c.args.rooms.now c.args.names.now c.args.line.now c.requires c.in-Raw.is))
    asked

pub returns-in-Data-clause-spends : goal.returns-in-Data-clause-spends
returns-in-Data-clause-spends c =
    let held = names_in c.args.rooms.now in
    spends_as held c.args.line.now c.args.names.now _ c.requires (asked_is held c.args.line.now c.in-Data.is)

pub returns-in-Flow-clause-asked : goal.returns-in-Flow-clause-asked
returns-in-Flow-clause-asked c =
    let asked = c.flow.ensures.asked in
    IfOk-weaker c.flow.result _ _ (λ command a. a ∙ asked_is (names_in c.args.rooms.now) c.args.line.now c.in-Flow.is) asked

pub returns-in-Flow-clause-took : goal.returns-in-Flow-clause-took
returns-in-Flow-clause-took c =
    let took = c.flow.ensures.took in
    let hs = c.args.names.now.handles.items in
    let ps = c.args.names.now.pendings.items in
    let named = c.requires.one ∙ ap needed c.in-Flow.is in
    IfOk-weaker c.flow.result _ _
    (λ command t. subst (λ (one : Option NameId). Took one hs ps command c.args.rooms.now c.flow.new.rooms) (sym named) (t hs ps)) took

pub returns-in-Flow-clause-spends : goal.returns-in-Flow-clause-spends
returns-in-Flow-clause-spends c =
    let asked = c.flow.ensures.asked in
    IfOk-weaker c.flow.result _ _
    (λ command a.
    spends_as (names_in c.args.rooms.now) c.args.line.now c.args.names.now command c.requires
    (a ∙ asked_is (names_in c.args.rooms.now) c.args.line.now c.in-Flow.is))
    asked

pub returns-in-Flow-clause-prepared : goal.returns-in-Flow-clause-prepared
returns-in-Flow-clause-prepared c =
    let plain = c.flow.ensures.plain in IfOk-weaker c.flow.result _ _ (λ command p schema read. p schema) plain
