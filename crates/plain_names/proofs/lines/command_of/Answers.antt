use Rattle.std.proofs.Common.{◌∙◌, refl}
use Rattle.std.proofs.lemmas.Result.{IfOk-weaker}
use Rattle.plain_names.specs.Held.{SameNames, named_in}
use Rattle.plain_names.proofs.Sending.{answered_is, asked_is, called_is, written_is}
use Rattle.plain_names.proofs.lines.command_of.Goals as goal

pub returns-in-Call-clause-asked : goal.returns-in-Call-clause-asked
returns-in-Call-clause-asked c =
    let asked = rw c.end-end.ensures at c.call.ensures.asked in
    IfOk-weaker c.call.result _ _ (λ command a. a ∙ called_is c.args.names.now c.args.lists.now c.args.line.now c.requires c.in-Call.is) asked

pub returns-in-Answer-clause-asked : goal.returns-in-Answer-clause-asked
returns-in-Answer-clause-asked c =
    let asked = c.answer.ensures.asked in
    IfOk-weaker c.answer.result _ _ (λ command a. a ∙ answered_is c.args.names.now c.args.lists.now c.args.line.now c.requires c.in-Answer.is) asked

pub returns-in-Raw-clause-asked : goal.returns-in-Raw-clause-asked
returns-in-Raw-clause-asked c =
    let asked = c.raw.ensures.asked in
    IfOk-weaker c.raw.result _ _ (λ command a. a ∙ written_is c.args.names.now c.args.lists.now c.args.line.now c.requires c.in-Raw.is) asked

pub returns-in-Raw-clause-prepared : goal.returns-in-Raw-clause-prepared
returns-in-Raw-clause-prepared c = let plain = c.raw.ensures.plain in IfOk-weaker c.raw.result _ _ (λ command p schema read. p schema) plain

pub returns-in-Flow-clause-asked : goal.returns-in-Flow-clause-asked
returns-in-Flow-clause-asked c =
    let asked = c.flow.ensures.asked in
    IfOk-weaker c.flow.result _ _ (λ command a. a ∙ asked_is (named_in c.args.names.now) c.args.line.now c.in-Flow.is) asked

pub returns-in-Flow-clause-same : goal.returns-in-Flow-clause-same
returns-in-Flow-clause-same c =
    let asked = c.flow.ensures.asked in
    let same : SameNames c.args.names.now c.args.names.now = record { stands = refl; handles = refl; pendings = refl; responders = refl } in
    IfOk-weaker c.flow.result _ _ (λ command a. same) asked

pub returns-in-Flow-clause-prepared : goal.returns-in-Flow-clause-prepared
returns-in-Flow-clause-prepared c = let plain = c.flow.ensures.plain in IfOk-weaker c.flow.result _ _ (λ command p schema read. p schema) plain

pub returns-in-Bind-clause-prepared : goal.returns-in-Bind-clause-prepared
returns-in-Bind-clause-prepared c schema read = c.bind.ensures.plain schema

pub returns-in-Attach-clause-prepared : goal.returns-in-Attach-clause-prepared
returns-in-Attach-clause-prepared c schema read = c.attach.ensures.plain schema

pub returns-in-CloseToken-clause-prepared : goal.returns-in-CloseToken-clause-prepared
returns-in-CloseToken-clause-prepared c schema read = c.close.ensures.plain schema

pub returns-in-Associate-clause-prepared : goal.returns-in-Associate-clause-prepared
returns-in-Associate-clause-prepared c schema read = c.associate.ensures.plain schema

pub returns-in-Take-clause-prepared : goal.returns-in-Take-clause-prepared
returns-in-Take-clause-prepared c schema read = c.take.ensures.plain schema

pub returns-in-CloseEndpoint-clause-prepared : goal.returns-in-CloseEndpoint-clause-prepared
returns-in-CloseEndpoint-clause-prepared c schema read = c.close_endpoint.ensures.plain schema

pub returns-in-Notify-clause-prepared : goal.returns-in-Notify-clause-prepared
returns-in-Notify-clause-prepared c schema read = c.notify.ensures.plain schema

pub returns-in-Pause-clause-prepared : goal.returns-in-Pause-clause-prepared
returns-in-Pause-clause-prepared c schema read = c.pause.ensures.plain schema
