use Rattle.std.proofs.Common.{◌≡◌, List, ap, refl, subst, sym, ◌∙◌}
use Rattle.handle_table.specs.declared.places.Place.TheVariants as places
use Rattle.handle_table.specs.declared.thing.Thing.{Thing}
use Rattle.bind_model.specs.declared.asked.Outgoing.{Outgoing}
use Rattle.bind_model.specs.declared.commands.Reply.TheVariants as replies
use Rattle.bind_model.specs.declared.endpoint.PendingId.{PendingId}
use Rattle.core_sending.specs.declared.carried.CarriedNames.{CarriedNames}
use Rattle.core_sending.specs.Answering.{command_of}
use Rattle.core_state.specs.Placing.{PutsAll}
use Rattle.core_state.specs.steps.Spends.{SpendsAll}
use Rattle.core_sending.proofs.Replied.{answer_done, spendable, there}
use Rattle.event_tables.specs.AsCore.{state_of}
use Rattle.event_tables.proofs.Sent.{answer_asked, answer_free, answer_ids, answer_wanted, can_answer, named, response}
use Rattle.event_tables.proofs.Stepping.{steps_as, steps_of}
use Rattle.event_tables.proofs.answering.send.Goals as goal

pub writes_of-requires-clause-wanted : goal.writes_of-requires-clause-wanted
writes_of-requires-clause-wanted c =
    answer_wanted (state_of c.args.tables.now) c.args.seq c.requires.able c.args.id c.args.prepared.now c.args.names c.args.moment c.requires.prepared
    c.args.peer c.requires.free

pub writes_of-requires-clause-ids : goal.writes_of-requires-clause-ids
writes_of-requires-clause-ids c =
    answer_ids (state_of c.args.tables.now) c.args.seq c.requires.able c.args.id c.args.prepared.now c.args.names c.args.moment c.requires.prepared
    c.args.peer c.requires.free

pub put_message-requires : goal.put_message-requires
put_message-requires c =
    let s = state_of c.args.tables.now in
    there s c.args.seq (response s c.args.seq c.requires.able c.args.id c.args.prepared.now c.args.names c.args.moment c.requires.prepared)
    (can_answer s c.args.seq c.requires.able c.args.id c.args.prepared.now c.args.names c.args.moment c.requires.prepared) c.args.peer
    (answer_free s c.args.seq c.requires.able c.args.id c.args.prepared.now c.args.names c.args.moment c.requires.prepared c.args.peer c.requires.free)

pub remove-requires : goal.remove-requires
remove-requires c =
    let s = state_of c.args.tables.now in
    spendable s c.args.seq (response s c.args.seq c.requires.able c.args.id c.args.prepared.now c.args.names c.args.moment c.requires.prepared)
    (can_answer s c.args.seq c.requires.able c.args.id c.args.prepared.now c.args.names c.args.moment c.requires.prepared) c.args.peer
    (answer_free s c.args.seq c.requires.able c.args.id c.args.prepared.now c.args.names c.args.moment c.requires.prepared c.args.peer c.requires.free)

pub returns : goal.returns
returns c =
    let s = state_of c.args.tables.now in
    let ns = c.args.names in
    let writes = c.in_ok-writes.writes in
    let are = c.in_ok-writes.ensures in
    let r = response s c.args.seq c.requires.able c.args.id c.args.prepared.now ns c.args.moment c.requires.prepared in
    let can = can_answer s c.args.seq c.requires.able c.args.id c.args.prepared.now ns c.args.moment c.requires.prepared in
    let free = answer_free s c.args.seq c.requires.able c.args.id c.args.prepared.now ns c.args.moment c.requires.prepared c.args.peer c.requires.free in
    let things : c.as_slice.result.now ≡ ns.things = c.as_slice.ensures ∙ ap (λ (o : Outgoing). o.handles) (c.get-sent.ensures ∙ are.outgoing) in
    let pendings : c.as_slice-2.result.now ≡ ns.pendings = c.as_slice-2.ensures ∙ ap (λ (o : Outgoing). o.pendings) (c.get-sent.ensures ∙ are.outgoing) in
    let spent : SpendsAll ns.pendings s.rights.pendings c.remove_all.new.table =
    subst (λ (ps : List PendingId). SpendsAll ps s.rights.pendings c.remove_all.new.table) pendings c.remove_all.ensures in
    steps_as s _ c.args.seq _ _ (answer_asked s c.args.seq c.requires.able c.args.id c.args.prepared.now ns c.args.moment c.requires.prepared)
    (steps_of s _ c.args.seq (command_of r) (replies.Sent c.args.id.request writes.told)
    (answer_done s c.args.seq r can c.args.peer free _ refl refl refl refl ns writes c.put_message.new.pipes (sym (named ns)) are
    c.in_ok-put_message.ensures
    (subst (λ (zs : List Thing). PutsAll zs (places.Unread c.args.peer) c.put_message.new.pipes c.put_all.new.pipes) things c.put_all.ensures)
    (subst (λ (ms : CarriedNames). SpendsAll ms.pendings s.rights.pendings c.remove_all.new.table) (sym (named ns)) spent)
    c.remove.ensures c.push_reserved.ensures.events))
