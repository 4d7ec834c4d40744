use Rattle.std.proofs.Common.{rules, ◌≡◌, length, set, get_or}
use Rattle.std.proofs.lemmas.Option.{slice_get-get_or}
use Rattle.bind_hub.specs.Hubs.{schema_in, seqs_in}
use Rattle.bind_model.specs.declared.commands.Command.TheVariants as commands
use Rattle.threaded_run.proofs.Joined.{cut_is, full_at, joined, met_pass, set_all, set_pass, told_made}
use Rattle.threaded_run.proofs.Places.{got_set_here}
use Rattle.threaded_run.proofs.joining.join_one.Goals as goal

pub step-requires-clause-pass : goal.step-requires-clause-pass
step-requires-clause-pass g c =
    let passes = c.args.passes.now in
    let s = c.args.joint.seq.0 in
    (c.requires.passes s (get_or passes s c.index-passes-joint.result) (slice_get-get_or passes s c.index-passes-joint.result c.requires.within)).1

pub share-requires-clause-passes : goal.share-requires-clause-passes
share-requires-clause-passes g c k p got =
    let hub = c.args.hub.now in
    let passes = c.args.passes.now in
    let s = c.args.joint.seq.0 in
    (set_pass hub.turn.board.shared.table_id (schema_in hub) (seqs_in hub) s passes (get_or passes s c.index-passes-joint.result) c.step.new.pass
    (slice_get-get_or passes s c.index-passes-joint.result c.requires.within) c.requires.passes c.step.ensures.number c.step.ensures.pass k p got).1

pub cut_of-requires : goal.cut_of-requires
cut_of-requires g c = record { joins = (c.args.joint.other, c.in-Err.ensures.refused.waited.back) }

pub returns-in-Ok-clause-passes : goal.returns-in-Ok-clause-passes
returns-in-Ok-clause-passes g c k q got =
    let hub = c.args.hub.now in
    let passes = c.args.passes.now in
    let s = c.args.joint.seq.0 in
    let one = c.step.new.pass in
    met_pass hub.turn.board.shared.table_id (schema_in hub) (seqs_in hub) one.place.me.0.seen (set passes s one) c.share.new.passes c.share.ensures.len
    (λ k p h. (set_pass hub.turn.board.shared.table_id (schema_in hub) (seqs_in hub) s passes (get_or passes s c.index-passes-joint.result) one
    (slice_get-get_or passes s c.index-passes-joint.result c.requires.within) c.requires.passes c.step.ensures.number c.step.ensures.pass k p h).0)
    (λ k p h. c.share.ensures.each k p one (got_set_here passes s one c.requires.within) h) k q got

pub returns-in-Err-clause-passes : goal.returns-in-Err-clause-passes
returns-in-Err-clause-passes g c k q got =
    let hub = c.args.hub.now in
    let passes = c.args.passes.now in
    let s = c.args.joint.seq.0 in
    set_pass hub.turn.board.shared.table_id (schema_in hub) (seqs_in hub) s passes (get_or passes s c.index-passes-joint.result) c.step.new.pass
    (slice_get-get_or passes s c.index-passes-joint.result c.requires.within) c.requires.passes c.step.ensures.number c.step.ensures.pass k q got

pub returns-in-Ok-clause-made : goal.returns-in-Ok-clause-made
returns-in-Ok-clause-made g c =
    let hub = c.args.hub.now in
    let first = get_or c.args.passes.now c.args.joint.seq.0 c.index-passes-joint.result in
    told_made (schema_in hub) (seqs_in hub) first.number first.place.me.0 c.step.new.pass.place.me.0 c.args.joint.other c.in-Ok.reply c.requires.other
    c.in-Ok.ensures.event

pub returns-in-Ok-clause-joined : goal.returns-in-Ok-clause-joined
returns-in-Ok-clause-joined g c joins have =
    let hub = c.args.hub.now in
    let passes = c.args.passes.now in
    let s = c.args.joint.seq.0 in
    let first = get_or passes s c.index-passes-joint.result in
    let one = c.step.new.pass in
    let after = c.share.new.passes in
    let len : length after ≡ length passes = search rules in
    joined hub.turn.board.shared.table_id (schema_in hub) (seqs_in hub) c.args.joint joins passes after first one c.in-Ok.reply c.requires.count len
    (slice_get-get_or passes s c.index-passes-joint.result c.requires.within) c.requires.other have c.in-Ok.ensures.event c.step.ensures.number
    c.step.ensures.pass (λ k p got. c.share.ensures.each k p one (got_set_here passes s one c.requires.within) got)

pub returns-in-Err-clause-stands : goal.returns-in-Err-clause-stands
returns-in-Err-clause-stands g c joins have =
    let hub = c.args.hub.now in
    let passes = c.args.passes.now in
    let s = c.args.joint.seq.0 in
    set_all hub.turn.board.shared.table_id (schema_in hub) (seqs_in hub) s joins passes (get_or passes s c.index-passes-joint.result) c.step.new.pass
    (commands.Join c.args.joint.other) c.in-Err.refused (slice_get-get_or passes s c.index-passes-joint.result c.requires.within) have
    c.in-Err.ensures.refused c.step.ensures.number c.step.ensures.pass

pub returns-in-Err-clause-full : goal.returns-in-Err-clause-full
returns-in-Err-clause-full g c spent =
    let hub = c.args.hub.now in
    let passes = c.args.passes.now in
    let s = c.args.joint.seq.0 in
    full_at (schema_in hub) (seqs_in hub) s passes (get_or passes s c.index-passes-joint.result) c.step.new.pass (commands.Join c.args.joint.other)
    c.in-Err.refused c.cut_of.result c.requires.within c.in-Err.ensures.refused c.cut_of.ensures (cut_is c.cut_of.result _ spent)
