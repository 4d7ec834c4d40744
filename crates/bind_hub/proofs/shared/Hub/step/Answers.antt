use Rattle.std.proofs.Common.{rules}
use Rattle.bind_hub.proofs.Stepping.{turned}
use Rattle.bind_hub.proofs.shared.Hub.step.Goals as goal

pub returns-clause-event : goal.returns-clause-event
returns-clause-event g c =
    let p = c.requires.pass in
    (turned c.args.self.now.turn.board.shared.key.0.value.core.schema c.args.self.now.turn.board.shared.key.0.value.core.seqs c.args.pass.now.number
    c.args.pass.now.place.me.0 c.with.new.pass.place.me.0 c.args.command c.with.result _ p.basis p.own (λ x z m. search rules) c.with.ensures.ran).0

pub returns-clause-refused : goal.returns-clause-refused
returns-clause-refused g c =
    let p = c.requires.pass in
    (turned c.args.self.now.turn.board.shared.key.0.value.core.schema c.args.self.now.turn.board.shared.key.0.value.core.seqs c.args.pass.now.number
    c.args.pass.now.place.me.0 c.with.new.pass.place.me.0 c.args.command c.with.result _ p.basis p.own (λ x z m. search rules) c.with.ensures.ran).1
