use Rattle.std.proofs.Common.{rules, ◌≡◌, [], length, ap, arith}
use Rattle.threaded_run.proofs.Places.{empty_of, if_none_of}
use Rattle.threaded_run.proofs.crew.Crew.take_last.Goals as goal

pub returns-in_err-pass-clause-none : goal.returns-in_err-pass-clause-none
returns-in_err-pass-clause-none c =
    let self = c.args.self.now in
    let none : self.passes.items ≡ [] = search rules in
    let all : (self.passes.items ≡ []) × (c.pop.new.self.items ≡ []) × (self.rests.items ≡ []) × (self.rooms.items ≡ []) = (
      none,
      search rules,
      empty_of self.rests.items (omega (arith, c.requires.counts.0, ap length none)),
      empty_of self.rooms.items (omega (arith, c.requires.counts.1, ap length none)),
    ) in
    if_none_of c.from_residual.result _ all
