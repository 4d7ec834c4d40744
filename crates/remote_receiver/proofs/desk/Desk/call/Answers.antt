use Rattle.std.proofs.Common.{◌∙◌, ap, subst, sym}
use Rattle.remote_receiver.specs.Held.{kept_of}
use Rattle.remote_receiver.specs.Notes.{Kept}
use Rattle.remote_receiver.specs.Waits.{AreDrawn}
use Rattle.remote_receiver.proofs.Drawing.{absent_yet, drawn_kept, is_answered, only_two, sent_counted}
use Rattle.remote_receiver.proofs.Following.{called}
use Rattle.remote_receiver.proofs.desk.Desk.call.Goals as goal

pub keep-requires-clause-absent : goal.keep-requires-clause-absent
keep-requires-clause-absent g c =
    let s = c.args.self.now.stepper in
    let saw = rw c.in-Sent.is at c.in-Ok.ensures.event in
    let same = ap kept_of c.in-Ok.ensures.jobs ∙ c.reserve.ensures.same in
    let drawn = subst (λ (k : Kept g.row.C.Denot). AreDrawn (g.P.Stepper.seen s) k.waiting) (sym same) c.args.self.now.drawn in
    absent_yet (g.P.Stepper.schema s) (g.P.Stepper.seqs s) (g.P.Stepper.alone s) (g.P.Stepper.me s) (g.P.Stepper.seen s)
    (g.P.Stepper.seen c.advance.new.self.stepper) c.args.end c.args.id c.args.prepared c.args.handles c.args.pendings c.args.moment
    c.advance.new.self.jobs.waiting.callbacks c.in-Sent.request c.in-Sent.bytes c.args.job saw c.requires.job drawn

pub invariant_of-self-in-Sent : goal.invariant_of-self-in-Sent
invariant_of-self-in-Sent g c =
    let s = c.args.self.now.stepper in
    let now = g.P.Stepper.seen c.advance.new.self.stepper in
    let saw = rw c.in-Sent.is at c.in-Ok.ensures.event in
    let few = sent_counted (g.P.Stepper.schema s) (g.P.Stepper.seqs s) (g.P.Stepper.alone s) (g.P.Stepper.me s) (g.P.Stepper.seen s) now
    c.args.end c.args.id c.args.prepared c.args.handles c.args.pendings c.args.moment c.in-Sent.request c.in-Sent.bytes saw in
    record {
      drawn = drawn_kept now (kept_of c.advance.new.self.jobs) (kept_of c.keep.new.self)
          (record { end = c.args.end; id = c.args.id; request = c.in-Sent.request }) c.args.job c.keep.ensures few c.advance.new.self.drawn;
    }

pub unreachable-requires : goal.unreachable-requires
unreachable-requires g c =
    let s = c.args.self.now.stepper in
    only_two c.in-Ok.reply
    (is_answered (g.P.Stepper.schema s) (g.P.Stepper.seqs s) (g.P.Stepper.alone s) (g.P.Stepper.me s) (g.P.Stepper.seen s)
    (g.P.Stepper.seen c.advance.new.self.stepper) c.args.end c.args.id c.args.prepared c.args.handles c.args.pendings c.args.moment
    c.in-Ok.reply c.in-Ok.ensures.event) c.in_default.not-Sent c.in_default.not-No

pub returns-in-Sent-clause-kept : goal.returns-in-Sent-clause-kept
returns-in-Sent-clause-kept g c =
    let s = c.args.self.now.stepper in
    let saw = rw c.in-Sent.is at c.in-Ok.ensures.event in
    let same = ap kept_of c.in-Ok.ensures.jobs ∙ c.reserve.ensures.same in
    let drawn = subst (λ (k : Kept g.row.C.Denot). AreDrawn (g.P.Stepper.seen s) k.waiting) (sym same) c.args.self.now.drawn in
    let absent = absent_yet (g.P.Stepper.schema s) (g.P.Stepper.seqs s) (g.P.Stepper.alone s) (g.P.Stepper.me s) (g.P.Stepper.seen s)
    (g.P.Stepper.seen c.advance.new.self.stepper) c.args.end c.args.id c.args.prepared c.args.handles c.args.pendings c.args.moment
    c.advance.new.self.jobs.waiting.callbacks c.in-Sent.request c.in-Sent.bytes c.args.job saw c.requires.job drawn in
    called g.C.Promise.promises c.args.end c.args.id c.args.prepared c.args.handles c.args.pendings c.args.moment c.in-Sent.request c.in-Sent.bytes c.args.job
    (kept_of c.args.self.now.jobs) (kept_of c.advance.new.self.jobs) (kept_of c.keep.new.self) same absent c.keep.ensures
