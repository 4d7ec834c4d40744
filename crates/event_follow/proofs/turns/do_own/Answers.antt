use Rattle.std.proofs.Common.{◌<◌, ap, refl, subst, sym, ◌∙◌}
use Rattle.std.specs.Option.{option_copied}
use Rattle.mj_base.specs.declared.ids.SeqId.{SeqId}
use Rattle.call_script.specs.Sound.{IsLine}
use Rattle.plain_names.specs.Held.{HasNames}
use Rattle.plain_names.specs.declared.named.PlainNames.{PlainNames}
use Rattle.event_follow.proofs.Turning.{come_same, line_mine, line_next, line_reads, no_line}
use Rattle.event_follow.proofs.turns.do_own.Goals as goal

pub do_line-requires-clause-seq : goal.do_line-requires-clause-seq
do_line-requires-clause-seq c =
    let come = c.requires.come in
    let is = sym (ap option_copied c.in-Some.is) ∙ c.next_line.ensures.line in
    let mine = line_mine c.args.schema.now c.args.script.now come.0 come.1 come.2 c.args.place.now come.4 c.requires.none c.in-Some.line.now is in
    subst (λ (q : SeqId). q.0 < c.args.script.now.seqs) (sym mine) come.3

pub do_line-requires-clause-line : goal.do_line-requires-clause-line
do_line-requires-clause-line c =
    let come = c.requires.come in
    let schema = c.args.schema.now in
    let script = c.args.script.now in
    let is = sym (ap option_copied c.in-Some.is) ∙ c.next_line.ensures.line in
    line_reads schema script come.0 come.1 come.2 c.args.place.now come.4 c.requires.none c.in-Some.line.now is
    (IsLine schema script.seqs script.names) c.requires.script.lines

pub do_line-requires-clause-names : goal.do_line-requires-clause-names
do_line-requires-clause-names c =
    let come = c.requires.come in
    subst (λ (n : PlainNames). HasNames c.args.script.now.names n) (sym c.next_line.ensures.names) come.4.names

pub returns-in-None : goal.returns-in-None
returns-in-None c = λ after_joins s own come.
    let schema = c.args.schema.now in
    let script = c.args.script.now in
    let place = c.args.place.now in
    let is = sym (ap option_copied c.in-None.is) ∙ c.next_line.ensures.line in
    record {
      none = no_line schema script after_joins s own place come c.requires.none is;
      same = refl;
      come =
          come_same schema script after_joins s own place c.next_line.new.self c.next_line.ensures.names c.next_line.ensures.lines
          (rw c.in-None.is at c.next_line.ensures.same) c.next_line.ensures.due come;
    }

pub returns-in_ok-do_line-in-Some : goal.returns-in_ok-do_line-in-Some
returns-in_ok-do_line-in-Some c = λ after_joins s own come.
    let is = sym (ap option_copied c.in-Some.is) ∙ c.next_line.ensures.line in
    let more = rw c.in-Some.is at c.next_line.ensures.done in
    line_next c.args.schema.now c.args.script.now after_joins s own c.args.place.now come c.requires.none c.in-Some.line.now is c.next_line.new.self
    c.do_line.new.place c.args.machine.now c.do_line.new.machine c.next_line.ensures.names c.in_ok-do_line-in-Some.ensures c.next_line.ensures.lines more
