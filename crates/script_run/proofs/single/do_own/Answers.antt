use Rattle.std.proofs.Common.{◌<◌, ℕ, List, length, refl, sym, ap, ◌∙◌, subst}
use Rattle.std.specs.Option.{option_copied}
use Rattle.mj_base.specs.declared.ids.SeqId.{SeqId}
use Rattle.mj_schema.specs.declared.schema.Schema.{Schema}
use Rattle.call_script.specs.Sound.{IsLine}
use Rattle.call_script.specs.declared.script.AutoReply.{AutoReply}
use Rattle.script_names.specs.Held.{HaveNames, names_in}
use Rattle.script_run.specs.steps.Following.{DidAlone}
use Rattle.script_run.proofs.OneEvent.{come_same, line_mine, line_next, line_reads, no_line, went_on}
use Rattle.script_run.proofs.single.do_own.Goals as goal

pub do_alone-requires-clause-seq : goal.do_alone-requires-clause-seq
do_alone-requires-clause-seq c =
    let come = c.requires.come.2 in
    let is = sym (ap option_copied c.in-Some.is) ∙ c.next_line.ensures.line in
    let mine = line_mine c.args.schema.now c.args.script.now c.requires.come.0 c.args.seq c.requires.come.1 c.args.room.now c.args.agenda.now come
    c.requires.none c.in-Some.line.now is in
    subst (λ (n : ℕ). c.in-Some.line.now.seq.0 < n) (sym c.requires.core.seqs)
    (subst (λ (q : SeqId). q.0 < c.args.script.now.seqs) (sym mine) c.requires.seq)

pub do_alone-requires-clause-line : goal.do_alone-requires-clause-line
do_alone-requires-clause-line c =
    let come = c.requires.come.2 in
    let schema = c.args.schema.now in
    let script = c.args.script.now in
    let line = c.in-Some.line.now in
    let size : ℕ = length c.args.room.now.stands.things.items in
    let is = sym (ap option_copied c.in-Some.is) ∙ c.next_line.ensures.line in
    let reads = line_reads schema script c.requires.come.0 c.args.seq c.requires.come.1 c.args.room.now c.args.agenda.now come c.requires.none line is
    (IsLine schema script.seqs script.names) c.requires.script.lines in
    subst (λ (x : Schema). IsLine x c.args.core.seqs size line) (sym c.requires.core.schema)
    (subst (λ (n : ℕ). IsLine schema n size line) (sym c.requires.core.seqs)
    (subst (λ (n : ℕ). IsLine schema script.seqs n line) (sym come.names.stands) reads))

pub do_alone-requires-clause-names : goal.do_alone-requires-clause-names
do_alone-requires-clause-names c =
    let come = c.requires.come.2 in
    subst (λ (n : ℕ). HaveNames n c.args.room.now) (sym come.names.stands) come.names

pub returns-in-None-clause-did : goal.returns-in-None-clause-did
returns-in-None-clause-did c = λ after_joins own come.
    let schema = c.args.schema.now in
    let script = c.args.script.now in
    let is = sym (ap option_copied c.in-None.is) ∙ c.next_line.ensures.line in
    record {
      none = no_line schema script after_joins c.args.seq own c.args.room.now c.args.agenda.now come c.requires.none is;
      core = refl;
      rests = c.requires.rested;
      come =
          come_same schema script after_joins c.args.seq own c.args.room.now c.args.agenda.now c.next_line.new.self c.next_line.ensures.lines
          (rw c.in-None.is at c.next_line.ensures.same) c.next_line.ensures.due come;
    }

pub returns-in-Some-clause-did : goal.returns-in-Some-clause-did
returns-in-Some-clause-did c =
    let schema = c.args.schema.now in
    let script = c.args.script.now in
    let line = c.in-Some.line.now in
    let room = c.args.room.now in
    let agenda = c.args.agenda.now in
    let after = c.do_alone.result.0 in
    let later = c.do_alone.new.room in
    let plan = c.do_alone.new.agenda in
    let is = sym (ap option_copied c.in-Some.is) ∙ c.next_line.ensures.line in
    let more = rw c.in-Some.is at c.next_line.ensures.done in
    went_on c.do_alone.result.1 _ _ _ _ _ c.do_alone.ensures.did c.do_alone.ensures.have c.do_alone.ensures.lines c.do_alone.ensures.done
    c.do_alone.ensures.goes
    (λ did have lines done. λ after_joins own come.
    line_next schema script after_joins c.args.seq own room agenda come c.requires.none line is c.args.core after c.do_alone.new.rests
    c.requires.core.schema later plan
    (subst (λ (all : List AutoReply). DidAlone all line (option_copied plan.due) c.args.core after c.do_alone.new.rests (names_in room) (names_in later)
    later.responders.others.items) c.as_slice-autos.ensures did)
    (lines ∙ c.next_line.ensures.lines) (done ∙ more)
    (subst (λ (n : ℕ). HaveNames n later) come.names.stands have))
